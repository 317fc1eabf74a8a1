-- What an instruction finds on harts that are alike: words, CSRs and answers of ports that are alike.
use Rattle.std.proofs.Common.{◌≡◌, ℕ, Option, Some, None, is_none, refl, subst, ap, ◌∙◌}
use Rattle.isa_model.specs.declared.instr.LoadKind.{LoadKind}
use Rattle.isa_model.specs.declared.instr.LoadKind.TheVariants as loads
use Rattle.isa_model.specs.declared.instr.StoreKind.{StoreKind}
use Rattle.isa_model.specs.declared.instr.StoreKind.TheVariants as stores
use Rattle.isa_model.specs.declared.latch.Latch.TheVariants.{Mem}
use Rattle.isa_model.specs.Bits.{word_address}
use Rattle.hart_model.specs.declared.place.Place.{Place}
use Rattle.hart_model.specs.declared.port.Port.{Port}
use Rattle.hart_model.specs.declared.port.Port.TheVariants.{Fault}
use Rattle.hart_model.specs.declared.tag.Cell.{Cell}
use Rattle.hart_model.specs.declared.tag.Mode.{Mode}
use Rattle.hart_model.specs.declared.tag.Mode.TheVariants.{User, Machine}
use Rattle.hart_model.specs.Cells.{Bases, blank, place_of}
use Rattle.hart_model.specs.Csrs.{csr_cell}
use Rattle.hart_model.specs.Context.{ContextState}
use Rattle.hart_model.specs.Ports.{Nothing, PortAnswer, Passes, AsksQueue, Refuses, port_at, port_load, port_store}
use Rattle.hart_model.specs.HartState.{HartState}
use Rattle.hart_model.specs.MachineStep.{Reach, Finds, NeedsQueue, Refused, machine_bases, Target, AtPlace, AtPort, Nowhere, place_or_port, target_of, load_reach, store_reach, load_by_port, store_by_port, csr_reach, enters_nothing}
use Rattle.core_model.specs.AlikeHarts.{AreCellsAlike, AreHeldAlike, AreHartsAlike}
use Rattle.noninterference.specs.AlikeSteps.{SameNumber}
use Rattle.hart_model.proofs.WedgesExactly.{place_or_port_is}
use Rattle.noninterference.proofs.CellsAlike.{cell-refl}
use Rattle.noninterference.proofs.CellsHarts.{cell-alike, machine-bases-alike}
use Rattle.noninterference.proofs.MachineRows.{AreOptionsAlike}
use Rattle.noninterference.proofs.MachineCsrs.{AreReadAlike, csr-cell-alike}
use Rattle.noninterference.proofs.MachinePorts.{AreSidesAlike, AreAnswersAlike, port-load-alike, port-store-alike}

abbrev pub AreBothReach : Reach → Reach → Type 0
AreBothReach (Finds word old side) (Finds found read effect) = AreOptionsAlike word found × AreCellsAlike old read × AreSidesAlike side effect
AreBothReach (NeedsQueue call word) (NeedsQueue wanted found) = (call ≡ wanted) × AreOptionsAlike word found
AreBothReach Refused Refused = Unit {0}
AreBothReach reach other = ⊥

-- two instructions find the same, or what is alike
pub record AreReachAlike (r s : Reach) : Type 0 where
  pub both : AreBothReach r s

pub refused-reach : AreReachAlike Refused Refused
refused-reach = record { both = tt }

pub nothing-reach : AreReachAlike (Finds None blank Nothing) (Finds None blank Nothing)
nothing-reach = record { both = (tt, cell-refl blank, tt) }

-- an address is the same place or port to both
pub targets-alike : (x y : Option ContextState) (at to : ℕ) → AreHeldAlike x y → at ≡ to → target_of x at ≡ target_of y to
targets-alike x y at to a e =
    let bases = machine-bases-alike x y a in
    let first : target_of x at ≡ target_of y at = ap (λ (b : Bases). place_or_port (place_of b (Mem (word_address at))) (port_at at)) bases in
    first ∙ ap (λ (z : ℕ). target_of y z) e

load-answer : (x y : PortAnswer) → AreAnswersAlike x y → AreReachAlike (load_by_port x) (load_by_port y)
load-answer (Passes c side) (Passes d other) a = record { both = (a.both.0, cell-refl blank, a.both.1) }
load-answer (AsksQueue call) (AsksQueue wanted) a = record { both = (a.both, tt) }
load-answer Refuses Refuses a = refused-reach
load-answer (Passes c side) (AsksQueue wanted) a = absurd a.both
load-answer (Passes c side) Refuses a = absurd a.both
load-answer (AsksQueue call) (Passes d other) a = absurd a.both
load-answer (AsksQueue call) Refuses a = absurd a.both
load-answer Refuses (Passes d other) a = absurd a.both
load-answer Refuses (AsksQueue wanted) a = absurd a.both

store-answer : (b d : Cell) (x y : PortAnswer) → AreCellsAlike b d → AreAnswersAlike x y → AreReachAlike (store_by_port b x) (store_by_port d y)
store-answer b d (Passes c side) (Passes e other) s a = record { both = (a.both.0, cell-refl blank, a.both.1) }
store-answer b d (AsksQueue call) (AsksQueue wanted) s a = record { both = (a.both, s) }
store-answer b d Refuses Refuses s a = refused-reach
store-answer b d (Passes c side) (AsksQueue wanted) s a = absurd a.both
store-answer b d (Passes c side) Refuses s a = absurd a.both
store-answer b d (AsksQueue call) (Passes e other) s a = absurd a.both
store-answer b d (AsksQueue call) Refuses s a = absurd a.both
store-answer b d Refuses (Passes e other) s a = absurd a.both
store-answer b d Refuses (AsksQueue wanted) s a = absurd a.both

module _ (h g : HartState) (a : AreHartsAlike h g) where
  -- a load
  load-port-reach : (kind : LoadKind) (port : Port) → AreReachAlike (load_reach h kind (AtPort port)) (load_reach g kind (AtPort port))
  load-port-reach loads.W port = load-answer (port_load port h.held) (port_load port g.held) (port-load-alike port h.held g.held a.held)
  load-port-reach loads.B port = refused-reach
  load-port-reach loads.H port = refused-reach
  load-port-reach loads.Bu port = refused-reach
  load-port-reach loads.Hu port = refused-reach

  load-word-reach : (kind : LoadKind) (place : Place) → AreReachAlike (load_reach h kind (AtPlace place)) (load_reach g kind (AtPlace place))
  load-word-reach loads.W place = record { both = (cell-alike h g place a, cell-refl blank, tt) }
  load-word-reach loads.B place = record { both = (cell-alike h g place a, cell-refl blank, tt) }
  load-word-reach loads.H place = record { both = (cell-alike h g place a, cell-refl blank, tt) }
  load-word-reach loads.Bu place = record { both = (cell-alike h g place a, cell-refl blank, tt) }
  load-word-reach loads.Hu place = record { both = (cell-alike h g place a, cell-refl blank, tt) }

  load-nowhere : (kind : LoadKind) → AreReachAlike (load_reach h kind Nowhere) (load_reach g kind Nowhere)
  load-nowhere loads.W = refused-reach
  load-nowhere loads.B = refused-reach
  load-nowhere loads.H = refused-reach
  load-nowhere loads.Bu = refused-reach
  load-nowhere loads.Hu = refused-reach

  load-target-reach : (kind : LoadKind) (target : Target) → AreReachAlike (load_reach h kind target) (load_reach g kind target)
  load-target-reach kind (AtPlace place) = load-word-reach kind place
  load-target-reach kind (AtPort port) = load-port-reach kind port
  load-target-reach kind Nowhere = load-nowhere kind

  pub load-reach-alike : (kind : LoadKind) (at to : ℕ) → at ≡ to
      → AreReachAlike (load_reach h kind (target_of h.held at)) (load_reach g kind (target_of g.held to))
  load-reach-alike kind at to e =
      let P : Target → Type 0 = λ t. AreReachAlike (load_reach h kind (target_of h.held at)) (load_reach g kind t) in
      subst P (targets-alike h.held g.held at to a.held e) (load-target-reach kind (target_of h.held at))

  -- a store
  module _ (b d : Cell) (s : AreCellsAlike b d) where
    store-port-reach : (kind : StoreKind) (port : Port) → (port ≡ Fault → b.value ≡ 0x102 → SameNumber h.held g.held)
        → AreReachAlike (store_reach h kind b (AtPort port)) (store_reach g kind d (AtPort port))
    store-port-reach stores.W port f =
        store-answer b d (port_store port b h.held) (port_store port d g.held) s (port-store-alike port b d h.held g.held a.held s f)
    store-port-reach stores.B port f = refused-reach
    store-port-reach stores.H port f = refused-reach

    store-word-reach : (kind : StoreKind) (place : Place) → AreReachAlike (store_reach h kind b (AtPlace place)) (store_reach g kind d (AtPlace place))
    store-word-reach stores.W place = record { both = (cell-alike h g place a, cell-refl blank, tt) }
    store-word-reach stores.B place = record { both = (cell-alike h g place a, cell-refl blank, tt) }
    store-word-reach stores.H place = record { both = (cell-alike h g place a, cell-refl blank, tt) }

    store-nowhere : (kind : StoreKind) → AreReachAlike (store_reach h kind b Nowhere) (store_reach g kind d Nowhere)
    store-nowhere stores.W = refused-reach
    store-nowhere stores.B = refused-reach
    store-nowhere stores.H = refused-reach

    store-target-reach : (kind : StoreKind) (target : Target) → (target ≡ AtPort Fault → b.value ≡ 0x102 → SameNumber h.held g.held)
        → AreReachAlike (store_reach h kind b target) (store_reach g kind d target)
    store-target-reach kind (AtPlace place) f = store-word-reach kind place
    store-target-reach kind (AtPort port) f = store-port-reach kind port (λ e. f (ap (λ (p : Port). AtPort p) e))
    store-target-reach kind Nowhere f = store-nowhere kind

    pub store-reach-alike : (kind : StoreKind) (at to : ℕ) → at ≡ to → (port_at at ≡ Some Fault → b.value ≡ 0x102 → SameNumber h.held g.held)
        → AreReachAlike (store_reach h kind b (target_of h.held at)) (store_reach g kind d (target_of g.held to))
    store-reach-alike kind at to e f =
        let P : Target → Type 0 = λ t. AreReachAlike (store_reach h kind b (target_of h.held at)) (store_reach g kind d t) in
        subst P (targets-alike h.held g.held at to a.held e) (store-target-reach kind (target_of h.held at)
        (λ is. f (place_or_port_is (place_of (machine_bases h.held) (Mem (word_address at))) (port_at at) Fault is)))

  -- a CSR
  read-reach : (x y : Option Cell) → AreReadAlike x y → AreReachAlike (csr_reach x) (csr_reach y)
  read-reach None None s = refused-reach
  read-reach None (Some d) s = absurd s.both
  read-reach (Some c) None s = absurd s.both
  read-reach (Some c) (Some d) s = record { both = (tt, s.both, tt) }

  pub csr-reach-alike : (csr : ℕ) → AreReachAlike (csr_reach (csr_cell h.csrs csr)) (csr_reach (csr_cell g.csrs csr))
  csr-reach-alike csr = read-reach (csr_cell h.csrs csr) (csr_cell g.csrs csr) (csr-cell-alike h.csrs g.csrs a.csrs csr)

-- whether nothing is held, and whether the return from a trap is refused by it
held-none : (x y : Option ContextState) → AreHeldAlike x y → is_none x ≡ is_none y
held-none None None a = refl
held-none None (Some d) a = absurd a
held-none (Some c) None a = absurd a
held-none (Some c) (Some d) a = refl

pub enters-alike : (m n : Mode) (x y : Option ContextState) → m ≡ n → AreHeldAlike x y → enters_nothing m x ≡ enters_nothing n y
enters-alike User User x y e a = held-none x y a
enters-alike User Machine x y e a = absurd (cc e)
enters-alike Machine User x y e a = absurd (cc e)
enters-alike Machine Machine x y e a = refl
