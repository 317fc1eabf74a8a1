-- The steps of a hart so far, and the rest of its own steps up to the action that it reaches.
use Rattle.std.proofs.Common.{◌≡◌, ℕ, zero, suc, ◌+◌, ◌≤◌, ◌<◌, List, [], ◌++◌, length, ◌⊎◌, inl, inr, Bool, true, false, Option, Some, None, refl, sym, ap, ◌∙◌, subst, arith, append_assoc, append-nil, length-append}
use Rattle.hart_model.specs.declared.calls.Did.{Did}
use Rattle.hart_model.specs.declared.calls.Did.TheVariants as dids
use Rattle.hart_model.specs.declared.calls.QueueCall.{QueueCall}
use Rattle.hart_model.specs.declared.calls.QueueCall.TheVariants.{Take, GiveReady, GiveDone}
use Rattle.hart_model.specs.declared.probe.Probe.{Probe}
use Rattle.hart_model.specs.HartState.{HartState}
use Rattle.hart_model.specs.StepResult.{StepResult, Steps, Wants, Wedged, did_of, hart_after, probes_of}
use Rattle.hart_model.specs.HartStep.{hart_step}
use Rattle.hart_state.specs.Asked.{AsksFor}
use Rattle.core_model.specs.declared.event.Event.{Event}
use Rattle.core_model.specs.declared.plan.Plan.{Plan}
use Rattle.core_model.specs.Routines.{ticked_if}
use Rattle.core_model.specs.Orders.{HartPace, is_tick_due, events_of_step, max_steps}
use Rattle.symbolic_run.proofs.Paths.{paths-lead}
use Rattle.symbolic_run.proofs.StepsTaken.{steps-taken}
use Rattle.core_invariant.specs.CutPoints.{IsOnItsWay}
use Rattle.core_invariant.specs.OneHart.{EachHart}
use Rattle.core_invariant.proofs.EachHart.{each-hart}
use Rattle.timer_plan.specs.Pace.{PaceState}
use Rattle.order_laws.specs.OwnSteps.{AtAction, own_steps, own_by, after_own}
use Rattle.hart_advance.specs.Pacing.{IsPaceOf, IsUnderKernel, due_hart, paced_step}
use Rattle.hart_advance.specs.Advancing.{ReachesAction, CanAdvance}

-- Of the own steps of a hart up to an action: what is left after so many of them, and the entries that a keeper got until then.
pub record Rest (code : List ℕ) (plan : Plan) (progress : HartPace) (number : ℕ) (a : AtAction) (h : HartState) (steps : ℕ)
    (Stood Stands : List Probe → Type 0) (room_then room_now : ℕ) : Type 0 where
  pub left : ℕ
  pub count : left + steps ≡ max_steps
  pub b : AtAction
  pub own : own_steps code plan progress number left h ≡ Some b
  pub call : a.call ≡ b.call
  pub hart : a.hart ≡ b.hart
  pub done : List Probe
  pub probes : a.probes ≡ done ++ b.probes
  pub log : (log : List Probe) → Stood log → Stands (log ++ done)
  pub room : room_now + length done ≡ room_then

-- So many steps led from a hart to this one, and so it is of each action that the first one reaches.
pub record SoFar (code : List ℕ) (first : HartState) (first_pace : PaceState) (h : HartState) (pace : PaceState) (steps : ℕ)
    (Stood Stands : List Probe → Type 0) (room_then room_now : ℕ) : Type 0 where
  pub kernel : IsUnderKernel code h
  pub paces : (plan : Plan) (progress : HartPace) → IsPaceOf plan progress first first_pace → IsPaceOf plan progress h pace
  pub each : (plan : Plan) (progress : HartPace) (number : ℕ) (a : AtAction) → ReachesAction code plan progress number first first_pace a
      → Rest code plan progress number a h steps Stood Stands room_then room_now

-- What one step of the code gave.
pub record Stepped (code : List ℕ) (h : HartState) (pace : PaceState) (did : Did) (g : HartState) (pace_next : PaceState)
    (Stands Then : List Probe → Type 0) (room_now room_next : ℕ) : Type 0 where
  pub did_is : (plan : Plan) (progress : HartPace) → IsPaceOf plan progress h pace → did ≡ did_of (paced_step code plan progress h)
  pub wants : (plan : Plan) (progress : HartPace) → IsPaceOf plan progress h pace → (call : QueueCall) → did ≡ dids.Wants call
      → AsksFor call (paced_step code plan progress h)
  pub hart_is : (plan : Plan) (progress : HartPace) → IsPaceOf plan progress h pace
      → g ≡ hart_after (due_hart plan progress h) (paced_step code plan progress h)
  pub pace_is : (plan : Plan) (progress : HartPace) → IsPaceOf plan progress h pace → IsPaceOf plan progress g pace_next
  pub log : (plan : Plan) (progress : HartPace) → IsPaceOf plan progress h pace → (log : List Probe) → Stands log
      → Then (log ++ probes_of (paced_step code plan progress h))
  pub room : (plan : Plan) (progress : HartPace) → IsPaceOf plan progress h pace
      → room_next + length (probes_of (paced_step code plan progress h)) ≡ room_now

-- THE KERNEL: a step keeps the hart on its way
module _ (code : List ℕ) (h : HartState) (under : IsUnderKernel code h) where
  one : EachHart under.loaded.tasks under.kernel
  one = each-hart under.kernel under.is_kernel (paths-lead steps-taken) under.loaded.tasks

  ticks-way : (b : Bool) → IsOnItsWay under.loaded.tasks under.kernel under.number (ticked_if b h)
  ticks-way true = one.ticks under.number h under.way
  ticks-way false = under.way

  pub kernel-next : (b : Bool) → IsUnderKernel code (hart_after (ticked_if b h) (hart_step code (ticked_if b h)))
  kernel-next b = record {
    loaded = under.loaded;
    kernel = under.kernel;
    number = under.number;
    within = under.within;
    is_kernel = under.is_kernel;
    words = under.words;
    way = by-step (hart_step code (ticked_if b h)) refl;
  }
    where
      by-step : (step : StepResult) → hart_step code (ticked_if b h) ≡ step
          → IsOnItsWay under.loaded.tasks under.kernel under.number (hart_after (ticked_if b h) step)
      by-step (Steps g probes did) e =
          (one.steps under.number (ticked_if b h) g probes did (ticks-way b)
          (ap (λ (words : List ℕ). hart_step words (ticked_if b h)) (sym under.words) ∙ e)).hart
      by-step (Wants call early_writes rd next) e = ticks-way b
      by-step Wedged e = ticks-way b

-- a step that goes on asks for nothing
asks-none : (call : QueueCall) (g : HartState) (probes : List Probe) (d : Did) → AsksFor call (Steps g probes d) → ⊥
asks-none Take g probes d asks = asks
asks-none GiveReady g probes d asks = asks
asks-none GiveDone g probes d asks = asks

-- ONE STEP MORE of what is left
module _ (code : List ℕ) (plan : Plan) (progress : HartPace) (number : ℕ) (a : AtAction) (h : HartState) (steps : ℕ)
    (Stood Stands : List Probe → Type 0) (room_then room_now : ℕ)
    (rest : Rest code plan progress number a h steps Stood Stands room_then room_now) where
  abbrev f : HartState
  f = due_hart plan progress h

  abbrev more : ℕ → HartState → Option AtAction
  more m g = own_steps code plan progress number m g

  abbrev events : List Event
  events = events_of_step plan progress number (Some h)

  own-left : (left : ℕ) → left + steps ≡ max_steps → steps < max_steps → (m : ℕ) × (left ≡ suc m)
  own-left zero count below = absurd (omega (arith, count, below))
  own-left (suc m) count below = (m, refl)

  unfolded : (m : ℕ) → rest.left ≡ suc m → own_by (more m) events f (hart_step code f) ≡ Some rest.b
  unfolding own_steps
  unfolded m e = let P : ℕ → Type 0 = λ n. own_steps code plan progress number n h ≡ Some rest.b in subst P e rest.own

  module _ (Then : List Probe → Type 0) (room_next : ℕ)
      (log_next : (log : List Probe) → Stands log → Then (log ++ probes_of (hart_step code f)))
      (room_is : room_next + length (probes_of (hart_step code f)) ≡ room_now) where
    -- where it goes on
    by-further : (m : ℕ) → rest.left ≡ suc m → (g : HartState) (probes : List Probe) → probes_of (hart_step code f) ≡ probes
        → (o : Option AtAction) → more m g ≡ o → after_own events probes o ≡ Some rest.b
        → Rest code plan progress number a g (steps + 1) Stood Then room_then room_next
    by-further m left g probes e None own found = absurd (cc found)
    by-further m left g probes e (Some b) own found =
        let same : record { call = b.call; hart = b.hart; probes = probes ++ b.probes; events = events ++ b.events } ≡ rest.b = cc found in
        let log_then : (log : List Probe) → Stands log → Then (log ++ probes) =
        λ log stands. let P : List Probe → Type 0 = λ ps. Then (log ++ ps) in subst P e (log_next log stands) in
        let count = rest.count in
        let room = rest.room in
        let space : room_next + length probes ≡ room_now = ap (λ (ps : List Probe). room_next + length ps) (sym e) ∙ room_is in
        let len = length-append rest.done probes in
        record {
          left = m;
          count = omega (arith, count, left);
          b = b;
          own = own;
          call = rest.call ∙ sym (ap (λ (x : AtAction). x.call) same);
          hart = rest.hart ∙ sym (ap (λ (x : AtAction). x.hart) same);
          done = rest.done ++ probes;
          probes = rest.probes ∙ ap (λ (x : AtAction). rest.done ++ x.probes) (sym same) ∙ sym (append_assoc rest.done probes b.probes);
          log = λ log stood. subst Then (append_assoc log rest.done probes) (log_then (log ++ rest.done) (rest.log log stood));
          room = omega (arith, room, space, len);
        }

    pub rest-next : steps < max_steps → (did : Did) → did ≡ did_of (hart_step code f) → ((call : QueueCall) → did ≡ dids.Wants call → ⊥)
        → Rest code plan progress number a (hart_after f (hart_step code f)) (steps + 1) Stood Then room_then room_next
    rest-next below did is ran =
        let left = own-left rest.left rest.count below in
        by-step left.0 left.1 (hart_step code f) refl
      where
        by-step : (m : ℕ) → rest.left ≡ suc m → (step : StepResult) → hart_step code f ≡ step
            → Rest code plan progress number a (hart_after f step) (steps + 1) Stood Then room_then room_next
        by-step m left (Steps g probes d) e =
            by-further m left g probes (ap probes_of e) (more m g) refl (sym (ap (own_by (more m) events f) e) ∙ unfolded m left)
        by-step m left (Wants call early_writes rd next) e = absurd (ran call (is ∙ ap did_of e))
        by-step m left Wedged e =
            let none = sym (ap (own_by (more m) events f) e) ∙ unfolded m left in absurd (cc none)

    -- where it wants the action: all that has come of the steps
    pub record Came (call : QueueCall) : Type 0 where
      pub call_is : call ≡ a.call
      pub hart_is : hart_after f (hart_step code f) ≡ a.hart
      pub log_is : (log : List Probe) → Stood log → Then (log ++ a.probes)
      pub room_left : room_next + length a.probes ≡ room_then

    pub comes : steps < max_steps → (did : Did) → did ≡ did_of (hart_step code f) → (call : QueueCall) → did ≡ dids.Wants call
        → AsksFor call (hart_step code f) → Came call
    comes below did is call wants asks =
        let left = own-left rest.left rest.count below in
        by-step left.0 left.1 (hart_step code f) refl
      where
        by-step : (m : ℕ) → rest.left ≡ suc m → (step : StepResult) → hart_step code f ≡ step → Came call
        by-step m left (Steps g probes d) e =
            absurd (asks-none call g probes d (let P : StepResult → Type 0 = λ s. AsksFor call s in subst P e asks))
        by-step m left Wedged e = let none = sym (ap (own_by (more m) events f) e) ∙ unfolded m left in absurd (cc none)
        by-step m left (Wants wanted early_writes rd next) e =
            let found = sym (ap (own_by (more m) events f) e) ∙ unfolded m left in
            let same : record { call = wanted; hart = f; probes = []; events = events } ≡ rest.b = cc found in
            let calls : dids.Wants call ≡ dids.Wants wanted = sym wants ∙ is ∙ ap did_of e in
            let none : probes_of (hart_step code f) ≡ [] = ap probes_of e in
            let all : a.probes ≡ rest.done = rest.probes ∙ ap (λ (x : AtAction). rest.done ++ x.probes) (sym same) ∙ append-nil rest.done in
            let P : List Probe → Type 0 = λ ps. room_next + length ps ≡ room_now in
            let space = subst P none room_is in
            let room = rest.room in
            let len = ap length all in
            record {
              call_is = cc calls ∙ ap (λ (x : AtAction). x.call) same ∙ sym rest.call;
              hart_is = ap (hart_after f) e ∙ ap (λ (x : AtAction). x.hart) same ∙ sym rest.hart;
              log_is = λ log stood.
                  let Q : List Probe → Type 0 = λ ps. Then ((log ++ rest.done) ++ ps) in
                  let R : List Probe → Type 0 = λ ps. Then (log ++ ps) in
                  subst R (sym all) (subst Then (append-nil (log ++ rest.done)) (subst Q none (log_next (log ++ rest.done) (rest.log log stood))));
              room_left = omega (arith, space, room, len);
            }

-- with no steps left no action is reached
none-left : (code : List ℕ) (plan : Plan) (progress : HartPace) (number : ℕ) (h : HartState) (b : AtAction) (left : ℕ) → left ≡ 0
    → own_steps code plan progress number left h ≡ Some b → ⊥
unfolding own_steps
none-left code plan progress number h b zero e own = cc own
none-left code plan progress number h b (suc left) e own = absurd (omega (arith, e))

-- ALL STEPS
module _ (code : List ℕ) (first : HartState) (first_pace : PaceState) (room_then : ℕ) (can : CanAdvance code first first_pace room_then) where
  pub at-first : (Stood : List Probe → Type 0) → IsUnderKernel code first
      → SoFar code first first_pace first first_pace 0 Stood Stood room_then room_then
  at-first Stood under = record {
    kernel = under;
    paces = λ plan progress is. is;
    each = λ plan progress number a reaches. record {
      left = max_steps;
      count = omega arith;
      b = a;
      own = reaches.own;
      call = refl;
      hart = refl;
      done = [];
      probes = refl;
      log = λ log stood. subst Stood (sym (append-nil log)) stood;
      room = omega arith;
    };
  }

  module _ (h : HartState) (pace : PaceState) (steps : ℕ) (Stood Stands : List Probe → Type 0) (room_now : ℕ)
      (so_far : SoFar code first first_pace h pace steps Stood Stands room_then room_now) where
    its-rest : Rest code can.plan can.progress can.number can.action h steps Stood Stands room_then room_now
    its-rest = so_far.each can.plan can.progress can.number can.action can.reaches

    its-pace : IsPaceOf can.plan can.progress h pace
    its-pace = so_far.paces can.plan can.progress can.reaches.is_pace

    -- there is room for a step
    pub room-now : 6 ≤ room_now
    room-now =
        let all = ap length its-rest.probes in
        let len = length-append its-rest.done its-rest.b.probes in
        let enough = can.fits in
        let room = its-rest.room in
        omega (arith, all, len, enough, room)

    -- the loop doesn't come to its end
    pub not-over : steps ≡ max_steps → ⊥
    not-over same =
        let count = its-rest.count in
        none-left code can.plan can.progress can.number h its-rest.b its-rest.left (omega (arith, count, same)) its-rest.own

    module _ (did : Did) (g : HartState) (pace_next : PaceState) (Then : List Probe → Type 0) (room_next : ℕ)
        (stepped : Stepped code h pace did g pace_next Stands Then room_now room_next) (below : steps < max_steps) where
      pub so-far-next : ((call : QueueCall) → did ≡ dids.Wants call → ⊥)
          → SoFar code first first_pace g pace_next (steps + 1) Stood Then room_then room_next
      so-far-next ran = record {
        kernel =
            let P : HartState → Type 0 = λ x. IsUnderKernel code x in
            subst P (sym (stepped.hart_is can.plan can.progress its-pace))
            (kernel-next code h so_far.kernel (is_tick_due can.plan can.progress h));
        paces = λ plan progress is. stepped.pace_is plan progress (so_far.paces plan progress is);
        each = λ plan progress number a reaches.
            let now = so_far.paces plan progress reaches.is_pace in
            let P : HartState → Type 0 = λ x. Rest code plan progress number a x (steps + 1) Stood Then room_then room_next in
            subst P (sym (stepped.hart_is plan progress now))
            (rest-next code plan progress number a h steps Stood Stands room_then room_now (so_far.each plan progress number a reaches) Then room_next
            (stepped.log plan progress now) (stepped.room plan progress now) below did (stepped.did_is plan progress now) ran);
      }

      -- what the last step leaves, where it wants an action
      pub record Last (plan : Plan) (progress : HartPace) (number : ℕ) (a : AtAction) (call : QueueCall) : Type 0 where
        pub call_is : call ≡ a.call
        pub hart_is : g ≡ a.hart
        pub log_is : (log : List Probe) → Stood log → Then (log ++ a.probes)
        pub room_is : room_next + length a.probes ≡ room_then

      pub last : (plan : Plan) (progress : HartPace) (number : ℕ) (a : AtAction) → ReachesAction code plan progress number first first_pace a
          → (call : QueueCall) → did ≡ dids.Wants call → Last plan progress number a call
      last plan progress number a reaches call wants =
          let now = so_far.paces plan progress reaches.is_pace in
          let came = comes code plan progress number a h steps Stood Stands room_then room_now (so_far.each plan progress number a reaches) Then
          room_next (stepped.log plan progress now) (stepped.room plan progress now) below did (stepped.did_is plan progress now) call wants
          (stepped.wants plan progress now call wants) in
          record {
            call_is = came.call_is;
            hart_is = stepped.hart_is plan progress now ∙ came.hart_is;
            log_is = came.log_is;
            room_is = came.room_left;
          }

-- a step that does another thing wants nothing
pub none-wants : (did : Did) → ((did ≡ dids.Ran) ⊎ (((cause : ℕ) × (did ≡ dids.Trapped cause)) ⊎ (did ≡ dids.Wedged))) → (call : QueueCall)
    → did ≡ dids.Wants call → ⊥
none-wants did (inl ran) call wants = cc (sym ran ∙ wants)
none-wants did (inr (inl trapped)) call wants = cc (sym trapped.1 ∙ wants)
none-wants did (inr (inr wedged)) call wants = cc (sym wedged ∙ wants)
