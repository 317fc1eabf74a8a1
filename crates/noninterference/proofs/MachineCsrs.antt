-- CSR files that are alike: reads of every CSR are, and writes of cells that are alike are refused on both or leave files alike.
use Rattle.std.proofs.Common.{◌≡◌, ℕ, ◌-◌, ◌*◌, ◌^◌, ◌==◌, Bool, true, false, Option, Some, None, refl, sym, subst, ap, if◌then◌else◌}
use Rattle.isa_model.specs.Bits.{word_address}
use Rattle.isa_model.specs.Arithmetic.{bit_of}
use Rattle.isa_model.specs.Effect.{CsrWrite}
use Rattle.hart_model.specs.declared.tag.Cell.{Cell}
use Rattle.hart_model.specs.declared.tag.Tag.{Tag}
use Rattle.hart_model.specs.declared.tag.Tag.TheVariants.{Public, Of, Many}
use Rattle.hart_model.specs.Pmp.{addr_of}
use Rattle.hart_model.specs.Taint.{machine_tag}
use Rattle.hart_model.specs.Csrs.{CsrFile, csr_cell, with_csr, with_csr_by_tag, with_public_csr, with_mstatus, with_mie, with_pmpcfg, with_pmpaddr, mstatus_value, mie_value, public, mstatus, mie, mtvec, mscratch, mepc, mcause, mtval, mip, pmpcfg0, is_pmpaddr, pmpaddr0, mhartid}
use Rattle.hart_model.specs.Traps.{csrs_after_mret}
use Rattle.hart_model.specs.MachineStep.{OperandCells, operand_tag, csrs_after_effect}
use Rattle.core_model.specs.AlikeHarts.{AreCellsAlike, AreCsrsAlike}
use Rattle.noninterference.proofs.CellsAlike.{public-cells}
use Rattle.noninterference.proofs.MachineRows.{AreOptionsAlike, AreOperandsAlike, AreCsrOptionsAlike, row-cell}

-- cells of two CSRs, if there are such
pub record AreReadAlike (x y : Option Cell) : Type 0 where
  pub both : AreOptionsAlike x y

-- files, if neither or both are there
abbrev pub AreBothFiles : Option CsrFile → Option CsrFile → Type 0
AreBothFiles None None = Unit {0}
AreBothFiles (Some a) (Some b) = AreCsrsAlike a b
AreBothFiles x y = ⊥

pub record AreFilesAlike (x y : Option CsrFile) : Type 0 where
  pub both : AreBothFiles x y

one-read : (t : Bool) (x y u v : Option Cell) → AreReadAlike x y → AreReadAlike u v → AreReadAlike (if t then x else u) (if t then y else v)
one-read true x y u v a b = a
one-read false x y u v a b = b

one-file : (t : Bool) (x y u v : Option CsrFile) → AreFilesAlike x y → AreFilesAlike u v → AreFilesAlike (if t then x else u) (if t then y else v)
one-file true x y u v a b = a
one-file false x y u v a b = b

module _ (a b : CsrFile) (e : AreCsrsAlike a b) where
  read-public : (f : CsrFile → ℕ) → f a ≡ f b → AreReadAlike (Some (public (f a))) (Some (public (f b)))
  read-public f same = record { both = public-cells (f a) (f b) same }

  absent-read : AreReadAlike None None
  absent-read = record { both = tt }

  read-scratch : AreReadAlike (Some a.mscratch) (Some b.mscratch)
  read-scratch = record { both = e.scratch }

  read-zero : AreReadAlike (Some (public 0)) (Some (public 0))
  read-zero = record { both = public-cells 0 0 refl }

  -- a read of every CSR
  pub csr-cell-alike : (n : ℕ) → AreReadAlike (csr_cell a n) (csr_cell b n)
  unfolding csr_cell
  csr-cell-alike n =
      one-read (n == mstatus) _ _ _ _ (read-public (λ c. mstatus_value c) (ap (λ (c : CsrFile). mstatus_value c) e.others))
      (one-read (n == mie) _ _ _ _ (read-public (λ c. mie_value c) (ap (λ (c : CsrFile). mie_value c) e.others))
      (one-read (n == mtvec) _ _ _ _ (read-public (λ c. c.mtvec) (ap (λ (c : CsrFile). c.mtvec) e.others))
      (one-read (n == mscratch) _ _ _ _ read-scratch
      (one-read (n == mepc) _ _ _ _ (read-public (λ c. c.mepc) (ap (λ (c : CsrFile). c.mepc) e.others))
      (one-read (n == mcause) _ _ _ _ (read-public (λ c. c.mcause) (ap (λ (c : CsrFile). c.mcause) e.others))
      (one-read (n == mtval) _ _ _ _ read-zero
      (one-read (n == mip) _ _ _ _ (read-public (λ c. 2 ^ 7 * bit_of c.is_timer_pending) (ap (λ (c : CsrFile). 2 ^ 7 * bit_of c.is_timer_pending) e.others))
      (one-read (n == pmpcfg0) _ _ _ _ (read-public (λ c. c.pmp.cfg) (ap (λ (c : CsrFile). c.pmp.cfg) e.others))
      (one-read (is_pmpaddr n) _ _ _ _ (read-public (λ c. addr_of c.pmp (n - pmpaddr0)) (ap (λ (c : CsrFile). addr_of c.pmp (n - pmpaddr0)) e.others))
      (one-read (n == mhartid) _ _ _ _ (read-public (λ c. c.hart) (ap (λ (c : CsrFile). c.hart) e.others)) absent-read))))))))))

  -- files after one change of both that leaves mscratch
  written : (x y : CsrFile) → x.mscratch ≡ a.mscratch → y.mscratch ≡ b.mscratch → record x { mscratch = y.mscratch } ≡ y → AreFilesAlike (Some x) (Some y)
  written x y p q same =
      let P : Cell → Type 0 = λ c. AreCellsAlike c y.mscratch in
      let Q : Cell → Type 0 = λ c. AreCellsAlike a.mscratch c in
      record { both = record { scratch = subst P (sym p) (subst Q (sym q) e.scratch); others = same } }

  absent-file : AreFilesAlike None None
  absent-file = record { both = tt }

  -- a write of one public value
  public-csr-alike : (n v : ℕ) → AreFilesAlike (with_public_csr a n v) (with_public_csr b n v)
  public-csr-alike n v =
      one-file (n == mstatus) _ _ _ _ (written (with_mstatus a v) (with_mstatus b v) refl refl (ap (λ (c : CsrFile). with_mstatus c v) e.others))
      (one-file (n == mie) _ _ _ _ (written (with_mie a v) (with_mie b v) refl refl (ap (λ (c : CsrFile). with_mie c v) e.others))
      (one-file (n == mtvec) _ _ _ _ (written (record a { mtvec = word_address v }) (record b { mtvec = word_address v }) refl refl
      (ap (λ (c : CsrFile). record c { mtvec = word_address v }) e.others))
      (one-file (n == mepc) _ _ _ _ (written (record a { mepc = word_address v }) (record b { mepc = word_address v }) refl refl
      (ap (λ (c : CsrFile). record c { mepc = word_address v }) e.others))
      (one-file (n == mcause) _ _ _ _ (written (record a { mcause = v }) (record b { mcause = v }) refl refl
      (ap (λ (c : CsrFile). record c { mcause = v }) e.others))
      (one-file (n == mtval) _ _ _ _ (written a b refl refl e.others)
      (one-file (n == mip) _ _ _ _ (written a b refl refl e.others)
      (one-file (n == pmpcfg0) _ _ _ _ (written (with_pmpcfg a v) (with_pmpcfg b v) refl refl (ap (λ (c : CsrFile). with_pmpcfg c v) e.others))
      (one-file (is_pmpaddr n) _ _ _ _ (written (with_pmpaddr a (n - pmpaddr0) v) (with_pmpaddr b (n - pmpaddr0) v) refl refl
      (ap (λ (c : CsrFile). with_pmpaddr c (n - pmpaddr0) v) e.others))
      absent-file))))))))

  by-tag-alike : (n v w : ℕ) (s t : Tag) → s ≡ t → (s ≡ Public → v ≡ w) → AreFilesAlike (with_csr_by_tag a n v s) (with_csr_by_tag b n w t)
  by-tag-alike n v w Public Public same f =
      let P : ℕ → Type 0 = λ z. AreFilesAlike (with_public_csr a n v) (with_public_csr b n z) in
      subst P (f refl) (public-csr-alike n v)
  by-tag-alike n v w Public (Of task k l) same f = absurd (cc same)
  by-tag-alike n v w Public Many same f = absurd (cc same)
  by-tag-alike n v w (Of task k l) Public same f = absurd (cc same)
  by-tag-alike n v w (Of task k l) (Of other m j) same f = record { both = tt }
  by-tag-alike n v w (Of task k l) Many same f = record { both = tt }
  by-tag-alike n v w Many Public same f = absurd (cc same)
  by-tag-alike n v w Many (Of other m j) same f = record { both = tt }
  by-tag-alike n v w Many Many same f = record { both = tt }

  -- a write of cells that are alike
  pub with-csr-alike : (n : ℕ) (c d : Cell) → AreCellsAlike c d → AreFilesAlike (with_csr a n c) (with_csr b n d)
  unfolding with_csr
  with-csr-alike n c d s =
      let both : AreFilesAlike (Some (record a { mscratch = c })) (Some (record b { mscratch = d })) =
      record { both = record { scratch = s; others = ap (λ (f : CsrFile). record f { mscratch = d }) e.others } } in
      one-file (n == mscratch) _ _ _ _ both (by-tag-alike n c.value d.value c.tag d.tag s.tag s.value)

  -- the files after an effect
  pub after-effect-alike : (o p : OperandCells) → AreOperandsAlike o p → (x y : Option CsrWrite) → AreCsrOptionsAlike o x y
      → AreFilesAlike (csrs_after_effect a o x) (csrs_after_effect b p y)
  after-effect-alike o p s None None t = record { both = e }
  after-effect-alike o p s None (Some v) t = absurd t
  after-effect-alike o p s (Some w) None t = absurd t
  after-effect-alike o p s (Some w) (Some v) t =
      let c : Cell = record { value = w.value; tag = machine_tag (operand_tag o) w.flow } in
      let d : Cell = record { value = v.value; tag = machine_tag (operand_tag p) v.flow } in
      let P : ℕ → Type 0 = λ n. AreFilesAlike (with_csr a w.csr c) (with_csr b n d) in
      subst P t.csr (with-csr-alike w.csr c d (row-cell o p s w.flow v.flow w.value v.value t.flow t.value))

  -- and after the return from a trap
  pub mret-csrs-alike : AreCsrsAlike (csrs_after_mret a) (csrs_after_mret b)
  mret-csrs-alike = record { scratch = e.scratch; others = ap (λ (c : CsrFile). csrs_after_mret c) e.others }

-- a public value where two files are alike
pub mepc-alike : (a b : CsrFile) → AreCsrsAlike a b → a.mepc ≡ b.mepc
mepc-alike a b e = ap (λ (c : CsrFile). c.mepc) e.others

pub previous-alike : (a b : CsrFile) → AreCsrsAlike a b → a.previous ≡ b.previous
previous-alike a b e = ap (λ (c : CsrFile). c.previous) e.others
