-- The words of the first two steps of a hart: a load of the take port and a branch on what it gives.
use Rattle.std.proofs.Common.{◌≡◌, refl, ℕ, List, [], ◌∷◌, length}
use Rattle.std.specs.Prelude.{replicate, None}
use Rattle.isa_model.specs.declared.latch.Latch.{Latch}
use Rattle.isa_model.specs.declared.latch.Latch.TheVariants.{Reg, PortA, PortB, Res, Load, Mul, Mem}
use Rattle.hart_model.specs.declared.probe.Probe.{Probe}
use Rattle.hart_model.specs.declared.probe.Why.{Why}
use Rattle.hart_model.specs.declared.probe.Why.TheVariants.{Public, Value, Step, Unexplained}
use Rattle.hart_model.specs.declared.probe.Side.TheVariants.{Now}
use Rattle.probe_log.specs.Packing.{packed_of}
use Rattle.probe_log.specs.Unpacking.{entries_in}

abbrev entry : ℕ → Latch → ℕ → ℕ → Why → Probe
entry pc latch was now why = record { hart = 0; pc = pc; latch = latch; was = was; now = now; why = why }

abbrev two_steps : List Probe
two_steps =
    entry 0x1324 PortA 0 0 Public ∷ entry 0x1324 Res 0 0x700 Public ∷ entry 0x1324 Load 0 0x200 Public ∷ entry 0x1324 (Reg 5) 0 0x200 Public
    ∷ entry 0x1328 PortA 0 0x200 Public ∷ entry 0x1328 PortB 0 0 Public ∷ []

their_words : packed_of two_steps ≡
    0x00180020 ∷ 0x00000000 ∷ 0x00001324 ∷ 0x00400022 ∷ 0x00000700 ∷ 0x00400023 ∷ 0x00000200 ∷ 0x00400005 ∷ 0x00000200 ∷ 0x00500020
    ∷ 0x00001328 ∷ 0x00000200 ∷ 0x00000021 ∷ []
their_words = refl

-- the most words that an entry has: the header has mem, value, now, mem, and that all four follow
abbrev longest : Probe
longest = entry 0x1000 (Mem 0x108000) 1 2 (Value 3 4 (Mem 0x108004) Now)

nine_words : packed_of (longest ∷ []) ≡
    0x00793526 ∷ 0 ∷ 0x1000 ∷ 1 ∷ 2 ∷ 0x108000 ∷ 3 ∷ 4 ∷ 0x108004 ∷ []
nine_words = refl

-- a step of the multiplier's latch, and an entry that isn't explained
abbrev others : List Probe
others = entry 0x2000 Mul 7 0 (Step 1 5 Mul) ∷ entry 0x2000 (Reg 9) 0 7 Unexplained ∷ []

their_words_too : packed_of others ≡ 0x00393a27 ∷ 0 ∷ 0x2000 ∷ 7 ∷ 1 ∷ 5 ∷ 0x00400309 ∷ 7 ∷ []
their_words_too = refl

-- and back
back : entries_in 0 None 6 (packed_of two_steps) ≡ two_steps
back = refl

back_too : entries_in 0 None 2 (packed_of others) ≡ others
back_too = refl

-- entry 64 has its hart and its pc again
next_block : length (packed_of (replicate 65 (entry 0x1454 Mul 0 0 Public))) ≡ 69
next_block = refl
