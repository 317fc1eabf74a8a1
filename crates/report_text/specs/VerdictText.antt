-- The texts of a verdict on a task in the worlds of its secret, and of a fault in its place (this project's own).
use Rattle.std.specs.Prelude.{ℕ, List, [], ◌++◌, codes, decimal}
use Rattle.isa_model.specs.declared.latch.Latch.{Latch}
use Rattle.leak_latch.specs.LatchName.{latch_name}
use Rattle.probing_laws.specs.declared.verdict.Verdict.{Verdict}
use Rattle.probing_laws.specs.declared.verdict.Verdict.TheVariants.{Secure, Leak}
use Rattle.probing_laws.specs.declared.verdict.CertFault.{CertFault}
use Rattle.probing_laws.specs.declared.verdict.CertFault.TheVariants.{NoWorlds, TooMuch, Uneven, ControlDiffers, Memory}
use Rattle.report_text.specs.Texts.{hex_word}

-- a word and a number after it
abbrev pub named : List ℕ → ℕ → List ℕ
named name number = name ++ decimal number

abbrev pub place_text : ℕ → Latch → List ℕ
place_text step latch = named (codes "leak step ") step ++ (codes " " ++ latch_name latch)

abbrev pub secrets_text : ℕ → ℕ → List ℕ
secrets_text a b = named (codes " secrets ") a ++ named (codes " ") b

abbrev pub pair_text : ℕ × ℕ → List ℕ
pair_text pair = codes " pair" ++ ((codes " " ++ hex_word pair.0) ++ (codes " " ++ hex_word pair.1))

abbrev pub counts_text : ℕ → ℕ → List ℕ
counts_text a b = named (codes " counts ") a ++ named (codes " ") b

abbrev pub verdict_text_of : Verdict → List ℕ
verdict_text_of (Secure places) = named (codes "secure ") places ++ codes "\n"
verdict_text_of (Leak step latch a b pair count_a count_b) =
    place_text step latch ++ (secrets_text a b ++ (pair_text pair ++ (counts_text count_a count_b ++ codes "\n")))

abbrev pub worlds_text : ℕ → ℕ → List ℕ
worlds_text v w = named (codes "control differs worlds ") v ++ named (codes " ") w

-- nothing for want of memory
abbrev pub cert_fault_text_of : CertFault → List ℕ
cert_fault_text_of NoWorlds = codes "no worlds\n"
cert_fault_text_of (TooMuch product) = named (codes "too much ") product ++ codes "\n"
cert_fault_text_of (Uneven a b) = named (codes "uneven ") a ++ (named (codes " ") b ++ codes "\n")
cert_fault_text_of (ControlDiffers v w step) =
    worlds_text v w ++ (named (codes " step ") step ++ codes "\n")
cert_fault_text_of Memory = []
