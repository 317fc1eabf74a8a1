-- The texts of a verdict by two probes at once, and of a fault in its place (this project's own).
use Rattle.std.specs.Prelude.{ℕ, List, [], ◌++◌, codes}
use Rattle.isa_model.specs.declared.latch.Latch.{Latch}
use Rattle.leak_latch.specs.LatchName.{latch_name}
use Rattle.probing_laws.specs.declared.verdict_two.VerdictTwo.{VerdictTwo}
use Rattle.probing_laws.specs.declared.verdict_two.VerdictTwo.TheVariants.{One, Secure, Leak}
use Rattle.probing_laws.specs.declared.verdict_two.TwoFault.{TwoFault}
use Rattle.probing_laws.specs.declared.verdict_two.TwoFault.TheVariants.{Cert, TooMany, Memory}
use Rattle.report_text.specs.Texts.{hex_word}
use Rattle.report_text.specs.VerdictText.{named, secrets_text, counts_text, verdict_text_of, cert_fault_text_of}

abbrev pub steps_text : ℕ × ℕ → List ℕ
steps_text steps = named (codes "leak2 steps ") steps.0 ++ named (codes " ") steps.1

abbrev pub latches_text : Latch × Latch → List ℕ
latches_text latches = codes " latches " ++ (latch_name latches.0 ++ (codes " " ++ latch_name latches.1))

abbrev pub values_text : ℕ × ℕ × ℕ × ℕ → List ℕ
values_text values =
    codes " values"
    ++ ((codes " " ++ hex_word values.0) ++ ((codes " " ++ hex_word values.1) ++ ((codes " " ++ hex_word values.2) ++ (codes " " ++ hex_word values.3))))

-- where one probe tells something, its verdict
abbrev pub verdict_two_text_of : VerdictTwo → List ℕ
verdict_two_text_of (One verdict) = verdict_text_of verdict
verdict_two_text_of (Secure places) = named (codes "secure2 ") places ++ codes "\n"
verdict_two_text_of (Leak steps latches a b values count_a count_b) =
    steps_text steps ++ (latches_text latches ++ (secrets_text a b ++ (values_text values ++ (counts_text count_a count_b ++ codes "\n"))))

-- nothing for want of memory
abbrev pub two_fault_text_of : TwoFault → List ℕ
two_fault_text_of (Cert fault) = cert_fault_text_of fault
two_fault_text_of (TooMany product) = named (codes "too many ") product ++ codes "\n"
two_fault_text_of Memory = []
