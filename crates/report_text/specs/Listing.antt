-- The listing of a log: a line for each entry (this project's own).
use Rattle.std.specs.Prelude.{ℕ, List, ◌++◌, codes, decimal}
use Rattle.std.specs.List.{flat_map}
use Rattle.isa_model.specs.declared.latch.Latch.{Latch}
use Rattle.hart_model.specs.declared.probe.Side.{Side}
use Rattle.hart_model.specs.declared.probe.Side.TheVariants.{Was, Now}
use Rattle.hart_model.specs.declared.probe.Why.{Why}
use Rattle.hart_model.specs.declared.probe.Why.TheVariants.{Public, Value, Step, Unexplained}
use Rattle.hart_model.specs.declared.probe.Probe.{Probe}
use Rattle.leak_latch.specs.LatchName.{latch_name}
use Rattle.report_text.specs.Texts.{hex_word}

abbrev pub side_name : Side → List ℕ
side_name Was = codes "was"
side_name Now = codes "now"

-- a task, a number of instructions, and a latch
abbrev pub tag_text : ℕ → ℕ → Latch → List ℕ
tag_text task step latch = decimal task ++ (codes " " ++ (decimal step ++ (codes " " ++ latch_name latch)))

-- what explains an entry
abbrev pub why_text : Why → List ℕ
why_text Public = codes "public"
why_text (Value task step latch side) = codes "value " ++ (tag_text task step latch ++ (codes " " ++ side_name side))
why_text (Step task step latch) = codes "step " ++ tag_text task step latch
why_text Unexplained = codes "unexplained"

-- the hart, the address of the instruction, the latch, its values before and after, and what explains them
unfoldable pub entry_text : Probe → List ℕ
entry_text p =
    decimal p.hart ++ (codes " " ++ (hex_word p.pc ++ (codes " " ++ (latch_name p.latch ++ (codes " " ++ (hex_word p.was
    ++ (codes " " ++ (hex_word p.now ++ (codes " " ++ why_text p.why)))))))))

abbrev pub entry_line : Probe → List ℕ
entry_line p = entry_text p ++ codes "\n"

-- the listing of a log
abbrev pub listing_of : List Probe → List ℕ
listing_of log = flat_map entry_line log
