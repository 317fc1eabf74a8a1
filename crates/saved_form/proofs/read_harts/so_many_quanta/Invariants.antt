-- What is read in all is what was read, and after it what is left.
use Rattle.std.proofs.Common.{◌≡◌, ◌-◌, []}
use Rattle.isa_model.specs.Limits.{max_quantum}
use Rattle.saved_form.specs.Ranges.{up_to}
use Rattle.saved_form.specs.Reading.{number}
use Rattle.saved_form.specs.Fields.{items}
use Rattle.saved_form.proofs.Onward.{onward}
use Rattle.saved_form.proofs.read_harts.so_many_quanta.Given as goal

abbrev pub invariant-loop-index : goal.invariant-loop-index
invariant-loop-index l = items (number (up_to max_quantum)) [] l.count l.fn.numbers ≡ onward (number (up_to max_quantum)) l.found.items (l.count - l._index) l.numbers
