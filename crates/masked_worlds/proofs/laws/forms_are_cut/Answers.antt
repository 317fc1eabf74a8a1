use Rattle.masked_worlds.proofs.Silent.{determined-tells-nothing, carried-tells-nothing, shifted-tells-nothing, cut-tells-nothing}
use Rattle.masked_worlds.proofs.laws.forms_are_cut.Goals as goal

pub returns : goal.returns
returns c = record {
  determined = determined-tells-nothing;
  carried = carried-tells-nothing;
  shifted = shifted-tells-nothing;
  cut = cut-tells-nothing;
}
