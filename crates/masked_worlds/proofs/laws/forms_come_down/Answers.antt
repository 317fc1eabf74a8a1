use Rattle.masked_worlds.proofs.Forms.{forms-are-determined, form-is-replaced, form-is-cut, form-is-shifted, form-is-turned, forms-leave-out, forms-are-silent, forms-are-silent-together, others-are-apart}
use Rattle.masked_worlds.proofs.Sums.{turns-compose, added-is-turn, sums-are-turns}
use Rattle.masked_worlds.proofs.laws.forms_come_down.Goals as goal

pub returns : goal.returns
returns c = record {
  determined = forms-are-determined;
  replaced = form-is-replaced;
  cut = form-is-cut;
  shifted = form-is-shifted;
  turned = form-is-turned;
  chain = turns-compose;
  added = added-is-turn;
  sums = sums-are-turns;
  left_out = forms-leave-out;
  silent = forms-are-silent;
  together = forms-are-silent-together;
  apart = others-are-apart;
}
