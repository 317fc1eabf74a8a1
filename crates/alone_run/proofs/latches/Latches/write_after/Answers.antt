-- A store writes its latch and then its word.
use Rattle.alone_run.proofs.latches.Latches.write_after.Goals as goal

pub returns-in-Stores : goal.returns-in-Stores
returns-in-Stores c = record {
  held = λ T v h own.
      let inside = rw c.in-Stores.is at own in
      rw c.in-Stores.is (c.write_data.ensures.held T _ (c.write_store.ensures.held T v h) inside);
}
