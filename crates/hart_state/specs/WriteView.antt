-- What contracts see of a write in the list of an instruction's writes.
use Rattle.isa_model.specs.Effect.{Write}
use Rattle.rv_effect.specs.View.{flow_of}
use Rattle.hart_state.specs.declared.write_list.Write.{Write as CodeWrite}

abbrev pub write_of : CodeWrite → Write
write_of w = record { to = w.to; value = w.value; flow = flow_of w.flow }
