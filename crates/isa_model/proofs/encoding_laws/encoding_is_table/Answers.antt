use Rattle.isa_model.proofs.TableLaws.{table_is_encoding}
use Rattle.isa_model.proofs.encoding_laws.encoding_is_table.Goals as goal

pub returns : goal.returns
returns c = record { law = table_is_encoding }
