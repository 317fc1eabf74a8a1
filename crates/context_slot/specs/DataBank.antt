-- The data words of a body, by address (this project's own).
use Rattle.std.specs.Prelude.{ℕ}
use Rattle.hart_model.specs.declared.tag.Cell.{Cell}
use Rattle.hart_model.specs.Context.{BodyState}
use Rattle.mem_bank.specs.Bank.{CellBank, with_cell_of}

-- the data words as a bank of memory
abbrev pub data_bank : BodyState → CellBank
data_bank b = record { base = b.data_at; cells = b.data_words }

-- the body with the data word of an address changed, and no other
abbrev pub with_data_cell : BodyState → ℕ → Cell → BodyState
with_data_cell b at cell = record b { data_words = (with_cell_of (data_bank b) at cell).cells }
