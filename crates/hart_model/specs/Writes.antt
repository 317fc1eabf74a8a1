-- The writes of an instruction on a hart: the cells that it leaves, and the entry that each of them makes (this project's own).
use Rattle.std.specs.Prelude.{List, [], ◌∷◌, Option, Some, None}
use Rattle.isa_model.specs.Effect.{Write}
use Rattle.hart_model.specs.declared.place.Place.{Place}
use Rattle.hart_model.specs.declared.tag.Cell.{Cell}
use Rattle.hart_model.specs.declared.tag.Tag.{Tag}
use Rattle.hart_model.specs.declared.probe.Probe.{Probe}
use Rattle.hart_model.specs.Cells.{Bases, latch_of, place_of}
use Rattle.hart_model.specs.Probes.{probe_of}
use Rattle.hart_model.specs.HartState.{HartState, bases_of, hart_cell, hart_with_cell}

-- a cell that goes to a place
pub record CellWrite : Type 0 where
  pub at : Place
  pub cell : Cell

pub record HartAndProbes : Type 0 where
  pub hart : HartState
  pub probes : List Probe

-- a write of a latch that has no place leaves nothing
abbrev pub placed : Option Place → Cell → List CellWrite → List CellWrite
placed None cell rest = rest
placed (Some place) cell rest = record { at = place; cell = cell } ∷ rest

-- the writes of an effect, in order, each at the place of its latch and with its tag
abbrev pub cell_writes : Bases → (Write → Tag) → List Write → List CellWrite
cell_writes bases tag [] = []
cell_writes bases tag (w ∷ ws) = placed (place_of bases w.to) (record { value = w.value; tag = tag w }) (cell_writes bases tag ws)

-- the entry of a write, by the cell that stands at its place before
abbrev pub probe_of_write : HartState → CellWrite → Probe
probe_of_write h w =
    probe_of h.csrs.hart h.pc h.csrs.mode (latch_of (bases_of h.held) w.at) (hart_cell h w.at) w.cell

-- the hart after writes, the first one first, and their entries
abbrev pub after_writes : List CellWrite → HartState → HartAndProbes
after_writes [] h = record { hart = h; probes = [] }
after_writes (w ∷ ws) h =
    let rest = after_writes ws (hart_with_cell h w.at w.cell) in
    record { hart = rest.hart; probes = probe_of_write h w ∷ rest.probes }
