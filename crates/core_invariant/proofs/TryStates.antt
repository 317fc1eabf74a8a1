-- The texts of the kernel's parts, and the places of its words.
use Rattle.std.proofs.Common.{◌≡◌, refl, ◌++◌, ◌∷◌, [], length, map, pos, slice_get, Some}
use Rattle.isa_model.specs.declared.instr.Instr.TheVariants.{Jal, Mret, Store, Load}
use Rattle.isa_model.specs.declared.instr.LoadKind.TheVariants as loads
use Rattle.isa_model.specs.declared.instr.StoreKind.TheVariants as stores
use Rattle.isa_model.specs.Encoding.{word_of}
use Rattle.core_model.specs.KernelWords.{kernel_words}
use Rattle.core_invariant.specs.KernelStates.{save_instrs, middle_instrs, restore_instrs, middle_len, give_done_index, give_ready_index, take_index}

whole : map word_of (save_instrs ++ middle_instrs 176 ++ restore_instrs ++ Mret ∷ Jal 0 (pos 0) ∷ []) ≡ kernel_words
whole = refl

lengths : (length save_instrs ≡ 101) × (length (middle_instrs 176) ≡ middle_len) × (length restore_instrs ≡ 62)
lengths = (refl, refl, refl)

gives : (slice_get (middle_instrs 176) give_done_index ≡ Some (Store stores.W 6 0 (pos 0x704)))
    × (slice_get (middle_instrs 176) give_ready_index ≡ Some (Store stores.W 0 0 (pos 0x704)))
gives = (refl, refl)

takes : slice_get (middle_instrs 176) take_index ≡ Some (Load loads.W 5 0 (pos 0x700))
takes = refl
