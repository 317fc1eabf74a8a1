-- Contexts, computed.
use Rattle.std.proofs.Common.{◌≡◌, refl, [], ◌∷◌, length}
use Rattle.isa_model.specs.declared.ends.End.TheVariants.{TapeEnd}
use Rattle.hart_model.specs.declared.tag.Tag.TheVariants.{Public}
use Rattle.hart_model.specs.Cells.{blank}
use Rattle.hart_model.specs.Context.{slot_address, slot_word, task_of, done_of}
use Rattle.hart_model.proofs.SmallTask.{small_task, small_body, small_context}

first_slot : slot_address 0 ≡ 0x200
first_slot = refl

last_slot : slot_address 7 ≡ 0x660
last_slot = refl

body_has_its_task : task_of (small_body (0x73 ∷ [])) ≡ small_task (0x73 ∷ [])
body_has_its_task = refl

slot_has_36_words : length (small_context []).words ≡ 36
slot_has_36_words = refl

pc_is_start : slot_word (small_context (0x73 ∷ [])) 0 ≡ record { value = 0x100000; tag = Public }
pc_is_start = refl

register_is_blank : slot_word (small_context (0x73 ∷ [])) 31 ≡ blank
register_is_blank = refl

-- one code word and one data word
start_of_code : slot_word (small_context (0x73 ∷ [])) 32 ≡ record { value = 0x40000; tag = Public }
start_of_code = refl

end_of_code : slot_word (small_context (0x73 ∷ [])) 33 ≡ record { value = 0x40001; tag = Public }
end_of_code = refl

start_of_data : slot_word (small_context (0x73 ∷ [])) 34 ≡ record { value = 0x42000; tag = Public }
start_of_data = refl

end_of_data : slot_word (small_context (0x73 ∷ [])) 35 ≡ record { value = 0x42001; tag = Public }
end_of_data = refl

ended : done_of (small_context []) TapeEnd ≡ record { task_no = 3; count = 0; output = []; end = TapeEnd }
ended = refl
