-- The kernel's words, computed from its text: they are those that an assembler of another project (LLVM's) gives for the same text.
use Rattle.std.proofs.Common.{◌≡◌, refl, ℕ, List, [], ◌∷◌, ◌++◌, length, get_or}
use Rattle.core_model.specs.KernelText.{Entry, Interrupt, Timer, Service, DoYield, DoExit, DoOut, OutFull, DoIn, TapeEnd, Finish, Ready, Take, Idle, kernel_lines}
use Rattle.core_model.specs.KernelWords.{address_of, save_words, restore_words, kernel_words, linked_words, kernel_code, linked_code, naive_code}

-- the save part, what stands between, the restore part, and the last two
abbrev save : List ℕ
save =
    0x02000033 ∷ 0x340292f3 ∷ 0x10002023 ∷ 0x10002003 ∷ 0x0002a223 ∷ 0x0012a223 ∷ 0x00000093 ∷ 0x0002a423
    ∷ 0x0022a423 ∷ 0x00000113 ∷ 0x0002a623 ∷ 0x0032a623 ∷ 0x00000193 ∷ 0x0002a823 ∷ 0x0042a823 ∷ 0x00000213
    ∷ 0x0002ac23 ∷ 0x0062ac23 ∷ 0x00000313 ∷ 0x0002ae23 ∷ 0x0072ae23 ∷ 0x00000393 ∷ 0x0202a023 ∷ 0x0282a023
    ∷ 0x00000413 ∷ 0x0202a223 ∷ 0x0292a223 ∷ 0x00000493 ∷ 0x0202a423 ∷ 0x02a2a423 ∷ 0x00000513 ∷ 0x0202a623
    ∷ 0x02b2a623 ∷ 0x00000593 ∷ 0x0202a823 ∷ 0x02c2a823 ∷ 0x00000613 ∷ 0x0202aa23 ∷ 0x02d2aa23 ∷ 0x00000693
    ∷ 0x0202ac23 ∷ 0x02e2ac23 ∷ 0x00000713 ∷ 0x0202ae23 ∷ 0x02f2ae23 ∷ 0x00000793 ∷ 0x0402a023 ∷ 0x0502a023
    ∷ 0x00000813 ∷ 0x0402a223 ∷ 0x0512a223 ∷ 0x00000893 ∷ 0x0402a423 ∷ 0x0522a423 ∷ 0x00000913 ∷ 0x0402a623
    ∷ 0x0532a623 ∷ 0x00000993 ∷ 0x0402a823 ∷ 0x0542a823 ∷ 0x00000a13 ∷ 0x0402aa23 ∷ 0x0552aa23 ∷ 0x00000a93
    ∷ 0x0402ac23 ∷ 0x0562ac23 ∷ 0x00000b13 ∷ 0x0402ae23 ∷ 0x0572ae23 ∷ 0x00000b93 ∷ 0x0602a023 ∷ 0x0782a023
    ∷ 0x00000c13 ∷ 0x0602a223 ∷ 0x0792a223 ∷ 0x00000c93 ∷ 0x0602a423 ∷ 0x07a2a423 ∷ 0x00000d13 ∷ 0x0602a623
    ∷ 0x07b2a623 ∷ 0x00000d93 ∷ 0x0602a823 ∷ 0x07c2a823 ∷ 0x00000e13 ∷ 0x0602aa23 ∷ 0x07d2aa23 ∷ 0x00000e93
    ∷ 0x0602ac23 ∷ 0x07e2ac23 ∷ 0x00000f13 ∷ 0x0602ae23 ∷ 0x07f2ae23 ∷ 0x00000f93 ∷ 0x10002023 ∷ 0x34002373
    ∷ 0x0002aa23 ∷ 0x0062aa23 ∷ 0x00000313 ∷ 0x10002023 ∷ 0x34029073
    ∷ []

abbrev middle : List ℕ
middle =
    0x34102373 ∷ 0x0062a023 ∷ 0x342023f3 ∷ 0x00800313 ∷ 0x02638663 ∷ 0x0003c663 ∷ 0x70702c23 ∷ 0x0e80006f
    ∷ 0x80000337 ∷ 0x00730313 ∷ 0x00638663 ∷ 0x70702c23 ∷ 0x0d40006f ∷ 0x70002e23 ∷ 0x1540006f ∷ 0x0002a303
    ∷ 0x00430313 ∷ 0x0062a023 ∷ 0x0442a303 ∷ 0x10002003 ∷ 0x02030a63 ∷ 0x00100393 ∷ 0x04730463 ∷ 0x00200393
    ∷ 0x06730863 ∷ 0x00300393 ∷ 0x00730a63 ∷ 0x00000313 ∷ 0x10200393 ∷ 0x70702c23 ∷ 0x08c0006f ∷ 0x00000313
    ∷ 0x10c0006f ∷ 0x00000313 ∷ 0x0282a303 ∷ 0x70602a23 ∷ 0x00000313 ∷ 0x10002023 ∷ 0x10002003 ∷ 0x0680006f
    ∷ 0x00000313 ∷ 0x72002303 ∷ 0x00030e63 ∷ 0x0282a303 ∷ 0x70602423 ∷ 0x00000313 ∷ 0x10002023 ∷ 0x10002003
    ∷ 0x0cc0006f ∷ 0x10100393 ∷ 0x70702c23 ∷ 0x0380006f ∷ 0x00000313 ∷ 0x71002303 ∷ 0x02030063 ∷ 0x0202a423
    ∷ 0x70c02303 ∷ 0x0262a423 ∷ 0x00000313 ∷ 0x10002023 ∷ 0x10002003 ∷ 0x0980006f ∷ 0x10000393 ∷ 0x70702c23
    ∷ 0x0040006f ∷ 0x0002a223 ∷ 0x0002a423 ∷ 0x0002a623 ∷ 0x0002a823 ∷ 0x0002aa23 ∷ 0x0002ac23 ∷ 0x0002ae23
    ∷ 0x0202a023 ∷ 0x0202a223 ∷ 0x0202a423 ∷ 0x0202a623 ∷ 0x0202a823 ∷ 0x0202aa23 ∷ 0x0202ac23 ∷ 0x0202ae23
    ∷ 0x0402a023 ∷ 0x0402a223 ∷ 0x0402a423 ∷ 0x0402a623 ∷ 0x0402a823 ∷ 0x0402aa23 ∷ 0x0402ac23 ∷ 0x0402ae23
    ∷ 0x0602a023 ∷ 0x0602a223 ∷ 0x0602a423 ∷ 0x0602a623 ∷ 0x0602a823 ∷ 0x0602aa23 ∷ 0x0602ac23 ∷ 0x0602ae23
    ∷ 0x00100313 ∷ 0x70602223 ∷ 0x0080006f ∷ 0x70002223 ∷ 0x70002283 ∷ 0x12028663 ∷ 0x34029073 ∷ 0x0802a303
    ∷ 0x3b031073 ∷ 0x0842a303 ∷ 0x3b131073 ∷ 0x0882a303 ∷ 0x3b231073 ∷ 0x08c2a303 ∷ 0x3b331073 ∷ 0x0002a303
    ∷ 0x34131073
    ∷ []

abbrev restore : List ℕ
restore =
    0x0042a083 ∷ 0x10002003 ∷ 0x0082a103 ∷ 0x10002003 ∷ 0x00c2a183 ∷ 0x10002003 ∷ 0x0102a203 ∷ 0x10002003
    ∷ 0x0182a303 ∷ 0x10002003 ∷ 0x01c2a383 ∷ 0x10002003 ∷ 0x0202a403 ∷ 0x10002003 ∷ 0x0242a483 ∷ 0x10002003
    ∷ 0x0282a503 ∷ 0x10002003 ∷ 0x02c2a583 ∷ 0x10002003 ∷ 0x0302a603 ∷ 0x10002003 ∷ 0x0342a683 ∷ 0x10002003
    ∷ 0x0382a703 ∷ 0x10002003 ∷ 0x03c2a783 ∷ 0x10002003 ∷ 0x0402a803 ∷ 0x10002003 ∷ 0x0442a883 ∷ 0x10002003
    ∷ 0x0482a903 ∷ 0x10002003 ∷ 0x04c2a983 ∷ 0x10002003 ∷ 0x0502aa03 ∷ 0x10002003 ∷ 0x0542aa83 ∷ 0x10002003
    ∷ 0x0582ab03 ∷ 0x10002003 ∷ 0x05c2ab83 ∷ 0x10002003 ∷ 0x0602ac03 ∷ 0x10002003 ∷ 0x0642ac83 ∷ 0x10002003
    ∷ 0x0682ad03 ∷ 0x10002003 ∷ 0x06c2ad83 ∷ 0x10002003 ∷ 0x0702ae03 ∷ 0x10002003 ∷ 0x0742ae83 ∷ 0x10002003
    ∷ 0x0782af03 ∷ 0x10002003 ∷ 0x07c2af83 ∷ 0x10002003 ∷ 0x0142a283 ∷ 0x10002003
    ∷ []

abbrev last : List ℕ
last = 0x30200073 ∷ 0x0000006f ∷ []

all_words : kernel_words ≡ save ++ middle ++ restore ++ last
all_words = refl

how_many : length kernel_words ≡ 278
how_many = refl

first_word : get_or kernel_words 0 0 ≡ 0x02000033
first_word = refl

save_part : save_words ≡ save
save_part = refl

restore_part : restore_words ≡ restore
restore_part = refl

-- the kernel is linked of its own parts
linked_of_its_parts : linked_code save restore ≡ kernel_code
linked_of_its_parts = refl

address_of_entry : address_of Entry kernel_lines ≡ 0x1000
address_of_entry = refl

address_of_interrupt : address_of Interrupt kernel_lines ≡ 0x11b4
address_of_interrupt = refl

address_of_timer : address_of Timer kernel_lines ≡ 0x11c8
address_of_timer = refl

address_of_service : address_of Service kernel_lines ≡ 0x11d0
address_of_service = refl

address_of_do_yield : address_of DoYield kernel_lines ≡ 0x1210
address_of_do_yield = refl

address_of_do_exit : address_of DoExit kernel_lines ≡ 0x1218
address_of_do_exit = refl

address_of_do_out : address_of DoOut kernel_lines ≡ 0x1234
address_of_do_out = refl

address_of_out_full : address_of OutFull kernel_lines ≡ 0x1258
address_of_out_full = refl

address_of_do_in : address_of DoIn kernel_lines ≡ 0x1264
address_of_do_in = refl

address_of_tape_end : address_of TapeEnd kernel_lines ≡ 0x128c
address_of_tape_end = refl

address_of_finish : address_of Finish kernel_lines ≡ 0x1298
address_of_finish = refl

address_of_ready : address_of Ready kernel_lines ≡ 0x1320
address_of_ready = refl

address_of_take : address_of Take kernel_lines ≡ 0x1324
address_of_take = refl

address_of_idle : address_of Idle kernel_lines ≡ 0x1454
address_of_idle = refl

-- with a longer save part the take stands later; with a longer restore part the branch to the loop goes further, by 304 bytes in
-- place of 300
longer_save : (linked_code (0x00000033 ∷ save) restore).take ≡ 0x1328
longer_save = refl

branch_to_idle : get_or kernel_words 202 0 ≡ 0x12028663
branch_to_idle = refl

longer_restore : get_or (linked_words save (0x00000033 ∷ restore)) 202 0 ≡ 0x12028863
longer_restore = refl

-- the kernel for demonstration: csrrw x5,mscratch,x5; sw x1,4(x5); sw x2,8(x5); ..; a jump to itself; and from 0x1080 on the take
naive_save : (get_or naive_code.words 0 0 ≡ 0x340292f3) × (get_or naive_code.words 1 0 ≡ 0x0012a223) × (get_or naive_code.words 2 0 ≡ 0x0022a423)
naive_save = (refl, refl, refl)

naive_loop : get_or naive_code.words 31 0 ≡ 0x0000006f
naive_loop = refl

naive_take : (naive_code.take ≡ 0x1080) × (get_or naive_code.words 32 0 ≡ 0x70002283)
naive_take = (refl, refl)
