-- The definitions tried on six numbers. The gates and the tapes were computed by a program that shares nothing with this repository, from what
-- is published of the generator.
use Rattle.std.proofs.Common.{◌≡◌, ℕ, List, [], ◌∷◌, ◌++◌, take, length, codes, bit_xor, refl}
use Rattle.std.specs.Fmt.{digits}
use Rattle.rand_core.specs.Steps.{word_bytes, u32_at}
use Rattle.rand_core.specs.Pcg32Seed.{pcg32_seed}
use Rattle.bundle_text.specs.Text.{text_of}
use Rattle.masked_gen.specs.Draws.{word_draw, draws}
use Rattle.masked_gen.specs.Chain.{chain_value}
use Rattle.masked_gen.specs.Generator.{task_of, generated}
use Rattle.masked_gen.specs.declared.gate.Gate.TheVariants.{Xor, And}

first_0 : (generated 0 1).tasks ≡ task_of (And ∷ And ∷ Xor ∷ And ∷ []) (0x605eec85 ∷ 0x1de85c8e ∷ 0xaab5ec0e ∷ 0x035f39c0 ∷ 0x8cceaa3e ∷ 0x24c37cb1 ∷ 0x06f7569c ∷ []) ∷ []
unfolding generated word_draw draws pcg32_seed word_bytes u32_at
first_0 = refl

first_1 : (generated 1 1).tasks ≡ task_of (Xor ∷ And ∷ Xor ∷ And ∷ Xor ∷ Xor ∷ Xor ∷ []) (0xdbda25d4 ∷ 0x0d2ec398 ∷ 0x6436ee23 ∷ 0x4bd6aad4 ∷ 0xc0bbde57 ∷ 0x02316562 ∷ []) ∷ []
unfolding generated word_draw draws pcg32_seed word_bytes u32_at
first_1 = refl

first_7 : (generated 7 1).tasks ≡ task_of (Xor ∷ And ∷ []) (0xd2193ac4 ∷ 0x8d5c3bbc ∷ 0x518eb1ad ∷ 0x280d3624 ∷ 0xe2bd3d20 ∷ []) ∷ []
unfolding generated word_draw draws pcg32_seed word_bytes u32_at
first_7 = refl

first_42 : (generated 42 1).tasks ≡ task_of (Xor ∷ []) (0x1eb4d0ae ∷ 0xfbcfed44 ∷ 0x5cc0ffbe ∷ 0xa587db8d ∷ []) ∷ []
unfolding generated word_draw draws pcg32_seed word_bytes u32_at
first_42 = refl

first_123456789012345678 : (generated 123456789012345678 1).tasks ≡ task_of (Xor ∷ And ∷ Xor ∷ []) (0x350b07d1 ∷ 0xc38583a2 ∷ 0xc285ff86 ∷ 0x85eb5b46 ∷ 0x1d82ef58 ∷ []) ∷ []
unfolding generated word_draw draws pcg32_seed word_bytes u32_at
first_123456789012345678 = refl

first_18446744073709551615 : (generated 18446744073709551615 1).tasks ≡ task_of (Xor ∷ Xor ∷ And ∷ Xor ∷ Xor ∷ And ∷ And ∷ []) (0xaadae43a ∷ 0x7d94eb98 ∷ 0xb3450327 ∷ 0xf2104ae1 ∷ 0x18e1f034 ∷ 0x382bd571 ∷ 0x18b4fb6e ∷ []) ∷ []
unfolding generated word_draw draws pcg32_seed word_bytes u32_at
first_18446744073709551615 = refl

-- each task goes on where the one before it ended
four : (generated 1 4).tasks
    ≡ task_of (Xor ∷ And ∷ Xor ∷ And ∷ Xor ∷ Xor ∷ Xor ∷ []) (0xdbda25d4 ∷ 0x0d2ec398 ∷ 0x6436ee23 ∷ 0x4bd6aad4 ∷ 0xc0bbde57 ∷ 0x02316562 ∷ [])
    ∷ task_of (Xor ∷ Xor ∷ And ∷ And ∷ And ∷ Xor ∷ []) (0x19a9eaff ∷ 0x9a5b1657 ∷ 0x3dd2bbc7 ∷ 0x5385b47f ∷ 0xbcda556b ∷ 0xf8d7e7b2 ∷ 0x7ac03701 ∷ [])
    ∷ task_of (And ∷ And ∷ And ∷ Xor ∷ And ∷ Xor ∷ And ∷ Xor ∷ []) (0xd7856c3a ∷ 0xe9a660d5 ∷ 0x72e7485b ∷ 0xd5f59ec2 ∷ 0x00944c9e ∷ 0x5bb16765 ∷ 0xc996c7b2 ∷ 0x0bb8eed2 ∷ 0xec43e8a4 ∷ [])
    ∷ task_of (And ∷ And ∷ And ∷ And ∷ Xor ∷ Xor ∷ []) (0x30a3e6b8 ∷ 0xc75af1fe ∷ 0xc73aa973 ∷ 0x4b708ea6 ∷ 0x53713b2e ∷ 0x189038f4 ∷ 0x84e712d6 ∷ 0x5fb30f8e ∷ []) ∷ []
unfolding generated word_draw draws pcg32_seed word_bytes u32_at
four = refl

abbrev lf : List (List ℕ) → List ℕ
lf [] = []
lf (l ∷ ls) = l ++ 10 ∷ lf ls

-- the first five lines of a text, and how long it is
text : take 118 (text_of (generated 1 1))
    ≡ lf (codes "bundle 1" ∷ codes "slots 4" ∷ codes "plan 0 tail 5" ∷ codes "task fuel 1000 out 2 data 0" ∷ codes "tape dbda25d4 0d2ec398 6436ee23 4bd6aad4 c0bbde57 02316562" ∷ [])
unfolding generated word_draw draws pcg32_seed word_bytes u32_at digits
text = refl

size : length (text_of (generated 1 1)) ≡ 1382
unfolding generated word_draw draws pcg32_seed word_bytes u32_at digits
size = refl

-- what the chains of these tasks compute

chain_0 : chain_value (And ∷ And ∷ Xor ∷ And ∷ []) (bit_xor 0x605eec85 0x1de85c8e) (bit_xor 0xaab5ec0e 0x035f39c0) ≡ 0x804845c4
chain_0 = refl

chain_1 : chain_value (Xor ∷ And ∷ Xor ∷ And ∷ Xor ∷ Xor ∷ Xor ∷ []) (bit_xor 0xdbda25d4 0x0d2ec398) (bit_xor 0x6436ee23 0x4bd6aad4) ≡ 0x290000b3
chain_1 = refl

chain_7 : chain_value (Xor ∷ And ∷ []) (bit_xor 0xd2193ac4 0x8d5c3bbc) (bit_xor 0x518eb1ad 0x280d3624) ≡ 0x20828681
chain_7 = refl

chain_42 : chain_value (Xor ∷ []) (bit_xor 0x1eb4d0ae 0xfbcfed44) (bit_xor 0x5cc0ffbe 0xa587db8d) ≡ 0x1c3c19d9
chain_42 = refl

chain_123456789012345678 : chain_value (Xor ∷ And ∷ Xor ∷ []) (bit_xor 0x350b07d1 0xc38583a2) (bit_xor 0xc285ff86 0x85eb5b46) ≡ 0x460e8440
chain_123456789012345678 = refl

chain_18446744073709551615 : chain_value (Xor ∷ Xor ∷ And ∷ Xor ∷ Xor ∷ And ∷ And ∷ []) (bit_xor 0xaadae43a 0x7d94eb98) (bit_xor 0xb3450327 0xf2104ae1) ≡ 0x41440982
chain_18446744073709551615 = refl
