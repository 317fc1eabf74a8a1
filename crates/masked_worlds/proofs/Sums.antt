-- Words added, sums and differences modulo 2^32 are bijections of words, and so are two bijections one after the other.
use Rattle.std.proofs.Common.{◌≡◌, ℕ, ◌+◌, ◌-◌, ◌%◌, ◌<◌, List, ap, arith, set, ◌∙◌}
use Rattle.std.specs.Prelude.{bit_xor}
use Rattle.std.proofs.lemmas.Nat.{xor_lt}
use Rattle.isa_model.specs.declared.instr.Alu.TheVariants.{Add, Sub}
use Rattle.isa_model.specs.Arithmetic.{alu_of}
use Rattle.masked_worlds.specs.declared.pivot.Pivot.{Pivot}
use Rattle.masked_worlds.specs.declared.pivot.Pivot.TheVariants.{AtMask, AtShares}
use Rattle.masked_worlds.specs.Changes.{IsApart, IsApartFrom}
use Rattle.masked_worlds.specs.Forms.{TurnsCompose, AddedIsTurn, SumsAreTurns}
use Rattle.masked_worlds.proofs.Words.{xor-twice}

add_sub : (x e : ℕ) → x < 4294967296 → e < 4294967296 → ((x + e) % 4294967296 + 4294967296 - e) % 4294967296 ≡ x
add_sub x e low under = omega arith

sub_add : (x e : ℕ) → x < 4294967296 → e < 4294967296 → ((x + 4294967296 - e) % 4294967296 + e) % 4294967296 ≡ x
sub_add x e low under = omega arith

sub_sub : (x e : ℕ) → x < 4294967296 → e < 4294967296 → (e + 4294967296 - (e + 4294967296 - x) % 4294967296) % 4294967296 ≡ x
sub_sub x e low under = omega arith

word_low : (n : ℕ) → n % 4294967296 < 4294967296
word_low n = omega arith

-- what is made of a word that hangs on neither hangs on neither
pub apart-through : (f : ℕ → ℕ) (pivot : Pivot) (e : List ℕ → ℕ) → IsApartFrom pivot e → IsApartFrom pivot (λ t. f (e t))
apart-through f (AtMask place) e apart = λ t y. ap f (apart t y)
apart-through f (AtShares place partner) e apart = ((λ t y. ap f (apart.0 t y)), (λ t y. ap f (apart.1 t y)))

pub sums-are-turns : SumsAreTurns
sums-are-turns roles words pivot e low apart = (
  record {
    low = λ t x good under. word_low (x + e t);
    low_back = λ t x good under. word_low (x + 4294967296 - e t);
    undone = λ t x good under. add_sub x (e t) under (low t good);
    redone = λ t x good under. sub_add x (e t) under (low t good);
    apart = λ x. apart-through (λ (y : ℕ). alu_of Add x y) pivot e apart;
    apart_back = λ x. apart-through (λ (y : ℕ). alu_of Sub x y) pivot e apart;
  },
  record {
    low = λ t x good under. word_low (x + 4294967296 - e t);
    low_back = λ t x good under. word_low (x + e t);
    undone = λ t x good under. sub_add x (e t) under (low t good);
    redone = λ t x good under. add_sub x (e t) under (low t good);
    apart = λ x. apart-through (λ (y : ℕ). alu_of Sub x y) pivot e apart;
    apart_back = λ x. apart-through (λ (y : ℕ). alu_of Add x y) pivot e apart;
  },
  record {
    low = λ t x good under. word_low (e t + 4294967296 - x);
    low_back = λ t x good under. word_low (e t + 4294967296 - x);
    undone = λ t x good under. sub_sub x (e t) under (low t good);
    redone = λ t x good under. sub_sub x (e t) under (low t good);
    apart = λ x. apart-through (λ (y : ℕ). alu_of Sub y x) pivot e apart;
    apart_back = λ x. apart-through (λ (y : ℕ). alu_of Sub y x) pivot e apart;
  },
)

pub added-is-turn : AddedIsTurn
added-is-turn roles words pivot e low apart = record {
  low = λ t x good under. xor_lt 32 x (e t) under (low t good);
  low_back = λ t x good under. xor_lt 32 x (e t) under (low t good);
  undone = λ t x good under. xor-twice x (e t);
  redone = λ t x good under. xor-twice x (e t);
  apart = λ x. apart-through (λ (y : ℕ). bit_xor x y) pivot e apart;
  apart_back = λ x. apart-through (λ (y : ℕ). bit_xor x y) pivot e apart;
}

-- one after the other at a place, and at a pivot
apart_both : (place : ℕ) (f g : List ℕ → ℕ → ℕ) → ((x : ℕ) → IsApart place (λ t. f t x)) → ((x : ℕ) → IsApart place (λ t. g t x))
    → (x : ℕ) → IsApart place (λ t. g t (f t x))
apart_both place f g one two x t y = ap (λ (z : ℕ). g (set t place y) z) (one x t y) ∙ two (f t x) t y

apart_chain : (pivot : Pivot) (f g : List ℕ → ℕ → ℕ) → ((x : ℕ) → IsApartFrom pivot (λ t. f t x)) → ((x : ℕ) → IsApartFrom pivot (λ t. g t x))
    → (x : ℕ) → IsApartFrom pivot (λ t. g t (f t x))
apart_chain (AtMask place) f g one two x = apart_both place f g one two x
apart_chain (AtShares place partner) f g one two x =
    (apart_both place f g (λ y. (one y).0) (λ y. (two y).0) x, apart_both partner f g (λ y. (one y).1) (λ y. (two y).1) x)

pub turns-compose : TurnsCompose
turns-compose roles words pivot first first_back second second_back one two = record {
  low = λ t x good under. two.low t (first t x) good (one.low t x good under);
  low_back = λ t x good under. one.low_back t (second_back t x) good (two.low_back t x good under);
  undone = λ t x good under.
      ap (λ (z : ℕ). first_back t z) (two.undone t (first t x) good (one.low t x good under)) ∙ one.undone t x good under;
  redone = λ t x good under.
      ap (λ (z : ℕ). second t z) (one.redone t (second_back t x) good (two.low_back t x good under)) ∙ two.redone t x good under;
  apart = apart_chain pivot first second one.apart two.apart;
  apart_back = apart_chain pivot second_back first_back two.apart_back one.apart_back;
}
