-- The writes of an instruction are done part by part.
use Rattle.std.proofs.Common.{◌≡◌, ℕ, List, [], ◌∷◌, ◌++◌, refl, ◌∙◌}
use Rattle.isa_model.specs.declared.latch.Latch.{Latch}
use Rattle.isa_model.specs.Effect.{Write}
use Rattle.isa_model.specs.Alone.{with_value, values_after}

-- some writes and then others
in_two : (xs ys : List Write) (v : Latch → ℕ) → values_after (xs ++ ys) v ≡ values_after ys (values_after xs v)
in_two [] ys v = refl
in_two (x ∷ xs) ys v = in_two xs ys (with_value x.to x.value v)

pub in_order : (a b c d e f : List Write) (v : Latch → ℕ) → values_after (a ++ (b ++ (c ++ (d ++ (e ++ f))))) v
    ≡ values_after f (values_after e (values_after d (values_after c (values_after b (values_after a v)))))
in_order a b c d e f v =
    let v1 = values_after a v in
    let v2 = values_after b v1 in
    let v3 = values_after c v2 in
    in_two a (b ++ (c ++ (d ++ (e ++ f)))) v ∙ in_two b (c ++ (d ++ (e ++ f))) v1 ∙ in_two c (d ++ (e ++ f)) v2 ∙ in_two d (e ++ f) v3
    ∙ in_two e f (values_after d v3)
