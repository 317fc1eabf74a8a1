-- A mixture says its parts.
use Rattle.std.proofs.Common.{◌≡◌, ◌⊎◌, inl, inr, refl, List, [], ◌∷◌, All}
use Rattle.std.proofs.lemmas.List.Elements.{All-nil, All-cons, All-head, All-tail}
use Rattle.hart_model.specs.declared.tag.Tag.{Tag}
use Rattle.hart_model.specs.declared.tag.Tag.TheVariants.{Public, Of, Many}
use Rattle.hart_model.specs.Taint.{mixture_of}
use Rattle.hart_model.specs.WhyLaws.{MixtureSaysItsParts}

all_where_public : (tags : List Tag) → mixture_of tags ≡ Public → All (λ tag. tag ≡ Public) tags
all_where_public [] h = All-nil _
all_where_public (Public ∷ ts) h = All-cons (λ (tag : Tag). tag ≡ Public) Public ts refl (all_where_public ts h)
all_where_public (Of task n k ∷ ts) h = cc
all_where_public (Many ∷ ts) h = cc

public_where_all : (tags : List Tag) → All (λ tag. tag ≡ Public) tags → mixture_of tags ≡ Public
public_where_all [] h = refl
public_where_all (Public ∷ ts) h = public_where_all ts (All-tail (λ (tag : Tag). tag ≡ Public) Public ts h)
public_where_all (Of task n k ∷ ts) h = let e = All-head (λ (tag : Tag). tag ≡ Public) (Of task n k) ts h in cc
public_where_all (Many ∷ ts) h = let e = All-head (λ (tag : Tag). tag ≡ Public) Many ts h in cc

-- there are no others
public_or_many : (tags : List Tag) → (mixture_of tags ≡ Public) ⊎ (mixture_of tags ≡ Many)
public_or_many [] = inl refl
public_or_many (Public ∷ ts) = public_or_many ts
public_or_many (Of task n k ∷ ts) = inr refl
public_or_many (Many ∷ ts) = inr refl

many_where_not_all : (tags : List Tag) → ¬ All (λ tag. tag ≡ Public) tags → mixture_of tags ≡ Many
many_where_not_all tags h = elim (public_or_many tags) [ inl public ↦ absurd (h (all_where_public tags public)) | inr many ↦ many ]

pub mixture_says_its_parts : MixtureSaysItsParts
mixture_says_its_parts = record {
  public = λ tags. (all_where_public tags, public_where_all tags);
  many = λ tags. (λ many all. let public = public_where_all tags all in cc, many_where_not_all tags);
}
