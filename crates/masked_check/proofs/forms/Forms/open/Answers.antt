use Rattle.std.proofs.Common.{rules, ◌≡◌, ℕ, ◌+◌, List, [], ◌∷◌, ◌++◌, length, get_or, ap, sym, ◌∙◌, subst, arith}
use Rattle.std.proofs.lemmas.List.{get_or_append_left, get_or_at}
use Rattle.tape_terms.specs.declared.term.Term.{Term}
use Rattle.tape_terms.proofs.EachLaws.{length-one_more}
use Rattle.masked_worlds.specs.declared.role.Role.{Role}
use Rattle.masked_check.specs.Shown.{IsShown}
use Rattle.masked_check.specs.Forms.{seen, Leads}
use Rattle.masked_check.proofs.Steps.{more-leads}
use Rattle.masked_check.proofs.forms.Forms.open.Goals as goal

module _ (terms : List Term) (old one two : List (List ℕ)) (f g : List ℕ) (one_is : one ≡ old ++ f ∷ []) (two_is : two ≡ one ++ g ∷ []) where
  both_lead : (roles : List Role) → Leads roles terms old two
  both_lead roles shown =
      let carry : (fs gs : List (List ℕ)) → fs ≡ gs → IsShown roles (seen terms fs) → IsShown roles (seen terms gs) =
      λ fs gs e s. subst (λ (hs : List (List ℕ)). IsShown roles (seen terms hs)) e s in
      more-leads roles terms old f (carry one (old ++ f ∷ []) one_is (more-leads roles terms one g (carry two (one ++ g ∷ []) two_is shown)))

  long_one : length one ≡ length old + 1
  long_one = ap (length {A = List ℕ}) one_is ∙ (let more = length-one_more old f in omega arith)

  long_two : length two ≡ length old + 2
  long_two = ap (length {A = List ℕ}) two_is ∙ (let more = length-one_more one g in let before = long_one in omega arith)

  first_is : (n : ℕ) → n ≡ length old → get_or two n [] ≡ f
  first_is n at =
      let before = long_one in
      ap (λ (fs : List (List ℕ)). get_or fs n []) two_is ∙ get_or_append_left one (g ∷ []) [] n (omega arith)
      ∙ ap (λ (fs : List (List ℕ)). get_or fs n []) one_is ∙ get_or_at old f [] [] n (sym at)

  second_is : (n : ℕ) → n ≡ length old → get_or two (n + 1) [] ≡ g
  second_is n at =
      let before = long_one in
      ap (λ (fs : List (List ℕ)). get_or fs (n + 1) []) two_is ∙ get_or_at one g [] [] (n + 1) (omega arith)

pub loop-i-init : goal.loop-i-init
loop-i-init c =
    let old = c.args.self.now in let one = c.push.new.self in let two = c.push-2.new.self in
    let f = c.args.term.2 ∷ [] in let g = c.args.term.3 ∷ [] in
    let one_is : one ≡ old ++ f ∷ [] = search rules in
    let two_is : two ≡ one ++ g ∷ [] = search rules in
    let at : c.len-count.result ≡ length old = search rules in
    record {
      leads = both_lead c.args.terms.now old one two f g one_is two_is;
      long = (let long = long_two c.args.terms.now old one two f g one_is two_is in omega arith);
      first = first_is c.args.terms.now old one two f g one_is two_is c.len-count.result at;
      second = second_is c.args.terms.now old one two f g one_is two_is c.len-count.result at;
    }
