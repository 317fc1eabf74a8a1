-- What the operands of a line are decided as is what they say by productions.
use Rattle.std.proofs.Common.{◌≡◌, ℕ, Bool, true, false, ◌&&◌, cond, List, [], ◌∷◌, codes, Some, None, Result, Ok, Err, refl, sym, ap, ◌∙◌}
use Rattle.std.specs.Str.{bytes_eq}
use Rattle.std.proofs.lemmas.Bool.{and_parts}
use Rattle.std.proofs.lemmas.Slice.Eq.{bytes_eq-Decides}
use Rattle.core_model.specs.declared.event.EventRun.{EventRun}
use Rattle.core_model.specs.declared.event.OrderRun.{OrderRun}
use Rattle.core_model.specs.declared.world.World.{World}
use Rattle.bundle_text.specs.Numbers.{number_in, word_of}
use Rattle.bundle_text.specs.Operands.{◌>>=◌, each, are_limit_words, band_token, limits_of, task_operands, quanta_tokens, plan_of, plan_operands, world_operands}
use Rattle.bundle_text.specs.Runs.{event_operand, order_operand}
use Rattle.bundle_text.specs.Lines.{task_with}
use Rattle.bundle_text.specs.Form.{IsHexWord}
use Rattle.bundle_text.specs.Grammar.{IsNumber, IsOrderRun, IsEventRun, AreEach, AreQuanta, IsPlan, IsBand, IsTaskHead, IsWorld}
use Rattle.bundle_text.specs.declared.bundle.PlanText.{PlanText}
use Rattle.bundle_text.specs.declared.bundle.TaskText.{TaskText}
use Rattle.bundle_text.specs.declared.bundle.BundleKind.{BundleKind}
use Rattle.bundle_text.specs.declared.bundle.BundleKind.TheVariants as kind
use Rattle.bundle_text.proofs.Steps.{same_ok, err_ok, then_ok, if_ok}
use Rattle.bundle_text.proofs.NumberLaws.{number_decided, word_decided}
use Rattle.bundle_text.proofs.RunLaws.{order_decided, event_decided}

-- ---- one token

pub number_is : (low high : ℕ) (token : List ℕ) (n : ℕ) → number_in low high token ≡ Ok n → IsNumber low high token n
number_is low high token n e =
    let p = ((number_decided low high token).value n).0 e in record { decimal = p.0; at_least = p.1.0; at_most = p.1.1 }

pub number_read : (low high : ℕ) (token : List ℕ) (n : ℕ) → IsNumber low high token n → number_in low high token ≡ Ok n
number_read low high token n h = ((number_decided low high token).value n).1 (h.decimal, (h.at_least, h.at_most))

word_is : (token : List ℕ) (word : ℕ) → word_of token ≡ Ok word → IsHexWord token word
word_is token word = ((word_decided token).value word).0

word_read : (token : List ℕ) (word : ℕ) → IsHexWord token word → word_of token ≡ Ok word
word_read token word = ((word_decided token).value word).1

event_is : (token : List ℕ) (run : EventRun) → event_operand token ≡ Ok run → IsEventRun token run
event_is token run = ((event_decided token).value run).0

event_read : (token : List ℕ) (run : EventRun) → IsEventRun token run → event_operand token ≡ Ok run
event_read token run = ((event_decided token).value run).1

order_is : (token : List ℕ) (run : OrderRun) → order_operand token ≡ Ok run → IsOrderRun token run
order_is token run = ((order_decided token).value run).0

order_read : (token : List ℕ) (run : OrderRun) → IsOrderRun token run → order_operand token ≡ Ok run
order_read token run = ((order_decided token).value run).1

-- ---- each token

each_is : {A : Type 0} (says : List ℕ → Result A BundleKind) (Says : List ℕ → A → Type 0) → ((t : List ℕ) (x : A) → says t ≡ Ok x → Says t x)
    → (ts : List (List ℕ)) (xs : List A) → each says ts ≡ Ok xs → AreEach Says ts xs
each_is {A} says Says is [] xs e = sym (same_ok {A = List A} [] xs e)
each_is {A} says Says is (t ∷ ts) xs e =
    let first = then_ok (says t) (λ x. each says ts >>= λ more. Ok (x ∷ more)) xs e in
    let others = then_ok (each says ts) (λ more. Ok (first.0 ∷ more)) xs first.2 in
    (first.0, others.0, sym (same_ok (first.0 ∷ others.0) xs others.2), is t first.0 first.1, each_is says Says is ts others.0 others.1)

each_read : {A : Type 0} (says : List ℕ → Result A BundleKind) (Says : List ℕ → A → Type 0) → ((t : List ℕ) (x : A) → Says t x → says t ≡ Ok x)
    → (ts : List (List ℕ)) (xs : List A) → AreEach Says ts xs → each says ts ≡ Ok xs
each_read {A} says Says read [] xs h = ap (λ (l : List A). Ok l) (sym h)
each_read {A} says Says read (t ∷ ts) xs h =
    ap (λ (r : Result A BundleKind). r >>= λ x. each says ts >>= λ more. Ok (x ∷ more)) (read t h.0 h.3)
    ∙ ap (λ (r : Result (List A) BundleKind). r >>= λ more. Ok (h.0 ∷ more)) (each_read says Says read ts h.1 h.4) ∙ ap (λ (l : List A). Ok l) (sym h.2)

pub words_are : (ts : List (List ℕ)) (words : List ℕ) → each word_of ts ≡ Ok words → AreEach IsHexWord ts words
words_are = each_is word_of IsHexWord word_is

pub words_read : (ts : List (List ℕ)) (words : List ℕ) → AreEach IsHexWord ts words → each word_of ts ≡ Ok words
words_read = each_read word_of IsHexWord word_read

pub events_are : (ts : List (List ℕ)) (runs : List EventRun) → each event_operand ts ≡ Ok runs → AreEach IsEventRun ts runs
events_are = each_is event_operand IsEventRun event_is

pub events_read : (ts : List (List ℕ)) (runs : List EventRun) → AreEach IsEventRun ts runs → each event_operand ts ≡ Ok runs
events_read = each_read event_operand IsEventRun event_read

pub order_runs_are : (ts : List (List ℕ)) (runs : List OrderRun) → each order_operand ts ≡ Ok runs → AreEach IsOrderRun ts runs
order_runs_are = each_is order_operand IsOrderRun order_is

pub order_runs_read : (ts : List (List ℕ)) (runs : List OrderRun) → AreEach IsOrderRun ts runs → each order_operand ts ≡ Ok runs
order_runs_read = each_read order_operand IsOrderRun order_read

-- ---- a plan

record ArePlanNumbers (hart tail : List ℕ) (quanta : List (List ℕ)) (plan : PlanText) : Type 0 where
  hart_is : IsNumber 0 7 hart plan.hart
  tail_is : IsNumber 1 4096 tail plan.plan.tail
  quanta_are : AreEach (IsNumber 0 4096) quanta plan.plan.quanta

plan_numbers : (hart tail : List ℕ) (quanta : List (List ℕ)) (plan : PlanText) → plan_of hart tail (Some quanta) ≡ Ok plan → ArePlanNumbers hart tail quanta plan
plan_numbers hart tail quanta plan e =
    let h = then_ok (number_in 0 7 hart) (λ h. number_in 1 4096 tail >>= λ t. each (number_in 0 4096) quanta >>= λ qs.
    Ok (record { hart = h; plan = record { quanta = qs; tail = t } })) plan e in
    let t = then_ok (number_in 1 4096 tail) (λ t. each (number_in 0 4096) quanta >>= λ qs.
    Ok (record { hart = h.0; plan = record { quanta = qs; tail = t } })) plan h.2 in
    let q = then_ok (each (number_in 0 4096) quanta) (λ qs. Ok (record { hart = h.0; plan = record { quanta = qs; tail = t.0 } })) plan t.2 in
    let found : PlanText = record { hart = h.0; plan = record { quanta = q.0; tail = t.0 } } in
    let same : found ≡ plan = same_ok found plan q.2 in
    rw (← same) (record {
      hart_is = number_is 0 7 hart h.0 h.1;
      tail_is = number_is 1 4096 tail t.0 t.1;
      quanta_are = each_is (number_in 0 4096) (IsNumber 0 4096) (number_is 0 4096) quanta q.0 q.1;
    })

plan_numbers_read : (hart tail : List ℕ) (quanta : List (List ℕ)) (plan : PlanText) → ArePlanNumbers hart tail quanta plan → plan_of hart tail (Some quanta) ≡ Ok plan
plan_numbers_read hart tail quanta plan h =
    let of : ℕ → ℕ → List ℕ → PlanText = λ h t qs. record { hart = h; plan = record { quanta = qs; tail = t } } in
    ap (λ r. r >>= λ h. number_in 1 4096 tail >>= λ t. each (number_in 0 4096) quanta >>= λ qs. Ok (of h t qs)) (number_read 0 7 hart plan.hart h.hart_is)
    ∙ ap (λ r. r >>= λ t. each (number_in 0 4096) quanta >>= λ qs. Ok (of plan.hart t qs)) (number_read 1 4096 tail plan.plan.tail h.tail_is)
    ∙ ap (λ r. r >>= λ qs. Ok (of plan.hart plan.plan.tail qs))
    (each_read (number_in 0 4096) (IsNumber 0 4096) (number_read 0 4096) quanta plan.plan.quanta h.quanta_are)

plan_with_quanta : (t : Bool) (hart tail word : List ℕ) (quanta : List (List ℕ)) (plan : PlanText) → bytes_eq word (codes "quanta") ≡ t
    → plan_of hart tail (cond t (Some quanta) None) ≡ Ok plan → IsPlan (hart ∷ codes "tail" ∷ tail ∷ word ∷ quanta) plan
plan_with_quanta true hart tail word quanta plan e h =
    let n = plan_numbers hart tail quanta plan h in record {
      hart = hart;
      tail = tail;
      quanta = word ∷ quanta;
      parts = refl;
      hart_is = n.hart_is;
      tail_is = n.tail_is;
      quanta_are = ((bytes_eq-Decides word (codes "quanta")).0 e, n.quanta_are);
    }
plan_with_quanta false hart tail word quanta plan e h = absurd (err_ok plan kind.Operands h)

plan_of_rest : (hart tail : List ℕ) (rest : List (List ℕ)) (plan : PlanText) → plan_of hart tail (quanta_tokens rest) ≡ Ok plan
    → IsPlan (hart ∷ codes "tail" ∷ tail ∷ rest) plan
plan_of_rest hart tail [] plan e =
    let n = plan_numbers hart tail [] plan e in
    record { hart = hart; tail = tail; quanta = []; parts = refl; hart_is = n.hart_is; tail_is = n.tail_is; quanta_are = n.quanta_are }
plan_of_rest hart tail (word ∷ quanta) plan e = plan_with_quanta (bytes_eq word (codes "quanta")) hart tail word quanta plan refl e

pub plan_is : (ts : List (List ℕ)) (plan : PlanText) → plan_operands ts ≡ Ok plan → IsPlan ts plan
plan_is [] plan e = absurd (err_ok plan kind.Operands e)
plan_is (hart ∷ []) plan e = absurd (err_ok plan kind.Operands e)
plan_is (hart ∷ word ∷ []) plan e = absurd (err_ok plan kind.Operands e)
plan_is (hart ∷ word ∷ tail ∷ rest) plan e =
    let p = if_ok (bytes_eq word (codes "tail")) (plan_of hart tail (quanta_tokens rest)) kind.Operands plan e in
    let named : word ≡ codes "tail" = (bytes_eq-Decides word (codes "tail")).0 p.0 in
    rw named (plan_of_rest hart tail rest plan p.1)

plan_rest_read : (hart tail : List ℕ) (rest : List (List ℕ)) (plan : PlanText) → IsNumber 0 7 hart plan.hart → IsNumber 1 4096 tail plan.plan.tail
    → AreQuanta rest plan.plan.quanta → plan_of hart tail (quanta_tokens rest) ≡ Ok plan
plan_rest_read hart tail [] plan h t q = plan_numbers_read hart tail [] plan (record { hart_is = h; tail_is = t; quanta_are = q })
plan_rest_read hart tail (word ∷ quanta) plan h t q =
    ap (λ w. plan_of hart tail (quanta_tokens (w ∷ quanta))) q.0
    ∙ plan_numbers_read hart tail quanta plan (record { hart_is = h; tail_is = t; quanta_are = q.1 })

pub plan_read : (ts : List (List ℕ)) (plan : PlanText) → IsPlan ts plan → plan_operands ts ≡ Ok plan
plan_read ts plan h = ap (λ l. plan_operands l) h.parts ∙ plan_rest_read h.hart h.tail h.quanta plan h.hart_is h.tail_is h.quanta_are

-- ---- the head of a task

-- the numbers of a task and the tokens that say its band
record AreLimits (fuel out_max data_len : List ℕ) (has_bands : Bool) (band : List (List ℕ)) (limits : ℕ × ℕ × ℕ × ℕ) : Type 0 where
  fuel_is : IsNumber 1 100000 fuel limits.0
  out_max_is : IsNumber 0 4096 out_max limits.1
  data_len_is : IsNumber 0 1024 data_len limits.2
  band_is : IsBand has_bands band limits.3

limits_are : (fuel out_max data_len token : List ℕ) (has_bands : Bool) (band : List (List ℕ)) (limits : ℕ × ℕ × ℕ × ℕ)
    → limits_of fuel out_max data_len (Some token) ≡ Ok limits → ((n : ℕ) → number_in 0 1 token ≡ Ok n → IsBand has_bands band n)
    → AreLimits fuel out_max data_len has_bands band limits
limits_are fuel out_max data_len token has_bands band limits e is =
    let f = then_ok (number_in 1 100000 fuel) (λ f. number_in 0 4096 out_max >>= λ o. number_in 0 1024 data_len >>= λ d. number_in 0 1 token >>= λ b. Ok (f, o, d, b)) limits e in
    let o = then_ok (number_in 0 4096 out_max) (λ o. number_in 0 1024 data_len >>= λ d. number_in 0 1 token >>= λ b. Ok (f.0, o, d, b)) limits f.2 in
    let d = then_ok (number_in 0 1024 data_len) (λ d. number_in 0 1 token >>= λ b. Ok (f.0, o.0, d, b)) limits o.2 in
    let b = then_ok (number_in 0 1 token) (λ b. Ok (f.0, o.0, d.0, b)) limits d.2 in
    let found : ℕ × ℕ × ℕ × ℕ = (f.0, o.0, d.0, b.0) in
    let same : found ≡ limits = same_ok found limits b.2 in
    rw (← same) (record {
      fuel_is = number_is 1 100000 fuel f.0 f.1;
      out_max_is = number_is 0 4096 out_max o.0 o.1;
      data_len_is = number_is 0 1024 data_len d.0 d.1;
      band_is = is b.0 b.1;
    })

no_limits : (fuel out_max data_len : List ℕ) (has_bands : Bool) (band : List (List ℕ)) (limits : ℕ × ℕ × ℕ × ℕ)
    → ◌≡◌ {A = Result (ℕ × ℕ × ℕ × ℕ) BundleKind} (Err kind.Operands) (Ok limits) → AreLimits fuel out_max data_len has_bands band limits
no_limits fuel out_max data_len has_bands band limits e = absurd (err_ok limits kind.Operands e)

named_limits : (t : Bool) (fuel out_max data_len word token : List ℕ) (limits : ℕ × ℕ × ℕ × ℕ) → bytes_eq word (codes "band") ≡ t
    → limits_of fuel out_max data_len (cond t (Some token) None) ≡ Ok limits → AreLimits fuel out_max data_len true (word ∷ token ∷ []) limits
named_limits true fuel out_max data_len word token limits named e =
    limits_are fuel out_max data_len token true (word ∷ token ∷ []) limits e
    (λ n is. (token, ap (λ w. w ∷ token ∷ []) ((bytes_eq-Decides word (codes "band")).0 named), number_is 0 1 token n is))
named_limits false fuel out_max data_len word token limits named e = no_limits fuel out_max data_len true (word ∷ token ∷ []) limits e

rest_limits : (has_bands : Bool) (rest : List (List ℕ)) (fuel out_max data_len : List ℕ) (limits : ℕ × ℕ × ℕ × ℕ)
    → limits_of fuel out_max data_len (band_token has_bands rest) ≡ Ok limits → AreLimits fuel out_max data_len has_bands rest limits
rest_limits false [] fuel out_max data_len limits e =
    limits_are fuel out_max data_len (codes "0") false [] limits e (λ n is. (refl, sym (same_ok 0 n is)))
rest_limits true (word ∷ token ∷ []) fuel out_max data_len limits e =
    named_limits (bytes_eq word (codes "band")) fuel out_max data_len word token limits refl e
rest_limits true [] fuel out_max data_len limits e = no_limits fuel out_max data_len true [] limits e
rest_limits has_bands (word ∷ []) fuel out_max data_len limits e = no_limits fuel out_max data_len has_bands (word ∷ []) limits e
rest_limits false (word ∷ token ∷ []) fuel out_max data_len limits e = no_limits fuel out_max data_len false (word ∷ token ∷ []) limits e
rest_limits has_bands (word ∷ token ∷ more ∷ tokens) fuel out_max data_len limits e =
    no_limits fuel out_max data_len has_bands (word ∷ token ∷ more ∷ tokens) limits e

abbrev head_tokens : List ℕ → List ℕ → List ℕ → List (List ℕ) → List (List ℕ)
head_tokens fuel out_max data_len band = codes "fuel" ∷ fuel ∷ codes "out" ∷ out_max ∷ codes "data" ∷ data_len ∷ band

-- a task whose numbers these are
abbrev pub task_of : (ℕ × ℕ × ℕ × ℕ) → TaskText
task_of limits = task_with limits.0 limits.1 limits.2 limits.3

head_of_rest : (has_bands : Bool) (fuel out_max data_len : List ℕ) (rest : List (List ℕ)) (limits : ℕ × ℕ × ℕ × ℕ)
    → limits_of fuel out_max data_len (band_token has_bands rest) ≡ Ok limits
    → IsTaskHead has_bands (head_tokens fuel out_max data_len rest) (task_of limits)
head_of_rest has_bands fuel out_max data_len rest limits e =
    let is = rest_limits has_bands rest fuel out_max data_len limits e in
    record {
      fuel = fuel;
      out_max = out_max;
      data_len = data_len;
      band = rest;
      parts = refl;
      fuel_is = is.fuel_is;
      out_max_is = is.out_max_is;
      data_len_is = is.data_len_is;
      band_is = is.band_is;
    }

head_with_words : (has_bands : Bool) (fuel_word fuel out_word out_max data_word data_len : List ℕ) (rest : List (List ℕ)) (limits : ℕ × ℕ × ℕ × ℕ)
    → are_limit_words fuel_word out_word data_word ≡ true → limits_of fuel out_max data_len (band_token has_bands rest) ≡ Ok limits
    → IsTaskHead has_bands (fuel_word ∷ fuel ∷ out_word ∷ out_max ∷ data_word ∷ data_len ∷ rest) (task_of limits)
head_with_words has_bands fuel_word fuel out_word out_max data_word data_len rest limits named e =
    let p = and_parts (bytes_eq fuel_word (codes "fuel") && bytes_eq out_word (codes "out")) (bytes_eq data_word (codes "data")) named in
    let q = and_parts (bytes_eq fuel_word (codes "fuel")) (bytes_eq out_word (codes "out")) p.0 in
    let fuel_named : fuel_word ≡ codes "fuel" = (bytes_eq-Decides fuel_word (codes "fuel")).0 q.0 in
    let out_named : out_word ≡ codes "out" = (bytes_eq-Decides out_word (codes "out")).0 q.1 in
    let data_named : data_word ≡ codes "data" = (bytes_eq-Decides data_word (codes "data")).0 p.1 in
    rw (fuel_named, out_named, data_named) (head_of_rest has_bands fuel out_max data_len rest limits e)

no_head : (has_bands : Bool) (ts : List (List ℕ)) (limits : ℕ × ℕ × ℕ × ℕ) → ◌≡◌ {A = Result (ℕ × ℕ × ℕ × ℕ) BundleKind} (Err kind.Operands) (Ok limits)
    → IsTaskHead has_bands ts (task_of limits)
no_head has_bands ts limits e = absurd (err_ok limits kind.Operands e)

pub head_is : (has_bands : Bool) (ts : List (List ℕ)) (limits : ℕ × ℕ × ℕ × ℕ) → task_operands has_bands ts ≡ Ok limits
    → IsTaskHead has_bands ts (task_of limits)
head_is has_bands (fuel_word ∷ fuel ∷ out_word ∷ out_max ∷ data_word ∷ data_len ∷ rest) limits e =
    let p = if_ok (are_limit_words fuel_word out_word data_word) (limits_of fuel out_max data_len (band_token has_bands rest)) kind.Operands limits e in
    head_with_words has_bands fuel_word fuel out_word out_max data_word data_len rest limits p.0 p.1
head_is has_bands ts limits e = no_head has_bands ts limits e

limits_read : (fuel out_max data_len token : List ℕ) (task : TaskText) → IsNumber 1 100000 fuel task.fuel → IsNumber 0 4096 out_max task.out_max
    → IsNumber 0 1024 data_len task.data_len → number_in 0 1 token ≡ Ok task.band
    → limits_of fuel out_max data_len (Some token) ≡ Ok (task.fuel, task.out_max, task.data_len, task.band)
limits_read fuel out_max data_len token task f o d b =
    ap (λ r. r >>= λ f. number_in 0 4096 out_max >>= λ o. number_in 0 1024 data_len >>= λ d. number_in 0 1 token >>= λ b. Ok (f, o, d, b))
    (number_read 1 100000 fuel task.fuel f)
    ∙ ap (λ r. r >>= λ o. number_in 0 1024 data_len >>= λ d. number_in 0 1 token >>= λ b. Ok (task.fuel, o, d, b)) (number_read 0 4096 out_max task.out_max o)
    ∙ ap (λ r. r >>= λ d. number_in 0 1 token >>= λ b. Ok (task.fuel, task.out_max, d, b)) (number_read 0 1024 data_len task.data_len d)
    ∙ ap (λ r. r >>= λ b. Ok (task.fuel, task.out_max, task.data_len, b)) b

band_read : (has_bands : Bool) (fuel out_max data_len : List ℕ) (band : List (List ℕ)) (task : TaskText) → IsNumber 1 100000 fuel task.fuel
    → IsNumber 0 4096 out_max task.out_max → IsNumber 0 1024 data_len task.data_len → IsBand has_bands band task.band
    → task_operands has_bands (head_tokens fuel out_max data_len band) ≡ Ok (task.fuel, task.out_max, task.data_len, task.band)
band_read false fuel out_max data_len band task f o d b =
    ap (λ l. task_operands false (head_tokens fuel out_max data_len l)) b.0
    ∙ limits_read fuel out_max data_len (codes "0") task f o d (ap (λ (n : ℕ). Ok n) (sym b.1))
band_read true fuel out_max data_len band task f o d b =
    ap (λ l. task_operands true (head_tokens fuel out_max data_len l)) b.1
    ∙ limits_read fuel out_max data_len b.0 task f o d (number_read 0 1 b.0 task.band b.2)

pub head_read : (has_bands : Bool) (ts : List (List ℕ)) (task : TaskText) → IsTaskHead has_bands ts task
    → task_operands has_bands ts ≡ Ok (task.fuel, task.out_max, task.data_len, task.band)
head_read has_bands ts task h =
    ap (λ l. task_operands has_bands l) h.parts ∙ band_read has_bands h.fuel h.out_max h.data_len h.band task h.fuel_is h.out_max_is h.data_len_is h.band_is

-- ---- a world

pub world_is : (ts : List (List ℕ)) (world : World) → world_operands [] ts ≡ Ok world → IsWorld ts world
world_is [] world e = absurd (err_ok world kind.Operands e)
world_is (secret ∷ tape) world e =
    let s = then_ok (number_in 0 0xffffffff secret) (λ s. each word_of tape >>= λ t. Ok (record { secret = s; tape = t })) world e in
    let t = then_ok (each word_of tape) (λ t. Ok (record { secret = s.0; tape = t })) world s.2 in
    let found : World = record { secret = s.0; tape = t.0 } in
    let same : found ≡ world = same_ok found world t.2 in
    rw (← same) (record {
      secret = secret;
      tape = tape;
      parts = refl;
      secret_is = number_is 0 0xffffffff secret s.0 s.1;
      tape_is = words_are tape t.0 t.1;
    })

pub world_read : (ts : List (List ℕ)) (world : World) → IsWorld ts world → world_operands [] ts ≡ Ok world
world_read ts world h =
    ap (λ l. world_operands [] l) h.parts
    ∙ ap (λ r. r >>= λ s. each word_of h.tape >>= λ t. Ok (record { secret = s; tape = t })) (number_read 0 0xffffffff h.secret world.secret h.secret_is)
    ∙ ap (λ r. r >>= λ t. Ok (record { secret = world.secret; tape = t })) (words_read h.tape world.tape h.tape_is)
