-- Places whose numbers look alike have all groups alike.
use Rattle.std.proofs.Common.{◌≡◌, ◌⊎◌, inl, inr, ℕ, ◌+◌, ◌<◌, ◌≤◌, ◌==◌, ◌&&◌, Bool, true, false, not, true≢false, cond, if◌then◌else◌, List, [], ◌∷◌, ◌++◌, map, take, drop, length, length-append, get_or, slice_get, Some, All, IsPermutation, refl, ap, sym, ◌∙◌, subst, arith}
use Rattle.std.specs.List.{count_by}
use Rattle.std.specs.Cmp.Lexicographic.{pointwise}
use Rattle.std.specs.Prelude.{nat_eq}
use Rattle.std.proofs.Math.Seq.{take-append_seam, get_or-append_seam}
use Rattle.std.proofs.lemmas.Bool.{cases_lt}
use Rattle.std.proofs.lemmas.Bool.Decides.{Decides-eqb}
use Rattle.std.proofs.lemmas.Slice.Eq.{slice_eq-Decides}
use Rattle.std.proofs.lemmas.Option.{same_Some, slice_get_within, slice_get-get_or, get_or_from_slice_get}
use Rattle.std.proofs.lemmas.List.{length-map, get_or-map, get_or_append_left}
use Rattle.std.proofs.lemmas.List.Sums.{sum_by-cons}
use Rattle.std.proofs.lemmas.List.Sorted.{sum_by-IsPermutation, length_permutation, All-permutation}
use Rattle.std.proofs.lemmas.List.Elements.{All-weaker, All-head, All-tail}
use Rattle.isa_model.specs.Limits.{max_worlds}
use Rattle.core_model.specs.Security.{same_pair}
use Rattle.count_differences.proofs.Least.{get-default}
use Rattle.count_tables.specs.Tables.{AreBelow, IsEmpty, often_beside}
use Rattle.probing_laws.proofs.Counts.{equally-often, count-map, count-agree, pairs-equal}
use Rattle.probing_laws.proofs.Transfers.{item-has}
use Rattle.probe_inspect.specs.Columns.{change_in, AreGroupsOf}
use Rattle.probe_inspect.specs.declared.groups.Group.{Group}
use Rattle.probe_inspect.specs.declared.rows.Row.{Row}
use Rattle.probe_inspect.proofs.Courses.{some-at}
use Rattle.probe_order.specs.Joint.{joint_in, same_joint, joint_often_in, AreBothAlikeAt}
use Rattle.probe_order.specs.Numbers.{IsNumberIn, IsColumnOf}
use Rattle.probe_order.specs.Orders.{numbers_at, IsOrderOf, AreOrdersOf, AreFitting, LooksLikeFirst, LookAlike}
use Rattle.probe_order.specs.declared.columns.Column.{Column}
use Rattle.probe_order.specs.declared.orders.Order.{Order}
use Rattle.probe_order.proofs.PlaceNumbers.{get-left, get-right}

-- numbers beside others, as pairs
beside-count : (f g : ℕ → ℕ) (xs : List ℕ) (m n : ℕ)
    → often_beside (map f xs) (map g xs) m n ≡ count_by (λ (x : ℕ × ℕ). same_pair x (m, n)) (map (λ i. (f i, g i)) xs)
beside-count f g [] m n = refl
beside-count f g (i ∷ xs) m n =
    let rest = beside-count f g xs m n in
    let cons = sum_by-cons (λ (x : ℕ × ℕ). cond (same_pair x (m, n)) 1 0) (f i, g i) (map (λ j. (f j, g j)) xs) in
    ap (λ (k : ℕ). (if (f i == m) && (g i == n) then 1 else 0) + k) rest ∙ sym cons

-- the numbers of a column are below the number of its changes
pub column-below : (rows : List Row) (at : ℕ) (column : Column) (counts : List ℕ) → IsColumnOf rows at column → length column.changes ≤ length counts
    → AreBelow column.numbers counts
column-below rows at column counts is long k d inside =
    let rows_long = is.long in
    let row = some-at rows k (omega (arith, inside, rows_long)) in
    let within = slice_get_within column.changes (get_or column.numbers k 0) (change_in at (Some row.0)) (is.each k row.0 row.1) in
    let same = get-default column.numbers k d 0 inside in
    omega (arith, within, same, long)

module _ (groups : List Group) (rows : List Row) (are : AreGroupsOf groups rows) (p q : ℕ) (first second : Column) (one : IsColumnOf rows p first)
    (two : IsColumnOf rows q second) (orders : List Order) (ordered : AreOrdersOf groups first.numbers orders) where
  order-of : (j : ℕ) (order : Order) → slice_get orders j ≡ Some order → (group : Group) × (slice_get groups j ≡ Some group)
  order-of j order there =
      let low = slice_get_within orders j order there in
      let long = ordered.long in
      some-at groups j (omega (arith, low, long))

  pub orders-fit : AreFitting orders second.numbers
  orders-fit = record {
    some = let some = are.some in let long = ordered.long in omega (arith, some, long);
    low = λ k d inside.
        let there = slice_get-get_or orders k d inside in
        let group = order-of k (get_or orders k d) there in
        let first_long = one.long in
        let second_long = two.long in
        All-weaker (λ i. i < length first.numbers) (λ i. i < length second.numbers) (λ i low. omega (arith, low, first_long, second_long))
        (get_or orders k d).members (ordered.each k (get_or orders k d) group.0 there group.1).low;
    long = λ k d inside.
        let there = slice_get-get_or orders k d inside in
        let order = get_or orders k d in
        let group = order-of k order there in
        let beside = ap (λ (ns : List ℕ). length ns) (ordered.each k order group.0 there group.1).beside in
        let same = length-map order.members (λ i. get_or first.numbers i 0) in
        omega (arith, beside, same);
    few = λ k d inside.
        let there = slice_get-get_or orders k d inside in
        let order = get_or orders k d in
        let group = order-of k order there in
        let is = ordered.each k order group.0 there group.1 in
        let beside = ap (λ (ns : List ℕ). length ns) is.beside in
        let same = length-map order.members (λ i. get_or first.numbers i 0) in
        let long = is.long in
        let few = item-has (λ (h : Group). length h.members ≤ max_worlds) groups k group.0 group.1 are.few in
        omega (arith, beside, same, long, few);
  }

  -- the numbers of a member at both places
  abbrev both : ℕ → ℕ × ℕ
  both i = (get_or first.numbers i 0, get_or second.numbers i 0)

  abbrev changes_by : ℕ × ℕ → (ℕ × ℕ) × (ℕ × ℕ)
  changes_by x = (get_or first.changes x.0 (0, 0), get_or second.changes x.1 (0, 0))

  joint-by : (i : ℕ) → i < length rows → joint_in p q (slice_get rows i) ≡ changes_by (both i)
  joint-by i low =
      let row = some-at rows i low in
      let here = get_or_from_slice_get first.changes (get_or first.numbers i 0) (change_in p (Some row.0)) (0, 0) (one.each i row.0 row.1) in
      let there = get_or_from_slice_get second.changes (get_or second.numbers i 0) (change_in q (Some row.0)) (0, 0) (two.each i row.0 row.1) in
      ap (joint_in p q) row.1 ∙ sym (λ k. (here k, there k))

  -- two changes stand as often in a group as the numbers that have them do in its order
  in-order : (j : ℕ) (h : Group) (order : Order) → slice_get groups j ≡ Some h → slice_get orders j ≡ Some order → (z : (ℕ × ℕ) × (ℕ × ℕ))
      → joint_often_in rows p q h z ≡ count_by (λ (x : ℕ × ℕ). same_joint (changes_by x) z) (map both order.members)
  in-order j h order to there z =
      let members = item-has (λ (g : Group). All (λ i. i < length rows) g.members) groups j h to are.members in
      count-map (λ (x : (ℕ × ℕ) × (ℕ × ℕ)). same_joint x z) (λ i. joint_in p q (slice_get rows i)) h.members
      ∙ count-agree (λ i. same_joint (joint_in p q (slice_get rows i)) z) (λ i. same_joint (changes_by (both i)) z) h.members
      (λ k d inside. ap (λ (x : (ℕ × ℕ) × (ℕ × ℕ)). same_joint x z) (joint-by (get_or h.members k d) (members k d inside)))
      ∙ sym ((ordered.each j order h there to).same (λ i. same_joint (changes_by (both i)) z))
      ∙ sym (count-map (λ (x : ℕ × ℕ). same_joint (changes_by x) z) both order.members)

  pub alike-looks : LookAlike orders second.numbers → AreBothAlikeAt groups rows p q
  alike-looks alike j d low g g_is z =
      let to = slice_get-get_or groups j d low in
      let long = ordered.long in
      let some = are.some in
      let order = some-at orders j (omega (arith, low, long)) in
      let head = some-at orders 0 (omega (arith, some, long)) in
      let look = item-has (LooksLikeFirst orders second.numbers) orders j order.0 order.1 alike head.0 head.1 in
      let here = ordered.each j order.0 (get_or groups j d) order.1 to in
      let there = ordered.each 0 head.0 g head.1 g_is in
      in-order j (get_or groups j d) order.0 to order.1 z
      ∙ equally-often same_pair pairs-equal (λ (x : ℕ × ℕ). same_joint (changes_by x) z) (map both order.0.members) (map both head.0.members)
      (λ x.
      sym (beside-count (λ i. get_or first.numbers i 0) (λ i. get_or second.numbers i 0) order.0.members x.0 x.1)
      ∙ ap (λ (ns : List ℕ). often_beside ns (numbers_at second.numbers order.0.members) x.0 x.1) (sym here.beside ∙ look.0)
      ∙ look.1 x.0 x.1
      ∙ ap (λ (ns : List ℕ). often_beside ns (numbers_at second.numbers head.0.members) x.0 x.1) there.beside
      ∙ beside-count (λ i. get_or first.numbers i 0) (λ i. get_or second.numbers i 0) head.0.members x.0 x.1)
      ∙ sym (in-order 0 g head.0 g_is head.1 z)

-- the numbers of members are below a table that is as long as one that all numbers are below
pub numbers-below : (numbers members counts table : List ℕ) → AreBelow numbers counts → length table ≡ length counts → All (λ i. i < length numbers) members
    → AreBelow (numbers_at numbers members) table
numbers-below numbers members counts table below long low k d inside =
    let size = length-map members (λ i. get_or numbers i 0) in
    let under : k < length members = omega (arith, inside, size) in
    let is = get_or-map (λ i. get_or numbers i 0) members k 0 d under in
    let here = below (get_or members k 0) 0 (low k 0 under) in
    omega (arith, is, here, long)

-- a table that was written back as a whole
pub table-written : (counts old : List ℕ) (long : ℕ) → long ≡ length counts → IsEmpty counts → IsEmpty (take long (counts ++ drop (length counts) old))
table-written counts old long same empty =
    let whole : take long (counts ++ drop (length counts) old) ≡ counts =
    ap (λ (k : ℕ). take k (counts ++ drop (length counts) old)) same ∙ take-append_seam counts (drop (length counts) old) in
    let P : List ℕ → Type 0 = λ xs. IsEmpty xs in
    subst P (sym whole) empty

-- lists that are found equal
pub found-equal : (xs ys : List ℕ) (differ : Bool) → differ ≡ not (pointwise nat_eq xs ys) → differ ≡ false → xs ≡ ys
found-equal xs ys differ is none = go (pointwise nat_eq xs ys) refl
  where
    go : (b : Bool) → pointwise nat_eq xs ys ≡ b → xs ≡ ys
    go true same = (slice_eq-Decides Decides-eqb xs ys _ refl).0 same
    go false other = absurd (true≢false (sym (is ∙ ap not other) ∙ none))

-- Pairs of numbers and members in another order.
module _ (numbers members : List ℕ) (low : All (λ i. i < length numbers) members) where
  abbrev with_number : ℕ → ℕ × ℕ
  with_number i = (get_or numbers i 0, i)

  abbrev IsNumbered : ℕ × ℕ → Type 0
  IsNumbered x = (x.0 ≡ get_or numbers x.1 0) × (x.1 < length numbers)

  all-numbered : All (λ (x : ℕ × ℕ). (x.0 ≡ get_or numbers x.1 0) × (x.1 < length numbers)) (map with_number members)
  all-numbered k d inside =
      let size = length-map members with_number in
      let under : k < length members = omega (arith, inside, size) in
      let is = get_or-map with_number members k 0 d under in
      subst IsNumbered (sym is) (refl, low k 0 under)

  beside-members : (pairs : List (ℕ × ℕ)) → All IsNumbered pairs
      → map (λ (x : ℕ × ℕ). x.0) pairs ≡ map (λ i. get_or numbers i 0) (map (λ (x : ℕ × ℕ). x.1) pairs)
  beside-members [] all = refl
  beside-members (x ∷ pairs) all =
      let here = (All-head IsNumbered x pairs all).0 in
      let rest = beside-members pairs (All-tail IsNumbered x pairs all) in
      λ i. here i ∷ rest i

  pub order-is : (pairs : List (ℕ × ℕ)) (beside moved : List ℕ) → IsPermutation (map with_number members) pairs
      → beside ≡ map (λ (x : ℕ × ℕ). x.0) pairs → moved ≡ map (λ (x : ℕ × ℕ). x.1) pairs
      → IsOrderOf numbers members (record { numbers = beside; members = moved })
  order-is pairs beside moved permuted beside_is moved_is =
      let all : All IsNumbered pairs = All-permutation IsNumbered (map with_number members) pairs permuted all-numbered in
      let size = length-map pairs (λ (x : ℕ × ℕ). x.1) in
      let before = length_permutation (map with_number members) pairs permuted in
      let first = length-map members with_number in
      let own : IsOrderOf numbers members (record { numbers = map (λ (x : ℕ × ℕ). x.0) pairs; members = map (λ (x : ℕ × ℕ). x.1) pairs }) = record {
        same = λ test.
            count-map test (λ (x : ℕ × ℕ). x.1) pairs
            ∙ sum_by-IsPermutation (λ (x : ℕ × ℕ). cond (test x.1) 1 0) (map with_number members) pairs permuted
            ∙ count-map (λ (x : ℕ × ℕ). test x.1) with_number members;
        low = λ k d inside.
            let under : k < length pairs = omega (arith, inside, size) in
            let is = get_or-map (λ (x : ℕ × ℕ). x.1) pairs k (0, 0) d under in
            let here = (all k (0, 0) under).1 in
            omega (arith, is, here);
        beside = beside-members pairs all;
        long = omega (arith, size, before, first);
      } in
      let P : List ℕ → Type 0 = λ ns. IsOrderOf numbers members (record { numbers = ns; members = map (λ (x : ℕ × ℕ). x.1) pairs }) in
      let Q : List ℕ → Type 0 = λ ms. IsOrderOf numbers members (record { numbers = beside; members = ms }) in
      subst Q (sym moved_is) (subst P (sym beside_is) own)

-- a change at the end of a list
pub number-pushed : (old new : List (ℕ × ℕ)) (change : ℕ × ℕ) (n : ℕ) → new ≡ old ++ change ∷ [] → n ≡ length old → IsNumberIn old new change n
number-pushed old new change n is at =
    let zero_more : length old + 0 ≡ length old = omega arith in
    let own : IsNumberIn old (old ++ change ∷ []) change (length old) = record {
      there = ap (λ k. slice_get (old ++ change ∷ []) k) (sym zero_more) ∙ get-right old (change ∷ []) change 0 refl;
      kept = λ i x here. get-left old (change ∷ []) x i here;
      few = let long = length-append old (change ∷ []) in omega (arith, long);
    } in
    let P : List (ℕ × ℕ) → Type 0 = λ xs. IsNumberIn old xs change (length old) in
    let Q : ℕ → Type 0 = λ k. IsNumberIn old new change k in
    subst Q (sym at) (subst P (sym is) own)

-- the rows so far have their numbers
abbrev pub AreNumbered : List Row → ℕ → ℕ → List (ℕ × ℕ) → List ℕ → Type 0
AreNumbered rows at count changes numbers =
    (i : ℕ) (row : Row) → i < count → slice_get rows i ≡ Some row → slice_get changes (get_or numbers i 0) ≡ Some (change_in at (Some row))

-- and one row more
pub numbered-more : (rows : List Row) (at i : ℕ) (row : Row) (old changes : List (ℕ × ℕ)) (numbers : List ℕ) (n : ℕ) → slice_get rows i ≡ Some row
    → length numbers ≡ i → AreNumbered rows at i old numbers → IsNumberIn old changes (change_in at (Some row)) n
    → AreNumbered rows at (i + 1) changes (numbers ++ n ∷ [])
numbered-more rows at i row old changes numbers n there long before here j other low is = go (cases_lt j i)
  where
    go : (j < i) ⊎ (i ≤ j) → slice_get changes (get_or (numbers ++ n ∷ []) j 0) ≡ Some (change_in at (Some other))
    go (inl less) =
        ap (λ k. slice_get changes k) (get_or_append_left numbers (n ∷ []) 0 j (omega (arith, less, long)))
        ∙ here.kept (get_or numbers j 0) (change_in at (Some other)) (before j other less is)
    go (inr past) =
        let same : j ≡ i = omega (arith, low, past) in
        let one : row ≡ other = same_Some row other (sym there ∙ ap (λ k. slice_get rows k) (sym same) ∙ is) in
        let at_end : j ≡ length numbers = same ∙ sym long in
        ap (λ k. slice_get changes (get_or (numbers ++ n ∷ []) k 0)) at_end
        ∙ ap (λ k. slice_get changes k) (get_or-append_seam numbers n [] 0)
        ∙ here.there ∙ ap (λ (r : Row). Some (change_in at (Some r))) one
