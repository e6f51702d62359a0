-- Lists and sets, as tests of some element see them; and lists that grow at their end, or stand in another order.
use Rattle.std.proofs.Common.{◌≡◌, ℕ, ◌≤◌, Bool, true, false, ◌&&◌, ◌||◌, is_some, option_to_list, List, [], ◌∷◌, map, refl, ◌∙◌, sym, ap, arith, slice_get, if◌then◌else◌, ◌+◌, ◌++◌, append_assoc, append-nil, drop, length, Option, None, reverse}
use Rattle.std.specs.List.{list_any, filter, flat_map, All}
use Rattle.std.specs.BTreeSet.{insert_key}
use Rattle.std.specs.Ordering.{nat_cmp, match_ordering}
use Rattle.std.specs.declared.cmp.Ordering.{Ordering}
use Rattle.std.specs.declared.cmp.Ordering.TheVariants.{Less, Equal, Greater}
use Rattle.std.specs.declared.ops.Bound.TheVariants.{Included, Excluded}
use Rattle.std.specs.BTreeMap.Range.{range_contains}
use Rattle.std.proofs.lemmas.Bool.Decides.{nat_tests}
use Rattle.std.proofs.lemmas.List.{drop_all}
use Rattle.std.proofs.lemmas.Map.Lookups.{exact_unsigned}
use Rattle.hep_control.specs.Sweep.{is_within}
use Rattle.hep_source.proofs.Tests.{or-false, or-turned, any-same}
use Rattle.std.proofs.lemmas.List.Folds.{list_any-append}
use Rattle.hep_conditions.specs.declared.violation.Violation.{Violation}
use Rattle.hep_conditions.specs.Words.{Violations, at_line, line_when, when}
use Rattle.hep_machine.specs.Words.{Statement}
use Rattle.hep_conditions.specs.Words.{IndexedStatement, indexed_from, least_line, least_line_of}
use Rattle.std.specs.List.Sorted.{IsPermutation}
use Rattle.std.proofs.lemmas.List.Sorted.{list_any-IsPermutation, All-permutation, IsPermutation-reverse}
use Rattle.std.proofs.lemmas.List.Elements.{All-nil, All-cons, All-head, All-tail, All-weaker}
use Rattle.hep_conditions.proofs.Lines.{least_line-none, least_line-assoc, least_line-comm, least_line-again}

pub or-comm : (a b : Bool) → (a || b) ≡ (b || a)
or-comm true true = refl
or-comm true false = refl
or-comm false true = refl
or-comm false false = refl

or-again : (a b : Bool) → (a || b) ≡ (a || (a || b))
or-again true b = refl
or-again false b = refl

pub any-insert_key : (test : ℕ → Bool) (ks : List ℕ) (k : ℕ) → list_any test (insert_key nat_cmp ks k) ≡ list_any test (k ∷ ks)
any-insert_key test [] k = refl
any-insert_key test (x ∷ xs) k = by (nat_cmp k x) refl (any-insert_key test xs k)
  where
    by : (o : Ordering) → nat_cmp k x ≡ o → list_any test (insert_key nat_cmp xs k) ≡ list_any test (k ∷ xs)
        → list_any test (match_ordering o (k ∷ x ∷ xs) (x ∷ xs) (x ∷ insert_key nat_cmp xs k)) ≡ list_any test (k ∷ x ∷ xs)
    by Less e h = refl
    by Equal e h = or-again (test x) (list_any test xs) ∙ ap (λ y. test y || list_any test (x ∷ xs)) (sym (exact_unsigned k x e))
    by Greater e h = ap (λ t. test x || t) h ∙ or-turned (test x) (test k) (list_any test xs)

any-filter : (test : ℕ → Bool) (ks : List ℕ) → is_some (slice_get (filter test ks) 0) ≡ list_any test ks
any-filter test [] = refl
any-filter test (x ∷ xs) = by (test x) (any-filter test xs)
  where
    by : (b : Bool) → is_some (slice_get (filter test xs) 0) ≡ list_any test xs
        → is_some (slice_get (if b then x ∷ filter test xs else filter test xs) 0) ≡ (b || list_any test xs)
    by true h = refl
    by false h = h

pub any-map : {A B : Type 0} (test : B → Bool) (f : A → B) (xs : List A) → list_any test (map f xs) ≡ list_any (λ x. test (f x)) xs
any-map test f [] = refl
any-map test f (x ∷ xs) = ap (λ b. test (f x) || b) (any-map test f xs)

pub any-none : {A : Type 0} (p : A → Bool) → ((x : A) → p x ≡ false) → (xs : List A) → list_any p xs ≡ false
any-none p h [] = refl
any-none p h (x ∷ xs) = rw (h x, any-none p h xs) refl

in_range : (low high v : ℕ) → range_contains nat_cmp (Included low) (Excluded high) v ≡ is_within low high v
in_range low high v = grind (arith, nat_tests)

-- what a range of a set shows first
pub any-range : (low high : ℕ) (ks shown : List ℕ) → shown ≡ filter (range_contains nat_cmp (Included low) (Excluded high)) ks
    → is_some (slice_get shown 0) ≡ list_any (is_within low high) ks
any-range low high ks shown e =
    ap (λ l. is_some (slice_get l 0)) e
    ∙ (any-filter (range_contains nat_cmp (Included low) (Excluded high)) ks
    ∙ any-same (range_contains nat_cmp (Included low) (Excluded high)) (is_within low high) (in_range low high) ks)

nothing_within : (low high v : ℕ) → high ≤ low → is_within low high v ≡ false
nothing_within low high v h = grind (arith, nat_tests)

pub any-empty : (low high : ℕ) (ks : List ℕ) → high ≤ low → false ≡ list_any (is_within low high) ks
any-empty low high ks h = sym (any-none (is_within low high) (λ v. nothing_within low high v h) ks)

-- ---- lists that grow at their end

-- a statement more of a unit
pub indexed-next : {A : Type 0} (f : IndexedStatement → List A) (old new : List A) (index : ℕ) (s : Statement) (ss : List Statement)
    → new ≡ old ++ f (record { index = index; statement = s })
    → new ++ flat_map f (indexed_from (index + 1) ss) ≡ old ++ flat_map f (indexed_from index (s ∷ ss))
indexed-next f old new index s ss h =
    ap (λ l. l ++ flat_map f (indexed_from (index + 1) ss)) h
    ∙ (append_assoc old (f (record { index = index; statement = s })) (flat_map f (indexed_from (index + 1) ss))
    ∙ ap (λ n. old ++ (f (record { index = index; statement = s }) ++ flat_map f (indexed_from n ss))) (omega arith))

-- nothing is left
pub at-end : {A B : Type 0} (f : List A → List B) (ys : List A) (i : ℕ) (found whole : List B) → f [] ≡ [] → length ys ≤ i → found ++ f (drop i ys) ≡ whole → found ≡ whole
at-end f ys i found whole z le h = sym (append-nil found) ∙ (ap (λ l. found ++ l) (sym (ap f (drop_all i ys le) ∙ z)) ∙ h)

-- ---- lists in another order give the same line

module _ {A : Type 0} (line : A → Option ℕ) where
  -- an element's line isn't below another
  abbrev pub Bounds : Option ℕ → A → Type 0
  Bounds m x = least_line m (line x) ≡ m

  all_bound : (m : Option ℕ) (xs : List A) → All (Bounds m) xs → least_line m (least_line_of line xs) ≡ m
  all_bound m [] h = least_line-none m
  all_bound m (x ∷ xs) h =
      sym (least_line-assoc m (line x) (least_line_of line xs))
      ∙ (ap (λ o. least_line o (least_line_of line xs)) (All-head (Bounds m) x xs h) ∙ all_bound m xs (All-tail (Bounds m) x xs h))

  here : (a b : Option ℕ) → least_line (least_line a b) a ≡ least_line a b
  here a b = least_line-comm (least_line a b) a ∙ (sym (least_line-assoc a a b) ∙ ap (λ o. least_line o b) (least_line-again a))

  weaker : (a m b : Option ℕ) → least_line m b ≡ m → least_line (least_line a m) b ≡ least_line a m
  weaker a m b h = least_line-assoc a m b ∙ ap (least_line a) h

  bounded : (xs : List A) → All (Bounds (least_line_of line xs)) xs
  bounded [] = All-nil (Bounds None)
  bounded (x ∷ xs) =
      All-cons (Bounds (least_line_of line (x ∷ xs))) x xs (here (line x) (least_line_of line xs))
      (All-weaker (Bounds (least_line_of line xs)) (Bounds (least_line_of line (x ∷ xs))) (λ y h. weaker (line x) (least_line_of line xs) (line y) h) xs (bounded xs))

  below : (xs ys : List A) → IsPermutation xs ys → least_line (least_line_of line xs) (least_line_of line ys) ≡ least_line_of line xs
  below xs ys p = all_bound (least_line_of line xs) ys (All-permutation (Bounds (least_line_of line xs)) xs ys p (bounded xs))

pub any-permutation : {A : Type 0} (test : A → Bool) (xs ys : List A) → IsPermutation xs ys → list_any test ys ≡ list_any test xs
any-permutation test xs ys p = sym (list_any-IsPermutation test xs ys p)

pub any-reverse : {A : Type 0} (test : A → Bool) (xs : List A) → list_any test (reverse xs) ≡ list_any test xs
any-reverse test xs = any-permutation test xs (reverse xs) (IsPermutation-reverse xs)

-- ---- all lines that are reported, as tests of a line see them

pub any-line : (test : ℕ → Bool) (b : Bool) (line : ℕ) → list_any test (option_to_list (line_when b line)) ≡ (b && test line)
any-line test true line = or-false (test line)
any-line test false line = refl

-- a test of lines, of violations
abbrev pub line_passes : (ℕ → Bool) → Violation → Bool
line_passes test v = test v.line

module _ (test : ℕ → Bool) where
  -- lines and violations that each test of a line finds alike
  abbrev pub Told : List ℕ → Violations → Type 0
  Told lines vs = list_any test lines ≡ list_any (line_passes test) vs

  pub any-when : (number line : ℕ) (b : Bool) → list_any (line_passes test) (when b (at_line number line)) ≡ (b && test line)
  any-when number line true = or-false (test line)
  any-when number line false = refl

  pub told-when : (number line : ℕ) (b : Bool) → Told (option_to_list (line_when b line)) (when b (at_line number line))
  told-when number line b = any-line test b line ∙ sym (any-when number line b)

  pub told-append : (ls ms : List ℕ) (vs ws : Violations) → Told ls vs → Told ms ws → Told (ls ++ ms) (vs ++ ws)
  told-append ls ms vs ws h k = list_any-append test ls ms ∙ ((λ i. h i || k i) ∙ sym (list_any-append (line_passes test) vs ws))

  pub told-each : {A : Type 0} (f : A → List ℕ) (g : A → Violations) → ((x : A) → Told (f x) (g x)) → (xs : List A) → Told (flat_map f xs) (flat_map g xs)
  told-each f g h [] = refl
  told-each f g h (x ∷ xs) = told-append (f x) (flat_map f xs) (g x) (flat_map g xs) (h x) (told-each f g h xs)

  -- a list that grew by these lines
  pub grown : (old new more : List ℕ) (vs : Violations) → new ≡ old ++ more → Told more vs → list_any test new ≡ (list_any test old || list_any (line_passes test) vs)
  grown old new more vs e h = ap (list_any test) e ∙ (list_any-append test old more ∙ ap (λ b. list_any test old || b) h)
