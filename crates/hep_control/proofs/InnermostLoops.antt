-- One pass over a unit has the innermost DO that ends at each statement: around each one is that which was found before it.
use Rattle.std.proofs.Common.{◌≡◌, ◌≢◌, ℕ, zero, suc, ◌+◌, ◌-◌, ◌<◌, ◌≤◌, Bool, true, false, true≢false, ◌&&◌, nat_eq, nat_lt, if◌then◌else◌, List, [], ◌∷◌, ◌++◌, ◌⊎◌, inl, inr, length, take, get_or, slice_get, slice_set, Option, Some, None, refl, ◌∙◌, sym, ap, arith, IfSome, eqb-true, ltb-false, ltb-true, ne_eqb}
use Rattle.std.specs.Option.{option_map, unwrap_or}
use Rattle.std.proofs.lemmas.Bool.Decides.{nat_tests}
use Rattle.std.proofs.lemmas.List.{get_or_default, length-append, length-take, take-take, take_all, take_more}
use Rattle.std.proofs.lemmas.Option.{unwrap_or-slice_get}
use Rattle.hep_machine.specs.Words.{no_statement, Tree, statement_at, Form, Statement, index_labelled, index_of_label, terminal_by_form, is_ended_at, loops_among, loops_ending_at, loops_around}
use Rattle.hep_machine.proofs.Others.{front_kept}
use Rattle.hep_source.specs.declared.statement.Form.TheVariants as form
use Rattle.hep_control.specs.Loops.{outer_loop, terminal_at, with_loop, loop_met, innermost_among}
use Rattle.hep_control.proofs.Labelled.{index_labelled-below}
use Rattle.hep_source.proofs.Tests.{and-false, at-last, number-self}

-- ---- lists

statement-is : (xs : List Statement) (m : ℕ) → statement_at xs m ≡ get_or xs m no_statement
statement-is xs m = unwrap_or-slice_get xs m no_statement

take-more : (xs : List Statement) (k m : ℕ) → m < k → m < length xs → take (suc m) (take k xs) ≡ take m (take k xs) ++ statement_at xs m ∷ []
take-more xs k m l h =
    take-take (suc m) k xs (omega (arith, l))
    ∙ (let e : suc m ≡ m + 1 = omega arith in ap (λ n. take n xs) e ∙ take_more xs m no_statement h)
    ∙ (λ i. sym (take-take m k xs (omega (arith, l))) i ++ sym (statement-is xs m) i ∷ [])

take-done : (xs : List Statement) (k m : ℕ) → k ≤ m → take (suc m) (take k xs) ≡ take m (take k xs)
take-done xs k m l = take_all (suc m) (take k xs) (omega (arith, l, length-take k xs)) ∙ sym (take_all m (take k xs) (omega (arith, l, length-take k xs)))

take-whole : (xs : List Statement) (k : ℕ) → take (length xs) (take k xs) ≡ take k xs
take-whole xs k = take_all (length xs) (take k xs) (omega (arith, length-take k xs))

item-at : (xs : List Statement) (m : ℕ) (s : Statement) → m < length xs → s ≡ get_or xs m s → s ≡ statement_at xs m
item-at xs m s l is = is ∙ get_or_default xs m s no_statement l ∙ sym (statement-is xs m)

set-same : (xs : List (Option ℕ)) (i : ℕ) (x y : Option ℕ) → slice_get xs i ≡ Some y → slice_get (slice_set xs i x) i ≡ Some x
set-same [] i x y h = cc
set-same (z ∷ zs) zero x y h = refl
set-same (z ∷ zs) (suc i) x y h = set-same zs i x y h

set-other : (xs : List (Option ℕ)) (i j : ℕ) (x : Option ℕ) → i ≢ j → slice_get (slice_set xs i x) j ≡ slice_get xs j
set-other [] i j x ne = refl
set-other (z ∷ zs) zero zero x ne = absurd (ne refl)
set-other (z ∷ zs) zero (suc j) x ne = refl
set-other (z ∷ zs) (suc i) zero x ne = refl
set-other (z ∷ zs) (suc i) (suc j) x ne = set-other zs i j x (λ e. ne (ap suc e))

abbrev no_loop : Option ℕ
no_loop = None

-- ---- tests of numbers

are-other : (a b : ℕ) → nat_eq a b ≡ false → a ≢ b
are-other a b h e = grind (arith, nat_tests, h, e)

-- ---- the DOs that are found

module _ (unit : List Statement) (k : ℕ) where
  abbrev ended : Statement → Bool
  ended s = is_ended_at unit k (terminal_by_form s.conditions s.form)

  -- the DOs that end at index k among the first m statements, the last first
  abbrev found : ℕ → List ℕ
  found m = loops_among unit k 0 (take m (take k unit)) []

  among-more : (j : ℕ) (xs : List Statement) (s : Statement) (before : List ℕ)
      → loops_among unit k j (xs ++ s ∷ []) before ≡ (if ended s then (j + length xs) ∷ loops_among unit k j xs before else loops_among unit k j xs before)
  among-more j [] s before = let e : j ≡ j + 0 = omega arith in ap (λ n. if ended s then n ∷ before else before) e
  among-more j (x ∷ xs) s before =
      let e : suc j + length xs ≡ j + suc (length xs) = omega arith in
      let first : List ℕ = if ended x then j ∷ before else before in
      among-more (suc j) xs s first ∙ ap (λ n. if ended s then n ∷ loops_among unit k (suc j) xs first else loops_among unit k (suc j) xs first) e

  -- whether the statement at an index is one of them
  abbrev is_one : ℕ → Bool
  is_one m = nat_lt m k && ended (statement_at unit m)

  found-more : (m : ℕ) → m < length unit → found (suc m) ≡ (if is_one m then m ∷ found m else found m)
  found-more m l = by (nat_lt m k) refl
    where
      by : (b : Bool) → nat_lt m k ≡ b → found (suc m) ≡ (if (b && ended (statement_at unit m)) then m ∷ found m else found m)
      by true e =
          let less : m < k = ltb-true m k e in
          ap (λ xs. loops_among unit k 0 xs []) (take-more unit k m less l)
          ∙ (among-more 0 (take m (take k unit)) (statement_at unit m) []
          ∙ ap (λ n. if ended (statement_at unit m) then n ∷ found m else found m) (omega (arith, less, l, length-take m (take k unit), length-take k unit)))
      by false e = ap (λ xs. loops_among unit k 0 xs []) (take-done unit k m (ltb-false m k e))

  found-all : found (length unit) ≡ loops_ending_at unit k
  found-all = ap (λ xs. loops_among unit k 0 xs []) (take-whole unit k)

  past : (d m : ℕ) (es : List ℕ) → m ≢ d → loops_around d (m ∷ es) ≡ loops_around d es
  past d m es ne = ap (λ b. if b then es else loops_around d es) (ne_eqb m d ne)

  past-by : (b : Bool) (d m : ℕ) (es : List ℕ) → m ≢ d → loops_around d (if b then m ∷ es else es) ≡ loops_around d es
  past-by true d m es ne = past d m es ne
  past-by false d m es ne = refl

  -- around one of them are those that were found before it
  around-from : (d n : ℕ) → is_one d ≡ true → d + n < length unit → loops_around d (found (suc d + n)) ≡ found d
  around-from d zero is l =
      let e : suc d + zero ≡ suc d = omega arith in
      let less : d < length unit = omega (arith, l) in
      ap (λ m. loops_around d (found m)) e
      ∙ (ap (loops_around d) (found-more d less ∙ ap (λ b. if b then d ∷ found d else found d) is)
      ∙ ap (λ b. if b then found d else loops_around d (found d)) (number-self d))
  around-from d (suc n) is l =
      let e : suc d + suc n ≡ suc (suc d + n) = omega arith in
      let less : suc d + n < length unit = omega (arith, l) in
      ap (λ m. loops_around d (found m)) e
      ∙ (ap (loops_around d) (found-more (suc d + n) less)
      ∙ (past-by (is_one (suc d + n)) d (suc d + n) (found (suc d + n)) (λ q. omega (arith, q))
      ∙ around-from d n is (omega (arith, l))))

  around-one : (d : ℕ) → is_one d ≡ true → d < length unit → loops_around d (loops_ending_at unit k) ≡ found d
  around-one d is l =
      let n = length unit - suc d in
      let e : suc d + n ≡ length unit = omega (arith, l) in
      ap (loops_around d) (sym found-all) ∙ (ap (λ m. loops_around d (found m)) (sym e) ∙ around-from d n is (omega (arith, l, e)))

  -- around another statement there are none
  around-none : (d m : ℕ) → is_one d ≡ false → m ≤ length unit → loops_around d (found m) ≡ []
  around-none d zero is l = refl
  around-none d (suc m) is l =
      ap (loops_around d) (found-more m (omega (arith, l))) ∙ by (is_one m) refl (around-none d m is (omega (arith, l)))
    where
      by : (b : Bool) → is_one m ≡ b → loops_around d (found m) ≡ [] → loops_around d (if b then m ∷ found m else found m) ≡ []
      by true e h = past d m (found m) (λ q. true≢false (sym e ∙ (ap is_one q ∙ is))) ∙ h
      by false e h = h

  around-other : (d : ℕ) → is_one d ≡ false → loops_around d (loops_ending_at unit k) ≡ []
  around-other d is = ap (loops_around d) (sym found-all) ∙ around-none d (length unit) is (omega arith)

-- ---- the pass

module _ (unit : List Statement) where
  -- a label leads to a statement, or past the last one
  index-below : (l : ℕ) → index_of_label unit l ≤ length unit
  index-below l = by (index_labelled unit l) (index_labelled-below unit l)
    where
      by : (o : Option ℕ) → IfSome o (λ k. k < length unit) → unwrap_or o (length unit) ≤ length unit
      by None h = omega arith
      by (Some k) h = omega (arith, h)

  loop-cases : (m t k : ℕ) (loops : List (Option ℕ)) (before : List ℕ) → slice_get loops k ≡ Some (slice_get before 0) → (b c : Bool) → nat_eq t k ≡ b → nat_lt m k ≡ c
      → slice_get (if nat_lt m t then slice_set loops t (Some m) else loops) k ≡ Some (slice_get (if (c && b) then m ∷ before else before) 0)
  loop-cases m t k loops before h true true e f =
      ap (λ n. slice_get (if nat_lt m n then slice_set loops n (Some m) else loops) k) (eqb-true t k e)
      ∙ (ap (λ b. slice_get (if b then slice_set loops k (Some m) else loops) k) f ∙ set-same loops k (Some m) (slice_get before 0) h)
  loop-cases m t k loops before h true false e f =
      ap (λ n. slice_get (if nat_lt m n then slice_set loops n (Some m) else loops) k) (eqb-true t k e)
      ∙ (ap (λ b. slice_get (if b then slice_set loops k (Some m) else loops) k) f ∙ h)
  loop-cases m t k loops before h false c e f = other-index (nat_lt m t) ∙ h ∙ ap (λ b. Some (slice_get (if b then m ∷ before else before) 0)) (sym (and-false c))
    where
      other-index : (b : Bool) → slice_get (if b then slice_set loops t (Some m) else loops) k ≡ slice_get loops k
      other-index true = set-other loops t k (Some m) (are-other t k e)
      other-index false = refl

  -- the innermost DOs among the first m statements
  abbrev Found : ℕ → List (Option ℕ) → Type 0
  Found m loops = (k : ℕ) → k ≤ length unit → slice_get loops k ≡ Some (innermost_among unit m k)

  found-next : (m : ℕ) (loops new : List (Option ℕ)) → m < length unit → new ≡ with_loop loops m (terminal_at unit (statement_at unit m)) → Found m loops → Found (suc m) new
  found-next m loops new l e h k le =
      ap (λ ls. slice_get ls k) e ∙ (by (terminal_by_form (statement_at unit m).conditions (statement_at unit m).form) ∙ ap (λ ls. Some (slice_get ls 0)) (sym (found-more unit k m l)))
    where
      by : (o : Option ℕ) → slice_get (with_loop loops m (option_map (index_of_label unit) o)) k
          ≡ Some (slice_get (if (nat_lt m k && is_ended_at unit k o) then m ∷ found unit k m else found unit k m) 0)
      by None = h k le ∙ ap (λ b. Some (slice_get (if b then m ∷ found unit k m else found unit k m) 0)) (sym (and-false (nat_lt m k)))
      by (Some label) = loop-cases m (index_of_label unit label) k loops (found unit k m) (h k le) (nat_eq (index_of_label unit label) k) (nat_lt m k) refl refl

  -- the one that is met is around the DO
  outer-is : (m : ℕ) (loops : List (Option ℕ)) → m < length unit → Found m loops → loop_met loops m (terminal_at unit (statement_at unit m)) ≡ outer_loop unit m
  outer-is m loops l h = by (statement_at unit m).conditions (statement_at unit m).form refl
    where
      not_one : (t : ℕ) → terminal_by_form (statement_at unit m).conditions (statement_at unit m).form ≡ None → None ≡ slice_get (loops_around m (loops_ending_at unit t)) 0
      not_one t e = ap (λ ls. slice_get ls 0) (sym (around-other unit t m (ap (λ o. nat_lt m t && is_ended_at unit t o) e ∙ and-false (nat_lt m t))))

      one_loop : (label : ℕ) → terminal_by_form (statement_at unit m).conditions (statement_at unit m).form ≡ Some label → (b : Bool) → nat_lt m (index_of_label unit label) ≡ b
          → (if b then unwrap_or (slice_get loops (index_of_label unit label)) None else None) ≡ slice_get (loops_around m (loops_ending_at unit (index_of_label unit label))) 0
      one_loop label e true f =
          let t = index_of_label unit label in
          let is : is_one unit t m ≡ true = ap (λ o. nat_lt m t && is_ended_at unit t o) e ∙ (ap (λ b. b && nat_eq t t) f ∙ number-self t) in
          ap (λ o. unwrap_or o None) (h t (index-below label)) ∙ ap (λ ls. slice_get ls 0) (sym (around-one unit t m is l))
      one_loop label e false f =
          let t = index_of_label unit label in
          let is : is_one unit t m ≡ false = ap (λ o. nat_lt m t && is_ended_at unit t o) e ∙ ap (λ b. b && nat_eq t t) f in
          ap (λ ls. slice_get ls 0) (sym (around-other unit t m is))

      by : (ts : List Tree) (f : Form) → terminal_by_form (statement_at unit m).conditions (statement_at unit m).form ≡ terminal_by_form ts f
          → loop_met loops m (option_map (index_of_label unit) (terminal_by_form ts f))
          ≡ slice_get (loops_around m (loops_ending_at unit (unwrap_or (option_map (index_of_label unit) (terminal_by_form [] f)) (length unit)))) 0
      by [] (form.Do c) e = one_loop c.terminal e (nat_lt m (index_of_label unit c.terminal)) refl
      by [] _ e = not_one (length unit) e
      by (t ∷ ts) f e = not_one (unwrap_or (option_map (index_of_label unit) (terminal_by_form [] f)) (length unit)) e

  pub record Passed (m : ℕ) (innermost outer : List (Option ℕ)) : Type 0 where
    pub found_are : (k : ℕ) → k ≤ length unit → slice_get innermost k ≡ Some (innermost_among unit m k)
    pub long : length outer ≡ m
    pub outer_are : (d : ℕ) → d < m → slice_get outer d ≡ Some (outer_loop unit d)

  pub one-passed : (m : ℕ) (s : Statement) (innermost new outer : List (Option ℕ)) (met : Option ℕ) → m < length unit → s ≡ get_or unit m s
      → new ≡ with_loop innermost m (terminal_at unit s) → met ≡ loop_met innermost m (terminal_at unit s) → Passed m innermost outer → Passed (m + 1) new (outer ++ met ∷ [])
  one-passed m s innermost new outer met l is ne me h =
      let here : s ≡ statement_at unit m = item-at unit m s l is in
      let next : suc m ≡ m + 1 = omega arith in
      record {
        found_are = λ k le. found-next m innermost new l (ne ∙ ap (λ z. with_loop innermost m (terminal_at unit z)) here) h.found_are k le ∙ ap (λ n. Some (innermost_among unit n k)) next;
        long = omega (arith, length-append outer (met ∷ []), h.long);
        outer_are = λ d b. elim (below_or_last d b) [
          | inl p ↦ front_kept outer (met ∷ []) d (omega (arith, p, h.long)) ∙ h.outer_are d p
          | inr p ↦ ap (slice_get (outer ++ met ∷ [])) (p ∙ sym h.long) ∙ at-last outer met ∙ ap Some (me ∙ (ap (λ z. loop_met innermost m (terminal_at unit z)) here ∙ (outer-is m innermost l h.found_are ∙ ap (outer_loop unit) (sym p))))
        ];
      }
    where
      below_or_last : (d : ℕ) → d < m + 1 → (d < m) ⊎ (d ≡ m)
      below_or_last d b = grind arith
