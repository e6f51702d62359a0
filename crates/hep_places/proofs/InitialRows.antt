-- Rows of cells that get values.
use Rattle.std.proofs.Common.{◌≡◌, ℕ, ◌+◌, ◌-◌, ◌<◌, ◌≤◌, Bool, true, false, List, [], ◌∷◌, ◌++◌, Option, Some, None, refl, sym, ap, ◌∙◌, arith, ◌&&◌, nat_le, nat_lt, if◌then◌else◌, option_and_then}
use Rattle.std.specs.Option.{option_map, option_or}
use Rattle.std.proofs.lemmas.Bool.Decides.{nat_tests}
use Rattle.std.proofs.lemmas.Option.{none-some, same_Some}
use Rattle.hep_machine.specs.Words.{Value, Repeated, item_at}
use Rattle.hep_image.specs.declared.data.DataRow.{DataRow}
use Rattle.hep_image.specs.Data.{value_in_rows}
use Rattle.hep_places.specs.declared.data_cells.CellRange.{CellRange}
use Rattle.hep_places.specs.CellRows.{Gives, GivesSome, Takes, count_of_cells, index_of_cell, is_among_cells, value_of_cell}
use Rattle.hep_places.proofs.GroupValueTaking.{item_at-end}
use Rattle.hep_names.proofs.Notes.{or-assoc, or-none}

-- ---- options

pub nothing-and : (n : ℕ) → n ≡ 0 + n
nothing-and n = omega arith

-- ---- rows

pub rows-append : (rs ss : List DataRow) (p : ℕ) → value_in_rows (rs ++ ss) p ≡ option_or (value_in_rows rs p) (value_in_rows ss p)
rows-append [] ss p = refl
rows-append (r ∷ rs) ss p = by_test (nat_le r.first p && nat_lt p (r.first + r.count)) (rows-append rs ss p) where
  by_test : (b : Bool) → value_in_rows (rs ++ ss) p ≡ option_or (value_in_rows rs p) (value_in_rows ss p)
      → (if b then Some r.value else value_in_rows (rs ++ ss) p) ≡ option_or (if b then Some r.value else value_in_rows rs p) (value_in_rows ss p)
  by_test true e = refl
  by_test false e = e

-- ---- one stretch of cells

value_within : List (Repeated Value) → ℕ → ℕ → ℕ → Bool → Option Value
value_within vs f n p b = option_and_then (item_at vs) (if b then Some (p - f) else option_map (λ k. n + k) None)

outside : (vs : List (Repeated Value)) (f n p : ℕ) → value_within vs f n p false ≡ None
unfolding value_within
outside vs f n p = refl

-- a row of the first cells, and the others with the values behind
split : (old new : List (Repeated Value)) (f n m p : ℕ) (v : Value) (b : Option Value) → 1 ≤ m → m ≤ n → ((i : ℕ) → i < m → item_at old i ≡ Some v) → ((i : ℕ) → item_at new i ≡ item_at old (m + i))
    → option_or (option_or b (if nat_le f p && nat_lt p (f + m) then Some v else None)) (value_within new (f + m) (n - m) p (nat_le (f + m) p && nat_lt p ((f + m) + (n - m))))
    ≡ option_or b (value_within old f n p (nat_le f p && nat_lt p (f + n)))
unfolding value_within
split old new f n m p v b some few here after =
    or-assoc b (if nat_le f p && nat_lt p (f + m) then Some v else None) (value_within new (f + m) (n - m) p (nat_le (f + m) p && nat_lt p ((f + m) + (n - m))))
    ∙ ap (option_or b) (by_first (nat_le f p && nat_lt p (f + m)) refl)
  where
    in_row : (nat_le f p && nat_lt p (f + m)) ≡ true → (nat_le f p && nat_lt p (f + n)) ≡ true
    in_row e = grind (arith, nat_tests)

    offset : (nat_le f p && nat_lt p (f + m)) ≡ true → p - f < m
    offset e = grind (arith, nat_tests)

    in_rest : (nat_le f p && nat_lt p (f + m)) ≡ false → (nat_le (f + m) p && nat_lt p ((f + m) + (n - m))) ≡ true → (nat_le f p && nat_lt p (f + n)) ≡ true
    in_rest e g = grind (arith, nat_tests)

    rest_offset : (nat_le (f + m) p && nat_lt p ((f + m) + (n - m))) ≡ true → m + (p - (f + m)) ≡ p - f
    rest_offset g = grind (arith, nat_tests)

    in_none : (nat_le f p && nat_lt p (f + m)) ≡ false → (nat_le (f + m) p && nat_lt p ((f + m) + (n - m))) ≡ false → (nat_le f p && nat_lt p (f + n)) ≡ false
    in_none e g = grind (arith, nat_tests)

    by_rest : (c : Bool) → (nat_le f p && nat_lt p (f + m)) ≡ false → (nat_le (f + m) p && nat_lt p ((f + m) + (n - m))) ≡ c → value_within new (f + m) (n - m) p c ≡ value_within old f n p (nat_le f p && nat_lt p (f + n))
    by_rest true e g = after (p - (f + m)) ∙ (ap (item_at old) (rest_offset g) ∙ sym (ap (value_within old f n p) (in_rest e g)))
    by_rest false e g = sym (ap (value_within old f n p) (in_none e g))

    by_first : (c : Bool) → (nat_le f p && nat_lt p (f + m)) ≡ c
        → option_or (if c then Some v else None) (value_within new (f + m) (n - m) p (nat_le (f + m) p && nat_lt p ((f + m) + (n - m)))) ≡ value_within old f n p (nat_le f p && nat_lt p (f + n))
    by_first true e = sym (here (p - f) (offset e)) ∙ sym (ap (value_within old f n p) (in_row e))
    by_first false e = by_rest (nat_le (f + m) p && nat_lt p ((f + m) + (n - m))) e refl

pub row_given : (cells : CellRange) (before : List DataRow) (old new : List (Repeated Value)) (v : Value) (m : ℕ) → Takes old cells.count (Some (v, m)) new
    → GivesSome cells before old (record { first = cells.first + m; count = cells.count - m }) (before ++ record { first = cells.first; count = m; value = v } ∷ []) new
unfolding value_within
row_given cells before old new v m t = record {
  given = λ p. ap (λ o. option_or o (value_of_cell (record { first = cells.first + m; count = cells.count - m } ∷ []) new p)) (rows-append before (record { first = cells.first; count = m; value = v } ∷ []) p)
      ∙ split old new cells.first cells.count m p v (value_in_rows before p) t.0 t.1 t.2 t.3;
  left = λ i. t.3 (cells.count - m + i) ∙ ap (item_at old) (sums cells.count m i t.1);
  within = omega (arith, t.1);
} where
  sums : (n m i : ℕ) → m ≤ n → m + (n - m + i) ≡ n + i
  sums n m i h = omega (arith, h)

-- ---- cells in a row

pub index-below : (cs : List CellRange) (p i : ℕ) → index_of_cell cs p ≡ Some i → i < count_of_cells cs
index-below [] p i e = absurd (none-some i e)
index-below (c ∷ cs) p i e = by_test (is_among_cells c p) refl e (λ k. index-below cs p k) where
  near : (f n p : ℕ) → (nat_le f p && nat_lt p (f + n)) ≡ true → p - f < n
  near f n p h = grind (arith, nat_tests)

  by_index : (o : Option ℕ) → index_of_cell cs p ≡ o → option_map (λ n. c.count + n) o ≡ Some i → ((k : ℕ) → index_of_cell cs p ≡ Some k → k < count_of_cells cs) → i < c.count + count_of_cells cs
  by_index None g h more = absurd (none-some i h)
  by_index (Some k) g h more = let less = more k g in let same = same_Some (c.count + k) i h in omega (arith, less, same)

  by_test : (b : Bool) → is_among_cells c p ≡ b → (if b then Some (p - c.first) else option_map (λ n. c.count + n) (index_of_cell cs p)) ≡ Some i → ((k : ℕ) → index_of_cell cs p ≡ Some k → k < count_of_cells cs) → i < c.count + count_of_cells cs
  by_test true g h more = let less = near c.first c.count p g in let same = same_Some (p - c.first) i h in omega (arith, less, same)
  by_test false g h more = by_index (index_of_cell cs p) refl h more

map-or : (n m : ℕ) (o q : Option ℕ) → option_map (λ k. n + k) (option_or o (option_map (λ k. m + k) q)) ≡ option_or (option_map (λ k. n + k) o) (option_map (λ k. (n + m) + k) q)
map-or n m (Some i) q = refl
map-or n m None None = refl
map-or n m None (Some j) = ap (λ k. Some k) (sums n m j) where
  sums : (n m j : ℕ) → n + (m + j) ≡ (n + m) + j
  sums n m j = omega arith

map-zero : (o : Option ℕ) → o ≡ option_map (λ k. 0 + k) o
map-zero None = refl
map-zero (Some i) = ap (λ k. Some k) (nothing-and i)

pub index-append : (cs ds : List CellRange) (p : ℕ) → index_of_cell (cs ++ ds) p ≡ option_or (index_of_cell cs p) (option_map (λ k. count_of_cells cs + k) (index_of_cell ds p))
index-append [] ds p = map-zero (index_of_cell ds p)
index-append (c ∷ cs) ds p = by_test (is_among_cells c p) (index-append cs ds p) where
  by_test : (b : Bool) → index_of_cell (cs ++ ds) p ≡ option_or (index_of_cell cs p) (option_map (λ k. count_of_cells cs + k) (index_of_cell ds p))
      → (if b then Some (p - c.first) else option_map (λ n. c.count + n) (index_of_cell (cs ++ ds) p))
      ≡ option_or (if b then Some (p - c.first) else option_map (λ n. c.count + n) (index_of_cell cs p)) (option_map (λ k. (c.count + count_of_cells cs) + k) (index_of_cell ds p))
  by_test true e = refl
  by_test false e = ap (option_map (λ n. c.count + n)) e ∙ map-or c.count (count_of_cells cs) (index_of_cell cs p) (index_of_cell ds p)

-- what some cells get, and else what those behind them get of the values that are left
value-append : (cs ds : List CellRange) (old new : List (Repeated Value)) (p : ℕ) → ((i : ℕ) → item_at new i ≡ item_at old (count_of_cells cs + i))
    → option_or (value_of_cell cs old p) (value_of_cell ds new p) ≡ value_of_cell (cs ++ ds) old p
value-append cs ds old new p left = by_index (index_of_cell cs p) refl ∙ sym (ap (option_and_then (item_at old)) (index-append cs ds p)) where
  others : (o : Option ℕ) → option_and_then (item_at new) o ≡ option_and_then (item_at old) (option_map (λ k. count_of_cells cs + k) o)
  others None = refl
  others (Some j) = left j

  none_behind : (i : ℕ) → index_of_cell cs p ≡ Some i → item_at old i ≡ None → (o : Option ℕ) → option_and_then (item_at new) o ≡ None
  none_behind i e n None = refl
  none_behind i e n (Some j) = let less = index-below cs p i e in left j ∙ item_at-end old i (count_of_cells cs + j) n (omega (arith, less))

  by_item : (i : ℕ) → index_of_cell cs p ≡ Some i → (o : Option Value) → item_at old i ≡ o → option_or o (value_of_cell ds new p) ≡ o
  by_item i e None f = none_behind i e f (index_of_cell ds p)
  by_item i e (Some v) f = refl

  by_index : (o : Option ℕ) → index_of_cell cs p ≡ o
      → option_or (option_and_then (item_at old) o) (value_of_cell ds new p) ≡ option_and_then (item_at old) (option_or o (option_map (λ k. count_of_cells cs + k) (index_of_cell ds p)))
  by_index None e = others (index_of_cell ds p)
  by_index (Some i) e = by_item i e (item_at old i) refl

pub both_given : (cs ds : List CellRange) (r s t : List DataRow) (u v w : List (Repeated Value)) → Gives cs r u s v → Gives ds s v t w → Gives (cs ++ ds) r u t w
both_given cs ds r s t u v w g h = record {
  given = λ p. h.given p ∙ (ap (λ o. option_or o (value_of_cell ds v p)) (g.given p) ∙ (or-assoc (value_in_rows r p) (value_of_cell cs u p) (value_of_cell ds v p) ∙ ap (option_or (value_in_rows r p)) (value-append cs ds u v p g.left)));
  left = λ i. h.left i ∙ (g.left (count_of_cells ds + i) ∙ ap (item_at u) (sums (count_of_cells cs) (count_of_cells ds) i ∙ ap (λ n. n + i) (sym (counts cs))));
} where
  sums : (a b i : ℕ) → a + (b + i) ≡ (a + b) + i
  sums a b i = omega arith

  counts : (xs : List CellRange) → count_of_cells (xs ++ ds) ≡ count_of_cells xs + count_of_cells ds
  counts [] = nothing-and (count_of_cells ds)
  counts (x ∷ xs) = ap (λ n. x.count + n) (counts xs) ∙ sums x.count (count_of_cells xs) (count_of_cells ds)

pub nothing_given : (rows : List DataRow) (vs : List (Repeated Value)) → Gives [] rows vs rows vs
nothing_given rows vs = record { given = λ p. sym (or-none (value_in_rows rows p)); left = λ i. ap (item_at vs) (nothing-and i) }
