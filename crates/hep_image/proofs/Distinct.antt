-- Lists in which nothing stands twice: the names of a unit, and the blocks of a program.
use Rattle.std.proofs.Common.{◌≡◌, ℕ, zero, suc, Bool, true, false, ◌||◌, cond, List, [], ◌∷◌, ◌++◌, Some, None, refl, ap, sym, ◌∙◌, subst, arith, if◌then◌else◌, slice_get}
use Rattle.std.specs.List.{filter, flat_map}
use Rattle.hep_machine.specs.Words.{CommonBlock, Name, Statement, is_among, same_name, with_name, with_names, Units, names_of_occurrences, BlockName, block_of, blocks_of, blocks_of_unit, is_block_among, same_block, with_blocks, is_local, locals_of, names_of, occurrences_of}
use Rattle.hep_source.proofs.NameTests.{equal_names, same_name-turned}
use Rattle.hep_code.specs.Sources.{IsNamedOnce}

-- ---- by any test of two things that can be turned round

module _ {K : Type 0} (same : K → K → Bool) where
  abbrev pub is_in : K → List K → Bool
  is_in k [] = false
  is_in k (j ∷ js) = if same k j then true else is_in k js

  abbrev pub AreDistinct : List K → Type 0
  AreDistinct [] = Unit {0}
  AreDistinct (k ∷ ks) = (is_in k ks ≡ false) × AreDistinct ks

parts : (a b : Bool) → (if a then true else b) ≡ false → (a ≡ false) × (b ≡ false)
parts true b e = absurd cc
parts false b e = (refl, e)

module _ {K : Type 0} (same : K → K → Bool) (turned : (j k : K) → same j k ≡ same k j) where
  not_last : (x y : K) (xs : List K) → is_in same x xs ≡ false → same x y ≡ false → is_in same x (xs ++ y ∷ []) ≡ false
  not_last x y [] e f = ap (λ b. if b then true else false) f
  not_last x y (z ∷ zs) e f =
      let h = parts (same x z) (is_in same x zs) e in
      ap (λ b. if b then true else is_in same x (zs ++ y ∷ [])) h.0 ∙ not_last x y zs h.1 f

  distinct_last : (xs : List K) (y : K) → is_in same y xs ≡ false → AreDistinct same xs → AreDistinct same (xs ++ y ∷ [])
  distinct_last [] y e h = (refl, tt)
  distinct_last (x ∷ xs) y e h =
      let g = parts (same y x) (is_in same y xs) e in
      (not_last x y xs h.0 (turned x y ∙ g.0), distinct_last xs y g.1 h.1)

  -- a list after one thing more, unless it is there
  distinct_with : (xs : List K) (y : K) → AreDistinct same xs → AreDistinct same (if is_in same y xs then xs else xs ++ y ∷ [])
  distinct_with xs y h = by (is_in same y xs) refl where
    by : (b : Bool) → is_in same y xs ≡ b → AreDistinct same (if b then xs else xs ++ y ∷ [])
    by true e = h
    by false e = distinct_last xs y e h

  -- fewer of them
  fewer_in : (test : K → Bool) (x : K) (xs : List K) → is_in same x xs ≡ false → is_in same x (filter test xs) ≡ false
  fewer_in test x [] h = refl
  fewer_in test x (y ∷ ys) h = by (test y) (parts (same x y) (is_in same x ys) h) (fewer_in test x ys) where
    by : (a : Bool) → (same x y ≡ false) × (is_in same x ys ≡ false) → (is_in same x ys ≡ false → is_in same x (filter test ys) ≡ false)
        → is_in same x (cond a (y ∷ filter test ys) (filter test ys)) ≡ false
    by true g rest = ap (λ s. if s then true else is_in same x (filter test ys)) g.0 ∙ rest g.1
    by false g rest = rest g.1

  pub fewer_distinct : (test : K → Bool) (xs : List K) → AreDistinct same xs → AreDistinct same (filter test xs)
  fewer_distinct test [] h = h
  fewer_distinct test (y ∷ ys) h = by (test y) (fewer_distinct test ys h.1) where
    by : (a : Bool) → AreDistinct same (filter test ys) → AreDistinct same (cond a (y ∷ filter test ys) (filter test ys))
    by true g = (fewer_in test y ys h.0, g)
    by false g = g

-- ---- names

names_all : (xs ys : List Name) → AreDistinct same_name xs → AreDistinct same_name (with_names xs ys)
names_all xs [] h = h
names_all xs (y ∷ ys) h = names_all (with_name xs y) ys (distinct_with same_name same_name-turned xs y h)

pub names_distinct : (unit : List Statement) → AreDistinct same_name (names_of unit)
names_distinct unit = names_all [] (names_of_occurrences (occurrences_of unit)) tt

pub locals_distinct : (unit : List Statement) → AreDistinct same_name (locals_of unit)
locals_distinct unit = fewer_distinct same_name same_name-turned (is_local unit) (names_of unit) (names_distinct unit)

-- names of which no two are one, by their indexes
pub index_of : (x : Name) (xs : List Name) → is_among x xs ≡ true → (i : ℕ) × (slice_get xs i ≡ Some x)
index_of x [] h = absurd cc
index_of x (y ∷ ys) h = by (same_name x y) refl h (index_of x ys) where
  by : (t : Bool) → same_name x y ≡ t → (if t then true else is_among x ys) ≡ true → (is_among x ys ≡ true → (i : ℕ) × (slice_get ys i ≡ Some x))
      → (i : ℕ) × (slice_get (y ∷ ys) i ≡ Some x)
  by true t h rest = (zero, ap (λ z. Some z) (sym (equal_names x y t)))
  by false t h rest = let found = rest h in (suc found.0, found.1)

pub distinct_by_index : (xs : List Name) → IsNamedOnce xs → AreDistinct same_name xs
distinct_by_index [] once = tt
distinct_by_index (x ∷ xs) once = (absent (is_among x xs) refl, distinct_by_index xs (λ i j y f g. omega (arith, once (suc i) (suc j) y f g))) where
  absent : (t : Bool) → is_among x xs ≡ t → t ≡ false
  absent true t = let found = index_of x xs t in let both : 0 ≡ suc found.0 = once zero (suc found.0) x refl found.1 in absurd (omega (arith, both))
  absent false t = refl

-- ---- blocks

same_block-turned : (b c : BlockName) → same_block b c ≡ same_block c b
same_block-turned None None = refl
same_block-turned None (Some y) = refl
same_block-turned (Some x) None = refl
same_block-turned (Some x) (Some y) = same_name-turned x y

pub block_in : (b : BlockName) (bs : List BlockName) → is_in same_block b bs ≡ is_block_among b bs
block_in b [] = refl
block_in b (c ∷ cs) = ap (λ t. if same_block b c then true else t) (block_in b cs) ∙ by (same_block b c) (is_block_among b cs) where
  by : (s t : Bool) → (if s then true else t) ≡ (s || t)
  by true t = refl
  by false t = refl

blocks_all : (bs : List BlockName) (cs : List CommonBlock) → AreDistinct same_block bs → AreDistinct same_block (with_blocks bs cs)
blocks_all bs [] h = h
blocks_all bs (c ∷ cs) h =
    blocks_all (if is_block_among (block_of c) bs then bs else bs ++ block_of c ∷ []) cs
    (subst (λ t. AreDistinct same_block (if t then bs else bs ++ block_of c ∷ [])) (block_in (block_of c) bs) (distinct_with same_block same_block-turned bs (block_of c) h))

pub blocks_distinct : (program : Units) → AreDistinct same_block (blocks_of program)
blocks_distinct program = blocks_all [] (flat_map blocks_of_unit program) tt
