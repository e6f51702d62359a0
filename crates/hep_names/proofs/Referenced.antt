-- The functions that a unit refers to, statement by statement.
use Rattle.std.proofs.Common.{◌≡◌, Bool, true, false, ◌&&◌, if◌then◌else◌, List, [], ◌∷◌, ◌++◌, refl, ap, sym, ◌∙◌, true≢false}
use Rattle.std.specs.List.{flat_map}
use Rattle.std.proofs.lemmas.List.{map-append}
use Rattle.hep_machine.specs.Words.{Tree, Trees, constant, occurrence, with_list, parenthesized, signed, negated, binary, no_trees, trees, Name, Statement, same_name, is_among, names_listed_by, trees_in_statement}
use Rattle.hep_machine.specs.Listed.{names_listed_in, names_listed_in_all}
use Rattle.hep_source.proofs.NameTests.{equal_names}
use Rattle.hep_conditions.specs.Words.{NameWithList, names_with_lists, names_with_lists_in, names_with_lists_in_all, names_of_lists}
use Rattle.hep_names.specs.Tables.{either}

-- ---- names with lists, and their names

mutual
  names-in : (t : Tree) → names_of_lists (names_with_lists_in t) ≡ names_listed_in t
  names-in (constant v) = refl
  names-in (occurrence p) = refl
  names-in (with_list p ts) = ap (λ xs. p.name ∷ xs) (names-in-all ts)
  names-in (parenthesized t) = names-in t
  names-in (signed s t) = names-in t
  names-in (negated t) = names-in t
  names-in (binary o a b) =
      map-append (λ (r : NameWithList). r.occurrence.name) (names_with_lists_in a) (names_with_lists_in b) ∙ (λ i. names-in a i ++ names-in b i)

  names-in-all : (ts : Trees) → names_of_lists (names_with_lists_in_all ts) ≡ names_listed_in_all ts
  names-in-all no_trees = refl
  names-in-all (trees t ts) =
      map-append (λ (r : NameWithList). r.occurrence.name) (names_with_lists_in t) (names_with_lists_in_all ts) ∙ (λ i. names-in t i ++ names-in-all ts i)

pub names_by_statement : (s : Statement) → names_of_lists (names_with_lists s) ≡ names_listed_by s
names_by_statement s = of (trees_in_statement s)
  where
    of : (ts : List Tree) → names_of_lists (flat_map names_with_lists_in ts) ≡ flat_map names_listed_in ts
    of [] = refl
    of (t ∷ ts) =
        map-append (λ (r : NameWithList). r.occurrence.name) (names_with_lists_in t) (flat_map names_with_lists_in ts) ∙ (λ i. names-in t i ++ of ts i)

-- ---- turns of loops

-- a name is among two lists where it is among the first or among the second
pub among-append : (x : Name) (xs ys : List Name) → is_among x (xs ++ ys) ≡ either (is_among x xs) (is_among x ys)
among-append x [] ys = refl
among-append x (y ∷ xs) ys = by (same_name x y) (among-append x xs ys)
  where
    by : (a : Bool) → is_among x (xs ++ ys) ≡ either (is_among x xs) (is_among x ys) → (if a then true else is_among x (xs ++ ys)) ≡ either (if a then true else is_among x xs) (is_among x ys)
    by true h = refl
    by false h = h

-- no name is left
pub none-left : (m c : Bool) → either c (m && false) ≡ c
none-left true true = refl
none-left true false = refl
none-left false true = refl
none-left false false = refl

-- some names that pass a test were added, and others are left
pub left-turn : (m a b old new total : Bool) → new ≡ either old (m && a) → either old (m && either a b) ≡ total → either new (m && b) ≡ total
left-turn m a b old new total n h = ap (λ c. either c (m && b)) n ∙ (by m a b old ∙ h)
  where
    by : (m a b old : Bool) → either (either old (m && a)) (m && b) ≡ either old (m && either a b)
    by true true b true = refl
    by true false b true = refl
    by false a b true = refl
    by true true b false = refl
    by true false b false = refl
    by false a b false = refl

-- one name that passes the test was added
pub added-turn : (test : Name → Bool) (x y : Name) (ys : List Name) (old new total : Bool) → test y ≡ true → new ≡ either old (same_name x y)
    → either old (test x && is_among x (y ∷ ys)) ≡ total → either new (test x && is_among x ys) ≡ total
added-turn test x y ys old new total t n h = ap (λ c. either c (test x && is_among x ys)) n ∙ (by (same_name x y) refl ∙ h)
  where
    passes : same_name x y ≡ true → test x ≡ true
    passes e = ap test (equal_names x y e) ∙ t

    once : (m a o : Bool) → m ≡ true → either (either o true) (m && a) ≡ either o (m && true)
    once true a true e = refl
    once true a false e = refl
    once false a o e = absurd (true≢false (sym e))

    or-false : (o : Bool) → either o false ≡ o
    or-false true = refl
    or-false false = refl

    by : (b : Bool) → same_name x y ≡ b → either (either old b) (test x && is_among x ys) ≡ either old (test x && (if b then true else is_among x ys))
    by true e = once (test x) (is_among x ys) old (passes e)
    by false e = ap (λ c. either c (test x && is_among x ys)) (or-false old)

-- one name that doesn't pass it was left out
pub left_out-turn : (test : Name → Bool) (x y : Name) (ys : List Name) (old total : Bool) → test y ≡ false
    → either old (test x && is_among x (y ∷ ys)) ≡ total → either old (test x && is_among x ys) ≡ total
left_out-turn test x y ys old total t h = by (same_name x y) refl ∙ h
  where
    none : (m a : Bool) → m ≡ false → (m && a) ≡ (m && true)
    none false a e = refl
    none true a e = absurd (true≢false e)

    by : (b : Bool) → same_name x y ≡ b → either old (test x && is_among x ys) ≡ either old (test x && (if b then true else is_among x ys))
    by true e = ap (either old) (none (test x) (is_among x ys) (ap test (equal_names x y e) ∙ t))
    by false e = refl
