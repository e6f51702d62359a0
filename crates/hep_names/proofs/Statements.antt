-- What statements say, one after the other.
use Rattle.std.proofs.Common.{◌≡◌, ℕ, suc, ◌+◌, Bool, true, false, Option, refl, ap, sym, ◌∙◌, if◌then◌else◌, List, [], ◌∷◌, ◌++◌, Some, arith, max, ◌≤◌, ◌&&◌, nat_le, nat_lt}
use Rattle.std.specs.Option.{option_or, option_map}
use Rattle.std.proofs.lemmas.List.Folds.{find-append}
use Rattle.hep_source.specs.declared.statement.Form.TheVariants.{Function}
use Rattle.hep_machine.specs.Words.{CommonBlock, Name, Occurrence, Form, Subroutine, Statement, NamedConstant, same_name, is_among, index_among, Units, is_named, index_where, names_of_occurrences, dummies_by_header, dummies_of, block_of, blocks_in, blocks_of_unit, block_holding, common_block, names_declared, named_constants, names_of_constants, constants_in, is_constant_name, declarator_among, declarators_in, declarators_of}
use Rattle.std.proofs.lemmas.Bool.Decides.{nat_tests}
use Rattle.hep_names.specs.Tables.{either, first_in, any_in, index_from, called_from, given, dummies_in, dummies_by_form, block_by_form, constant_by_form, declarator_by_form}

holding-append : (x : Name) (bs cs : List CommonBlock) → block_holding x (bs ++ cs) ≡ option_or (block_holding x bs) (block_holding x cs)
holding-append x [] cs = refl
holding-append x (b ∷ bs) cs = by (is_among x (names_declared b.entries)) (holding-append x bs cs)
  where
    by : (a : Bool) → block_holding x (bs ++ cs) ≡ option_or (block_holding x bs) (block_holding x cs) → (if a then Some (block_of b) else block_holding x (bs ++ cs)) ≡ option_or (if a then Some (block_of b) else block_holding x bs) (block_holding x cs)
    by true h = refl
    by false h = h

pub block-by-statements : (x : Name) (ss : List Statement) → first_in (block_by_form x) ss ≡ common_block ss x
block-by-statements x [] = refl
block-by-statements x (s ∷ ss) = ap (option_or (block_holding x (blocks_in s.form))) (block-by-statements x ss) ∙ sym (holding-append x (blocks_in s.form) (blocks_of_unit ss))

constants-append : (x : Name) (bs cs : List NamedConstant) → is_among x (names_of_constants (bs ++ cs)) ≡ either (is_among x (names_of_constants bs)) (is_among x (names_of_constants cs))
constants-append x [] cs = refl
constants-append x (b ∷ bs) cs = by (same_name x b.occurrence.name) (constants-append x bs cs)
  where
    by : (a : Bool) → is_among x (names_of_constants (bs ++ cs)) ≡ either (is_among x (names_of_constants bs)) (is_among x (names_of_constants cs)) → (if a then true else is_among x (names_of_constants (bs ++ cs))) ≡ either (if a then true else is_among x (names_of_constants bs)) (is_among x (names_of_constants cs))
    by true h = refl
    by false h = h

pub constant-by-statements : (x : Name) (ss : List Statement) → any_in (constant_by_form x) ss ≡ is_constant_name ss x
constant-by-statements x [] = refl
constant-by-statements x (s ∷ ss) = ap (either (is_among x (names_of_constants (constants_in s.form)))) (constant-by-statements x ss) ∙ sym (constants-append x (constants_in s.form) (named_constants ss))

-- letters of a range, as far as they are gone over
pub letters-over : (c first last i : ℕ) → last + 1 ≤ i → i ≤ max first (last + 1) → (nat_le first c && nat_lt c i) ≡ (nat_le first c && nat_le c last)
letters-over c first last i over until = grind (arith, nat_tests)

next : (k : ℕ) → suc k + 1 ≡ suc (k + 1)
next k = omega arith

-- the first that gives a name dimensions
pub declarator-by-statements : (x : Name) (ss : List Statement) → first_in (declarator_by_form x) ss ≡ declarator_among x (declarators_of ss)
declarator-by-statements x [] = refl
declarator-by-statements x (s ∷ ss) = ap (option_or (declarator_among x (declarators_in s.form))) (declarator-by-statements x ss) ∙ sym (find-append _ (declarators_in s.form) (declarators_of ss))

-- positions counted from another one
index-on : (k : ℕ) (x : Name) (ps : List Occurrence) → index_from (suc k) x ps ≡ option_map suc (index_from k x ps)
index-on k x [] = refl
index-on k x (p ∷ ps) = by (same_name x p.name) (ap (λ n. index_from n x ps) (next k) ∙ index-on (k + 1) x ps)
  where
    by : (b : Bool) → index_from (suc k + 1) x ps ≡ option_map suc (index_from (k + 1) x ps) → (if b then Some (suc k) else index_from (suc k + 1) x ps) ≡ option_map suc (if b then Some k else index_from (k + 1) x ps)
    by true h = refl
    by false h = h

pub index-from-start : (x : Name) (ps : List Occurrence) → index_from 0 x ps ≡ index_among x (names_of_occurrences ps)
index-from-start x [] = refl
index-from-start x (p ∷ ps) = by (same_name x p.name) (index-on 0 x ps ∙ ap (option_map suc) (index-from-start x ps))
  where
    by : (b : Bool) → index_from 1 x ps ≡ option_map suc (index_among x (names_of_occurrences ps)) → (if b then Some 0 else index_from 1 x ps) ≡ (if b then Some 0 else option_map suc (index_among x (names_of_occurrences ps)))
    by true h = refl
    by false h = h

dummies-by-form : (f : Form) → names_of_occurrences (dummies_by_form f) ≡ dummies_by_header f
dummies-by-form (Subroutine p ds) = refl
dummies-by-form (Function t p ds) = refl
dummies-by-form _ = refl

pub dummies-by-header : (x : Name) (ss : List Statement) → index_from 0 x (dummies_in ss) ≡ index_among x (dummies_of ss)
dummies-by-header x [] = refl
dummies-by-header x (s ∷ ss) = index-from-start x (dummies_by_form s.form) ∙ ap (index_among x) (dummies-by-form s.form)

-- numbers of units counted from another one
called-on : (name_of : List Statement → Option Name) (k : ℕ) (x : Name) (us : Units) → called_from name_of (suc k) x us ≡ option_map suc (called_from name_of k x us)
called-on name_of k x [] = refl
called-on name_of k x (u ∷ us) = by (is_named (name_of u) x) (ap (λ n. called_from name_of n x us) (next k) ∙ called-on name_of (k + 1) x us)
  where
    by : (b : Bool) → called_from name_of (suc k + 1) x us ≡ option_map suc (called_from name_of (k + 1) x us)
        → option_or (given b (suc k)) (called_from name_of (suc k + 1) x us) ≡ option_map suc (option_or (given b k) (called_from name_of (k + 1) x us))
    by true h = refl
    by false h = h

pub called-from-start : (name_of : List Statement → Option Name) (x : Name) (us : Units) → called_from name_of 0 x us ≡ index_where (λ u. is_named (name_of u) x) us
called-from-start name_of x [] = refl
called-from-start name_of x (u ∷ us) = by (is_named (name_of u) x) (called-on name_of 0 x us ∙ ap (option_map suc) (called-from-start name_of x us))
  where
    by : (b : Bool) → called_from name_of 1 x us ≡ option_map suc (index_where (λ u. is_named (name_of u) x) us)
        → option_or (given b 0) (called_from name_of 1 x us) ≡ (if b then Some 0 else option_map suc (index_where (λ u. is_named (name_of u) x) us))
    by true h = refl
    by false h = h
