-- The numbers of names tell them.
use Rattle.std.proofs.Common.{◌≡◌, ℕ, zero, suc, ◌+◌, ◌<◌, ◌≤◌, ◌^◌, Bool, true, false, ◌||◌, List, [], ◌∷◌, ◌++◌, map, length, get_or, take, Some, refl, ap, sym, ◌∙◌, arith, append_assoc, if◌then◌else◌, slice_get}
use Rattle.std.specs.List.{flat_map}
use Rattle.std.specs.Option.{option_map, unwrap_or}
use Rattle.std.proofs.lemmas.List.{length-append, length-map, map-append}
use Rattle.std.proofs.lemmas.Option.{slice_get-get_or, slice_get-map, slice_get_within}
use Rattle.hep_machine.specs.Words.{Name, Occurrence, Form, Statement, index_where, is_among, same_name, spelling, Units, dummies_by_header, dummies_of, names_of_occurrences, unit_at, unit_name, BlockName, blocks_of, is_block_among, same_block, is_local, locals_of, names_of, occurrences_in, occurrences_in_form, occurrences_in_statement, occurrences_of, block_spelling}
use Rattle.hep_source.specs.declared.statement.Form.TheVariants as form
use Rattle.hep_machine.proofs.Locations.{equal_blocks}
use Rattle.hep_image.specs.declared.names.ProgramNames.{ProgramNames}
use Rattle.hep_image.specs.Names.{AreNames, block_index, block_number, first_variable, names_in_order, spellings_of, variable_index, variable_number}
use Rattle.hep_image.proofs.Members.{among-added, among-before, among-behind, among-filtered, indexed}
use Rattle.hep_source.proofs.Tests.{at-front, get-second}

-- ---- indexes

block-found : (b : BlockName) (bs : List BlockName) → is_block_among b bs ≡ true → (i : ℕ) × (index_where (same_block b) bs ≡ Some i) × (slice_get bs i ≡ Some b)
block-found b [] h = absurd cc
block-found b (c ∷ cs) h = by (same_block b c) refl h (block-found b cs) where
  by : (t : Bool) → same_block b c ≡ t → (t || is_block_among b cs) ≡ true → (is_block_among b cs ≡ true → (i : ℕ) × (index_where (same_block b) cs ≡ Some i) × (slice_get cs i ≡ Some b))
      → (i : ℕ) × ((if t then Some 0 else option_map suc (index_where (same_block b) cs)) ≡ Some i) × (slice_get (c ∷ cs) i ≡ Some b)
  by true t h rest = (zero, refl, ap (λ z. Some z) (sym (equal_blocks b c t)))
  by false t h rest = let found = rest h in (suc found.0, ap (option_map suc) found.1, found.2)

pub variable-at : (unit : List Statement) (x : Name) → is_among x (names_of unit) ≡ true → slice_get (names_of unit) (variable_index unit x) ≡ Some x
variable-at unit x h =
    let found = indexed x (names_of unit) h in
    ap (λ o. slice_get (names_of unit) (unwrap_or o 0)) found.1 ∙ found.2

pub block-at : (program : Units) (b : BlockName) → is_block_among b (blocks_of program) ≡ true → slice_get (blocks_of program) (block_index program b) ≡ Some b
block-at program b h =
    let found = block-found b (blocks_of program) h in
    ap (λ o. slice_get (blocks_of program) (unwrap_or o 0)) found.1 ∙ found.2

-- and so there is one at that index
pub variable-inside : (unit : List Statement) (x : Name) → is_among x (names_of unit) ≡ true → variable_index unit x < length (names_of unit)
variable-inside unit x h = slice_get_within (names_of unit) (variable_index unit x) x (variable-at unit x h)

pub block-inside : (program : Units) (b : BlockName) → is_block_among b (blocks_of program) ≡ true → block_index program b < length (blocks_of program)
block-inside program b h = slice_get_within (blocks_of program) (block_index program b) b (block-at program b h)

-- ---- lists one behind the other

-- in the lists that things give, those of the thing at u begin behind those of the things before it
at-flat : {X A : Type 0} (f : X → List A) (us : List X) (rest : List A) (u n i : ℕ) (x : X) (a : A) → slice_get us u ≡ Some x → slice_get (f x) i ≡ Some a
    → n ≡ length (flat_map f (take u us)) + i → slice_get (flat_map f us ++ rest) n ≡ Some a
at-flat f [] rest u n i x a there own at = absurd cc
at-flat f (v ∷ vs) rest zero n i x a there own at =
    let same : v ≡ x = cc in
    let index : n ≡ i = omega (arith, at) in
    ap (λ k. slice_get ((f v ++ flat_map f vs) ++ rest) k) index
    ∙ (ap (λ zs. slice_get zs i) (append_assoc (f v) (flat_map f vs) rest)
    ∙ at-front (f v) (flat_map f vs ++ rest) i a (ap (λ z. slice_get (f z) i) same ∙ own))
at-flat f (v ∷ vs) rest (suc u) n i x a there own at =
    let behind = length (flat_map f (take u vs)) + i in
    let split : n ≡ length (f v) + behind = omega (arith, at, length-append (f v) (flat_map f (take u vs))) in
    ap (λ zs. slice_get zs n) (append_assoc (f v) (flat_map f vs) rest)
    ∙ (get-second (f v) (flat_map f vs ++ rest) n behind split ∙ at-flat f vs rest u behind i x a there own refl)

-- ---- names

pub unit-there : (program : Units) (u : ℕ) → u < length program → slice_get program u ≡ Some (unit_at program u)
unit-there [] u h = absurd (omega (arith, h))
unit-there (unit ∷ units) zero h = refl
unit-there (unit ∷ units) (suc u) h = unit-there units u (omega (arith, h))

pub number-of-variable : (program : Units) (u : ℕ) (x : Name) → u < length program → is_among x (names_of (unit_at program u)) ≡ true
    → slice_get (names_in_order program) (variable_number program u x) ≡ Some (spelling x)
number-of-variable program u x inside among =
    let unit = unit_at program u in
    let i = variable_index unit x in
    let before = length (flat_map spellings_of (take u program)) in
    let spelled : slice_get (spellings_of unit) i ≡ Some (spelling x)
    = slice_get-map spelling (names_of unit) i ∙ ap (option_map spelling) (variable-at unit x among) in
    let front : first_variable program u + i ≡ length (map unit_name program) + (before + i) = omega (arith, length-map program unit_name) in
    get-second (map unit_name program) (flat_map spellings_of program ++ map block_spelling (blocks_of program)) (variable_number program u x) (before + i) front
    ∙ at-flat spellings_of program (map block_spelling (blocks_of program)) u (before + i) i unit (spelling x) (unit-there program u inside) spelled refl

pub number-of-block : (program : Units) (b : BlockName) → is_block_among b (blocks_of program) ≡ true
    → slice_get (names_in_order program) (block_number program b) ≡ Some (block_spelling b)
number-of-block program b among =
    let i = block_index program b in
    let all = flat_map spellings_of program in
    let front : block_number program b ≡ length (map unit_name program) + (length all + i) = omega (arith, length-map program unit_name) in
    get-second (map unit_name program) (all ++ map block_spelling (blocks_of program)) (block_number program b) (length all + i) front
    ∙ (get-second all (map block_spelling (blocks_of program)) (length all + i) i refl
    ∙ (slice_get-map block_spelling (blocks_of program) i ∙ ap (option_map block_spelling) (block-at program b among)))

-- ---- there is a name for each number

flat-first : {X A : Type 0} (f : X → List A) (us : List X) (u : ℕ) (x : X) → slice_get us u ≡ Some x → length (flat_map f (take u us)) + length (f x) ≤ length (flat_map f us)
flat-first f [] u x h = absurd cc
flat-first f (v ∷ vs) zero x h =
    let same : v ≡ x = cc in
    let size : length (f v) ≡ length (f x) = ap (λ z. length (f z)) same in
    omega (arith, size, length-append (f v) (flat_map f vs))
flat-first f (v ∷ vs) (suc u) x h =
    omega (arith, flat-first f vs u x h, length-append (f v) (flat_map f vs), length-append (f v) (flat_map f (take u vs)))

pub variables-inside : (program : Units) (u : ℕ) → u < length program → first_variable program u + length (names_of (unit_at program u)) ≤ length (names_in_order program)
variables-inside program u inside =
    let units = map unit_name program in
    let all = flat_map spellings_of program in
    let blocks = map block_spelling (blocks_of program) in
    omega (
      arith,
      flat-first spellings_of program u (unit_at program u) (unit-there program u inside),
      length-map (names_of (unit_at program u)) spelling,
      length-map program unit_name,
      length-append units (all ++ blocks),
      length-append all blocks,
    )

-- the number that is kept for a unit
pub first-kept : (program : Units) (names : ProgramNames) → AreNames program names → (numbers : List ℕ) → numbers ≡ names.variables → (u : ℕ) → u < length program
    → get_or numbers u 0 ≡ first_variable program u
first-kept program names are numbers same u inside =
    let there : u < length numbers = omega (arith, inside, are.all, ap length same) in
    are.variables_are u (get_or numbers u 0) (ap (λ ns. slice_get ns u) (sym same) ∙ slice_get-get_or numbers u 0 there)

-- and numbers have 32 bits
pub variable-few : (program : Units) (names : ProgramNames) → AreNames program names → (numbers : List ℕ) → numbers ≡ names.variables → (u i : ℕ) → u < length program
    → i < length (names_of (unit_at program u)) → get_or numbers u 0 + i < 2 ^ 32
variable-few program names are numbers same u i inside less =
    omega (arith, less, first-kept program names are numbers same u inside, variables-inside program u inside, are.few, ap length are.spelled)

-- ---- the variables of frames are named

pub local-named : (unit : List Statement) (x : Name) → is_among x (locals_of unit) ≡ true → is_among x (names_of unit) ≡ true
local-named unit x h = among-filtered x (is_local unit) (names_of unit) h

after-one : (b c : Bool) → c ≡ true → (if b then true else c) ≡ true
after-one true c h = refl
after-one false c h = h

in-header : (unit : List Statement) (x : Name) (f : Form) → is_among x (dummies_by_header f) ≡ true → is_among x (names_of_occurrences (occurrences_in_form unit f)) ≡ true
in-header unit x (form.Subroutine p dummies) h = h
in-header unit x (form.Function t p dummies) h = after-one (same_name x p.name) (is_among x (names_of_occurrences dummies)) h
in-header unit x _ h = absurd cc

pub dummy-named : (unit : List Statement) (x : Name) → is_among x (dummies_of unit) ≡ true → is_among x (names_of unit) ≡ true
dummy-named [] x h = absurd cc
dummy-named (s ∷ ss) x h =
    let unit = s ∷ ss in
    let name : Occurrence → Name = λ p. p.name in
    let front = flat_map (occurrences_in unit) s.conditions in
    let own = occurrences_in_form unit s.form in
    let rest = flat_map (occurrences_in_statement unit) ss in
    let parts : names_of_occurrences (occurrences_of unit) ≡ (map name front ++ map name own) ++ map name rest
    = map-append name (front ++ own) rest ∙ ap (λ ns. ns ++ map name rest) (map-append name front own) in
    let header = in-header unit x s.form h in
    among-added x [] (names_of_occurrences (occurrences_of unit)) (
    ap (is_among x) parts ∙ among-before x (map name front ++ map name own) (map name rest) (among-behind x (map name front) (map name own) header))
