-- What is read of a frame, and what is kept in it, lies in it.
use Rattle.std.proofs.Common.{◌≡◌, ℕ, ◌+◌, ◌≤◌, Bool, true, false, List, [], ◌∷◌, ◌++◌, Some, refl, sym, ap, ◌∙◌, arith, zero, suc, ◌*◌, length, Option, None, subst, if◌then◌else◌, slice_get, map, nat_eq}
use Rattle.std.specs.List.{list_any, filter}
use Rattle.std.proofs.lemmas.List.Folds.{list_any-append}
use Rattle.std.proofs.lemmas.Option.{same_Some, none-some}
use Rattle.hep_machine.specs.Words.{CommonBlock, Declarator, Name, Statement, same_name, is_among, index_among, Units, dummies_of, statement_at, unit_at, cells_of, adjustable_dimensions, constant_shape, BlockName, block_holding, block_of, blocks_of_unit, common_block, entries_under, names_declared, names_in_block, same_block, is_array, common_cells, no_shape, unit_of, State, frame_cells, is_do, locals_of, names_of}
use Rattle.hep_layout.specs.Words.{block_row, common_row, first_in_common, FramePart, argument, bounds, first_of_part, frame_row, iteration, same_part, size_in, variable}
use Rattle.hep_layout.proofs.CommonRows.{block_row-below, common_row-cells, name-size}
use Rattle.hep_layout.proofs.Runs.{common-size}
use Rattle.hep_layout.proofs.FrameRows.{first-size, argument-first, bounds-first, frame_row-cells, iteration-first, variable-first}
use Rattle.hep_machine.proofs.Locations.{block-self}
use Rattle.std.proofs.lemmas.Bool.{or_left, or_right, eqb-false, eqb-true}
use Rattle.std.specs.Option.{unwrap_or}
use Rattle.std.proofs.lemmas.Bool.Decides.{nat_tests}
use Rattle.hep_code.specs.declared.variable.Variable.TheVariants as variables
use Rattle.hep_image.specs.declared.array.Extents.{Extents}
use Rattle.hep_image.specs.declared.array.Extents.TheVariants.{Constant, Adjustable}
use Rattle.hep_image.specs.declared.array.Start.{Start}
use Rattle.hep_image.specs.declared.array.Start.TheVariants.{Local, Common, Dummy}
use Rattle.hep_image.specs.Places.{array_of, arrays_of, extents_of, loop_cells, scalar, start_by, start_of, variable_by, variable_of}
use Rattle.hep_image.specs.BoundActivations.{IsBound}
use Rattle.hep_image.specs.Constant.{HasConstantShape}
use Rattle.hep_image.specs.FrameBounds.{AreExtentsIn, IsArrayIn, IsStartIn, LiesIn}
use Rattle.hep_image.specs.Arrays.{ArePlacedArrays}
use Rattle.hep_image.proofs.CountedLoops.{do-there}
use Rattle.hep_image.proofs.NamedNumbers.{among-any}
use Rattle.hep_image.proofs.ArrayExtents.{shape-parts}
use Rattle.hep_machine.proofs.ConstantShapes.{constant-shape}
use Rattle.hep_image.proofs.Variables.{shaped-constant}

-- ---- names in COMMON

module _ (x : Name) where
  abbrev declares : Declarator → Bool
  declares d = same_name x d.occurrence.name

  declared-any : (ds : List Declarator) → is_among x (names_declared ds) ≡ list_any declares ds
  declared-any = among-any x (λ (d : Declarator). d.occurrence.name)

  -- a name is among those of its block
  held : (b : BlockName) (cs : List CommonBlock) → block_holding x cs ≡ Some b → list_any declares (entries_under b cs) ≡ true
  held b [] e = absurd (none-some b e)
  held b (c ∷ cs) e = by_test (held b cs) (is_among x (names_declared c.entries)) refl e where
    added : (t : Bool) → list_any declares (entries_under b cs) ≡ true → list_any declares (if t then c.entries ++ entries_under b cs else entries_under b cs) ≡ true
    added true h = list_any-append declares c.entries (entries_under b cs) ∙ or_right (list_any declares c.entries) (list_any declares (entries_under b cs)) h
    added false h = h

    by_test : (block_holding x cs ≡ Some b → list_any declares (entries_under b cs) ≡ true) → (t : Bool) → is_among x (names_declared c.entries) ≡ t → (if t then Some (block_of c) else block_holding x cs) ≡ Some b
        → list_any declares (if same_block (block_of c) b then c.entries ++ entries_under b cs else entries_under b cs) ≡ true
    by_test rest true t e =
        let same : same_block (block_of c) b ≡ true = ap (same_block (block_of c)) (sym (same_Some (block_of c) b e)) ∙ block-self (block_of c) in
        rw same (list_any-append declares c.entries (entries_under b cs) ∙ or_left (list_any declares c.entries) (list_any declares (entries_under b cs)) (sym (declared-any c.entries) ∙ t))
    by_test rest false t e = added (same_block (block_of c) b) (rest e)

  pub held-cells : (program : Units) (u : ℕ) (unit : List Statement) (b : BlockName) → slice_get program u ≡ Some unit → common_block unit x ≡ Some b → first_in_common program unit b x + cells_of unit x ≤ common_cells program
  held-cells program u unit b e h =
      let among : is_among x (names_in_block unit b) ≡ true = declared-any (entries_under b (blocks_of_unit unit)) ∙ held b (blocks_of_unit unit) h in
      let name = name-size unit b x among in
      let block = common-size program u unit x b e h in
      omega (
        arith,
        name,
        block,
        first-size (same_name x) (block_row unit b),
        first-size (same_block b) (common_row program),
        block_row-below program u unit b e,
        common_row-cells program,
      )

-- ---- what begins somewhere

-- the cells of a part lie in the frame
part-within : (unit : List Statement) (part : FramePart) (n : ℕ) → size_in (same_part part) (frame_row unit) ≡ n → first_of_part unit part + n ≤ frame_cells unit
part-within unit part n sized = omega (arith, sized, first-size (same_part part) (frame_row unit), frame_row-cells unit)

pub loop-within : (unit : List Statement) (d : ℕ) → is_do (statement_at unit d).form ≡ true → loop_cells unit d + 2 ≤ frame_cells unit
loop-within unit d is =
    let cells : loop_cells unit d ≡ first_of_part unit (iteration d) = ap (λ b. if b then first_of_part unit (iteration d) else 0) is in
    omega (arith, cells, part-within unit (iteration d) 2 (iteration-first unit d (statement_at unit d) (do-there unit d is) is).sized)

-- what begins somewhere is a dummy argument, or in COMMON, or local
data IsStart (program : Units) (unit : List Statement) (x : Name) (at : Start) : Type 0 where
  is_dummy : (k : ℕ) → index_among x (dummies_of unit) ≡ Some k → at ≡ Dummy (first_of_part unit (argument x)) → IsStart program unit x at
  is_common : (b : BlockName) → index_among x (dummies_of unit) ≡ None → common_block unit x ≡ Some b → at ≡ Common (first_in_common program unit b x) → IsStart program unit x at
  is_local : index_among x (dummies_of unit) ≡ None → is_among x (locals_of unit) ≡ true → at ≡ Local (first_of_part unit (variable x)) → IsStart program unit x at

start-is : (program : Units) (unit : List Statement) (x : Name) (at : Start) → start_of program unit x ≡ Some at → IsStart program unit x at
unfolding start_of
start-is program unit x at e = by_parts (index_among x (dummies_of unit)) (common_block unit x) (is_among x (locals_of unit)) refl refl refl e where
  by_parts : (k : Option ℕ) (b : Option BlockName) (l : Bool) → index_among x (dummies_of unit) ≡ k → common_block unit x ≡ b → is_among x (locals_of unit) ≡ l → start_by program unit x k b l ≡ Some at → IsStart program unit x at
  by_parts (Some k) b l f g h e = is_dummy k f (sym (same_Some (Dummy (first_of_part unit (argument x))) at e))
  by_parts None (Some b) l f g h e = is_common b f g (sym (same_Some (Common (first_in_common program unit b x)) at e))
  by_parts None None true f g h e = is_local f h (sym (same_Some (Local (first_of_part unit (variable x))) at e))
  by_parts None None false f g h e = absurd (none-some at e)

pub local-within : (program : Units) (unit : List Statement) (x : Name) (c : ℕ) → start_of program unit x ≡ Some (Local c) → c + cells_of unit x ≤ frame_cells unit
local-within program unit x c e = elim (start-is program unit x (Local c) e) [
  | is_dummy k f g ↦ absurd cc
  | is_common b f g h ↦ absurd cc
  | is_local f g h ↦
      let same : c ≡ first_of_part unit (variable x) = cc in
      omega (arith, same, part-within unit (variable x) (cells_of unit x) (variable-first unit x g).sized)
]

pub common-within : (program : Units) (u : ℕ) (unit : List Statement) (x : Name) (c : ℕ) → slice_get program u ≡ Some unit → start_of program unit x ≡ Some (Common c) → c + cells_of unit x ≤ common_cells program
common-within program u unit x c there e = elim (start-is program unit x (Common c) e) [
  | is_dummy k f g ↦ absurd cc
  | is_common b f g h ↦
      let same : c ≡ first_in_common program unit b x = cc in
      omega (arith, same, held-cells x program u unit b there g)
  | is_local f g h ↦ absurd cc
]

-- ---- arrays

module _ (program : Units) (unit : List Statement) (placed : ArePlacedArrays program unit) where
  abbrev size : ℕ
  size = frame_cells unit

  abbrev LieIn : Extents → Start → Type 0
  LieIn extents at = IsStartIn size at × AreExtentsIn size extents

  dummy-extents : (x : Name) (k : ℕ) → index_among x (dummies_of unit) ≡ Some k → adjustable_dimensions unit x ≤ 7 → AreExtentsIn size (extents_of unit x)
  dummy-extents x k e few = by_test (nat_eq (adjustable_dimensions unit x) 0) where
    by_test : (b : Bool) → AreExtentsIn size (if b then Constant (unwrap_or (constant_shape unit x) no_shape) else Adjustable (first_of_part unit (bounds x)) (adjustable_dimensions unit x))
    by_test true = tt
    by_test false = (part-within unit (bounds x) (2 * adjustable_dimensions unit x) (bounds-first unit x k e).sized, few)

  -- of one that is no dummy argument, no bound stands in the frame
  own-extents : (x : Name) → is_array unit x ≡ true → index_among x (dummies_of unit) ≡ None → AreExtentsIn size (extents_of unit x)
  own-extents x is none = subst (AreExtentsIn size) (sym ((shaped-constant unit x ((placed x is).own none)).extents is)) tt

  start-within : (x : Name) (at : Start) → is_array unit x ≡ true → start_of program unit x ≡ Some at → LieIn (extents_of unit x) at
  start-within x at is e = elim (start-is program unit x at e) [
    | is_dummy k f g ↦
        subst (LieIn (extents_of unit x)) (sym g) (part-within unit (argument x) 2 (argument-first unit x k f).sized, dummy-extents x k f (placed x is).dimensions)
    | is_common b f g h ↦ subst (LieIn (extents_of unit x)) (sym h) (tt, own-extents x is f)
    | is_local f g h ↦ subst (LieIn (extents_of unit x)) (sym h) (tt, own-extents x is f)
  ]

  array-within : (x : Name) → is_array unit x ≡ true → IsArrayIn size (Some (array_of program unit x))
  array-within x is = by_start (start_of program unit x) refl where
    by_start : (o : Option Start) → start_of program unit x ≡ o → LieIn (extents_of unit x) (unwrap_or (start_of program unit x) (Local 0))
    by_start None e = absurd ((placed x is).begins e)
    by_start (Some at) e = subst (λ (o : Option Start). LieIn (extents_of unit x) (unwrap_or o (Local 0))) (sym e) (start-within x at is e)

  passing : (xs : List Name) (i : ℕ) → IsArrayIn size (slice_get (map (array_of program unit) (filter (is_array unit) xs)) i)
  passing [] i = tt
  passing (x ∷ xs) i = by_test (passing xs) (is_array unit x) refl i where
    by_test : ((j : ℕ) → IsArrayIn size (slice_get (map (array_of program unit) (filter (is_array unit) xs)) j)) → (b : Bool) → is_array unit x ≡ b → (j : ℕ)
        → IsArrayIn size (slice_get (map (array_of program unit) (if b then x ∷ filter (is_array unit) xs else filter (is_array unit) xs)) j)
    by_test rest true is zero = array-within x is
    by_test rest true is (suc j) = rest j
    by_test rest false is j = rest j

  pub arrays-within : (i : ℕ) → IsArrayIn size (slice_get (map (array_of program unit) (arrays_of unit)) i)
  arrays-within i = passing (names_of unit) i

  -- ---- variables

  scalar-within : (x : Name) (at : Start) → start_of program unit x ≡ Some at → LiesIn size (map (array_of program unit) (arrays_of unit)) (scalar x.asynchronous at)
  scalar-within x (Local c) e = tt
  scalar-within x (Common c) e = tt
  scalar-within x (Dummy c) e = elim (start-is program unit x (Dummy c) e) [
    | is_dummy k f g ↦
        let same : c ≡ first_of_part unit (argument x) = cc in
        omega (arith, same, part-within unit (argument x) 2 (argument-first unit x k f).sized)
    | is_common b f g h ↦ absurd cc
    | is_local f g h ↦ absurd cc
  ]

  pub variable-within : (x : Name) → LiesIn size (map (array_of program unit) (arrays_of unit)) (variable_of program unit x)
  unfolding variable_of
  variable-within x = by_start (start_of program unit x) refl where
    by_kind : (at : Start) → start_of program unit x ≡ Some at → (b : Bool)
        → LiesIn size (map (array_of program unit) (arrays_of unit)) (if b then variables.Array x.asynchronous (unwrap_or (index_among x (arrays_of unit)) 0) else scalar x.asynchronous at)
    by_kind at e true = arrays-within (unwrap_or (index_among x (arrays_of unit)) 0)
    by_kind at e false = scalar-within x at e

    by_start : (o : Option Start) → start_of program unit x ≡ o → LiesIn size (map (array_of program unit) (arrays_of unit)) (variable_by unit x o)
    by_start None e = tt
    by_start (Some at) e = by_kind at e (is_array unit x)

-- ---- dimensions

-- an activation's arrays have no more than seven
pub few-dimensions : (program : Units) (s : State) (a : ℕ) (x : Name) → IsBound program s a → is_array (unit_at program (unit_of s a)) x ≡ true
    → (index_among x (dummies_of (unit_at program (unit_of s a))) ≡ None → HasConstantShape (unit_at program (unit_of s a)) x) → adjustable_dimensions (unit_at program (unit_of s a)) x ≤ 7
few-dimensions program s a x bound is own = by_index (index_among x (dummies_of (unit_at program (unit_of s a)))) refl where
  by_count : (k : ℕ) → index_among x (dummies_of (unit_at program (unit_of s a))) ≡ Some k → (b : Bool) → nat_eq (adjustable_dimensions (unit_at program (unit_of s a)) x) 0 ≡ b → adjustable_dimensions (unit_at program (unit_of s a)) x ≤ 7
  by_count k e true t = let none = eqb-true (adjustable_dimensions (unit_at program (unit_of s a)) x) 0 t in omega (arith, none)
  by_count k e false t =
      let there = bound x k e in
      let known = there.2.adjustable is (eqb-false (adjustable_dimensions (unit_at program (unit_of s a)) x) 0 t) in
      let seven = (shape-parts there.0.shape known.1).0 in
      let within : length there.0.shape ≤ 7 = grind (arith, nat_tests) in
      omega (arith, within, known.0)

  by_index : (o : Option ℕ) → index_among x (dummies_of (unit_at program (unit_of s a))) ≡ o → adjustable_dimensions (unit_at program (unit_of s a)) x ≤ 7
  by_index None e =
      let known = own e is in
      let none = (constant-shape (unit_at program (unit_of s a)) x known.0 is known.1).1 in
      omega (arith, none)
  by_index (Some k) e = by_count k e (nat_eq (adjustable_dimensions (unit_at program (unit_of s a)) x) 0) refl
