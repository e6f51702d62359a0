-- The variables of an activation, in its frame.
use Rattle.std.proofs.Common.{◌≡◌, ℕ, zero, suc, ◌+◌, ◌≤◌, Bool, true, false, List, [], ◌∷◌, ◌++◌, length, map, refl, sym, ap, ◌∙◌, subst, arith, slice_get, Option, Some, None, if◌then◌else◌, is_none, pos}
use Rattle.std.specs.Option.{option_map, unwrap_or}
use Rattle.std.proofs.lemmas.List.{length-map}
use Rattle.std.proofs.lemmas.Option.{same_Some, none-some, slice_get-map}
use Rattle.hep_machine.specs.Words.{Name, Statement, BlockName, Dummy, Units, Layout, State, activation_of, cells_of, common_block, common_cells, dummies_of, dummy_at, frame_cells, frame_of, index_among, is_among, is_owned, local, locals_of, same_name, scope_of, spelling, start_by_block, storage_by_dummy, storage_of, unit_at, unit_of, unset_cell}
use Rattle.hep_machine.specs.declared.slot.Slot.{Slot}
use Rattle.hep_arena.specs.Space.{Space}
use Rattle.hep_source.proofs.NameTests.{same_name-self}
use Rattle.hep_source.proofs.Tests.{at-front}
use Rattle.hep_layout.specs.Words.{FramePart, RunsFrom, argument, first_of_part, number, variable, frame_row, same_part}
use Rattle.hep_layout.proofs.FrameRows.{argument-first, first-size, frame_row-cells}
use Rattle.hep_layout.proofs.Frames.{among}
use Rattle.hep_layout.proofs.Memory.{frame-is-out}
use Rattle.hep_layout.proofs.Runs.{runs-local, runs-value}
use Rattle.hep_layout.proofs.Telling.{tells-rest, tells-value}
use Rattle.hep_image.specs.Addressing.{cells_in}
use Rattle.hep_image.specs.Owners.{argument_at, frame_variables, variable_at}
use Rattle.hep_state_text.specs.Contents.{variable_text}
use Rattle.hep_state_text.specs.States as words
use Rattle.hep_state_text.specs.States.{slots_at}
use Rattle.hep_state_text.specs.declared.variable.DisplayedVariable.{DisplayedVariable}
use Rattle.hep_state_text.specs.StoredVariables.{AreKeptFrom, AreOut, IsFrameOf}
use Rattle.hep_state_text.specs.Variables.{IsOwn, value_line, value_seen}
use Rattle.hep_layout.proofs.Storages.{local-block}

-- ---- lists

at-behind : {A : Type 0} (xs ys : List A) (i : ℕ) → slice_get (xs ++ ys) (length xs + i) ≡ slice_get ys i
at-behind [] ys i = let same : 0 + i ≡ i = omega arith in ap (slice_get ys) same
at-behind (x ∷ xs) ys i = let same : suc (length xs) + i ≡ suc (length xs + i) = omega arith in ap (slice_get (x ∷ (xs ++ ys))) same ∙ at-behind xs ys i

pub among-at : (xs : List Name) (i : ℕ) (x : Name) → slice_get xs i ≡ Some x → is_among x xs ≡ true
among-at [] i x e = absurd (none-some x e)
among-at (y ∷ ys) zero x e = ap (λ t. if t then true else is_among x ys) (ap (same_name x) (same_Some y x e) ∙ same_name-self x)
among-at (y ∷ ys) (suc i) x e = by_test (among-at ys i x e) (same_name x y) where
  by_test : is_among x ys ≡ true → (t : Bool) → (if t then true else is_among x ys) ≡ true
  by_test rest true = refl
  by_test rest false = rest

-- ---- which variable it is

-- behind the dummy arguments
pub local-at : (unit : List Statement) (i : ℕ) (x : Name) → slice_get (locals_of unit) i ≡ Some x → slice_get (frame_variables unit) (length (dummies_of unit) + i) ≡ Some (variable_at unit x)
local-at unit i x e =
    ap (λ n. slice_get (frame_variables unit) (n + i)) (sym (length-map (dummies_of unit) (argument_at unit)))
    ∙ at-behind (map (argument_at unit) (dummies_of unit)) (map (variable_at unit) (locals_of unit)) i
    ∙ slice_get-map (variable_at unit) (locals_of unit) i ∙ ap (option_map (variable_at unit)) e

pub argument-at : (unit : List Statement) (i : ℕ) (x : Name) → slice_get (dummies_of unit) i ≡ Some x → slice_get (frame_variables unit) i ≡ Some (argument_at unit x)
argument-at unit i x e =
    at-front (map (argument_at unit) (dummies_of unit)) (map (variable_at unit) (locals_of unit)) i (argument_at unit x) (slice_get-map (argument_at unit) (dummies_of unit) i ∙ ap (option_map (argument_at unit)) e)

-- ---- where it begins

pub part-few : (unit : List Statement) (part : FramePart) → first_of_part unit part ≤ frame_cells unit
part-few unit part =
    let sized = first-size (same_part part) (frame_row unit) in
    omega (arith, sized, frame_row-cells unit)

-- ---- local variables

module _ (program : Units) (s : State) (a : ℕ) where
  abbrev unit : List Statement
  unit = unit_at program (unit_of s a)

  -- the lines of a local variable
  pub own-is : (x : Name) (v : DisplayedVariable) (slots : List Slot) → is_among x (locals_of unit) ≡ true → IsOwn unit x v → slots ≡ slots_at s.store (local a x 1) (cells_of unit x)
      → variable_text v.name v.asynchronous v.bounds.items slots ≡ words.own_text program s (scope_of program s a) x
  own-is x v slots h own e =
      let at : slots ≡ slots_at s.store (start_by_block (scope_of program s a) x (common_block unit x)) (cells_of unit x)
      = e ∙ ap (λ (o : Option BlockName). slots_at s.store (start_by_block (scope_of program s a) x o) (cells_of unit x)) (sym (local-block unit x h)) in
      λ i. variable_text (own.name i) (own.asynchronous i) (own.shape i) (at i)

-- ---- what is kept of an activation

module _ (program : Units) (s : State) (layout : Layout) (a first : ℕ) (arena : Space) (frame : IsFrameOf program s layout a first arena) where
  -- a local variable
  pub local-kept : (x : Name) → is_among x (locals_of (unit_at program (unit_of s a))) ≡ true
      → AreKeptFrom program s layout (local a x 1) (cells_of (unit_at program (unit_of s a)) x) (first + first_of_part (unit_at program (unit_of s a)) (variable x)) arena
  local-kept x h =
      record {
        is_of = frame.is_of;
        runs = subst (λ n. RunsFrom program s layout (local a x 1) (cells_of (unit_at program (unit_of s a)) x) (n + first_of_part (unit_at program (unit_of s a)) (variable x))) frame.first_is
            (runs-local program s layout a x frame.frame frame.framed h);
      }

  -- the two cells of a dummy argument are in the frame
  pub dummy-out : (k : ℕ) (x : Name) → slice_get (dummies_of (unit_at program (unit_of s a))) k ≡ Some x
      → AreOut (first + first_of_part (unit_at program (unit_of s a)) (argument x)) 2 arena
  dummy-out k x named =
      let own = unit_at program (unit_of s a) in
      let f = frame.frame in
      let entry = argument-first own x k (frame.dummies.once k x named) in
      let within : first_of_part own (argument x) + 2 ≤ frame_cells own = omega (arith, entry.sized, first-size (same_part (argument x)) (frame_row own), frame_row-cells own) in
      let inside = (among (length arena.contents) (common_cells program) a layout f frame.is_of.memory.laid.apart frame.framed).inside in
      let size : f.cells ≡ frame_of program s a = frame.is_of.memory.laid.sized a f frame.framed in
      record {
        few = frame.is_of.few;
        inside = omega (arith, inside, size, within, frame.first_is);
        out = λ p low high.
            frame-is-out program s layout arena.contents arena.holes a p f frame.is_of.memory frame.framed (omega (arith, low, frame.first_is)) (omega (arith, high, size, within, frame.first_is));
      }

  -- a dummy argument, by its two cells
  pub value-is : (k : ℕ) (x : Name) → slice_get (dummies_of (unit_at program (unit_of s a))) k ≡ Some x
      → value_line (spelling x) x.asynchronous (value_seen arena.contents (first + first_of_part (unit_at program (unit_of s a)) (argument x))) ≡ words.value_text program s (scope_of program s a) x
  value-is k x named = by_owner (is_owned a d.start) refl where
    unit : List Statement
    unit = unit_at program (unit_of s a)

    d : Dummy
    d = dummy_at (activation_of s a).dummies k

    index : index_among x (dummies_of unit) ≡ Some k
    index = frame.dummies.once k x named

    -- what it stands for
    start : (storage_of (scope_of program s a) x).start ≡ d.start
    start = ap (λ (o : Option ℕ). (storage_by_dummy (scope_of program s a) x o).start) index

    at : ℕ
    at = first + first_of_part unit (argument x)

    contents : List Slot
    contents = arena.contents

    line : Slot → List ℕ
    line slot = variable_text (spelling x) x.asynchronous [] (slot ∷ [])

    -- what the second cell holds
    second : (slot : Slot) → slice_get contents (frame.frame.first + first_of_part unit (argument x) + 1) ≡ Some slot → cells_in contents (suc at) ≡ slot
    second slot e =
        let same : suc at ≡ frame.frame.first + first_of_part unit (argument x) + 1 = omega (arith, frame.first_is) in
        ap (λ p. unwrap_or (slice_get contents p) unset_cell) same ∙ ap (λ o. unwrap_or o unset_cell) e

    -- and the first one, of an expression
    first-holds : is_owned a d.start ≡ true → cells_in contents at ≡ s.store (local a x 1)
    first-holds own =
        let same : frame.frame.first + first_of_part unit (argument x) + 0 ≡ at = omega (arith, frame.first_is) in
        let here = runs-value program s layout a x k frame.frame frame.framed index own 0 (omega arith) ∙ ap (λ p. Some p) same in
        ap (λ o. unwrap_or o unset_cell) (frame.is_of.memory.holds (local a x 1) at here)

    start-own : is_owned a d.start ≡ true → d.start ≡ local a x 1
    start-own own =
        let bound = frame.dummies.bound x k index in
        let same : d ≡ bound.0 = ap (λ o. unwrap_or o (dummy_at [] 0)) bound.1 in
        ap (λ (z : Dummy). z.start) same ∙ (bound.2.value (ap (λ (z : Dummy). is_owned a z.start) (sym same) ∙ own)).0

    by_owner : (b : Bool) → is_owned a d.start ≡ b → value_line (spelling x) x.asynchronous (value_seen contents at) ≡ words.value_text program s (scope_of program s a) x
    by_owner true own =
        ap (λ (slot : Slot). value_line (spelling x) x.asynchronous (if is_none slot.value then Some (cells_in contents at) else None)) (second unset_cell (tells-value program s layout contents a frame.frame frame.described frame.framed x k index own))
        ∙ ap line (first-holds own)
        ∙ ap (λ l. line (s.store l)) (sym (start-own own))
        ∙ sym (ap (λ b. if b then line (s.store d.start) else []) own)
        ∙ sym (ap (λ l. if is_owned a l then line (s.store l) else []) start)
    by_owner false other =
        ap (λ (slot : Slot). value_line (spelling x) x.asynchronous (if is_none slot.value then Some (cells_in contents at) else None)) (second (number (pos d.rest)) (tells-rest program s layout contents a frame.frame frame.described frame.framed x k index other))
        ∙ sym (ap (λ b. if b then line (s.store d.start) else []) other)
        ∙ sym (ap (λ l. if is_owned a l then line (s.store l) else []) start)
