-- Each variable of an activation's unit is found, whether it is local, in COMMON or a dummy argument, and what is found is out.
use Rattle.std.proofs.Common.{◌≡◌, ◌≢◌, ◌≤◌, ℕ, Bool, true, false, List, [], Option, Some, None, refl, sym, ap, ◌∙◌, subst, arith, ◌<◌, zero, suc, ◌+◌, ◌*◌, ◌∷◌, length, Result, Ok, Err, if◌then◌else◌, nat_eq, slice_get, ℤ, pos}
use Rattle.std.specs.Option.{unwrap_or, option_map}
use Rattle.std.proofs.lemmas.Bool.Decides.{nat_tests}
use Rattle.std.proofs.lemmas.Option.{same_Some, none-some}
use Rattle.hep_machine.specs.Words.{Name, Statement, Value, index_among, is_among, Units, dummies_of, unit_at, adjustable_dimensions, cells_of_shape, constant_shape, constant_value, shape_by, BlockName, common_block, is_array, no_shape, no_dummy, Frame, Layout, common_cells, frame_of, StorageSequence, own_storage}
use Rattle.hep_machine.specs.Words.{storage_by_dummy, storage_of, dummy_at, storage_of_dummy, Scope, location_of_name, unit_of, activation_of, Bounds, elements, is_most, is_shape, most_elements, State, Dummy, Location, local, common, scope_of, locals_of, unset_cell, integer_of, further, is_owned}
use Rattle.hep_machine.specs.declared.slot.Slot.{Slot}
use Rattle.hep_layout.specs.ArenaGaps.{frame_among}
use Rattle.hep_layout.specs.Words.{bounds, first_in_common, first_of_part, variable, argument, RunsFrom, address, IsMemory, Describes, number, slot_of_bounds, slot_of_upper, descriptor_slots}
use Rattle.hep_layout.proofs.Storages.{storage-common, storage-local, storage-dummy, shape-fits}
use Rattle.hep_image.specs.declared.array.Extents.TheVariants.{Constant, Adjustable}
use Rattle.hep_image.specs.declared.array.Start.{Start}
use Rattle.hep_image.specs.declared.array.Start.TheVariants as start
use Rattle.hep_image.specs.Addressing.{base_at, bounds_at, rest_at, base_of_dummy, bounds_from, cells_in, integer_by, natural_in, rest_of_dummy}
use Rattle.hep_image.specs.Places.{extents_of, start_by, start_of, variable_of, variable_by}
use Rattle.hep_image.specs.Constant.{HasConstantShape}
use Rattle.hep_image.proofs.ArrayExtents.{shape-parts}
use Rattle.hep_image.proofs.AddressedVariables.{IsFound, IsAddressedBy, addressed}
use Rattle.hep_machine.proofs.ConstantShapes.{constant-shape}
use Rattle.std.proofs.lemmas.Bool.{eqb-false, eqb-true}
use Rattle.hep_layout.proofs.Runs.{runs-value}
use Rattle.hep_layout.proofs.Telling.{tells-bounds, tells-first, tells-rest, tells-value}
use Rattle.hep_image.specs.BoundActivations.{IsBound, IsBoundTo, AreKept}
use Rattle.hep_machine.specs.declared.event.Kind.{Kind}
use Rattle.hep_layout.specs.ArenaHoles.{Hole, IsOut}
use Rattle.hep_code.specs.declared.variable.Variable.{Variable}
use Rattle.hep_code.specs.declared.variable.Variable.TheVariants.{Absent}
use Rattle.hep_code.specs.Words.{IsAddressed, IsSame}
use Rattle.hep_layout.proofs.Addresses.{address-out}
use Rattle.hep_layout.proofs.Frames.{among}
use Rattle.hep_layout.proofs.Memory.{frame-is-out}

-- ---- constant shapes

-- a closed shape has no more elements than any may have, an open one whatever it is given
pub most-or : (bs : Bounds) (rest : ℕ) → is_shape bs ≡ true → rest ≤ most_elements → unwrap_or (elements bs) rest ≤ most_elements
most-or bs rest h most = by_elements (elements bs) (shape-parts bs h).2 where
  by_elements : (o : Option ℕ) → is_most o ≡ true → unwrap_or o rest ≤ most_elements
  by_elements None h = most
  by_elements (Some n) h = grind (arith, nat_tests)

-- the shape of a name that is a scalar or has constant bounds
pub record IsShapedConstant (unit : List Statement) (x : Name) : Type 0 where
  pub shape : Bounds
  pub constant : constant_shape unit x ≡ Some shape
  pub scalar : is_array unit x ≡ false → shape ≡ []
  pub most : unwrap_or (elements shape) 0 ≤ most_elements
  pub extents : is_array unit x ≡ true → extents_of unit x ≡ Constant shape

pub constant-extents : (unit : List Statement) (x : Name) (bs : Bounds) → constant_shape unit x ≡ Some bs → adjustable_dimensions unit x ≡ 0 → extents_of unit x ≡ Constant bs
constant-extents unit x bs e none =
    ap (λ n. if nat_eq n 0 then Constant (unwrap_or (constant_shape unit x) no_shape) else Adjustable (first_of_part unit (bounds x)) n) none
    ∙ ap (λ (o : Option Bounds). Constant (unwrap_or o no_shape)) e

pub shaped-constant : (unit : List Statement) (x : Name) → HasConstantShape unit x → IsShapedConstant unit x
shaped-constant unit x has = by_kind (is_array unit x) refl where
  by_kind : (b : Bool) → is_array unit x ≡ b → IsShapedConstant unit x
  by_kind true is =
      let known = has is in
      let good = constant-shape unit x known.0 is known.1 in
      record {
        shape = known.0;
        constant = known.1;
        scalar = λ other. absurd (let false_is : true ≡ false = sym is ∙ other in cc);
        most = most-or known.0 0 good.0 (omega arith);
        extents = λ same. constant-extents unit x known.0 known.1 good.1;
      }
  by_kind false is =
      record {
        shape = [];
        constant = ap (λ b. if b then shape_by unit (constant_value unit) x else Some []) is;
        scalar = λ same. refl;
        most = omega arith;
        extents = λ other. absurd (let false_is : false ≡ true = sym is ∙ other in cc);
      }

-- ---- local variables, and names in COMMON

module _ (program : Units) (s : State) (layout : Layout) (cells : ℕ → Slot) (a : ℕ) (f : Frame) (framed : frame_among a layout ≡ Some f) where
  abbrev unit : List Statement
  unit = unit_at program (unit_of s a)

  abbrev storage : Name → StorageSequence
  storage x = storage_of (scope_of program s a) x

  runs : (x : Name) (at : Start) → slice_get program (unit_of s a) ≡ Some unit → index_among x (dummies_of unit) ≡ None → start_of program unit x ≡ Some at
      → RunsFrom program s layout (storage x).start (storage x).rest (base_at cells f.first at) × (rest_at cells f.first at ≡ 0)
  unfolding start_of
  runs x at there none e = by_block (common_block unit x) (is_among x (locals_of unit)) refl refl (sym (ap (λ k. start_by program unit x k (common_block unit x) (is_among x (locals_of unit))) none) ∙ e) where
    by_block : (b : Option BlockName) (l : Bool) → common_block unit x ≡ b → is_among x (locals_of unit) ≡ l → start_by program unit x None b l ≡ Some at
        → RunsFrom program s layout (storage x).start (storage x).rest (base_at cells f.first at) × (rest_at cells f.first at ≡ 0)
    by_block (Some b) l g h e =
        subst (λ z. RunsFrom program s layout (storage x).start (storage x).rest (base_at cells f.first z) × (rest_at cells f.first z ≡ 0)) (same_Some (start.Common (first_in_common program unit b x)) at e) (storage-common program s layout a x b there none g, refl)
    by_block None true g h e =
        subst (λ z. RunsFrom program s layout (storage x).start (storage x).rest (base_at cells f.first z) × (rest_at cells f.first z ≡ 0)) (same_Some (start.Local (first_of_part unit (variable x))) at e) (storage-local program s layout a x f framed h, refl)
    by_block None false g h e = absurd (none-some at e)

  pub own-found : (x : Name) (at : Start) → slice_get program (unit_of s a) ≡ Some unit → index_among x (dummies_of unit) ≡ None → start_of program unit x ≡ Some at → HasConstantShape unit x → IsFound program s layout cells a f x at
  own-found x at there none e has =
      let is = shaped-constant unit x has in
      let kept = runs x at there none e in
      let own : storage x ≡ own_storage (scope_of program s a) x = ap (storage_by_dummy (scope_of program s a) x) none in
      let rest : (storage x).rest ≡ unwrap_or (elements is.shape) 0 = ap (λ (z : StorageSequence). z.rest) own ∙ ap cells_of_shape is.constant in
      let shape : (storage x).shape ≡ is.shape = ap (λ (z : StorageSequence). z.shape) own ∙ ap (λ (o : Option Bounds). unwrap_or o no_shape) is.constant in
      let found : (b : is_array unit x ≡ true) → bounds_at cells f.first (extents_of unit x) ≡ is.shape = λ b. ap (bounds_at cells f.first) (is.extents b) in
      record {
        starts = e;
        runs = kept.0;
        few = subst (λ n. n ≤ most_elements) (sym rest) is.most;
        scalar = λ b. (shape ∙ is.scalar b, rest ∙ ap (λ (bs : Bounds). unwrap_or (elements bs) 0) (is.scalar b));
        shaped = λ b. found b ∙ sym shape;
        counted = λ b. ap (λ (bs : Bounds). unwrap_or (elements bs) (rest_at cells f.first at)) (found b) ∙ (ap (unwrap_or (elements is.shape)) kept.1 ∙ sym rest);
      }

  pub own-addressed : (x : Name) (vs : List Value) → slice_get program (unit_of s a) ≡ Some unit → index_among x (dummies_of unit) ≡ None → start_of program unit x ≢ None → HasConstantShape unit x → IsAddressedBy program s layout cells a f x vs (variable_of program unit x)
  own-addressed x vs there none begins has = by_start (start_of program unit x) refl where
    by_start : (o : Option Start) → start_of program unit x ≡ o → IsAddressedBy program s layout cells a f x vs (variable_of program unit x)
    by_start None e = absurd (begins e)
    by_start (Some at) e = addressed program s layout cells a f x at vs (own-found x at there none e has)

-- ---- the bounds that cells have

upper-read : (u : Option ℤ) → option_map integer_of (slot_of_upper u).value ≡ u
upper-read None = refl
upper-read (Some z) = refl

-- bounds are read back as they were written
bounds-read : (cells : ℕ → Slot) (first c : ℕ) (bs : Bounds) → ((i : ℕ) (slot : Slot) → i < 2 * length bs → slot_of_bounds bs i ≡ Some slot → cells (first + c + i) ≡ slot) → bounds_from cells first c (length bs) ≡ bs
bounds-read cells first c [] written = refl
bounds-read cells first c (b ∷ bs) written = read (bounds-read cells first (suc (suc c)) bs later) where
  lower : cells (first + c) ≡ number b.lower
  lower = ap cells (omega arith) ∙ written 0 (number b.lower) (omega arith) refl

  upper : cells (first + suc c) ≡ slot_of_upper b.upper
  upper = ap cells (omega arith) ∙ written 1 (slot_of_upper b.upper) (omega arith) refl

  later : (i : ℕ) (slot : Slot) → i < 2 * length bs → slot_of_bounds bs i ≡ Some slot → cells (first + suc (suc c) + i) ≡ slot
  later i slot less is = ap cells (omega arith) ∙ written (suc (suc i)) slot (omega (arith, less)) is

  read : bounds_from cells first (suc (suc c)) (length bs) ≡ bs → bounds_from cells first c (suc (length bs)) ≡ b ∷ bs
  read behind =
      (λ k. record { lower = integer_by (pos 1) (lower k).value; upper = option_map integer_of (upper k).value } ∷ behind k)
      ∙ ap (λ u. record { lower = b.lower; upper = u } ∷ bs) (upper-read b.upper)

-- ---- dummy arguments: what they stand for begins where their cells say

-- no cell further is the same place
pub further-none : (at : Location) → further at 0 ≡ at
further-none (local a x i) = ap (local a x) (omega arith)
further-none (common b k) = ap (common b) (omega arith)

module _ (program : Units) (s : State) (layout : Layout) (contents : List Slot) (a : ℕ) (f : Frame) (describes : Describes program s layout (descriptor_slots program s layout) contents) (framed : frame_among a layout ≡ Some f) (x : Name) (k : ℕ) (e : index_among x (dummies_of (unit_at program (unit_of s a))) ≡ Some k) where
  abbrev its_unit : List Statement
  its_unit = unit_at program (unit_of s a)

  abbrev cells : ℕ → Slot
  cells = cells_in contents

  abbrev dummy : Dummy
  dummy = dummy_at (activation_of s a).dummies k

  abbrev at : Start
  at = start.Dummy (first_of_part its_unit (argument x))

  starts : start_of program its_unit x ≡ Some at
  unfolding start_of
  starts = ap (λ o. start_by program its_unit x o (common_block its_unit x) (is_among x (locals_of its_unit))) e

  -- what the second cell says: how many storage units there are, or nothing, where it stands for an expression
  second : (slot : Slot) → slice_get contents (f.first + first_of_part its_unit (argument x) + 1) ≡ Some slot → cells (f.first + suc (first_of_part its_unit (argument x))) ≡ slot
  second slot is = ap cells (omega arith) ∙ ap (λ o. unwrap_or o unset_cell) is

  first : (slot : Slot) → slice_get contents (f.first + first_of_part its_unit (argument x) + 0) ≡ Some slot → cells (f.first + first_of_part its_unit (argument x)) ≡ slot
  first slot is = ap cells (omega arith) ∙ ap (λ o. unwrap_or o unset_cell) is

  -- where what it stands for is kept, and how many storage units there are
  abbrev IsKept : Type 0
  IsKept = RunsFrom program s layout dummy.start dummy.rest (base_at cells f.first at) × (rest_at cells f.first at ≡ dummy.rest)

  pub kept-value : is_owned a dummy.start ≡ true → (dummy.start ≡ local a x 1) × (dummy.rest ≡ 1) → IsKept
  kept-value own is =
      let none = second unset_cell (tells-value program s layout contents a f describes framed x k e own) in
      let base : base_at cells f.first at ≡ f.first + first_of_part its_unit (argument x) = ap (λ (slot : Slot). base_of_dummy cells f.first (first_of_part its_unit (argument x)) slot.value) none in
      let rest : rest_at cells f.first at ≡ 1 = ap (λ (slot : Slot). rest_of_dummy cells f.first slot.value) none in (
        subst (λ n. RunsFrom program s layout dummy.start dummy.rest n) (sym base) (
            subst (λ z. RunsFrom program s layout z dummy.rest (f.first + first_of_part its_unit (argument x))) (sym is.0) (
            subst (λ n. RunsFrom program s layout (local a x 1) n (f.first + first_of_part its_unit (argument x))) (sym is.1) (runs-value program s layout a x k f framed e own))),
        rest ∙ sym is.1,
      )

  pub kept-reference : (base : ℕ) → is_owned a dummy.start ≡ false → RunsFrom program s layout dummy.start dummy.rest base → IsKept
  kept-reference base other runs = (by_rest dummy.rest refl, ap (λ (slot : Slot). rest_of_dummy cells f.first slot.value) some) where
    some : cells (f.first + suc (first_of_part its_unit (argument x))) ≡ number (pos dummy.rest)
    some = second (number (pos dummy.rest)) (tells-rest program s layout contents a f describes framed x k e other)

    by_rest : (n : ℕ) → dummy.rest ≡ n → RunsFrom program s layout dummy.start dummy.rest (base_at cells f.first at)
    by_rest zero is = λ j less. absurd (omega (arith, is, less))
    by_rest (suc n) is =
        let there : address program s layout dummy.start ≡ Some base = ap (address program s layout) (sym (further-none dummy.start)) ∙ (runs 0 (omega (arith, is)) ∙ ap (λ m. Some m) (omega arith)) in
        let begins = first (number (pos base)) (tells-first program s layout contents a f describes framed x k base e other there) in
        let base_is : base_at cells f.first at ≡ base = ap (λ (slot : Slot). base_of_dummy cells f.first (first_of_part its_unit (argument x)) slot.value) some ∙ ap natural_in begins in
        subst (λ m. RunsFrom program s layout dummy.start dummy.rest m) (sym base_is) runs

  -- the bounds that the cells have
  shaped : IsBoundTo its_unit a x dummy → is_array its_unit x ≡ true → bounds_at cells f.first (extents_of its_unit x) ≡ dummy.shape
  shaped bound is = by_test (nat_eq (adjustable_dimensions its_unit x) 0) refl where
    by_test : (b : Bool) → nat_eq (adjustable_dimensions its_unit x) 0 ≡ b → bounds_at cells f.first (extents_of its_unit x) ≡ dummy.shape
    by_test true t =
        let none = eqb-true (adjustable_dimensions its_unit x) 0 t in
        ap (bounds_at cells f.first) (constant-extents its_unit x dummy.shape (bound.constant is none) none)
    by_test false t =
        let known = bound.adjustable is (eqb-false (adjustable_dimensions its_unit x) 0 t) in
        ap (λ b. bounds_at cells f.first (if b then Constant (unwrap_or (constant_shape its_unit x) no_shape) else Adjustable (first_of_part its_unit (bounds x)) (adjustable_dimensions its_unit x))) t
        ∙ (ap (bounds_from cells f.first (first_of_part its_unit (bounds x))) (sym known.0)
        ∙ bounds-read cells f.first (first_of_part its_unit (bounds x)) dummy.shape (λ i slot less wants. ap (λ o. unwrap_or o unset_cell) (
        tells-bounds program s layout contents a f describes framed x k i slot e (subst (λ n. i < 2 * n) known.0 less) wants)))

  pub dummy-found : IsBoundTo its_unit a x dummy → IsKept → IsFound program s layout cells a f x at
  dummy-found bound kept =
      let storage : storage_of (scope_of program s a) x ≡ storage_of_dummy dummy = ap (storage_by_dummy (scope_of program s a) x) e in
      let rest : (storage_of (scope_of program s a) x).rest ≡ unwrap_or (elements dummy.shape) dummy.rest = ap (λ (z : StorageSequence). z.rest) storage in
      let shape : (storage_of (scope_of program s a) x).shape ≡ dummy.shape = ap (λ (z : StorageSequence). z.shape) storage in
      record {
        starts = starts;
        runs = storage-dummy program s layout a x k (base_at cells f.first at) e bound.fitting kept.0;
        few = omega (arith, rest, shape-fits dummy.shape dummy.rest bound.fitting, bound.few);
        scalar = λ is. (shape ∙ bound.scalar is, rest ∙ ap (λ (bs : Bounds). unwrap_or (elements bs) dummy.rest) (bound.scalar is));
        shaped = λ is. shaped bound is ∙ sym shape;
        counted = λ is. ap (λ (bs : Bounds). unwrap_or (elements bs) (rest_at cells f.first at)) (shaped bound is) ∙ (ap (unwrap_or (elements dummy.shape)) kept.1 ∙ sym rest);
      }

  pub bound-dummy : IsBound program s a → IsBoundTo its_unit a x dummy
  bound-dummy bound =
      let there = bound x k e in
      subst (IsBoundTo its_unit a x) (sym (ap (λ o. unwrap_or o no_dummy) there.1)) there.2

  pub dummy-addressed : (base : ℕ) (vs : List Value) → IsBound program s a → (is_owned a dummy.start ≡ false → RunsFrom program s layout dummy.start dummy.rest base) → IsAddressedBy program s layout cells a f x vs (variable_of program its_unit x)
  dummy-addressed base vs bound runs = addressed program s layout cells a f x at vs (dummy-found (bound-dummy bound) (by_owner (is_owned a dummy.start) refl)) where
    by_owner : (b : Bool) → is_owned a dummy.start ≡ b → IsKept
    by_owner true own = kept-value own ((bound-dummy bound).value own)
    by_owner false other = kept-reference base other (runs other)

-- ---- what is found is out, and so are the cells of frames

-- the address of a location
same-at : (program : Units) (s : State) (layout : Layout) (found : Result ℕ Kind) (there : Result Location Kind) (p : ℕ) → IsSame (address program s layout) found there → found ≡ Ok p → (at : Location) × (address program s layout at ≡ Some p)
same-at program s layout (Ok q) (Ok at) p same e = let places : q ≡ p = cc in (at, same ∙ ap (λ n. Some n) places)
same-at program s layout (Ok q) (Err k) p same e = absurd same
same-at program s layout (Err k) there p same e = absurd cc

pub reached : (program : Units) (s : State) (layout : Layout) (contents : List Slot) (holes : List Hole) (scope : Scope) (found : Variable → List Value → Result ℕ Kind) (variables : Name → Variable) (x : Name) (subscripts : List Value) (p : ℕ)
    → IsMemory program s layout contents holes → IsAddressed (address program s layout) scope found variables x subscripts → found (variables x) subscripts ≡ Ok p → (p < length contents) × IsOut p holes
reached program s layout contents holes scope found variables x subscripts p h addressed e =
    let there = same-at program s layout (found (variables x) subscripts) (location_of_name scope x subscripts) p addressed.1 e in
    let out = address-out program s (length contents) layout there.0 p h.laid there.1 in
    (out.0, subst (IsOut p) (sym h.holes_are) out.1)

pub frame-reached : (program : Units) (s : State) (layout : Layout) (contents : List Slot) (holes : List Hole) (a : ℕ) (f : Frame) → IsMemory program s layout contents holes → frame_among a layout ≡ Some f
    → (f.cells ≡ frame_of program s a) × (f.first + f.cells ≤ length contents) × ((p : ℕ) → f.first ≤ p → p < f.first + f.cells → IsOut p holes)
frame-reached program s layout contents holes a f h e =
    (h.laid.sized a f e, (among (length contents) (common_cells program) a layout f h.laid.apart e).inside, λ p. frame-is-out program s layout contents holes a p f h e)

-- what isn't absent begins somewhere
begins : (program : Units) (unit : List Statement) (x : Name) → variable_of program unit x ≢ Absent → start_of program unit x ≢ None
unfolding variable_of
begins program unit x there none = there (ap (variable_by unit x) none)

-- ---- any variable of an activation's unit

-- where it begins, it is found
pub any-found : (program : Units) (s : State) (layout : Layout) (contents : List Slot) (a : ℕ) (f : Frame) (x : Name)
    → Describes program s layout (descriptor_slots program s layout) contents → frame_among a layout ≡ Some f → slice_get program (unit_of s a) ≡ Some (unit_at program (unit_of s a)) → IsBound program s a → AreKept program s layout a
    → (index_among x (dummies_of (unit_at program (unit_of s a))) ≡ None → HasConstantShape (unit_at program (unit_of s a)) x) → variable_of program (unit_at program (unit_of s a)) x ≢ Absent
    → (at : Start) × IsFound program s layout (cells_in contents) a f x at
any-found program s layout contents a f x describes framed unit bound kept own there = by_index (index_among x (dummies_of (unit_at program (unit_of s a)))) refl where
  by_start : index_among x (dummies_of (unit_at program (unit_of s a))) ≡ None → (o : Option Start) → start_of program (unit_at program (unit_of s a)) x ≡ o → (at : Start) × IsFound program s layout (cells_in contents) a f x at
  by_start e None b = absurd (begins program (unit_at program (unit_of s a)) x there b)
  by_start e (Some at) b = (at, own-found program s layout (cells_in contents) a f framed x at unit e b (own e))

  by_index : (o : Option ℕ) → index_among x (dummies_of (unit_at program (unit_of s a))) ≡ o → (at : Start) × IsFound program s layout (cells_in contents) a f x at
  by_index None e = by_start e (start_of program (unit_at program (unit_of s a)) x) refl
  by_index (Some k) e = by_owner (is_owned a (dummy_at (activation_of s a).dummies k).start) refl where
    is_bound : IsBoundTo (unit_at program (unit_of s a)) a x (dummy_at (activation_of s a).dummies k)
    is_bound = bound-dummy program s layout contents a f describes framed x k e bound

    by_owner : (b : Bool) → is_owned a (dummy_at (activation_of s a).dummies k).start ≡ b → (at : Start) × IsFound program s layout (cells_in contents) a f x at
    by_owner true o = (start.Dummy (first_of_part (unit_at program (unit_of s a)) (argument x)), dummy-found program s layout contents a f describes framed x k e is_bound (kept-value program s layout contents a f describes framed x k e o (is_bound.value o)))
    by_owner false o =
        let runs = kept k o in
        (start.Dummy (first_of_part (unit_at program (unit_of s a)) (argument x)), dummy-found program s layout contents a f describes framed x k e is_bound (kept-reference program s layout contents a f describes framed x k e runs.0 o runs.1))

pub any-addressed : (program : Units) (s : State) (layout : Layout) (contents : List Slot) (a : ℕ) (f : Frame) (x : Name) (subscripts : List Value)
    → Describes program s layout (descriptor_slots program s layout) contents → frame_among a layout ≡ Some f → slice_get program (unit_of s a) ≡ Some (unit_at program (unit_of s a)) → IsBound program s a → AreKept program s layout a
    → (index_among x (dummies_of (unit_at program (unit_of s a))) ≡ None → HasConstantShape (unit_at program (unit_of s a)) x) → variable_of program (unit_at program (unit_of s a)) x ≢ Absent
    → IsAddressedBy program s layout (cells_in contents) a f x subscripts (variable_of program (unit_at program (unit_of s a)) x)
any-addressed program s layout contents a f x subscripts describes framed unit bound kept own there =
    let found = any-found program s layout contents a f x describes framed unit bound kept own there in
    addressed program s layout (cells_in contents) a f x found.0 subscripts found.1
