-- Storage sequences of names, their elements, and what dummy arguments stand for, in the arena.
use Rattle.hep_source.proofs.Tests.{none-from-not}
use Rattle.std.proofs.Common.{◌≡◌, ℕ, ◌+◌, ◌-◌, ◌≤◌, true, List, [], Option, Some, None, Result, Ok, Err, refl, sym, ap, ◌∙◌, subst, arith, ◌&&◌, not, nat_le, slice_get}
use Rattle.std.specs.Option.{unwrap_or}
use Rattle.std.proofs.lemmas.Bool.{and_parts, not-true}
use Rattle.std.proofs.lemmas.Bool.Decides.{nat_tests}
use Rattle.std.proofs.lemmas.Option.{same_Some, none-some}
use Rattle.hep_machine.specs.Words.{Name, Statement, Value, is_among, index_among, Units, unit_at, dummies_of, integers_of, dummy_for, first_element, from_element, BlockName, common_block, is_constant_name, is_common, is_dummy, referred, Reference, Frame, Layout, Scope, StorageSequence, dummy_at, element_in}
use Rattle.hep_machine.specs.Words.{element_of, location_in, location_of_name, storage_of, activation_of, unit_of, Bounds, before_element, element_number, elements, fits, sum, Dummy, Location, State, scope_of, further, is_local, locals_of, names_of}
use Rattle.hep_machine.specs.declared.event.Kind.{Kind}
use Rattle.hep_machine.specs.declared.event.Kind.TheVariants.{Range}
use Rattle.hep_arena.specs.Gaps.{frame_among}
use Rattle.hep_layout.specs.Words.{address, first_in_common, first_of_part, variable, RunsFrom}
use Rattle.hep_layout.proofs.Runs.{among-filter, local-index, runs-common, runs-fewer, runs-from, runs-local}

-- ---- names

-- a local variable is in no common block
pub local-block : (unit : List Statement) (x : Name) → is_among x (locals_of unit) ≡ true → common_block unit x ≡ None
local-block unit x h =
    let both = (and_parts (not (is_dummy unit x)) (not (is_common unit x) && not (is_constant_name unit x)) (among-filter x (is_local unit) (names_of unit) h)).1 in
    none-from-not (common_block unit x) (not-true (is_common unit x) (and_parts (not (is_common unit x)) (not (is_constant_name unit x)) both).0)

pub storage-local : (program : Units) (s : State) (layout : Layout) (a : ℕ) (x : Name) (f : Frame) → frame_among a layout ≡ Some f → is_among x (locals_of (unit_at program (unit_of s a))) ≡ true
    → RunsFrom program s layout (storage_of (scope_of program s a) x).start (storage_of (scope_of program s a) x).rest (f.first + first_of_part (unit_at program (unit_of s a)) (variable x))
storage-local program s layout a x f framed h =
    rw (local-index (unit_at program (unit_of s a)) x h, local-block (unit_at program (unit_of s a)) x h) (runs-local program s layout a x f framed h)

pub storage-common : (program : Units) (s : State) (layout : Layout) (a : ℕ) (x : Name) (b : BlockName) → slice_get program (unit_of s a) ≡ Some (unit_at program (unit_of s a)) → index_among x (dummies_of (unit_at program (unit_of s a))) ≡ None
    → common_block (unit_at program (unit_of s a)) x ≡ Some b
    → RunsFrom program s layout (storage_of (scope_of program s a) x).start (storage_of (scope_of program s a) x).rest (first_in_common program (unit_at program (unit_of s a)) b x)
storage-common program s layout a x b e none h = rw (none, h) (runs-common program s layout (unit_of s a) (unit_at program (unit_of s a)) x b e h)

-- a dummy argument has no more elements than there are
pub shape-fits : (bs : Bounds) (rest : ℕ) → fits bs rest ≡ true → unwrap_or (elements bs) rest ≤ rest
shape-fits bs rest h = by_elements (elements bs) h where
  by_elements : (o : Option ℕ) → nat_le (unwrap_or o 0) rest ≡ true → unwrap_or o rest ≤ rest
  by_elements None h = omega arith
  by_elements (Some n) h = grind (arith, nat_tests)

pub storage-dummy : (program : Units) (s : State) (layout : Layout) (a : ℕ) (x : Name) (i first : ℕ) → index_among x (dummies_of (unit_at program (unit_of s a))) ≡ Some i → fits (dummy_at (activation_of s a).dummies i).shape (dummy_at (activation_of s a).dummies i).rest ≡ true
    → RunsFrom program s layout (dummy_at (activation_of s a).dummies i).start (dummy_at (activation_of s a).dummies i).rest first
    → RunsFrom program s layout (storage_of (scope_of program s a) x).start (storage_of (scope_of program s a) x).rest first
storage-dummy program s layout a x i first e fitting h =
    let d = dummy_at (activation_of s a).dummies i in
    rw e (runs-fewer program s layout d.start d.rest first (unwrap_or (elements d.shape) d.rest) h (shape-fits d.shape d.rest fitting))

-- ---- elements

pub same-ok : {A E : Type 0} (x y : A) → ◌≡◌ {A = Result A E} (Ok x) (Ok y) → x ≡ y
same-ok x y e = cc

err-ok : {A E B : Type 0} (k : E) (x : A) → ◌≡◌ {A = Result A E} (Err k) (Ok x) → B
err-ok k x e = absurd cc

-- elements are counted from 1, and there are no more than the sequence has
element-within : (e : StorageSequence) (o : Option ℕ) (n : ℕ) → element_in e o ≡ Ok n → (o ≡ Some n) × (n ≤ e.rest)
element-within e None n h = err-ok Range n h
element-within e (Some m) n h = (grind (arith, nat_tests), grind (arith, nat_tests))

pub from-one : (o : Option ℕ) (n : ℕ) → sum 1 o ≡ Some n → 1 ≤ n
from-one None n h = absurd (none-some n h)
from-one (Some m) n h = let same = same_Some (1 + m) n h in omega (arith, same)

pub element-counted : (e : StorageSequence) (subscripts : List Value) (n : ℕ) → element_of e subscripts ≡ Ok n → (1 ≤ n) × (n ≤ e.rest)
element-counted e subscripts n h =
    let within = element-within e (element_number e.shape (integers_of subscripts)) n h in
    (from-one (before_element 1 e.shape (integers_of subscripts)) n within.0, within.1)

-- a scalar or an element is in the cell of its number
pub element-address : (program : Units) (s : State) (layout : Layout) (scope : Scope) (x : Name) (subscripts : List Value) (first : ℕ) (at : Location) → RunsFrom program s layout (storage_of scope x).start (storage_of scope x).rest first → location_of_name scope x subscripts ≡ Ok at
    → (n : ℕ) × (element_of (storage_of scope x) subscripts ≡ Ok n) × (1 ≤ n) × (n ≤ (storage_of scope x).rest) × (address program s layout at ≡ Some (first + (n - 1)))
element-address program s layout scope x subscripts first at runs h = by_element (element_of (storage_of scope x) subscripts) refl h where
  by_element : (r : Result ℕ Kind) → element_of (storage_of scope x) subscripts ≡ r → location_in (storage_of scope x) r ≡ Ok at
      → (n : ℕ) × (element_of (storage_of scope x) subscripts ≡ Ok n) × (1 ≤ n) × (n ≤ (storage_of scope x).rest) × (address program s layout at ≡ Some (first + (n - 1)))
  by_element (Err k) e h = err-ok k at h
  by_element (Ok n) e h =
      let counted = element-counted (storage_of scope x) subscripts n e in
      let same : further (storage_of scope x).start (n - 1) ≡ at = same-ok (further (storage_of scope x).start (n - 1)) at h in
      (n, e, counted.0, counted.1, ap (address program s layout) (sym same) ∙ runs (n - 1) (omega (arith, counted.0, counted.1)))

-- ---- actual arguments

-- a whole array begins with its first element
first-counted : (scope : Scope) (r : Reference) (n : ℕ) → first_element scope r ≡ Ok n → (1 ≤ n) × (n ≤ (storage_of scope r.0).rest + 1)
first-counted scope r n h = (grind (arith, element-counted (storage_of scope r.0) r.1 n), grind (arith, element-counted (storage_of scope r.0) r.1 n))

pub dummy-runs : (program : Units) (s : State) (layout : Layout) (scope : Scope) (a : ℕ) (x : Name) (r : Reference) (d : Dummy) (first : ℕ) → RunsFrom program s layout (storage_of scope r.0).start (storage_of scope r.0).rest first → dummy_for scope a x (referred r) ≡ Ok d
    → (n : ℕ) × (first_element scope r ≡ Ok n) × RunsFrom program s layout d.start d.rest (first + (n - 1))
dummy-runs program s layout scope a x r d first runs h = by_element (first_element scope r) refl h where
  by_element : (o : Result ℕ Kind) → first_element scope r ≡ o → from_element (storage_of scope r.0) o ≡ Ok d → (n : ℕ) × (first_element scope r ≡ Ok n) × RunsFrom program s layout d.start d.rest (first + (n - 1))
  by_element (Err k) e h = err-ok k d h
  by_element (Ok n) e h =
      let counted = first-counted scope r n e in
      let begun : Dummy = record { start = further (storage_of scope r.0).start (n - 1); rest = ((storage_of scope r.0).rest + 1) - n; shape = [] } in
      let same : begun ≡ d = same-ok begun d h in (
        n,
        e,
        subst (λ (z : Dummy). RunsFrom program s layout z.start z.rest (first + (n - 1))) same (
            runs-from program s layout (storage_of scope r.0).start (storage_of scope r.0).rest first (n - 1) (((storage_of scope r.0).rest + 1) - n) runs (omega (arith, counted.0, counted.1))),
      )
