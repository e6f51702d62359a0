-- The cells that a PURGE empties lie in the arena, and in no hole.
use Rattle.std.proofs.Common.{◌≡◌, ℕ, ◌+◌, ◌-◌, ◌≤◌, Bool, true, false, List, [], ◌∷◌, length, Option, Some, None, Result, Ok, Err, refl, subst, arith, if◌then◌else◌, nat_le, slice_get}
use Rattle.std.proofs.lemmas.Bool.Decides.{nat_tests}
use Rattle.hep_machine.specs.Words.{Value, integers_of, counted_element}
use Rattle.hep_machine.specs.declared.event.Kind.{Kind}
use Rattle.hep_machine.specs.declared.event.Kind.TheVariants as kind
use Rattle.hep_machine.specs.declared.slot.Slot.{Slot}
use Rattle.hep_arena.specs.Space.{Space}
use Rattle.hep_code.specs.declared.variable.Variable.{Variable}
use Rattle.hep_code.specs.declared.variable.Variable.TheVariants as variable
use Rattle.hep_code.specs.Words.{PassedArgument, by_value, by_reference}
use Rattle.hep_image.specs.declared.array.Array.{Array}
use Rattle.hep_image.specs.Addressing.{base_at, bounds_at, cells_in}
use Rattle.hep_step.specs.ArgumentPassing.{count_of, made_before, passed_at, passed_from_element, passed_of_array, passed_of_scalar}
use Rattle.hep_step.specs.ReadyToPass.{ArePassable, AreUnitsIn}
use Rattle.hep_step.specs.declared.frame.Frame.{Frame}
use Rattle.hep_step.specs.declared.closed_range.ClosedRange.{ClosedRange}
use Rattle.hep_step.specs.PurgedRanges.{is_whole, range_for, range_in, ranges_of}
use Rattle.hep_step.specs.PurgeReady.{AreOut, AreReached, AreUnitsOut, IsRangeReached}

-- ---- a scalar or an element begins storage units, of which there is one at least

abbrev IsSome : Result (ℕ × ℕ) Kind → Type 0
IsSome (Ok units) = 1 ≤ units.1
IsSome (Err k) = Unit {0}

scalar-some : (base : ℕ) (vs : List Value) → IsSome (passed_of_scalar base vs)
scalar-some base [] = omega arith
scalar-some base (v ∷ vs) = tt

element-some : (base count : ℕ) (o : Option ℕ) → IsSome (passed_from_element base count o)
element-some base count None = tt
element-some base count (Some n) = by_test (nat_le n count) refl where
  by_test : (b : Bool) → nat_le n count ≡ b → IsSome (if b then Ok (base + (n - 1), (count + 1) - n) else Err kind.Range)
  by_test true t = let within : n ≤ count = grind (arith, nat_tests) in omega (arith, within)
  by_test false t = tt

module _ (cells : ℕ → Slot) (first : ℕ) (arrays : List Array) where
  pub passed-some : (x : Variable) (vs : List Value) → is_whole x vs ≡ false → IsSome (passed_at cells first arrays x vs)
  passed-some (variable.Local asynchronous c) vs one = scalar-some _ vs
  passed-some (variable.Common asynchronous c) vs one = scalar-some _ vs
  passed-some (variable.Dummy asynchronous c) vs one = scalar-some _ vs
  passed-some (variable.Array asynchronous i) [] one = absurd cc
  passed-some (variable.Array asynchronous i) (v ∷ vs) one = by_array (slice_get arrays i) where
    by_array : (o : Option Array) → IsSome (passed_of_array cells first o (v ∷ vs))
    by_array None = tt
    by_array (Some a) = element-some (base_at cells first a.start) (count_of cells first a) (counted_element (bounds_at cells first a.extents) (integers_of (v ∷ vs)))
  passed-some variable.Absent vs one = tt

-- ---- ranges

module _ (space : Space) (arrays : List Array) (frame : Frame) where
  abbrev cells : ℕ → Slot
  cells = cells_in space.contents

  -- of one target
  abbrev IsOneReached : Result ClosedRange Kind → Type 0
  IsOneReached (Ok r) = IsRangeReached space r
  IsOneReached (Err k) = Unit {0}

  one-reached : (whole : Bool) (units : Result (ℕ × ℕ) Kind) → (whole ≡ false → IsSome units) → AreUnitsIn (length space.contents) units → AreUnitsOut space.holes units → IsOneReached (range_in whole units)
  one-reached whole (Err k) some inside out = tt
  one-reached true (Ok units) some inside out = record { inside = inside; out = out }
  one-reached false (Ok units) some inside out =
      let one = some refl in
      record { inside = omega (arith, inside, one); out = λ p from to. out p from (omega (arith, to, one)) }

  -- of all
  abbrev AreAllReached : Result (List ClosedRange) Kind → Type 0
  AreAllReached (Ok rs) = AreReached space rs
  AreAllReached (Err k) = Unit {0}

  before-reached : (r : Result ClosedRange Kind) (rs : Result (List ClosedRange) Kind) → IsOneReached r → AreAllReached rs → AreAllReached (made_before r rs)
  before-reached (Err k) rs h hs = tt
  before-reached (Ok r) (Err k) h hs = tt
  before-reached (Ok r) (Ok rs) h hs = (h, hs)

  all-reached : (ps : List PassedArgument) → ArePassable space arrays frame ps → AreOut space arrays frame ps → AreAllReached (ranges_of cells frame.first arrays ps)
  all-reached [] passable out = tt
  all-reached (by_value v ∷ ps) passable out =
      before-reached (range_for cells frame.first arrays (by_value v)) (ranges_of cells frame.first arrays ps) (record { inside = omega arith; out = λ p from to. absurd (omega (arith, to)) }) (all-reached ps passable out)
  all-reached (by_reference x vs ∷ ps) passable out =
      before-reached (range_for cells frame.first arrays (by_reference x vs)) (ranges_of cells frame.first arrays ps)
      (one-reached (is_whole x vs) (passed_at cells frame.first arrays x vs) (passed-some cells frame.first arrays x vs) passable.0.reached out.0)
      (all-reached ps passable.1 out.1)

  pub ranges_reached : (ps : List PassedArgument) (rs : List ClosedRange) → ArePassable space arrays frame ps → AreOut space arrays frame ps → ranges_of cells frame.first arrays ps ≡ Ok rs → AreReached space rs
  ranges_reached ps rs passable out found = subst AreAllReached found (all-reached ps passable out)
