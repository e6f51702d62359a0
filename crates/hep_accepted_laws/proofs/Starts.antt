-- Names that have storage units.
use Rattle.std.proofs.Common.{◌≡◌, ℕ, suc, Bool, true, false, List, [], ◌∷◌, Option, Some, None, refl, sym, ap, subst, if◌then◌else◌, is_some, not, ◌&&◌}
use Rattle.std.specs.Option.{option_map, unwrap_or}
use Rattle.std.proofs.lemmas.Option.{none-some}
use Rattle.hep_machine.specs.Words.{Name, Statement, index_among, is_among, same_name, Units, dummies_of, BlockName, common_block, is_array, is_common, is_constant_name, is_dummy, is_local, locals_of, names_of}
use Rattle.hep_code.specs.declared.variable.Variable.TheVariants as variables
use Rattle.hep_image.specs.declared.array.Start.{Start}
use Rattle.hep_image.specs.declared.array.Start.TheVariants.{Local, Common, Dummy}
use Rattle.hep_image.specs.Places.{arrays_of, scalar, start_by, start_of, variable_by, variable_of}
use Rattle.hep_accepted_laws.proofs.Members.{Has, has_filter, has_among}
use Rattle.hep_accepted_laws.specs.PlacedCode.{IsPlaced}

-- ---- names among others

pub index_some : (x : Name) (xs : List Name) → index_among x xs ≡ None → is_among x xs ≡ false
index_some x [] e = refl
index_some x (y ∷ ys) e = by_test (same_name x y) e (index_some x ys) where
  none_behind : (o : Option ℕ) → option_map suc o ≡ None → o ≡ None
  none_behind None f = refl
  none_behind (Some n) f = absurd (none-some (suc n) (sym f))

  by_test : (b : Bool) → (if b then Some 0 else option_map suc (index_among x ys)) ≡ None → (index_among x ys ≡ None → is_among x ys ≡ false) → (if b then true else is_among x ys) ≡ false
  by_test true f more = absurd (none-some 0 (sym f))
  by_test false f more = more (none_behind (index_among x ys) f)

-- ---- where variables begin

local_by : (d m c : Bool) → d ≡ false → m ≡ false → c ≡ false → (not d && (not m && not c)) ≡ true
local_by d m c e f g = (λ i. not (e i) && (not (f i) && not (g i)))

-- a name of a unit that is no constant has storage units
pub begins : (program : Units) (unit : List Statement) (x : Name) → Has (names_of unit) x → is_constant_name unit x ≡ false → (at : Start) × (start_of program unit x ≡ Some at)
unfolding start_of
begins program unit x h varies = by_index (index_among x (dummies_of unit)) refl where
  by_block : (b : Option BlockName) → common_block unit x ≡ b → is_dummy unit x ≡ false → (at : Start) × (start_by program unit x None b (is_among x (locals_of unit)) ≡ Some at)
  by_block (Some b) e d = (_, refl)
  by_block None e d =
      let local = local_by (is_dummy unit x) (is_common unit x) (is_constant_name unit x) d (ap is_some e) varies in
      let among = has_among (locals_of unit) x (has_filter (is_local unit) (names_of unit) x h local) in
      (_, ap (start_by program unit x None None) among)

  by_index : (o : Option ℕ) → index_among x (dummies_of unit) ≡ o → (at : Start) × (start_by program unit x o (common_block unit x) (is_among x (locals_of unit)) ≡ Some at)
  by_index (Some k) e = (_, refl)
  by_index None e = by_block (common_block unit x) refl (index_some x (dummies_of unit) e)

-- ---- variables

scalar_placed : (a : Bool) (at : Start) → IsPlaced (scalar a at)
scalar_placed a (Local c) e = cc
scalar_placed a (Common c) e = cc
scalar_placed a (Dummy c) e = cc

by_start : (unit : List Statement) (x : Name) (at : Start) → IsPlaced (variable_by unit x (Some at))
by_start unit x at = by_test (is_array unit x) where
  by_test : (b : Bool) → IsPlaced (if b then variables.Array x.asynchronous (unwrap_or (index_among x (arrays_of unit)) 0) else scalar x.asynchronous at)
  by_test true e = cc
  by_test false e = scalar_placed x.asynchronous at e

pub begun_placed : (program : Units) (unit : List Statement) (x : Name) (at : Start) → start_of program unit x ≡ Some at → IsPlaced (variable_of program unit x)
unfolding variable_of
begun_placed program unit x at e = subst (λ o. IsPlaced (variable_by unit x o)) (sym e) (by_start unit x at)

-- and only what begins somewhere does
begins_by : (unit : List Statement) (x : Name) (o : Option Start) → IsPlaced (variable_by unit x o) → (at : Start) × (o ≡ Some at)
begins_by unit x None h = absurd (h refl)
begins_by unit x (Some at) h = (at, refl)

pub placed_begins : (program : Units) (unit : List Statement) (x : Name) → IsPlaced (variable_of program unit x) → (at : Start) × (start_of program unit x ≡ Some at)
unfolding variable_of
placed_begins program unit x h = begins_by unit x (start_of program unit x) h
