-- What the laws of accepted programs say of the arrays of a unit.
use Rattle.std.proofs.Common.{◌≡◌, ◌<◌, Bool, true, false, List, None, refl, sym, ◌∙◌}
use Rattle.std.proofs.lemmas.Option.{none-some}
use Rattle.hep_machine.specs.Words.{Name, Statement, index_among, is_among, dummies_of, cells_of, is_dummy}
use Rattle.hep_accepted_laws.specs.PartlyEvaluated.{HasShape}
use Rattle.hep_places.proofs.FewCells.{some-cells}
use Rattle.hep_places.proofs.RightPlaces.{index-there}

pub no-dummy : (unit : List Statement) (x : Name) → index_among x (dummies_of unit) ≡ None → is_dummy unit x ≡ false
no-dummy unit x i = by (is_among x (dummies_of unit)) refl where
  by : (t : Bool) → is_among x (dummies_of unit) ≡ t → t ≡ false
  by true e = let found = index-there x (dummies_of unit) e in absurd (none-some found.0 (sym i ∙ found.1))
  by false e = refl

pub sized-by : (unit : List Statement) (x : Name) → index_among x (dummies_of unit) ≡ None → (is_dummy unit x ≡ false → HasShape unit x) → 0 < cells_of unit x
sized-by unit x i shape = let s = shape (no-dummy unit x i) in some-cells unit x s.0 s.3 s.1 s.2 s.4
