-- What leaves a function by a `?`, of an item of a list, and of a unit.
use Rattle.std.proofs.Common.{◌≡◌, ℕ, ◌<◌, List, length, get_or, sym, ap, ◌∙◌, arith, Result, Ok, Err, IfErr}
use Rattle.std.proofs.lemmas.List.Folds.{length-flat_map-take}
use Rattle.std.specs.List.{flat_map}
use Rattle.std.specs.Result.{IsErr, IsErrAnd}
use Rattle.hep_code.specs.declared.instruction.Instruction.{Instruction}
use Rattle.hep_lower.specs.declared.fault.EmitFault.{EmitFault}
use Rattle.hep_lower.specs.ArgumentLimits.{IsTooLong}
use Rattle.hep_lower.specs.UnitLimits.{IsOverLimit}
use Rattle.hep_lower.proofs.ExpressionRefusals.{longer}

-- that of an item of a list
pub of_item : {A B : Type 0} (r : Result A EmitFault) (fault : EmitFault) (f : B → List Instruction) (xs : List B) (i : ℕ) (x : B) → i < length xs → x ≡ get_or xs i x
    → IsErr r × IsErrAnd r (λ e. e ≡ fault) → IsTooLong (length (f x)) fault → IfErr r (IsTooLong (length (flat_map f xs)))
of_item r fault f xs i x h e part long =
    longer r fault (length (f x)) (length (flat_map f xs)) part long (omega (arith, length-flat_map-take f xs i x h, ap (λ y. length (f y)) e))

-- the same number said otherwise
pub over_same : {A : Type 0} (r : Result A EmitFault) (fault : EmitFault) (n m : ℕ) → IsErr r × IsErrAnd r (λ e. e ≡ fault) → IsOverLimit n fault → n ≡ m → IfErr r (IsOverLimit m)
over_same (Ok x) fault n m h part e = tt
over_same (Err f) fault n m h part e = λ is. let p = part (sym h.1 ∙ is) in omega (arith, p, e)
