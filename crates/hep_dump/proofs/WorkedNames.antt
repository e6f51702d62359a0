-- Worked elements.
use Rattle.std.proofs.Common.{◌≡◌, ℤ, pos, negsuc, Some, [], ◌∷◌, refl, codes}
use Rattle.std.specs.Fmt.{digits}
use Rattle.hep_machine.specs.declared.shape.Bound.{Bound}
use Rattle.hep_dump.specs.Elements.{subscripts_text}

to : ℤ → ℤ → Bound
to l u = record { lower = l; upper = Some u }

-- an array (3), one (-1:2), and one (2,3), whose elements stand by columns
third : subscripts_text (to (pos 1) (pos 3) ∷ []) 2 ≡ codes "(3)"
unfolding digits to
third = refl

below_zero : subscripts_text (to (negsuc 0) (pos 2) ∷ []) 0 ≡ codes "(-1)"
unfolding digits to
below_zero = refl

second_column : subscripts_text (to (pos 1) (pos 2) ∷ to (pos 1) (pos 3) ∷ []) 3 ≡ codes "(2,2)"
unfolding digits to
second_column = refl

scalar : subscripts_text [] 0 ≡ []
scalar = refl
