-- What stands first in the rest of a unit, and how many names occurrences have.
use Rattle.std.proofs.Common.{◌≡◌, ℕ, zero, suc, List, [], ◌∷◌, length, drop, refl, ap}
use Rattle.hep_source.specs.declared.name.Occurrence.{Occurrence}
use Rattle.hep_source.specs.declared.statement.Statement.{Statement}
use Rattle.hep_source.specs.Units.{names_of_occurrences, statement_at}

pub first_of_rest : (unit : List Statement) (j : ℕ) (s : Statement) (ss : List Statement) → drop j unit ≡ s ∷ ss → statement_at unit j ≡ s
first_of_rest [] zero s ss e = absurd cc
first_of_rest [] (suc j) s ss e = absurd cc
first_of_rest (x ∷ xs) zero s ss e = cc
first_of_rest (x ∷ xs) (suc j) s ss e = first_of_rest xs j s ss e

pub rest_of_rest : (unit : List Statement) (j : ℕ) (s : Statement) (ss : List Statement) → drop j unit ≡ s ∷ ss → drop (suc j) unit ≡ ss
rest_of_rest [] zero s ss e = absurd cc
rest_of_rest [] (suc j) s ss e = absurd cc
rest_of_rest (x ∷ xs) zero s ss e = cc
rest_of_rest (x ∷ xs) (suc j) s ss e = rest_of_rest xs j s ss e

pub names-length : (ps : List Occurrence) → length (names_of_occurrences ps) ≡ length ps
names-length [] = refl
names-length (p ∷ ps) = ap suc (names-length ps)
