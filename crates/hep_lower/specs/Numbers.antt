-- The numbers of names.
use Rattle.std.specs.Prelude.{ℕ, ◌+◌, List, [], ◌∷◌, length}
use Rattle.hep_machine.specs.Words.{Units}
use Rattle.hep_image.specs.Names.{spellings_of}

-- for each unit the number of the first name of a variable, where that of the first unit has this one
abbrev pub numbers_from : ℕ → Units → List ℕ
numbers_from n [] = []
numbers_from n (unit ∷ units) = n ∷ numbers_from (n + length (spellings_of unit)) units
