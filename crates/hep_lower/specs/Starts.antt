-- The first index of the code of each statement, in the order of the text.
use Rattle.std.specs.Prelude.{ℕ, suc, ◌+◌, List, [], ◌∷◌, length}
use Rattle.hep_machine.specs.Words.{Statement}
use Rattle.hep_code.specs.Words.{statement_code, Table}

-- those of statements from index k on, before which there are n instructions
abbrev pub starts_from : Table → ℕ → ℕ → List Statement → List ℕ
starts_from table n k [] = []
starts_from table n k (s ∷ ss) = n ∷ starts_from table (n + length (statement_code table k s)) (suc k) ss

-- that of the END after them
abbrev pub end_from : Table → ℕ → ℕ → List Statement → ℕ
end_from table n k [] = n
end_from table n k (s ∷ ss) = end_from table (n + length (statement_code table k s)) (suc k) ss
