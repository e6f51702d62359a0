-- The merge of two lists of warnings by their lines.
use Rattle.std.specs.Prelude.{ℕ, Bool, nat_le, [], ◌∷◌, ◌++◌, drop, length, take, unwrap_or}
use Rattle.std.specs.List.{position}
use Rattle.hep_warnings.specs.declared.warning.Warning.{Warning}
use Rattle.hep_warnings.specs.Lines.{Warnings}

-- whether a warning is at this line or a later one
abbrev pub is_from : ℕ → Warning → Bool
is_from line w = nat_le line w.line

-- the number of warnings before the first one at this line or a later one
abbrev pub count_before : ℕ → Warnings → ℕ
count_before line ws = unwrap_or (position (is_from line) ws) (length ws)

-- the warnings of both lists: before each warning of the first list come those of the second list at earlier lines
abbrev pub merged : Warnings → Warnings → Warnings
merged [] ws = ws
merged (v ∷ vs) ws = take (count_before v.line ws) ws ++ (v ∷ merged vs (drop (count_before v.line ws) ws))
