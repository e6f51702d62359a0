-- Text in HTML: docs/page/README.md.
use Rattle.std.specs.Prelude.{ℕ, nat_eq, if◌then◌else◌, List, [], ◌∷◌, codes}
use Rattle.std.specs.List.{flat_map}
use Rattle.hep_text.specs.LineDisplay.{shown}

-- a character as HTML has it: a name stands for each of the three that it reads itself, and a question mark for a byte that can't be shown
abbrev pub html_character : ℕ → List ℕ
html_character c =
    if nat_eq c 38 then codes "&amp;"
    else (if nat_eq c 60 then codes "&lt;" else (if nat_eq c 62 then codes "&gt;" else (if nat_eq c 10 then c ∷ [] else shown c ∷ [])))

abbrev pub html : List ℕ → List ℕ
html text = flat_map html_character text
