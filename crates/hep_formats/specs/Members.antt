-- Members that objects of several kinds have.
use Rattle.std.specs.Prelude.{ℕ, List, ◌++◌, codes}
use Rattle.hep_formats.specs.Strings.{json_string}

-- the place of a step: its unit and its line
abbrev pub place_members : List ℕ → List ℕ → List ℕ
place_members unit line = codes ",\"unit\":" ++ json_string unit ++ (codes ",\"line\":" ++ line)

-- that a process waits, and what for
abbrev pub wanted_members : List ℕ → List ℕ
wanted_members wanted = codes ",\"state\":\"waiting\",\"for\":" ++ json_string wanted
