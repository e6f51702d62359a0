-- Worked edits: what stays at both ends, lines that come, lines that go, and a text that hasn't changed.
use Rattle.std.specs.Prelude.{◌≡◌, ℕ, List, [], ◌∷◌, codes, refl}
use Rattle.std.specs.Fmt.{digits}
use Rattle.hep_page.specs.Edits.{edit_between, edit_text, lines_in}

-- from one text to another one, of the part A
abbrev text_of : List ℕ → List ℕ → List ℕ
text_of old new = edit_text (codes "A") (edit_between old new)

three_lines : lines_in (codes "X = 1\n\nY") ≡ codes "X = 1\n" ∷ codes "\n" ∷ codes "Y" ∷ []
three_lines = refl

one_differs : text_of (codes "X = 1\nY = 2\nZ = 3\n") (codes "X = 1\nY = 4\nZ = 3\n") ≡ codes "A 1 1\n+Y = 4\n"
unfolding digits
one_differs = refl

two_come : text_of (codes "X = 1\n") (codes "X = 1\nY = 2\nZ = 3\n") ≡ codes "A 1 0\n+Y = 2\n+Z = 3\n"
unfolding digits
two_come = refl

all_go : text_of (codes "X = 1\nY = 2\n") [] ≡ codes "A 0 2\n"
unfolding digits
all_go = refl

-- the first one of two equal lines stays, and the second one goes
equal_lines : text_of (codes "X\nX\nY\n") (codes "X\nY\n") ≡ codes "A 1 1\n"
unfolding digits
equal_lines = refl

nothing_differs : text_of (codes "X = 1\n") (codes "X = 1\n") ≡ []
nothing_differs = refl
