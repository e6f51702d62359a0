-- 309 by lines, as passes over uses find it: X3.9-1978, 8.5, 18.1 and 18.2.
use Rattle.std.specs.Prelude.{ℕ, ◌+◌, max, Bool, false, ◌||◌, nat_le, List, [], ◌∷◌, map, take, Option, Some, None}
use Rattle.std.specs.List.{list_any}
use Rattle.hep_machine.specs.Words.{LetterRange, Name, same_name}
use Rattle.hep_conditions.specs.Words.{Use, least_line_where}
use Rattle.hep_types.specs.declared.uses.UseKind.{UseKind}
use Rattle.hep_types.specs.declared.uses.UseKind.TheVariants.{Dummy, Typed, Bounded, Common, Constant, Data, Assigned, Called}

-- ---- names and letters that are used twice

-- the items seen so far, with one more
abbrev pub with_seen : {A : Type 0} → (A → A → Bool) → (A → Bool) → A → A → Bool
with_seen agrees seen y x = agrees x y || seen x

abbrev pub none_seen : {A : Type 0} → A → Bool
none_seen x = false

-- ---- names that are used in two ways

abbrev pub line_of_use : Use → ℕ
line_of_use u = u.1

abbrev pub is_use_of : Name → Use → Bool
is_use_of x u = same_name u.0 x

-- the least line of a use of a name
abbrev pub least_named : List Use → Name → Option ℕ
least_named us x = least_line_where (is_use_of x) line_of_use us

-- ---- letters that IMPLICIT names twice

-- whether there is a last letter and it isn't before a letter
abbrev pub reaches : ℕ → Option ℕ → Bool
reaches c None = false
reaches c (Some last) = nat_le c last

-- whether a range overlaps this one: it begins at or before the last letter of this range and doesn't end before the first; the list has
-- the greatest last letter for each first letter
abbrev pub meets : List (Option ℕ) → LetterRange → Bool
meets lasts r = list_any (reaches r.first) (take (r.last + 1) lasts)

abbrev pub later_letter : Option ℕ → ℕ → Option ℕ
later_letter None last = Some last
later_letter (Some other) last = Some (max other last)

abbrev pub ranges_at : ℕ → List LetterRange → List (LetterRange × ℕ)
ranges_at line rs = map (λ (r : LetterRange). (r, line)) rs

-- ---- a unit, and a program

abbrev pub given_once : List UseKind
given_once = Dummy ∷ Typed ∷ Bounded ∷ Common ∷ Constant ∷ []

abbrev pub no_constants : List UseKind
no_constants = Dummy ∷ Bounded ∷ Common ∷ Data ∷ Assigned ∷ Called ∷ []

abbrev pub no_results : List UseKind
no_results = Dummy ∷ Bounded ∷ Common ∷ Constant ∷ []
