-- Edits from the lines of a text to those of another one: docs/page/README.md.
use Rattle.std.specs.Prelude.{ℕ, suc, nat_eq, ◌++◌, codes, if◌then◌else◌, List, [], ◌∷◌, length, take, drop, reverse, Option, Some, None}
use Rattle.std.specs.Fmt.{decimal}
use Rattle.std.specs.List.{concat, flat_map, onto_first}
use Rattle.std.specs.Str.{bytes_eq}

-- the lines of a text, each with the line feed that ends it, which the last one may lack
abbrev pub lines_in : List ℕ → List (List ℕ)
lines_in [] = []
lines_in (c ∷ s) = if nat_eq c 10 then (c ∷ []) ∷ lines_in s else onto_first c (lines_in s)

-- this many lines stay at the front, this many after them go, and these lines come in their place
pub record Edit : Type 0 where
  pub stay : ℕ
  pub go : ℕ
  pub come : List (List ℕ)

-- the lines after an edit
abbrev pub edited : Edit → List (List ℕ) → List (List ℕ)
edited e lines = take e.stay lines ++ (e.come ++ drop e.go (drop e.stay lines))

-- how many lines at the front are the same
abbrev pub same_front : List (List ℕ) → List (List ℕ) → ℕ
same_front (x ∷ xs) (y ∷ ys) = if bytes_eq x y then suc (same_front xs ys) else 0
same_front _ _ = 0

-- how many at the end
abbrev pub same_end : List (List ℕ) → List (List ℕ) → ℕ
same_end xs ys = same_front (reverse xs) (reverse ys)

-- all lines but the last n
abbrev pub without_last : ℕ → List (List ℕ) → List (List ℕ)
without_last n xs = reverse (drop n (reverse xs))

-- the edit of lines that have n lines at their front, which stay, and then these
abbrev pub edit_after : ℕ → List (List ℕ) → List (List ℕ) → Edit
edit_after n xs ys = record { stay = n; go = length (without_last (same_end xs ys) xs); come = without_last (same_end xs ys) ys }

-- the edit from lines to others, in which all lines stay that are the same at the front, and then at the end
abbrev pub edit_of : List (List ℕ) → List (List ℕ) → Edit
edit_of old new = edit_after (same_front old new) (drop (same_front old new) old) (drop (same_front old new) new)

-- from one text to another one, where they differ
abbrev pub edit_between : List ℕ → List ℕ → Option Edit
edit_between old new = if bytes_eq old new then None else Some (edit_of (lines_in old) (lines_in new))

-- the text after it
abbrev pub text_after : Option Edit → List ℕ → List ℕ
text_after None text = text
text_after (Some e) text = concat (edited e (lines_in text))

-- ---- along states, each of which has a text

-- the edit from each state's text to the text of the next one
abbrev pub edits_along : {X : Type 0} → (X → List ℕ) → X → List X → List (Option Edit)
edits_along text x [] = []
edits_along text x (y ∷ ys) = edit_between (text x) (text y) ∷ edits_along text y ys

-- the text after edits
abbrev pub text_after_all : List (Option Edit) → List ℕ → List ℕ
text_after_all [] text = text
text_after_all (e ∷ es) text = text_after_all es (text_after e text)

-- the last of states, of which this one is the first
abbrev pub last_state : {X : Type 0} → X → List X → X
last_state x [] = x
last_state x (y ∷ ys) = last_state y ys

-- ---- as a text

-- lines that come
abbrev pub lines_text : List (List ℕ) → List ℕ
lines_text lines = flat_map (λ line. codes "+" ++ line) lines

-- the edit of a text that has this name; one that is the same has none
abbrev pub edit_text : List ℕ → Option Edit → List ℕ
edit_text name None = []
edit_text name (Some e) = name ++ codes " " ++ decimal e.stay ++ codes " " ++ decimal e.go ++ codes "\n" ++ lines_text e.come
