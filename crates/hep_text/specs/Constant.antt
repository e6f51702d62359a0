-- Which characters of a statement are part of its text: blanks, letter case and character constants.
use Rattle.std.specs.Prelude.{ℕ, ◌-◌, Bool, true, false, ◌&&◌, if◌then◌else◌, nat_eq, nat_le, List, [], ◌∷◌, Option, Some, None}
use Rattle.hep_text.specs.Characters.{blank, apostrophe, first_lower_case, last_lower_case, case_distance}
use Rattle.hep_text.specs.declared.statement.Span.{Span}
use Rattle.hep_text.specs.declared.constant.Scanner.{Scanner}
use Rattle.hep_text.specs.declared.constant.Scanner.TheVariants.{Outside, Opened, Filled, Closing, Empty, Faulty}

-- the apostrophe (X3.9-1978, 3.1.4)
abbrev pub is_apostrophe : ℕ → Bool
is_apostrophe c = nat_eq c apostrophe

-- the upper-case letter of a lower-case one, and any other character as it is
abbrev pub upper_case : ℕ → ℕ
upper_case c = if nat_le first_lower_case c && nat_le c last_lower_case then c - case_distance else c

-- The state of the scanner after a character. A constant is enclosed in apostrophes, and within it two adjacent apostrophes represent
-- one (X3.9-1978, 4.8.1). So an apostrophe in a constant ends it unless another one follows.
abbrev pub next : Scanner → ℕ → Scanner
next Outside c = if is_apostrophe c then Opened else Outside
next Opened c = if is_apostrophe c then Empty else Filled
next Filled c = if is_apostrophe c then Closing else Filled
next Closing c = if is_apostrophe c then Filled else Outside
next Empty c = if is_apostrophe c then Filled else Faulty
next Faulty c = Faulty

-- The character of the text that a character outside constants gives. A blank gives none (X3.9-1978, 3.1.6), and a lower-case letter
-- gives its upper-case letter.
abbrev pub kept_outside : ℕ → Option ℕ
kept_outside c = if nat_eq c blank then None else Some (upper_case c)

-- the character of the text that a character gives, by the state of the scanner before it
abbrev pub kept_character : Scanner → ℕ → Option ℕ
kept_character Outside c = kept_outside c
kept_character Opened c = Some c
kept_character Filled c = Some c
kept_character Closing c = kept_outside c
kept_character Empty c = Some c
kept_character Faulty c = Some c

-- Whether a statement may end here: each of its constants is closed and has at least one character.
abbrev pub is_over : Scanner → Bool
is_over Outside = true
is_over Opened = false
is_over Filled = false
is_over Closing = true
is_over Empty = false
is_over Faulty = false

-- a character of the source
pub record Character : Type 0 where
  pub byte : ℕ
  pub span : Span

-- a text with one more character before it, if there is one
abbrev pub with_kept : Option ℕ → Span → List Character → List Character
with_kept None span xs = xs
with_kept (Some c) span xs = record { byte = c; span = span } ∷ xs

-- the text that characters give, by the state of the scanner before them
abbrev pub text_from : Scanner → List Character → List Character
text_from p [] = []
text_from p (x ∷ xs) = with_kept (kept_character p x.byte) x.span (text_from (next p x.byte) xs)

-- the state of the scanner after these characters
abbrev pub scanner_after : Scanner → List Character → Scanner
scanner_after p [] = p
scanner_after p (x ∷ xs) = scanner_after (next p x.byte) xs
