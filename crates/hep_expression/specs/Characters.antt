-- The grammar of names and constants, in a text without blanks.
use Rattle.std.specs.Prelude.{codes, ◌≡◌, ℕ, ◌+◌, ◌-◌, ◌*◌, ◌≤◌, ◌&&◌, ◌||◌, nat_le, min, Bool, true, false, IsTrue, List, [], ◌∷◌, ◌++◌, length, drop, ℤ, pos}
use Rattle.std.specs.List.{list_all}
use Rattle.hep_source.specs.declared.name.Name.{Name}
use Rattle.hep_source.specs.declared.name.Occurrence.{Occurrence}
use Rattle.hep_expression.specs.declared.characters.Sizes.{Sizes}
use Rattle.hep_expression.specs.declared.characters.Sizes.TheVariants.{Fitting, Any}
use Rattle.hep_expression.specs.declared.characters.Context.{Context}

-- ---- special characters by their names (X3.9-1978, 3.1.4), as codes of ASCII

abbrev pub blank : ℕ
blank = 32

-- `$`
abbrev pub currency_symbol : ℕ
currency_symbol = 36

-- `'`
abbrev pub apostrophe : ℕ
apostrophe = 39

-- `(`
abbrev pub left_parenthesis : ℕ
left_parenthesis = 40

-- `)`
abbrev pub right_parenthesis : ℕ
right_parenthesis = 41

-- `*`
abbrev pub asterisk : ℕ
asterisk = 42

-- `+`
abbrev pub plus : ℕ
plus = 43

-- `,`
abbrev pub comma : ℕ
comma = 44

-- `-`
abbrev pub minus : ℕ
minus = 45

-- `/`
abbrev pub slash : ℕ
slash = 47

-- `:`
abbrev pub colon : ℕ
colon = 58

-- `=`
abbrev pub equals : ℕ
equals = 61

-- ---- digits and letters: the codes of the digits are consecutive in ASCII, and so are those of the letters

-- `0`
abbrev pub first_digit : ℕ
first_digit = 48

-- `9`
abbrev pub last_digit : ℕ
last_digit = 57

-- X3.9-1978, 3.1.2
abbrev pub is_digit : ℕ → Bool
is_digit c = nat_le first_digit c && nat_le c last_digit

-- `A`
abbrev pub first_letter : ℕ
first_letter = 65

-- `Z`
abbrev pub last_letter : ℕ
last_letter = 90

-- X3.9-1978, 3.1.1
abbrev pub is_letter : ℕ → Bool
is_letter c = nat_le first_letter c && nat_le c last_letter

-- X3.9-1978, 3.1.3
abbrev pub is_letter_or_digit : ℕ → Bool
is_letter_or_digit c = is_letter c || is_digit c

-- ---- names

-- a symbolic name: one to six letters or digits, the first a letter (X3.9-1978, 2.2)
abbrev pub IsName : List ℕ → Type 0
IsName [] = ⊥
IsName (c ∷ s) = IsTrue (is_letter c) × IsTrue (list_all is_letter_or_digit s) × (length s ≤ 5)

abbrev pub six_blanks : List ℕ
six_blanks = blank ∷ blank ∷ blank ∷ blank ∷ blank ∷ blank ∷ []

-- the sign `$` before a name makes it asynchronous (docs/LANGUAGE.md, 3)
abbrev pub name_sign : Bool → List ℕ
name_sign true = codes "$"
name_sign false = []

-- the name with these letters, padded with blanks to six, asynchronous or not
abbrev pub named : Bool → List ℕ → Name
named a w = record { asynchronous = a; letters = w ++ drop (length w) six_blanks }

-- The text s begins with this occurrence of a name, and r follows.
abbrev pub ReadsOccurrence : Context → Occurrence → List ℕ → List ℕ → Type 0
ReadsOccurrence k p s r = (w : List ℕ) × IsName w × (s ≡ name_sign p.name.asynchronous ++ (w ++ r)) × (p.name ≡ named p.name.asynchronous w) × (p.position + length s ≡ k.length)

-- The same for a name without `$`.
abbrev pub ReadsPlainOccurrence : Context → Occurrence → List ℕ → List ℕ → Type 0
ReadsPlainOccurrence k p s r = (p.name.asynchronous ≡ false) × ReadsOccurrence k p s r

-- ---- constants

-- the digits of an integer constant (X3.9-1978, 4.3.1)
abbrev pub IsDigits : List ℕ → Type 0
IsDigits [] = ⊥
IsDigits (c ∷ s) = IsTrue (is_digit c) × IsTrue (list_all is_digit s)

-- the number that digits form after digits that form n
abbrev pub number_after : ℕ → List ℕ → ℕ
number_after n [] = n
number_after n (c ∷ s) = number_after (n * 10 + (c - first_digit)) s

-- the number that digits form in base ten (X3.9-1978, 4.3.1)
abbrev pub number_of_digits : List ℕ → ℕ
number_of_digits d = number_after 0 d

-- the greatest integer of a run (docs/LANGUAGE.md, 3)
abbrev pub greatest : ℕ
greatest = 9223372036854775807

-- The digits are an integer constant of this value.
abbrev pub IsInteger : Sizes → List ℕ → ℤ → Type 0
IsInteger Fitting d v = (number_of_digits d ≤ greatest) × (v ≡ pos (number_of_digits d))
IsInteger Any d v = v ≡ pos (min (number_of_digits d) greatest)

-- the characters of a logical constant (X3.9-1978, 4.7.1)
abbrev pub logical_spelling : Bool → List ℕ
logical_spelling true = codes ".TRUE."
logical_spelling false = codes ".FALSE."
