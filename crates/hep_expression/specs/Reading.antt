-- The readers of names, constants and words, as functions on lists (docs/ARCHITECTURE.md, "Forms").
use Rattle.std.specs.Prelude.{◌≡◌, ℕ, ◌-◌, ◌&&◌, nat_eq, nat_le, min, Bool, true, false, if◌then◌else◌, List, [], ◌∷◌, length, ℤ, pos, Option, Some, None, Result, Ok, Err}
use Rattle.hep_source.specs.declared.name.Name.{Name}
use Rattle.hep_source.specs.declared.name.Occurrence.{Occurrence}
use Rattle.hep_expression.specs.declared.characters.Class.{Class}
use Rattle.hep_expression.specs.declared.characters.Class.TheVariants.{Digits, LettersAndDigits}
use Rattle.hep_expression.specs.declared.characters.Sizes.{Sizes}
use Rattle.hep_expression.specs.declared.characters.Sizes.TheVariants.{Fitting, Any}
use Rattle.hep_expression.specs.declared.characters.Context.{Context}
use Rattle.hep_expression.specs.declared.read_failure.ReadFailure.{ReadFailure}
use Rattle.hep_expression.specs.declared.read_failure.ReadFailure.TheVariants as unread
use Rattle.hep_expression.specs.Characters.{is_digit, is_letter, is_letter_or_digit, currency_symbol, named, number_of_digits, greatest, logical_spelling}

infixl 10 ◌>>=◌
abbrev pub ◌>>=◌ : {A B : Type 0} → Option A → (A → Option B) → Option B
None >>= f = None
(Some x) >>= f = f x

abbrev pub if_some : {A B : Type 0} → Option A → (A → Option B) → Option B → Option B
if_some None f other = other
if_some (Some x) f other = f x

-- a reader: it gives what is read at the front of a text, and what follows that; none where nothing is read
abbrev pub Reader : Type 0 → Type 0
Reader A = List ℕ → Option (A × List ℕ)

-- The function failed because memory was refused, or because nothing is read.
abbrev pub Fails : {Y : Type 0} → ReadFailure → Option Y → Type 0
Fails unread.NoMemory read = Unit {0}
Fails unread.NoReading read = read ≡ None

abbrev pub Gives : {X Y : Type 0} → (X → Y) → Result X ReadFailure → Option Y → Type 0
Gives view (Ok x) read = read ≡ Some (view x)
Gives view (Err e) read = Fails e read

-- what was read, where nothing follows it
abbrev pub all_read : {A : Type 0} → A → List ℕ → Option A
all_read x [] = Some x
all_read x (c ∷ s) = None

-- ---- runs of characters

abbrev pub has : Class → ℕ → Bool
has Digits = is_digit
has LettersAndDigits = is_letter_or_digit

abbrev pub begins : (ℕ → Bool) → List ℕ → Bool
begins p [] = false
begins p (c ∷ s) = p c

-- the longest run at the front of characters that pass a test
abbrev pub front : (ℕ → Bool) → List ℕ → List ℕ
front p [] = []
front p (c ∷ s) = if p c then c ∷ front p s else []

abbrev pub rest_after : (ℕ → Bool) → List ℕ → List ℕ
rest_after p [] = []
rest_after p (c ∷ s) = if p c then rest_after p s else c ∷ s

-- ---- words

abbrev pub after : ℕ → List ℕ → Option (List ℕ)
after c [] = None
after c (d ∷ s) = if nat_eq d c then Some s else None

abbrev pub after_text : List ℕ → List ℕ → Option (List ℕ)
after_text [] s = Some s
after_text (c ∷ w) s = after c s >>= after_text w

-- the first of these with whose spelling the text begins, and what follows it
abbrev pub one_of : {A : Type 0} → (A → List ℕ) → List A → Reader A
one_of spelling [] s = None
one_of spelling (a ∷ more) s = if_some (after_text (spelling a) s) (λ r. Some (a, r)) (one_of spelling more s)

-- ---- names and constants

-- a name after its sign `$`, if it has one
abbrev pub letters_at : Bool → Reader Name
letters_at a s =
    if begins is_letter s && nat_le (length (front is_letter_or_digit s)) 6
    then Some (named a (front is_letter_or_digit s), rest_after is_letter_or_digit s)
    else None

abbrev pub name_at : Reader Name
name_at s = if_some (after currency_symbol s) (letters_at true) (letters_at false s)

abbrev pub with_position : Context → List ℕ → Option (Name × List ℕ) → Option (Occurrence × List ℕ)
with_position k s read = read >>= λ x. Some (record { name = x.0; position = k.length - length s }, x.1)

abbrev pub occurrence_at : Context → Reader Occurrence
occurrence_at k s = with_position k s (name_at s)

-- a name without `$`
abbrev pub plain_occurrence_at : Context → Reader Occurrence
plain_occurrence_at k s = with_position k s (letters_at false s)

abbrev pub integer : Sizes → ℕ → Option ℤ
integer Fitting n = if nat_le n greatest then Some (pos n) else None
integer Any n = Some (pos (min n greatest))

abbrev pub integer_at : Context → Reader ℤ
integer_at k s =
    if begins is_digit s
    then (integer k.sizes (number_of_digits (front is_digit s)) >>= λ v. Some (v, rest_after is_digit s))
    else None

abbrev pub logical_at : Reader Bool
logical_at s = one_of logical_spelling (true ∷ false ∷ []) s
