-- The readers of lists of parts, as functions on lists (docs/ARCHITECTURE.md, "Forms").
use Rattle.std.specs.Prelude.{ℕ, zero, suc, List, [], ◌∷◌, length, Option, Some, None}
use Rattle.hep_source.specs.declared.name.Occurrence.{Occurrence}
use Rattle.hep_expression.specs.declared.characters.Context.{Context}
use Rattle.hep_expression.specs.Characters.{left_parenthesis, right_parenthesis, comma}
use Rattle.hep_expression.specs.Reading.{Reader, ◌>>=◌, if_some, all_read, after, plain_occurrence_at}

abbrev pub part_after_comma : {A : Type 0} → Reader A → Reader A
part_after_comma next s = after comma s >>= next

-- a part and the parts that are read after it
abbrev pub with_part : {A : Type 0} → A → Option (List A × List ℕ) → Option (List A × List ℕ)
with_part x read = read >>= λ y. Some (x ∷ y.0, y.1)

-- all parts that follow with a comma before each; the number bounds how many are read
unfoldable pub parts_after : {A : Type 0} → Reader A → ℕ → Reader (List A)
parts_after next zero s = Some ([], s)
parts_after next (suc n) s = if_some (part_after_comma next s) (λ x. with_part x.0 (parts_after next n x.1)) (Some ([], s))

-- one part or more, with commas between them
unfoldable pub listed : {A : Type 0} → Reader A → Reader (List A)
listed next s = next s >>= λ x. with_part x.0 (parts_after next (length s) x.1)

-- one part or more with commas between them and `)` after them, read after `(`
unfoldable pub closed : {A : Type 0} → Reader A → Reader (List A)
closed next s = listed next s >>= λ x. after right_parenthesis x.1 >>= λ r. Some (x.0, r)

unfoldable pub enclosed : {A : Type 0} → Reader A → Reader (List A)
enclosed next s = after left_parenthesis s >>= closed next

-- parts in parentheses; a text without `(` has none
unfoldable pub optional : {A : Type 0} → Reader A → Reader (List A)
optional next s = elim (after left_parenthesis s) [ None ↦ Some ([], s) | Some m ↦ closed next m ]

-- what was read, where nothing follows it
abbrev pub whole : {A B : Type 0} → (A → B) → Option (A × List ℕ) → Option B
whole f read = read >>= λ x. all_read (f x.0) x.1

unfoldable pub arguments_within : {A : Type 0} → Reader A → List ℕ → Option (List A)
arguments_within next s = if_some (after right_parenthesis s) (λ r. all_read [] r) (whole (λ xs. xs) (closed next s))

-- arguments in parentheses; without arguments the parentheses may be missing
unfoldable pub arguments : {A : Type 0} → Reader A → List ℕ → Option (List A)
arguments next s = elim (after left_parenthesis s) [ None ↦ all_read [] s | Some m ↦ arguments_within next m ]

-- arguments in parentheses; without arguments the parentheses must be there too
unfoldable pub parenthesized : {A : Type 0} → Reader A → List ℕ → Option (List A)
parenthesized next s = after left_parenthesis s >>= arguments_within next

-- a name without `$`, and the arguments after it
abbrev pub name_and_arguments : {A : Type 0} → Context → Reader A → List ℕ → Option (Occurrence × List A)
name_and_arguments k next s = plain_occurrence_at k s >>= λ x. arguments next x.1 >>= λ xs. Some (x.0, xs)

-- the text after its first comma, where it begins with one, and else the whole text
abbrev pub after_optional_comma : List ℕ → List ℕ
after_optional_comma s = elim (after comma s) [ None ↦ s | Some m ↦ m ]
