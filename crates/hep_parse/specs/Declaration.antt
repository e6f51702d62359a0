-- The grammar of headers, specification statements and DATA: which texts read as which forms (X3.9-1978, sections 8, 9, 14 and 15,
-- and docs/LANGUAGE.md, 5). Then their readers as functions on lists, which agree with the grammar: each takes the text after the word
-- with which the statement begins.
use Rattle.std.specs.Prelude.{◌≡◌, ◌≢◌, ◌⊎◌, ℕ, ◌≤◌, Bool, true, false, IsTrue, codes, List, [], ◌∷◌, ◌++◌, length, ℤ, pos, neg_ℤ, Option, Some, None, zero, suc, nat_le, ◌&&◌, not, if◌then◌else◌, negsuc}
use Rattle.hep_source.specs.Tree.{Tree}
use Rattle.hep_source.specs.declared.name.Occurrence.{Occurrence}
use Rattle.hep_source.specs.declared.operator.Sign.{Sign}
use Rattle.hep_source.specs.declared.operator.Sign.TheVariants.{Plus, Minus}
use Rattle.hep_source.specs.declared.value.Value.TheVariants.{Int, Truth}
use Rattle.hep_source.specs.declared.declaration.ValueType.{ValueType}
use Rattle.hep_source.specs.declared.declaration.ValueType.TheVariants.{Integer, Logical}
use Rattle.hep_source.specs.declared.declaration.LetterRange.{LetterRange}
use Rattle.hep_source.specs.declared.declaration.ImplicitGroup.{ImplicitGroup}
use Rattle.hep_source.specs.declared.declaration.UpperBound.{UpperBound}
use Rattle.hep_source.specs.declared.declaration.UpperBound.TheVariants.{Expression, Open}
use Rattle.hep_source.specs.declared.declaration.Dimension.{Dimension}
use Rattle.hep_source.specs.declared.declaration.Declarator.{Declarator}
use Rattle.hep_source.specs.declared.declaration.CommonBlock.{CommonBlock}
use Rattle.hep_source.specs.declared.declaration.NamedConstant.{NamedConstant}
use Rattle.hep_source.specs.declared.declaration.Repeat.{Repeat}
use Rattle.hep_source.specs.declared.declaration.Repeat.TheVariants.{Count, Named as RepeatName}
use Rattle.hep_source.specs.declared.declaration.DataConstant.{DataConstant}
use Rattle.hep_source.specs.declared.declaration.DataConstant.TheVariants.{Value as ConstantValue, Named as ConstantName}
use Rattle.hep_source.specs.declared.declaration.DataValue.{DataValue}
use Rattle.hep_source.specs.declared.declaration.DataGroup.{DataGroup}
use Rattle.hep_expression.specs.declared.characters.Context.{Context}
use Rattle.hep_expression.specs.Characters.{minus, is_letter, ReadsOccurrence, ReadsPlainOccurrence, IsDigits, IsInteger, logical_spelling, asterisk, plus, slash, colon, equals}
use Rattle.hep_expression.specs.Expression.{ReadsExpression, sign_spelling}
use Rattle.hep_parse.specs.Target.{ReadsTarget}
use Rattle.hep_parse.specs.Lists.{AreListed, AreEnclosed, AreOptional, IsOptionalComma}
use Rattle.std.specs.List.{list_all}
use Rattle.hep_source.specs.declared.statement.Form.{Form}
use Rattle.hep_source.specs.declared.statement.Form.TheVariants as form
use Rattle.hep_expression.specs.Reading.{Reader, ◌>>=◌, if_some, all_read, after, one_of, occurrence_at, plain_occurrence_at, integer_at, logical_at}
use Rattle.hep_expression.specs.ReadingExpression.{expression_at}
use Rattle.hep_parse.specs.ReadingLists.{listed, enclosed, optional, name_and_arguments, parenthesized, whole, after_optional_comma}
use Rattle.hep_parse.specs.ReadingTarget.{target_at}

-- ---- types and letters

-- X3.9-1978, 8.4
abbrev pub type_spelling : ValueType → List ℕ
type_spelling Integer = codes "INTEGER"
type_spelling Logical = codes "LOGICAL"

-- the words with which the header of a function begins, with a type or without (15.5.1)
abbrev pub function_spelling : Option ValueType → List ℕ
function_spelling None = codes "FUNCTION"
function_spelling (Some t) = type_spelling t ++ codes "FUNCTION"

-- a letter, or two letters in alphabetical order with `-` between them (8.5)
abbrev pub ReadsLetters : LetterRange → List ℕ → List ℕ → Type 0
ReadsLetters x s r =
    IsTrue (is_letter x.first) × IsTrue (is_letter x.last) × (x.first ≤ x.last)
    × (((x.first ≡ x.last) × (s ≡ x.first ∷ r)) ⊎ (s ≡ x.first ∷ minus ∷ x.last ∷ r))

-- a type and its letters in parentheses (8.5)
abbrev pub ReadsImplicit : ImplicitGroup → List ℕ → List ℕ → Type 0
ReadsImplicit x s r = (m : List ℕ) × (s ≡ type_spelling x.value_type ++ m) × AreEnclosed ReadsLetters x.letters m r

-- ---- the dimensions of an array (X3.9-1978, 5.1.1 and 5.1.2)

-- the greatest number of dimensions of an array
abbrev pub most_dimensions : ℕ
most_dimensions = 7

-- whether the bound is `*`
abbrev pub is_open : UpperBound → Bool
is_open (Expression t) = false
is_open Open = true

-- no dimension but the last is `*`
abbrev pub OnlyLastOpen : List Dimension → Type 0
OnlyLastOpen [] = Unit {0}
OnlyLastOpen (x ∷ []) = Unit {0}
OnlyLastOpen (x ∷ y ∷ more) = (is_open x.upper ≡ false) × OnlyLastOpen (y ∷ more)

-- ---- signs of constants (4.3.1)

-- the characters of the sign of an integer constant, if it has one
abbrev pub optional_sign : Option Sign → List ℕ
optional_sign None = []
optional_sign (Some g) = sign_spelling g

-- the value of a constant with a sign
abbrev pub signed_value : Option Sign → ℤ → ℤ
signed_value None v = v
signed_value (Some Plus) v = v
signed_value (Some Minus) v = neg_ℤ v

module _ (k : Context) where
  -- ---- array declarators (5.1)

  -- an upper bound: an expression, or `*`
  abbrev pub ReadsUpper : UpperBound → List ℕ → List ℕ → Type 0
  ReadsUpper (Expression t) s r = ReadsExpression k t s r
  ReadsUpper Open s r = s ≡ codes "*" ++ r

  -- a lower bound with its `:`, or nothing
  abbrev pub ReadsLower : Option Tree → List ℕ → List ℕ → Type 0
  ReadsLower None s r = s ≡ r
  ReadsLower (Some t) s r = ReadsExpression k t s (codes ":" ++ r)

  abbrev pub ReadsDimension : Dimension → List ℕ → List ℕ → Type 0
  ReadsDimension x s r = (m : List ℕ) × ReadsLower x.lower s m × ReadsUpper x.upper m r

  -- a name alone, or with its dimensions
  abbrev pub ReadsDeclarator : Declarator → List ℕ → List ℕ → Type 0
  ReadsDeclarator x s r =
      (m : List ℕ) × ReadsOccurrence k x.occurrence s m × AreOptional ReadsDimension x.dimensions m r
      × (length x.dimensions ≤ most_dimensions) × OnlyLastOpen x.dimensions

  abbrev pub ReadsArrayDeclarator : Declarator → List ℕ → List ℕ → Type 0
  ReadsArrayDeclarator x s r = (x.dimensions ≢ []) × ReadsDeclarator x s r

  -- ---- COMMON (8.3)

  -- the name of a block between two `/`; blank COMMON has no name
  abbrev pub ReadsBlockName : Option Occurrence → List ℕ → List ℕ → Type 0
  ReadsBlockName None s r = s ≡ codes "//" ++ r
  ReadsBlockName (Some p) s r = (m : List ℕ) × (s ≡ codes "/" ++ m) × ReadsPlainOccurrence k p m (codes "/" ++ r)

  -- The whole text is these blocks, which follow another block.
  abbrev pub AreMoreBlocks : List CommonBlock → List ℕ → Type 0
  AreMoreBlocks [] s = s ≡ []
  AreMoreBlocks (x ∷ more) s =
      (m : List ℕ) × (n : List ℕ) × (r : List ℕ) × IsOptionalComma s m × ReadsBlockName x.block m n
      × AreListed ReadsDeclarator x.entries n r × AreMoreBlocks more r

  -- the name of the first block, which is blank COMMON where no `/` is before its list
  abbrev pub ReadsFirstName : Option Occurrence → List ℕ → List ℕ → Type 0
  ReadsFirstName None s r = (s ≡ r) ⊎ (s ≡ codes "//" ++ r)
  ReadsFirstName (Some p) s r = ReadsBlockName (Some p) s r

  abbrev pub AreBlocks : List CommonBlock → List ℕ → Type 0
  AreBlocks [] s = ⊥
  AreBlocks (x ∷ more) s =
      (n : List ℕ) × (r : List ℕ) × ReadsFirstName x.block s n × AreListed ReadsDeclarator x.entries n r
      × AreMoreBlocks more r

  -- ---- PARAMETER (8.6)

  abbrev pub ReadsNamedConstant : NamedConstant → List ℕ → List ℕ → Type 0
  ReadsNamedConstant x s r = (m : List ℕ) × ReadsPlainOccurrence k x.occurrence s (codes "=" ++ m) × ReadsExpression k x.value m r

  -- ---- DATA (section 9)

  abbrev pub ReadsDataConstant : DataConstant → List ℕ → List ℕ → Type 0
  ReadsDataConstant (ConstantValue (Int v)) s r =
      (g : Option Sign) × (d : List ℕ) × (u : ℤ) × IsDigits d × (s ≡ optional_sign g ++ (d ++ r)) × IsInteger k.sizes d u × (v ≡ signed_value g u)
  ReadsDataConstant (ConstantValue (Truth b)) s r = s ≡ logical_spelling b ++ r
  ReadsDataConstant (ConstantName p) s r = ReadsPlainOccurrence k p s r

  -- a repeat count with its `*`, or nothing; a count is 1 or more
  abbrev pub ReadsRepeat : Option Repeat → List ℕ → List ℕ → Type 0
  ReadsRepeat None s r = s ≡ r
  ReadsRepeat (Some (Count n)) s r = (d : List ℕ) × IsDigits d × (s ≡ d ++ codes "*" ++ r) × IsInteger k.sizes d n × (n ≢ pos 0)
  ReadsRepeat (Some (RepeatName p)) s r = ReadsPlainOccurrence k p s (codes "*" ++ r)

  abbrev pub ReadsDataValue : DataValue → List ℕ → List ℕ → Type 0
  ReadsDataValue x s r = (m : List ℕ) × ReadsRepeat x.repeat s m × ReadsDataConstant x.constant m r

  abbrev pub ReadsGroup : DataGroup → List ℕ → List ℕ → Type 0
  ReadsGroup x s r = (m : List ℕ) × AreListed (ReadsTarget k) x.targets s (codes "/" ++ m) × AreListed ReadsDataValue x.values m (codes "/" ++ r)

  abbrev pub AreMoreGroups : List DataGroup → List ℕ → Type 0
  AreMoreGroups [] s = s ≡ []
  AreMoreGroups (x ∷ more) s = (m : List ℕ) × (r : List ℕ) × IsOptionalComma s m × ReadsGroup x m r × AreMoreGroups more r

  abbrev pub AreGroups : List DataGroup → List ℕ → Type 0
  AreGroups [] s = ⊥
  AreGroups (x ∷ more) s = (r : List ℕ) × ReadsGroup x s r × AreMoreGroups more r

-- ---- headers

abbrev pub program_header : Context → List ℕ → Option Form
program_header k s = whole form.Program (plain_occurrence_at k s)

abbrev pub dummy_at : Context → Reader Occurrence
dummy_at k s = occurrence_at k s

unfoldable pub subroutine_header : Context → List ℕ → Option Form
subroutine_header k s = name_and_arguments k (dummy_at k) s >>= λ x. Some (form.Subroutine x.0 x.1)

unfoldable pub function_header : Context → Option ValueType → List ℕ → Option Form
function_header k t s = plain_occurrence_at k s >>= λ x. parenthesized (dummy_at k) x.1 >>= λ ds. Some (form.Function t x.0 ds)

-- ---- IMPLICIT

abbrev pub letter_at : Reader ℕ
letter_at [] = None
letter_at (c ∷ s) = if is_letter c then Some (c, s) else None

-- a letter, or two letters in alphabetical order with `-` between them
abbrev pub letter_range_at : Reader LetterRange
letter_range_at s =
    letter_at s >>= λ x. if_some (after minus x.1)
    (λ m. letter_at m >>= λ y. if nat_le x.0 y.0 then Some (record { first = x.0; last = y.0 }, y.1) else None)
    (Some (record { first = x.0; last = x.0 }, x.1))

abbrev pub letter_range_part : Context → Reader LetterRange
letter_range_part k s = letter_range_at s

abbrev pub value_type_at : Reader ValueType
value_type_at s = one_of type_spelling (Integer ∷ Logical ∷ []) s

unfoldable pub implicit_group_at : Context → Reader ImplicitGroup
implicit_group_at k s = value_type_at s >>= λ t. enclosed (letter_range_part k) t.1 >>= λ y. Some (record { value_type = t.0; letters = y.0 }, y.1)

unfoldable pub implicit : Context → List ℕ → Option Form
implicit k s = whole form.Implicit (listed (implicit_group_at k) s)

-- ---- array declarators

abbrev pub upper_bound_at : Context → Reader UpperBound
upper_bound_at k s = if_some (after asterisk s) (λ r. Some (Open, r)) (expression_at k s >>= λ x. Some (Expression x.0, x.1))

-- a dimension whose first expression was read
abbrev pub dimension_after : Context → Tree → Reader Dimension
dimension_after k t s =
    if_some (after colon s) (λ m. upper_bound_at k m >>= λ y. Some (record { lower = Some t; upper = y.0 }, y.1))
    (Some (record { lower = None; upper = Expression t }, s))

unfoldable pub dimension_at : Context → Reader Dimension
dimension_at k s =
    if_some (after asterisk s) (λ r. Some (record { lower = None; upper = Open }, r))
    (expression_at k s >>= λ x. dimension_after k x.0 x.1)

-- whether no dimension but the last is `*`
abbrev pub only_last_open : List Dimension → Bool
only_last_open [] = true
only_last_open (x ∷ []) = true
only_last_open (x ∷ y ∷ more) = not (is_open x.upper) && only_last_open (y ∷ more)

abbrev pub are_dimensions : List Dimension → Bool
are_dimensions xs = nat_le (length xs) most_dimensions && only_last_open xs

-- a name alone, or with its dimensions
unfoldable pub declarator_at : Context → Reader Declarator
declarator_at k s =
    occurrence_at k s >>= λ x. optional (dimension_at k) x.1 >>= λ y.
    if are_dimensions y.0 then Some (record { occurrence = x.0; dimensions = y.0 }, y.1) else None

unfoldable pub declare : Context → ValueType → List ℕ → Option Form
declare k t s = whole (form.Declare t) (listed (declarator_at k) s)

abbrev pub is_array : Declarator → Bool
is_array x = elim x.dimensions [ [] ↦ false | y ∷ more ↦ true ]

unfoldable pub dimension : Context → List ℕ → Option Form
dimension k s = listed (declarator_at k) s >>= λ x. if list_all is_array x.0 then all_read (form.Dimension x.0) x.1 else None

-- ---- parts up to the end of a text

-- parts up to the end of the text, each after an optional comma; the number bounds how many are read
unfoldable pub parts_to_end : {A : Type 0} → Reader A → ℕ → List ℕ → Option (List A)
parts_to_end next zero s = all_read [] s
parts_to_end next (suc n) s = if_some (next (after_optional_comma s)) (λ x. parts_to_end next n x.1 >>= λ more. Some (x.0 ∷ more)) (all_read [] s)

-- a first part and the parts after it up to the end of the text
abbrev pub up_to_end : {A : Type 0} → Reader A → A → List ℕ → Option (List A)
up_to_end next x s = parts_to_end next (length s) s >>= λ more. Some (x ∷ more)

-- ---- COMMON

-- the name of a block, read after its first `/`; blank COMMON has no name
abbrev pub block_name_at : Context → Reader (Option Occurrence)
block_name_at k s =
    if_some (after slash s) (λ r. Some (None, r))
    (plain_occurrence_at k s >>= λ x. after slash x.1 >>= λ r. Some (Some x.0, r))

abbrev pub entries_at : Context → Option Occurrence → Reader CommonBlock
entries_at k b s = listed (declarator_at k) s >>= λ y. Some (record { block = b; entries = y.0 }, y.1)

abbrev pub block_after : Context → Reader CommonBlock
block_after k s = block_name_at k s >>= λ x. entries_at k x.0 x.1

unfoldable pub block_at : Context → Reader CommonBlock
block_at k s = after slash s >>= block_after k

-- the first block, which is blank COMMON where no `/` is before its list
abbrev pub first_block_at : Context → Reader CommonBlock
first_block_at k s = if_some (after slash s) (block_after k) (entries_at k None s)

unfoldable pub common : Context → List ℕ → Option Form
common k s = first_block_at k s >>= λ x. up_to_end (block_at k) x.0 x.1 >>= λ xs. Some (form.Common xs)

-- ---- PARAMETER

unfoldable pub named_constant_at : Context → Reader NamedConstant
named_constant_at k s =
    plain_occurrence_at k s >>= λ x. after equals x.1 >>= λ m. expression_at k m >>= λ y. Some (record { occurrence = x.0; value = y.0 }, y.1)

unfoldable pub parameter : Context → List ℕ → Option Form
parameter k s = whole form.Parameter (enclosed (named_constant_at k) s)

-- ---- DATA

abbrev pub signed_integer_at : Context → Reader ℤ
signed_integer_at k s =
    if_some (after minus s) (λ m. integer_at k m >>= λ x. Some (neg_ℤ x.0, x.1))
    (if_some (after plus s) (integer_at k) (integer_at k s))

abbrev pub data_constant_at : Context → Reader DataConstant
data_constant_at k s =
    if_some (logical_at s) (λ x. Some (ConstantValue (Truth x.0), x.1))
    (if_some (plain_occurrence_at k s) (λ x. Some (ConstantName x.0, x.1))
    (signed_integer_at k s >>= λ x. Some (ConstantValue (Int x.0), x.1)))

abbrev pub is_zero : ℤ → Bool
is_zero (pos zero) = true
is_zero (pos (suc n)) = false
is_zero (negsuc n) = false

abbrev pub count_at : Context → Reader Repeat
count_at k s = integer_at k s >>= λ x. after asterisk x.1 >>= λ r. if is_zero x.0 then None else Some (Count x.0, r)

-- a repeat count with its `*`: a number other than 0, or a name
abbrev pub repeat_at : Context → Reader Repeat
repeat_at k s =
    if_some (count_at k s) (λ x. Some x)
    (plain_occurrence_at k s >>= λ x. after asterisk x.1 >>= λ r. Some (RepeatName x.0, r))

unfoldable pub data_value_at : Context → Reader DataValue
data_value_at k s =
    if_some (repeat_at k s) (λ x. data_constant_at k x.1 >>= λ y. Some (record { repeat = Some x.0; constant = y.0 }, y.1))
    (data_constant_at k s >>= λ y. Some (record { repeat = None; constant = y.0 }, y.1))

-- the names up to a `/`, and the values between it and the next `/`
unfoldable pub group_at : Context → Reader DataGroup
group_at k s =
    listed (target_at k) s >>= λ x. after slash x.1 >>= λ m. listed (data_value_at k) m >>= λ y. after slash y.1 >>= λ r.
    Some (record { targets = x.0; values = y.0 }, r)

unfoldable pub data_statement : Context → List ℕ → Option Form
data_statement k s = group_at k s >>= λ x. up_to_end (group_at k) x.0 x.1 >>= λ xs. Some (form.Data xs)
