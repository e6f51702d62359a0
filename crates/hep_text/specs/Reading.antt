-- The statements of a source text (X3.9-1978, 3.2 and 3.3).
use Rattle.std.specs.Prelude.{◌≡◌, ℕ, zero, suc, ◌+◌, Bool, ◌||◌, if◌then◌else◌, nat_lt, List, [], ◌∷◌, ◌++◌, map, length, get_or, drop, Option, Some, None, Result, Ok, Err}
use Rattle.hep_text.specs.declared.statement.Stmt.{Stmt}
use Rattle.hep_text.specs.declared.constant.Scanner.TheVariants.{Outside}
use Rattle.hep_base.specs.declared.refusal.Refusal.{Refusal as TextFault}
use Rattle.hep_base.specs.declared.refusal.Refusal.TheVariants as faults
use Rattle.hep_text.specs.Characters.{blank, first_text_column, text_columns}
use Rattle.hep_text.specs.Constant.{Character, is_over, text_from, scanner_after}
use Rattle.hep_text.specs.Line.{KindOfLine, comment, initial, continuation, refused, kind, lines}

-- the number of a refusal, and the line at fault (docs/LANGUAGE.md, 1 and 2)
pub record Refusal : Type 0 where
  pub number : ℕ
  pub line : ℕ

-- a refusal with a number, at a line
abbrev pub refusal : {A : Type 0} → ℕ → ℕ → Result A Refusal
refusal k n = Err (record { number = k; line = n })

-- continues with the result, unless it is a refusal
infixl 10 ◌>>=◌
abbrev pub ◌>>=◌ : {A B : Type 0} → Result A Refusal → (A → Result B Refusal) → Result B Refusal
(Ok x) >>= f = f x
(Err e) >>= f = Err e

-- a character of line n, in column k
abbrev pub character : ℕ → ℕ → ℕ → Character
character c n k = record { byte = c; span = record { line = n; column = k } }

-- The characters of m columns of line n, from column k on (X3.9-1978, 3.2). A shorter line counts as
-- padded with blanks (docs/LANGUAGE.md, 1).
unfoldable pub columns : ℕ → ℕ → ℕ → List ℕ → List Character
columns zero n k l = []
columns (suc m) n k l = character (get_or l 0 blank) n k ∷ columns m n (k + 1) (drop 1 l)

-- A statement before its text is scanned (X3.9-1978, 3.3): the line that it begins on, its label, and the
-- characters of columns 7 to 72 of its lines.
pub record Lined : Type 0 where
  pub line : ℕ
  pub label : Option ℕ
  pub characters : List Character

-- The meaning of a list of lines: the characters that continue the statement before them, and the statements that begin in them.
abbrev pub Joined : Type 0
Joined = Result (List Character × List Lined) Refusal

-- an initial line, and the lines after it
abbrev pub begun : ℕ → Option ℕ → List Character → Joined → Joined
begun n label body rest_after =
    rest_after >>= λ r. Ok ([], record { line = n; label = label; characters = body ++ r.0 } ∷ r.1)

-- a continuation line, and the lines after it
abbrev pub continued : List Character → Joined → Joined
continued body rest_after = rest_after >>= λ r. Ok (body ++ r.0, r.1)

-- the greatest number of continuation lines of a statement (X3.9-1978, 3.3)
abbrev pub most_continuation_lines : ℕ
most_continuation_lines = 19

-- Line n as a continuation line, by the number of continuation lines before it in its statement; none where no statement has begun
-- (X3.9-1978, 3.2.3).
abbrev pub continuing : ℕ → Option ℕ → List Character → (Option ℕ → Joined) → Joined
continuing n None body rest_after = refusal 105 n
continuing n (Some k) body rest_after = if nat_lt k most_continuation_lines then continued body (rest_after (Some (k + 1))) else refusal 104 n

-- Line n, which is of this kind, and the lines after it. Their meaning depends on the number of continuation lines so far. A
-- comment line may be anywhere and isn't counted (X3.9-1978, 3.2.1).
abbrev pub by_kind : ℕ → Option ℕ → KindOfLine → (Option ℕ → Joined) → Joined
by_kind n count comment rest_after = rest_after count
by_kind n count (initial label body) rest_after = begun n label (columns text_columns n first_text_column body) (rest_after (Some 0))
by_kind n count (continuation body) rest_after = continuing n count (columns text_columns n first_text_column body) rest_after
by_kind n count (refused number) rest_after = refusal number n

-- the lines from line n on, by the number of continuation lines of the statement before them
unfoldable pub joined : ℕ → Option ℕ → List (List ℕ) → Joined
joined n count [] = Ok ([], [])
joined n count (l ∷ ls) = by_kind n count (kind l) (λ (c : Option ℕ). joined (n + 1) c ls)

-- A statement with its text. 106 is a character constant that is open at the end of the statement, or an empty one
-- (X3.9-1978, 4.8.1).
abbrev pub statement : Lined → Result Stmt Refusal
statement s =
    if is_over (scanner_after Outside s.characters) then Ok (record {
      line = s.line;
      label = s.label;
      text = map (λ x. x.byte) (text_from Outside s.characters);
      spans = map (λ x. x.span) (text_from Outside s.characters);
    })
    else refusal 106 s.line

-- all statements with their texts, or the first fault
abbrev pub each_statement : List Lined → Result (List Stmt) Refusal
each_statement [] = Ok []
each_statement (s ∷ ss) = statement s >>= λ t. each_statement ss >>= λ ts. Ok (t ∷ ts)

-- the greatest numbers of bytes and lines of a text (docs/LANGUAGE.md, 1)
abbrev pub most_bytes : ℕ
most_bytes = 4194304

abbrev pub most_lines : ℕ
most_lines = 65535

-- whether a text has more bytes or more lines
abbrev pub is_too_large : List ℕ → Bool
is_too_large s = nat_lt most_bytes (length s) || nat_lt most_lines (length (lines s))

-- The statements of a text, or its first fault: 107 where it is too large, else the first line at
-- fault, else the first statement whose constants are at fault.
unfoldable pub statements_of : List ℕ → Result (List Stmt) Refusal
statements_of s =
    if is_too_large s then refusal 107 0 else (joined 1 None (lines s) >>= λ r. each_statement r.1)

-- The program reports the fault that a text has. A refusal of memory says nothing about the text.
abbrev pub Reports : TextFault → Result (List Stmt) Refusal → Type 0
Reports faults.NoMemory read = Unit {0}
Reports (faults.Refused number line name) read = (read ≡ refusal number line) × (name ≡ [])
