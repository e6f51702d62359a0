-- The lines of a text and their kinds (X3.9-1978, 3.2).
use Rattle.std.specs.Prelude.{ℕ, ◌+◌, ◌-◌, ◌*◌, Bool, true, false, ◌&&◌, ◌||◌, not, if◌then◌else◌, nat_eq, nat_le, List, [], ◌∷◌, take, drop, get_or, Option, Some, None}
use Rattle.std.specs.List.{filter, fold, list_all, list_any, onto_first}
use Rattle.hep_text.specs.Characters.{tab, line_feed, carriage_return, blank, last_printable, asterisk, first_digit, last_digit, letter_c, lower_case_c, last_column, label_columns, columns_before_text}
use Rattle.hep_text.specs.declared.line.LineKind as code
use Rattle.hep_text.specs.declared.line.LineKind.TheVariants as variants

-- whether the byte at an index is a carriage return, and the byte after it is a line feed
abbrev pub is_return_before_feed : List ℕ → ℕ → Bool
is_return_before_feed s i = nat_eq (get_or s i 0) carriage_return && nat_eq (get_or s (i + 1) blank) line_feed

-- The lines of a text: each ends at a line feed, and the last one may lack it. A carriage return
-- directly before a line feed belongs to no line (docs/LANGUAGE.md, 1).
abbrev pub lines : List ℕ → List (List ℕ)
lines [] = []
lines (c ∷ s) =
    if nat_eq c line_feed then [] ∷ lines s
    else (if is_return_before_feed (c ∷ s) 0 then lines s else onto_first c (lines s))

-- the blank (X3.9-1978, 3.1.6)
abbrev pub is_blank : ℕ → Bool
is_blank c = nat_eq c blank

-- the horizontal tab, which only comments may have (docs/LANGUAGE.md, 1)
abbrev pub is_tab : ℕ → Bool
is_tab c = nat_eq c tab

-- the printable characters of ASCII (docs/LANGUAGE.md, 1)
abbrev pub is_printable : ℕ → Bool
is_printable c = nat_le blank c && nat_le c last_printable

-- a digit (X3.9-1978, 3.1.2)
abbrev pub is_digit : ℕ → Bool
is_digit c = nat_le first_digit c && nat_le c last_digit

abbrev pub is_blank_or_digit : ℕ → Bool
is_blank_or_digit c = is_blank c || is_digit c

-- `C`, `c` or `*`, in column 1 (X3.9-1978, 3.2.1)
abbrev pub is_comment_mark : ℕ → Bool
is_comment_mark c = nat_eq c letter_c || (nat_eq c lower_case_c || nat_eq c asterisk)

-- in column 6, any character but a blank and the digit 0 (X3.9-1978, 3.2.3)
abbrev pub is_continuation_mark : ℕ → Bool
is_continuation_mark c = not (is_blank c || nat_eq c first_digit)

-- A comment line has a mark in column 1, or only blanks in columns 1 to 72 (X3.9-1978, 3.2.1). A
-- line that is shorter counts as padded with blanks.
abbrev pub is_comment : List ℕ → Bool
is_comment l = is_comment_mark (get_or l 0 blank) || list_all is_blank (take last_column l)

-- the number that decimal digits form
abbrev pub number_of_digits : List ℕ → ℕ
number_of_digits digits = fold (λ n d. 10 * n + (d - first_digit)) 0 digits

-- the label that digits form; none where there is no digit
abbrev pub label_of : List ℕ → Option ℕ
label_of [] = None
label_of (d ∷ ds) = Some (number_of_digits (d ∷ ds))

-- The label in columns 1 to 5 (X3.9-1978, 3.4). Blanks among its digits and leading zeros don't matter.
abbrev pub label : List ℕ → Option ℕ
label field = label_of (filter is_digit field)

-- the kinds of line (X3.9-1978, 3.2.1 to 3.2.3)
pub data KindOfLine : Type 0 where
  comment : KindOfLine
  initial : (label : Option ℕ) (body : List ℕ) → KindOfLine
  continuation : (body : List ℕ) → KindOfLine
  refused : (number : ℕ) → KindOfLine

-- the kind of a line with a label field of digits and blanks, by its label and its column 6
abbrev pub numbered : Option ℕ → Bool → List ℕ → KindOfLine
numbered None true body = continuation body
numbered None false body = initial None body
numbered (Some n) true body = refused 103
numbered (Some n) false body = if nat_eq n 0 then refused 103 else initial (Some n) body

-- the kind of a line that is no comment and has only printable characters (X3.9-1978, 3.2.2 and 3.2.3), by its
-- columns 1 to 5, its column 6 and its columns from 7 on
unfoldable pub labelled : List ℕ → ℕ → List ℕ → KindOfLine
labelled field mark body =
    if list_all is_blank_or_digit field then numbered (label field) (is_continuation_mark mark) body else refused 103

-- The kind of a line, by its columns 1 to 72. A comment may have any bytes. In other lines 101 is a tab, 102
-- another character that isn't printable, and 103 a fault of columns 1 to 5.
unfoldable pub kind : List ℕ → KindOfLine
kind l =
    if is_comment l then comment
    else (if list_any is_tab (take last_column l) then refused 101
    else (if list_all is_printable (take last_column l) then labelled (take label_columns l) (get_or l label_columns blank) (drop columns_before_text l)
    else refused 102))

-- the kind that a value of the type `LineKind` represents
abbrev pub kind_view : code.LineKind → KindOfLine
kind_view variants.Comment = comment
kind_view (variants.Initial label body) = initial label body.now
kind_view (variants.Continuation body) = continuation body.now
kind_view (variants.Refused number) = refused number
