-- Worked examples of the definitions: whole texts with their statements or their refusal.
use Rattle.std.specs.Prelude.{◌≡◌, ℕ, zero, suc, List, [], ◌∷◌, ◌++◌, Option, Some, None, Result, Ok, Err, refl, codes, map}
use Rattle.hep_text.specs.declared.statement.Stmt.{Stmt}
use Rattle.hep_text.specs.declared.statement.Span.{Span}
use Rattle.hep_text.specs.Line.{kind, labelled}
use Rattle.hep_text.specs.Reading.{Refusal, refusal, columns, joined, statements_of}

-- a statement without its spans
record Row : Type 0 where
  line : ℕ
  label : Option ℕ
  text : List ℕ

abbrev row : ℕ → Option ℕ → List ℕ → Row
row n label text = record { line = n; label = label; text = text }

-- only this statement, on line 1 and without a label
abbrev one : List ℕ → List Row
one text = row 1 None text ∷ []

abbrev rows : Result (List Stmt) Refusal → Result (List Row) Refusal
rows (Ok ss) = Ok (map (λ s. record { line = s.line; label = s.label; text = s.text }) ss)
rows (Err e) = Err e

abbrev spans : Result (List Stmt) Refusal → Result (List (List Span)) Refusal
spans (Ok ss) = Ok (map (λ s. s.spans) ss)
spans (Err e) = Err e

abbrev at : ℕ → ℕ → Span
at n k = record { line = n; column = k }

-- a list repeated n times
abbrev times : ℕ → List ℕ → List ℕ
times zero l = []
times (suc n) l = l ++ times n l

-- nineteen continuation lines
abbrev nineteen : List ℕ
nineteen = times 19 (codes "\n     +B")

-- the statement `A` with these nineteen continuation lines
abbrev twenty : Row
twenty = row 1 None (codes "A" ++ times 19 (codes "B"))

-- texts, each with its statements
abbrev texts : List (List ℕ × List Row)
texts =
    ([], [])
    ∷ (codes "      GO TO 1 0", one (codes "GOTO10"))
    ∷ (codes "      x1 = y", one (codes "X1=Y"))
    ∷ (codes "      END\n", one (codes "END"))
    ∷ (codes "      END\r\n", one (codes "END"))
    -- labels, with blanks, with zeros in front, the greatest, and of a statement without characters
    ∷ (codes " 1 0  CONTINUE", row 1 (Some 10) (codes "CONTINUE") ∷ [])
    ∷ (codes "00010 END", row 1 (Some 10) (codes "END") ∷ [])
    ∷ (codes "99999 END", row 1 (Some 99999) (codes "END") ∷ [])
    ∷ (codes "  7", row 1 (Some 7) [] ∷ [])
    -- column 6: zero, or any mark on a continuation line
    ∷ (codes "     0END", one (codes "END"))
    ∷ (codes "      A\n     0B", row 1 None (codes "A") ∷ row 2 None (codes "B") ∷ [])
    ∷ (codes "      A = B\n     ++ C", one (codes "A=B+C"))
    ∷ (times 68 (codes " ") ++ codes "PRIN\n     1T *, I", one (codes "PRINT*,I"))
    ∷ (codes "  1   A\n     1B\n     2C\n      D\n     9e", row 1 (Some 1) (codes "ABC") ∷ row 4 None (codes "DE") ∷ [])
    ∷ (codes "      A\n     'B\n     $C\n     !D", one (codes "ABCD"))
    -- continuation lines, of blanks, after comment lines, after END, and nineteen of each statement
    ∷ (codes "      A\n     +\n     +B", one (codes "AB"))
    ∷ (codes "      A\nC     X\n\n     +B\n*\n     +C", one (codes "ABC"))
    ∷ (codes "      END\nC\n     +A", one (codes "ENDA"))
    ∷ (codes "      A" ++ nineteen ++ codes "\n      C", twenty ∷ row 21 None (codes "C") ∷ [])
    ∷ (codes "      A" ++ nineteen ++ codes "\n      C\n     +D", twenty ∷ row 21 None (codes "CD") ∷ [])
    -- comment lines, which are counted and have any bytes
    ∷ (codes "C\nc a\n* b\n\n      END", row 5 None (codes "END") ∷ [])
    ∷ (codes "C\t" ++ 200 ∷ codes "\n      END", row 2 None (codes "END") ∷ [])
    -- column 72 is the last
    ∷ (codes "      " ++ times 66 (codes "A") ++ codes "BCD", one (times 66 (codes "A")))
    ∷ (codes "      " ++ times 66 (codes "A") ++ codes "\t", one (times 66 (codes "A")))
    ∷ (codes "      '" ++ times 64 (codes "B") ++ codes "''", one (codes "'" ++ times 64 (codes "B") ++ codes "'"))
    -- character constants, which keep blanks and letters and have doubled apostrophes; a blank ends the first of two
    ∷ (codes "      a = 'b  c'", one (codes "A='b  c'"))
    ∷ (codes "      'it''s'", one (codes "'it''s'"))
    ∷ (codes "      ''''", one (codes "''''"))
    ∷ (codes "      'A' 'B'", one (codes "'A''B'"))
    -- constants over two lines: the blanks up to column 72 are in them, and so is one apostrophe in columns 72 and 7
    ∷ (codes "      A = 'b\n     +c'", one (codes "A='b" ++ times 60 (codes " ") ++ codes "c'"))
    ∷ (codes "      '" ++ times 65 (codes "B") ++ codes "\nC '\n     +C'", one (codes "'" ++ times 65 (codes "B") ++ codes "C'"))
    ∷ (codes "      '" ++ times 64 (codes "B") ++ codes "'\n     +'C'", one (codes "'" ++ times 64 (codes "B") ++ codes "''C'"))
    ∷ []

texts_read : map (λ r. rows (statements_of r.0)) texts ≡ map (λ r. Ok r.1) texts
unfolding statements_of joined columns kind labelled
texts_read = refl

-- texts, each with the number of its refusal and the line
abbrev refused : List (List ℕ × ℕ × ℕ)
refused =
    -- tabs, also before a later fault
    (codes "\tEND", 101, 1) ∷ (codes "      A" ++ 200 ∷ codes "\t", 101, 1)
    ∷ (codes "      A" ++ nineteen ++ codes "\n     +\t", 101, 21)
    -- bytes that aren't printable ASCII, also before a bad label, and a carriage return before no line feed
    ∷ (codes "      A\n     +B" ++ 127 ∷ [], 102, 2) ∷ (codes "      A = " ++ 195 ∷ [], 102, 1) ∷ (codes "A     " ++ 127 ∷ [], 102, 1)
    ∷ (codes "      END\r", 102, 1) ∷ (codes "      EN\rD\n", 102, 1)
    -- labels of zeros and with a letter, and labels of continuation lines
    ∷ (codes " 0 0  END", 103, 1) ∷ (codes "1A    END", 103, 1)
    ∷ (codes " 1   +A", 103, 1) ∷ (codes "      A\n 1   +B", 103, 2) ∷ (codes "      A\n 0   +B", 103, 2)
    -- twentieth continuation lines, where comment lines are none
    ∷ (codes "      A" ++ nineteen ++ codes "\n     +C", 104, 21)
    ∷ (codes "      A" ++ times 19 (codes "\nC\n     +B") ++ codes "\nC\n     +C", 104, 41)
    -- continuation lines of no statement, before any other lines
    ∷ (codes "     +A\n      B", 105, 1) ∷ (codes "C\n\n     +A", 105, 3) ∷ (codes "     +A\n1A    B", 105, 1) ∷ (codes "     +A\n\t", 105, 1)
    -- constants left open or empty
    ∷ (codes "      '''", 106, 1) ∷ (codes "      A = ''", 106, 1) ∷ (codes "      '' 'A'", 106, 1) ∷ (codes "      A\n      B = 'C", 106, 2)
    ∷ (codes "      '\n      '", 106, 1) ∷ (codes "      A\n      B\n     +'C\n     +D", 106, 2)
    ∷ (codes "      '" ++ times 65 (codes "B") ++ codes "'", 106, 1) ∷ (codes "      " ++ times 65 (codes "B") ++ codes "'\n     +'", 106, 1)
    -- a fault of a line is reported before these, also where the line is a later one
    ∷ (codes "      A = 'B\n      END\nX     END", 103, 3) ∷ (codes "      A = 'B\n      END" ++ times 20 (codes "\n     +C") ++ codes "\n", 104, 22)
    ∷ []

all_refused : map (λ r. rows (statements_of r.0)) refused ≡ map (λ r. refusal r.1 r.2) refused
unfolding statements_of joined columns kind labelled
all_refused = refl

-- the line and column of each character of a statement
spans_read : map (λ s. spans (statements_of s)) (codes "C\n 1    A (i)" ∷ codes "      A = I\nC\n     ++ 1" ∷ [])
    ≡ Ok ((at 2 7 ∷ at 2 9 ∷ at 2 10 ∷ at 2 11 ∷ []) ∷ []) ∷ Ok ((at 1 7 ∷ at 1 9 ∷ at 1 11 ∷ at 3 7 ∷ at 3 9 ∷ []) ∷ []) ∷ []
unfolding statements_of joined columns kind labelled
spans_read = refl
