-- The result of a reading, by what was read and the lines that are left: docs/ARCHITECTURE.md, "Forms".
use Rattle.std.specs.Prelude.{◌≡◌, ℕ, ◌+◌, if◌then◌else◌, List, [], ◌∷◌, ◌++◌, map, Option, Some, None, Result, Ok}
use Rattle.hep_text.specs.declared.constant.Scanner.{Scanner}
use Rattle.hep_text.specs.declared.statement.Stmt.{Stmt}
use Rattle.hep_text.specs.declared.statement.Span.{Span}
use Rattle.hep_text.specs.declared.reading.PendingStatement.{PendingStatement}
use Rattle.hep_text.specs.declared.reading.ReadingState.{ReadingState}
use Rattle.hep_base.specs.declared.refusal.Refusal.{Refusal as TextFault}
use Rattle.hep_text.specs.Constant.{Character, is_over, text_from, scanner_after}
use Rattle.hep_text.specs.Line.{KindOfLine}
use Rattle.hep_text.specs.Reading.{Refusal, refusal, ◌>>=◌, Joined, by_kind, joined, each_statement, Reports}

-- a statement that isn't complete yet, as a pure value
pub record Started : Type 0 where
  pub line : ℕ
  pub label : Option ℕ
  pub continued : ℕ
  pub text : List ℕ
  pub spans : List Span
  pub scanner : Scanner

abbrev pub started : PendingStatement → Started
started p = record { line = p.line; label = p.label; continued = p.continued; text = p.text.items; spans = p.spans.items; scanner = p.scanner }

-- the statement with more characters at its end
abbrev pub longer : Started → List Character → Started
longer p xs = record {
  line = p.line;
  label = p.label;
  continued = p.continued;
  text = p.text ++ map (λ x. x.byte) (text_from p.scanner xs);
  spans = p.spans ++ map (λ x. x.span) (text_from p.scanner xs);
  scanner = scanner_after p.scanner xs;
}

-- the complete statement, or 106
abbrev pub over : Started → Result Stmt Refusal
over p =
    if is_over p.scanner then Ok (record { line = p.line; label = p.label; text = p.text; spans = p.spans }) else refusal 106 p.line

-- the complete statements, or 106 at the line of the first one at fault
abbrev pub done_so_far : List Stmt → Option ℕ → Result (List Stmt) Refusal
done_so_far done None = Ok done
done_so_far done (Some n) = refusal 106 n

-- the statement that isn't complete, if there is one, after these characters continue and end it
abbrev pub last_of : Option Started → List Character → Result (List Stmt) Refusal
last_of None xs = Ok []
last_of (Some p) xs = over (longer p xs) >>= λ s. Ok (s ∷ [])

-- the complete statements, the one that isn't complete, and those that the remaining lines give
abbrev pub finish : Result (List Stmt) Refusal → Option Started → Joined → Result (List Stmt) Refusal
finish done current rest_after =
    rest_after >>= λ r. done >>= λ ss. last_of current r.0 >>= λ last. each_statement r.1 >>= λ ts. Ok (ss ++ (last ++ ts))

abbrev pub pending_of : Option PendingStatement → Option Started
pending_of None = None
pending_of (Some p) = Some (started p)

-- the complete statements of a reading
abbrev pub done_of : ReadingState → Result (List Stmt) Refusal
done_of r = done_so_far r.done.items r.open

-- the number of continuation lines of the statement that isn't complete; none where no statement has begun
abbrev pub count_of : Option Started → Option ℕ
count_of None = None
count_of (Some p) = Some p.continued

-- the result of a reading and of the lines from line n on
abbrev pub total : ReadingState → ℕ → List (List ℕ) → Result (List Stmt) Refusal
total r n ls = finish (done_of r) (pending_of r.pending) (joined n (count_of (pending_of r.pending)) ls)

-- the result of a reading, of line n of this kind, and of the lines after it
abbrev pub total_with : ReadingState → ℕ → KindOfLine → List (List ℕ) → Result (List Stmt) Refusal
total_with r n k ls =
    finish (done_of r) (pending_of r.pending) (by_kind n (count_of (pending_of r.pending)) k (λ (c : Option ℕ). joined (n + 1) c ls))

-- Reading line n, which is of this kind, takes one reading to another.
abbrev pub GoesOn : ReadingState → ReadingState → ℕ → KindOfLine → Type 0
GoesOn r s n k = (ls : List (List ℕ)) → total_with r n k ls ≡ total s (n + 1) ls

-- A reading ends with this fault at line n, which is of this kind.
abbrev pub Fails : TextFault → ReadingState → ℕ → KindOfLine → Type 0
Fails e r n k = (ls : List (List ℕ)) → Reports e (total_with r n k ls)

-- the complete statements, with the last one completed
abbrev pub with_last : Result (List Stmt) Refusal → Option Started → Result (List Stmt) Refusal
with_last done current = done >>= λ ss. last_of current [] >>= λ last. Ok (ss ++ last)
