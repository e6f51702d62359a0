-- The lines of the statements of a program that was read from a source rise.
use Rattle.std.proofs.Common.{◌≡◌, ℕ, ◌+◌, ◌≤◌, Bool, true, false, if◌then◌else◌, nat_lt, List, [], ◌∷◌, ◌++◌, map, Option, Some, None, Result, Ok, Err, IfOk, refl, sym, ap, subst, ◌∙◌, arith}
use Rattle.hep_machine.specs.Words.{Statement, Units}
use Rattle.hep_text.specs.declared.statement.Stmt.{Stmt}
use Rattle.hep_text.specs.declared.constant.Scanner.TheVariants.{Outside}
use Rattle.hep_text.specs.Characters.{first_text_column, text_columns}
use Rattle.hep_text.specs.Constant.{Character, is_over, scanner_after, text_from}
use Rattle.hep_text.specs.Line.{KindOfLine, comment, continuation, initial, kind, lines, refused}
use Rattle.hep_text.specs.Reading.{◌>>=◌, Joined, Lined, Refusal, begun, by_kind, columns, continued, each_statement, is_too_large, joined, most_continuation_lines, refusal, statement, statements_of}
use Rattle.hep_parse.specs.Program.{AreAllStatements, AreStatements, IsProgram}
use Rattle.hep_warnings.specs.Order.{Rise, lines_in, lines_of_program}

-- ---- statements of a text

abbrev lines_of_lined : List Lined → List ℕ
lines_of_lined ss = map (λ (s : Lined). s.line) ss

abbrev lines_given : List Stmt → List ℕ
lines_given ts = map (λ (t : Stmt). t.line) ts

rise-before : (m n : ℕ) (ns : List ℕ) → m ≤ n → Rise n ns → Rise m ns
rise-before m n [] h rise = tt
rise-before m n (k ∷ ks) h rise = (omega (arith, h, rise.0), rise.1)

abbrev AreRising : ℕ → Joined → Type 0
AreRising n j = IfOk j (λ r. Rise n (lines_of_lined r.1))

rising-before : (n : ℕ) (j : Joined) → AreRising (n + 1) j → AreRising n j
rising-before n (Ok r) rise = rise-before n (n + 1) (lines_of_lined r.1) (omega arith) rise
rising-before n (Err e) rise = tt

rising-begun : (n : ℕ) (label : Option ℕ) (body : List Character) (j : Joined) → AreRising (n + 1) j → AreRising n (begun n label body j)
rising-begun n label body (Ok r) rise = (omega arith, rise-before n (n + 1) (lines_of_lined r.1) (omega arith) rise)
rising-begun n label body (Err e) rise = tt

rising-continued : (n : ℕ) (body : List Character) (j : Joined) → AreRising (n + 1) j → AreRising n (continued body j)
rising-continued n body (Ok r) rise = rise-before n (n + 1) (lines_of_lined r.1) (omega arith) rise
rising-continued n body (Err e) rise = tt

rising-kind : (n : ℕ) (count : Option ℕ) (k : KindOfLine) (after : Option ℕ → Joined) → ((c : Option ℕ) → AreRising (n + 1) (after c))
    → AreRising n (by_kind n count k after)
rising-kind n count comment after rise = rising-before n (after count) (rise count)
rising-kind n count (initial label body) after rise =
    rising-begun n label (columns text_columns n first_text_column body) (after (Some 0)) (rise (Some 0))
rising-kind n None (continuation body) after rise = tt
rising-kind n (Some c) (continuation body) after rise = by (nat_lt c most_continuation_lines)
  where
    by : (b : Bool) → AreRising n (
        if b then continued (columns text_columns n first_text_column body) (after (Some (c + 1))) else refusal 104 n)
    by true = rising-continued n (columns text_columns n first_text_column body) (after (Some (c + 1))) (rise (Some (c + 1)))
    by false = tt
rising-kind n count (refused number) after rise = tt

joined-rise : (n : ℕ) (count : Option ℕ) (ls : List (List ℕ)) → AreRising n (joined n count ls)
unfolding joined
joined-rise n count [] = tt
joined-rise n count (l ∷ ls) = rising-kind n count (kind l) (λ c. joined (n + 1) c ls) (λ c. joined-rise (n + 1) c ls)

statement-line : (s : Lined) → IfOk (statement s) (λ t. t.line ≡ s.line)
statement-line s = by (is_over (scanner_after Outside s.characters))
  where
    by : (b : Bool) → IfOk (if b then Ok (record {
      line = s.line;
      label = s.label;
      text = map (λ x. x.byte) (text_from Outside s.characters);
      spans = map (λ x. x.span) (text_from Outside s.characters);
    }) else refusal 106 s.line) (λ (t : Stmt). t.line ≡ s.line)
    by true = refl
    by false = tt

each-line : (ss : List Lined) → IfOk (each_statement ss) (λ ts. lines_given ts ≡ lines_of_lined ss)
each-line [] = refl
each-line (s ∷ ss) = by (statement s) (each_statement ss) (statement-line s) (each-line ss)
  where
    by : (t : Result Stmt Refusal) (ts : Result (List Stmt) Refusal) → IfOk t (λ u. u.line ≡ s.line)
        → IfOk ts (λ us. lines_given us ≡ lines_of_lined ss)
        → IfOk (t >>= λ u. ts >>= λ us. Ok (u ∷ us)) (λ us. lines_given us ≡ lines_of_lined (s ∷ ss))
    by (Ok t) (Ok ts) h k = λ i. h i ∷ k i
    by (Ok t) (Err e) h k = tt
    by (Err e) ts h k = tt

statements-rise : (source : List ℕ) → IfOk (statements_of source) (λ ts. Rise 0 (lines_given ts))
unfolding statements_of
statements-rise source = by (is_too_large source)
  where
    each : (j : Joined) → AreRising 1 j → IfOk (j >>= λ r. each_statement r.1) (λ ts. Rise 0 (lines_given ts))
    each (Ok r) rise = all (each_statement r.1) (each-line r.1)
      where
        all : (ts : Result (List Stmt) Refusal) → IfOk ts (λ us. lines_given us ≡ lines_of_lined r.1)
            → IfOk ts (λ us. Rise 0 (lines_given us))
        all (Ok ts) same = subst (Rise 0) (sym same) (rise-before 0 1 (lines_of_lined r.1) (omega arith) rise)
        all (Err e) same = tt
    each (Err e) rise = tt

    by : (b : Bool) → IfOk (if b then refusal 107 0 else (joined 1 None (lines source) >>= λ r. each_statement r.1))
        (λ ts. Rise 0 (lines_given ts))
    by true = tt
    by false = each (joined 1 None (lines source)) (joined-rise 1 None (lines source))

-- ---- statements of a program

unit-lines : (given : List Stmt) (unit : List Statement) (left : List Stmt) → AreStatements given unit left
    → lines_given given ≡ lines_in unit ++ lines_given left
unit-lines given [] left same = ap lines_given same
unit-lines [] (s ∷ ss) left same = absurd same
unit-lines (t ∷ ts) (s ∷ ss) left (is, more) = let line = sym is.0 in λ i. line i ∷ unit-lines ts ss left more i

program-lines : (given : List Stmt) (units : Units) → AreAllStatements given units → lines_given given ≡ lines_of_program units
program-lines given [] none = ap lines_given none
program-lines given (unit ∷ units) (left, here, more) =
    unit-lines given unit left here ∙ ap (λ ns. lines_in unit ++ ns) (program-lines left units more)

pub program-rises : (source : List ℕ) (statements : List Stmt) (program : Units) → statements_of source ≡ Ok statements
    → IsProgram statements program
    → Rise 0 (lines_of_program program)
program-rises source statements program read reading =
    subst (Rise 0) (program-lines statements program reading.0)
    (subst (λ r. IfOk r (λ ts. Rise 0 (lines_given ts))) read (statements-rise source))
