-- Sets of lines, as loops gather them, and the lines of a unit of a program.
use Rattle.std.proofs.Common.{◌≡◌, ◌∙◌, ℕ, ◌+◌, ◌<◌, ◌≤◌, Bool, true, false, cond, ◌||◌, List, drop, get_or, length, ap, sym}
use Rattle.std.specs.List.{list_any}
use Rattle.std.proofs.lemmas.List.{drop_all, drop_more}
use Rattle.hep_machine.specs.Words.{Statement, Units}
use Rattle.hep_conditions.specs.Words.{common_violations, data_violations, function_types, jump_violations, label_violations, name_violations, structure_violations}
use Rattle.hep_source.proofs.Tests.{or-assoc, or-false, or-true}
use Rattle.hep_check.specs.declared.violation_lines.ProgramLines.{ProgramLines}
use Rattle.hep_check.specs.declared.violation_lines.UnitLines.{UnitLines}
use Rattle.hep_check.specs.ViolationLines.{is_in, lines_at}
use Rattle.hep_check.specs.AllViolations.{has_line, lines_in}

-- a line that a set gets
pub with-line : (old is_line : Bool) → cond is_line true old ≡ (old || is_line)
with-line old true = sym (or-true old)
with-line old false = sym (or-false old)

-- one line more
pub added : {A : Type 0} (test : A → Bool) (old new whole : Bool) (xs : List A) (i : ℕ) (d : A) → i < length xs → (old || list_any test (drop i xs)) ≡ whole
    → new ≡ (old || test (get_or xs i d)) → (new || list_any test (drop (i + 1) xs)) ≡ whole
added test old new whole xs i d lt h n =
    let x = get_or xs i d in
    let rest = drop (i + 1) xs in
    ap (λ b. b || list_any test rest) n
    ∙ (or-assoc old (test x) (list_any test rest) ∙ (ap (λ zs. old || list_any test zs) (sym (drop_more xs i d lt)) ∙ h))

-- none is left
pub gathered : {A : Type 0} (test : A → Bool) (found whole : Bool) (xs : List A) (i : ℕ) → length xs ≤ i → (found || list_any test (drop i xs)) ≡ whole → found ≡ whole
gathered test found whole xs i le h = sym (or-false found) ∙ (ap (λ ys. found || list_any test ys) (sym (drop_all i xs le)) ∙ h)

-- the lines of a unit of a program are those that are kept
module _ (program : Units) (unit : List Statement) (shared : ProgramLines) (own : UnitLines) where
  pub lines-kept : ((line : ℕ) → is_in shared.common line ≡ has_line (common_violations program) line) → ((line : ℕ) → is_in shared.names line ≡ has_line (name_violations program) line)
      → ((line : ℕ) → is_in own.labels line ≡ has_line (label_violations unit) line) → ((line : ℕ) → is_in own.structure line ≡ has_line (structure_violations (function_types program) unit) line)
      → ((line : ℕ) → is_in own.jumps line ≡ has_line (jump_violations unit) line) → ((line : ℕ) → is_in own.values line ≡ has_line (data_violations unit) line)
      → lines_at shared own ≡ lines_in program unit
  lines-kept c n l s j d = λ i. record {
    common = λ line. c line i;
    labels = λ line. l line i;
    structure = λ line. s line i;
    jumps = λ line. j line i;
    names = λ line. n line i;
    values = λ line. d line i;
  }
