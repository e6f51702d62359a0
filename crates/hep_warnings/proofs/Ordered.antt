-- The warnings of a program whose statements stand by line stand by line.
use Rattle.std.proofs.Common.{ℕ, ◌+◌, ◌≤◌, Bool, true, false, nat_eq, List, [], ◌∷◌, length, take, refl, arith, Option, Some, None, if◌then◌else◌}
use Rattle.hep_text.specs.Line.{lines}
use Rattle.hep_machine.specs.Words.{Form, Name, Statement, Tree, Units, occurrence, with_names}
use Rattle.hep_source.specs.declared.statement.Form.TheVariants as form
use Rattle.hep_warnings.specs.declared.created_with_loop_variable.EnclosingLoop.{EnclosingLoop}
use Rattle.hep_warnings.specs.declared.occurrences.FirstOccurrence.{FirstOccurrence}
use Rattle.hep_warnings.specs.declared.warning.WarningKind.{WarningKind}
use Rattle.hep_warnings.specs.PastColumn72.{behind_warnings, line_warnings, warnings_from}
use Rattle.hep_warnings.specs.CreatedWithLoopVariable.{actual_warnings, create_warnings_by, create_warnings_from, create_warnings_in, loops_behind}
use Rattle.hep_warnings.specs.UnusedLabels.{label_warning, unused_at, unused_in}
use Rattle.hep_warnings.specs.Lines.{Warnings, when}
use Rattle.hep_warnings.specs.UnusedNames.{kind_of, name_warning, name_warnings_by, name_warnings_in, said, warning_at}
use Rattle.hep_warnings.specs.SingleOccurrences.{names_in, standing}
use Rattle.hep_warnings.specs.Order.{lines_in, lines_of_program, lines_of_warnings, Rise}
use Rattle.hep_warnings.specs.UnusedUnits.{header_warning, names_used, unit_warning}
use Rattle.hep_warnings.specs.Warnings.{warnings}
use Rattle.hep_warnings.proofs.Between.{AreOf, at_line, Between, both, from_below, merging, of_all, of_statements, of_units, rising, RiseTo, spans_lines, units_rise, units_to, UnitsRise}

of_when : (b : Bool) (n : ℕ) (k : WarningKind) → AreOf n (when b n k)
of_when true n k = (refl, tt)
of_when false n k = tt

-- ---- each kind

of_label : (unit : List Statement) (l : Option ℕ) (n : ℕ) → AreOf n (label_warning unit l n)
of_label unit None n = tt
of_label unit (Some l) n = of_when _ n _

of_header : (used : List Name) (n : ℕ) (f : Form) → AreOf n (header_warning used n f)
of_header used n (form.Subroutine p ds) = of_when _ n _
of_header used n (form.Function t p ds) = of_when _ n _
of_header used n _ = tt

of_actual : (around : List EnclosingLoop) (n : ℕ) (x : Name) (t : Tree) → AreOf n (actual_warnings around n x t)
of_actual around n x (occurrence p) = of_when _ n _
of_actual around n x _ = tt

of_create : (around : List EnclosingLoop) (n : ℕ) (f : Form) → AreOf n (create_warnings_by around n f)
of_create around n (form.Create p ts) = of_all n (actual_warnings around n p.name) (of_actual around n p.name) ts
of_create around n _ = tt

of_said : (n : ℕ) (k : Option WarningKind) → AreOf n (said n k)
of_said n None = tt
of_said n (Some k) = (refl, tt)

of_name : (unit : List Statement) (n : ℕ) (x : Name) (s : Option FirstOccurrence) → AreOf n (warning_at unit n x s)
of_name unit n x None = tt
of_name unit n x (Some s) = by (nat_eq s.line n)
  where
    by : (b : Bool) → AreOf n (if b then said n (kind_of unit x s) else [])
    by true = of_said n (kind_of unit x s)
    by false = tt

-- ---- units and lines

unit_between : (used : List Name) (m e : ℕ) (u : List Statement) → RiseTo m e (lines_in u) → Between m e (unit_warning used u)
unit_between used m e [] r = r
unit_between used m e (s ∷ ss) r = wider m s.line e (header_warning used s.line s.form) (spans_lines s.line e (lines_in ss) r.1) (at_line m s.line _ r.0 (of_header used s.line s.form))
  where
    wider : (m n e : ℕ) (ws : Warnings) → n ≤ e → Between m n ws → Between m e ws
    wider m n e [] b h = omega (arith, b, h)
    wider m n e (w ∷ ws) b h = (h.0, wider w.line n e ws b h.1)

creates_between : (around : List EnclosingLoop) (m e : ℕ) (ss : List Statement) → RiseTo m e (lines_in ss) → Between m e (create_warnings_from around ss)
creates_between around m e [] r = r
creates_between around m e (s ∷ ss) r =
    both m s.line e (create_warnings_by around s.line s.form) (create_warnings_from (loops_behind around s) ss)
    (at_line m s.line _ r.0 (of_create around s.line s.form)) (creates_between (loops_behind around s) s.line e ss r.1)

behind_between : (n e : ℕ) (ls : List (List ℕ)) → n + length ls ≤ e → Between n e (warnings_from n ls)
behind_between n e [] b = omega (arith, b)
behind_between n e (l ∷ ls) b =
    let same : n ≤ n = omega arith in
    let more : n ≤ n + 1 = omega arith in
    let left : n + 1 + length ls ≤ e = omega (arith, b) in
    both n n e (line_warnings n l) (warnings_from (n + 1) ls) (at_line n n _ same (of_when _ n _))
    (from_below n (n + 1) e (warnings_from (n + 1) ls) more (behind_between (n + 1) e ls left))

all_between : (e : ℕ) (source : List ℕ) (p : Units) → 1 + length (take 65535 (lines source)) ≤ e → UnitsRise 0 e p → Between 0 e (warnings source p)
all_between e source p b r =
    let first : 0 ≤ 1 = omega arith in
    let behind = from_below 0 1 e (behind_warnings source) first (behind_between 1 e (take 65535 (lines source)) b) in
    let labels = of_units unused_in (λ m e u. of_statements (unused_at u) (λ s. of_label u s.label s.line) m e u) 0 e p r in
    let units = of_units (unit_warning (names_used p)) (unit_between (names_used p)) 0 e p r in
    let creates = of_units create_warnings_in (creates_between []) 0 e p r in
    let names = of_units name_warnings_in
    (λ m e u. of_statements (name_warnings_by u) (λ s. of_all s.line (name_warning u s.line) (λ x. of_name u s.line x (standing u x)) (with_names [] (names_in u s))) m e u) 0 e p r in
    merging 0 e _ _ behind (merging 0 e _ _ labels (merging 0 e _ _ units (merging 0 e _ _ creates names)))

pub by_line : (source : List ℕ) (p : Units) → Rise 0 (lines_of_program p) → Rise 0 (lines_of_warnings (warnings source p))
by_line source p h =
    let r = units_rise 0 p h in
    let n = 1 + length (take 65535 (lines source)) in
    let e = r.0 + n in
    let a : n ≤ e = omega arith in
    let b : r.0 ≤ e = omega arith in
    rising 0 e (warnings source p) (all_between e source p a (units_to 0 r.0 e p b r.1))
