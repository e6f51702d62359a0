-- 302, as one pass over a unit tells it.
use Rattle.std.proofs.Common.{◌≡◌, ℕ, Bool, not, Option, List, [], ◌∷◌, refl, ap, sym, ◌∙◌}
use Rattle.hep_machine.specs.Words.{Statement}
use Rattle.hep_conditions.specs.Words.{FunctionTypes, Parameters, is_statement_typed, type_violations_from, reported, least_line, line_when, first_of, when, at_line}
use Rattle.hep_conditions.proofs.Lines.{least_line-assoc, reported-append, reported-when}
use Rattle.hep_types.specs.Passes.{parameters_after, least_untyped}

pub reported-untyped : (functions : FunctionTypes) (unit : List Statement) (ps : Parameters) (ss : List Statement) → first_of (type_violations_from functions unit ps ss) ≡ reported 302 (least_untyped functions unit ps ss)
reported-untyped functions unit ps [] = refl
reported-untyped functions unit ps (s ∷ ss) =
    reported-append 302 (when (not (is_statement_typed functions unit ps s)) (at_line 302 s.line)) (type_violations_from functions unit (parameters_after unit ps s) ss)
    (line_when (not (is_statement_typed functions unit ps s)) s.line) (least_untyped functions unit (parameters_after unit ps s) ss)
    (reported-when 302 s.line (not (is_statement_typed functions unit ps s))) (reported-untyped functions unit (parameters_after unit ps s) ss)

-- a turn of the loop over the statements, of which this one is next
pub turn : (functions : FunctionTypes) (unit : List Statement) (best next whole : Option ℕ) (ps qs : Parameters) (b : Bool) (s : Statement) (xs ys : List Statement)
    → least_line best (least_untyped functions unit ps xs) ≡ whole → next ≡ least_line best (line_when (not b) s.line) → b ≡ is_statement_typed functions unit ps s
    → qs ≡ parameters_after unit ps s → xs ≡ s ∷ ys → least_line next (least_untyped functions unit qs ys) ≡ whole
turn functions unit best next whole ps qs b s xs ys h n e q d =
    ap (λ o. least_line o (least_untyped functions unit qs ys)) (n ∙ ap (λ a. least_line best (line_when (not a) s.line)) e)
    ∙ (ap (λ p. least_line (least_line best (line_when (not (is_statement_typed functions unit ps s)) s.line)) (least_untyped functions unit p ys)) q
    ∙ (least_line-assoc best (line_when (not (is_statement_typed functions unit ps s)) s.line) (least_untyped functions unit (parameters_after unit ps s) ys)
    ∙ (ap (λ zs. least_line best (least_untyped functions unit ps zs)) (sym d) ∙ h)))
