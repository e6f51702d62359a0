use Rattle.std.proofs.Common.{◌≡◌, ℕ, List, [], ◌∷◌, ◌++◌, drop, sym, ap, subst, ◌∙◌}
use Rattle.std.proofs.lemmas.List.{drop_all}
use Rattle.hep_source.specs.declared.statement.Statement.{Statement}
use Rattle.hep_text.specs.declared.statement.Stmt.{Stmt}
use Rattle.hep_base.specs.declared.refusal.Refusal.{Refusal as ParseFault}
use Rattle.hep_parse.specs.declared.program.State.{State}
use Rattle.hep_parse.specs.ReadingProgram.{Misses, units, program}
use Rattle.hep_parse.proofs.UnitLoops.{with_units, left_at, failed, within, at_its_end, is_missed, has_no_end, has_no_main, is_over}
use Rattle.hep_parse.proofs.program.units.Goals as goal
use Rattle.hep_parse.proofs.program.units.Goals.{then-is_start+in_ok-push-2, else-is_start}
use Rattle.std.proofs.lemmas.Bool.{not-true, not-false}

-- the invariant in the loop and after it, with what is left of the statements said otherwise
turned : (x : State) (line : ℕ) (done : List (List Statement)) (unit : List Statement) (given left : List Stmt) (i : ℕ) → drop i given ≡ left → with_units done unit (units x line (drop i given)) ≡ program given → with_units done unit (units x line left) ≡ program given
turned x line done unit given left i e so_far = subst (λ (l : List Stmt). with_units done unit (units x line l) ≡ program given) e so_far

pub returns-in_err-read : goal.returns-in_err-read
returns-in_err-read c =
    let left = left_at c.args.statements.now c.loop-given.given-index c.given-item.result c.loop-given-test.true c.given-item.is in
    let so_far = turned c.loop-given.state c.loop-given.last_line c.loop-given.units.items c.loop-given.unit.items c.args.statements.now _ c.loop-given.given-index left c.loop-given.invariant.0 in
    failed (λ v. v.items) c.in_err-read.field-0.0 c.from_residual.result (program c.args.statements.now) c.from_residual.ensures (is_missed c.loop-given.state c.loop-given.last_line c.loop-given.units.items c.loop-given.unit.items (program c.args.statements.now) c.given-item.result _ c.in_err-read.field-0.0 c.in_err-read.ensures so_far)

pub loop-given-preserved : goal.loop-given-preserved
loop-given-preserved c =
    let left = left_at c.args.statements.now c.loop-given.given-index c.given-item.result c.loop-given-test.true c.given-item.is in
    let so_far = turned c.loop-given.state c.loop-given.last_line c.loop-given.units.items c.loop-given.unit.items c.args.statements.now _ c.loop-given.given-index left c.loop-given.invariant.0 in
    elim c.if-is_start.branch [
      | then-is_start+in_ok-push-2 w ↦ (
          let unit_is : c.if-is_start.unit.items ≡ [] = ap (λ v. v.items) w.unit-is ∙ w.new-unit-then-is_start.ensures.items in
          let units_is : c.if-is_start.units.items ≡ c.loop-given.units.items ++ (c.loop-given.unit.items ++ c.in_ok-read.read ∷ []) ∷ [] = ap (λ v. v.items) w.units-is ∙ w.in_ok-push-2.ensures.items ∙ ap (λ (u : List Statement). c.loop-given.units.items ++ u ∷ []) (w.from.ensures ∙ c.in_ok-push.ensures.items) in
          (rw (units_is, unit_is) (at_its_end c.loop-given.state c.loop-given.last_line c.loop-given.units.items c.loop-given.unit.items (program c.args.statements.now) c.given-item.result _ (c.in_ok-read.read, c.in_ok-read.next) c.in_ok-read.ensures (sym w.if-is_start.ensures) so_far), λ h. unit_is))
      | else-is_start w ↦ (
          let unit_is : c.if-is_start.unit.items ≡ c.loop-given.unit.items ++ c.in_ok-read.read ∷ [] = ap (λ v. v.items) w.unit-is ∙ c.in_ok-push.ensures.items in
          let units_is : c.if-is_start.units.items ≡ c.loop-given.units.items = ap (λ v. v.items) w.units-is in
          (rw (units_is, unit_is) (within c.loop-given.state c.loop-given.last_line c.loop-given.units.items c.loop-given.unit.items (program c.args.statements.now) c.given-item.result _ (c.in_ok-read.read, c.in_ok-read.next) c.in_ok-read.ensures (sym w.if-is_start.ensures) so_far), λ h. absurd (let clash = w.if-is_start.ensures ∙ h in cc)))
    ]

pub returns-then-not-is_start : goal.returns-then-not-is_start
returns-then-not-is_start c =
    let over = turned c.loop-given.state c.loop-given.last_line c.loop-given.units.items c.loop-given.unit.items c.args.statements.now [] c.loop-given.given-index (drop_all c.loop-given.given-index c.args.statements.now c.loop-given-test.false) c.loop-given.invariant.0 in
    subst (λ (z : ParseFault). Misses z (program c.args.statements.now)) (sym c.refused.ensures) (has_no_end c.loop-given.state c.loop-given.last_line c.loop-given.units.items c.loop-given.unit.items (program c.args.statements.now) (sym c.if-not-is_start.ensures) over)

pub returns-then-not-state : goal.returns-then-not-state
returns-then-not-state c =
    let over = turned c.loop-given.state c.loop-given.last_line c.loop-given.units.items c.loop-given.unit.items c.args.statements.now [] c.loop-given.given-index (drop_all c.loop-given.given-index c.args.statements.now c.loop-given-test.false) c.loop-given.invariant.0 in
    subst (λ (z : ParseFault). Misses z (program c.args.statements.now)) (sym c.refused-then-not-state.ensures) (has_no_main c.loop-given.state c.loop-given.last_line c.loop-given.units.items c.loop-given.unit.items (program c.args.statements.now) (sym c.if-not-is_start.ensures) (not-true c.loop-given.state.has_main c.if-not-state.true) over)

pub returns : goal.returns
returns c =
    let over = turned c.loop-given.state c.loop-given.last_line c.loop-given.units.items c.loop-given.unit.items c.args.statements.now [] c.loop-given.given-index (drop_all c.loop-given.given-index c.args.statements.now c.loop-given-test.false) c.loop-given.invariant.0 in
    let start = sym c.if-not-is_start.ensures in
    is_over c.loop-given.state c.loop-given.last_line c.loop-given.units.items c.loop-given.unit.items (program c.args.statements.now) start (not-false c.loop-given.state.has_main c.if-not-state.false) (c.loop-given.invariant.1 start) over
