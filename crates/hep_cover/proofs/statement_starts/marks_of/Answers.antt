use Rattle.std.proofs.Common.{◌≡◌, inl, inr, List, Some, slice_get, sym, ap, ◌∙◌, subst, arith}
use Rattle.hep_fast.proofs.StepRows.{get-one-more}
use Rattle.hep_step.specs.Simulation.{unit_code}
use Rattle.hep_cover.specs.declared.statement_starts.StatementStarts.{StatementStarts}
use Rattle.hep_cover.specs.StartMarks.{marks}
use Rattle.hep_cover.proofs.statement_starts.marks_of.Goals as goal

pub loop-unit-preserved : goal.loop-unit-preserved
loop-unit-preserved c =
    let image = c.args.image.now in
    let operations = c.args.operations.now in
    let before = c.loop-unit.marks.items in
    let made = c.in_ok-lines.lines in
    let code = c.as_slice-code.ensures ∙ c.unit.ensures.code in
    let its : made.lines.items ≡ marks operations (unit_code image c.loop-unit.unit) = c.in_ok-lines.ensures ∙ ap (marks operations) code in
    record {
      each = λ u m is.
          elim
          (get-one-more before made u m (subst (λ (ms : List StatementStarts). slice_get ms u ≡ Some m) c.in_ok-push.ensures.items is)) [
            | inl old ↦ c.loop-unit.invariant.each u m old
            | inr new ↦ ap (λ (x : StatementStarts). x.lines.items) (sym new.1) ∙ its
                ∙ ap (λ k. marks operations (unit_code image k)) (sym (new.0 ∙ c.loop-unit.invariant.count))
          ];
      count = omega (arith, c.in_ok-push.ensures.len, c.loop-unit.invariant.count, c.push.new.self.ok.0, c.loop-unit.marks.ok.0);
    }
