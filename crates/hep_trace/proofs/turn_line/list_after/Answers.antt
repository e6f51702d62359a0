use Rattle.std.proofs.Common.{subst, sym}
use Rattle.std.proofs.lemmas.Result.{IfOk-weaker}
use Rattle.hep_core.specs.CoreValues.{state_of}
use Rattle.hep_trace.specs.Observations.{IsListSeen}
use Rattle.hep_trace.proofs.turn_line.list_after.Goals as goal

pub returns-in-Print : goal.returns-in-Print
returns-in-Print c =
    IfOk-weaker c.printed.result _ _ (λ list told old t h.
    subst (IsListSeen old.program t c.args.before.now list.items) (sym c.in-Print.is) (λ items next.
    told t.state.records items (c.prints_are_last_records.ensures old.program t (state_of c.args.core.now.core) items h.turn.lives h.made next))) c.printed.ensures
