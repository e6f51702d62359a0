use Rattle.std.proofs.Common.{◌≡◌, ℕ, List, true, is_some, subst, sym}
use Rattle.hep_machine.specs.Words.{Name, Actual, Units, main_among, next_of, unit_at, Work}
use Rattle.hep_conditions.specs.Words.{IsAccepted}
use Rattle.hep_step.specs.declared.call_kind.CallKind.{CallKind}
use Rattle.hep_step.specs.declared.call_kind.CallKind.TheVariants.{Calls, Creates, Refers}
use Rattle.hep_step.specs.NextCalls.{comes_by}
use Rattle.hep_binding.specs.AcceptedLawsWorkOrigins.{ComesFrom, IsCalledBy}
use Rattle.hep_state.specs.Words.{IsMadeOf}
use Rattle.hep_state.proofs.laws.programs_are_known.Goals as goal

-- a subroutine that a statement calls or creates
called : goal.After-tops_are_running → (program : Units) → IsAccepted program → (u k : ℕ) (x : Name) (actuals : List Actual) → IsCalledBy (unit_at program u) k x actuals → IsMadeOf Calls program x actuals
called c program accepted u k x actuals by =
    let law = c.subroutines_are_called.ensures in
    record { inside = law.there program u k x actuals accepted by; as_many = law.arguments program u k x actuals accepted by; result = law.result program u k x actuals accepted by }

-- the unit that is called, created or referred to
made : goal.After-tops_are_running → (program : Units) → IsAccepted program → (way : CallKind) (u k : ℕ) (work : Work) (x : Name) (actuals : List Actual) → ComesFrom (unit_at program u) k work → next_of (unit_at program u) work ≡ comes_by way x actuals → IsMadeOf way program x actuals
made c program accepted Calls u k work x actuals from is = called c program accepted u k x actuals (c.calls_come_from_statements.ensures.called (unit_at program u) k work x actuals from is)
made c program accepted Creates u k work x actuals from is =
    let it = called c program accepted u k x actuals (c.calls_come_from_statements.ensures.created (unit_at program u) k work x actuals from is) in
    record { inside = it.inside; as_many = it.as_many; result = it.result }
made c program accepted Refers u k work x actuals from is =
    let by = c.references_come_from_statements.ensures (unit_at program u) k work x actuals from is in
    let law = c.functions_are_referred_to.ensures in
    record { inside = law.there program u k x actuals accepted by; as_many = law.arguments program u k x actuals accepted by; result = law.result program u k x actuals accepted by }

pub returns : goal.returns
returns c program accepted main =
    record {
      running = record {
        closed = c.programs_are_closed.ensures.closed program accepted;
        units = λ choices a one made. c.units_are_there.ensures program choices a accepted main one made;
        bound = λ choices a one made. c.activations_are_bound_in_runs.ensures program choices a accepted main one made;
        running = λ t same turning.
            c.tops_are_running.ensures.running t (subst IsAccepted (sym same) accepted) (subst (λ units. is_some (main_among units) ≡ true) (sym same) main) turning;
      };
      works = λ choices p top lives. c.works_come_from_statements.ensures.top program choices p top lives;
      made = made c program accepted;
      ahead = c.calls_are_ahead.ensures.ahead;
    }
