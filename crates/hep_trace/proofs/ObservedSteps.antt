-- What a turn did that was seen before it.
use Rattle.std.proofs.Common.{◌≡◌, ℕ, true, false, Some, None, sym, ap, ◌∙◌}
use Rattle.hep_core.specs.CoreValues.{CoreValue, state_of}
use Rattle.hep_event.specs.Faults.{kind_text}
use Rattle.hep_machine.specs.declared.event.Kind.{Kind}
use Rattle.hep_machine.specs.Words.{State, Top, Wanted, is_number_among, progress_after, step_result_of, wanted_by, wanted_of}
use Rattle.hep_state_text.specs.States.{place_text}
use Rattle.hep_event.specs.StepTexts.{deed_text, fault_added, step_text}
use Rattle.hep_event.specs.LineTexts as lines
use Rattle.hep_trace.specs.declared.observation.BeforeTurn.{BeforeTurn}
use Rattle.hep_trace.specs.Observations.{IsStepSeen, IsTurnSeen}
use Rattle.hep_trace.proofs.MadeTurns.{HasWaited, stepped-so, waited}

module _ (old : CoreValue) (t : Top) (b : BeforeTurn) (new : CoreValue) (h : IsTurnSeen old t b new) (p : ℕ) (is : t.process ≡ p) where
  -- it was found waiting
  module _ (listed : is_number_among p (progress_after new.program new.history).listed ≡ true) where
    wait : HasWaited old t.process new
    wait = waited old t.process new h.made (ap (λ q. is_number_among q (progress_after new.program new.history).listed) is ∙ listed)

    pub wants-so : (w : Wanted) × (wanted_by new.program p (state_of new) ≡ Some w)
        × (lines.waits_text w.full (place_text new.program (state_of new) w.at) ≡ deed_text old.program t (step_result_of old.program t.process t.state))
    wants-so = (
      wait.wanted,
      (λ i. wanted_of (step_result_of (wait.program i) (sym is i) (wait.state i))) ∙ ap wanted_of wait.result,
      (λ i. lines.waits_text wait.wanted.full (place_text (wait.program i) ((wait.state ∙ sym h.state) i) wait.wanted.at))
          ∙ sym (ap (deed_text old.program t) (ap (step_result_of old.program t.process) h.state ∙ wait.result)),
    )

  -- it was a step
  module _ (listed : is_number_among p (progress_after new.program new.history).listed ≡ false) where
    pub step-seen : fault_added t.state.faults (state_of new).faults ≡ None → IsStepSeen old t b new
    step-seen sound =
        let st = stepped-so old t.process new h.made (ap (λ q. is_number_among q (progress_after new.program new.history).listed) is ∙ listed) in
        record {
          turn = h;
          running = ap (λ (s : State). s.halted) h.state ∙ st.running;
          made = ap (step_result_of old.program t.process) h.state ∙ st.result;
          sound = sound;
        }

    pub faulted : (k : Kind) → fault_added t.state.faults (state_of new).faults ≡ Some k → lines.fault_text (kind_text k) ≡ deed_text old.program t (step_result_of old.program t.process t.state)
    faulted k added =
        let st = stepped-so old t.process new h.made (ap (λ q. is_number_among q (progress_after new.program new.history).listed) is ∙ listed) in
        sym (
        ap (deed_text old.program t) (ap (step_result_of old.program t.process) h.state ∙ st.result)
        ∙ ap (step_text old.program t (state_of new)) added)
