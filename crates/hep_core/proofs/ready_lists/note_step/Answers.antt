use Rattle.std.proofs.Common.{◌≡◌, ◌∙◌, ◌||◌, List, ap, sym}
use Rattle.hep_machine.specs.Words.{is_number_among}
use Rattle.hep_step.specs.declared.closed_range.ClosedRange.{ClosedRange}
use Rattle.hep_core.specs.Waking.{awake_after, is_woken_after}
use Rattle.hep_core.proofs.ready_lists.note_step.Goals as goal

pub returns-clause-lists : goal.returns-clause-lists
returns-clause-lists c =
    record {
      waiting = λ q. c.wake_after.ensures.waiting q ∙ (λ j. awake_after c.args.turned (c.deref.ensures.value j) (c.note_ready.ensures.waiting q j));
      ready = λ program cells choices after q.
          c.wake_after.ensures.ready q
          ∙ (λ j. is_woken_after c.args.turned (c.deref.ensures.value j) (λ n. c.note_ready.ensures.waiting n j) q || c.note_ready.ensures.ready program cells choices after q j);
    }
