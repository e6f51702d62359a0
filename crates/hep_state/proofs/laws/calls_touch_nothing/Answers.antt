use Rattle.std.proofs.Common.{◌≡◌, ℕ, false, refl}
use Rattle.hep_step.specs.declared.call_kind.CallKind.{CallKind}
use Rattle.hep_step.specs.declared.call_kind.CallKind.TheVariants.{Calls, Creates, Refers}
use Rattle.hep_step.specs.NextCalls.{making}
use Rattle.hep_step.specs.Effects.{may_change}
use Rattle.hep_state.proofs.CallerRoom.{ahead-on-top}
use Rattle.hep_state.proofs.Changes.{none-ahead}
use Rattle.hep_state.proofs.laws.calls_touch_nothing.Goals as goal

-- CALL, CREATE and references may fill and empty nothing
making-changes-none : (way : CallKind) (u count next : ℕ) → may_change (making way u count next) ≡ false
making-changes-none Calls u count next = refl
making-changes-none Creates u count next = refl
making-changes-none Refers u count next = refl

pub returns : goal.returns
returns c t call accepted main at =
    let runs = c.tops_are_running.ensures.running t accepted main at.step.turning in
    none-ahead at.step.turning runs call.line (making call.way call.unit call.count call.next) at.step.behind (ahead-on-top at.step) (making-changes-none call.way call.unit call.count call.next)
