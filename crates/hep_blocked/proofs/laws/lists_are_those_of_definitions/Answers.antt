use Rattle.std.proofs.Common.{◌≡◌, length, Option, Some, None, refl, sym, ap, ◌∙◌, true≢false, ◌&&◌, is_some, not}
use Rattle.hep_machine.specs.Words.{is_number_among, living, run, living_from, ready_in, State}
use Rattle.hep_cells.specs.declared.want.Want.{Want}
use Rattle.hep_blocked.proofs.LivingProcesses.{waits-live}
use Rattle.hep_blocked.proofs.Members.{among-living, among-ready, none-among, rising-same, ready-rise}
use Rattle.hep_blocked.proofs.laws.lists_are_those_of_definitions.Goals as goal

pub returns-clause-ready : goal.returns-clause-ready
returns-clause-ready c program cells room choices x waiting ready are rising =
    rising-same 1 room (length x.state.processes) ready (ready_in x) rising (ready-rise x) are.are_ready

pub returns-clause-done : goal.returns-clause-done
returns-clause-done c program cells choices x waiting ready are none nobody =
    none-among (living_from 1 x.state.processes) (λ q.
    among-living x.state q
    ∙ (ap (λ b. not b && is_some (living x.state q)) (sym (are.listed q ∙ ap is_some (nobody q)))
    ∙ (sym (among-ready x q) ∙ ap (is_number_among q) none)))

pub returns-clause-waiting : goal.returns-clause-waiting
returns-clause-waiting c program cells p choices x waiting ready are some none = by_want (waiting p) refl where
  by_want : (o : Option Want) → waiting p ≡ o → ⊥
  by_want None e = some e
  by_want (Some w) e =
      let lives = waits-live program p (run program choices) (are.blocked p w e).1 in
      true≢false (sym (among-living x.state p ∙ (ap (λ (s : State). is_some (living s p)) are.state ∙ lives)) ∙ ap (is_number_among p) none)
