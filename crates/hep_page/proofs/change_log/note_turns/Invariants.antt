use Rattle.std.proofs.Common.{◌≡◌, ◌++◌, drop, length}
use Rattle.hep_page.specs.ChangeLogs.{IsNoting, changes_in}
use Rattle.hep_page.proofs.change_log.note_turns.Given as goal

abbrev pub invariant-loop-turn : goal.invariant-loop-turn
invariant-loop-turn l =
    record {
      along : IsNoting l.known l.log l.turns;
      so_far : l.log.text.items ++ changes_in l.known l.log l.turns
          ≡ l.fn.log.text.items ++ changes_in l.known l.fn.log (drop (length l.fn.log.core.core.history) l.history.items);
    }

abbrev pub decreases-loop-turn : goal.decreases-loop-turn
decreases-loop-turn l = length l.turns
