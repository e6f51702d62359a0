use Rattle.std.proofs.Common.{◌≡◌, ◌+◌, ◌-◌, ◌^◌, ◌<◌, ◌≤◌, None, false, length}
use Rattle.hep_state.specs.Words.{HasLevels, snapshot_of}
use Rattle.hep_core.specs.SilentChoices.{AreMoves}
use Rattle.hep_core.specs.Invariant.{CoreInvariant, core_value}
use Rattle.hep_core.specs.ProcessPlaces.{places_of}
use Rattle.hep_core.proofs.SilentChoices.{IsNext}
use Rattle.hep_core.proofs.run_core.Core.move_on.Given as goal

abbrev pub invariant-loop-done : goal.invariant-loop-done
invariant-loop-done l =
    record {
      kept : CoreInvariant l.self-inside;
      going : l.self-inside.stop ≡ None;
      program : l.self-inside.image ≡ l.fn.self.core.program;
      limit : l.self-inside.limit ≡ l.fn.self.core.limit;
      out : l.self-inside.out.items ≡ l.fn.self.core.out;
      moves : AreMoves l.rounds l.p l.fn.self.core l.done (core_value l.self-inside);
      next : IsNext l.rounds l.p l.next (core_value l.self-inside);
      living : HasLevels (snapshot_of l.self-inside.machine) l.next;
      entries : length l.self-inside.history.items ≡ length l.fn.self.core.history + l.done;
      few : l.done ≤ l.room;
      alone : l.rounds ≡ false → l.done ≡ 0;
      free : 0 < l.self-inside.history.room;
      short : length l.self-inside.history.items + l.each ≤ 2 ^ 63;
      still : l.rounds ≡ false → places_of l.self-inside.image (snapshot_of l.self-inside.machine) ≡ l.fn.self.places;
    }

abbrev pub decreases-loop-done : goal.decreases-loop-done
decreases-loop-done l = l.room - l.done
