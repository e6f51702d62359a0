use Rattle.std.proofs.Common.{◌≡◌, ◌≢◌, ℕ, Bool, [], ◌∷◌, ◌++◌, not}
use Rattle.hep_machine.specs.Words.{run, is_waiting}
use Rattle.hep_cells.specs.declared.want.Want.{Want}
use Rattle.hep_blocked.specs.NeededCells.{NeedsCell}
use Rattle.hep_blocked.specs.RosterUpdates.{IsBlocked}
use Rattle.hep_blocked.proofs.KeptNeeds.{GoesAlongBy, along-emptied, step-kept}
use Rattle.hep_blocked.proofs.Waking.{goes-on-emptying, is_emptied}
use Rattle.hep_blocked.proofs.laws.lists_go_along_with_purges.Goals as goal

pub returns : goal.returns
returns c program cells choices x waiting waiting_after ready ready_after p emptied layout are there placed has goes =
    step-kept program cells choices x waiting ready are waiting_after ready_after p (is_emptied emptied) there along still waits
  where
    along : GoesAlongBy program choices p (is_emptied emptied) waiting waiting_after ready ready_after
    along = along-emptied program choices p waiting waiting_after ready ready_after emptied goes

    still : (q cell : ℕ) (full : Bool) → NeedsCell program cells choices q cell full → p ≢ q → NeedsCell program cells (choices ++ p ∷ []) q cell full
    still q cell full needs other = c.others_need_the_same.ensures program cells choices p q cell full layout needs there other placed

    waits : (q : ℕ) (v : Want) → IsBlocked program cells choices q v → p ≢ q → is_waiting program (run program (choices ++ p ∷ [])) q ≡ not (is_emptied emptied v)
    waits q v blocked other = goes-on-emptying program cells choices p q layout v blocked.0 placed there other blocked.1 emptied has
