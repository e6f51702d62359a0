-- Where processes are, one after the other.
use Rattle.std.proofs.Common.{◌≡◌, ℕ, suc, ◌-◌, ◌<◌, ◌≤◌, List, ◌++◌, sym, ap, ◌∙◌, append_assoc, append-nil, arith}
use Rattle.hep_machine.specs.declared.event.Entry.{Entry}
use Rattle.hep_machine.specs.Words.{Units, state_after}
use Rattle.hep_image.specs.Names.{names_in_order}
use Rattle.hep_core.specs.ProcessPositions.{whereabouts_by}
use Rattle.hep_dump.specs.StopNotes.{place_notes, places_notes}
use Rattle.hep_dump.specs.PendingCalls.{wants_from, wants_notes}

-- a turn of a loop over all of them
pub turn : (program : Units) (history : List Entry) (b n : ℕ) (found next whole : List ℕ) → b < n → found ++ places_notes program history (suc b) (n - b) ≡ whole
    → next ≡ found ++ place_notes (names_in_order program) (whereabouts_by program (suc b) (state_after program history))
    → next ++ places_notes program history (suc (suc b)) (n - suc b) ≡ whole
turn program history b n found next whole lt h e =
    let left : n - b ≡ suc (n - suc b) = omega (arith, lt) in
    let here = place_notes (names_in_order program) (whereabouts_by program (suc b) (state_after program history)) in
    let rest = places_notes program history (suc (suc b)) (n - suc b) in
    ap (λ xs. xs ++ rest) e
    ∙ append_assoc found here rest
    ∙ ap (λ m. found ++ places_notes program history (suc b) m) (sym left)
    ∙ h

-- the same of the frames that they are to make
pub wanted_turn : (program : Units) (cells : ℕ) (history : List Entry) (b n : ℕ) (found next whole : List ℕ) → b < n
    → found ++ wants_from program cells history (suc b) (n - b) ≡ whole
    → next ≡ found ++ wants_notes program cells (whereabouts_by program (suc b) (state_after program history))
    → next ++ wants_from program cells history (suc (suc b)) (n - suc b) ≡ whole
wanted_turn program cells history b n found next whole lt h e =
    let left : n - b ≡ suc (n - suc b) = omega (arith, lt) in
    let here = wants_notes program cells (whereabouts_by program (suc b) (state_after program history)) in
    let rest = wants_from program cells history (suc (suc b)) (n - suc b) in
    ap (λ xs. xs ++ rest) e
    ∙ append_assoc found here rest
    ∙ ap (λ m. found ++ wants_from program cells history (suc b) m) (sym left)
    ∙ h

-- behind the last process nothing is left
pub none_wanted : (program : Units) (cells : ℕ) (history : List Entry) (b n : ℕ) (found whole : List ℕ) → n ≤ b
    → found ++ wants_from program cells history (suc b) (n - b) ≡ whole → found ≡ whole
none_wanted program cells history b n found whole le h =
    let none : n - b ≡ 0 = omega (arith, le) in
    sym (append-nil found) ∙ (ap (λ m. found ++ wants_from program cells history (suc b) m) (sym none) ∙ h)
