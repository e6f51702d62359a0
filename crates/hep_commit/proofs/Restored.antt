-- What was kept of a process, put back, gives back the whole machine.
use Rattle.std.proofs.Common.{◌≡◌, ℕ, ◌+◌, ◌-◌, List, [], ◌∷◌, refl, sym, ◌∙◌, subst, slice_set}
use Rattle.hep_machine.specs.Words.{Units, with_numbered}
use Rattle.hep_machine.specs.declared.slot.Slot.{Slot}
use Rattle.hep_image.specs.Addressing.{cells_in}
use Rattle.hep_state.proofs.BindingCalls.{set-numbered}
use Rattle.hep_private.specs.declared.record.Record.{Record}
use Rattle.hep_commit.specs.UndoneStores.{AreOf, put_back}
use Rattle.hep_proc.specs.Stacks.{Stack, stack_with}
use Rattle.hep_private.specs.Segments.{SegmentValue}
use Rattle.hep_state.specs.Words.{HasLevels, IsSameButTop, Snapshot, frame_under}
use Rattle.hep_state.proofs.Runs.{set-again, set-same}
use Rattle.hep_state.proofs.UnchangedStates.{levels-same}
use Rattle.hep_commit.specs.SegmentStarts.{first_of, snapshot_taken}
use Rattle.hep_commit.specs.UndoLogs.{saved_of, slots_of, snapshot_restored, with_slots}
use Rattle.hep_private.specs.InPlace.{stored_with}

-- ---- cells

pub with-put : (first : ℕ) (cells : List ℕ) (saved now : List Slot) → with_slots first cells (slots_of first cells saved) now ≡ put_back first cells saved now
with-put first [] saved now = refl
with-put first (c ∷ cs) saved now = with-put first cs saved (slice_set now (first + c) (cells_in saved (first + c)))

-- what the law of saved cells says
abbrev pub IsUndone : Type 0
IsUndone = (first : ℕ) (contents : List Slot) (cells : List ℕ) (records : List Record) → AreOf cells records → put_back first cells contents (stored_with first contents records) ≡ contents

-- ---- a machine

module _ (undone : IsUndone) {m : Snapshot} {p : ℕ} (levels : HasLevels m p) (s : SegmentValue) (cells : List ℕ) (of : AreOf cells s.records) where
  abbrev before-it : Stack
  before-it = stack_with levels.level levels.below levels.operands levels.pending

  abbrev moved : Stack
  moved = stack_with (record levels.level { index = s.end_index }) levels.below s.end_operands levels.pending

  -- where it has come to
  pub taken : HasLevels (snapshot_taken levels s) p
  taken =
      record {
        level = record levels.level { index = s.end_index };
        below = levels.below;
        operands = s.end_operands;
        pending = levels.pending;
        kept = set-numbered m.processes p before-it moved levels.kept;
      }

  module _ (after : HasLevels (snapshot_taken levels s) p) where
    level : after.level ≡ record levels.level { index = s.end_index }
    unfolding taken
    level = (levels-same after taken).0

    below : after.below ≡ levels.below
    unfolding taken
    below = (levels-same after taken).1

    pending : after.pending ≡ levels.pending
    unfolding taken
    pending = (levels-same after taken).3

    abbrev there : ℕ → List Slot
    there first = with_slots first cells (slots_of (first_of levels) cells m.arena.contents) (stored_with (first_of levels) m.arena.contents s.records)

    cells-back : there (first_of levels) ≡ m.arena.contents
    cells-back = with-put (first_of levels) cells m.arena.contents (stored_with (first_of levels) m.arena.contents s.records) ∙ undone (first_of levels) m.arena.contents cells s.records of

    stacks-back : with_numbered (with_numbered m.processes p moved) p before-it ≡ m.processes
    stacks-back = set-again m.processes (p - 1) moved before-it ∙ sym (set-same m.processes p before-it levels.kept)

    pub restored-taken : snapshot_restored after cells (saved_of levels cells) ≡ m
    restored-taken =
        (λ i. record m {
          arena = record { contents = there (frame_under m.nodes (level i).key).first; holes = m.arena.holes };
          processes = with_numbered (with_numbered m.processes p moved) p (stack_with (record (level i) { index = levels.level.index }) (below i) levels.operands (pending i));
        })
        ∙ (λ i. record m { arena = record { contents = cells-back i; holes = m.arena.holes }; processes = stacks-back i })

-- whatever operands it has since
pub restored-moved : IsUndone → (program : Units) {m new : Snapshot} {p : ℕ} (levels : HasLevels m p) (after : HasLevels new p) (s : SegmentValue) (cells : List ℕ) → AreOf cells s.records → IsSameButTop program p (snapshot_taken levels s) new
    → snapshot_restored after cells (saved_of levels cells) ≡ m
unfolding taken
restored-moved undone program {m} {new} {p} levels after s cells of but-top =
    let came = but-top (taken undone levels s cells of) in
    let later : SegmentValue = record s { end_operands = came.0; end_index = came.1 } in
    let gone = stack_with (record levels.level { index = s.end_index }) levels.below s.end_operands levels.pending in
    let on = stack_with (record levels.level { index = came.1 }) levels.below came.0 levels.pending in
    let is : new ≡ snapshot_taken levels later = came.2 ∙ (λ i. record (snapshot_taken levels s) { processes = set-again m.processes (p - 1) gone on i }) in
    let all : (n : Snapshot) → snapshot_taken levels later ≡ n → (here : HasLevels n p) → snapshot_restored here cells (saved_of levels cells) ≡ m =
    λ n is. subst (λ n. (here : HasLevels n p) → snapshot_restored here cells (saved_of levels cells) ≡ m) is (λ here. restored-taken undone levels later cells of here) in
    all new (sym is) after
