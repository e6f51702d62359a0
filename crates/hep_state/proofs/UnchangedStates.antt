-- A machine that keeps what it kept: where only room was made, or what a CALL gives was written.
use Rattle.std.proofs.Common.{◌≡◌, ◌⊎◌, inl, inr, ℕ, ◌+◌, ◌-◌, ◌∷◌, ◌++◌, [], Some, None, arith, refl, List, Result, Ok, Err, drop, sym, ap, ◌∙◌, subst, IfErr, OnErr, slice_get, slice_set, length}
use Rattle.std.specs.List.{filter}
use Rattle.std.specs.Result.{IsErr, IsErrAnd}
use Rattle.std.proofs.lemmas.Option.{same_Some}
use Rattle.std.proofs.lemmas.Result.{err_from_is_err_and}
use Rattle.hep_machine.specs.Words.{Units, Value, numbered}
use Rattle.hep_binding.proofs.Calls.{set-numbered}
use Rattle.hep_blocked.specs.Numbers.{AreRising}
pub use Rattle.hep_state.proofs.CarriedOperands.{carry}
use Rattle.hep_state.specs.declared.core_state.CoreState.{CoreState}
use Rattle.hep_proc.specs.declared.process.Local.{Local}
use Rattle.hep_proc.specs.declared.process.Process.{Process}
use Rattle.hep_proc.specs.Stacks.{Stack, is_left, stack_with}
use Rattle.hep_state.specs.declared.turn.TurnOutcome.TheVariants.{Stepped}
use Rattle.hep_state.specs.declared.turn.TurnFault.{TurnFault}
use Rattle.hep_state.specs.declared.turn.TurnFault.TheVariants.{NoMemory}
use Rattle.hep_state.specs.Words.{AreNumbered, Changes, HasStepped, HasLevels, HasSettledTop, HasTurned, HasRoom, HasRoomToPass, HaveRoom, IsMachineAfter, ShowsSame, Snapshot, numbers_of, snapshot_of, stacks_of, IsAfter, IsSameButTop, IsSeenSame, IsSettled, KeepsRoomOf, KeepsState, LeavesAlone, LeavesSame, with_stack}
use Rattle.hep_state.proofs.ProcessNumbers.{got-left, left-stacks, length-stacks, numbers-left, numbers-more}
use Rattle.hep_state.proofs.Processes.{IsAt, all-more, all-set, numbered-set, numbers-still}
use Rattle.hep_state.proofs.Runs.{set-again, set-same}

-- ---- answers

-- memory was refused
pub without-memory : {A : Type 0} (P : TurnFault → Type 0) (r : Result A TurnFault) → IsErrAnd r (λ e. e ≡ NoMemory) → P NoMemory → IfErr r P
without-memory P r h given = let told = err_from_is_err_and r h in subst (λ x. IfErr x P) (sym (told.1 ∙ ap Err told.2)) given

-- what holds holds where a result is an error
pub on-err : {A E P : Type 0} (r : Result A E) → IsErr r → P → OnErr r P
on-err (Err e) h given = given
on-err (Ok x) h given = absurd cc

-- ---- machines

pub rooms-of : (program : Units) (cells : ℕ) (choices : List ℕ) (m : CoreState) → IsMachineAfter program cells choices m → HaveRoom program cells m
rooms-of program cells choices m h = record { few = h.few; to_pass = h.to_pass; room = h.room; numbers = h.numbers }

pub machine-of : (program : Units) (cells : ℕ) (choices : List ℕ) (m : CoreState) → IsAfter program cells choices (snapshot_of m) → HaveRoom program cells m → IsMachineAfter program cells choices m
machine-of program cells choices m after rooms = record { after = after; few = rooms.few; to_pass = rooms.to_pass; room = rooms.room; numbers = rooms.numbers }

-- in which one process has another stack, and the same number
pub rooms-set : (program : Units) (cells : ℕ) (old new : CoreState) {p at : ℕ} {k : Stack} {q : Process} (r : Process) → IsAt old.processes.items p at k q → r.number ≡ q.number
    → new.processes.items ≡ slice_set old.processes.items at r → new.made ≡ old.made → new.passing ≡ old.passing → HasRoom program r → HaveRoom program cells old → HaveRoom program cells new
rooms-set program cells old new {p} {at} r it same set made passing room h =
    record {
      few = h.few;
      to_pass = subst (HasRoomToPass program) (sym passing) h.to_pass;
      room = λ i z e. all-set (HasRoom program) old.processes.items at r h.room room i z (ap (λ qs. slice_get qs i) (sym set) ∙ e);
      numbers = subst (λ n. AreRising 1 n (numbers_of new.processes.items)) (sym made) (subst (λ qs. AreRising 1 old.made (numbers_of qs)) (sym set) (numbered-set old p r h.numbers it same));
    }

-- in which there is one process more, with the next number
pub rooms-more : (program : Units) (cells : ℕ) (old new : CoreState) (rs : List Process) (r : Process) → new.processes.items ≡ rs ++ r ∷ [] → new.made ≡ old.made + 1 → r.number ≡ old.made + 1 → new.passing ≡ old.passing
    → AreRising 1 old.made (numbers_of rs) → ((i : ℕ) (q : Process) → slice_get rs i ≡ Some q → HasRoom program q) → HasRoom program r → HaveRoom program cells old → HaveRoom program cells new
rooms-more program cells old new rs r more made next passing numbers others own h =
    record {
      few = h.few;
      to_pass = subst (HasRoomToPass program) (sym passing) h.to_pass;
      room = λ i q e. all-more (HasRoom program) rs r others own i q (ap (λ qs. slice_get qs i) (sym more) ∙ e);
      numbers = subst (λ n. AreRising 1 n (numbers_of new.processes.items)) (next ∙ sym made) (
          subst (λ qs. AreRising 1 r.number (numbers_of qs)) (sym more) (numbers-more 1 old.made rs r numbers (omega (arith, next)) (omega (arith, next))));
    }

-- in which at most those went of which nothing is left
abbrev pub AreLeft : CoreState → CoreState → Type 0
AreLeft old new = (new.processes.items ≡ old.processes.items) ⊎ (new.processes.items ≡ filter is_left old.processes.items)

pub shows-left : (old new : CoreState) → AreNumbered old → AreLeft old new → new ≡ record old { processes = new.processes } → ShowsSame old new
shows-left old new numbers left others =
    record {
      shown = ap snapshot_of others ∙ (λ i. record (snapshot_of old) { processes = stacks left i });
      made = ap (λ (m : CoreState). m.made) others;
      passing = ap (λ (m : CoreState). m.passing) others;
      rooms = λ program cells h. subst (HaveRoom program cells) (sym others) (
          record { few = h.few; to_pass = h.to_pass; room = room program h left; numbers = rise h.numbers left });
    }
  where
    stacks : AreLeft old new → stacks_of new.processes.items old.made ≡ stacks_of old.processes.items old.made
    stacks (inl same) = ap (λ qs. stacks_of qs old.made) same
    stacks (inr fewer) = ap (λ qs. stacks_of qs old.made) fewer ∙ left-stacks old.processes.items old.made numbers

    rise : AreNumbered old → AreLeft old new → AreRising 1 old.made (numbers_of new.processes.items)
    rise h (inl same) = subst (λ qs. AreRising 1 old.made (numbers_of qs)) (sym same) h
    rise h (inr fewer) = subst (λ qs. AreRising 1 old.made (numbers_of qs)) (sym fewer) (numbers-left 1 old.made old.processes.items h)

    room : (program : Units) {cells : ℕ} → HaveRoom program cells old → AreLeft old new → (i : ℕ) (q : Process) → slice_get new.processes.items i ≡ Some q → HasRoom program q
    room program h (inl same) i q e = h.room i q (ap (λ qs. slice_get qs i) (sym same) ∙ e)
    room program h (inr fewer) i q e = let was = got-left old.processes.items i q (ap (λ qs. slice_get qs i) (sym fewer) ∙ e) in h.room was.0 q was.1

-- in which room was made
pub machine-reserved : (program : Units) (cells : ℕ) (choices : List ℕ) (old new : CoreState) → snapshot_of new ≡ snapshot_of old → (HaveRoom program cells old → HaveRoom program cells new) → IsMachineAfter program cells choices old → IsMachineAfter program cells choices new
machine-reserved program cells choices old new shown rooms h = machine-of program cells choices new (subst (IsAfter program cells choices) (sym shown) h.after) (rooms (rooms-of program cells choices old h))

-- in which an activation has begun
pub rooms-begun : (program : Units) (cells : ℕ) (old new : CoreState) → new ≡ record old { frames = new.frames; activations = old.activations + 1 } → HaveRoom program cells old → HaveRoom program cells new
rooms-begun program cells old new others h = subst (HaveRoom program cells) (sym others) (record { few = h.few; to_pass = h.to_pass; room = h.room; numbers = h.numbers })

-- another one that shows the same, with the same processes and the same room to pass
pub machine-same : (program : Units) (cells : ℕ) (choices : List ℕ) (old new : CoreState) → snapshot_of new ≡ snapshot_of old → new.processes ≡ old.processes → new.made ≡ old.made → new.passing ≡ old.passing → IsMachineAfter program cells choices old → IsMachineAfter program cells choices new
machine-same program cells choices old new shown processes made passing h =
    record {
      after = subst (IsAfter program cells choices) (sym shown) h.after;
      few = h.few;
      to_pass = subst (HasRoomToPass program) (sym passing) h.to_pass;
      room = λ i q e. h.room i q (ap (λ qs. slice_get qs i) (ap (λ v. v.items) (sym processes)) ∙ e);
      numbers = numbers-still old new (ap (λ v. v.items) processes) made h.numbers;
    }

-- records and faults stay, with other room
pub shown-written : (old new : CoreState) → new ≡ record old { records = new.records; faults = new.faults } → new.records.items ≡ old.records.items → new.faults.items ≡ old.faults.items → snapshot_of new ≡ snapshot_of old
shown-written old new others records faults = ap snapshot_of others ∙ (λ i. record (snapshot_of old) { records = records i; faults = faults i })

pub machine-written : (program : Units) (cells : ℕ) (choices : List ℕ) (old new : CoreState) → new ≡ record old { records = new.records; faults = new.faults } → new.records.items ≡ old.records.items → new.faults.items ≡ old.faults.items
    → IsMachineAfter program cells choices old → IsMachineAfter program cells choices new
machine-written program cells choices old new others records faults =
    machine-same program cells choices old new (shown-written old new others records faults) (ap (λ (m : CoreState). m.processes) others) (ap (λ (m : CoreState). m.made) others) (ap (λ (m : CoreState). m.passing) others)

-- with the room that there was
pub rooms-written : (program : Units) (cells : ℕ) (old new : CoreState) → new ≡ record old { records = new.records; faults = new.faults } → HaveRoom program cells old → HaveRoom program cells new
rooms-written program cells old new others h = subst (HaveRoom program cells) (sym others) (record { few = h.few; to_pass = h.to_pass; room = h.room; numbers = h.numbers })

-- ---- machines that are seen as others

pub seen-shown : (old new : Snapshot) → new ≡ old → IsSeenSame old new
seen-shown old new shown =
    record {
      arena = ap (λ (n : Snapshot). n.arena) shown;
      nodes = ap (λ (n : Snapshot). n.nodes) shown;
      processes = ap (λ (n : Snapshot). length n.processes) shown;
      activations = ap (λ (n : Snapshot). n.activations) shown;
      records = ap (λ (n : Snapshot). n.records) shown;
      faults = ap (λ (n : Snapshot). n.faults) shown;
      halted = ap (λ (n : Snapshot). n.halted) shown;
    }

-- of three, one after the other
pub seen-again : (old mid new : Snapshot) → IsSeenSame old mid → IsSeenSame mid new → IsSeenSame old new
seen-again old mid new h k =
    record {
      arena = k.arena ∙ h.arena;
      nodes = k.nodes ∙ h.nodes;
      processes = k.processes ∙ h.processes;
      activations = k.activations ∙ h.activations;
      records = k.records ∙ h.records;
      faults = k.faults ∙ h.faults;
      halted = k.halted ∙ h.halted;
    }

front-of : Local → List Local → Local
front-of l [] = l
front-of l (k ∷ ks) = k

-- whichever levels it has, they are the same
pub levels-same : {m : Snapshot} {p : ℕ} (h k : HasLevels m p) → (h.level ≡ k.level) × (h.below ≡ k.below) × (h.operands ≡ k.operands) × (h.pending ≡ k.pending)
unfolding front-of
levels-same h k =
    let same = same_Some (stack_with h.level h.below h.operands h.pending) (stack_with k.level k.below k.operands k.pending) (sym h.kept ∙ k.kept) in
    (ap (λ (s : Stack). front-of h.level s.levels) same, ap (λ (s : Stack). drop 1 s.levels) same, ap (λ (s : Stack). s.operands) same, ap (λ (s : Stack). s.pending) same)

-- the same, but for the operands and the index of the top activation of a process
module _ (p : ℕ) where
  pub top-settled : (program : Units) (old new : Snapshot) (levels : HasLevels old p) (operands : List Value) (index : ℕ)
      → new ≡ with_stack old p (record levels.level { index = index } ∷ levels.below) operands levels.pending → IsSettled program levels.level.unit levels.operands levels.level.index operands index → LeavesSame program levels.level.unit levels.operands levels.level.index operands index
      → HasSettledTop program p old new
  top-settled program old new levels operands index shown settled left before =
      let same = levels-same levels before in (
        operands,
        index,
        shown ∙ (λ i. with_stack old p (record (same.0 i) { index = index } ∷ same.1 i) operands (same.3 i)),
        carry (λ i. LeavesSame program (same.0 i).unit (same.2 i) (same.0 i).index operands index) left,
        carry (λ i. IsSettled program (same.0 i).unit (same.2 i) (same.0 i).index operands index) settled,
      )

  -- where only values were settled
  pub settled-same : (program : Units) (old new : Snapshot) → HasSettledTop program p old new → IsSameButTop program p old new
  settled-same program old new h levels = let s = h levels in (s.0, s.1, s.2, s.3)

  pub top-shown : (program : Units) (old new : Snapshot) → new ≡ old → IsSameButTop program p old new
  top-shown program old new shown levels =
      let whole = set-same old.processes p (stack_with levels.level levels.below levels.operands levels.pending) levels.kept in
      (levels.operands, levels.level.index, shown ∙ (λ i. record old { processes = whole i }), refl)

  -- of three, one after the other
  pub top-again : (program : Units) (old mid new : Snapshot) → IsSameButTop program p old mid → IsSameButTop program p mid new → IsSameButTop program p old new
  top-again program old mid new h k levels =
      let first = h levels in
      let before = stack_with levels.level levels.below levels.operands levels.pending in
      let between = stack_with (record levels.level { index = first.1 }) levels.below first.0 levels.pending in
      let later : HasLevels mid p =
      record {
        level = record levels.level { index = first.1 };
        below = levels.below;
        operands = first.0;
        pending = levels.pending;
        kept = ap (λ (m : Snapshot). numbered m.processes p) first.2 ∙ set-numbered old.processes p before between levels.kept;
      } in
      let last = k later in
      let after = stack_with (record levels.level { index = last.1 }) levels.below last.0 levels.pending in (
        last.0,
        last.1,
        last.2
            ∙ ap (λ (m : Snapshot). with_stack m p (record levels.level { index = last.1 } ∷ levels.below) last.0 levels.pending) first.2
            ∙ (λ i. record old { processes = set-again old.processes (p - 1) between after i }),
        last.3 ∙ first.3,
      )

-- as many processes
pub as-many : (old new : CoreState) → IsSeenSame (snapshot_of old) (snapshot_of new) → new.made ≡ old.made
as-many old new h = sym (length-stacks new.processes.items 1 new.made) ∙ (h.processes ∙ length-stacks old.processes.items 1 old.made)

-- one that shows the same, with the room that there was
pub alone : (program : Units) (p : ℕ) (old new : CoreState) → snapshot_of new ≡ snapshot_of old → KeepsRoomOf program old new → LeavesAlone program p old new
alone program p old new shown rooms =
    let same = seen-shown (snapshot_of old) (snapshot_of new) shown in
    record {
      after = λ cells choices h. machine-reserved program cells choices old new shown (rooms cells) h;
      same = same;
      top = top-shown p program (snapshot_of old) (snapshot_of new) shown;
      made = as-many old new same;
    }

-- one that is left alone after it was seen the same, but for the top of a process
pub alone-after : (program : Units) (p : ℕ) (old mid new : CoreState) → KeepsState program old mid → IsSeenSame (snapshot_of old) (snapshot_of mid) → IsSameButTop program p (snapshot_of old) (snapshot_of mid)
    → LeavesAlone program p mid new → LeavesAlone program p old new
alone-after program p old mid new keeps same top h =
    record {
      after = λ cells choices before. h.after cells choices (keeps cells choices before);
      same = seen-again (snapshot_of old) (snapshot_of mid) (snapshot_of new) same h.same;
      top = top-again p program (snapshot_of old) (snapshot_of mid) (snapshot_of new) top h.top;
      made = h.made ∙ as-many old mid same;
    }

-- ---- a step that filled and emptied nothing

pub turned-so : (program : Units) (cells : ℕ) (choices : List ℕ) (p : ℕ) (new : CoreState) → Changes program cells choices p None → HasStepped program cells choices p (snapshot_of new) → HaveRoom program cells new → HasTurned program cells choices p (Stepped None) new
turned-so program cells choices p new unchanged stepped rooms = (stepped.stepped, machine-of program cells (choices ++ p ∷ []) new stepped.after rooms, unchanged)
