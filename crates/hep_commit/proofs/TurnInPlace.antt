-- A turn in place, or a run: the machine behind its private steps, at its end, and with all put back.
use Rattle.std.proofs.Common.{◌≡◌, ◌⊎◌, inl, inr, ℕ, suc, ◌+◌, ◌-◌, ◌≤◌, Bool, true, false, true≢false, length, OnOk, Result, Ok, Err, refl, sym, ap, ◌∙◌, subst, arith}
use Rattle.std.specs.Result.{is_err}
use Rattle.hep_machine.specs.Words.{Units}
use Rattle.hep_code.specs.Words.{deepest}
use Rattle.hep_step.specs.Simulation.{unit_code}
use Rattle.hep_advance.specs.SilentRuns.{MakesMoves}
use Rattle.hep_proc.specs.Stacks.{stack_with}
use Rattle.hep_private.specs.declared.ticket.TicketId.{TicketId}
use Rattle.hep_private.specs.Segments.{SegmentValue, is_next_private, most_records}
use Rattle.hep_state.specs.declared.core_state.CoreState.{CoreState}
use Rattle.hep_state.specs.Words.{HasLevels, IsAfter, IsItsTurn, IsSameButTop, KeepsRoom, LivesOn, Snapshot, snapshot_of}
use Rattle.hep_state.proofs.OtherProcesses.{beside-again, beside-with}
use Rattle.hep_state.proofs.UnchangedStates.{machine-of, rooms-of}
use Rattle.hep_advance.proofs.SilentTurns.{more-made}
use Rattle.hep_commit.specs.SegmentStarts.{snapshot_taken, start_in}
use Rattle.hep_commit.specs.OwnCells.{own_cells_of}
use Rattle.hep_commit.specs.UndoLogs.{UndoLogValue, snapshot_restored}
use Rattle.hep_commit.specs.Application.{CanTake, HasMadePrivate, HasRestored, HasTakenIn, IsNextPrivateIn, IsSavedOf}
use Rattle.hep_commit.specs.TurnsInPlace.{ArePrivateIn, IsAsBefore, IsEndBehind, IsMadeInPlace, IsMadeOfRecords, are_private}
use Rattle.hep_commit.proofs.AfterSegments.{AreAsBefore, few-operands, levels-left, levels-taken, private-taken, same-start, unit-left, unit-taken}
use Rattle.hep_commit.proofs.AppliedSegments.{AreTurnsIn}

-- ---- private steps were made

module _ (program : Units) (s : SegmentValue) (old mid : CoreState) (n : ℕ) (can : CanTake program s old) (taken : HasTakenIn s old mid) (moves : MakesMoves program s.id.process old n mid) (others : mid ≡ record old { frames = mid.frames; processes = mid.processes }) where
  abbrev p : ℕ
  p = s.id.process

  abbrev levels : HasLevels (snapshot_of old) p
  levels = can.turn.living

  -- it is its turn still
  turn-mid : IsItsTurn program p mid
  turn-mid =
      let h = can.turn.after in
      let came = moves h.0 h.1 h.2 in
      record {
        after = (h.0, came.0, came.2);
        running = ap (λ (m : CoreState). m.halted) others ∙ can.turn.running;
        living = subst (λ m. HasLevels m p) (sym (taken levels)) (levels-taken levels s);
      }

  -- whether the next step is private
  whether-private : AreTurnsIn program → (b : Bool) → IsNextPrivateIn b program p mid → b ≡ are_private program (start_in can.turn.living) (suc (length s.records))
  whether-private laws b next =
      subst (λ (z : Snapshot). (there : HasLevels z p) → b ≡ is_next_private program (start_in there)) (taken levels) next (levels-taken levels s)
      ∙ private-taken laws can.turn.after.2.few can.turn.after.2.after can.turn.running levels s can.made

  -- where it is, one more of them is
  one-more : AreTurnsIn program → length s.records ≡ n → IsNextPrivateIn true program p mid → ArePrivateIn program p old (suc n)
  one-more laws many next there =
      (λ j. are_private program (same-start there levels j) (suc (sym many j))) ∙ sym (whether-private laws true next)

  -- the turn that ends so
  in-place : AreTurnsIn program → length s.records ≡ n → (total : ℕ) → IsEndBehind program p mid n total → IsMadeOfRecords program old total s
  in-place laws many total ended = record { can = can; some = omega (arith, many, ended.0); total = by ended.1 } where
    by : ((total ≡ suc n) × IsNextPrivateIn false program p mid) ⊎ ((total ≡ n) × (n ≡ most_records) × IsNextPrivateIn true program p mid)
        → ((total ≡ suc (length s.records)) × (are_private program (start_in can.turn.living) (suc (length s.records)) ≡ false)) ⊎ ((total ≡ length s.records) × (length s.records ≡ most_records) × (are_private program (start_in can.turn.living) (suc (length s.records)) ≡ true))
    by (inl h) = inl (h.0 ∙ ap suc (sym many), sym (whether-private laws false h.1))
    by (inr h) = inr (h.0 ∙ sym many, many ∙ h.1, sym (whether-private laws true h.2))

  module _ (new : CoreState) (lives : LivesOn p 0 mid new) where
    lives-still : LivesOn p 0 old new
    lives-still =
        let was = stack_with levels.level levels.below levels.operands levels.pending in
        let came = stack_with (record levels.level { index = s.end_index }) levels.below s.end_operands levels.pending in
        let many : mid.activations ≡ old.activations = ap (λ (m : CoreState). m.activations) others in
        record {
          living = lives.living;
          running = lives.running ∙ ap (λ (m : CoreState). m.halted) others;
          made = lives.made ∙ ap (λ (m : CoreState). m.made) others;
          counted = omega (arith, lives.counted, many);
          others = beside-again p (snapshot_of old) (snapshot_of mid) (snapshot_of new) (beside-with p (snapshot_of old) (snapshot_of mid) was came levels.kept (ap (λ (m : Snapshot). m.processes) (taken levels))) lives.others;
        }

    -- ---- no turn came of it

    module _ (still : MakesMoves program p mid 0 new) (top : IsSameButTop program p (snapshot_of mid) (snapshot_of new)) where
      turn-new : IsItsTurn program p new
      turn-new =
          let h = turn-mid.after in
          let came = still h.0 h.1 h.2 in
          record { after = (h.0, came.0, came.2); running = lives.running ∙ turn-mid.running; living = lives.living }

      but-top : IsSameButTop program p (snapshot_taken levels s) (snapshot_of new)
      but-top = subst (λ m. IsSameButTop program p m (snapshot_of new)) (taken levels) top

      unit-undone : (there : HasLevels (snapshot_of new) p) → there.level.unit ≡ levels.level.unit
      unit-undone there = unit-left program (levels-taken levels s) there but-top ∙ unit-taken levels s

      module _ (saved : UndoLogValue) (is : IsSavedOf program p old saved) where
        room-new : length saved.operands ≤ deepest (unit_code program turn-new.living.level.unit)
        room-new =
            let few = few-operands can.turn in
            omega (arith, few, ap (λ (v : UndoLogValue). length v.operands) (is levels), ap (λ u. deepest (unit_code program u)) (unit-undone turn-new.living))

        module _ (law : AreAsBefore) (restored : CoreState) (put : HasRestored program p saved new restored) (rooms : KeepsRoom new restored) (same : restored.made ≡ new.made) where
          shown : snapshot_of restored ≡ snapshot_of old
          shown =
              let there = levels-left program (levels-taken levels s) but-top in
              put there
              ∙ (λ j. snapshot_restored there (own_cells_of program (unit-undone there j)) (is levels j))
              ∙ law program (snapshot_of old) (snapshot_of new) p s levels there can.made but-top

          as-before : IsAsBefore program old restored
          as-before =
              record {
                shown = shown;
                kept = λ cells choices h.
                    let first = moves cells choices h in
                    let then = still cells first.0 first.2 in
                    machine-of program cells choices restored (subst (IsAfter program cells choices) (sym shown) h.after) (rooms program cells (rooms-of program cells then.0 new then.2));
                made = same ∙ (lives.made ∙ ap (λ (m : CoreState). m.made) others);
              }

-- ---- by the process's own number

-- what was kept of it, where no memory was refused
pub kept-now : {A E : Type 0} (program : Units) (p : ℕ) (old new : CoreState) (saved : UndoLogValue) (r : Result A E) → false ≡ is_err r → OnOk r (IsSavedOf program p old saved) → new ≡ old → IsSavedOf program p new saved
kept-now program p old new saved (Ok x) given kept same = subst (λ m. IsSavedOf program p m saved) (sym same) kept
kept-now program p old new saved (Err e) given kept same = absurd (true≢false (sym given))

-- no step was made
pub none-more : (program : Units) (p n total : ℕ) (old new : CoreState) → total ≡ 0 → MakesMoves program p old (total - n) new → MakesMoves program p old 0 new
none-more program p n total old new zero moves = let none : total - n ≡ 0 = omega (arith, zero) in subst (λ k. MakesMoves program p old k new) none moves

-- a ticket of it
abbrev any-ticket : ℕ → TicketId
any-ticket p = record { number = 0; process = p }

module _ (program : Units) (p : ℕ) (old mid : CoreState) (n : ℕ) (made : HasMadePrivate program p old n mid) (moves : MakesMoves program p old n mid) (others : mid ≡ record old { frames = mid.frames; processes = mid.processes }) where
  module _ (id : TicketId) (of : id.process ≡ p) where
    abbrev one : SegmentValue
    one = (made id of).0

    abbrev own : one.id.process ≡ p
    own = ap (λ (i : TicketId). i.process) (made id of).1 ∙ of

    abbrev own-moves : MakesMoves program one.id.process old n mid
    own-moves = subst (λ k. MakesMoves program k old n mid) (sym own) moves

    made-one : AreTurnsIn program → (total : ℕ) → IsEndBehind program p mid n total → (s : SegmentValue) × (s.id ≡ id) × IsMadeOfRecords program old total s
    made-one laws total ended = (
      one,
      (made id of).1,
      in-place program one old mid n (made id of).3 (made id of).4 own-moves others laws (made id of).2 total (subst (λ k. IsEndBehind program k mid n total) (sym own) ended),
    )

  pub in-place-of : AreTurnsIn program → (total : ℕ) → IsEndBehind program p mid n total → IsMadeInPlace program p old total
  in-place-of laws total ended id of = made-one id of laws total ended

  pub moves-all : (new : CoreState) (total : ℕ) → IsEndBehind program p mid n total → MakesMoves program p mid (total - n) new → MakesMoves program p old total new
  moves-all new total ended more =
      let long : n + (total - n) ≡ total = by ended.1 in
      subst (λ k. MakesMoves program p old k new) long (more-made program p old mid new n (total - n) moves more)
    where
      by : ((total ≡ suc n) × IsNextPrivateIn false program p mid) ⊎ ((total ≡ n) × (n ≡ most_records) × IsNextPrivateIn true program p mid) → n + (total - n) ≡ total
      by (inl h) = omega (arith, h.0)
      by (inr h) = omega (arith, h.0)

  abbrev s : SegmentValue
  s = one (any-ticket p) refl

  abbrev its : s.id.process ≡ p
  its = own (any-ticket p) refl

  abbrev can : CanTake program s old
  can = (made (any-ticket p) refl).3

  abbrev taken : HasTakenIn s old mid
  taken = (made (any-ticket p) refl).4

  abbrev its-moves : MakesMoves program s.id.process old n mid
  its-moves = own-moves (any-ticket p) refl

  pub turn-behind : IsItsTurn program p mid
  turn-behind = subst (λ k. IsItsTurn program k mid) its (turn-mid program s old mid n can taken its-moves others)

  pub private-behind : AreTurnsIn program → IsNextPrivateIn true program p mid → ArePrivateIn program p old (suc n)
  private-behind laws next =
      let many = (made (any-ticket p) refl).2 in
      subst (λ k. ArePrivateIn program k old (suc n)) its (
      one-more program s old mid n can taken its-moves others laws many (subst (λ k. IsNextPrivateIn true program k mid) (sym its) next))

  pub lives-behind : (new : CoreState) → LivesOn p 0 mid new → LivesOn p 0 old new
  lives-behind new lives =
      subst (λ k. LivesOn k 0 old new) its (lives-still program s old mid n can taken its-moves others new (subst (λ k. LivesOn k 0 mid new) (sym its) lives))

  module _ (new : CoreState) (lives : LivesOn p 0 mid new) (still : MakesMoves program p mid 0 new) (top : IsSameButTop program p (snapshot_of mid) (snapshot_of new)) (saved : UndoLogValue) (is : IsSavedOf program p old saved) where
    abbrev its-lives : LivesOn s.id.process 0 mid new
    its-lives = subst (λ k. LivesOn k 0 mid new) (sym its) lives

    abbrev its-still : MakesMoves program s.id.process mid 0 new
    its-still = subst (λ k. MakesMoves program k mid 0 new) (sym its) still

    abbrev its-top : IsSameButTop program s.id.process (snapshot_of mid) (snapshot_of new)
    its-top = subst (λ k. IsSameButTop program k (snapshot_of mid) (snapshot_of new)) (sym its) top

    abbrev its-saved : IsSavedOf program s.id.process old saved
    its-saved = subst (λ k. IsSavedOf program k old saved) (sym its) is

    -- it can be put back
    pub turn-there : (turn : IsItsTurn program p new) × (length saved.operands ≤ deepest (unit_code program turn.living.level.unit))
    turn-there =
        subst (λ k. (turn : IsItsTurn program k new) × (length saved.operands ≤ deepest (unit_code program turn.living.level.unit))) its (
          turn-new program s old mid n can taken its-moves others new its-lives its-still its-top,
          room-new program s old mid n can taken its-moves others new its-lives its-still its-top saved its-saved,
        )

    pub all-as-before : AreAsBefore → (restored : CoreState) → HasRestored program p saved new restored → KeepsRoom new restored → restored.made ≡ new.made → IsAsBefore program old restored
    all-as-before law restored put rooms same =
        as-before program s old mid n can taken its-moves others new its-lives its-still its-top saved its-saved law restored (subst (λ k. HasRestored program k saved new restored) (sym its) put) rooms same
