-- Turns that are made for an observer: what is left of them, and what it knows.
use Rattle.std.proofs.Common.{◌≡◌, ℕ, suc, ◌+◌, ◌-◌, ◌≤◌, Bool, List, [], ◌∷◌, ◌++◌, drop, length, length-append, replicate, take, IsSome, refl, sym, ap, ◌∙◌, subst, arith, append_assoc}
use Rattle.std.proofs.lemmas.List.{length-map}
use Rattle.hep_advance.proofs.RunsToBreakpoint.{run-on, turns-are}
use Rattle.hep_advance.specs.SilentRuns.{MakesMoves}
use Rattle.hep_fast.specs.declared.decoded_image.DecodedImage.{DecodedImage}
use Rattle.hep_layout.proofs.HeldFrames.{opening-is}
use Rattle.hep_machine.specs.declared.event.Entry.{Entry}
use Rattle.hep_machine.specs.Words.{AreSteps, State, Units, is_held, layout_of, opening, run, run_from, schedule_of, state_after_turn}
use Rattle.hep_state.proofs.Runs.{laid-before}
use Rattle.hep_state.specs.declared.core_state.CoreState.{CoreState}
use Rattle.hep_state.specs.Words.{IsMachineAfter}
use Rattle.hep_fold.specs.declared.replay_machine.ReplayMachine.{ReplayMachine}
use Rattle.hep_fold.specs.declared.turn_row.TurnRow.{TurnRow}
use Rattle.hep_fold.specs.declared.history_range.HistoryRange.{HistoryRange}
use Rattle.hep_fold.specs.Folds.{CanFold, Folds, IsFolding, entries_before, entries_until, seen_within}
use Rattle.hep_fold.specs.Observers.{AreTurnsAhead, IsMade, IsUnderWay, Replay, later_row, row_turns}
use Rattle.hep_fold.specs.ReplayMachines.{CanGoAgain, CanTurnAgain, HasGoneAgain, made_by}
use Rattle.hep_fold.specs.Turns.{number_after, processes, seen_along, turns_from, turns_in_row}
use Rattle.hep_fold.proofs.TurnRows.{processes-append, row-processes, row-split, schedule-many}

-- ---- turns after others

module _ (program : Units) where
  -- they are steps from the state after those
  pub steps-behind : (s : State) (ps qs : List ℕ) → AreSteps program s (ps ++ qs) → AreSteps program (run_from program s ps) qs
  unfolding run_from
  steps-behind s [] qs h = h
  steps-behind s (p ∷ ps) qs h = steps-behind (state_after_turn program p s) ps qs h.1

  -- what is known along all of them
  pub seen-behind : {S : Type 0} (see : ℕ → ℕ → State → S → S) (s : State) (ts us : List (ℕ × ℕ)) (seen : S)
      → seen_along program see s (ts ++ us) seen
      ≡ seen_along program see (run_from program s (processes ts)) us (seen_along program see s ts seen)
  unfolding seen_along run_from
  seen-behind see s [] us seen = refl
  seen-behind see s (t ∷ ts) us seen = seen-behind see (state_after_turn program t.1 s) ts us (see t.0 t.1 s seen)

  pub seen-one : {S : Type 0} (see : ℕ → ℕ → State → S → S) (s : State) (entry p : ℕ) (seen : S)
      → seen_along program see s ((entry, p) ∷ []) seen ≡ see entry p s seen
  unfolding seen_along
  seen-one see s entry p seen = refl

  pub seen-none : {S : Type 0} (see : ℕ → ℕ → State → S → S) (s : State) (seen : S) → seen_along program see s [] seen ≡ seen
  unfolding seen_along
  seen-none see s seen = refl

  -- along turns in a row, and more of them
  pub seen-row : {S : Type 0} (see : ℕ → ℕ → State → S → S) (s : State) (apart : Bool) (entry p n m : ℕ) (seen : S)
      → seen_along program see s (turns_in_row apart entry p (n + m)) seen
      ≡ seen_along program see (run_from program s (replicate n p)) (turns_in_row apart (number_after apart entry n) p m)
      (seen_along program see s (turns_in_row apart entry p n) seen)
  seen-row see s apart entry p n m seen =
      let left : n + m - n ≡ m = omega arith in
      let first = turns_in_row apart entry p n in
      let more = turns_in_row apart (number_after apart entry n) p m in
      ap (λ ts. seen_along program see s ts seen) (
      row-split apart n (n + m) entry p (omega arith) ∙ ap (λ k. first ++ turns_in_row apart (number_after apart entry n) p k) left)
      ∙ seen-behind see s first more seen
      ∙ ap (λ ps. seen_along program see (run_from program s ps) more (seen_along program see s first seen)) (row-processes apart n entry p)

  -- and the next one
  pub seen-row-next : {S : Type 0} (see : ℕ → ℕ → State → S → S) (s : State) (apart : Bool) (entry p n : ℕ) (seen : S)
      → seen_along program see s (turns_in_row apart entry p (suc n)) seen
      ≡ see (number_after apart entry n) p (run_from program s (replicate n p)) (seen_along program see s (turns_in_row apart entry p n) seen)
  seen-row-next see s apart entry p n seen =
      let one : suc n ≡ n + 1 = omega arith in
      ap (λ k. seen_along program see s (turns_in_row apart entry p k) seen) one
      ∙ seen-row see s apart entry p n 1 seen
      ∙ seen-one see (run_from program s (replicate n p)) (number_after apart entry n) p
      (seen_along program see s (turns_in_row apart entry p n) seen)

  -- a machine after the first turns that were left
  pub under-behind : (replay : Replay) (made : List ℕ) (all front left : List (ℕ × ℕ)) (m n : CoreState) → all ≡ front ++ left
      → IsUnderWay program replay made all m
      → IsMachineAfter program replay.cells (made ++ processes front) n → IsUnderWay program replay (made ++ processes front) left n
  under-behind replay made all front left m n split h after =
      let parts : processes all ≡ processes front ++ processes left = ap processes split ∙ processes-append front left in
      record {
        after = after;
        turns = h.turns ∙ ap (λ ps. made ++ ps) parts ∙ sym (append_assoc made (processes front) (processes left));
        steps = subst (λ (s : State). AreSteps program s (processes left)) (sym (run-on program made (processes front))) (
            steps-behind (run program made) (processes front) (processes left) (subst (AreSteps program (run program made)) parts h.steps));
        laid = h.laid;
        few = h.few;
      }

-- ---- turns in a row

module _ (row : TurnRow) (left : List (ℕ × ℕ)) where
  -- those after the first n, and the turns after the row
  abbrev pub left_of_row : ℕ → List (ℕ × ℕ)
  left_of_row n = row_turns (later_row row n) ++ left

  pub row-parts : (n : ℕ) → n ≤ row.count → row_turns row ++ left ≡ turns_in_row row.apart row.entry row.process n ++ left_of_row n
  row-parts n few =
      ap (λ ts. ts ++ left) (row-split row.apart n row.count row.entry row.process few)
      ∙ append_assoc (turns_in_row row.apart row.entry row.process n) (row_turns (later_row row n)) left

  -- where none was made, the first one comes next
  pub row-unmade : (n : ℕ) → n ≡ 0 → 1 ≤ row.count → left_of_row n ≡ (row.entry, row.process) ∷ left_of_row 1
  row-unmade n none some = ap left_of_row none ∙ sym (row-parts 0 (omega arith)) ∙ row-parts 1 some

  -- a machine after the first n turns of the row, which only move their process
  pub row-under-way : (program : Units) (replay : Replay) (made : List ℕ) (old new : CoreState) (n : ℕ) → n ≤ row.count
      → IsUnderWay program replay made (row_turns row ++ left) old → MakesMoves program row.process old n new
      → IsUnderWay program replay (made ++ replicate n row.process) (left_of_row n) new
  row-under-way program replay made old new n few h gone =
      let p = row.process in
      let front = turns_in_row row.apart row.entry p n in
      let there = gone replay.cells made h.after in
      let same : made ++ processes front ≡ made ++ replicate n p = ap (λ ps. made ++ ps) (row-processes row.apart n row.entry p) in
      let after : IsMachineAfter program replay.cells (made ++ replicate n p) new =
      subst (λ ps. IsMachineAfter program replay.cells ps new) (turns-are program replay.cells p made n there.0 there.1) there.2 in
      subst (λ ps. IsUnderWay program replay ps (left_of_row n) new) same (
      under-behind program replay made (row_turns row ++ left) front (left_of_row n) old new (row-parts n few) h (
      subst (λ ps. IsMachineAfter program replay.cells ps new) (sym same) after))

module _ {O S : Type 0} (knows : Units → Replay → List ℕ → O → S → Type 0) (see : Units → ℕ → ℕ → State → S → S) (tabled : DecodedImage)
    (replay : Replay) (total : S) (old : ReplayMachine) (o : O) where
  abbrev program : Units
  program = tabled.image.now

  -- ---- the first of the turns that are left

  abbrev pub ahead : (all first left : List (ℕ × ℕ)) → all ≡ first ++ left → IsFolding knows see tabled replay total all old o
      → AreTurnsAhead knows program old.machine o first
  ahead all first left split h = record {
    replay = replay;
    made = made_by old;
    left = left;
    seen = h.seen;
    under_way = subst (λ (ts : List (ℕ × ℕ)). IsUnderWay program replay (made_by old) ts old.machine) split h.under_way;
    known = h.known;
  }

  -- they were made
  pub folding-behind : (all front left : List (ℕ × ℕ)) → all ≡ front ++ left
      → (h : IsFolding knows see tabled replay total all old o) (new : ReplayMachine) (n : O)
      → made_by new ≡ made_by old ++ processes front → IsMachineAfter program replay.cells (made_by new) new.machine
      → new.machine.made ≤ new.roster.room
      → knows program replay (made_by old ++ processes front) n (seen_along program (see program) (run program (made_by old)) front h.seen)
      → IsFolding knows see tabled replay total left new n
  folding-behind all front left split h new n made after room known =
      record {
        seen = seen;
        tables = h.tables;
        under_way = subst (λ ps. IsUnderWay program replay ps left new.machine) (sym made) (
            under-behind program replay (made_by old) all front left old.machine new.machine split h.under_way (
            subst (λ ps. IsMachineAfter program replay.cells ps new.machine) made after));
        numbers = room;
        known = subst (λ ps. knows program replay ps n seen) (sym made) known;
        so_far =
            ap (λ ps. seen_along program (see program) (run program ps) left seen) made
            ∙ ap (λ (s : State). seen_along program (see program) s left seen) (run-on program (made_by old) (processes front))
            ∙ sym (seen-behind program (see program) (run program (made_by old)) front left h.seen)
            ∙ ap (λ (ts : List (ℕ × ℕ)). seen_along program (see program) (run program (made_by old)) ts h.seen) (sym split)
            ∙ h.so_far;
      }
    where
      seen : S
      seen = seen_along program (see program) (run program (made_by old)) front h.seen

  -- ---- the next turn

  module _ (entry p : ℕ) (left : List (ℕ × ℕ)) (h : IsFolding knows see tabled replay total ((entry, p) ∷ left) old o) where
    pub can-turn-next : CanTurnAgain program p old
    can-turn-next = record {
      cells = replay.cells;
      after = h.under_way.after;
      numbers = h.numbers;
      few = omega (
        arith,
        h.under_way.few,
        length-map replay.turns (λ (t : ℕ × ℕ). t.1),
        ap length h.under_way.turns,
        length-append (made_by old) (p ∷ processes left),
      );
      steps = h.under_way.steps.0;
      laid = laid-before program replay.cells (made_by old ++ p ∷ []) (processes left) (
          subst (λ ps. IsSome (layout_of program replay.cells is_held ps))
          (h.under_way.turns ∙ sym (append_assoc (made_by old) (p ∷ []) (processes left))) h.under_way.laid);
    }

    pub can-go-next : CanGoAgain tabled p old
    can-go-next = record { turn = can-turn-next; tables = h.tables }

    module _ (new : ReplayMachine) (gone : HasGoneAgain program p 1 old new) where
      pub made-next : made_by new ≡ made_by old ++ p ∷ []
      made-next = ap schedule_of gone.history ∙ schedule-many old.history.items p 1

      pub after-next : IsMachineAfter program replay.cells (made_by new) new.machine
      after-next = gone.after replay.cells h.under_way.after

      -- it was made, and the observer is told
      abbrev pub made-turn : {L : Type 0} (notes : Units → Replay → List ℕ → ℕ → ℕ → O → L → Type 0) (look : L)
          → notes program replay (made_by old) entry p o look
          → IsMade knows program new.machine o notes entry p look
      made-turn notes look noted = record {
        replay = replay;
        made = made_by old;
        left = left;
        seen = h.seen;
        stepped = h.under_way.steps.0;
        under_way = under-behind program replay (made_by old) ((entry, p) ∷ left) ((entry, p) ∷ []) left old.machine new.machine refl h.under_way (
            subst (λ ps. IsMachineAfter program replay.cells ps new.machine) made-next after-next);
        known = h.known;
        noted = noted;
      }

      -- and was told
      pub folded-turn : (n : O) → knows program replay (made_by old ++ p ∷ []) n (see program entry p (run program (made_by old)) h.seen)
          → IsFolding knows see tabled replay total left new n
      folded-turn n known =
          folding-behind ((entry, p) ∷ left) ((entry, p) ∷ []) left refl h new n made-next after-next gone.numbers (
          subst (λ seen. knows program replay (made_by old ++ p ∷ []) n seen)
          (sym (seen-one program (see program) (run program (made_by old)) entry p h.seen)) known)

  -- ---- turns in a row

  module _ (row : TurnRow) (left : List (ℕ × ℕ)) where
    module _ (some : 1 ≤ row.count) (h : IsFolding knows see tabled replay total (row_turns row ++ left) old o) where
      pub can-go-row : CanGoAgain tabled row.process old
      can-go-row =
          can-go-next row.entry row.process (left_of_row row left 1) (
          subst (λ (ts : List (ℕ × ℕ)). IsFolding knows see tabled replay total ts old o) (row-parts row left 1 some) h)

      -- the first n were made at once
      pub folded-row : (n : ℕ) → n ≤ row.count → (new : ReplayMachine) (now : O) → made_by new ≡ made_by old ++ replicate n row.process
          → IsMachineAfter program replay.cells (made_by old ++ replicate n row.process) new.machine → new.machine.made ≤ new.roster.room
          → knows program replay (made_by old ++ replicate n row.process) now
          (seen_along program (see program) (run program (made_by old)) (turns_in_row row.apart row.entry row.process n) h.seen)
          → IsFolding knows see tabled replay total (left_of_row row left n) new now
      folded-row n few new now made after room known =
          let of-row : made_by old ++ replicate n row.process ≡ made_by old ++ processes (turns_in_row row.apart row.entry row.process n) =
          ap (λ ps. made_by old ++ ps) (sym (row-processes row.apart n row.entry row.process)) in
          folding-behind (row_turns row ++ left) (turns_in_row row.apart row.entry row.process n)
          (left_of_row row left n) (row-parts row left n few) h new now
          (made ∙ of-row)
          (subst (λ ps. IsMachineAfter program replay.cells ps new.machine) (sym made) after)
          room
          (subst (λ ps. knows program replay ps now (seen_along program (see program) (run program (made_by old)) (turns_in_row row.apart row.entry row.process n) h.seen)) of-row known)

-- ---- turns in parts

module _ {O S : Type 0} {knows : Units → Replay → List ℕ → O → S → Type 0} {see : Units → ℕ → ℕ → State → S → S} {tabled : DecodedImage} where
  -- the same turns are left
  pub same-left : {replay : Replay} {total : S} {again : ReplayMachine} {o : O} {ts us : List (ℕ × ℕ)} → ts ≡ us
      → IsFolding knows see tabled replay total ts again o → IsFolding knows see tabled replay total us again o
  same-left {replay} {total} {again} {o} same h = subst (λ (vs : List (ℕ × ℕ)). IsFolding knows see tabled replay total vs again o) same h

  -- the same turns come first
  pub same-first : {again : ReplayMachine} {o : O} {ts us : List (ℕ × ℕ)} → ts ≡ us → CanFold knows see tabled ts again o → CanFold knows see tabled us again o
  same-first {again} {o} same h = subst (λ (vs : List (ℕ × ℕ)). CanFold knows see tabled vs again o) same h

  -- the same turns were left before
  pub same-before : (behind : List (ℕ × ℕ)) {old new : ReplayMachine} {o n : O} {ts us : List (ℕ × ℕ)} → ts ≡ us
      → Folds knows see tabled ts old o behind new n → Folds knows see tabled us old o behind new n
  same-before behind {old} {new} {o} {n} same h = subst (λ (vs : List (ℕ × ℕ)). Folds knows see tabled vs old o behind new n) same h

  -- and the same after
  pub same-behind : (before : List (ℕ × ℕ)) {old new : ReplayMachine} {o n : O} {ts us : List (ℕ × ℕ)} → ts ≡ us
      → Folds knows see tabled before old o ts new n → Folds knows see tabled before old o us new n
  same-behind before {old} {new} {o} {n} same h = subst (λ (vs : List (ℕ × ℕ)). Folds knows see tabled before old o vs new n) same h

  module _ (all first rest : List (ℕ × ℕ)) (split : (left : List (ℕ × ℕ)) → all ++ left ≡ first ++ (rest ++ left)) where
    -- the first part of the turns comes first
    pub first-part : {again : ReplayMachine} {o : O} → CanFold knows see tabled all again o → CanFold knows see tabled first again o
    first-part there = (there.0, there.1, rest ++ there.2, same-left (split there.2) there.3)

    -- it was made
    pub part-made : {old new : ReplayMachine} {o n : O} → Folds knows see tabled first old o [] new n → Folds knows see tabled all old o rest new n
    part-made folds replay total left h = folds replay total (rest ++ left) (same-left (split left) h)

  module _ (before between : List (ℕ × ℕ)) {old mid : ReplayMachine} {o p : O} where
    -- what is left then can be made
    pub fold-on : Folds knows see tabled before old o between mid p → CanFold knows see tabled before old o → CanFold knows see tabled between mid p
    fold-on folds there = (there.0, there.1, there.2, folds there.0 there.1 there.2 there.3)

    -- and was made
    pub fold-both : (behind : List (ℕ × ℕ)) {new : ReplayMachine} {n : O} → Folds knows see tabled before old o between mid p
        → Folds knows see tabled between mid p behind new n → Folds knows see tabled before old o behind new n
    fold-both behind one other replay total left h = other replay total left (one replay total left h)

-- ---- whole histories

-- what is known after all turns of a history
pub seen-whole : {S : Type 0} (program : Units) (see : ℕ → ℕ → State → S → S) (range : HistoryRange) (entries : List Entry) (seen : S)
    → range.start ≡ 0 → entries_until range ≡ entries
    → seen_within program see range seen ≡ seen_along program see (opening program) (turns_from 1 entries) seen
unfolding schedule_of
seen-whole program see range entries seen first all =
    let start : run program (schedule_of (entries_before range)) ≡ opening program =
    ap (λ n. run program (schedule_of (take n range.history.now.items))) first ∙ opening-is program in
    (λ i. seen_along program see (start i) (turns_from (first i + 1) (drop (first i) (all i))) seen)
