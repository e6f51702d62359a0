-- Entries that are possible, turn by turn, and turns that are made again.
use Rattle.std.proofs.Common.{◌≡◌, ◌≢◌, IsSome, ℕ, zero, suc, ◌+◌, ◌≤◌, List, [], ◌∷◌, ◌++◌, length, length-append, replicate, Some, Ok, true, false, inl, inr, refl, sym, ap, ◌∙◌, subst, arith, append_assoc, append-nil, slice_get}
use Rattle.std.proofs.Math.Seq.{take-append_seam}
use Rattle.std.proofs.lemmas.List.{length-replicate}
use Rattle.hep_core.specs.CoreValues.{CoreValue}
use Rattle.hep_machine.specs.declared.event.Entry.{Entry}
use Rattle.hep_machine.specs.Words.{AreSteps, State, Units, is_held, layout_of, schedule_of, state_after}
use Rattle.hep_replay.proofs.Readings.{lines_more}
use Rattle.hep_replay.proofs.ReplayTurns.{expand_singles, gaps_before, one, state_singles}
use Rattle.hep_replay.specs.Progress.{AreMade, EntryMade, RunMade, again, begun, longer}
use Rattle.hep_replay.specs.Replays.{ArePossible, HaveGaps, IsPossible, IsThere, most_entries, single_entries, single_steps}
use Rattle.hep_core.proofs.Histories.{turned}
use Rattle.hep_page.specs.ChangeLogs.{AreNext, IsNext}

-- ---- entries that are possible

module _ (program : Units) (cells : ℕ) where
  -- steps of p that can be made come next, and so do turns that come next after them
  steps-next : (before : List Entry) (p n : ℕ) (rest : List Entry) → length before + n ≤ most_entries → AreSteps program (state_after program before) (replicate n p)
      → HaveGaps program cells (before ++ replicate n (one p)) → AreNext program cells (before ++ replicate n (one p)) rest
      → AreNext program cells before (replicate n (one p) ++ rest)
  steps-next before p zero rest few steps gaps next = subst (λ es. AreNext program cells es rest) (append-nil before) next
  steps-next before p (suc n) rest few steps gaps next =
      let front : List Entry = before ++ one p ∷ [] in
      let more : before ++ one p ∷ replicate n (one p) ≡ front ++ replicate n (one p) = sym (append_assoc before (one p ∷ []) (replicate n (one p))) in
      let all = subst (HaveGaps program cells) more gaps in (
        record { few = omega (arith, few); single = refl; there = (steps.0, tt); gaps = gaps_before program cells front (replicate n (one p)) all },
        steps-next front p n rest (omega (arith, few, length-append before (one p ∷ [])))
            (subst (λ (s : State). AreSteps program s (replicate n p)) (sym (turned program before p)) steps.1) all
            (subst (λ es. AreNext program cells es rest) more next),
      )

  -- the entry with this number of steps after others, in single turns
  singles-more : (before : List Entry) (p n : ℕ) → single_entries (before ++ record { process = p; steps = n } ∷ []) ≡ single_entries before ++ single_steps p n
  singles-more before p n = lines_more (λ (e : Entry). single_steps e.process e.steps) before (record { process = p; steps = n })

  -- each frame of it has its gap
  gaps-single : (before : List Entry) (p n : ℕ) → HaveGaps program cells (before ++ record { process = p; steps = n } ∷ []) → HaveGaps program cells (single_entries before ++ single_steps p n)
  gaps-single before p n gaps =
      subst (λ ps. IsSome (layout_of program cells is_held ps))
      (sym (expand_singles (before ++ record { process = p; steps = n } ∷ [])) ∙ ap schedule_of (singles-more before p n)) gaps

  -- the turns of an entry that is possible come next
  entry-next : (before : List Entry) (p n : ℕ) (rest : List Entry) → IsPossible program cells before (record { process = p; steps = n })
      → AreNext program cells (single_entries (before ++ record { process = p; steps = n } ∷ [])) rest → AreNext program cells (single_entries before) (single_steps p n ++ rest)
  entry-next before p zero rest possible next = (
    record {
      few = omega (arith, possible.0);
      single = refl;
      there = subst (λ (s : State). IsThere program s p 0) (sym (state_singles program before)) possible.1;
      gaps = gaps-single before p 0 possible.2;
    },
    subst (λ es. AreNext program cells es rest) (singles-more before p 0) next,
  )
  entry-next before p (suc n) rest possible next =
      steps-next (single_entries before) p (suc n) rest (omega (arith, possible.0, length-replicate (suc n) (one p)))
      (subst (λ (s : State). AreSteps program s (replicate (suc n) p)) (sym (state_singles program before)) possible.1)
      (gaps-single before p (suc n) possible.2) (subst (λ es. AreNext program cells es rest) (singles-more before p (suc n)) next)

  -- the first one of entries after others
  entry-at : (before es : List Entry) (e : Entry) → slice_get (before ++ e ∷ es) (length before) ≡ Some e
  entry-at [] es e = refl
  entry-at (x ∷ before) es e = entry-at before es e

  -- the turns of entries that are possible come next
  pub entries-next : (before es : List Entry) → ArePossible program cells (before ++ es) (length (before ++ es)) → AreNext program cells (single_entries before) (single_entries es)
  entries-next before [] possible = tt
  entries-next before (e ∷ es) possible =
      let here : IsPossible program cells before e = subst (λ xs. IsPossible program cells xs e) (take-append_seam before (e ∷ es))
      (possible (length before) e (omega (arith, length-append before (e ∷ es))) (entry-at before es e)) in
      entry-next before e.process e.steps (single_entries es) here
      (entries-next (before ++ e ∷ []) es (subst (λ xs. ArePossible program cells xs (length xs)) (sym (append_assoc before (e ∷ []) es)) possible))

-- ---- a turn that comes next

-- an entry that was made no time left the core as it was
made-none : (e : Entry) (old new : CoreValue) → AreMade e old 0 new → old ≡ new
made-none e old _ (begun _) = refl

-- one that was made one time was made
made-one : (e : Entry) (old new : CoreValue) → AreMade e old 1 new → EntryMade old e (Ok true) new
made-one e old new (again _ _ core _ before made) = subst (λ (c : CoreValue). EntryMade c e (Ok true) new) (sym (made-none e old core before)) made

module _ (old new : CoreValue) (turn : Entry) (next : IsNext old.program old.cells old.history turn) where
  -- it is possible
  not-refused : EntryMade old turn (Ok false) new → ⊥
  not-refused refused =
      refused (omega (arith, next.few, ap length next.single)) next.there
      (subst (λ es. HaveGaps old.program old.cells (old.history ++ es)) (sym next.single) next.gaps)

  -- so it can't be that it isn't made
  pub never-cut : (made : ℕ) → made ≡ 0 → RunMade old turn 1 (Ok made) new → ⊥
  never-cut made none (inl (all, _)) = omega (arith, none, all)
  never-cut made none (inr cut) =
      not-refused (subst (λ (c : CoreValue). EntryMade c turn (Ok false) new) (sym (made-none turn old cut.core (subst (λ n. AreMade turn old n cut.core) none cut.before))) cut.refused)

  -- it is made
  pub turn-made : (made : ℕ) → made ≢ 0 → RunMade old turn 1 (Ok made) new → new ≡ longer old (turn ∷ [])
  turn-made made some (inl (all, is)) =
      (made-one turn old new (subst (λ n. AreMade turn old n new) all is)).2 ∙ ap (λ es. longer old es) next.single
  turn-made made some (inr cut) = absurd (some (omega (arith, cut.fewer)))
