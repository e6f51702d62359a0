-- Equal entries in a row that are made, and their lines.
use Rattle.std.proofs.Common.{◌≡◌, ℕ, zero, suc, ◌+◌, ◌-◌, ◌<◌, ◌≤◌, Bool, false, List, [], ◌∷◌, ◌++◌, Some, drop, length, length-append, replicate, slice_get, take, refl, sym, ap, ◌∙◌, subst, arith, append_assoc, append-nil}
use Rattle.std.proofs.lemmas.List.{length-replicate, length-take, replicate-append-replicate}
use Rattle.hep_why.proofs.FoundReasons.{few-singles, progress-singles}
use Rattle.hep_core.specs.CoreValues.{CoreValue}
use Rattle.hep_history.specs.declared.run.Run.{Run}
use Rattle.hep_history.specs.Runs.{entries_of, entry_of}
use Rattle.hep_why.specs.Progress.{AreMade, IsCutShort, again, begun}
use Rattle.hep_why.specs.Replays.{ArePossible, HaveGaps, IsFirstImpossible, single_steps}
use Rattle.hep_replay.proofs.HistoryPrefixes.{front-same}
use Rattle.hep_replay.proofs.InRuns.{run_here}
use Rattle.hep_replay.proofs.ReplayTurns.{expand_singles, joined, run_refused, run_replayed, schedule_of-append}
use Rattle.hep_machine.specs.declared.event.Entry.{Entry}
use Rattle.hep_machine.specs.Words.{Progress, Units, opening, progress_after, progress_after_entry, progress_from, schedule_of}
use Rattle.hep_event.specs.Traces.{LineSelection, entry_text, is_shown, trace_from}
use Rattle.hep_trace.specs.TraceProgress.{HasMade, IsReplaying, progress_of, shown_lines, shown_text}
use Rattle.hep_trace.proofs.EntriesLeft.{front-more, left-at, progress-is, replayed-so}
use Rattle.hep_core.proofs.Histories.{progress_from-append}

-- ---- what is known after entries

progress-one : (program : Units) (x : Progress) (e : Entry) → progress_from program x (single_steps e.process e.steps) ≡ progress_after_entry program x e e.steps
unfolding progress_from
progress-one program x e = ap (progress_from program x) (sym (append-nil (single_steps e.process e.steps))) ∙ progress-singles program x (e ∷ [])

progress-many : (program : Units) (x : Progress) (n : ℕ) (e : Entry) → progress_from program x (replicate (suc n) e) ≡ progress_after_entry program (progress_from program x (replicate n e)) e e.steps
unfolding progress_from
progress-many program x n e =
    let next : suc n ≡ n + 1 = omega arith in
    ap (λ k. progress_from program x (replicate k e)) next
    ∙ ap (progress_from program x) (sym (replicate-append-replicate n 1 e))
    ∙ progress_from-append program x (replicate n e) (e ∷ [])

-- ---- an entry that was made so many times

pub program-made : (e : Entry) (old : CoreValue) (n : ℕ) (new : CoreValue) → AreMade e old n new → new.program ≡ old.program
program-made e _ _ _ (begun core) = refl
program-made e _ _ _ (again old n core new before last) = ap (λ (c : CoreValue). c.program) last.2 ∙ program-made e old n core before

pub cells-made : (e : Entry) (old : CoreValue) (n : ℕ) (new : CoreValue) → AreMade e old n new → new.cells ≡ old.cells
cells-made e _ _ _ (begun core) = refl
cells-made e _ _ _ (again old n core new before last) = ap (λ (c : CoreValue). c.cells) last.2 ∙ cells-made e old n core before

pub progress-made : (e : Entry) (old : CoreValue) (n : ℕ) (new : CoreValue) → AreMade e old n new → progress_of new ≡ progress_from old.program (progress_of old) (replicate n e)
unfolding progress_from
progress-made e _ _ _ (begun core) = refl
progress-made e _ _ _ (again old n core new before last) =
    let same = program-made e old n core before in
    let so_far = progress-made e old n core before in
    ap (λ (c : CoreValue). progress_of c) last.2
    ∙ progress_from-append core.program (record { state = opening core.program; listed = [] }) core.history (single_steps e.process e.steps)
    ∙ progress-one core.program (progress_of core) e
    ∙ (λ i. progress_after_entry (same i) (so_far i) e e.steps)
    ∙ sym (progress-many old.program (progress_of old) n e)

turns-single : (e : Entry) → length (schedule_of (single_steps e.process e.steps)) ≤ length (single_steps e.process e.steps)
turns-single e =
    let singles : List Entry = single_steps e.process e.steps in
    let same : singles ++ [] ≡ singles = append-nil singles in
    omega (
      arith,
      few-singles (e ∷ []),
      ap (λ ps. length ps) (expand_singles (e ∷ [])),
      ap (λ (es : List Entry). length es) same,
      ap (λ (es : List Entry). length (schedule_of es)) same,
    )

pub replaying-made : (e : Entry) (old : CoreValue) (n : ℕ) (new : CoreValue) → AreMade e old n new → IsReplaying old → IsReplaying new
replaying-made e _ _ _ (begun core) h = h
replaying-made e _ _ _ (again old n core new before last) h =
    let r = replaying-made e old n core before h in
    let singles : List Entry = single_steps e.process e.steps in
    subst IsReplaying (sym last.2) (record {
      standing = refl;
      within = omega (arith, last.0, length-append core.history singles);
      turns = omega (
        arith,
        r.turns,
        ap (λ ps. length ps) (schedule_of-append core.history singles),
        length-append (schedule_of core.history) (schedule_of singles),
        length-append core.history singles,
        turns-single e,
      );
    })

-- it was cut short, behind those before
pub cut-behind : (e : Entry) (old : CoreValue) (made : ℕ) (core : CoreValue) (most more count : ℕ) (new : CoreValue) → AreMade e old made core → IsCutShort core e most more new → made + more < count
    → IsCutShort old e count (made + more) new
cut-behind e old made core most more count new before cut fewer = record {
  core = cut.core;
  fewer = fewer;
  before = joined e old made more core cut.core before cut.before;
  gaps = cut.gaps;
  refused = cut.refused;
}

-- ---- lines

module _ (program : Units) (shown : LineSelection) where
  pub trace-alone : (number : ℕ) (x : Progress) (e : Entry) → trace_from program shown number x (e ∷ []) ≡ shown_text program shown number x e
  unfolding trace_from
  trace-alone number x e = append-nil (shown_text program shown number x e)

  pub trace-append : (number : ℕ) (x : Progress) (es fs : List Entry)
      → trace_from program shown number x (es ++ fs) ≡ trace_from program shown number x es ++ trace_from program shown (number + length es) (progress_from program x es) fs
  unfolding trace_from progress_from
  trace-append number x [] fs =
      let at : number ≡ number + 0 = omega arith in
      ap (λ k. trace_from program shown k x fs) at
  trace-append number x (e ∷ es) fs =
      let y : Progress = progress_after_entry program x e e.steps in
      let at : suc number + length es ≡ number + length (e ∷ es) = omega arith in
      ap (λ (t : List ℕ). shown_text program shown number x e ++ t) (
      trace-append (suc number) y es fs ∙ ap (λ k. trace_from program shown (suc number) y es ++ trace_from program shown k (progress_from program y es) fs) at)
      ∙ sym (append_assoc (shown_text program shown number x e) (trace_from program shown (suc number) y es) (trace_from program shown (number + length (e ∷ es)) (progress_from program y es) fs))

  -- of entries that aren't shown there are none
  pub trace-hidden : (c number : ℕ) (x : Progress) (e : Entry) → ((k : ℕ) → k < c → is_shown shown (number + k) e.process ≡ false) → trace_from program shown number x (replicate c e) ≡ []
  unfolding trace_from
  trace-hidden zero number x e hidden = refl
  trace-hidden (suc c) number x e hidden =
      let y : Progress = progress_after_entry program x e e.steps in
      let here : number ≡ number + 0 = omega arith in
      let first : is_shown shown number e.process ≡ false = ap (λ k. is_shown shown k e.process) here ∙ hidden 0 (omega arith) in
      ap (λ (b : Bool). shown_lines b (entry_text program shown.cell number x e e.steps) ++ trace_from program shown (suc number) y (replicate c e)) first
      ∙ trace-hidden c (suc number) y e (λ k less.
      let at : suc number + k ≡ number + suc k = omega arith in
      ap (λ m. is_shown shown m e.process) at ∙ hidden (suc k) (omega (arith, less)))

-- those of so many more, behind those before
pub lines-more : (shown : LineSelection) (number : ℕ) (e : Entry) (old : CoreValue) (made : ℕ) (core : CoreValue) (more : ℕ) (text so_far next : List ℕ) → AreMade e old made core
    → so_far ≡ text ++ trace_from old.program shown number (progress_of old) (replicate made e)
    → next ≡ so_far ++ trace_from core.program shown (number + made) (progress_of core) (replicate more e)
    → next ≡ text ++ trace_from old.program shown number (progress_of old) (replicate (made + more) e)
lines-more shown number e old made core more text so_far next before told is =
    let same = program-made e old made core before in
    let x = progress-made e old made core before in
    let at : number + made ≡ number + length (replicate made e) = omega (arith, length-replicate made e) in
    let first : List ℕ = trace_from old.program shown number (progress_of old) (replicate made e) in
    is
    ∙ (λ i. told i ++ trace_from (same i) shown (at i) (x i) (replicate more e))
    ∙ append_assoc text first (trace_from old.program shown (number + length (replicate made e)) (progress_from old.program (progress_of old) (replicate made e)) (replicate more e))
    ∙ ap (λ (t : List ℕ). text ++ t) (sym (trace-append old.program shown number (progress_of old) (replicate made e) (replicate more e)))
    ∙ ap (λ (es : List Entry). text ++ trace_from old.program shown number (progress_of old) es) (replicate-append-replicate made more e)

-- ---- entries in a row among all

module _ (entries : List Entry) (e : Entry) where
  -- so many from one on are this one
  abbrev pub AreAlike : ℕ → ℕ → Type 0
  AreAlike from k = (j : ℕ) → j < k → slice_get entries (from + j) ≡ Some e

  alike-first : (from k : ℕ) → AreAlike from (suc k) → slice_get entries from ≡ Some e
  alike-first from k alike =
      let at : from ≡ from + 0 = omega arith in
      ap (slice_get entries) at ∙ alike 0 (omega arith)

  alike-behind : (from k : ℕ) → AreAlike from (suc k) → AreAlike (from + 1) k
  alike-behind from k alike j less =
      let at : from + 1 + j ≡ from + suc j = omega arith in
      ap (slice_get entries) at ∙ alike (suc j) (omega (arith, less))

  run-dropped : (from k : ℕ) → AreAlike from k → drop from entries ≡ replicate k e ++ drop (from + k) entries
  run-dropped from zero alike =
      let at : from ≡ from + 0 = omega arith in
      ap (λ m. drop m entries) at
  run-dropped from (suc k) alike =
      let at : from + 1 + k ≡ from + suc k = omega arith in
      left-at from entries e (alike-first from k alike)
      ∙ ap (λ (es : List Entry). e ∷ es) (run-dropped (from + 1) k (alike-behind from k alike) ∙ ap (λ m. replicate k e ++ drop m entries) at)

  run-taken : (from k : ℕ) → AreAlike from k → take (from + k) entries ≡ take from entries ++ replicate k e
  run-taken from zero alike =
      let at : from + 0 ≡ from = omega arith in
      ap (λ m. take m entries) at ∙ sym (append-nil (take from entries))
  run-taken from (suc k) alike =
      let at : from + suc k ≡ from + 1 + k = omega arith in
      ap (λ m. take m entries) at
      ∙ run-taken (from + 1) k (alike-behind from k alike)
      ∙ ap (λ (es : List Entry). es ++ replicate k e) (front-more from entries e (alike-first from k alike))
      ∙ append_assoc (take from entries) (e ∷ []) (replicate k e)

  module _ (program : Units) (shown : LineSelection) (core : CoreValue) (from k : ℕ) (alike : AreAlike from k) where
    progress-run : progress_after program (take (from + k) entries) ≡ progress_from program (progress_after program (take from entries)) (replicate k e)
    progress-run =
        ap (λ (es : List Entry). progress_after program es) (run-taken from k alike)
        ∙ progress_from-append program (record { state = opening program; listed = [] }) (take from entries) (replicate k e)

    -- after the lines of these those of the others are left
    pub trace-run : (text text' all : List ℕ) → core.program ≡ program → HasMade core entries from
        → text' ≡ text ++ trace_from core.program shown (from + 1) (progress_of core) (replicate k e)
        → text ++ trace_from program shown (from + 1) (progress_after program (take from entries)) (drop from entries) ≡ all
        → text' ++ trace_from program shown (from + k + 1) (progress_after program (take (from + k) entries)) (drop (from + k) entries) ≡ all
    trace-run text text' all same made line told =
        let x : Progress = progress_after program (take from entries) in
        let before : progress_of core ≡ x = progress-is core entries from made ∙ ap (λ (u : Units). progress_after u (take from entries)) same in
        let count : from + k + 1 ≡ (from + 1) + length (replicate k e) = omega (arith, length-replicate k e) in
        (λ i. line i ++ trace_from program shown (count i) (progress-run i) (drop (from + k) entries))
        ∙ (λ i. (text ++ trace_from (same i) shown (from + 1) (before i) (replicate k e)) ++ trace_from program shown ((from + 1) + length (replicate k e)) (progress_from program x (replicate k e)) (drop (from + k) entries))
        ∙ append_assoc text (trace_from program shown (from + 1) x (replicate k e)) (trace_from program shown ((from + 1) + length (replicate k e)) (progress_from program x (replicate k e)) (drop (from + k) entries))
        ∙ ap (λ (t : List ℕ). text ++ t) (sym (trace-append program shown (from + 1) x (replicate k e) (drop (from + k) entries)))
        ∙ ap (λ (es : List Entry). text ++ trace_from program shown (from + 1) x es) (sym (run-dropped from k alike))
        ∙ told

  -- they were made
  pub made-run : (from k : ℕ) (core new : CoreValue) → AreAlike from k → HasMade core entries from → AreMade e core k new → HaveGaps new.program new.cells new.history → from + k ≤ length entries
      → HasMade new entries (from + k)
  made-run from k core new alike has made gaps within =
      let next = run_replayed core.program core.cells entries from e core k new alike (replayed-so core entries from has) made gaps in
      subst (λ (c : CoreValue). HasMade c entries (from + k)) (sym next.made) (record { is = refl; few = within; within = next.within; possible = next.possible })

  -- or the next one isn't possible
  pub cut-impossible : (from most k : ℕ) (core new : CoreValue) → AreAlike from most → HasMade core entries from → IsCutShort core e most k new
      → ArePossible core.program core.cells entries (from + k) × IsFirstImpossible core.program core.cells entries (from + k + 1)
  cut-impossible from most k core new alike has cut =
      let so_far = run_replayed core.program core.cells entries from e core k cut.core (λ j less. alike j (omega (arith, less, cut.fewer))) (replayed-so core entries from has) cut.before cut.gaps in (
        so_far.possible,
        record {
          place = from + k;
          entry = e;
          counted = refl;
          here = alike k cut.fewer;
          before = so_far.possible;
          impossible = run_refused core.program core.cells entries (from + k) e cut.core new so_far cut.refused;
        },
      )

-- where they stand: behind so many of a run that begins after `at` entries
pub alike-of : (all : List Entry) (n at from end : ℕ) (run : Run) (rest : List Run) → drop at all ≡ entries_of (run ∷ rest) → at ≤ from → end ≤ at + run.count → end ≤ length (take n all)
    → AreAlike (take n all) (entry_of run) from (end - from)
alike-of all n at from end run rest place behind within few j less =
    let k : ℕ = from - at + j in
    let count : at + k ≡ from + j = omega (arith, behind) in
    (front-same n (from + j) all (omega (arith, less, few, length-take n all))).0
    ∙ ap (slice_get all) (sym count)
    ∙ run_here all at run rest place k (omega (arith, less, within, behind))
