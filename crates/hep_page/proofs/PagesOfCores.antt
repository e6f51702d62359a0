-- The page of a core that has made entries.
use Rattle.std.proofs.Common.{◌≡◌, ℕ, ◌≤◌, ◌-◌, List, [], ◌++◌, drop, take, length, IsSome, sym, ap, ◌∙◌, subst, arith, min}
use Rattle.std.proofs.Math.Seq.{drop-append_seam}
use Rattle.std.proofs.lemmas.Grind.{flat_map-append}
use Rattle.std.proofs.lemmas.List.{length-take, take-append-drop, take-take, take_min}
use Rattle.std.proofs.lemmas.Option.{slice_get_within}
use Rattle.hep_core.specs.CoreValues.{CoreValue}
use Rattle.hep_machine.specs.declared.event.Entry.{Entry}
use Rattle.hep_machine.specs.Words.{Progress, Units, opening, opening_layout, progress_after}
use Rattle.hep_replay.specs.declared.replay_fault.ReplayFault.TheVariants.{Refused}
use Rattle.hep_replay.specs.Replays.{ArePossible, IsFirstImpossible, IsUnmade, replayed, single_entries, single_steps, standing}
use Rattle.hep_replay.proofs.HistoryPrefixes.{first-of-front}
use Rattle.hep_replay.proofs.ReplayTurns.{state_singles}
use Rattle.hep_why.proofs.FoundReasons.{progress-singles}
use Rattle.hep_why.specs.Watches.{IsReplayed}
use Rattle.hep_event.specs.Traces.{trace_text}
use Rattle.hep_state_text.specs.Lines.{head_text}
use Rattle.hep_state_text.specs.States.{contents_text, state_text}
use Rattle.hep_page.specs.ChangeLogs.{AreNext, turns_text, turns_text_from}
use Rattle.hep_page.specs.Changes.{changes_text}
use Rattle.hep_page.specs.Pages.{entries_before, page_text, shown_from, unshown}
use Rattle.hep_page.specs.SourceLines.{source_text}
use Rattle.hep_page.specs.Templates.{RunTexts, TemplatePieces, page_with, template_pieces}
use Rattle.hep_page.proofs.NextTurns.{entries-next}

module _ (program : Units) (cells : ℕ) where
  -- an entry that is possible isn't refused
  pub never-refused : (entries : List Entry) (number entry : ℕ) → ArePossible program cells entries (length entries) → IsUnmade program cells entries (Refused number entry) → ⊥
  never-refused entries number entry possible (fits, is, first) =
      first.impossible (possible first.place first.entry (slice_get_within entries first.place first.entry first.here) first.here)

  -- nor is one of the first entries
  pub front-never-refused : (entries front : List Entry) (k number entry : ℕ) → front ≡ take k entries → ArePossible program cells entries (length entries)
      → IsUnmade program cells front (Refused number entry) → ⊥
  front-never-refused entries front k number entry are possible unmade =
      let first = subst (λ (es : List Entry). IsFirstImpossible program cells es entry) are unmade.2 in
      never-refused entries number entry possible (unmade.0, unmade.1, first-of-front program cells k entries entry first)

-- of the first entries of a history those before a number are the first entries
pub first-front : (count first made : ℕ) (history : List Entry) → made ≡ min (first - 1) (length (take count history))
    → take made history ≡ entries_before first (take count history)
first-front count first made history is =
    let entries = take count history in
    ap (λ n. take n history) is
    ∙ sym (take-take (min (first - 1) (length entries)) count history (omega (arith, length-take count history)))
    ∙ take_min (first - 1) entries

-- the first entries, one step at a time, are the first of all turns
single-cut : (k : ℕ) (entries : List Entry) → single_entries (take k entries) ++ single_entries (drop k entries) ≡ single_entries entries
single-cut k entries =
    sym (flat_map-append (λ (e : Entry). single_steps e.process e.steps) (take k entries) (drop k entries))
    ∙ ap single_entries (take-append-drop k entries)

-- the other turns are those of the other entries
turns-left : (k : ℕ) (entries : List Entry) → drop (length (single_entries (take k entries))) (single_entries entries) ≡ single_entries (drop k entries)
turns-left k entries =
    ap (drop (length (single_entries (take k entries)))) (sym (single-cut k entries))
    ∙ drop-append_seam (single_entries (take k entries)) (single_entries (drop k entries))

-- they come next on a core that has made the first ones
pub core-next : (core again : CoreValue) (k : ℕ) (entries : List Entry) → core ≡ replayed core.program core.cells entries
    → again ≡ replayed core.program core.cells (take k entries) → ArePossible core.program core.cells entries (length entries)
    → AreNext core.program core.cells again.history (drop (length again.history) core.history)
core-next core again k entries made opened possible =
    let program = core.program in
    let before : again.history ≡ single_entries (take k entries) = ap (λ (x : CoreValue). x.history) opened in
    let all : core.history ≡ single_entries entries = ap (λ (x : CoreValue). x.history) made in
    let possible-so = subst (λ (es : List Entry). ArePossible program core.cells es (length es)) (sym (take-append-drop k entries)) possible in
    let left : single_entries (drop k entries) ≡ drop (length again.history) core.history =
    sym (turns-left k entries) ∙ (λ i. drop (length (sym before i)) (sym all i)) in
    subst (λ (es : List Entry). AreNext program core.cells es (drop (length again.history) core.history)) (sym before) (
    subst (AreNext program core.cells (single_entries (take k entries))) left (entries-next program core.cells (take k entries) (drop k entries) possible-so))

-- such a core is the one that its history leads to
pub standing-again : (again : CoreValue) (program : Units) (cells : ℕ) (entries : List Entry) → again ≡ replayed program cells entries
    → again ≡ standing program cells again.history
standing-again again program cells entries made = made ∙ ap (λ (x : CoreValue). standing program cells x.history) (sym made)

-- a core that has made entries of an image
pub replayed-again : (core : CoreValue) (program : Units) (cells : ℕ) (entries : List Entry) → core ≡ replayed program cells entries
    → IsSome (opening_layout program cells) → 1 ≤ cells → cells ≤ 16777216 → IsReplayed core entries
replayed-again core program cells entries made fits some few =
    record {
      made = made ∙ ap (λ (x : CoreValue). replayed x.program x.cells entries) (sym made);
      fits = subst (λ (x : CoreValue). IsSome (opening_layout x.program x.cells)) (sym made) fits;
      some = subst (λ (x : CoreValue). 1 ≤ x.cells) (sym made) some;
      few = subst (λ (x : CoreValue). x.cells ≤ 16777216) (sym made) few;
    }

-- what is known after entries is what is known after these one step at a time
singles-known : (program : Units) (es : List Entry) → progress_after program (single_entries es) ≡ progress_after program es
singles-known program es = progress-singles program (record { state = opening program; listed = [] }) es

-- so is what everything holds
pub singles-told : (shown : ℕ → List ℕ) (program : Units) (count : ℕ) (es : List Entry)
    → state_text shown program count (single_entries es) ≡ state_text shown program count es
singles-told shown program count es =
    let states = state_singles program es in
    λ i. head_text count ++ contents_text program (states i) shown (singles-known program es i).listed

-- what the other turns change
changes-told : (shown : ℕ → List ℕ) (core again : CoreValue) (k : ℕ) (entries : List Entry) → core ≡ replayed core.program core.cells entries
    → again ≡ replayed core.program core.cells (take k entries)
    → turns_text core.program shown again.history (drop (length again.history) core.history)
    ≡ changes_text core.program shown (take k entries) (drop k entries)
changes-told shown core again k entries made opened =
    let program = core.program in
    let before : again.history ≡ single_entries (take k entries) = ap (λ (x : CoreValue). x.history) opened in
    let all : core.history ≡ single_entries entries = ap (λ (x : CoreValue). x.history) made in
    (λ i. turns_text program shown (before i) (drop (length (before i)) (all i)))
    ∙ ap (turns_text program shown (single_entries (take k entries))) (turns-left k entries)
    ∙ ap (λ (x : Progress). turns_text_from program shown x (single_entries (drop k entries))) (singles-known program (take k entries))

-- the page of a core that has made entries, by its texts
pub page-told : (core again : CoreValue) (entries : List Entry) (first : ℕ) (source : List ℕ) (pieces : TemplatePieces) (texts : RunTexts)
    → core ≡ replayed core.program core.cells entries → again ≡ replayed core.program core.cells (entries_before first entries)
    → pieces ≡ template_pieces → texts.source ≡ source_text source
    → texts.opening ≡ state_text unshown core.program (length (entries_before first entries)) again.history
    → texts.trace ≡ trace_text core.program (shown_from first (length entries)) entries
    → texts.changes ≡ turns_text core.program unshown again.history (drop (length again.history) core.history)
    → page_with pieces texts ≡ page_text source core.program first entries
page-told core again entries first source pieces texts made opened same lines opening trace changes =
    let count = length (entries_before first entries) in
    let before = opening ∙ ap (λ (x : CoreValue). state_text unshown core.program count x.history) opened
    ∙ singles-told unshown core.program count (entries_before first entries) in
    let turns = changes ∙ changes-told unshown core again (first - 1) entries made opened in
    λ i. page_with (same i) (record { source = lines i; opening = before i; trace = trace i; changes = turns i })
