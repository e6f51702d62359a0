-- Entries that are left behind those that were made, and the lines of all.
use Rattle.std.proofs.Common.{◌≡◌, ℕ, zero, suc, ◌+◌, ◌-◌, ◌≤◌, false, ◌&&◌, if◌then◌else◌, List, [], ◌∷◌, ◌++◌, Some, length, length-take-le, take, drop, refl, sym, ap, ◌∙◌, subst, arith, append-nil, slice_get, nat_le}
use Rattle.std.proofs.lemmas.Bool.{lt-leb}
use Rattle.std.proofs.lemmas.List.{length-take, take-take, take_more}
use Rattle.std.proofs.lemmas.Option.{get_or_from_slice_get, none-some, same_Some, slice_get_within}
use Rattle.hep_why.proofs.FoundReasons.{few-singles, progress-singles}
use Rattle.hep_core.specs.CoreValues.{CoreValue}
use Rattle.hep_why.specs.Replays.{ArePossible, IsFirstImpossible, IsUnmade, most_entries, replayed, single_entries}
use Rattle.hep_replay.specs.declared.replay_fault.ReplayFault.{ReplayFault}
use Rattle.hep_replay.specs.declared.replay_fault.ReplayFault.TheVariants.{NoMemory, ArenaFull, Refused}
use Rattle.hep_replay.proofs.HistoryPrefixes.{first-of-front, possible-front}
use Rattle.hep_replay.proofs.ReplayTurns.{HaveReplayed, expand_singles}
use Rattle.hep_machine.specs.declared.event.Entry.{Entry}
use Rattle.hep_machine.specs.Words.{Progress, Units, opening, progress_after, progress_after_entry, progress_from}
use Rattle.hep_event.specs.Traces.{LineSelection, entry_text, is_of, is_shown, trace_from, trace_text}
use Rattle.hep_trace.specs.TraceProgress.{HasMade, IsReplaying, progress_of}

-- ---- the first of those that are left

pub front-more : (k : ℕ) (es : List Entry) (e : Entry) → slice_get es k ≡ Some e → take (k + 1) es ≡ take k es ++ e ∷ []
front-more k es e at =
    take_more es k e (slice_get_within es k e at) ∙ ap (λ (x : Entry). take k es ++ x ∷ []) (get_or_from_slice_get es k e e at)

pub left-at : (k : ℕ) (es : List Entry) (e : Entry) → slice_get es k ≡ Some e → drop k es ≡ e ∷ drop (k + 1) es
left-at zero [] e at = absurd (none-some e at)
left-at zero (x ∷ es) e at = ap (λ (y : Entry). y ∷ es) (same_Some x e at)
left-at (suc k) [] e at = absurd (none-some e at)
left-at (suc k) (x ∷ es) e at =
    let count : suc (k + 1) ≡ suc k + 1 = omega arith in
    left-at k es e at ∙ ap (λ m. e ∷ drop m (x ∷ es)) count

-- ---- those that were made

-- what is so in an arena is so in the same one
pub of-same : (P : Units → ℕ → Type 0) (program other : Units) (cells others : ℕ) → program ≡ other → cells ≡ others → P program cells → P other others
of-same P program other cells others same arena is = subst (λ n. P other n) arena (subst (λ u. P u cells) same is)

pub replayed-so : (core : CoreValue) (entries : List Entry) (k : ℕ) → HasMade core entries k → HaveReplayed core.program core.cells entries k core
replayed-so core entries k has = record { made = has.is; within = has.within; possible = has.possible }

-- the core that has made those before it
pub replaying : (core : CoreValue) (entries : List Entry) (k : ℕ) → HasMade core entries k → IsReplaying core
replaying core entries k has =
    subst IsReplaying (sym has.is) (record {
      standing = refl;
      within = has.within;
      turns = omega (arith, few-singles (take k entries), ap length (expand_singles (take k entries)));
    })

-- ---- its lines

pub progress-is : (core : CoreValue) (entries : List Entry) (k : ℕ) → HasMade core entries k → progress_of core ≡ progress_after core.program (take k entries)
progress-is core entries k left =
    ap (λ (c : CoreValue). progress_after core.program c.history) left.is
    ∙ progress-singles core.program (record { state = opening core.program; listed = [] }) (take k entries)

module _ (program : Units) (shown : LineSelection) where
  -- of no entries there are none
  pub lines-none : (number : ℕ) (x : Progress) (rest : List Entry) → rest ≡ [] → trace_from program shown number x rest ≡ []
  unfolding trace_from
  lines-none number x rest is = ap (λ (es : List Entry). trace_from program shown number x es) is

  pub trace-end : (number : ℕ) (x : Progress) (rest : List Entry) (text all : List ℕ) → rest ≡ [] → text ++ trace_from program shown number x rest ≡ all → text ≡ all
  trace-end number x rest text all none told = sym (append-nil text) ∙ ap (λ (t : List ℕ). text ++ t) (sym (lines-none number x rest none)) ∙ told

  -- what stands before the first entry that is shown has no lines
  skip : (n k : ℕ) (x : Progress) (es : List Entry) → k ≤ shown.first - n → k ≤ length es
      → trace_from program shown n x es ≡ trace_from program shown (n + k) (progress_from program x (take k es)) (drop k es)
  unfolding trace_from progress_from
  skip n zero x es few within =
      let count : n ≡ n + 0 = omega arith in
      ap (λ m. trace_from program shown m x es) count
  skip n (suc k) x [] few within = absurd (omega (arith, within))
  skip n (suc k) x (e ∷ es) few within =
      let y : Progress = progress_after_entry program x e e.steps in
      let early : nat_le shown.first n ≡ false = lt-leb shown.first n (omega (arith, few)) in
      let unseen : is_shown shown n e.process ≡ false = ap (λ b. b && nat_le n shown.last && is_of shown.process e.process) early in
      let count : suc n + k ≡ n + suc k = omega arith in
      ap (λ b. (if b then entry_text program shown.cell n x e e.steps else []) ++ trace_from program shown (suc n) y es) unseen
      ∙ skip (suc n) k y es (omega (arith, few)) (omega (arith, within))
      ∙ ap (λ m. trace_from program shown m (progress_from program y (take k es)) (drop k es)) count

  pub trace-skipped : (k : ℕ) (entries : List Entry) → k ≤ shown.first - 1 → k ≤ length entries
      → trace_from program shown (k + 1) (progress_after program (take k entries)) (drop k entries) ≡ trace_text program shown entries
  trace-skipped k entries few within =
      let count : k + 1 ≡ 1 + k = omega arith in
      ap (λ m. trace_from program shown m (progress_after program (take k entries)) (drop k entries)) count
      ∙ sym (skip 1 k (record { state = opening program; listed = [] }) entries few within)

-- ---- the beginning

pub unmade-front : (program : Units) (cells : ℕ) (front : List Entry) (k : ℕ) (entries : List Entry) (fault : ReplayFault) → front ≡ take k entries
    → IsUnmade program cells front fault → IsUnmade program cells entries fault
unmade-front program cells front k entries NoMemory are unmade = unmade
unmade-front program cells front k entries ArenaFull are unmade = unmade
unmade-front program cells front k entries (Refused number entry) are unmade = (
  unmade.0,
  unmade.1,
  first-of-front program cells k entries entry (subst (λ (es : List Entry). IsFirstImpossible program cells es entry) are unmade.2),
)

-- of the first entries the first ones are those of all
pub first-front : (k n : ℕ) (entries : List Entry) → k ≤ length (take n entries) → take k entries ≡ take k (take n entries)
first-front k n entries within = sym (take-take k n entries (omega (arith, within, length-take n entries)))

pub made-first : (core : CoreValue) (program : Units) (cells : ℕ) (front entries : List Entry) (k : ℕ) → core ≡ replayed program cells front → front ≡ take k entries
    → k ≤ length entries → ArePossible program cells front (length front) → length core.history ≤ core.limit → HasMade core entries k
made-first core program cells front entries k is are within possible legal =
    let room : length (single_entries (take k entries)) ≤ most_entries =
    omega (arith, legal, ap (λ (c : CoreValue). length c.history) is, ap (λ (c : CoreValue). c.limit) is, ap (λ (es : List Entry). length (single_entries es)) are) in
    let all : ArePossible program cells (take k entries) k =
    subst (λ n. ArePossible program cells (take k entries) n) (length-take-le k entries within) (subst (λ (es : List Entry). ArePossible program cells es (length es)) are possible) in
    subst (λ (c : CoreValue). HasMade c entries k) (sym is) (record {
      is = ap (λ (es : List Entry). replayed program cells es) are;
      few = within;
      within = room;
      possible = possible-front program cells k entries k (omega arith) all;
    })
