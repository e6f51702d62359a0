-- What is told of two runs that were made again is what the definitions tell of their histories.
use Rattle.std.proofs.Common.{◌≡◌, ◌⊎◌, inl, inr, ℕ, suc, ◌+◌, ◌-◌, ◌<◌, ◌≤◌, Bool, true, false, max, List, [], ◌∷◌, ◌++◌, length, Option, Some, None, refl, sym, ap, ◌∙◌, subst, arith, append_assoc, if◌then◌else◌, nat_le}
use Rattle.std.proofs.lemmas.Option.{none-some, same_Some}
use Rattle.hep_blocked.specs.RosterUpdates.{IsBlocked}
use Rattle.hep_why.proofs.FoundReasons.{progress-singles, state-is-so}
use Rattle.hep_why.specs.Watches.{IsReplayed}
use Rattle.hep_cells.specs.declared.want.Want.{Want}
use Rattle.hep_core.proofs.Histories.{state-is}
use Rattle.hep_core.specs.CoreValues.{CoreValue, listed_after}
use Rattle.hep_outcome.proofs.ReplayReplayTurns.{state_singles}
use Rattle.hep_why.specs.Replays.{single_entries}
use Rattle.hep_machine.specs.declared.event.Entry.{Entry}
use Rattle.hep_machine.specs.Words.{State, Units, is_number_among, opening, progress_after, schedule_of, state_after}
use Rattle.hep_outcome.specs.Outcome.{Outcome}
use Rattle.hep_outcome.specs.Replay.{outcome_of_core}
use Rattle.hep_state.specs.declared.core_state.CoreState.{CoreState}
use Rattle.hep_state.specs.Words.{IsMachineAfter}
use Rattle.hep_text.specs.Line.{lines}
use Rattle.hep_views.specs.declared.listed.Listed.{Listed}
use Rattle.hep_views.specs.ListedProcesses.{listed_by}
use Rattle.hep_views.specs.CellOwners.{IsListedAs}
use Rattle.hep_views.specs.ProcessPositions.{whereabouts_by}
use Rattle.hep_diff.specs.Differences.{deed_or_rest, end_of, made_in, process_text, processes_from, rest_of, written_text}
use Rattle.hep_diff.specs.FirstDifferences.{first_from, same_deed, same_entry, same_front}
use Rattle.hep_diff.specs.DifferenceLines.{ends_text, records_text, rest_text}
use Rattle.hep_diff.specs.declared.process_step.ProcessStep.{ProcessStep}

-- ---- one run

listed-same : (program : Units) (es : List Entry) (p : ℕ) → listed_after program (single_entries es) p ≡ listed_after program es p
listed-same program es p =
    let listed = progress-singles program (record { state = opening program; listed = [] }) es in
    λ i. if is_number_among p (listed i).listed then listed_by program p (state_singles program es i) else None

module _ (core : CoreValue) (entries : List Entry) (r : IsReplayed core entries) where
  history-is : core.history ≡ single_entries entries
  history-is = ap (λ (c : CoreValue). c.history) r.made

  waits-same : (p : ℕ) → listed_after core.program core.history p ≡ listed_after core.program entries p
  waits-same p = ap (λ es. listed_after core.program es p) history-is ∙ listed-same core.program entries p

  state-same : state_after core.program core.history ≡ state_after core.program entries
  state-same = state-is-so core entries r

  pub made-same : made_in core.program core.history ≡ made_in core.program entries
  made-same = ap (λ (s : State). length s.processes) state-same

  rest-same : (p : ℕ) → rest_of core.program core.history p ≡ rest_of core.program entries p
  rest-same p = λ i. rest_text core.program (waits-same p i) (whereabouts_by core.program p (state-same i)) (nat_le p (made-same i))

  pub side-same : (p : ℕ) (d : Option ProcessStep) → deed_or_rest core.program core.history p d ≡ deed_or_rest core.program entries p d
  side-same p None = rest-same p
  side-same p (Some d) = refl

  pub end-same : outcome_of_core false core ≡ end_of core.program core.cells entries
  end-same = ap (outcome_of_core false) r.made

-- how many processes were made in one of two
pub both-made : (first second : CoreValue) (entries others : List Entry) → IsReplayed first entries → IsReplayed second others
    → first.program ≡ second.program
    → max (made_in first.program first.history) (made_in second.program second.history) ≡ max (made_in first.program entries) (made_in first.program others)
both-made first second entries others h k same =
    λ i. max (made-same first entries h i) ((made-same second others k ∙ ap (λ (us : Units). made_in us others) (sym same)) i)

-- what the second one of two writes, in an arena as large as that of the first one
pub other-end : (first second : CoreValue) (others : List Entry) → IsReplayed second others → first.program ≡ second.program
    → second.cells ≡ first.cells
    → outcome_of_core false second ≡ end_of first.program first.cells others
other-end first second others k same cells = end-same second others k ∙ (λ i. end_of (sym same i) (cells i) others)

-- ---- who waits

-- one that is listed
pub waits-some : (core : CoreValue) (image : Units) (p : ℕ) (m : CoreState) (want : Want) (l : Listed) → image ≡ core.program
    → IsMachineAfter core.program core.cells (schedule_of core.history) m
    → IsBlocked core.program core.cells (schedule_of core.history) p want
    → true ≡ is_number_among p (progress_after core.program core.history).listed → IsListedAs image m p want l
    → listed_after core.program core.history p ≡ Some l
waits-some core image p m want l same after blocked found as_listed =
    (λ i. if sym found i then listed_by core.program p (state-is core.program core.history i) else None)
    ∙ subst (λ (us : Units). IsListedAs us m p want l) same as_listed core.cells (schedule_of core.history) after blocked

-- and one that isn't
pub waits-none : (core : CoreValue) (p : ℕ) → false ≡ is_number_among p (progress_after core.program core.history).listed
    → listed_after core.program core.history p ≡ None
waits-none core p found = λ i. if sym found i then listed_by core.program p (state-is core.program core.history i) else None

-- ---- texts

-- what two replays write, by their outcomes
pub written-is : (old text now out other end end_other : List ℕ) (first second : Outcome) → out ≡ first.output → other ≡ second.output
    → end ≡ first.messages → end_other ≡ second.messages
    → text ≡ old ++ records_text 1 (lines out) (lines other) → now ≡ text ++ ends_text end end_other
    → now ≡ old ++ written_text first second
written-is old text now out other end end_other first second a b c d e f =
    f ∙ ap (λ t. t ++ ends_text end end_other) e
    ∙ append_assoc old (records_text 1 (lines out) (lines other)) (ends_text end end_other)
    ∙ (λ i. old ++ (records_text 1 (lines (a i)) (lines (b i)) ++ ends_text (c i) (d i)))

pub in-a-row : (old head m d n e : List ℕ) → ((((old ++ head) ++ m) ++ d) ++ n) ++ e ≡ old ++ ((head ++ (m ++ d)) ++ (n ++ e))
in-a-row old head m d n e =
    ap (λ xs. (xs ++ n) ++ e) (append_assoc (old ++ head) m d) ∙ append_assoc ((old ++ head) ++ (m ++ d)) n e
    ∙ ap (λ xs. xs ++ (n ++ e)) (append_assoc old head (m ++ d)) ∙ append_assoc old (head ++ (m ++ d)) (n ++ e)

-- a turn of the loop over processes
pub one-more-process : (program : Units) (entries others : List Entry) (n b count : ℕ) (old text now : List ℕ) → b < count
    → text ++ processes_from program entries others n (b + 1) (count - b) ≡ old
    → now ≡ text ++ process_text program entries others n (b + 1)
    → now ++ processes_from program entries others n (b + 1 + 1) (count - (b + 1)) ≡ old
one-more-process program entries others n b count old text now less h e =
    let left : count - b ≡ suc (count - (b + 1)) = omega (arith, less) in
    let next : b + 1 + 1 ≡ suc (b + 1) = omega arith in
    let here = process_text program entries others n (b + 1) in
    (λ i. e i ++ processes_from program entries others n (next i) (count - (b + 1)))
    ∙ append_assoc text here (processes_from program entries others n (suc (b + 1)) (count - (b + 1)))
    ∙ ap (λ k. text ++ processes_from program entries others n (b + 1) k) (sym left)
    ∙ h

-- ---- entries

pub front-within : (xs ys : List Entry) → (same_front xs ys ≤ length xs) × (same_front xs ys ≤ length ys)
front-within [] ys = (omega arith, omega arith)
front-within (x ∷ xs) [] = (omega arith, omega arith)
front-within (x ∷ xs) (y ∷ ys) = by (same_entry x y) (front-within xs ys) where
  by : (t : Bool) → (same_front xs ys ≤ length xs) × (same_front xs ys ≤ length ys)
      → ((if t then suc (same_front xs ys) else 0) ≤ suc (length xs)) × ((if t then suc (same_front xs ys) else 0) ≤ suc (length ys))
  by true h = (omega (arith, h.0), omega (arith, h.1))
  by false h = (omega arith, omega arith)

-- ---- steps

-- the first step that isn't the same is there in one of two rows
pub first_inside : (xs ys : List ProcessStep) (at : ℕ) → Some at ≡ first_from 0 xs ys → (at < length xs) ⊎ (at < length ys)
first_inside xs ys at is = plain (inside 0 xs ys at (sym is)) where
  plain : (at < 0 + length xs) ⊎ (at < 0 + length ys) → (at < length xs) ⊎ (at < length ys)
  plain (inl h) = inl (omega (arith, h))
  plain (inr h) = inr (omega (arith, h))

  inside : (k : ℕ) (us vs : List ProcessStep) (n : ℕ) → first_from k us vs ≡ Some n → (n < k + length us) ⊎ (n < k + length vs)
  inside k [] [] n e = absurd (none-some n e)
  inside k [] (v ∷ vs) n e = let same : k ≡ n = same_Some k n e in inr (omega (arith, same))
  inside k (u ∷ us) [] n e = let same : k ≡ n = same_Some k n e in inl (omega (arith, same))
  inside k (u ∷ us) (v ∷ vs) n e = by (same_deed u v) e (inside (suc k) us vs n) where
    later : (n < suc k + length us) ⊎ (n < suc k + length vs) → (n < k + suc (length us)) ⊎ (n < k + suc (length vs))
    later (inl h) = inl (omega (arith, h))
    later (inr h) = inr (omega (arith, h))

    by : (t : Bool) → (if t then first_from (suc k) us vs else Some k) ≡ Some n
        → (first_from (suc k) us vs ≡ Some n → (n < suc k + length us) ⊎ (n < suc k + length vs))
        → (n < k + suc (length us)) ⊎ (n < k + suc (length vs))
    by true f more = later (more f)
    by false f more = let same : k ≡ n = same_Some k n f in inl (omega (arith, same))
