-- Private steps, one after the other, are plain turns.
use Rattle.std.proofs.Common.{◌≡◌, ◌≢◌, ℕ, zero, suc, ◌+◌, List, [], ◌∷◌, ◌++◌, map, drop, Some, refl, sym, ap, ◌∙◌, subst, arith, append_assoc, slice_get, replicate}
use Rattle.std.proofs.lemmas.Option.{same_Some}
use Rattle.hep_machine.specs.Words.{Value, Units, AreSteps, State, run, run_from}
use Rattle.hep_arena.specs.Holes.{Hole}
use Rattle.hep_code.specs.declared.instruction.Instruction.{Instruction}
use Rattle.hep_code.specs.declared.instruction.Instruction.TheVariants.{Push}
use Rattle.hep_code.specs.Words.{IsPastPushes, left_to_do, values_ahead}
use Rattle.hep_image.specs.declared.array.Array.{Array}
use Rattle.hep_step.specs.declared.frame.Frame.{Frame}
use Rattle.hep_step.specs.PerformedSteps.{Snapshot, snapshot}
use Rattle.hep_step.specs.SilentSteps.{CanGoOn, Goes, IsMove, settles, steps}
use Rattle.hep_step.proofs.PlainSteps.{unchanged-ahead}
use Rattle.hep_advance.specs.SilentRuns.{HasGone, none, more}
use Rattle.hep_private.specs.declared.record.Record.{Record}
use Rattle.hep_private.specs.OwnState.{OwnState, contents_after, pushed_ahead, settled, values_after, values_at, written_after}
use Rattle.hep_private.specs.StepRecords.{MadeStep, made_ahead, next_made, own_after, recorded}
use Rattle.hep_private.proofs.StoredCells.{size-after, values-changed}
use Rattle.hep_private.proofs.StepRows.{first-of, made-ahead}
use Rattle.hep_private.proofs.StepEffects.{moved-ahead}
use Rattle.hep_commit.proofs.StoresInFrame.{inside-ahead, plain-ahead}
use Rattle.hep_machine.proofs.Replays.{steps_before}
use Rattle.hep_advance.proofs.RunsToBreakpoint.{one-behind, turns-are, run-on}
use Rattle.hep_private.proofs.OperandRoom.{drop-plus}
use Rattle.hep_private.specs.InPlace.{stored_with}
use Rattle.hep_source.proofs.Tests.{get-drop}

-- ---- lists

map-append : (vs ws : List Value) → map Push (vs ++ ws) ≡ map Push vs ++ map Push ws
map-append [] ws = refl
map-append (v ∷ vs) ws = ap (λ is. Push v ∷ is) (map-append vs ws)

-- ---- constants that stand ahead

front-is : (is : List Instruction) → map Push (pushed_ahead is) ++ drop (values_ahead is) is ≡ is
front-is (Push v ∷ is) = ap (λ js. Push v ∷ js) (front-is is)
front-is _ = refl

past-front : (is : List Instruction) (v : Value) → slice_get is (values_ahead is) ≢ Some (Push v)
past-front [] v e = cc
past-front (Push w ∷ is) v e = past-front is v e
past-front (_ ∷ is) v e = cc

module _ (code : List Instruction) (operands : List Value) (index : ℕ) where
  abbrev ahead : List Instruction
  ahead = drop index code

  pub left-same : left_to_do (operands ++ pushed_ahead ahead) (index + values_ahead ahead) code ≡ left_to_do operands index code
  left-same =
      ap (λ is. is ++ drop (index + values_ahead ahead) code) (map-append operands (pushed_ahead ahead))
      ∙ (append_assoc (map Push operands) (map Push (pushed_ahead ahead)) (drop (index + values_ahead ahead) code)
      ∙ (ap (λ is. map Push operands ++ (map Push (pushed_ahead ahead) ++ is)) (drop-plus code index (values_ahead ahead))
      ∙ ap (λ is. map Push operands ++ is) (front-is ahead)))

  pub past-here : IsPastPushes code (index + values_ahead ahead)
  past-here v e = past-front ahead v (sym (get-drop code index (values_ahead ahead)) ∙ e)

-- ---- moves

module _ (code : List Instruction) (arrays : List Array) (cells : List ℕ) (frame : Frame) (holes : List Hole) (capacity : ℕ) (start : Snapshot) where
  abbrev Come : ℕ → Snapshot → Type 0
  Come n u = Goes code arrays frame.first start n u

  -- what the activation has for itself there, where its steps have stored in these cells
  abbrev pub own_at : Snapshot → List ℕ → OwnState
  own_at u written = record { index = u.index; operands = u.operands; values = values_at u.contents frame.first; written = written }

  module _ (can : (n : ℕ) (u : Snapshot) → Come n u → CanGoOn code arrays holes frame capacity u) where
    module _ (k : ℕ) (u : Snapshot) (written : List ℕ) (come : Come k u) (m : MadeStep) (next : next_made cells code (own_at u written) ≡ Some m) where
      abbrev own : OwnState
      own = own_at u written

      abbrev put : OwnState
      put = settled code own

      abbrev there : Snapshot
      there = snapshot u.contents put.operands put.index

      abbrev after : Snapshot
      after = snapshot (contents_after frame.first u.contents m.noted) m.operands m.index

      made : made_ahead cells put (drop put.index code) ≡ Some m
      made = (made-ahead cells code own m next).0

      come-there : Come k there
      come-there = settles start k u there come (record { contents = refl; same = left-same code u.operands u.index })

      is-move : IsMove code arrays frame.first there after
      is-move =
          record {
            past = past-here code u.operands u.index;
            effect = moved-ahead code arrays cells frame.first u.contents put.operands put.index written (drop put.index code) m made;
            unchanged = unchanged-ahead arrays frame.first u.contents (drop put.index code) put.operands (plain-ahead cells put (drop put.index code) m made);
            cells = size-after frame.first u.contents m.noted;
          }

      come-after : Come (suc k) after
      come-after = steps start k there after come-there is-move

      values-are : (d : ℕ) → values_at (contents_after frame.first u.contents m.noted) frame.first d ≡ values_after (values_at u.contents frame.first) m.noted d
      values-are =
          let ready = (can k there come-there).ready capacity (omega arith) in
          values-changed frame.first u.contents m.noted (inside-ahead (record { contents = u.contents; holes = holes }) arrays frame cells capacity put (drop put.index code) m ready.framed ready.ahead made)

      own-after : own_after cells code own m ≡ own_at after (written_after written m.noted)
      own-after = λ i. record { index = m.index; operands = m.operands; values = λ d. sym (values-are d) i; written = written_after written m.noted }

    -- so many private steps are so many moves
    pub gone-on : (n k : ℕ) (u : Snapshot) (written : List ℕ) (records : List Record) (end : OwnState) → Come k u → recorded cells code n (own_at u written) ≡ Some (records, end)
        → Come (k + n) (snapshot (stored_with frame.first u.contents records) end.operands end.index)
    gone-on zero k u written records end come is =
        let same = same_Some ([], own_at u written) (records, end) is in
        let count : k ≡ k + 0 = omega arith in
        subst (λ n. Come n (snapshot (stored_with frame.first u.contents records) end.operands end.index)) count (
        subst (λ (r : List Record × OwnState). Come k (snapshot (stored_with frame.first u.contents r.0) r.1.operands r.1.index)) same come)
    gone-on (suc n) k u written records end come is =
        let first = first-of cells code n (own_at u written) records end is in
        let later : recorded cells code n (own_at (after k u written come first.m first.next) (written_after written first.m.noted)) ≡ Some (first.rest, end) =
        ap (recorded cells code n) (sym (own-after k u written come first.m first.next)) ∙ first.later in
        let count : suc k + n ≡ k + suc n = omega arith in
        let rest = gone-on n (suc k) (after k u written come first.m first.next) (written_after written first.m.noted) first.rest end (come-after k u written come first.m first.next) later in
        subst (λ rs. Come (k + suc n) (snapshot (stored_with frame.first u.contents rs) end.operands end.index)) first.are (
        subst (λ j. Come j (snapshot (stored_with frame.first u.contents (first.m.noted ∷ first.rest)) end.operands end.index)) count rest)

    -- and the values in the frame are theirs
    pub values-gone : (n k : ℕ) (u : Snapshot) (written : List ℕ) (records : List Record) (end : OwnState) → Come k u → recorded cells code n (own_at u written) ≡ Some (records, end)
        → (d : ℕ) → values_at (stored_with frame.first u.contents records) frame.first d ≡ end.values d
    values-gone zero k u written records end come is d =
        let same = same_Some ([], own_at u written) (records, end) is in
        subst (λ (r : List Record × OwnState). values_at (stored_with frame.first u.contents r.0) frame.first d ≡ r.1.values d) same refl
    values-gone (suc n) k u written records end come is d =
        let first = first-of cells code n (own_at u written) records end is in
        let later : recorded cells code n (own_at (after k u written come first.m first.next) (written_after written first.m.noted)) ≡ Some (first.rest, end) =
        ap (recorded cells code n) (sym (own-after k u written come first.m first.next)) ∙ first.later in
        subst (λ rs. values_at (stored_with frame.first u.contents rs) frame.first d ≡ end.values d) first.are (
        values-gone n (suc k) (after k u written come first.m first.next) (written_after written first.m.noted) first.rest end (come-after k u written come first.m first.next) later d)

-- ---- turns

-- each is a step
pub steps-are : (program : Units) (cells p : ℕ) (choices : List ℕ) (n : ℕ) (after : List ℕ) → HasGone program cells p choices n after → AreSteps program (run program choices) (replicate n p)
steps-are program cells p _ _ _ (none choices) = tt
steps-are program cells p _ _ _ (more choices n after gone is) =
    let there : run program after ≡ run_from program (run program choices) (replicate n p) = ap (run program) (turns-are program cells p choices n after gone) ∙ run-on program choices (replicate n p) in
    subst (AreSteps program (run program choices)) (one-behind n p) (
    steps_before program (run program choices) (replicate n p) (p ∷ []) (steps-are program cells p choices n after gone) (
    subst (λ (s : State). AreSteps program s (p ∷ [])) there (is.stepped, tt)))
