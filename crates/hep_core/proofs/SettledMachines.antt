-- Where the processes of a core are, once constants that stood ahead of one are operands; and a place has one start.
use Rattle.std.proofs.Common.{◌≡◌, ◌<◌, ◌+◌, ◌-◌, ℕ, zero, suc, List, [], ◌∷◌, ◌++◌, map, drop, length, Some, refl, sym, ap, ◌∙◌, subst, arith, slice_get, slice_set}
use Rattle.std.proofs.lemmas.List.{append-nil}
use Rattle.std.proofs.lemmas.Option.{none-some, same_Some}
use Rattle.hep_machine.specs.Words.{Units, Value, numbered, with_numbered}
use Rattle.hep_code.specs.declared.instruction.Instruction.{Instruction}
use Rattle.hep_code.specs.declared.instruction.Instruction.TheVariants.{Push}
use Rattle.hep_code.specs.Words.{IsPastPushes, left_to_do, values_ahead}
use Rattle.hep_private.specs.OwnState as private
use Rattle.hep_private.specs.OwnState.{OwnState, Values, begun, pushed_ahead, values_at}
use Rattle.hep_private.specs.StepRecords.{if_room, made_ahead, next_made}
use Rattle.hep_proc.specs.Stacks.{Stack, stack_with}
use Rattle.hep_commit.specs.Segments.{Start}
use Rattle.hep_step.specs.Effects.{effect_ahead}
use Rattle.hep_step.specs.Simulation.{unit_arrays, unit_code}
use Rattle.hep_state.specs.declared.core_state.CoreState.{CoreState}
use Rattle.hep_state.specs.Words.{HasLevels, IsEffectOf, IsItsTurn, IsSameButTop, IsTopRunning, IsTurning, Snapshot, TurnOf, frame_under, snapshot_of, top_frame, turn_settled}
use Rattle.hep_state.proofs.TakenTurns.{ahead-simulated}
use Rattle.hep_state.proofs.TopActivations.{settled}
use Rattle.hep_commit.specs.SegmentStarts.{start_in}
use Rattle.hep_commit.proofs.Runs.{left-same, past-here}
use Rattle.hep_commit.proofs.StandingProcesses.{its-turn, turns}
use Rattle.hep_core.specs.ProcessPlaces.{IsHere, ProcessPlace, place_on, places_of}
use Rattle.hep_source.proofs.Tests.{dropped-first}

-- ---- places

-- by its levels
abbrev pub place_in : (program : Units) {m : Snapshot} {p : ℕ} → HasLevels m p → ProcessPlace
place_in program {m} levels =
    record {
      unit = levels.level.unit;
      left = left_to_do levels.operands levels.level.index (unit_code program levels.level.unit);
      contents = m.arena.contents;
      first = (frame_under m.nodes levels.level.key).first;
    }

mapped-number : {A B : Type 0} (f : A → B) (xs : List A) (p : ℕ) (x : A) → numbered xs p ≡ Some x → numbered (map f xs) p ≡ Some (f x)
mapped-number f xs zero x e = absurd (none-some x e)
mapped-number f [] (suc i) x e = absurd (none-some x e)
mapped-number f (y ∷ ys) (suc zero) x e = ap (λ z. Some (f z)) (same_Some y x e)
mapped-number f (y ∷ ys) (suc (suc i)) x e = mapped-number f ys (suc i) x e

mapped-set : {A B : Type 0} (f : A → B) (xs : List A) (i : ℕ) (x y : A) → slice_get xs i ≡ Some x → f y ≡ f x → map f (slice_set xs i y) ≡ map f xs
mapped-set f [] i x y e same = absurd (none-some x e)
mapped-set f (z ∷ zs) zero x y e same = ap (λ v. v ∷ map f zs) (same ∙ ap f (sym (same_Some z x e)))
mapped-set f (z ∷ zs) (suc i) x y e same = ap (λ vs. f z ∷ vs) (mapped-set f zs i x y e same)

mapped-with : {A B : Type 0} (f : A → B) (xs : List A) (p : ℕ) (x y : A) → numbered xs p ≡ Some x → f y ≡ f x → map f (with_numbered xs p y) ≡ map f xs
mapped-with f xs zero x y e same = absurd (none-some x e)
mapped-with f xs (suc i) x y e same = let one : suc i - 1 ≡ i = omega arith in ap (λ k. map f (slice_set xs k y)) one ∙ mapped-set f xs i x y e same

pub place-at : (program : Units) {m : Snapshot} {p : ℕ} (levels : HasLevels m p) → numbered (places_of program m) p ≡ Some (Some (place_in program levels))
place-at program {m} {p} levels =
    mapped-number (λ (k : Stack). place_on program m.arena.contents m.nodes k.operands k.levels) m.processes p (stack_with levels.level levels.below levels.operands levels.pending) levels.kept

-- where constants that stood ahead of one process are operands, all processes are where they were
pub places-same : (program : Units) (p : ℕ) (old new : Snapshot) → HasLevels old p → IsSameButTop program p old new → places_of program new ≡ places_of program old
places-same program p old new levels top =
    let came = top levels in
    let was = stack_with levels.level levels.below levels.operands levels.pending in
    let are = stack_with (record levels.level { index = came.1 }) levels.below came.0 levels.pending in
    ap (λ m. places_of program m) came.2
    ∙ mapped-with (λ (k : Stack). place_on program old.arena.contents old.nodes k.operands k.levels) old.processes p was are levels.kept (
    λ i. Some (record (place_in program levels) { left = came.3 i }))

-- ---- what is ahead

drop-some : {A : Type 0} (xs : List A) (i : ℕ) (y : A) (ys : List A) → drop i xs ≡ y ∷ ys → i < length xs
drop-some [] zero y ys e = cc
drop-some [] (suc i) y ys e = cc
drop-some (x ∷ xs) zero y ys e = omega arith
drop-some (x ∷ xs) (suc i) y ys e = let rest = drop-some xs i y ys e in omega (arith, rest)

-- where no constant stands ahead of a process whose turn it is, an operation does
pub ahead-there : (t : TurnOf) (turning : IsTurning t) → IsTopRunning t turning → IsPastPushes (unit_code t.program t.level.unit) t.level.index → t.level.index < length (unit_code t.program t.level.unit)
ahead-there t turning runs past = by_ahead (drop t.level.index (unit_code t.program t.level.unit)) refl where
  by_ahead : (is : List Instruction) → drop t.level.index (unit_code t.program t.level.unit) ≡ is → t.level.index < length (unit_code t.program t.level.unit)
  by_ahead [] none =
      let simulated = ahead-simulated turning runs past (λ line o behind e. cc) in
      absurd (
      subst (λ rows. IsEffectOf t turning (effect_ahead (unit_code t.program t.level.unit) (unit_arrays t.program t.level.unit) (top_frame t).first rows t.machine.arena.contents t.operands t.level.index)) none simulated)
  by_ahead (x ∷ xs) some = drop-some (unit_code t.program t.level.unit) t.level.index x xs some

pub here-at : {program : Units} {p : ℕ} {m : CoreState} (turn : IsItsTurn program p m) → IsTopRunning (its-turn turn) (turns turn) → IsPastPushes (unit_code program turn.living.level.unit) turn.living.level.index
    → IsHere program (place_in program turn.living) (start_in turn.living)
here-at turn runs past = record { unit = refl; left = refl; values = refl; past = past; inside = ahead-there (its-turn turn) (turns turn) runs past }

-- ---- behind the constants that stand ahead of a process

module _ {program : Units} {p : ℕ} {m : CoreState} (turn : IsItsTurn program p m) (tops : (t : TurnOf) → t.program ≡ program → (turning : IsTurning t) → IsTopRunning t turning) where
  abbrev code : List Instruction
  code = unit_code program turn.living.level.unit

  abbrev pub start-ahead : Start
  start-ahead =
      record {
        unit = turn.living.level.unit;
        index = turn.living.level.index + values_ahead (drop turn.living.level.index code);
        operands = turn.living.operands ++ pushed_ahead (drop turn.living.level.index code);
        values = values_at (snapshot_of m).arena.contents (frame_under (snapshot_of m).nodes turn.living.level.key).first;
      }

  pub here-ahead : IsHere program (place_in program turn.living) start-ahead
  here-ahead =
      let left = left-same code turn.living.operands turn.living.level.index in
      let past = past-here code turn.living.operands turn.living.level.index in
      let t = turn_settled (its-turn turn) start-ahead.operands start-ahead.index in
      let turning : IsTurning t = settled (turns turn) start-ahead.operands start-ahead.index (λ k work stands. record { fits = stands.fits; rest = stands.rest; same = stands.same ∙ sym left }) in
      record { unit = refl; left = left; values = refl; past = past; inside = ahead-there t turning (tops t refl turning) past }

-- there the same step comes next
module _ (cells : List ℕ) (code : List Instruction) (operands : List Value) (index : ℕ) (values : Values) where
  abbrev put : OwnState
  put = private.settled code (begun index operands values)

  none : (pushed_ahead (drop put.index code) ≡ []) × (values_ahead (drop put.index code) ≡ 0)
  none = by_ahead (drop put.index code) refl where
    by_ahead : (is : List Instruction) → drop put.index code ≡ is → (pushed_ahead is ≡ []) × (values_ahead is ≡ 0)
    by_ahead [] e = (refl, refl)
    by_ahead (Push v ∷ is) e = absurd (past-here code operands index v (dropped-first code put.index (Push v) is e))
    by_ahead (_ ∷ is) e = (refl, refl)

  settled-again : private.settled code put ≡ put
  settled-again =
      let at : put.index + values_ahead (drop put.index code) ≡ put.index = omega (arith, none.1) in
      let having : put.operands ++ pushed_ahead (drop put.index code) ≡ put.operands = ap (λ vs. put.operands ++ vs) none.0 ∙ append-nil put.operands in
      λ i. record put { index = at i; operands = having i }

  pub next-again : next_made cells code put ≡ next_made cells code (begun index operands values)
  next-again = ap (λ (o : OwnState). if_room cells o (made_ahead cells o (drop o.index code))) settled-again

-- ---- a place has one start

tail-of : List Instruction → List Instruction
tail-of [] = []
tail-of (i ∷ is) = is

value-first : Value → List Instruction → Value
value-first v (Push w ∷ is) = w
value-first v _ = v

length-dropped : {A : Type 0} (xs : List A) (i : ℕ) → i < length xs → length (drop i xs) ≡ length xs - i
length-dropped [] i lt = absurd (omega (arith, lt))
length-dropped (x ∷ xs) zero lt = omega arith
length-dropped (x ∷ xs) (suc i) lt = let rest : length (drop i xs) ≡ length xs - i = length-dropped xs i (omega (arith, lt)) in omega (arith, rest)

-- the same is to be done, no constant stands ahead, and something does: so they are the same operands, at the same index
left-once : (code : List Instruction) (vs ws : List Value) (i j : ℕ) → IsPastPushes code i → IsPastPushes code j → i < length code → j < length code → left_to_do vs i code ≡ left_to_do ws j code → (vs ≡ ws) × (i ≡ j)
unfolding tail-of value-first
left-once code [] [] i j past gone lt le same =
    let long = sym (length-dropped code i lt) ∙ (ap (λ (is : List Instruction). length is) same ∙ length-dropped code j le) in
    (refl, omega (arith, long, lt, le))
left-once code [] (w ∷ ws) i j past gone lt le same = absurd (past w (dropped-first code i (Push w) (left_to_do ws j code) same))
left-once code (v ∷ vs) [] i j past gone lt le same = absurd (gone v (dropped-first code j (Push v) (left_to_do vs i code) (sym same)))
left-once code (v ∷ vs) (w ∷ ws) i j past gone lt le same =
    let rest = left-once code vs ws i j past gone lt le (ap tail-of same) in
    ((λ k. ap (value-first v) same k ∷ rest.0 k), rest.1)

pub start-once : {program : Units} {place : ProcessPlace} (a b : Start) → IsHere program place a → IsHere program place b → a ≡ b
start-once {program} {place} a b here there =
    let unit : a.unit ≡ b.unit = here.unit ∙ sym there.unit in
    let values = here.values ∙ sym there.values in
    let code : unit_code program b.unit ≡ unit_code program a.unit = ap (λ u. unit_code program u) (sym unit) in
    let left = here.left ∙ (sym there.left ∙ ap (λ c. left_to_do b.operands b.index c) code) in
    let once =
    left-once (unit_code program a.unit) a.operands b.operands a.index b.index here.past (subst (λ c. IsPastPushes c b.index) code there.past) here.inside (subst (λ (c : List Instruction). b.index < length c) code there.inside) left in
    λ i. record { unit = unit i; index = once.1 i; operands = once.0 i; values = values i }
