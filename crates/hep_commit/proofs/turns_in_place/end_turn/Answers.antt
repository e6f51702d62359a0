use Rattle.std.proofs.Common.{◌≡◌, ◌+◌, ◌-◌, ℕ, suc, inl, is_some, refl, sym, ap, ◌∙◌, subst, arith}
use Rattle.hep_machine.specs.Words.{Units}
use Rattle.hep_advance.proofs.SilentTurns.{none-made}
use Rattle.hep_private.specs.OwnState.{begun}
use Rattle.hep_advance.specs.SilentRuns.{MakesMoves}
use Rattle.hep_state.specs.declared.core_state.CoreState.{CoreState}
use Rattle.hep_state.specs.Words.{snapshot_of}
use Rattle.hep_state.proofs.UnchangedStates.{top-shown}
use Rattle.hep_private.specs.Batches.{HasNoPrivate}
use Rattle.hep_commit.specs.SegmentStarts.{start_in}
use Rattle.hep_commit.proofs.turns_in_place.end_turn.Goals.{Joined-then-steps, then-steps-via-then-steps, then-steps-via-else-steps+then-not-is_next_private}
use Rattle.hep_commit.proofs.turns_in_place.end_turn.Goals as goal

-- no step was made
still : (program : Units) (p n : ℕ) (old new : CoreState) → n ≡ 0 → new ≡ old → MakesMoves program p old n new
still program p n old new zero same = subst (λ m. MakesMoves program p old n m) (sym same) (subst (λ k. MakesMoves program p old k old) (sym zero) (none-made program p old))

-- ---- there were no private ones

pub returns-then-steps-eq0-clause-gone : goal.returns-then-steps-eq0-clause-gone
returns-then-steps-eq0-clause-gone c = still c.args.prepared.now.image.now c.args.p (0 - c.args.steps) c.args.machine.now c.args.machine.now (omega arith) refl

pub returns-then-steps-eq0-clause-none : goal.returns-then-steps-eq0-clause-none
returns-then-steps-eq0-clause-none c zero = top-shown c.args.p c.args.prepared.now.image.now (snapshot_of c.args.machine.now) (snapshot_of c.args.machine.now) refl

-- ---- the next one isn't private

pub returns-then-turn_by_table-eq0-clause-gone : goal.returns-then-turn_by_table-eq0-clause-gone
returns-then-turn_by_table-eq0-clause-gone c =
    let none : c.turn_by_table.result ≡ 0 - c.args.steps = omega (arith, c.if-turn_by_table-eq0.true) in
    subst (λ k. MakesMoves c.args.prepared.now.image.now c.args.p c.args.machine.now k c.turn_by_table.new.machine) none c.turn_by_table.ensures.gone

pub returns-then-stands_alone-clause-ended : goal.returns-then-stands_alone-clause-ended
returns-then-stands_alone-clause-ended c some =
    let program = c.args.prepared.now.image.now in
    let more : c.args.steps + 1 ≡ suc c.args.steps = omega arith in (
      omega (arith, c.if-steps-eq0.false),
      inl (
        more,
        λ levels.
            let none : HasNoPrivate program levels.level.unit levels.level.index = subst (λ us. HasNoPrivate us levels.level.unit levels.level.index) c.requires.prepared.ahead (c.if-stands_alone.ensures refl levels) in
            sym (ap (λ made. is_some made) (none (begun levels.level.index levels.operands (start_in levels).values) refl)),
      ),
    )

pub returns-then-stands_alone-clause-gone : goal.returns-then-stands_alone-clause-gone
returns-then-stands_alone-clause-gone c =
    let one : c.turn_by_table.result ≡ c.args.steps + 1 - c.args.steps = omega (arith, c.turn_by_table.ensures.few, c.if-turn_by_table-eq0.false) in
    subst (λ k. MakesMoves c.args.prepared.now.image.now c.args.p c.args.machine.now k c.turn_by_table.new.machine) one c.turn_by_table.ensures.gone

-- ---- it may be private, and no turn ends there

same : (c : Joined-then-steps) → c.then-steps.machine ≡ c.args.machine.now
same c = elim c.then-steps.branch [
  | then-steps-via-then-steps w ↦ w.machine-is
  | then-steps-via-else-steps+then-not-is_next_private w ↦ w.machine-is ∙ w.is_next_private.ensures.same
]

pub returns-then-steps-clause-gone : goal.returns-then-steps-clause-gone
returns-then-steps-clause-gone c = still c.args.prepared.now.image.now c.args.p (0 - c.args.steps) c.args.machine.now c.then-steps.machine (omega arith) (same c)

pub returns-then-steps-clause-none : goal.returns-then-steps-clause-none
returns-then-steps-clause-none c zero = top-shown c.args.p c.args.prepared.now.image.now (snapshot_of c.args.machine.now) (snapshot_of c.then-steps.machine) (ap (λ m. snapshot_of m) (same c))

-- ---- it is private

pub returns-clause-gone : goal.returns-clause-gone
returns-clause-gone c = still c.args.prepared.now.image.now c.args.p (c.args.steps - c.args.steps) c.args.machine.now c.is_next_private.new.machine (omega arith) c.is_next_private.ensures.same
