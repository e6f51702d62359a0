use Rattle.std.proofs.Common.{◌≡◌, [], ◌∷◌, ◌++◌, length, Some, sym, ap, ◌∙◌, subst, arith}
use Rattle.hep_machine.specs.Words.{numbered}
use Rattle.hep_step.specs.PurgeEffects.{purged}
use Rattle.hep_step.specs.PurgeReady.{AreReached}
use Rattle.hep_step.specs.Effects.{fails}
use Rattle.hep_proc.specs.Stacks.{stack_with}
use Rattle.hep_proc.specs.declared.frames.Frames.{Frames}
use Rattle.hep_state.specs.declared.core_state.CoreState.{CoreState}
use Rattle.hep_state.specs.declared.core_state.ArgumentBuffers.{ArgumentBuffers}
use Rattle.hep_state.specs.Words.{HasLevels, HasMadeTurn, HasPurged, HasRoomToPass, Snapshot, snapshot_of, IsToEnd, snapshot_moved, turn_of}
use Rattle.hep_state.proofs.OtherProcesses.{beside-again, beside-shown, beside-with}
use Rattle.hep_state.proofs.Purging.{reached-alike}
use Rattle.hep_state.proofs.UnchangedStates.{machine-of, rooms-of}
use Rattle.hep_state.proofs.core_state.CoreState.purge.Goals as goal

pub returns-in-Ok-clause-purged : goal.returns-in-Ok-clause-purged
returns-in-Ok-clause-purged c cells choices h at =
    let program = c.args.image.now in
    let p = c.args.p in
    let old = c.args.self.now in
    let m = snapshot_of old in
    let between = c.find_targets.new.self in
    let new = c.empty_targets.new.self in
    let ranges = between.passing.ranges.items in
    let accepted = c.is_runnable.ensures.accepted in
    let main = c.is_runnable.ensures.main in
    let found = c.in-Ok.ensures.found cells choices at in
    let same : snapshot_of between ≡ m = ap snapshot_of c.in-Ok.ensures.others in
    let t = turn_of at in
    let levels : HasLevels (snapshot_of between) p =
    record { level = t.level; below = t.below; operands = t.operands; pending = t.pending; kept = subst (λ (n : Snapshot). numbered n.processes p ≡ Some (stack_with t.level t.below t.operands t.pending)) (sym same) at.levels.kept } in
    let shown : snapshot_of new ≡ snapshot_moved t (purged ranges m.arena.contents) [] c.args.purge.next =
    c.empty_targets.ensures.moved levels ∙ (λ i. snapshot_moved (record t { machine = same i }) (purged ranges (same i).arena.contents) [] c.args.purge.next) in
    let stepped = subst (HasMadeTurn t) (sym shown) (c.purges_are_shown.ensures.stepped t c.args.purge ranges accepted main at.holds found) in
    let rooms = c.empty_targets.ensures.rooms program cells (c.in-Ok.ensures.rooms cells (rooms-of program cells choices old h)) in
    let purges = c.purges_are_shown.ensures.purged t c.args.purge ranges accepted main at.holds found in
    let size : length new.frames.arena.contents ≡ length old.frames.arena.contents = stepped.after.size ∙ sym h.after.size in
    let holes = ap (λ (n : Snapshot). n.arena.holes) shown in (
      stepped.stepped,
      machine-of program cells (choices ++ p ∷ []) new stepped.after rooms,
      subst (λ (ps : ArgumentBuffers). HasPurged program cells choices p ps.ranges.items) (sym c.empty_targets.ensures.passing) purges,
      subst (λ (ps : ArgumentBuffers). AreReached new.frames.arena ps.ranges.items) (sym c.empty_targets.ensures.passing) (reached-alike old.frames.arena new.frames.arena ranges size holes c.in-Ok.ensures.reached),
    )

pub returns-in-Err-clause-purged : goal.returns-in-Err-clause-purged
returns-in-Err-clause-purged c cells choices h at =
    let program = c.args.image.now in
    let p = c.args.p in
    let old = c.args.self.now in
    let between = c.find_targets.new.self in
    let new = c.fail.new.self in
    let line = c.args.purge.line in
    let kind = c.in-Err.kind in
    let ends = c.in-Err.ensures.fault cells choices at in
    let same : snapshot_of between ≡ snapshot_of old = ap snapshot_of c.in-Err.ensures.others in
    let stepped = c.fail.ensures.stepped program cells choices (subst (λ (n : Snapshot). IsToEnd program cells choices p n (fails line kind)) (sym same) ends) in
    let had = c.in-Err.ensures.rooms cells (rooms-of program cells choices old h) in
    let to_pass : HasRoomToPass program (record between.passing { ranges = c.clear.new.self }) =
    record {
      given = had.to_pass.given;
      shapes = had.to_pass.shapes;
      values = had.to_pass.values;
      ranges = λ u index line count next inside there. let room = had.to_pass.ranges u index line count next inside there in omega (arith, room, c.clear.ensures.capacity);
    } in
    let rooms = c.fail.ensures.rooms program cells (record { few = had.few; to_pass = to_pass; room = had.room; numbers = had.numbers }) in
    let none = ap (λ (m : CoreState). m.passing.ranges.items) c.fail.ensures.rest ∙ c.clear.ensures.items in (
      stepped.stepped,
      machine-of program cells (choices ++ p ∷ []) new stepped.after rooms,
      subst (HasPurged program cells choices p) (sym none) (c.purges_are_shown.ensures.nothing (turn_of ends) line kind ends.holds),
      subst (AreReached new.frames.arena) (sym none) tt,
    )

-- ---- what each part asks for

pub empty_targets-requires : goal.empty_targets-requires
empty_targets-requires c =
    let at = c.requires.at in
    let between = c.find_targets.new.self in
    let same : snapshot_of between ≡ snapshot_of c.args.self.now = ap snapshot_of c.in-Ok.ensures.others in
    let levels = at.3.levels in
    record {
      living = record { level = levels.level; below = levels.below; operands = levels.operands; pending = levels.pending; kept = subst (λ (n : Snapshot). numbered n.processes c.args.p ≡ Some (stack_with levels.level levels.below levels.operands levels.pending)) (sym same) levels.kept };
      numbers = (c.in-Ok.ensures.rooms at.0 (rooms-of c.args.image.now at.0 at.1 c.args.self.now at.2)).numbers;
      reached = subst (λ (frames : Frames). AreReached frames.arena between.passing.ranges.items) (sym (ap (λ (m : CoreState). m.frames) c.in-Ok.ensures.others)) c.in-Ok.ensures.reached;
      few = omega (arith, at.2.few, at.2.after.size, ap (λ (n : Snapshot). length n.arena.contents) same);
    }

pub fail-requires-clause-ending : goal.fail-requires-clause-ending
fail-requires-clause-ending c =
    let at = c.requires.at in
    let between = c.find_targets.new.self in
    let same : snapshot_of between ≡ snapshot_of c.args.self.now = ap snapshot_of c.in-Err.ensures.others in (
      c.args.image.now,
      at.0,
      at.1,
      subst (λ (n : Snapshot). IsToEnd c.args.image.now at.0 at.1 c.args.p n (fails c.args.purge.line c.in-Err.kind)) (sym same) (c.in-Err.ensures.fault at.0 at.1 at.3),
      (c.in-Err.ensures.rooms at.0 (rooms-of c.args.image.now at.0 at.1 c.args.self.now at.2)).numbers,
    )

pub returns-in-Ok-clause-others : goal.returns-in-Ok-clause-others
returns-in-Ok-clause-others c =
    let p = c.args.p in
    let old = snapshot_of c.args.self.now in
    let between = snapshot_of c.find_targets.new.self in
    let same : between ≡ old = ap snapshot_of c.in-Ok.ensures.others in
    let e = c.requires.at.3.levels in
    let levels : HasLevels between p = record { level = e.level; below = e.below; operands = e.operands; pending = e.pending; kept = ap (λ (s : Snapshot). numbered s.processes p) same ∙ e.kept } in
    beside-again p old between (snapshot_of c.empty_targets.new.self) (beside-shown p old between same) (
    beside-with p between (snapshot_of c.empty_targets.new.self) (stack_with e.level e.below e.operands e.pending) (stack_with (record e.level { index = c.args.purge.next }) e.below [] e.pending) levels.kept (
    ap (λ (s : Snapshot). s.processes) (c.empty_targets.ensures.moved levels)))

pub returns-in-Err-clause-others : goal.returns-in-Err-clause-others
returns-in-Err-clause-others c =
    let p = c.args.p in
    let old = snapshot_of c.args.self.now in
    let between = snapshot_of c.find_targets.new.self in
    beside-again p old between (snapshot_of c.fail.new.self) (beside-shown p old between (ap snapshot_of c.in-Err.ensures.others)) c.fail.ensures.others
