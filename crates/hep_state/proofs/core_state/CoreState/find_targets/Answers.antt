use Rattle.std.proofs.Common.{◌≤◌, length, arith, Result, Ok, Err, IfOk, OnOk}
use Rattle.std.proofs.lemmas.Result.{IfErr-weaker}
use Rattle.hep_image.specs.Addressing.{cells_in}
use Rattle.hep_image.specs.Image.{most_cells}
use Rattle.hep_step.specs.ReadyToPass.{ArePassable}
use Rattle.hep_step.specs.PurgedRanges.{ranges_of}
use Rattle.hep_step.specs.PurgeReady.{AreOut}
use Rattle.hep_step.specs.Cells.{HasFrame}
use Rattle.hep_state.specs.Words.{snapshot_of, turn_of}
use Rattle.hep_state.proofs.CallerRoom.{IsRead, can-read, found-read, of-read, unit-inside}
use Rattle.hep_state.proofs.core_state.CoreState.find_targets.Goals.{After-deref}
use Rattle.hep_state.proofs.core_state.CoreState.find_targets.Goals as goal
use Rattle.hep_source.proofs.Tests.{dropped-first}

pub place-at-requires : goal.place-at-requires
place-at-requires c = record { numbers = c.requires.at.2.numbers; living = c.requires.at.3.levels }

-- ---- what is named

-- by what was read
read : (c : After-deref) → IsRead c.args.image.now c.args.self.now c.args.p c.place-at.result c.index-process.result.now c.behind.result.0.now c.behind.result.1.now c.behind.result.2 0 c.deref.result.now
read c = record { numbers = c.requires.at.2.numbers; place = c.place-at.ensures; process = c.index-process.ensures; behind = c.behind.ensures; operands = c.deref.ensures.value }

pub behind-requires : goal.behind-requires
behind-requires c = can-read c.args.self.now c.requires.at.3 c.requires.at.2.numbers c.place-at.ensures c.index-process.ensures

pub find_ranges-requires : goal.find_ranges-requires
find_ranges-requires c =
    let r = c.requires.at in
    let purge = c.args.purge in
    let m = snapshot_of c.args.self.now in
    let t = turn_of r.3 in
    let law = c.purges_can_be_made.ensures in
    let accepted = c.is_runnable.ensures.accepted in
    let main = c.is_runnable.ensures.main in
    let here = read (goal.at.find_ranges-requires c).After-deref in
    let few : length m.arena.contents ≤ most_cells = omega (arith, r.2.few, r.2.after.size) in
    record {
      frame = of-read here purge.count r.3 (λ f xs ps. HasFrame m.arena f) (law.framed t purge accepted main few r.3.holds);
      passable = of-read here purge.count r.3 (λ f xs ps. ArePassable m.arena xs f ps) (law.passable t purge accepted main r.3.holds);
      out = of-read here purge.count r.3 (λ f xs ps. AreOut m.arena xs f ps) (law.out t purge accepted main r.3.holds);
      room = r.2.to_pass.ranges t.level.unit t.level.index purge.line purge.count purge.next (unit-inside c.args.self.now r.3) (dropped-first _ t.level.index _ r.3.holds.behind r.3.holds.ahead);
    }

-- ---- what comes of it

when-ok : {A E : Type 0} {P : A → Type 0} {Q : Type 0} (r : Result A E) → IfOk r P → ((x : A) → P x → Q) → OnOk r Q
when-ok (Ok x) h f = f x h
when-ok (Err e) h f = tt

pub returns-clause-found : goal.returns-clause-found
returns-clause-found c =
    let before = (goal.at.returns-clause-found c).After-deref in
    when-ok c.find_ranges.result c.find_ranges.ensures.ranges (λ _ is cells choices at. found-read (read before) c.args.purge.count at (ranges_of (cells_in c.args.self.now.frames.arena.contents)) (Ok c.find_ranges.new.ranges.items) is)

pub returns-clause-fault : goal.returns-clause-fault
returns-clause-fault c =
    let before = (goal.at.returns-clause-fault c).After-deref in
    IfErr-weaker c.find_ranges.result _ _ (λ kind is cells choices at.
    let ranges = found-read (read before) c.args.purge.count at (ranges_of (cells_in c.args.self.now.frames.arena.contents)) (Err kind) is in
    record { levels = at.levels; top = at.top; holds = c.purges_are_shown.ensures.range (turn_of at) c.args.purge kind c.is_runnable.ensures.accepted c.is_runnable.ensures.main at.holds ranges }) c.find_ranges.ensures.fault
