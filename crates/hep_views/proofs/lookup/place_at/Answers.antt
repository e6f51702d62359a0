use Rattle.std.proofs.Common.{refl, sym, subst, arith, IsSome, ℕ, List}
use Rattle.slab.specs.Slab.{get}
use Rattle.hep_machine.specs.Words.{Location}
use Rattle.hep_views.specs.CellOwners.{IsSought}
use Rattle.hep_views.proofs.Places.{IsRead, held-there, in-common, in-frame, read-there, common-place}
use Rattle.hep_views.proofs.lookup.place_at.Goals.{After-first, After-holder-at}
use Rattle.hep_views.proofs.lookup.place_at.Goals as goal

-- ---- in COMMON

pub in_common-requires-clause-there : goal.in_common-requires-clause-there
in_common-requires-clause-there c =
    let f = in-common c.args.image.now c.requires.0 c.requires.1 c.args.machine.now c.args.key c.args.cell c.requires.2 c.requires.3 (
    omega (arith, c.if-cell-common.true, c.common.ensures.common)) in
    (f.block, f.index, f.told)

pub returns-then-cell-common : goal.returns-then-cell-common
returns-then-cell-common c cells choices at h =
    let f = in-common c.args.image.now cells choices c.args.machine.now c.args.key c.args.cell at h (
    omega (arith, c.if-cell-common.true, c.common.ensures.common)) in
    common-place c.args.image.now cells choices c.args.machine.now c.args.key c.args.cell at h f c.in_common.result (c.in_common.ensures f.block f.index f.told)

-- ---- behind COMMON

pub holder-at-requires : goal.holder-at-requires
holder-at-requires c =
    let f = in-frame c.args.image.now c.requires.0 c.requires.1 c.args.machine.now c.args.key c.args.cell c.requires.2 c.requires.3 (
    omega (arith, c.if-cell-common.false, c.common.ensures.common)) in
    subst IsSome (sym f.holder.found) refl

-- the frame under the key that was found
there : (c : After-holder-at) → IsSome (get c.args.machine.now.frames.nodes c.holder-at.result)
there c =
    held-there c.args.image.now c.requires.0 c.requires.1 c.args.machine.now c.args.key c.args.cell c.requires.2 c.requires.3 (
    omega (arith, c.if-cell-common.false, c.common.ensures.common)) c.holder-at.result c.holder-at.ensures

pub unit-requires : goal.unit-requires
unit-requires c = there (goal.at.unit-requires c).After-holder-at

pub first-requires : goal.first-requires
first-requires c = there (goal.at.first-requires c).After-holder-at

pub activation-requires : goal.activation-requires
activation-requires c = there (goal.at.activation-requires c).After-holder-at

-- what is read of it
read : (c : After-first) (cells : ℕ) (choices : List ℕ) (at : Location) (h : IsSought c.args.image.now cells choices c.args.machine.now c.args.key c.args.cell at)
    → IsRead c.args.image.now cells choices c.args.machine.now c.args.key c.args.cell at h c.holder-at.result c.unit.result c.first.result
read c cells choices at h =
    read-there c.args.image.now cells choices c.args.machine.now c.args.key c.args.cell at h (omega (arith, c.if-cell-common.false, c.common.ensures.common)) c.holder-at.result c.unit.result c.first.result
    c.is_runnable.ensures.accepted c.is_runnable.ensures.main c.holder-at.ensures c.unit.ensures c.first.ensures

pub overflow_sub-cell : goal.overflow_sub-cell
overflow_sub-cell c = omega (arith, (read (goal.at.overflow_sub-cell c).After-first c.requires.0 c.requires.1 c.requires.2 c.requires.3).behind)

pub in_frame-requires : goal.in_frame-requires
in_frame-requires c =
    let r = read (goal.at.in_frame-requires c).After-first c.requires.0 c.requires.1 c.requires.2 c.requires.3 in
    record { few = r.few; unit = r.inside; there = (r.name, r.index, r.told) }

pub returns : goal.returns
returns c cells choices at h =
    let r = read (goal.at.returns c).After-first cells choices at h in
    r.place c.activation.result c.in_frame.result c.activation.ensures (c.in_frame.ensures r.name r.index r.told)
