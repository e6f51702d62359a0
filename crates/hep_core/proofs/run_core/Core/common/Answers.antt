use Rattle.std.proofs.Common.{◌≡◌, ◌<◌, ◌≤◌, ℕ, List, Some, None, length, sym, ◌∙◌, subst, arith, slice_get}
use Rattle.std.proofs.lemmas.Bool.Decides.{nat_tests}
use Rattle.hep_machine.specs.Words.{Units, common_cells}
use Rattle.hep_machine.specs.declared.slot.Slot.{Slot}
use Rattle.hep_arena.specs.Holes.{IsOut}
use Rattle.hep_arena.proofs.Gaps.{apart-end, front-out}
use Rattle.hep_core.proofs.Commons.{cell_of, common-at}
use Rattle.hep_views.specs.StoredContents.{common_read}
use Rattle.hep_core.proofs.run_core.Core.common.Goals as goal

pub get-requires-clause-inside : goal.get-requires-clause-inside
get-requires-clause-inside c =
    let i = c.self.inside in
    let after = c.self.invariant.after.after in
    let memory = after.shows.keeps.memory in
    omega (arith, c.if-common-at.false, c.common.ensures.common, apart-end (length i.machine.frames.arena.contents) (common_cells i.image) after.layout memory.laid.apart)

pub get-requires-clause-out : goal.get-requires-clause-out
get-requires-clause-out c =
    let i = c.self.inside in
    let after = c.self.invariant.after.after in
    let memory = after.shows.keeps.memory in
    let within : c.args.at < common_cells i.image = omega (arith, c.if-common-at.false, c.common.ensures.common) in
    subst (IsOut c.args.at) (sym memory.holes_are) (front-out (length i.machine.frames.arena.contents) (common_cells i.image) c.args.at after.layout memory.laid.apart within)

at-place : (program : Units) (contents : List Slot) (at : ℕ) (slot : Slot) → at < common_cells program → slice_get contents at ≡ Some slot → cell_of (slice_get (common_read program contents) at) ≡ Some slot
at-place program contents at slot less there =
    common-at program contents at ∙ grind (arith, nat_tests, less, there)

past-end : (program : Units) (contents : List Slot) (at : ℕ) → common_cells program ≤ at → cell_of (slice_get (common_read program contents) at) ≡ None
past-end program contents at past = common-at program contents at ∙ grind (arith, nat_tests, past)

pub returns-then-common-at : goal.returns-then-common-at
returns-then-common-at c =
    let i = c.self.inside in
    rw (← c.self.view_is) (sym (past-end i.image i.machine.frames.arena.contents c.args.at (omega (arith, c.if-common-at.true, c.common.ensures.common))))

pub returns : goal.returns
returns c =
    let i = c.self.inside in
    let within : c.args.at < common_cells i.image = omega (arith, c.if-common-at.false, c.common.ensures.common) in
    rw (← c.self.view_is) (sym (at-place i.image i.machine.frames.arena.contents c.args.at c.get.result within c.get.ensures))
