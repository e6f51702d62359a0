use Rattle.std.proofs.Common.{◌≡◌, ◌≤◌, drop, vec_capacity, vec_len}
use Rattle.hep_image.specs.Addressing.{cells_in}
use Rattle.hep_step.specs.ArgumentList.{made_of_all}
use Rattle.hep_step.specs.PassedEntries.{passed_in}
use Rattle.hep_step.specs.ArgumentPassing.{made_by}
use Rattle.hep_step.specs.ReadyToPass.{ArePassable}
use Rattle.hep_step.proofs.PassedEntries.{made_behind}
use Rattle.hep_step.proofs.argument_list.make_from_entries.Given as goal

abbrev pub invariant-loop-entry : goal.invariant-loop-entry
invariant-loop-entry g l =
    let all = l.fn.all in
    let made_for = g.T.FromArgument.made_for in
    (made_behind l.made.items (made_by (made_for (cells_in all.arena.now.contents) all.frame.first all.arrays.now) (passed_in (drop l.entry-index l.entry-items) l.rest)) ≡ made_of_all made_for all)
    × ArePassable all.arena.now all.arrays.now all.frame (passed_in (drop l.entry-index l.entry-items) l.rest)
    × (vec_len l.made ≤ l.entry-index)
    × (vec_capacity l.fn.made ≤ vec_capacity l.made)
