use Rattle.std.proofs.Common.{◌+◌, ◌∙◌, ap, arith, drop, map, sym}
use Rattle.std.proofs.lemmas.List.{drop_all, length-map}
use Rattle.hep_proc.specs.Nodes.{nodes_of}
use Rattle.hep_state.specs.Words.{snapshot_of, stack_numbered}
use Rattle.hep_state.proofs.ProcessNumbers.{length-stacks}
use Rattle.hep_explore.specs.Contents.{held_stack}
use Rattle.hep_explore.specs.Keys.{stack_words}
use Rattle.hep_explore.proofs.KeyLists.{all-appended, appended, stack-next}
use Rattle.hep_explore.proofs.key_processes.append_processes.Goals as goal

pub loop-before-preserved : goal.loop-before-preserved
loop-before-preserved c =
    let m = c.args.machine.now in
    let f = held_stack (nodes_of m.frames.nodes) in
    let stacks = (snapshot_of m).processes in
    let at = c.loop-before.before in
    appended stack_words _ c.loop-before.words.items c.append_numbered.new.words.items (map f stacks) (map f (drop at stacks))
    (map f (drop (at + 1) stacks)) (f (stack_numbered m.processes.items (at + 1)))
    (ap (map f) (stack-next m.processes.items m.made at c.loop-before-test.true)) c.loop-before.invariant c.in_ok-append_numbered.ensures

pub returns : goal.returns
returns c =
    let m = c.args.machine.now in
    let f = held_stack (nodes_of m.frames.nodes) in
    let stacks = (snapshot_of m).processes in
    let at = c.loop-before.before in
    let count = length-stacks m.processes.items 1 m.made in
    let none = ap (map f) (drop_all at stacks (omega (arith, c.loop-before-test.false, count))) in
    all-appended stack_words c.args.words.now.items c.loop-before.words.items c.push.new.self.items m.made (map f stacks)
    (map f (drop at stacks)) none (sym (length-map stacks f ∙ count)) c.in_ok-push.ensures.items c.loop-before.invariant
