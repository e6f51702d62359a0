use Rattle.std.proofs.Common.{◌≡◌, ◌+◌, ◌-◌, ◌<◌, ◌++◌, suc, List, length, map, sym, ap, ◌∙◌, append-nil, arith}
use Rattle.hep_replay.specs.CoreValues.{state_of}
use Rattle.hep_views.specs.declared.listed.Listed.{Listed}
use Rattle.hep_why.specs.declared.watch.Watch.{Watch}
use Rattle.hep_why.specs.Watches.{listed_from}
use Rattle.hep_why.proofs.ListedWatches.{none-there, none-yet, turn}
use Rattle.hep_why.proofs.watch_updates.all_watches.Goals as goal

pub loop-index-init : goal.loop-index-init
loop-index-init c =
    let core = c.args.core.now.core in
    record {
      listed = none-yet core.program core.history (length (state_of core).processes) c.new-watches.result.items c.new-watches.ensures.items;
      each = λ i w e. absurd (none-there c.new-watches.result.items i w c.new-watches.ensures.items e);
    }

pub loop-index-preserved : goal.loop-index-preserved
loop-index-preserved c =
    let core = c.args.core.now.core in
    let i = c.loop-index.index in
    let less : i < length (state_of core).processes = omega (arith, c.loop-index-test.true, c.made-index-end.ensures) in
    let next : i + 1 ≡ suc i = omega arith in
    record {
      listed = turn core.program core.history i (i + 1) (length (state_of core).processes) _ _ _ less next
          c.loop-index.invariant.listed c.in_ok-add_watch.ensures.listed;
      each = c.in_ok-add_watch.ensures.each c.loop-index.invariant.each;
    }

pub returns-clause-listed : goal.returns-clause-listed
returns-clause-listed c =
    let core = c.args.core.now.core in
    let n = length (state_of core).processes in
    let none : n - c.loop-index.index ≡ 0 = omega (arith, c.loop-index-test.false, c.made-index-end.ensures) in
    let found : List Listed = map (λ (w : Watch). w.listed) c.loop-index.watches.items in
    sym (append-nil found) ∙ ap (λ k. found ++ listed_from core.program core.history (suc c.loop-index.index) k) (sym none)
    ∙ c.loop-index.invariant.listed

pub returns-clause-each : goal.returns-clause-each
returns-clause-each c = c.loop-index.invariant.each
