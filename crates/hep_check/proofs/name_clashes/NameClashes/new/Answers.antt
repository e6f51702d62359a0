use Rattle.std.proofs.Common.{nat_eq}
use Rattle.indexmap.specs.IndexMap.{get}
use Rattle.hep_check.proofs.NotedNames.{names-next}
use Rattle.hep_check.proofs.name_clashes.NameClashes.new.Goals as goal

pub loop-ambiguity-preserved : goal.loop-ambiguity-preserved
loop-ambiguity-preserved c = λ line.
    names-next line (get nat_eq c.loop-ambiguity.names.map line) (get nat_eq c.note_ambiguity.new.names line) _ c.deref-ambiguity-items.result.now c.loop-ambiguity.ambiguity-index _
    c.loop-ambiguity-test.true (c.loop-ambiguity.invariant line) (c.in_ok-note_ambiguity.ensures line)
