use Rattle.indexmap.specs.IndexMap.{get}
use Rattle.hep_machine.specs.Words.{name_eq}
use Rattle.hep_types.proofs.Ways.{named-turn}
use Rattle.hep_types.proofs.repeated_names.lines_by_name.Goals as goal

pub loop-name-preserved : goal.loop-name-preserved
loop-name-preserved c = λ x.
    named-turn c.args.uses.now c.loop-name.name-index _ x (get name_eq c.loop-name.lines.map x) (get name_eq c.note_line.new.lines x) _
    c.loop-name-test.true (c.loop-name.invariant x) (c.in_ok-note_line.ensures x)
