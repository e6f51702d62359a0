use Rattle.std.proofs.Common.{◌∙◌, sym, arith}
use Rattle.std.specs.Option.{option_eq}
use Rattle.indexmap.specs.IndexMap.{get}
use Rattle.hep_machine.specs.Words.{name_eq}
use Rattle.hep_places.proofs.Lengths.{length-first, length-set}
use Rattle.hep_places.proofs.block_offsets.lengthen.Goals as goal

pub returns-in_ok-insert-in-Some-clause-lengthened : goal.returns-in_ok-insert-in-Some-clause-lengthened
returns-in_ok-insert-in-Some-clause-lengthened c = λ b.
    length-set (get (option_eq name_eq) c.args.lengths.now) (get (option_eq name_eq) c.insert.new.self) (get (option_eq name_eq) c.insert-in-Some.new.self) c.args.block b
    c.args.cells c.in-Some.before c.further.result (sym c.in_ok-before.ensures.old ∙ c.in-Some.is) c.further.ensures
    (c.in_ok-before.ensures.updates.0 b) (c.in_ok-insert-in-Some.ensures.updates.0 b)

pub returns-in-None-clause-lengthened : goal.returns-in-None-clause-lengthened
returns-in-None-clause-lengthened c = λ b.
    length-first (get (option_eq name_eq) c.args.lengths.now) (get (option_eq name_eq) c.insert.new.self) c.args.block b c.args.cells
    (sym c.in_ok-before.ensures.old ∙ c.in-None.is) (omega arith) (c.in_ok-before.ensures.updates.0 b)
