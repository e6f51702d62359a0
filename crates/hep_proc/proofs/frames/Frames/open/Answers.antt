use Rattle.hep_arena.specs.Holes.{first_fit}
use Rattle.std.proofs.Common.{◌∙◌, ap}
use Rattle.hep_layout.specs.Words.{first_nodes}
use Rattle.hep_proc.specs.Nodes.{nodes_of}
use Rattle.hep_proc.proofs.Opened.{opened-keeps, opened-layout}
use Rattle.hep_proc.proofs.Slabs.{opened-nodes}
use Rattle.hep_proc.proofs.BegunActivations.{fit-there}
use Rattle.hep_proc.proofs.frames.Frames.open.Goals as goal

pub returns-clause-opened : goal.returns-clause-opened
returns-clause-opened c program s wanted unused starts same size blank =
    let fit = fit-there (first_fit c.args.cells c.args.self.now.arena.holes) c.requires.gap in
    let nodes = opened-nodes (nodes_of c.args.self.now.nodes) (nodes_of c.add.new.self.nodes) c.add.result c.args.unit fit.0 c.args.cells unused.none (c.add.ensures.node fit.0 fit.1) c.add.ensures.others in
    let first = nodes ∙ ap (λ u. first_nodes c.add.result u fit.0 c.args.cells) same in
    let took = c.add.ensures.taken fit.0 fit.1 in
    (_, opened-layout program s wanted c.args.self.now.arena c.add.new.self.arena (nodes_of c.args.self.now.nodes) (nodes_of c.add.new.self.nodes) c.add.result fit.0 c.args.cells unused starts size fit.1 took first blank, opened-keeps program s wanted c.args.self.now.arena c.add.new.self.arena (nodes_of c.args.self.now.nodes) (nodes_of c.add.new.self.nodes) c.add.result fit.0 c.args.cells unused starts size fit.1 took first blank)
