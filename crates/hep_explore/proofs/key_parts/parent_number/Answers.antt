use Rattle.std.proofs.Common.{◌∙◌, sym}
use Rattle.hep_proc.proofs.Slabs.{some-value}
use Rattle.hep_explore.proofs.key_parts.parent_number.Goals as goal

pub parent-requires : goal.parent-requires
parent-requires c = some-value c.args.frames.now.nodes c.args.key c.requires.node c.requires.there

pub activation-requires : goal.activation-requires
activation-requires c =
    let up = c.requires.above c.in-Some.above (sym (c.parent.ensures c.requires.node c.requires.there) ∙ c.in-Some.is) in
    some-value c.args.frames.now.nodes c.in-Some.above up.0 up.1
