use Rattle.std.proofs.Common.{ap, length, ◌∙◌, arith}
use Rattle.std.specs.Option.{is_some}
use Rattle.hep_arena.specs.Lengths.{lower_holes}
use Rattle.hep_arena.proofs.RowLengths.{fit-read}
use Rattle.hep_arena.proofs.Limits.{fits-below, fits-last}
use Rattle.hep_arena.proofs.holes.Holes.fits.Goals as goal

pub returns-then-least-len : goal.returns-then-least-len
returns-then-least-len c =
    let h = c.args.self.now in
    fits-last c.args.n c.max-least.result h.limit (length h.lengths) (lower_holes h) c.requires.limited.lower c.requires.limited.inside c.max-least.ensures
    (omega (arith, c.max-least.ensures)) (omega (arith, c.if-least-len.true, c.len.ensures.places))

pub returns : goal.returns
returns c =
    let h = c.args.self.now in
    c.is_some.ensures ∙ ap is_some (c.first_of.ensures.first ∙ fit-read 0 c.max-least.result h.lengths (omega (arith, c.max-least.ensures)))
    ∙ fits-below c.args.n c.max-least.result h.limit (length h.lengths) (lower_holes h) c.requires.limited.lower c.requires.limited.inside c.max-least.ensures (omega (arith, c.if-least-len.false, c.len.ensures.places))
