use Rattle.std.proofs.Common.{◌≡◌, length, ◌-◌}
use Rattle.hep_parse.specs.Declaration.{parts_to_end, up_to_end}
use Rattle.hep_parse.proofs.EndLoops.{with_before}
use Rattle.hep_parse.proofs.declaration.up_to_end.Given as goal

abbrev pub invariant-loop-turn : goal.invariant-loop-turn
invariant-loop-turn g l = with_before l.parts.items (parts_to_end (g.P.Readable.part_at l.fn.context) (length l.fn.s - l._turn) l.rest) ≡ up_to_end (g.P.Readable.part_at l.fn.context) l.fn.first l.fn.s
