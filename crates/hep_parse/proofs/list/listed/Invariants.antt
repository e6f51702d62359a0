use Rattle.std.proofs.Common.{◌≡◌, length, ◌-◌}
use Rattle.hep_parse.specs.ReadingLists.{parts_after, listed}
use Rattle.hep_parse.proofs.ListLoops.{with_parts}
use Rattle.hep_parse.proofs.list.listed.Given as goal

abbrev pub invariant-loop-turn : goal.invariant-loop-turn
invariant-loop-turn g l = with_parts l.parts.items (parts_after (g.P.Readable.part_at l.fn.context) (length l.fn.s - l._turn) l.rest) ≡ listed (g.P.Readable.part_at l.fn.context) l.fn.s
