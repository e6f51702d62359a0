use Rattle.std.proofs.Common.{◌≡◌, ◌-◌, length}
use Rattle.hep_parse.specs.ReadingConstant.{characters}
use Rattle.hep_parse.proofs.CharacterLoops.{with_characters}
use Rattle.hep_parse.proofs.constant.characters.Given as goal

abbrev pub invariant-loop-turn : goal.invariant-loop-turn
invariant-loop-turn l = with_characters l.read.items (characters (length l.fn.s - l._turn) l.rest) ≡ characters (length l.fn.s) l.fn.s
