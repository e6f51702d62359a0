use Rattle.std.proofs.Common.{◌≡◌, ◌++◌, drop}
use Rattle.std.specs.List.{filter}
use Rattle.hep_formats.specs.LineWords.{is_other}
use Rattle.hep_formats.proofs.short_action.append_dense.Given as goal

abbrev pub invariant-loop-character : goal.invariant-loop-character
invariant-loop-character l =
    l.text.items ++ filter (is_other 32) (drop l.character-index l.characters) ≡ l.fn.text.items ++ filter (is_other 32) l.characters
