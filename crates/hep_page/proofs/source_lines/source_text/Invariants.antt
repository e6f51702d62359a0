use Rattle.std.proofs.Common.{◌≡◌, ◌++◌, length}
use Rattle.hep_page.specs.SourceLines as words
use Rattle.hep_page.proofs.source_lines.source_text.Given as goal

abbrev pub decreases-loop-rest : goal.decreases-loop-rest
decreases-loop-rest l = length l.rest

abbrev pub invariant-loop-rest : goal.invariant-loop-rest
invariant-loop-rest l = l.text.items ++ words.source_text l.rest ≡ words.source_text l.source
