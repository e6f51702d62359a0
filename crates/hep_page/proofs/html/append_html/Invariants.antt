use Rattle.std.proofs.Common.{◌≡◌, ◌++◌, drop}
use Rattle.hep_page.specs.Html.{html}
use Rattle.hep_page.proofs.html.append_html.Given as goal

abbrev pub invariant-loop-character : goal.invariant-loop-character
invariant-loop-character l = l.text.items ++ html (drop l.character-index l.characters) ≡ l.initial.text.items ++ html l.characters
