use Rattle.std.proofs.Common.{◌++◌, ◌∙◌, List, ℕ, ap, codes}
use Rattle.hep_formats.specs.Strings.{json_string}
use Rattle.hep_formats.specs.LineWords.{word_at}
use Rattle.hep_formats.specs.WhyObjects.{fate}
use Rattle.hep_formats.proofs.Appended.{three}
use Rattle.hep_formats.proofs.why.append_change_members.Goals as goal

pub returns : goal.returns
returns c =
    let text : List ℕ = c.args.text.now.items in
    let became = c.fate.ensures ∙ ap fate c.word_at.ensures in
    let did = c.word_at-2.ensures ∙ ap (word_at 0) c.deed.ensures in
    three text (codes ",\"state\":" ++ c.fate.result.now) (codes ",\"did\":" ++ json_string c.word_at-2.result.now)
    (codes ",\"entry\":" ++ c.word_at-3.result.now)
    c.in_ok-append_word.ensures c.in_ok-append_string.ensures c.in_ok-append_word-2.ensures
    ∙ (λ i. text ++ ((codes ",\"state\":" ++ became i) ++ (codes ",\"did\":" ++ json_string (did i)) ++ (codes ",\"entry\":" ++ c.word_at-3.ensures i)))
