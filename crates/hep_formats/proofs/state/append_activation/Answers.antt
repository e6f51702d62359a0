use Rattle.std.proofs.Common.{◌++◌, ◌∙◌, List, ℕ, codes}
use Rattle.hep_formats.specs.Strings.{json_string}
use Rattle.hep_formats.proofs.Appended.{two}
use Rattle.hep_formats.proofs.state.append_activation.Goals as goal

pub returns : goal.returns
returns c =
    let text : List ℕ = c.args.text.now.items in
    two text (codes "\"activation\":" ++ c.word_at.result.now) (codes ",\"unit\":" ++ json_string c.word_at-2.result.now)
    c.in_ok-append_word.ensures c.in_ok-append_string.ensures
    ∙ (λ i. text ++ ((codes "\"activation\":" ++ c.word_at.ensures i) ++ (codes ",\"unit\":" ++ json_string (c.word_at-2.ensures i))))
