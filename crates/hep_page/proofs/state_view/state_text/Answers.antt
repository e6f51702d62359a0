use Rattle.std.proofs.Common.{◌++◌, ◌∙◌, ℕ, List, ap, sym}
use Rattle.hep_state_text.specs.LineDisplay.{line_shown}
use Rattle.hep_state_text.specs.Lines.{head_text}
use Rattle.hep_page.specs.Changes.{PartTexts, parts_text, texts_of}
use Rattle.hep_page.proofs.Lead.{state-parts}
use Rattle.hep_page.proofs.state_view.state_text.Goals as goal

pub returns : goal.returns
returns c =
    let core = c.args.core.now.core in
    c.in_ok-append_state.ensures
    ∙ ap (λ (xs : List ℕ). xs ++ head_text c.args.entries ++ parts_text (texts_of c.in_ok-parts.parts)) c.new-text.ensures.items
    ∙ ap (λ (parts : PartTexts). head_text c.args.entries ++ parts_text parts) c.in_ok-parts.ensures
    ∙ sym (state-parts core.program (line_shown c.args.lines.now) c.args.entries core.history)
