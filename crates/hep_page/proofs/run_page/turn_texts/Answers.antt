use Rattle.std.proofs.Common.{◌++◌, ◌∙◌, ℕ, List, ap, sym}
use Rattle.hep_core.specs.CoreValues.{CoreValue}
use Rattle.hep_machine.specs.Words.{progress_after}
use Rattle.hep_state_text.specs.LineDisplay.{line_shown}
use Rattle.hep_state_text.specs.Lines.{head_text}
use Rattle.hep_page.specs.Changes.{PartTexts, parts_of, parts_text, texts_of}
use Rattle.hep_page.proofs.Lead.{state-parts}
use Rattle.hep_page.proofs.run_page.turn_texts.Goals as goal

pub returns-clause-opening : goal.returns-clause-opening
returns-clause-opening c =
    let shown = line_shown c.args.lines.now in
    let n = c.args.entries in
    let history = c.args.again.core.history in
    c.in_ok-append_state.ensures
    ∙ ap (λ (xs : List ℕ). xs ++ head_text n ++ parts_text (texts_of c.in_ok-parts.parts)) c.new-opening.ensures.items
    ∙ ap (λ (parts : PartTexts). head_text n ++ parts_text parts) (
    c.in_ok-parts.ensures ∙ ap (λ (x : CoreValue). parts_of x.program shown (progress_after x.program x.history)) c.requires.standing)
    ∙ sym (state-parts c.args.core.now.core.program shown n history)
