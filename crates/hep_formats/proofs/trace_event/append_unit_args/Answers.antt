use Rattle.std.proofs.Common.{◌∙◌, ◌++◌, List, ℕ, ap, append_assoc, codes, sym}
use Rattle.std.proofs.lemmas.Result.{on_ok_weaker}
use Rattle.hep_formats.specs.TraceEvents.{named, unit_args}
use Rattle.hep_formats.specs.TurnMarks.{first_word}
use Rattle.hep_formats.proofs.trace_event.append_unit_args.Goals as goal

pub returns : goal.returns
unfolding unit_args
returns c =
    let text = c.args.text.now.items in
    let key = codes ",\"args\":{\"entry\":" in
    let entry = first_word c.args.line.now in
    let unit = codes ",\"unit\":" in
    let last = named unit c.unit_of.result.now in
    on_ok_weaker c.append_named.result (λ is.
    is
    ∙ ap (λ (t : List ℕ). t ++ last) c.in_ok-append_pair.ensures
    ∙ ap (λ (word : List ℕ). text ++ key ++ word ++ last) c.first_word.ensures
    ∙ append_assoc (text ++ key) entry last
    ∙ append_assoc text key (entry ++ last)
    ∙ ap (λ (t : List ℕ). text ++ t) (sym (append_assoc key entry last))
    ∙ ap (λ (name : List ℕ). text ++ (key ++ entry ++ named unit name)) c.unit_of.ensures) c.append_named.ensures
