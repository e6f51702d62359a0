use Rattle.std.proofs.Common.{◌≡◌, ◌||◌, ◌∙◌, Bool, ap₂, ap, false, is_some, sym}
use Rattle.hep_command.specs.Explanations.{ends, faults, is_among, statuses, terms}
use Rattle.hep_command.proofs.fault_texts.meaning.Goals as goal

pub returns : goal.returns
returns c =
    let name = c.args.name.now in
    let no_fault : is_among faults name ≡ false = sym c.meaning_among.ensures ∙ ap is_some c.in_default.is in
    let no_end : is_among ends name ≡ false = sym c.meaning_among-2.ensures ∙ ap is_some c.in_default-meaning_among.is in
    let no_status : is_among statuses name ≡ false = sym c.meaning_among-3.ensures ∙ ap is_some c.in_default-meaning_among-2.is in
    c.meaning_among-4.ensures
    ∙ sym (ap₂ (λ (fault end : Bool). fault || (end || (is_among statuses name || is_among terms name))) no_fault no_end
    ∙ ap (λ (status : Bool). status || is_among terms name) no_status)
