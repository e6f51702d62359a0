use Rattle.std.proofs.Common.{[], sym, ap, ◌∙◌}
use Rattle.std.proofs.lemmas.Option.{none-some, same_Some}
use Rattle.hep_image.specs.Names.{variable_number}
use Rattle.hep_state_text.specs.WaitTexts.{name_seen}
use Rattle.hep_machine.specs.Words.{run, unit_of}
use Rattle.hep_trace.proofs.PlaceWords.{name-so}
use Rattle.hep_trace.proofs.purge_targets.name_of.Goals as goal

pub returns-in-Some : goal.returns-in-Some
returns-in-Some c cells choices top x ahead named =
    let program = c.args.ahead.now.image.now in
    let number = c.in-Some.number in
    let is = same_Some number (variable_number program (unit_of (run program choices) top.0.activation) x) (sym c.in-Some.is ∙ c.number_of.ensures cells choices top x ahead named) in
    c.name_with.ensures
    ∙ ap name_seen (name-so program cells choices c.args.ahead.now.machine.now c.args.ahead.now.process top c.is_runnable.ensures.accepted c.is_runnable.ensures.main ahead.lives (x, []) c.args.variable named number is)

pub returns-in-None : goal.returns-in-None
returns-in-None c cells choices top x ahead named = absurd (none-some _ (sym c.in-None.is ∙ c.number_of.ensures cells choices top x ahead named))
