use Rattle.std.proofs.Common.{◌∙◌, ◌||◌, ap, sym}
use Rattle.std.specs.Str.{bytes_eq}
use Rattle.std.proofs.lemmas.Option.{none-some, same_Some}
use Rattle.hep_image.specs.Names.{variable_number}
use Rattle.hep_machine.specs.Words.{Reference, run, unit_of}
use Rattle.hep_state_text.specs.WaitTexts.{name_seen}
use Rattle.hep_trace.proofs.DeclaredNames.{declared-so}
use Rattle.hep_trace.proofs.PlaceWords.{name-so, sought-of}
use Rattle.hep_event.specs.AccessedNames.{is_name}
use Rattle.hep_trace.proofs.target_filter.is_called.Goals as goal

pub returns-in_default : goal.returns-in_default
returns-in_default c cells choices top x ahead named = absurd (none-some _ (sym c.in_default.is ∙ c.number_of.ensures cells choices top x ahead named))

pub returns : goal.returns
returns c cells choices top x ahead named =
    let program = c.args.ahead.now.image.now in
    let m = c.args.ahead.now.machine.now in
    let p = c.args.ahead.now.process in
    let name = c.args.name.now in
    let number = c.in-Some.number in
    let is = same_Some number (variable_number program (unit_of (run program choices) top.0.activation) x) (sym c.in-Some.is ∙ c.number_of.ensures cells choices top x ahead named) in
    let r : Reference = (x, c.args.subscripts.now) in
    let own = ap name_seen (name-so program cells choices m p top c.is_runnable.ensures.accepted c.is_runnable.ensures.main ahead.lives r c.args.variable named number is) in
    let declared = declared-so program cells choices m c.is_runnable.ensures.accepted c.is_runnable.ensures.main _ c.site_of-site.result _ (
    c.site_of-site.ensures cells choices top ahead.lives x named) (sought-of program cells choices m p top ahead.lives ahead.lives.after r) in
    c.goes_by.ensures ∙ (λ i. bytes_eq name (own i) || is_name name (declared i))
