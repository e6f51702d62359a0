use Rattle.std.proofs.Common.{◌∙◌, refl, sym}
use Rattle.hep_blocked.specs.Waiting.{next_waiting}
use Rattle.hep_blocked.proofs.RanksAbove.{nobody-waits, none-told, somebody-waits}
use Rattle.hep_blocked.proofs.waits.Waits.is_empty.Goals as goal

pub returns-clause-empty : goal.returns-clause-empty
returns-clause-empty c =
    rw (← c.self.view_is) (c.is_empty.ensures ∙ none-told c.self.inside.wanted.items c.self.inside.numbers c.self.invariant.2)

pub returns-clause-nobody : goal.returns-clause-nobody
returns-clause-nobody c = λ empty.
    nobody-waits c.args.self.now (next_waiting c.args.self.now 0) refl (sym (returns-clause-empty c) ∙ empty)

pub returns-clause-somebody : goal.returns-clause-somebody
returns-clause-somebody c = λ some.
    somebody-waits c.args.self.now (next_waiting c.args.self.now 0) refl (sym (returns-clause-empty c) ∙ some)
