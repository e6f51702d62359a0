use Rattle.std.proofs.Common.{◌≡◌, ◌∙◌, false, Err, IfErr, ap, refl, subst, sym}
use Rattle.hep_core.specs.ProcessPlaces.{PlacedCore}
use Rattle.hep_core.specs.Tickets.{is_out}
use Rattle.hep_core.specs.CoreValues.{IsChoice}
use Rattle.hep_core.proofs.OtherTickets.{chosen-good, chosen-through, good-itself}
use Rattle.hep_core.proofs.SilentChoices.{unmoved}
use Rattle.hep_core.proofs.run_core.Core.go_on.Goals.{After-is_out}
use Rattle.hep_core.proofs.run_core.Core.go_on.Goals as goal

pub returns-in-Ok-eq0-clause-refused : goal.returns-in-Ok-eq0-clause-refused
returns-in-Ok-eq0-clause-refused c =
    let same : c.args.self.now.core ≡ c.move_alone.new.self.core = unmoved c.args.p c.args.self.now.core c.in-Ok-eq0.field-0 c.move_alone.new.self.core c.in-Ok-eq0.field-0-test c.in-Ok-eq0.ensures.chosen in
    subst (λ v. IfErr c.turn_once-in-Ok-eq0.result (λ fault. IsChoice v c.args.p (Err fault) c.turn_once-in-Ok-eq0.new.self.core)) (sym same) c.turn_once-in-Ok-eq0.ensures.refused

pub returns-in-Some-clause-kept : goal.returns-in-Some-clause-kept
returns-in-Some-clause-kept c = good-itself c.args.self.now c.args.self.now refl

pub returns-then-is_out-clause-kept : goal.returns-then-is_out-clause-kept
returns-then-is_out-clause-kept c = good-itself c.args.self.now c.args.self.now refl

-- p isn't out
home : (c : After-is_out) → c.is_out.result ≡ false → is_out c.args.p c.args.self.now.core.out ≡ false
home c e = sym c.is_out.ensures ∙ e

pub returns-then-rests-clause-kept : goal.returns-then-rests-clause-kept
returns-then-rests-clause-kept c = chosen-good c.args.p c.args.self.now c.turn_once.new.self (home (goal.at.returns-then-rests-clause-kept c).After-is_out c.if-is_out.false) c.turn_once.ensures.others

pub returns-in-Ok-eq0-clause-kept : goal.returns-in-Ok-eq0-clause-kept
returns-in-Ok-eq0-clause-kept c =
    let same : c.args.self.now.core ≡ c.move_alone.new.self.core = unmoved c.args.p c.args.self.now.core c.in-Ok-eq0.field-0 c.move_alone.new.self.core c.in-Ok-eq0.field-0-test c.in-Ok-eq0.ensures.chosen in
    chosen-through c.args.p c.args.self.now c.move_alone.new.self c.turn_once-in-Ok-eq0.new.self (home (goal.at.returns-in-Ok-eq0-clause-kept c).After-is_out c.if-is_out.false) (sym same) (c.move_alone.ensures.others) c.turn_once-in-Ok-eq0.ensures.others

pub returns-in-Ok-clause-kept : goal.returns-in-Ok-clause-kept
returns-in-Ok-clause-kept c = chosen-good c.args.p c.args.self.now c.move_alone.new.self (home (goal.at.returns-in-Ok-clause-kept c).After-is_out c.if-is_out.false) (c.move_alone.ensures.others)

pub returns-in-Err-clause-kept : goal.returns-in-Err-clause-kept
returns-in-Err-clause-kept c =
    let same = c.in-Err.ensures.refused in
    chosen-through c.args.p c.args.self.now c.move_alone.new.self c.turn_once-in-Err.new.self (home (goal.at.returns-in-Err-clause-kept c).After-is_out c.if-is_out.false) (ap (λ (v : PlacedCore). v.core) same) (c.move_alone.ensures.others) c.turn_once-in-Err.ensures.others
