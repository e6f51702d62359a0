use Rattle.std.proofs.Common.{◌≡◌, ◌∙◌, [], true, ap, arith, refl, rules, sym, subst}
use Rattle.std.proofs.lemmas.Bool.Decides.{nat_tests}
use Rattle.std.proofs.lemmas.List.{nil_from_length}
use Rattle.hep_core.specs.SilentChoices.{AreRounds, started}
use Rattle.hep_core.specs.ProcessPlaces.{PlacedCore}
use Rattle.hep_core.proofs.OtherTickets.{good-itself, nobody-good}
use Rattle.hep_core.proofs.run_core.Core.go_round.Goals as goal

pub returns-then-not-is_empty-clause-chosen : goal.returns-then-not-is_empty-clause-chosen
returns-then-not-is_empty-clause-chosen c = started c.args.self.now.core

pub returns-in_default-clause-chosen : goal.returns-in_default-clause-chosen
returns-in_default-clause-chosen c = started c.args.self.now.core

pub returns-then-rests-clause-chosen : goal.returns-then-rests-clause-chosen
returns-then-rests-clause-chosen c = started c.args.self.now.core

pub returns-in-Err-clause-chosen : goal.returns-in-Err-clause-chosen
returns-in-Err-clause-chosen c = subst (λ (v : PlacedCore). AreRounds c.args.self.now.core 0 v.core) (sym c.in-Err.ensures.refused) (started c.args.self.now.core)

pub returns-then-not-is_empty-clause-kept : goal.returns-then-not-is_empty-clause-kept
returns-then-not-is_empty-clause-kept c = good-itself c.args.self.now c.args.self.now refl

pub returns-in_default-clause-kept : goal.returns-in_default-clause-kept
returns-in_default-clause-kept c = good-itself c.args.self.now c.args.self.now refl

pub returns-then-rests-clause-kept : goal.returns-then-rests-clause-kept
returns-then-rests-clause-kept c = good-itself c.args.self.now c.args.self.now refl

pub returns-in-Ok-clause-kept : goal.returns-in-Ok-clause-kept
returns-in-Ok-clause-kept c =
    let is_true : c.is_empty.result ≡ true = search rules in
    let nobody : c.self.inside.out.items ≡ [] = nil_from_length c.self.inside.out.items (grind (arith, nat_tests, sym c.is_empty.ensures ∙ is_true)) in
    nobody-good c.args.self.now c.move_on.new.self (ap (λ (v : PlacedCore). v.core.out) (sym c.self.view_is) ∙ nobody)

pub returns-in-Err-clause-kept : goal.returns-in-Err-clause-kept
returns-in-Err-clause-kept c = good-itself c.args.self.now c.move_on.new.self c.in-Err.ensures.refused
