use Rattle.std.proofs.Common.{◌∙◌, refl, subst, sym}
use Rattle.hep_core.specs.SilentChoices.{AreChoices, begun}
use Rattle.hep_core.specs.ProcessPlaces.{PlacedCore}
use Rattle.hep_core.proofs.OtherTickets.{chosen-good, good-itself}
use Rattle.hep_core.proofs.run_core.Core.pass_on.Goals as goal

pub returns-then-is_out-clause-chosen : goal.returns-then-is_out-clause-chosen
returns-then-is_out-clause-chosen c = begun c.args.self.now.core

pub returns-then-is_out-clause-kept : goal.returns-then-is_out-clause-kept
returns-then-is_out-clause-kept c = good-itself c.args.self.now c.args.self.now refl

pub returns-in-Ok-clause-kept : goal.returns-in-Ok-clause-kept
returns-in-Ok-clause-kept c = chosen-good c.args.p c.args.self.now c.move_past.new.self (sym c.is_out.ensures ∙ c.if-is_out.false) c.move_past.ensures.others

pub returns-in-Err-clause-chosen : goal.returns-in-Err-clause-chosen
returns-in-Err-clause-chosen c = subst (λ (v : PlacedCore). AreChoices c.args.p c.args.self.now.core 0 v.core) (sym c.in-Err.ensures.refused) (begun c.args.self.now.core)

pub returns-in-Err-clause-kept : goal.returns-in-Err-clause-kept
returns-in-Err-clause-kept c = good-itself c.args.self.now c.move_past.new.self c.in-Err.ensures.refused
