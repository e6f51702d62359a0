use Rattle.std.proofs.Common.{Bor, ℕ, List, Option, length, sym, subst, ◌∙◌}
use Rattle.hep_expression.specs.Reading.{Gives}
use Rattle.hep_parse.proofs.LeftOut.{goes_on, begins_with_word, begins_otherwise}
use Rattle.hep_parse.proofs.statement.left_out.Goals as goal

pub returns-in-Worded : goal.returns-in-Worded
returns-in-Worded c = subst (λ (o : Option (List ℕ)). Gives {X = Bor (List ℕ)} {Y = List ℕ} (λ x. x.now) c.left_out_word_at.result o) (begins_with_word c.args.context (length c.args.s.now) c.loop-turn._turn c.loop-turn.rest.now _ c.loop-turn-test.true (sym c.rule_of.ensures ∙ c.in-Worded.is) c.loop-turn.invariant) c.left_out_word_at.ensures

pub returns-in_default : goal.returns-in_default
returns-in_default c = begins_otherwise c.args.context (length c.args.s.now) c.loop-turn._turn c.loop-turn.rest.now _ c.rule_of.result c.loop-turn-test.true (sym c.rule_of.ensures) c.in_default.not-LogicalIf c.in_default.not-Worded c.loop-turn.invariant

pub loop-turn-preserved : goal.loop-turn-preserved
loop-turn-preserved c = goes_on c.args.context (length c.args.s.now) c.loop-turn._turn c.loop-turn.rest.now _ _ c.loop-turn-test.true (sym c.rule_of.ensures ∙ c.in-LogicalIf.is) c.in_ok-rest_after-in-LogicalIf.ensures c.loop-turn.invariant
