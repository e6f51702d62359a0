use Rattle.std.proofs.Common.{◌≡◌, ℕ, ◌+◌, ◌*◌, ◌-◌, length}
use Rattle.hep_expression.specs.declared.expression.Precedence.{Precedence}
use Rattle.hep_expression.specs.declared.expression.Precedence.TheVariants.{Equivalence, Disjunction, Conjunction, Sum, Term}
use Rattle.hep_expression.specs.ReadingExpression.{operators, chain, next_operand, arguments, expression, power}
use Rattle.hep_expression.proofs.Chains.{after_read}
use Rattle.hep_expression.proofs.expression.+expression.Given as goal

-- the rank of a level's operands in the order of calls at one depth: what calls has a greater one
abbrev rank : Precedence → ℕ
rank Equivalence = 22
rank Disjunction = 19
rank Conjunction = 16
rank Sum = 11
rank Term = 7

abbrev pub decreases-expression : goal.decreases-expression
decreases-expression l = 32 * l.depth + 1

abbrev pub invariant-chain-loop-turn : goal.invariant-chain-loop-turn
invariant-chain-loop-turn l = chain (operators l.level) (next_operand l.level (power l.context l.depth)) (l.turns - l._turn) l.left l.rest ≡ chain (operators l.level) (next_operand l.level (power l.context l.depth)) l.turns l.fn.first l.fn.s

abbrev pub decreases-chain : goal.decreases-chain
decreases-chain l = 32 * l.depth + (rank l.level + 1)

abbrev pub decreases-operand : goal.decreases-operand
decreases-operand l = 32 * l.depth + rank l.level

abbrev pub decreases-operands : goal.decreases-operands
decreases-operands l = 32 * l.depth + (rank l.level + 2)

abbrev pub decreases-negation : goal.decreases-negation
decreases-negation l = 32 * l.depth + 15

abbrev pub decreases-relation : goal.decreases-relation
decreases-relation l = 32 * l.depth + 14

abbrev pub decreases-sum : goal.decreases-sum
decreases-sum l = 32 * l.depth + 13

abbrev pub decreases-first_term : goal.decreases-first_term
decreases-first_term l = 32 * l.depth + 11

abbrev pub decreases-term : goal.decreases-term
decreases-term l = 32 * l.depth + 10

abbrev pub decreases-power : goal.decreases-power
decreases-power l = 32 * l.depth + (rank Term - 1)

abbrev pub decreases-primary : goal.decreases-primary
decreases-primary l = 32 * l.depth + 5

abbrev pub decreases-listed : goal.decreases-listed
decreases-listed l = 32 * l.depth + 3

abbrev pub decreases-named : goal.decreases-named
decreases-named l = 32 * l.depth + 4

-- what is read after the arguments so far is the whole
abbrev pub invariant-arguments-loop-turn : goal.invariant-arguments-loop-turn
invariant-arguments-loop-turn l = after_read l.list.items (arguments (expression l.context l.depth) (length l.fn.s - l._turn) l.rest) ≡ arguments (expression l.context l.depth) (length l.fn.s) l.fn.s

abbrev pub decreases-arguments : goal.decreases-arguments
decreases-arguments l = 32 * l.depth + 2

abbrev pub decreases-in_parentheses : goal.decreases-in_parentheses
decreases-in_parentheses l = 32 * l.depth + 2
