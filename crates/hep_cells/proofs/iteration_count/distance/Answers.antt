use Rattle.std.proofs.Common.{◌<◌, ◌^◌, ◌+ℤ◌, ◌-ℤ◌, nat_abs, sym, subst, arith}
use Rattle.std.proofs.lemmas.Int.{ints}
use Rattle.hep_cells.proofs.IterationCounts.{is_small}
use Rattle.hep_cells.proofs.iteration_count.distance.Goals as goal

pub returns-clause-value : goal.returns-clause-value
returns-clause-value c = omega (arith, ints, c.from.ensures, c.from-2.ensures, c.from-3.ensures, c.ranges.initial.sfits, c.ranges.limit.sfits, c.ranges.increment.sfits)

pub returns-clause-few : goal.returns-clause-few
returns-clause-few c =
    let all = c.args.limit -ℤ c.args.initial +ℤ c.args.increment in
    subst (λ z. nat_abs z < 2 ^ 66) (sym (returns-clause-value c)) (
    is_small all (omega (arith, ints, c.ranges.initial.sfits, c.ranges.limit.sfits, c.ranges.increment.sfits)) (omega (arith, ints, c.ranges.initial.sfits, c.ranges.limit.sfits, c.ranges.increment.sfits)))
