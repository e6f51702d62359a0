use Rattle.std.proofs.Common.{Some, ap, arith, refl}
use Rattle.std.proofs.lemmas.Bool.{le-ltb, lt-ltb}
use Rattle.hep_races.proofs.step_event.made_since.Goals as goal

pub returns-then-before-after : goal.returns-then-before-after
returns-then-before-after c = rw (lt-ltb c.args.before c.args.after c.if-before-after.true) (ap (λ n. Some n) (omega arith))

pub returns-else-before-after : goal.returns-else-before-after
returns-else-before-after c = rw (le-ltb c.args.before c.args.after c.if-before-after.false) refl
