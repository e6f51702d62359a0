use Rattle.std.proofs.Common.{◌≡◌, ℕ, drop}
use Rattle.hep_machine.specs.Words.{implicit_type}
use Rattle.hep_names.proofs.specification.has_implicit.Given as goal

abbrev pub invariant-loop-statement : goal.invariant-loop-statement
invariant-loop-statement l = (c : ℕ) → implicit_type c (drop l.statement-index l.unit) ≡ implicit_type c l.unit
