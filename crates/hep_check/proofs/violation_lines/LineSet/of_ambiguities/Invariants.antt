use Rattle.std.proofs.Common.{◌≡◌, ◌||◌, ℕ, nat_eq, drop}
use Rattle.std.specs.List.{list_any}
use Rattle.indexmap.specs.IndexSet.{contains}
use Rattle.hep_types.specs.declared.all_ambiguities.Ambiguity.{Ambiguity}
use Rattle.hep_check.proofs.violation_lines.LineSet.of_ambiguities.Given as goal

abbrev pub invariant-loop-ambiguity : goal.invariant-loop-ambiguity
invariant-loop-ambiguity l = (line : ℕ) → (contains nat_eq l.lines line || list_any (λ (a : Ambiguity). nat_eq a.line line) (drop l.ambiguity-index l.found)) ≡ list_any (λ (a : Ambiguity). nat_eq a.line line) l.found
