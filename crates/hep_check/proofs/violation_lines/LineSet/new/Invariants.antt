use Rattle.std.proofs.Common.{◌≡◌, ◌||◌, ℕ, nat_eq, drop}
use Rattle.std.specs.List.{list_any}
use Rattle.indexmap.specs.IndexSet.{contains}
use Rattle.hep_check.proofs.violation_lines.LineSet.new.Given as goal

abbrev pub invariant-loop-line : goal.invariant-loop-line
invariant-loop-line l = (line : ℕ) → (contains nat_eq l.lines line || list_any (λ k. nat_eq k line) (drop l.line-index l.found)) ≡ list_any (λ k. nat_eq k line) l.found
