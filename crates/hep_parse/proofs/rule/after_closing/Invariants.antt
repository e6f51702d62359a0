use Rattle.std.proofs.Common.{◌≡◌, ◌≤◌, false, drop}
use Rattle.hep_parse.specs.Rules.{after_closing as closing_from}
use Rattle.hep_parse.proofs.rule.after_closing.Given as goal

abbrev pub invariant-loop-i : goal.invariant-loop-i
invariant-loop-i l = record {
  so_far : closing_from l.depth l.quoted (drop l.i l.s) ≡ closing_from 0 false l.s;
  few : l.depth ≤ l.i;
}
