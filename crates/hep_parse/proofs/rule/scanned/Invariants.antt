use Rattle.std.proofs.Common.{◌≡◌, ◌≤◌, drop}
use Rattle.hep_parse.specs.Rules.{beginning, scanned as scanned_from}
use Rattle.hep_parse.proofs.rule.scanned.Given as goal

abbrev pub invariant-loop-c : goal.invariant-loop-c
invariant-loop-c l = record {
  so_far : scanned_from l.scan (drop l.c-index l.s) ≡ scanned_from beginning l.s;
  opened_few : l.scan.opened ≤ l.c-index;
  closed_few : l.scan.closed ≤ l.c-index;
}
