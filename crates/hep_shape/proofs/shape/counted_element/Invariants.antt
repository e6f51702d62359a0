use Rattle.std.proofs.Common.{◌≡◌, ◌^◌, ◌≤◌, length, drop}
use Rattle.hep_machine.specs.Words.{before_element, counted_element, sum}
use Rattle.hep_shape.proofs.Columns.{counted}
use Rattle.hep_shape.proofs.shape.counted_element.Given as goal

abbrev pub invariant-loop-bound : goal.invariant-loop-bound
invariant-loop-bound l =
    record {
      some : 1 ≤ l.number;
      few : l.number ≤ 2 ^ 20;
      small : l.size ≤ 2 ^ 20;
      so_far : counted (sum l.number (before_element l.size (drop (length l.yielded) l.bounds) (drop (length l.yielded) l.subscripts)))
          ≡ counted_element l.bounds l.subscripts;
    }
