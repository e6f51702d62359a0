use Rattle.std.proofs.Common.{◌≡◌, ◌+◌, length}
use Rattle.hep_history.proofs.history.History.same.Given as goal

abbrev pub invariant-loop-index : goal.invariant-loop-index
invariant-loop-index l = record {
  left : length l.entries + l._index ≡ length l.self.items;
  left_of_other : length l.others + l._index ≡ length l.self.items;
  same_left : l.self.items ≡ l.other.items → l.entries ≡ l.others;
  same_all : l.entries ≡ l.others → l.self.items ≡ l.other.items;
}
