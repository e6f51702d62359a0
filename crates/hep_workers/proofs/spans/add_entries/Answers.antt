use Rattle.std.proofs.Common.{◌≡◌, ℕ, suc, ◌+◌, ◌-◌, ◌<◌, List, length, Some, ap, ◌∙◌, subst, arith, slice_get, slice_set}
use Rattle.hep_workers.specs.declared.spans.EntrySpan.{EntrySpan}
use Rattle.hep_workers.specs.Spans.{with_entries, with_entry}
use Rattle.hep_workers.proofs.GrowingHistories.{last-at}
use Rattle.hep_workers.proofs.SeveralEntries.{all-grown, last-ends, there-is}
use Rattle.hep_workers.proofs.spans.add_entries.Goals.{After-index_mut}
use Rattle.hep_workers.proofs.spans.add_entries.Goals as goal

pub overflow_sub-last : goal.overflow_sub-last
overflow_sub-last c =
    omega (arith, c.len-last.ensures, c.add_entry.new.spans.ok.0, ap length c.add_entry.ensures, there-is c.args.spans.now.items c.args.index)

pub index_mut-requires : goal.index_mut-requires
index_mut-requires c =
    omega (arith, c.len-last.ensures, c.add_entry.new.spans.ok.0, ap length c.add_entry.ensures, there-is c.args.spans.now.items c.args.index)

module _ (c : After-index_mut) where
  abbrev before : List EntrySpan
  before = c.args.spans.now.items

  abbrev last : EntrySpan
  last = c.index_mut.result.now

  abbrev k : ℕ
  k = c.len-last.result - 1

  long : k + 1 ≡ length (with_entry before c.args.index)
  long =
      omega (arith, c.len-last.ensures, c.add_entry.new.spans.ok.0, ap length c.add_entry.ensures, there-is before c.args.index)

  at : slice_get (with_entry before c.args.index) k ≡ Some last
  at =
      let lt : k < length c.add_entry.new.spans.items = omega (arith, long, ap length c.add_entry.ensures) in
      subst (λ (ss : List EntrySpan). slice_get ss k ≡ Some last) c.add_entry.ensures (last-at c.add_entry.new.spans.items k last lt c.index_mut.ensures.value)

  ending : last.first + last.count ≡ c.args.index + 1
  ending = last-ends before c.args.index k last at long

  all : slice_set c.add_entry.new.spans.items k (record { first = last.first; count = last.count + (c.args.count - 1) }) ≡ with_entries before c.args.index c.args.count
  all =
      let many : suc (c.args.count - 1) ≡ c.args.count = omega (arith, c.requires.some) in
      ap (λ (ss : List EntrySpan). slice_set ss k (record { first = last.first; count = last.count + (c.args.count - 1) })) c.add_entry.ensures
      ∙ all-grown before c.args.index k last at long (c.args.count - 1)
      ∙ ap (with_entries before c.args.index) many

pub overflow_add-index_mut : goal.overflow_add-index_mut
overflow_add-index_mut c = omega (arith, ending (goal.at.overflow_add-index_mut c).After-index_mut, c.requires.few, c.ranges.count)

pub returns : goal.returns
returns c = all (goal.at.returns c).After-index_mut
