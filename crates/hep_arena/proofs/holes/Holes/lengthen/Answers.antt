use Rattle.std.proofs.Common.{◌≡◌, ◌+◌, ◌-◌, ◌<◌, ◌≤◌, length, arith, set}
use Rattle.hep_arena.specs.Holes.{given}
use Rattle.hep_arena.specs.Lengths.{holes_from}
use Rattle.hep_arena.proofs.Changes.{given-fits, given-numbers, given-start}
use Rattle.hep_arena.proofs.holes.Holes.lengthen.Goals.{After-get-behind}
use Rattle.hep_arena.proofs.holes.Holes.lengthen.Goals as goal

-- the hole that the cells become: where it begins, where it ends, and its length
within : (c : After-get-behind) → c.args.self.now.limit - 1 < length c.args.self.now.lengths
within c = omega (arith, c.requires.limited.inside, c.requires.below)

starts : (c : After-get-behind) → c.start_at-start.result ≤ c.args.at
starts c =
    let h = c.args.self.now in let r = c.requires in
    given-start c.args.at c.args.n c.start_at-start.result c.get-behind.result (h.limit - 1) h.lengths r.some r.limited.lower (within c) (omega (arith, r.below)) r.out c.start_at-start.ensures c.get-behind.ensures.number

ends : (c : After-get-behind) → c.args.at + c.args.n + c.get-behind.result ≤ c.args.self.now.limit - 1
ends c =
    let h = c.args.self.now in let r = c.requires in
    given-fits c.args.at c.args.n c.start_at-start.result c.get-behind.result (h.limit - 1) h.lengths r.some r.limited.lower (within c) (omega (arith, r.below)) r.out c.start_at-start.ensures c.get-behind.ensures.number

numbers : (c : After-get-behind) → let xs = c.args.self.now.lengths in let end = c.args.at + c.args.n in let len = end - c.start_at-start.result + c.get-behind.result in
    (holes_from 0 (set (set xs c.start_at-start.result len) end 0) ≡ given (c.args.at, c.args.n) (holes_from 0 xs)) × (c.get-behind.result ≤ 0 → holes_from 0 (set xs c.start_at-start.result len) ≡ given (c.args.at, c.args.n) (holes_from 0 xs))
numbers c =
    let h = c.args.self.now in let r = c.requires in
    given-numbers c.args.at c.args.n c.start_at-start.result c.get-behind.result (h.limit - 1) h.lengths r.some r.limited.lower (within c) (omega (arith, r.below)) r.out c.start_at-start.ensures c.get-behind.ensures.number (c.args.at + c.args.n - c.start_at-start.result + c.get-behind.result) (omega (arith, starts c))

pub overflow_sub-end : goal.overflow_sub-end
overflow_sub-end c = omega (arith, starts (goal.at.overflow_sub-end c).After-get-behind)

pub overflow_add-end-2 : goal.overflow_add-end-2
overflow_add-end-2 c = omega (arith, ends (goal.at.overflow_add-end-2 c).After-get-behind, c.requires.limited.inside, c.requires.few)

pub set-requires : goal.set-requires
set-requires c = record { inside = omega (arith, starts (goal.at.set-requires c).After-get-behind, c.requires.below, c.requires.limited.inside) }

pub returns-then-behind-gt0-clause-holes : goal.returns-then-behind-gt0-clause-holes
returns-then-behind-gt0-clause-holes c = rw (c.set-then-behind-gt0.ensures.numbers, c.set.ensures.numbers) (numbers (goal.at.returns-then-behind-gt0-clause-holes c).After-get-behind).0

pub returns-else-behind-gt0-clause-holes : goal.returns-else-behind-gt0-clause-holes
returns-else-behind-gt0-clause-holes c = rw c.set.ensures.numbers ((numbers (goal.at.returns-else-behind-gt0-clause-holes c).After-get-behind).1 c.if-behind-gt0.false)
