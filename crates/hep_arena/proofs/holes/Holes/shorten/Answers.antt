use Rattle.std.proofs.Common.{◌≡◌, ◌+◌, ◌-◌, ◌<◌, ◌≤◌, length, length-set, set, ap, arith}
use Rattle.hep_arena.specs.Holes.{taken}
use Rattle.hep_arena.specs.Lengths.{holes_from}
use Rattle.hep_arena.proofs.Changes.{taken-fits, taken-inside, taken-numbers}
use Rattle.hep_arena.proofs.holes.Holes.shorten.Goals.{After-get-length}
use Rattle.hep_arena.proofs.holes.Holes.shorten.Goals as goal
use Rattle.hep_arena.proofs.holes.Holes.shorten.Goals.{then-n-length, else-n-length}

pub get-length-requires : goal.get-length-requires
get-length-requires c =
    let h = c.args.self.now in let r = c.requires in
    let within : h.limit - 1 ≤ length h.lengths = omega (arith, r.limited.inside) in
    record { inside = omega (arith, taken-inside c.args.n c.args.at (h.limit - 1) h.lengths r.some r.limited.lower within r.fit, r.some, within) }

-- the cells lie below the limit, and so does the hole from which they are taken
within : (c : After-get-length) → c.args.self.now.limit - 1 ≤ length c.args.self.now.lengths
within c = omega (arith, c.requires.limited.inside)

inside : (c : After-get-length) → c.args.at + c.args.n ≤ c.args.self.now.limit - 1
inside c = let h = c.args.self.now in let r = c.requires in taken-inside c.args.n c.args.at (h.limit - 1) h.lengths r.some r.limited.lower (within c) r.fit

fits : (c : After-get-length) → c.args.at + c.get-length.result ≤ c.args.self.now.limit - 1
fits c = let h = c.args.self.now in let r = c.requires in taken-fits c.args.n c.args.at (h.limit - 1) h.lengths r.some r.limited.lower (within c) r.fit c.get-length.result c.get-length.ensures.number

numbers : (c : After-get-length) → let xs = c.args.self.now.lengths in let at = c.args.at in let n = c.args.n in let len = c.get-length.result in
    (len ≤ n → holes_from 0 (set xs at 0) ≡ taken n (holes_from 0 xs)) × (n < len → holes_from 0 (set (set xs (at + n) (len - n)) at 0) ≡ taken n (holes_from 0 xs))
numbers c = let h = c.args.self.now in let r = c.requires in taken-numbers c.args.n c.args.at (h.limit - 1) h.lengths r.some r.limited.lower (within c) r.fit c.get-length.result c.get-length.ensures.number

pub overflow_add-at : goal.overflow_add-at
overflow_add-at c = let before = (goal.at.overflow_add-at c).After-get-length in omega (arith, inside before, c.requires.few, within before)

pub set-requires : goal.set-requires
set-requires c = let before = (goal.at.set-requires c).After-get-length in record { inside = omega (arith, fits before, c.if-n-length.true, within before) }

pub set-requires-2 : goal.set-requires-2
set-requires-2 c =
    let before = (goal.at.set-requires-2 c).After-get-length in let below = inside before in let long = within before in
    record {
      inside = elim c.if-n-length.branch [
        | then-n-length w ↦ omega (arith, below, c.requires.some, long, ap (λ k. length k.lengths) w.self-is, ap length w.set.ensures.numbers, length-set c.args.self.now.lengths (c.args.at + c.args.n) (c.get-length.result - c.args.n))
        | else-n-length w ↦ omega (arith, below, c.requires.some, long, ap (λ k. length k.lengths) w.self-is)
      ];
    }

pub returns-clause-holes : goal.returns-clause-holes
returns-clause-holes c =
    let written = numbers (goal.at.returns-clause-holes c).After-get-length in
    elim c.if-n-length.branch [
      | then-n-length w ↦ rw (c.set-2.ensures.numbers, w.self-is, w.set.ensures.numbers) (written.1 w.if-n-length.true)
      | else-n-length w ↦ rw (c.set-2.ensures.numbers, w.self-is) (written.0 w.if-n-length.false)
    ]
