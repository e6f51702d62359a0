use Rattle.std.proofs.Common.{◌≡◌, ℕ, ◌-◌, length, sym, ap, ◌∙◌, arith}
use Rattle.hep_arena.specs.Holes.{given}
use Rattle.hep_arena.specs.Lengths.{hole_from, holes_of, lower_holes}
use Rattle.hep_arena.proofs.Blocks.{given-holes}
use Rattle.hep_arena.proofs.Limits.{changed-holes, changed-limited, given-front, out-below, out-front}
use Rattle.hep_arena.proofs.holes.Holes.give.Goals as goal

pub lengthen-requires-clause-out : goal.lengthen-requires-clause-out
lengthen-requires-clause-out c k low high = let h = c.args.self.now in out-front k (lower_holes h) (hole_from h.limit (length h.lengths)) (c.requires.out k low high)

pub give_last-requires-clause-below : goal.give_last-requires-clause-below
give_last-requires-clause-below c =
    let h = c.args.self.now in let r = c.requires in
    omega (arith, out-below c.args.at c.args.n h.limit (length h.lengths) (lower_holes h) r.some r.inside r.out, r.some)

pub give_last-requires-clause-out : goal.give_last-requires-clause-out
give_last-requires-clause-out c k low high =
    let h = c.args.self.now in
    out-front k (lower_holes h) (hole_from h.limit (length h.lengths)) (c.requires.out k low (omega (arith, high, c.if-at-n.false)))

pub returns-then-at-n-clause-holes : goal.returns-then-at-n-clause-holes
returns-then-at-n-clause-holes c =
    let h = c.args.self.now in let e = c.lengthen.ensures in
    changed-holes h c.lengthen.new.self c.requires.limited (given (c.args.at, c.args.n) (lower_holes h)) e.holes e.limit e.cells ∙ sym (given-front c.args.at c.args.n h.limit (length h.lengths) (lower_holes h) c.if-at-n.true)

pub returns-then-at-n-clause-limited : goal.returns-then-at-n-clause-limited
returns-then-at-n-clause-limited c =
    let h = c.args.self.now in let e = c.lengthen.ensures in let r = c.requires in
    changed-limited h c.lengthen.new.self r.limited (given (c.args.at, c.args.n) (lower_holes h)) e.holes e.limit e.cells
    (given-holes (h.limit - 1) c.args.at c.args.n (lower_holes h) r.limited.lower r.some (omega (arith, c.if-at-n.true)) (λ k low high. out-front k (lower_holes h) (hole_from h.limit (length h.lengths)) (r.out k low high)))

pub returns-else-at-n-clause-holes : goal.returns-else-at-n-clause-holes
returns-else-at-n-clause-holes c =
    let h = c.args.self.now in let r = c.requires in
    let below = out-below c.args.at c.args.n h.limit (length h.lengths) (lower_holes h) r.some r.inside r.out in
    let rest : h.limit - c.args.at ≡ c.args.n = omega (arith, below, c.if-at-n.false) in
    c.give_last.ensures.holes ∙ ap (λ (k : ℕ). given (c.args.at, k) (holes_of h)) rest
