use Rattle.std.proofs.Common.{◌≡◌, ◌+◌, Some, take, sym, ap, ◌∙◌, arith}
use Rattle.hep_arena.specs.Trees.{leaves_of}
use Rattle.hep_arena.proofs.Listed.{first-found, first-none, number-seen, place-seen}
use Rattle.hep_arena.proofs.lengths.Lengths.first_of.Goals as goal

pub returns-in_err-at : goal.returns-in_err-at
returns-in_err-at c =
    let l = c.self.inside in
    record {
      first = rw (c.from_residual.ensures, ← c.self.view_is) (sym (first-none 0 c.args.least (take l.places (leaves_of l.tree)) (λ k. omega (arith, number-seen l.places k (leaves_of l.tree) c.self.invariant.zeros, c.in_err-at.ensures k))));
    }

pub overflow_cast-result : goal.overflow_cast-result
overflow_cast-result c =
    let l = c.self.inside in
    let inside = place-seen l.places c.in_ok-at.at (leaves_of l.tree) c.self.invariant.zeros (omega (arith, c.in_ok-at.ensures, c.requires.some)) in
    omega (arith, inside)

pub returns : goal.returns
returns c =
    let l = c.self.inside in
    let e = c.in_ok-at.ensures in
    let found = first-found 0 c.args.least c.in_ok-at.at (take l.places (leaves_of l.tree)) c.requires.some
    (omega (arith, number-seen l.places c.in_ok-at.at (leaves_of l.tree) c.self.invariant.zeros, e.0))
    (λ k high. omega (arith, number-seen l.places k (leaves_of l.tree) c.self.invariant.zeros, e.1 k high)) in
    let same : 0 + c.in_ok-at.at ≡ c.in_ok-at.at = omega arith in
    record {
      first = rw (← c.self.view_is) (sym (found ∙ ap Some same));
    }
