use Rattle.std.proofs.Common.{take, sym, ◌∙◌, arith}
use Rattle.hep_arena.specs.Trees.{leaves_of}
use Rattle.hep_arena.proofs.Listed.{drop-found, drop-none, number-seen, place-seen}
use Rattle.hep_arena.proofs.lengths.Lengths.first_after.Goals as goal

pub returns-in_err-found : goal.returns-in_err-found
returns-in_err-found c =
    let l = c.self.inside in
    record {
      first = rw (c.from_residual.ensures, ← c.self.view_is) (sym (drop-none c.args.at (take l.places (leaves_of l.tree)) (λ k from. number-seen l.places k (leaves_of l.tree) c.self.invariant.zeros ∙ c.in_err-found.ensures k from)));
    }

pub overflow_cast-result : goal.overflow_cast-result
overflow_cast-result c =
    let l = c.self.inside in
    let inside = place-seen l.places c.in_ok-found.found (leaves_of l.tree) c.self.invariant.zeros c.in_ok-found.ensures.1 in
    omega (arith, inside)

pub returns : goal.returns
returns c =
    let l = c.self.inside in
    let e = c.in_ok-found.ensures in
    record {
      first = rw (← c.self.view_is) (sym (drop-found c.args.at c.in_ok-found.found (take l.places (leaves_of l.tree)) e.0
          (omega (arith, number-seen l.places c.in_ok-found.found (leaves_of l.tree) c.self.invariant.zeros, e.1))
          (λ k from to. number-seen l.places k (leaves_of l.tree) c.self.invariant.zeros ∙ e.2 k from to)));
    }
