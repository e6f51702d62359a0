use Rattle.std.proofs.Common.{◌≡◌, ◌+◌, Some, None, take, sym, ap, ◌∙◌, inl, inr, arith}
use Rattle.std.proofs.lemmas.Bool.{cases_lt}
use Rattle.hep_arena.specs.Trees.{leaves_of}
use Rattle.hep_arena.proofs.Listed.{last-found, last-none, number-seen, number-take, take-past}
use Rattle.hep_arena.proofs.lengths.Lengths.last_before.Goals as goal

pub returns-in_err-found : goal.returns-in_err-found
returns-in_err-found c =
    let l = c.self.inside in
    let numbers = take l.places (leaves_of l.tree) in
    record {
      last = rw (c.from_residual.ensures, ← c.self.view_is) (sym (last-none 0 (take c.args.at numbers) None (λ k. elim (cases_lt k c.args.at) [
        | inl before ↦ number-take c.args.at k numbers before ∙ number-seen l.places k (leaves_of l.tree) c.self.invariant.zeros ∙ c.in_err-found.ensures k before
        | inr behind ↦ take-past c.args.at k numbers behind
      ])));
    }

pub returns : goal.returns
returns c =
    let l = c.self.inside in
    let numbers = take l.places (leaves_of l.tree) in
    let e = c.in_ok-found.ensures in
    let found = last-found 0 c.in_ok-found.found (take c.args.at numbers) None
    (omega (arith, number-take c.args.at c.in_ok-found.found numbers e.0, number-seen l.places c.in_ok-found.found (leaves_of l.tree) c.self.invariant.zeros, e.1))
    (λ k from. elim (cases_lt k c.args.at) [
      | inl before ↦ number-take c.args.at k numbers before ∙ number-seen l.places k (leaves_of l.tree) c.self.invariant.zeros ∙ e.2 k from before
      | inr behind ↦ take-past c.args.at k numbers behind
    ]) in
    let same : 0 + c.in_ok-found.found ≡ c.in_ok-found.found = omega arith in
    record {
      last = rw (← c.self.view_is) (sym (found ∙ ap Some same));
    }
