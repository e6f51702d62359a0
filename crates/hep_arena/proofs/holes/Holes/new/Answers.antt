use Rattle.std.proofs.Common.{◌≡◌, ℕ, ◌-◌, [], ◌∷◌, ◌++◌, ap, length, subst, sym, ◌∙◌, arith}
use Rattle.std.proofs.lemmas.List.{length-replicate}
use Rattle.hep_arena.specs.Holes.{AreHoles}
use Rattle.hep_arena.specs.Lengths.{hole_from, holes_from}
use Rattle.hep_arena.proofs.RowLengths.{holes-none}
use Rattle.hep_arena.proofs.Limits.{last-some}
use Rattle.hep_arena.proofs.holes.Holes.new.Goals as goal

pub returns-clause-limited : goal.returns-clause-limited
returns-clause-limited c = record {
  inside = omega arith;
  lower = subst (AreHoles 0 0) (sym (ap (holes_from 0) c.in_ok-lengths.ensures.zeros ∙ holes-none 0 c.args.cells)) tt;
}

pub returns-clause-holes : goal.returns-clause-holes
returns-clause-holes c =
    let none = ap (holes_from 0) c.in_ok-lengths.ensures.zeros ∙ holes-none 0 c.args.cells in
    let long = ap length c.in_ok-lengths.ensures.zeros ∙ length-replicate c.args.cells 0 in
    let all : c.args.cells - 0 ≡ c.args.cells = omega arith in
    (λ i. none i ++ hole_from 0 (long i)) ∙ last-some 0 c.args.cells c.requires.some ∙ ap (λ (k : ℕ). (0, k) ∷ []) all
