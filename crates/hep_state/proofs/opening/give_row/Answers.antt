use Rattle.std.proofs.Common.{◌≡◌, ◌+◌, ◌-◌, ◌<◌, ◌≤◌, ◌∷◌, [], inl, inr, refl, sym, ◌∙◌, subst, arith}
use Rattle.hep_arena.specs.Holes.{IsOut}
use Rattle.hep_state.specs.Words.{IsGiven}
use Rattle.hep_state.proofs.OpenedStates.{cell-out, given-empty, given-next, row-inside}
use Rattle.hep_state.proofs.opening.give_row.Goals as goal

pub overflow_add-at-end : goal.overflow_add-at-end
overflow_add-at-end c =
    elim (row-inside c.args.row.first c.args.row.count c.args.row.value c.args.frames.now.arena c.requires.out) [ inl none ↦ omega (arith, none) | inr inside ↦ omega (arith, inside, c.requires.few) ]

pub loop-at-init : goal.loop-at-init
loop-at-init c =
    record { given = given-empty c.args.row.first (c.args.row.first - c.args.row.first) c.args.row.value c.args.frames.now.arena (omega arith); nodes = refl }

pub give_value-requires-clause-inside : goal.give_value-requires-clause-inside
give_value-requires-clause-inside c =
    let low : c.args.row.first ≤ c.loop-at.at = c.loop-at.auto.at in
    let high : c.loop-at.at < c.args.row.first + c.args.row.count = c.loop-at-test.true in
    let out = cell-out c.args.row c.args.frames.now.arena c.loop-at.at c.requires.out low high in
    subst (λ n. c.loop-at.at < n) (sym c.loop-at.invariant.given.size) out.0

pub give_value-requires-clause-out : goal.give_value-requires-clause-out
give_value-requires-clause-out c =
    let out = cell-out c.args.row c.args.frames.now.arena c.loop-at.at c.requires.out c.loop-at.auto.at c.loop-at-test.true in
    subst (IsOut c.loop-at.at) (sym c.loop-at.invariant.given.holes_are) out.1

pub loop-at-preserved : goal.loop-at-preserved
loop-at-preserved c =
    let first = c.args.row.first in
    let at = c.loop-at.at in
    let low : first ≤ at = c.loop-at.auto.at in
    record {
      given = given-next first (at - first) at (at + 1 - first) c.args.row.value (omega arith) (omega arith) c.args.frames.now.arena c.loop-at.frames.arena c.give_value.new.frames.arena c.loop-at.invariant.given c.give_value.ensures.given;
      nodes = c.give_value.ensures.nodes ∙ c.loop-at.invariant.nodes;
    }

pub returns-clause-given : goal.returns-clause-given
returns-clause-given c =
    let row = c.args.row in
    let all : c.loop-at.at - row.first ≡ row.count = omega arith in
    subst (λ n. IsGiven (record { first = row.first; count = n; value = row.value } ∷ []) c.args.frames.now.arena c.loop-at.frames.arena) all c.loop-at.invariant.given
