use Rattle.std.proofs.Common.{◌≡◌, ◌+◌, ◌-◌, List, [], ◌∷◌, length, drop, refl, sym, ◌∙◌, subst, arith}
use Rattle.std.proofs.lemmas.Iterator.Adapters.{YieldsList-from_rev_slice}
use Rattle.std.proofs.lemmas.Iterator.Consumers.{YieldsList-end, YieldsList-turn}
use Rattle.std.proofs.lemmas.List.{drop_all, length_push, length-reverse}
use Rattle.hep_image.specs.declared.data.DataRow.{DataRow}
use Rattle.hep_state.specs.Words.{IsGiven}
use Rattle.hep_state.proofs.OpenedStates.{from-last, given-turn, nothing-given, out-given, row-out}
use Rattle.hep_state.proofs.opening.give_rows.Goals as goal

pub loop-row-init : goal.loop-row-init
loop-row-init c =
    let rows = c.args.rows.now in
    let old = c.args.frames.now.arena in
    record { given = subst (λ (rs : List DataRow). IsGiven rs old old) (sym (drop_all (length rows - 0) rows (omega arith))) (nothing-given old); nodes = refl }

pub give_row-requires-clause-out : goal.give_row-requires-clause-out
give_row-requires-clause-out c =
    let rows = c.args.rows.now in
    let row = c.in-Some.row.now in
    let old = c.args.frames.now.arena in
    let k = length c.loop-row.yielded in
    let at = from-last rows row k (length rows - (k + 1)) refl (YieldsList-turn (YieldsList-from_rev_slice rows cc) c.loop-row.yielded _ c.loop-row.yielded_by _ _ c.in-Some.row c.in-Some.is c.next.ensures.steps) in
    out-given (row ∷ []) (drop (length rows - k) rows) old c.loop-row.frames.arena c.loop-row.invariant.given (row-out rows row (length rows - (k + 1)) old at.inside at.is c.requires.out)

pub loop-row-preserved : goal.loop-row-preserved
loop-row-preserved c =
    let rows = c.args.rows.now in
    let row = c.in-Some.row.now in
    let old = c.args.frames.now.arena in
    let new = c.give_row.new.frames.arena in
    let k = length c.loop-row.yielded in
    let at = from-last rows row k (length rows - (k + 1)) refl (YieldsList-turn (YieldsList-from_rev_slice rows cc) c.loop-row.yielded _ c.loop-row.yielded_by _ _ c.in-Some.row c.in-Some.is c.next.ensures.steps) in
    let given = given-turn rows row (length rows - (k + 1)) (length rows - k) old c.loop-row.frames.arena new at.next at.inside at.is c.loop-row.invariant.given c.give_row.ensures.given in
    record {
      given = subst (λ n. IsGiven (drop (length rows - n) rows) old new) (sym (length_push c.loop-row.yielded c.in-Some.row)) given;
      nodes = c.give_row.ensures.nodes ∙ c.loop-row.invariant.nodes;
    }

pub returns-clause-given : goal.returns-clause-given
returns-clause-given c =
    let rows = c.args.rows.now in
    let end = YieldsList-end (YieldsList-from_rev_slice rows cc) c.loop-row.yielded _ c.loop-row.yielded_by _ _ c.in-None.is c.next.ensures.steps in
    let none : length rows - length c.loop-row.yielded ≡ 0 = omega (arith, end.1, length-reverse rows) in
    subst (λ n. IsGiven (drop n rows) c.args.frames.now.arena c.loop-row.frames.arena) none c.loop-row.invariant.given
