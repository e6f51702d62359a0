use Rattle.std.proofs.Common.{◌+◌, ◌∙◌, not, ap, arith}
use Rattle.hep_state_text.proofs.Associated.{d, fits, line-is, no-line, out, sought}
use Rattle.hep_state_text.proofs.associations.place_associated.Goals as goal

pub overflow_add-cell : goal.overflow_add-cell
overflow_add-cell c =
    let o = out c.args.frame.now c.args.cell c.requires.0 c.requires.1 c.requires.2 c.requires.3 c.requires.4 in
    omega (arith, o.inside, o.few)

pub get-requires-clause-inside : goal.get-requires-clause-inside
get-requires-clause-inside c =
    let o = out c.args.frame.now c.args.cell c.requires.0 c.requires.1 c.requires.2 c.requires.3 c.requires.4 in
    omega (arith, o.inside)

pub get-requires-clause-out : goal.get-requires-clause-out
get-requires-clause-out c =
    (out c.args.frame.now c.args.cell c.requires.0 c.requires.1 c.requires.2 c.requires.3 c.requires.4).out (c.args.cell + 1) (omega arith) (omega arith)

pub returns-then-is_none : goal.returns-then-is_none
returns-then-is_none c cells choices a x h =
    no-line c.args.frame.now c.args.cell cells choices a x h c.get.result c.get.ensures.slot (c.is_none.ensures ∙ ap not c.if-is_none.true)

pub get-requires-2-clause-inside : goal.get-requires-2-clause-inside
get-requires-2-clause-inside c =
    let o = out c.args.frame.now c.args.cell c.requires.0 c.requires.1 c.requires.2 c.requires.3 c.requires.4 in
    omega (arith, o.inside)

pub get-requires-2-clause-out : goal.get-requires-2-clause-out
get-requires-2-clause-out c =
    (out c.args.frame.now c.args.cell c.requires.0 c.requires.1 c.requires.2 c.requires.3 c.requires.4).out c.args.cell (omega arith) (omega arith)

pub address_in-address-requires : goal.address_in-address-requires
address_in-address-requires c =
    fits c.args.frame.now c.args.cell c.requires.0 c.requires.1 c.requires.2 c.requires.3 c.requires.4 c.get.result c.get.ensures.slot (c.is_none.ensures ∙ ap not c.if-is_none.false)
    c.get-2.result c.get-2.ensures.slot

pub place_at-requires : goal.place_at-requires
place_at-requires c = (
  c.requires.0,
  c.requires.1,
  (d c.args.frame.now c.args.cell c.requires.0 c.requires.1 c.requires.2 c.requires.3 c.requires.4).start,
  sought c.args.frame.now c.args.cell c.requires.0 c.requires.1 c.requires.2 c.requires.3 c.requires.4 c.get.result c.get.ensures.slot (c.is_none.ensures ∙ ap not c.if-is_none.false)
      c.get-2.result c.get-2.ensures.slot c.address_in-address.result c.address_in-address.ensures,
)

pub returns : goal.returns
returns c cells choices a x h =
    line-is c.args.frame.now c.args.cell cells choices a x h c.get.result c.get.ensures.slot (c.is_none.ensures ∙ ap not c.if-is_none.false)
    c.get-2.result c.get-2.ensures.slot c.address_in-address.result c.place_at.result c.address_in-address.ensures c.is_runnable.ensures.accepted c.is_runnable.ensures.main c.place_at.ensures
