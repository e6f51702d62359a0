use Rattle.std.proofs.Common.{◌+◌, arith}
use Rattle.hep_machine.specs.Words.{further}
use Rattle.hep_races.proofs.PurgedPlaces.{appended-first, appended-last, appended-next}
use Rattle.hep_races.proofs.PurgedUnits.{sought-out}
use Rattle.hep_races.proofs.purged_places.append_full.Goals as goal

pub loop-index-init : goal.loop-index-init
loop-index-init c = appended-first c.args.image.now c.args.machine.now c.args.key c.args.range c.args.places.now.items

pub overflow_add-range : goal.overflow_add-range
overflow_add-range c =
    let i = c.loop-index.index in
    let h = c.requires.3 in
    let it = h.sought i c.loop-index-test.true in
    let inside = (sought-out c.args.image.now c.requires.0 c.requires.1 c.args.machine.now c.args.key (c.args.range.first + i)
    (further h.start i) it).0 in
    omega (arith, inside, it.after.size, it.few)

pub full_place-requires : goal.full_place-requires
full_place-requires c =
    let i = c.loop-index.index in
    let h = c.requires.3 in
    (c.requires.0, c.requires.1, further h.start i, h.sought i c.loop-index-test.true)

pub loop-index-preserved : goal.loop-index-preserved
loop-index-preserved c =
    let i = c.loop-index.index in
    let less = c.loop-index-test.true in
    appended-next c.args.image.now c.args.machine.now c.args.key c.args.range i c.loop-index.places.items c.append_place.new.places.items
    c.args.places.now.items c.full_place.result less c.loop-index.invariant
    (λ cells choices units h. c.full_place.ensures cells choices (further h.start i) (h.sought i less)) c.in_ok-append_place.ensures

pub returns : goal.returns
returns c =
    appended-last c.args.image.now c.args.machine.now c.args.key c.args.range c.loop-index.index c.loop-index.places.items
    c.args.places.now.items c.loop-index-test.false c.loop-index.invariant
