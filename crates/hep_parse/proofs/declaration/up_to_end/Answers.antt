use Rattle.std.proofs.Common.{length, sym, ap, ◌∙◌}
use Rattle.hep_parse.proofs.ListLoops.{nothing_read}
use Rattle.hep_parse.proofs.EndLoops.{end_goes_on, end_comes, end_is_over, read_as}
use Rattle.hep_parse.proofs.declaration.up_to_end.Goals as goal

pub returns-in-Err-NoReading : goal.returns-in-Err-NoReading
returns-in-Err-NoReading g c =
    let next = g.P.Readable.part_at c.args.context in
    let none = sym (ap next c.after_optional_comma.ensures) ∙ nothing_read c.in-Err-NoReading.field-0 _ c.in-Err-NoReading.field-0-is c.in-Err-NoReading.ensures in
    rw (end_comes next (length c.args.s.now) c.loop-turn._turn c.loop-turn.parts.items c.loop-turn.rest.now _ c.loop-turn-test.true none c.loop-turn.invariant)
    (read_as (λ x. x.items) c.all_read.result c.loop-turn.parts c.loop-turn.rest.now c.all_read.ensures)

pub loop-turn-preserved : goal.loop-turn-preserved
loop-turn-preserved g c =
    let next = g.P.Readable.part_at c.args.context in
    let found = sym (ap next c.after_optional_comma.ensures) ∙ c.in-Ok.ensures in
    rw c.in_ok-push-in-Ok.ensures.items (end_goes_on next (length c.args.s.now) c.loop-turn._turn c.loop-turn.parts.items c.loop-turn.rest.now _ c.in-Ok.part c.in-Ok.rest_after.now c.loop-turn-test.true found c.loop-turn.invariant)

pub returns : goal.returns
returns g c =
    rw (end_is_over (g.P.Readable.part_at c.args.context) (length c.args.s.now) c.loop-turn._turn c.loop-turn.parts.items c.loop-turn.rest.now _ c.loop-turn-test.false c.loop-turn.invariant)
    (read_as (λ x. x.items) c.all_read-2.result c.loop-turn.parts c.loop-turn.rest.now c.all_read-2.ensures)
