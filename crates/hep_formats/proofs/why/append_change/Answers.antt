use Rattle.std.proofs.Common.{codes}
use Rattle.hep_formats.specs.WhyObjects.{change_front, change_members}
use Rattle.hep_formats.proofs.Appended.{three}
use Rattle.hep_formats.proofs.why.append_change.Goals as goal

pub returns : goal.returns
returns c =
    let line = c.args.line.now in
    let place = c.args.place.now in
    three c.args.text.now.items (change_front line place) (change_members line place) (codes "}")
    c.in_ok-append_change_front.ensures c.in_ok-append_change_members.ensures c.in_ok-extend_from_slice.ensures.items
