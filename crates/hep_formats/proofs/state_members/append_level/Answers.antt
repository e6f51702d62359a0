use Rattle.std.proofs.Common.{◌++◌, codes}
use Rattle.hep_formats.specs.Members.{place_members}
use Rattle.hep_formats.proofs.Appended.{two}
use Rattle.hep_formats.proofs.state_members.append_level.Goals as goal

pub returns : goal.returns
returns c =
    two c.args.text.now.items (place_members c.args.unit.now c.args.line.now) (codes ",\"activation\":" ++ c.args.activation.now)
    c.in_ok-append_place.ensures c.in_ok-append_word.ensures
