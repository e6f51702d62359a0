use Rattle.std.proofs.Common.{◌++◌, codes}
use Rattle.hep_formats.specs.Strings.{json_string}
use Rattle.hep_formats.proofs.Appended.{two}
use Rattle.hep_formats.proofs.members.append_place.Goals as goal

pub returns : goal.returns
returns c =
    two c.args.text.now.items (codes ",\"unit\":" ++ json_string c.args.unit.now) (codes ",\"line\":" ++ c.args.line.now)
    c.in_ok-append_string.ensures c.in_ok-append_word.ensures
