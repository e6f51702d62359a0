use Rattle.hep_formats.specs.Strings.{json_string}
use Rattle.hep_formats.proofs.Appended.{two}
use Rattle.hep_formats.proofs.members.append_string.Goals as goal

pub returns : goal.returns
returns c =
    two c.args.text.now.items c.args.front.now (json_string c.args.word.now)
    c.in_ok-extend_from_slice.ensures.items c.in_ok-append_json_string.ensures
