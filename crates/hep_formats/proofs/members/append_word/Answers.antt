use Rattle.hep_formats.proofs.Appended.{two}
use Rattle.hep_formats.proofs.members.append_word.Goals as goal

pub returns : goal.returns
returns c =
    two c.args.text.now.items c.args.front.now c.args.word.now c.in_ok-extend_from_slice.ensures.items c.in_ok-extend_from_slice-2.ensures.items
