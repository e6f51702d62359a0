use Rattle.std.proofs.Common.{◌++◌, ◌∙◌, codes}
use Rattle.hep_formats.specs.Strings.{json_string}
use Rattle.hep_formats.proofs.state_members.append_list.Goals as goal

pub returns : goal.returns
returns c =
    c.in_ok-append_string.ensures ∙ (λ i. c.args.text.now.items ++ (codes ",\"subscripts\":" ++ json_string (c.from.ensures i)))
