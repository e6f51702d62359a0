use Rattle.std.proofs.Common.{◌++◌, ◌∙◌, List, ℕ, codes}
use Rattle.hep_formats.specs.Strings.{json_string}
use Rattle.hep_formats.specs.StateObjects.{subscripts_members}
use Rattle.hep_formats.proofs.Appended.{two}
use Rattle.hep_formats.proofs.state_members.append_name.Goals as goal

pub returns : goal.returns
returns c =
    let text : List ℕ = c.args.text.now.items in
    let subscripts : List ℕ = subscripts_members c.args.elements.now in
    two text (codes ",\"name\":" ++ json_string c.up_to.result.now) subscripts c.in_ok-append_string.ensures c.in_ok-append_subscripts.ensures
    ∙ (λ i. text ++ ((codes ",\"name\":" ++ json_string (c.up_to.ensures i)) ++ subscripts))
