use Rattle.std.proofs.Common.{◌++◌, ◌∙◌, ap, append_assoc, codes}
use Rattle.std.specs.Fmt.{decimal}
use Rattle.hep_diff.proofs.difference_text.append_process_words.Goals as goal

pub returns : goal.returns
returns c =
    let before = c.args.text.now.items in
    let p = decimal c.args.p in
    let behind = codes " DIFFERS IN STEP " in
    c.in_ok-extend_from_slice-2.ensures.items
    ∙ ap (λ xs. xs ++ behind) (c.in_ok-append_number.ensures ∙ ap (λ xs. xs ++ p) c.in_ok-extend_from_slice.ensures.items)
    ∙ append_assoc (before ++ codes "PROCESS ") p behind
    ∙ append_assoc before (codes "PROCESS ") (p ++ behind)
