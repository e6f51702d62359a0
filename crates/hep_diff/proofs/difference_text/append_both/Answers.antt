use Rattle.std.proofs.Common.{◌++◌, ◌∙◌, ap, append_assoc, codes}
use Rattle.hep_diff.specs.DifferenceLines.{all_marked, first_mark, second_mark}
use Rattle.hep_diff.proofs.difference_text.append_both.Goals as goal

pub returns : goal.returns
returns c =
    let before = c.args.text.now.items in
    let head = codes "ENDS DIFFER\n" in
    let first = all_marked first_mark c.args.first.now in
    let second = all_marked second_mark c.args.second.now in
    c.in_ok-append_all_marked-2.ensures
    ∙ ap (λ xs. xs ++ second) (c.in_ok-append_all_marked.ensures ∙ ap (λ xs. xs ++ first) c.in_ok-extend_from_slice.ensures.items)
    ∙ append_assoc (before ++ head) first second
    ∙ append_assoc before head (first ++ second)
