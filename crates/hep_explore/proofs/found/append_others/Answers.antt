use Rattle.std.proofs.Common.{◌++◌, ◌∙◌, Bool, List, ap, append_assoc, codes, sym, ℕ}
use Rattle.hep_explore.specs.Explored.{others_text, states_text}
use Rattle.hep_explore.proofs.AppendedItems.{if_appended}
use Rattle.hep_explore.proofs.found.append_others.Goals as goal

pub returns : goal.returns
returns c =
    let old = c.args.text.now.items in
    let first = codes "CUT SHORT AFTER " in
    let states = states_text c.args.states in
    let last = codes "OTHER OUTCOMES MAY BE POSSIBLE\n" in
    let text = c.append_counted.new.text.items in
    let before = c.in_ok-append_counted.ensures ∙ ap (λ (t : List ℕ). t ++ states) c.in_ok-extend_from_slice.ensures.items in
    let all =
    ap (λ (t : List ℕ). t ++ last) (before ∙ append_assoc old first states)
    ∙ (append_assoc old (first ++ states) last
    ∙ ap (λ (b : Bool). old ++ others_text c.args.states b) (sym c.if-complete.false))
    in
    if_appended c.extend_from_slice-3.result c.extend_from_slice-3.new.self.items text last _ c.extend_from_slice-3.ensures.items all
