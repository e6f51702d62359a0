use Rattle.std.proofs.Common.{◌≡◌, ◌++◌, length, ap, ◌∙◌}
use Rattle.hep_event.specs.StateTextLines.{head_text}
use Rattle.hep_replay.specs.HistoryPrefix.{first_of}
use Rattle.hep_why.specs.Lines.{able_text, reasons_text}
use Rattle.hep_why.specs.Reasons.{able_of, reasons_of}
use Rattle.hep_why.proofs.FoundReasons.{able-is}
use Rattle.hep_why.proofs.why.why_text.Goals as goal

pub returns : goal.returns
returns c =
    let core = c.args.core.now.core in
    let entries = first_of c.args.entries.now in
    let found = c.deref-2.ensures.value ∙ c.in_ok-reasons.ensures in
    let able = able_text (reasons_of core.program entries) (able_of core.program entries) in
    let head : c.append_head.new.text.items ≡ head_text (length entries) =
    c.in_ok-append_head.ensures ∙ (λ i. c.new-text.ensures.items i ++ head_text (c.len.ensures.count i)) in
    c.in_ok-append_able.ensures
    ∙ (λ i. c.append_reasons.new.text.items ++ able_text (found i) ((c.able_of.ensures ∙ able-is core entries c.requires) i))
    ∙ ap (λ text. text ++ able) c.in_ok-append_reasons.ensures
    ∙ (λ i. (head i ++ reasons_text (c.image.ensures i) ((c.deref.ensures.value ∙ c.in_ok-reasons.ensures) i)) ++ able)
