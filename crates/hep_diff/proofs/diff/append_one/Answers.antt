use Rattle.std.proofs.Common.{◌≡◌, ◌+◌, ◌++◌, ◌∙◌, Some, None, slice_get, codes, sym, ap, append-nil}
use Rattle.hep_machine.specs.Words.{Units}
use Rattle.hep_diff.specs.ProcessSteps.{deeds_behind}
use Rattle.hep_diff.specs.Differences.{deed_or_rest, process_with}
use Rattle.hep_diff.specs.FirstDifferences.{first_from}
use Rattle.hep_diff.specs.DifferenceLines.{process_head}
use Rattle.hep_diff.specs.StepLogs.{kept_of}
use Rattle.hep_diff.proofs.Sides.{in-a-row, side-same}
use Rattle.hep_diff.proofs.diff.append_one.Goals as goal

pub returns : goal.returns
returns c front entries others h k =
    let program = c.args.first.now.core.core.program in
    let before = c.args.text.now.items in
    let p = c.args.p in
    let at = c.in-Some.at in
    let xs = deeds_behind program front entries p in
    let ys = deeds_behind program front others p in
    let deeds : c.deeds_of-deeds.result.now ≡ xs =
    c.deeds_of-deeds.ensures ∙ ap (λ rows. kept_of rows p) c.deref.ensures.value ∙ h.steps p in
    let second : c.deeds_of-others.result.now ≡ ys =
    c.deeds_of-others.ensures ∙ ap (λ rows. kept_of rows p) c.deref-2.ensures.value ∙ k.steps p
    ∙ ap (λ (us : Units). deeds_behind us front others p) (sym c.requires.same) in
    let found : Some at ≡ first_from 0 xs ys = c.in-Some.ensures ∙ (λ i. first_from 0 (deeds i) (second i)) in
    let one : deed_or_rest program c.args.first.now.core.core.history p c.deed_at.result ≡ deed_or_rest program entries p (slice_get xs at) =
    ap (deed_or_rest program c.args.first.now.core.core.history p) (c.deed_at.ensures ∙ ap (λ ds. slice_get ds at) deeds)
    ∙ side-same c.args.first.now.core.core entries h.replayed p (slice_get xs at) in
    let other : deed_or_rest c.args.second.now.core.core.program c.args.second.now.core.core.history p c.deed_at-2.result ≡ deed_or_rest program others p (slice_get ys at) =
    ap (deed_or_rest c.args.second.now.core.core.program c.args.second.now.core.core.history p) (c.deed_at-2.ensures ∙ ap (λ ds. slice_get ds at) second)
    ∙ side-same c.args.second.now.core.core others k.replayed p (slice_get ys at)
    ∙ ap (λ (us : Units). deed_or_rest us others p (slice_get ys at)) (sym c.requires.same) in
    let head : c.append_process.new.text.items ≡ before ++ process_head p (at + 1) =
    c.in_ok-append_process.ensures ∙ ap (λ n. before ++ process_head p n) c.number_of.ensures in
    c.in_ok-append_side-2.ensures
    ∙ (λ i. (c.in_ok-extend_from_slice-2.ensures.items ∙ ap (λ t. t ++ codes "> ") (c.in_ok-append_side.ensures ∙ (λ j. (c.in_ok-extend_from_slice.ensures.items ∙ ap (λ t. t ++ codes "< ") head) j ++ one j))) i ++ other i)
    ∙ in-a-row before (process_head p (at + 1)) (codes "< ") (deed_or_rest program entries p (slice_get xs at)) (codes "> ") (deed_or_rest program others p (slice_get ys at))
    ∙ ap (λ o. before ++ process_with program entries others p xs ys o) found

pub returns-in_default : goal.returns-in_default
returns-in_default c front entries others h k =
    let program = c.args.first.now.core.core.program in
    let before = c.args.text.now.items in
    let p = c.args.p in
    let xs = deeds_behind program front entries p in
    let ys = deeds_behind program front others p in
    let deeds : c.deeds_of-deeds.result.now ≡ xs =
    c.deeds_of-deeds.ensures ∙ ap (λ rows. kept_of rows p) c.deref.ensures.value ∙ h.steps p in
    let second : c.deeds_of-others.result.now ≡ ys =
    c.deeds_of-others.ensures ∙ ap (λ rows. kept_of rows p) c.deref-2.ensures.value ∙ k.steps p
    ∙ ap (λ (us : Units). deeds_behind us front others p) (sym c.requires.same) in
    let found : None ≡ first_from 0 xs ys = c.in_default.ensures ∙ (λ i. first_from 0 (deeds i) (second i)) in
    sym (append-nil before) ∙ ap (λ o. before ++ process_with program entries others p xs ys o) found
