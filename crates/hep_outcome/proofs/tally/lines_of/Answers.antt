use Rattle.std.proofs.Common.{◌+◌, ◌++◌, ◌∙◌, List, ℕ, ap, append_assoc, drop, sym}
use Rattle.std.specs.List.{flat_map}
use Rattle.hep_source.proofs.Tests.{drop_at}
use Rattle.hep_outcome.specs.Tallies.{Tally, tally_text}
use Rattle.hep_outcome.proofs.tally.lines_of.Goals as goal

pub loop-tally-preserved : goal.loop-tally-preserved
loop-tally-preserved c =
    let ts : List Tally = c.args.tallies.now in
    let i = c.loop-tally.tally-index in
    let t : Tally = c.tally-item.result in
    let text = c.loop-tally.text.items in
    let rest = flat_map (tally_text c.args.runs) (drop (i + 1) ts) in
    ap (λ (l : List ℕ). l ++ rest) c.in_ok-append.ensures
    ∙ append_assoc text (tally_text c.args.runs t) rest
    ∙ ap (λ (us : List Tally). text ++ flat_map (tally_text c.args.runs) us) (sym (drop_at ts i t c.loop-tally-test.true c.tally-item.is))
    ∙ c.loop-tally.invariant
