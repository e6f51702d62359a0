use Rattle.std.proofs.Common.{◌≡◌, ◌++◌, drop, map}
use Rattle.hep_formats.specs.Lanes as words
use Rattle.hep_formats.proofs.lanes.append_rows.Given as goal

abbrev pub invariant-loop-line : goal.invariant-loop-line
invariant-loop-line l =
    let all = map (λ line. line.now) l.lines in
    l.text.items ++ words.rows_text l.frame all l.lanes.items (map (λ line. line.now) (drop l.line-index l.lines))
    ≡ l.fn.text.items ++ words.rows_text l.frame all l.fn.lanes.items all
