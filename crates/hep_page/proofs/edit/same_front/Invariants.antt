use Rattle.std.proofs.Common.{◌≡◌, ◌+◌, ◌≤◌, drop, length, map}
use Rattle.std.specs.Prelude.{◌-◌}
use Rattle.hep_page.specs.Edits as words
use Rattle.hep_page.proofs.edit.same_front.Given as goal

abbrev pub invariant-loop-same : goal.invariant-loop-same
invariant-loop-same l =
    (l.same + words.same_front (drop l.same (map (λ line. line.now) l.old)) (drop l.same (map (λ line. line.now) l.new))
    ≡ words.same_front (map (λ line. line.now) l.old) (map (λ line. line.now) l.new))
    × (l.same ≤ length l.old) × (l.same ≤ length l.new)

abbrev pub decreases-loop-same : goal.decreases-loop-same
decreases-loop-same l = length l.old - l.same
