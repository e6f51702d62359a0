use Rattle.std.proofs.Common.{◌≡◌, ◌-◌, ◌+◌, ◌<◌, suc, length, refl, sym, subst, arith}
use Rattle.hep_control.proofs.Continuations.{Read, one-read}
use Rattle.hep_control.proofs.successors.successors_of.Goals as goal

pub loop-read-preserved : goal.loop-read-preserved
loop-read-preserved c =
    let unit = c.args.unit.now in
    let past = length unit in
    let k = past - 1 - c.loop-read.read in
    let less : k < length unit = omega arith in
    let ahead : past - c.loop-read.read ≡ suc k = omega arith in
    let now : k ≡ past - (c.loop-read.read + 1) = omega arith in
    let before = subst (λ n. Read unit past n c.loop-read.all.items c.loop-read.ahead) ahead c.loop-read.invariant in
    let done = one-read unit past k c.index-unit-index.result c.successors.result c.loop-read.all.items c.loop-read.ahead c.read.new.self refl less c.index-unit-index.is before c.successors.ensures c.in_ok-read.ensures in
    subst (λ n. Read unit past n c.push.new.self.items c.read.new.self) now (subst (λ xs. Read unit past k xs c.read.new.self) (sym c.in_ok-push.ensures.items) done)
