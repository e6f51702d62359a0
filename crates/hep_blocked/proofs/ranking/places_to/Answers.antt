use Rattle.std.proofs.Common.{◌≡◌, suc, ◌-◌, sym, ap, arith, ◌∙◌}
use Rattle.hep_blocked.specs.Rosters.{places_to}
use Rattle.hep_blocked.proofs.Ranks.{to-found, to-zero}
use Rattle.hep_blocked.proofs.ranking.places_to.Goals as goal

pub returns-then-p-eq0 : goal.returns-then-p-eq0
returns-then-p-eq0 c =
    let r = c.requires.rising in
    let p : c.args.p ≡ 0 = omega (arith, c.if-p-eq0.true) in
    to-zero r.0 c.args.numbers.now r.1 ∙ ap (places_to c.args.numbers.now) (sym p)

pub returns-then-numbers-p : goal.returns-then-numbers-p
returns-then-numbers-p c =
    let p = c.args.p in
    let r = c.requires.rising in
    let place : p ≡ suc (p - 1) = omega (arith, c.if-p-eq0.false) in
    place ∙ to-found r.0 p (p - 1) c.args.numbers.now r.1 (omega (arith, c.if-p-eq0.false, c.if-p-numbers.true)) c.if-numbers-p.true
