use Rattle.std.proofs.Common.{◌≡◌, ◌<◌, ◌+◌, ◌&&◌, ◌||◌, suc, None, ap, ◌∙◌, arith, get_or, if◌then◌else◌, length, nat_eq, nat_lt}
use Rattle.hep_machine.specs.Words.{is_number_among}
use Rattle.hep_blocked.specs.Rosters.{number_at, place_of, want_of}
use Rattle.hep_blocked.specs.Waiting.{waiting_at}
use Rattle.hep_blocked.proofs.Ranks.{less-at, number-some, rise-to}
use Rattle.hep_blocked.proofs.Rosters.{taken-all, taken-next, taken-none, wanted-all, wanted-next, wanted-none}
use Rattle.hep_blocked.proofs.roster.moved.Goals as goal

pub loop-at-init : goal.loop-at-init
loop-at-init c =
    let ns = c.args.numbers.now in
    let xs = c.args.ready.now.ready in
    let ws = c.args.waits.now in
    let r = c.requires.rising in (
      λ q. ap (is_number_among q) c.new-roster.ensures.ready ∙ taken-none r.0 ns xs ws r.1 c.requires.places q,
      λ q. ap (λ waiting. want_of waiting q) c.new-roster.ensures.waiting ∙ wanted-none r.0 ns xs ws r.1 c.requires.places q,
      λ k some inside. omega (arith, c.new-roster.ensures.last, number-some r.0 k ns r.1 some inside),
      λ greatest rise. omega (arith, c.new-roster.ensures.last),
    )

pub loop-at-preserved : goal.loop-at-preserved
loop-at-preserved c =
    let ns = c.args.numbers.now in
    let xs = c.args.ready.now.ready in
    let ws = c.args.waits.now in
    let r = c.requires.rising in
    let are = c.requires.places in
    let at = c.loop-at.at in
    let inside : at < length ns = omega (arith, c.loop-at-test.true) in
    let step : suc at ≡ at + 1 = omega arith in
    let place : at + 1 ≡ suc at = omega arith in
    let marked : c.has.result ≡ is_number_among (suc at) xs = c.has.ensures ∙ ap (λ m. is_number_among m xs) place in
    let wanted : c.waiting.result ≡ waiting_at ws (suc at) = c.waiting.ensures ∙ ap (waiting_at ws) place in (
      λ q.
          c.in_ok-keep.ensures.ready q
          ∙ ((λ i. (nat_eq q (number_at ns (suc at)) && c.has.result) || c.loop-at.invariant.0 q i)
          ∙ (taken-next r.0 ns xs ws r.1 are at q c.has.result inside marked
          ∙ ap (λ m. nat_lt (place_of ns q) (suc m) && is_number_among (place_of ns q) xs) step)),
      λ q.
          c.in_ok-keep.ensures.waiting q
          ∙ ((λ i. if nat_eq q (number_at ns (suc at)) then c.waiting.result else c.loop-at.invariant.1 q i)
          ∙ (wanted-next r.0 ns xs ws r.1 are at q c.waiting.result inside wanted
          ∙ ap (λ m. if nat_lt (place_of ns q) (suc m) then waiting_at ws (place_of ns q) else None) step)),
      λ k more within.
          let less : get_or ns at 0 < number_at ns k = less-at r.0 (suc at) k ns r.1 (omega arith) (omega (arith, more)) within in
          omega (arith, c.keep.ensures.last, less),
      λ greatest rise. omega (arith, c.keep.ensures.last, rise-to 1 greatest at ns rise inside),
    )

pub returns-clause-ready : goal.returns-clause-ready
returns-clause-ready c q =
    let r = c.requires.rising in
    c.loop-at.invariant.0 q
    ∙ taken-all r.0 c.args.numbers.now c.args.ready.now.ready c.args.waits.now r.1 c.requires.places c.loop-at.at q (omega (arith, c.loop-at-test.false))

pub returns-clause-waiting : goal.returns-clause-waiting
returns-clause-waiting c q =
    let r = c.requires.rising in
    c.loop-at.invariant.1 q
    ∙ wanted-all r.0 c.args.numbers.now c.args.ready.now.ready c.args.waits.now r.1 c.requires.places c.loop-at.at q (omega (arith, c.loop-at-test.false))
