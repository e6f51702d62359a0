use Rattle.std.proofs.Common.{◌≡◌, suc, ◌+◌, Ok, Err, arith, ◌∙◌}
use Rattle.std.proofs.lemmas.List.Sorted.{searched}
use Rattle.hep_blocked.proofs.Ranks.{rise-order, to-found, to-is}
use Rattle.hep_blocked.proofs.ranking.places_sought.Goals as goal

pub returns-in-Ok : goal.returns-in-Ok
returns-in-Ok c =
    let ns = c.args.numbers.now in
    let r = c.requires.rising in
    let at = c.in-Ok.at in
    let found = searched ns c.args.p (Ok at) c.in-Ok.ensures.position (rise-order 1 r.0 ns r.1) in
    let place : at + 1 ≡ suc at = omega arith in
    place ∙ to-found r.0 c.args.p at ns r.1 found.0 found.1

pub returns-in-Err : goal.returns-in-Err
returns-in-Err c =
    let ns = c.args.numbers.now in
    let r = c.requires.rising in
    let at = c.in-Err.at in
    let found = searched ns c.args.p (Err at) c.in-Err.ensures.position (rise-order 1 r.0 ns r.1) in
    to-is c.args.p at ns found.0 (λ k less. omega (arith, found.1 k less)) found.2
