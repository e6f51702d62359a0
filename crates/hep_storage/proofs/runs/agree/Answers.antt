use Rattle.std.proofs.Common.{◌≡◌, ◌∙◌, true, false, nat_eq, length, arith}
use Rattle.std.proofs.lemmas.Bool.Decides.{nat_tests}
use Rattle.hep_storage.proofs.CommonPrefixes.{agreed}
use Rattle.hep_storage.proofs.runs.agree.Goals as goal

pub returns-then-meeting-first : goal.returns-then-meeting-first
returns-then-meeting-first c =
    let m = c.meet-meeting in
    let e : nat_eq m.result.first.run (length c.args.first.now) ≡ true = grind (arith, nat_tests) in
    e ∙ (rw e at (agreed m.result.first m.result.second c.args.first.now c.args.second.now m.ensures.first_place m.ensures.second_place m.ensures.same m.ensures.parted))

pub returns-else-meeting-first : goal.returns-else-meeting-first
returns-else-meeting-first c =
    let m = c.meet-meeting in
    let e : nat_eq m.result.first.run (length c.args.first.now) ≡ false = grind (arith, nat_tests) in
    rw e at (agreed m.result.first m.result.second c.args.first.now c.args.second.now m.ensures.first_place m.ensures.second_place m.ensures.same m.ensures.parted)
