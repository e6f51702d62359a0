use Rattle.std.proofs.Common.{◌≡◌, ◌≢◌, ◌∙◌, None, rules, subst, sym, true}
use Rattle.hep_machine.specs.Words.{living}
use Rattle.hep_core.specs.ProcessPlaces.{PlacedCore}
use Rattle.hep_core.specs.CoreValues.{HasNoStop, state_of}
use Rattle.hep_core.proofs.OtherTickets.{HaveWhatIsRead, given-fresh}
use Rattle.hep_core.proofs.Committing.{DependOnReads}
use Rattle.hep_core.proofs.GoodTickets.{some-of}
use Rattle.hep_core.proofs.run_core.Core.check_out_again.Goals as goal

pub returns-clause-fresh : goal.returns-clause-fresh
returns-clause-fresh c =
    let old = c.args.self.now in
    let mid = c.stop_where_full.new.self in
    let same : mid ≡ old = c.if-stop_where_full.ensures.1 in
    let law : HaveWhatIsRead = c.tickets_have_what_is_read.ensures in
    let depend : DependOnReads = record { kept = c.segments_depend_on_reads.ensures.kept; made = c.segments_depend_on_reads.ensures.made } in
    let lives : c.lives.result ≡ true = search rules in
    let there : living (state_of old.core) c.args.p ≢ None = some-of (living (state_of old.core) c.args.p) (sym c.lives.ensures ∙ lives) in
    given-fresh law depend mid c.args.p c.in_ok-give.field-0 c.give.new.self (subst (λ (v : PlacedCore). HasNoStop v.core) (sym same) c.in_default.ensures.none) (
    subst (λ (v : PlacedCore). living (state_of v.core) c.args.p ≢ None) (sym same) there) c.in_ok-give.ensures.given
