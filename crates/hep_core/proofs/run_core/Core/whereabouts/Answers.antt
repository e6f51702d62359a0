use Rattle.std.proofs.Common.{◌≡◌, false, true, IsSome, is_some, rules, sym, ap, ◌∙◌}
use Rattle.hep_source.proofs.Tests.{none-from-not}
use Rattle.hep_machine.specs.Words.{living, run, schedule_of, state_after, State}
use Rattle.hep_views.specs.ProcessPositions.{whereabouts_by, whereabouts_with}
use Rattle.hep_core.proofs.Histories.{state-is}
use Rattle.hep_core.proofs.run_core.Core.whereabouts.Goals.{After-lives}
use Rattle.hep_core.proofs.run_core.Core.whereabouts.Goals as goal

pub lives-requires : goal.lives-requires
lives-requires c = c.self.invariant.after.numbers

pub returns-then-not-lives : goal.returns-then-not-lives
returns-then-not-lives c =
    let i = c.self.inside in
    let h = i.history.items in
    let dead : c.lives.result ≡ false = search rules in
    rw (← c.self.view_is) (sym (ap (whereabouts_with i.image (state_after i.image h) c.args.p) (
    none-from-not (living (state_after i.image h) c.args.p) (ap (λ (s : State). is_some (living s c.args.p)) (state-is i.image h)
    ∙ sym (c.lives.ensures.lives i.image i.cells (schedule_of h) c.self.invariant.after.after) ∙ dead))))

-- it lives in the state that the machine keeps
some : (c : After-lives) → c.lives.result ≡ true → IsSome (living (run c.self.inside.image (schedule_of c.self.inside.history.items)) c.args.p)
some c lives =
    let i = c.self.inside in
    let choices = schedule_of i.history.items in
    sym (c.lives.ensures.lives i.image i.cells choices c.self.invariant.after.after) ∙ lives

pub whereabouts-requires : goal.whereabouts-requires
whereabouts-requires c =
    let i = c.self.inside in
    let lives : c.lives.result ≡ true = search rules in
    (i.cells, schedule_of i.history.items, c.self.invariant.after, some (goal.at.whereabouts-requires c).After-lives lives)

pub returns : goal.returns
returns c =
    let i = c.self.inside in
    let h = i.history.items in
    let lives : c.lives.result ≡ true = search rules in
    let told = c.whereabouts.ensures i.cells (schedule_of h) c.self.invariant.after (some (goal.at.returns c).After-lives lives) in
    rw (← c.self.view_is) (sym (ap (whereabouts_by i.image c.args.p) (state-is i.image h) ∙ told))
