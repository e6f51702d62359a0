use Rattle.std.proofs.Common.{◌≡◌, ℕ, true, Result, Ok, Err, IsSome, sym, ◌∙◌, subst, OnOk, OnErr}
use Rattle.std.specs.Result.{is_ok}
use Rattle.std.proofs.lemmas.Result.{on_err_weaker, on_ok_weaker}
use Rattle.hep_machine.specs.Words.{Units}
use Rattle.hep_arena.specs.Holes.{first_fit}
use Rattle.hep_state.specs.declared.core_state.CoreState.{CoreState}
use Rattle.hep_state.specs.Words.{HasLivedOn, StaysShown, StepsOn, turn_of}
use Rattle.hep_state.proofs.GivenArguments.{can-begin, given-stays, stepped-given}
use Rattle.hep_state.proofs.core_state.CoreState.make_call.Goals as goal

pub give-requires : goal.give-requires
give-requires c = record { at = c.requires.at }

pub unit-requires : goal.unit-requires
unit-requires c =
    let at = c.requires.at.3 in
    c.calls_can_be_made.ensures.inside (turn_of at) c.args.call c.is_runnable.ensures.accepted c.is_runnable.ensures.main at.holds

pub returns-in_default : goal.returns-in_default
returns-in_default c = given-stays c.requires.at c.give.ensures.others c.give.ensures.rooms

pub returns-then-not-fits : goal.returns-then-not-fits
returns-then-not-fits c = given-stays c.requires.at c.give.ensures.others c.give.ensures.rooms

pub begin_call-requires : goal.begin_call-requires
begin_call-requires c =
    let fits : c.fits.result ≡ true = c.if-not-fits.false in
    let gap = subst (λ n. IsSome (first_fit n c.give.new.self.frames.arena.holes)) c.unit.ensures.cells (sym c.fits.ensures.fit ∙ fits) in
    can-begin c.requires.at c.give.ensures.others c.give.ensures.rooms c.in-Ok.kept c.requires.above c.requires.countable c.in-Ok.ensures.given gap

-- by whether memory was refused
by-result : {A E : Type 0} (program : Units) (p : ℕ) (old new : CoreState) (r : Result A E) → OnOk r (StepsOn program p old new) → OnErr r (StaysShown program old new) → HasLivedOn program p old (is_ok r) new
by-result program p old new (Ok x) steps stays = steps
by-result program p old new (Err e) steps stays = stays

pub returns : goal.returns
returns c =
    let program = c.args.image.now in
    let old = c.args.self.now in
    let new = c.begin_call.new.self in
    let r = c.begin_call.result in
    let at = c.requires.at in
    let given = given-stays at c.give.ensures.others c.give.ensures.rooms in
    subst (λ b. HasLivedOn program c.args.p old b new) (sym c.is_ok.ensures.value) (
    by-result program c.args.p old new r
    (on_ok_weaker r (stepped-given at c.give.ensures.others c.give.ensures.rooms new) c.begin_call.ensures.made)
    (on_err_weaker r (λ same. record { shown = same.shown ∙ given.shown; made = same.made ∙ given.made; rooms = λ cells h. same.rooms program cells (given.rooms cells h) }) c.begin_call.ensures.refused))
