use Rattle.std.proofs.Common.{◌∙◌, ◌++◌, List, ap, append-nil, sym}
use Rattle.hep_races.proofs.ReadBounds.{none-seen, one-seen}
use Rattle.hep_races.proofs.bound_reads.append_read.Goals as goal
use Rattle.hep_races.specs.declared.step_access.SitedAccess.{SitedAccess}
use Rattle.std.specs.Option.{option_to_list}

pub returns-in_ok-push : goal.returns-in_ok-push
returns-in_ok-push c r =
    c.in_ok-push.ensures.items
    ∙ ap (λ (xs : List SitedAccess). c.args.reads.now.items ++ xs) (one-seen r c.args.bound.now.name c.in-Some.at (
    sym (ap option_to_list c.in-Some.is) ∙ c.bound_place.ensures r))

pub returns-in_default : goal.returns-in_default
returns-in_default c r =
    sym (append-nil c.args.reads.now.items)
    ∙ ap (λ (xs : List SitedAccess). c.args.reads.now.items ++ xs) (none-seen r c.args.bound.now.name (
    sym (ap option_to_list c.in_default.is) ∙ c.bound_place.ensures r))
