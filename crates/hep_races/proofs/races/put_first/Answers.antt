use Rattle.std.proofs.Common.{◌≡◌, ◌∷◌, not, nat_eq, map, ap, ◌∙◌, rules}
use Rattle.std.specs.List.{filter}
use Rattle.std.proofs.lemmas.Fn.{filter_same}
use Rattle.hep_accesses.specs.Detector.{is_repeated}
use Rattle.hep_races.specs.declared.event.StepAccess.{StepAccess}
use Rattle.hep_races.specs.Observed.{step_access_in, unit_eq}
use Rattle.hep_races.proofs.Racing.{map-filtered}
use Rattle.hep_races.proofs.races.put_first.Goals as goal

pub returns : goal.returns
returns c =
    let y = step_access_in c.args.y.now in
    let kept : c.retain.new.self.items
    ≡ filter (λ (d : StepAccess). not (is_repeated unit_eq nat_eq y (step_access_in d))) c.args.list.now.items =
    filter_same _ _ _ (λ x b f' k. search rules) _ _ c.retain.ensures.filtered in
    ap (map step_access_in) c.in_ok-insert.ensures.items
    ∙ ap (λ ds. y ∷ ds) (
    ap (map step_access_in) kept ∙ map-filtered step_access_in (λ d. not (is_repeated unit_eq nat_eq y d)) c.args.list.now.items)
