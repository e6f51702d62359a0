use Rattle.std.proofs.Common.{◌∷◌, [], ◌∙◌, ap}
use Rattle.hep_names.specs.Statements.{rest_after}
use Rattle.hep_names.proofs.Trees.{after-append}
use Rattle.hep_places.proofs.group_list.add_one.Goals as goal

pub returns : goal.returns
returns c = ap rest_after c.in_ok-push.ensures.items ∙ after-append c.args.found.now.items (c.args.group ∷ [])
