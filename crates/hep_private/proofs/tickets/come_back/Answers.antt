use Rattle.std.proofs.Common.{rules, nat_eq, not}
use Rattle.std.proofs.lemmas.Fn.{filter_same}
use Rattle.hep_private.proofs.tickets.come_back.Goals as goal

pub returns : goal.returns
returns c = filter_same _ (λ t. not (nat_eq t.process c.args.p)) _ (λ t b g made. search rules) _ _ c.retain.ensures.filtered
