use Rattle.std.proofs.Common.{◌<◌, ◌↔◌, IsTrue, ap, length, subst, sym, ◌∙◌}
use Rattle.hep_proc.proofs.Levels.{operands-are}
use Rattle.hep_proc.specs.declared.process.Local.{Local}
use Rattle.hep_private.specs.Segments.{IsMadeFrom}
use Rattle.hep_commit.specs.Offers.{offered}
use Rattle.hep_commit.proofs.StandingProcesses.{start-same}
use Rattle.hep_commit.proofs.top_activation.is_next.Goals as goal

pub place-index-requires : goal.place-index-requires
place-index-requires c = let r = c.requires.owned.1 in (r.l, r.ls, r.operands, r.pending, r.stack, r.there)

pub is_next-requires-clause-inside : goal.is_next-requires-clause-inside
is_next-requires-clause-inside c =
    let r = c.requires.owned.1 in
    subst (λ (l : Local). l.unit < length c.args.owned.now.image.now) (sym (c.top.ensures r.l r.ls r.operands r.pending r.stack)) r.there.0

pub returns-clause-made : goal.returns-clause-made
returns-clause-made c l ls operands pending is =
    let program = c.args.owned.now.image.now in
    let at = c.place-index.ensures l ls operands pending is in
    subst (λ start. IsTrue c.is_next.result ↔ IsMadeFrom program start (offered program c.args.offer.now)) (
    start-same c.args.frames.now l c.top.result operands c.deref.result.now c.place-index.result.2 c.place-index.result.1.first c.slots_mut.result.now (c.top.ensures l ls operands pending is) at.at (
    c.deref.ensures.value ∙ operands-are c.args.process.now l ls operands pending is) c.slots_mut.ensures.value (ap (λ f. f.first) at.framed)) c.is_next.ensures
