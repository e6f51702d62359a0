use Rattle.std.proofs.Common.{◌≡◌, ap, arith, length, subst, ◌∙◌}
use Rattle.hep_code.specs.Words.{deepest}
use Rattle.hep_private.specs.Segments.{is_next_private}
use Rattle.hep_proc.proofs.Levels.{operands-are}
use Rattle.hep_commit.proofs.StandingProcesses.{start-same}
use Rattle.hep_commit.proofs.top_activation.is_next_private.Goals as goal

pub is_next_private-requires : goal.is_next_private-requires
is_next_private-requires c =
    let r = c.requires in
    let at = c.place-index.ensures r.l r.ls r.operands r.pending r.stack in
    omega (arith, ap length (c.deref.ensures.value ∙ operands-are c.args.process.now r.l r.ls r.operands r.pending r.stack), r.few, at.code.operands, at.code.few_operands, ap deepest at.code.code)

pub returns-clause-private : goal.returns-clause-private
returns-clause-private c l ls operands pending is =
    let at = c.place-index.ensures l ls operands pending is in
    subst (λ start. c.is_next_private.result ≡ is_next_private c.args.image.now start) (
    start-same c.args.frames.now l c.top.result operands c.deref.result.now c.place-index.result.2 c.place-index.result.1.first c.slots_mut.result.now (c.top.ensures l ls operands pending is) at.at (
    c.deref.ensures.value ∙ operands-are c.args.process.now l ls operands pending is) c.slots_mut.ensures.value (ap (λ f. f.first) at.framed)) c.is_next_private.ensures
