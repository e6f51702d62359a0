use Rattle.std.proofs.Common.{◌≡◌, ◌∙◌, ℕ, [], Some, ap, arith, length, sym}
use Rattle.hep_replay.specs.ChooseFault.TheVariants.{NoSuchProcess, Stopped}
use Rattle.hep_replay.specs.CoreValues.{CoreValue}
use Rattle.hep_outcome.specs.LotDraws.{next_drawn}
use Rattle.hep_outcome.specs.KeptLots.{LotsValue, lots_after, lots_next, next_in}
use Rattle.hep_outcome.proofs.RunsByLots.{lots-step}
use Rattle.hep_outcome.specs.declared.options.LotOptions.{LotOptions}
use Rattle.hep_outcome.specs.RunsByLots.{IsDrawing}
use Rattle.hep_outcome.proofs.LotDraws.{drawing-more, drawn-in, drawn-lives, drawn-out-ended, drawn-out-stopped, one-more, room, same-limit, same-program, same-program-stopped}
use Rattle.hep_outcome.proofs.Schedules.{refused_for}
use Rattle.hep_outcome.proofs.run_by_lots.draw_on.Goals as goal
use Rattle.hep_source.proofs.Tests.{none-if_not}

-- what the lots gave is what the seed draws
given : (options : LotOptions) (core : CoreValue) (lots : LotsValue) → IsDrawing options core → lots ≡ lots_after options.seed (length core.history) → (p : ℕ) → Some p ≡ next_in lots core → next_drawn options.seed core.program core.history ≡ Some p
given options core lots drawing is p found = sym (found ∙ drawn-in options core lots drawing is)

pub loop-process-preserved : goal.loop-process-preserved
loop-process-preserved c =
    let old = c.loop-process.core.core in
    let inv = c.loop-process.invariant in
    let options = c.args.options.now in
    let p = c.in-Some.process in
    let new = c.choose.new.self.core in
    let next = given options old c.loop-process.lots inv.drawing inv.lots p c.in-Some.ensures.process in
    record {
      program = same-program options old p inv.drawing next new c.in-Ok.field-0 c.in-Ok.ensures.chosen ∙ inv.program;
      drawing = drawing-more options old p inv.drawing next new c.in-Ok.field-0 c.in-Ok.ensures.chosen;
      out = ((drawing-more options old p inv.drawing next new c.in-Ok.field-0 c.in-Ok.ensures.chosen).running []).out;
      lots = c.in-Some.ensures.lots ∙ ap lots_next inv.lots ∙ lots-step options.seed (length old.history)
          ∙ ap (lots_after options.seed) (sym (one-more options old p inv.drawing next new c.in-Ok.field-0 c.in-Ok.ensures.chosen));
    }

pub loop-process-smaller : goal.loop-process-smaller
loop-process-smaller c =
    let old = c.loop-process.core.core in
    let inv = c.loop-process.invariant in
    let options = c.args.options.now in
    let p = c.in-Some.process in
    let new = c.choose.new.self.core in
    let next = given options old c.loop-process.lots inv.drawing inv.lots p c.in-Some.ensures.process in
    omega (
      arith,
      one-more options old p inv.drawing next new c.in-Ok.field-0 c.in-Ok.ensures.chosen,
      same-limit options old p inv.drawing next new c.in-Ok.field-0 c.in-Ok.ensures.chosen,
      room options old p inv.drawing next new c.in-Ok.field-0 c.in-Ok.ensures.chosen,
    )

pub returns-in-Err-Stopped-clause-drawn : goal.returns-in-Err-Stopped-clause-drawn
returns-in-Err-Stopped-clause-drawn c =
    let old = c.loop-process.core.core in
    let inv = c.loop-process.invariant in
    let options = c.args.options.now in
    let p = c.in-Some.process in
    let next = given options old c.loop-process.lots inv.drawing inv.lots p c.in-Some.ensures.process in
    let met = refused_for old c.choose.new.self.core p _ (Stopped c.in-Err-Stopped.field-0-0) c.in-Err-Stopped.field-0-is c.in-Err-Stopped.ensures.chosen in
    (_, drawn-out-stopped options old p inv.drawing next c.choose.new.self.core c.in-Err-Stopped.field-0-0 met)

pub returns-in-Err-Stopped-clause-program : goal.returns-in-Err-Stopped-clause-program
returns-in-Err-Stopped-clause-program c =
    let old = c.loop-process.core.core in
    let inv = c.loop-process.invariant in
    let options = c.args.options.now in
    let p = c.in-Some.process in
    let next = given options old c.loop-process.lots inv.drawing inv.lots p c.in-Some.ensures.process in
    let met = refused_for old c.choose.new.self.core p _ (Stopped c.in-Err-Stopped.field-0-0) c.in-Err-Stopped.field-0-is c.in-Err-Stopped.ensures.chosen in
    same-program-stopped options old p inv.drawing next c.choose.new.self.core c.in-Err-Stopped.field-0-0 met ∙ inv.program

pub unreachable-requires : goal.unreachable-requires
unreachable-requires c =
    let old = c.loop-process.core.core in
    let inv = c.loop-process.invariant in
    let options = c.args.options.now in
    let p = c.in-Some.process in
    let next = given options old c.loop-process.lots inv.drawing inv.lots p c.in-Some.ensures.process in
    drawn-lives options old p next (refused_for old c.choose.new.self.core p _ NoSuchProcess c.in-Err-NoSuchProcess.field-0-is c.in-Err-NoSuchProcess.ensures.chosen).1

pub returns-clause-drawn : goal.returns-clause-drawn
returns-clause-drawn c =
    let old = c.loop-process.core.core in
    let inv = c.loop-process.invariant in
    let options = c.args.options.now in
    let none = none-if_not c.next.result c.in_default.not-Some in
    (_, drawn-out-ended options old inv.drawing (sym (sym none ∙ c.next.ensures.process ∙ drawn-in options old c.loop-process.lots inv.drawing inv.lots)))
