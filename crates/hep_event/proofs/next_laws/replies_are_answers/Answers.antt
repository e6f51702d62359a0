use Rattle.std.proofs.Common.{◌≡◌, sym, ◌∙◌, subst}
use Rattle.std.proofs.lemmas.Option.{same_Some}
use Rattle.hep_code.specs.Words.{Answers}
use Rattle.hep_layout.specs.Words.{address}
use Rattle.hep_machine.specs.Words.{Layout, Level, Process, answer_of, evaluating, next_of, run, scope_of, unit_at, unit_of, wants}
use Rattle.hep_event.proofs.Answered.{answered, own-reply, replied-so}
use Rattle.hep_event.proofs.TopPositions.{settled-there, settled-turn, turn}
use Rattle.hep_event.proofs.next_laws.replies_are_answers.Goals as goal

pub returns : goal.returns
returns c program cells choices p m coming levels top q accepted main running after is lives next =
    let k = is levels in
    let s = run program choices in
    let t = turn m after running levels in
    let same : t.0 ≡ top = same_Some t.0 top (sym t.1.lives ∙ lives) in
    let settled = settled-there m after running levels coming k in
    let runs = c.tops_are_running.ensures.running (settled-turn m after running levels coming k) accepted main settled in
    let next_there = subst (λ (x : Level × Process). next_of (unit_at program (unit_of s x.0.activation)) x.0.work ≡ wants (evaluating q)) (sym same) next in
    let laid : settled.after.layout ≡ after.after.layout = same_Some settled.after.layout after.after.layout (sym settled.after.laid ∙ after.after.laid) in
    let reply = own-reply m after running levels coming k runs q next_there in (
      reply,
      replied-so m after running levels coming k runs q next_there,
      subst (λ (x : Level × Process). Answers (address program s after.after.layout) s.store reply (answer_of (scope_of program s x.0.activation) s.store q)) same (
          subst (λ (l : Layout). Answers (address program s l) s.store reply (answer_of (scope_of program s t.0.0.activation) s.store q)) laid (
          answered m after running levels coming k runs q next_there)),
    )
