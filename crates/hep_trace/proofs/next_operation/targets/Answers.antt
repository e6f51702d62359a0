use Rattle.std.proofs.Common.{◌≡◌, ◌∙◌, ◌++◌, List, ℕ, ap, length, map, sym}
use Rattle.hep_machine.specs.Words.{Next, Reference, Top, does, next_of, purging, unit_on_top}
use Rattle.hep_trace.specs.References.{top_after}
use Rattle.hep_event.specs.StepTexts.{own_reference}
use Rattle.hep_event.specs.LineTexts.{references_text}
use Rattle.hep_trace.proofs.NextOperations.{purged, purges}
use Rattle.hep_trace.proofs.next_operation.targets.Goals.{in-Purge+in_ok-append_targets, in_default}
use Rattle.hep_trace.proofs.next_operation.targets.Goals as goal

same-targets : (n : Next) (a b : List Reference) → n ≡ does (purging a) → n ≡ does (purging b) → a ≡ b
same-targets n a b first second =
    let both : does (purging a) ≡ does (purging b) = sym first ∙ second in
    cc

pub append_targets-requires : goal.append_targets-requires
append_targets-requires c =
    let cells = c.requires.0 in
    let choices = c.requires.1 in
    let top = c.requires.2 in
    let ahead = c.requires.3 in
    let program = c.args.ahead.now.image.now in
    let coming = c.args.ahead.now.coming.now in
    let t : Top = top_after program choices c.args.ahead.now.process top in
    let come = c.operations_come_next.ensures program cells choices c.args.ahead.now.machine.now c.args.ahead.now.process top coming c.is_runnable.ensures.accepted c.is_runnable.ensures.main ahead.lives ahead.coming in
    let n = next_of (unit_on_top program t) top.0.work in
    let purge = purged program t coming.operands.items come.0 coming.operation coming.behind.now c.in-Purge.count c.in-Purge.next c.in-Purge.is n come.1 in
    (cells, choices, top, purge.0, ahead, purge.1, purge.2)

pub returns : goal.returns
returns c cells choices top ahead targets next =
    let program = c.args.ahead.now.image.now in
    let coming = c.args.ahead.now.coming.now in
    let t : Top = top_after program choices c.args.ahead.now.process top in
    let come = c.operations_come_next.ensures program cells choices c.args.ahead.now.machine.now c.args.ahead.now.process top coming c.is_runnable.ensures.accepted c.is_runnable.ensures.main ahead.lives ahead.coming in
    let n = next_of (unit_on_top program t) top.0.work in
    let text = references_text (map (own_reference program t) targets) in
    elim c.match-ahead.branch [
      | in-Purge+in_ok-append_targets w ↦
          let purge = purged program t coming.operands.items come.0 coming.operation coming.behind.now w.in-Purge.count w.in-Purge.next w.in-Purge.is n come.1 in
          let counted : w.in-Purge.count ≡ length targets = purge.2 ∙ ap (λ (ts : List Reference). length ts) (same-targets n purge.0 targets purge.1 next) in
          ap (λ l. l.items) w.list-is ∙ w.in_ok-append_targets.ensures cells choices top targets ahead next counted ∙ ap (λ (xs : List ℕ). xs ++ text) c.new-list.ensures.items
      | in_default w ↦
          let is = purges program t coming.operands.items come.0 coming.operation coming.behind.now n come.1 targets next in
          absurd (w.in_default.not-Purge _ _ is.1)
    ]
