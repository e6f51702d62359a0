use Rattle.std.proofs.Common.{◌-ℤ◌, pos, sym, subst}
use Rattle.std.proofs.lemmas.Int.{to_z-of_z}
use Rattle.hep_machine.specs.Words.{loop_at, natural, Loop}
use Rattle.hep_code.specs.Words.{LeadsCounted}
use Rattle.hep_code.proofs.ControlFlow.{entered_leads, ended_leads}
use Rattle.hep_code.proofs.instruction.led_by_count.Goals as goal

pub returns-clause-enters : goal.returns-clause-enters
returns-clause-enters c = λ addressed level operands old new line behind x m n i increment is_at ahead is.
    let fits = c.ranges.count in
    let l : Loop = record { statement = level.statement; count = c.args.count; increment = increment } in
    subst (LeadsCounted addressed level l old new) (sym (simp to_z-of_z at c.index_counted.ensures))
    (entered_leads addressed level operands old new c.args.index is_at line c.args.operation behind ahead x m n i c.args.count increment is)

pub returns-clause-ends : goal.returns-clause-ends
returns-clause-ends c = λ addressed level operands old new line behind d is_at ahead is less.
    let before = loop_at level.loops d in
    let fits = c.ranges.count in
    let l : Loop = record { statement = before.statement; count = before.count -ℤ pos 1; increment = before.increment } in
    subst (LeadsCounted addressed level l old new) (sym (simp to_z-of_z at c.index_counted.ensures))
    (ended_leads addressed level operands old new c.args.index is_at line c.args.operation behind ahead d (natural c.args.count) is less)
