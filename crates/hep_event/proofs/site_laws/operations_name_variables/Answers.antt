use Rattle.std.proofs.Common.{◌≡◌, ◌≢◌, Some, refl, sym, subst}
use Rattle.hep_code.specs.declared.variable.Variable.TheVariants.{Absent}
use Rattle.hep_code.specs.Words.{is_asynchronous}
use Rattle.hep_image.specs.Places.{variable_of}
use Rattle.hep_machine.specs.Words.{Level, Process, Reference, next_of, run, unit_at, unit_of}
use Rattle.hep_event.proofs.TopPositions.{settled-there, settled-turn, turn}
use Rattle.hep_event.specs.NamedVariables.{IsNamed, named_by}
use Rattle.hep_event.proofs.NamedAhead.{named-so, naming}
use Rattle.hep_event.proofs.FoundVariables.{levels-of, same-top}
use Rattle.hep_event.proofs.site_laws.operations_name_variables.Goals as goal

pub returns-clause-variables : goal.returns-clause-variables
returns-clause-variables c program cells choices m p top coming x accepted main lives is named =
    let levels = levels-of lives in
    let after = lives.after in
    let running = lives.running in
    let k = is levels in
    let s = run program choices in
    let t = turn m after running levels in
    let same : t.0 ≡ top = same-top lives levels in
    let runs = c.tops_are_running.ensures.running (settled-turn m after running levels coming k) accepted main (settled-there m after running levels coming k) in
    let there = subst (λ (z : Level × Process). IsNamed (unit_at program (unit_of s z.0.activation)) (next_of (unit_at program (unit_of s z.0.activation)) z.0.work) x) (sym same) named in
    let f = named-so m after running levels coming k runs (next_of (unit_at program (unit_of s t.0.0.activation)) t.0.0.work) x refl there in
    subst (λ (z : Level × Process). (named_by coming.operation coming.operands.items ≡ Some (variable_of program (unit_at program (unit_of s z.0.activation)) x.0, x.1)) × (variable_of program (unit_at program (unit_of s z.0.activation)) x.0 ≢ Absent) × (is_asynchronous (variable_of program (unit_at program (unit_of s z.0.activation)) x.0) ≡ x.0.asynchronous)) same (
    (f.named, f.placed, f.asynchronous))

pub returns-clause-names : goal.returns-clause-names
returns-clause-names c program cells choices m p top coming accepted main lives is some =
    let levels = levels-of lives in
    let after = lives.after in
    let running = lives.running in
    let k = is levels in
    let s = run program choices in
    let t = turn m after running levels in
    let same : t.0 ≡ top = same-top lives levels in
    let runs = c.tops_are_running.ensures.running (settled-turn m after running levels coming k) accepted main (settled-there m after running levels coming k) in
    subst (λ (z : Level × Process). (x : Reference) × IsNamed (unit_at program (unit_of s z.0.activation)) (next_of (unit_at program (unit_of s z.0.activation)) z.0.work) x) same (
    naming m after running levels coming k runs (next_of (unit_at program (unit_of s t.0.0.activation)) t.0.0.work) refl some)
