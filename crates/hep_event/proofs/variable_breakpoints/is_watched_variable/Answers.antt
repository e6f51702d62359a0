use Rattle.std.proofs.Common.{◌≡◌, ℕ, false, ◌||◌, List, Some, Bor, slice_get, sym, ap, ◌∙◌}
use Rattle.std.specs.Option.{option_map}
use Rattle.std.specs.Str.{bytes_eq}
use Rattle.std.proofs.lemmas.Option.{none-some, same_Some}
use Rattle.hep_image.specs.Names.{names_in_order, variable_number}
use Rattle.hep_image.proofs.Numbers.{number-of-variable}
use Rattle.hep_machine.specs.Words.{Name, spelling, unit_at}
use Rattle.hep_event.specs.Sites.{IsVariableOf}
use Rattle.hep_event.proofs.Declared.{placed-named}
use Rattle.hep_step.specs.Simulation.{unit_arrays}
use Rattle.hep_event.specs.VariableBreakpoints.{is_dummy}
use Rattle.hep_event.proofs.variable_breakpoints.is_watched_variable.Goals.{After-name}
use Rattle.hep_event.proofs.variable_breakpoints.is_watched_variable.Goals as goal

-- the name of the variable's number
spelled : (c : After-name) (x : Name) → IsVariableOf c.args.seeker.now.image.now (unit_at c.args.seeker.now.image.now c.args.seeker.now.unit) x c.args.variable
    → slice_get (names_in_order c.args.seeker.now.image.now) c.in-Some.number ≡ Some (spelling x)
spelled c x is =
    let program = c.args.seeker.now.image.now in
    let u = c.args.seeker.now.unit in
    let number = same_Some c.in-Some.number (variable_number program u x) (sym c.in-Some.is ∙ c.number_of.ensures x is.0 is.1) in
    ap (slice_get (names_in_order program)) number
    ∙ number-of-variable program u x c.requires.inside (placed-named program (unit_at program u) x (λ absent. is.1 (sym is.0 ∙ absent)))

pub returns-in-Some-name : goal.returns-in-Some-name
returns-in-Some-name c x is =
    let k = c.args.seeker.now in
    let name = k.name.now in
    let v = c.args.variable in
    let arrays : c.as_slice.result.now ≡ unit_arrays k.image.now k.unit = c.as_slice.ensures ∙ c.unit.ensures.arrays in
    let own : is_dummy (unit_arrays k.image.now k.unit) v ≡ false = sym (c.is_dummy.ensures ∙ ap (λ list. is_dummy list v) arrays) ∙ c.if-is_dummy.false in
    let same : c.in-Some-name.name.now ≡ spelling x = same_Some c.in-Some-name.name.now (spelling x) (
    ap (option_map (λ (n : Bor (List ℕ)). n.now)) (sym c.in-Some-name.is) ∙ (c.name.ensures ∙ spelled (goal.at.returns-in-Some-name c).After-name x is)) in
    c.eq.ensures ∙ ap (bytes_eq name) same ∙ ap (λ b. b || bytes_eq name (spelling x)) (sym own)

pub returns-in-None : goal.returns-in-None
returns-in-None c x is =
    absurd (none-some (spelling x) (ap (option_map (λ (n : Bor (List ℕ)). n.now)) (sym c.in-None.is) ∙ (c.name.ensures ∙ spelled (goal.at.returns-in-None c).After-name x is)))
