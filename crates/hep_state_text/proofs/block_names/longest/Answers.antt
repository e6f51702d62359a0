use Rattle.std.proofs.Common.{◌≡◌, ◌+◌, ◌<◌, ◌∙◌, List, ap, sym, drop, length, arith, nat_eq, true, get_or, Some}
use Rattle.std.proofs.lemmas.Option.{slice_get-get_or}
use Rattle.hep_machine.specs.Words.{Statement, cells_of_all, names_in_block}
use Rattle.hep_source.proofs.Tests.{drop_at}
use Rattle.hep_state_text.specs.States.{first_with}
use Rattle.hep_state_text.proofs.FirstUnits.{longest-here, unit-is}
use Rattle.hep_state_text.proofs.block_names.longest.Goals as goal

pub returns-then-branch-clause-unit : goal.returns-then-branch-clause-unit
returns-then-branch-clause-unit c =
    let us = c.args.program.now in
    let i = c.loop-number.number in
    let unit = c.symbols-item.result in
    let items = c.units-symbols-items.ensures in
    let b = c.args.block in
    let n = c.args.cells in
    let within : i < length us = omega (arith, c.loop-number-test.true, ap length items) in
    let is : unit ≡ get_or us i unit = c.symbols-item.is ∙ ap (λ vs. get_or vs i unit) items in
    let next = drop_at us i unit within is in
    let test : nat_eq (cells_of_all unit (names_in_block unit b)) n ≡ true = sym c.in_ok-has_length.ensures ∙ c.if-branch.true in
    unit-is us i unit (slice_get-get_or us i unit within ∙ ap (λ (u : List Statement). Some u) (sym is))
    ∙ sym (longest-here b n unit (drop (i + 1) us) test)
    ∙ ap (first_with n b) (sym next)
    ∙ c.loop-number.invariant.same
    ∙ ap (λ m. first_with m b us) c.requires.cells
