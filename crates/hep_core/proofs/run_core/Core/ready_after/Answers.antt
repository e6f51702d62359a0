use Rattle.std.proofs.Common.{◌≡◌, ◌∙◌, [], None, ap, arith, length, sym, not, slice_get}
use Rattle.std.proofs.lemmas.Bool.Decides.{nat_tests}
use Rattle.std.proofs.lemmas.List.{nil_from_length}
use Rattle.hep_blocked.proofs.Listed.{first-least, first-other, first-some}
use Rattle.hep_blocked.proofs.Members.{ready-rise, rising-filter}
use Rattle.hep_machine.specs.Words.{first_above, next_of_ready, progress_after}
use Rattle.hep_core.specs.Tickets.{is_out}
use Rattle.hep_core.specs.ProcessPlaces.{PlacedCore}
use Rattle.hep_core.specs.CoreValues.{CoreValue, free_of, ready_of}
use Rattle.hep_core.proofs.ProcessesOut.{all_free}
use Rattle.hep_core.proofs.run_core.Core.ready_after.Goals as goal

-- of those that aren't out the least of all is the first one above 0
least : (core : CoreValue) → first_above 0 (free_of core) None ≡ slice_get (free_of core) 0
least core =
    let x = progress_after core.program core.history in
    let n = length x.state.processes in
    first-least n (free_of core) (rising-filter (λ p. not (is_out p core.out)) 1 n (ready_of core) (ready-rise x))

pub returns-in-Some : goal.returns-in-Some
returns-in-Some c =
    let free = free_of c.args.self.now.core in
    sym (first-some c.args.p c.in-Some.q free (slice_get free 0) (sym c.in-Some.ensures))

pub returns-in-None : goal.returns-in-None
returns-in-None c =
    let core = c.args.self.now.core in
    let free = free_of core in
    c.free_above-in-None.ensures ∙ least core ∙ sym (first-other c.args.p free (slice_get free 0) (sym c.in-None.ensures))

pub returns-then-is_empty : goal.returns-then-is_empty
returns-then-is_empty c =
    let core = c.args.self.now.core in
    let nobody : c.self.inside.out.items ≡ [] = nil_from_length c.self.inside.out.items (grind (arith, nat_tests, sym c.is_empty.ensures ∙ c.if-is_empty.true)) in
    let out : core.out ≡ [] = ap (λ (v : PlacedCore). v.core.out) (sym c.self.view_is) ∙ nobody in
    c.next_of_all.ensures ∙ sym (ap (next_of_ready c.args.p) (all_free (ready_of core) core.out out))
