use Rattle.std.proofs.Common.{IfNone, None, Option, Some, refl, sym, arith}
use Rattle.hep_explore.specs.Searching.{Known, known_of}
use Rattle.hep_explore.proofs.SearchedStates.{same_known, taken_goes_on, taken_is_search, taken_numbered}
use Rattle.hep_explore.proofs.search.Search.next.Goals as goal

-- what holds anyway holds where there is nothing
if_none : {A P : Type 0} (o : Option A) → P → IfNone o P
if_none None p = p
if_none (Some x) p = tt

pub overflow_add-self : goal.overflow_add-self
overflow_add-self c =
    let counted = c.requires.1.counted in
    let origins = c.requires.1.origins in
    omega arith

pub returns-in_err-machine-clause-none : goal.returns-in_err-machine-clause-none
returns-in_err-machine-clause-none c =
    let old = known_of c.args.self.now in
    let new : Known = record old { queue = c.pop_front.new.self.items } in
    if_none c.from_residual.result (same_known new old refl refl refl (sym c.in_err-machine.ensures.items) refl refl refl refl refl)

pub returns : goal.returns
returns c =
    let s = known_of c.args.self.now in
    let m = c.in_ok-machine.machine in
    let rest = c.pop_front.new.self.items in
    let first = c.in_ok-machine.ensures.items in
    record {
      none = tt;
      empty = tt;
      search = λ program search. taken_is_search program s search m rest first;
      numbered = λ program search. taken_numbered program s search m rest first;
      counted = (refl, refl);
      goes_on = taken_goes_on c.requires.0 s c.requires.1 m rest first;
    }
