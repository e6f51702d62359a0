use Rattle.std.proofs.Common.{List, length, slice_get, sym, ap, subst, ◌∙◌, arith}
use Rattle.hep_machine.specs.declared.slot.Slot.{Slot}
use Rattle.hep_arena.specs.Holes.{IsOut}
use Rattle.hep_arena.specs.Lengths.{holes_of}
use Rattle.hep_arena.specs.Space.{Space}
use Rattle.hep_arena.proofs.Arenas.{arena-apart, arena-taken, out-beside, taken-used}
use Rattle.hep_arena.proofs.Blocks.{fit-inside}
use Rattle.hep_arena.proofs.arena.Arena.take.Goals as goal

pub clear-requires : goal.clear-requires
clear-requires c =
    let i = c.self.inside in
    omega (arith, (fit-inside c.args.n c.in_ok-at.at 0 (length i.region.slots) (holes_of i.holes) (arena-apart i.region.slots i.holes i.used c.self.invariant.0) (sym c.in_ok-at.ensures.place)).1, ap length c.slots_mut.ensures.value)

pub overflow_add-self : goal.overflow_add-self
overflow_add-self c =
    let i = c.self.inside in
    omega (arith, taken-used i.region.slots i.holes i.used c.args.n c.in_ok-at.at c.self.invariant.0 (sym c.in_ok-at.ensures.place), c.self.invariant.0.few)

pub invariant_of-self-2 : goal.invariant_of-self-2
invariant_of-self-2 c =
    let i = c.self.inside in
    let long = c.clear.auto.slots ∙ ap length c.slots_mut.ensures.value in (
      arena-taken i.region.slots c.clear.new.slots i.holes c.take.new.self i.used c.args.n c.in_ok-at.at c.self.invariant.0 (sym c.in_ok-at.ensures.place) c.in_ok-at.ensures.holes c.take.ensures.limited c.take.ensures.cells long,
      c.self.invariant.1,
      c.self.invariant.2,
      c.self.invariant.3,
    )

pub returns-clause-kept : goal.returns-clause-kept
returns-clause-kept c k out =
    let i = c.self.inside in
    let before = subst (λ (a : Space). IsOut k a.holes) (sym c.self.view_is) out in
    c.clear.ensures.kept k (out-beside c.args.n c.in_ok-at.at k (holes_of i.holes) (sym c.in_ok-at.ensures.place) before) ∙ ap (λ (l : List Slot). slice_get l k) c.slots_mut.ensures.value
    ∙ ap (λ (a : Space). slice_get a.contents k) c.self.view_is
