use Rattle.std.proofs.Common.{◌≡◌, ◌+◌, ℕ, ◌<◌, Bool, true, false, Some, nat_eq, slice_get, refl, subst, sym, arith}
use Rattle.std.proofs.lemmas.Bool.{eqb-false, eqb-true}
use Rattle.hep_why.specs.CycleMarks.{IsNoted}
use Rattle.hep_why.proofs.wait_cycles.visit.Goals as goal

pub returns-in-Some : goal.returns-in-Some
returns-in-Some c =
    record {
      room = c.walk.ensures.length;
      notes = c.note.ensures.length;
      visited = c.in-Some.ensures.visited c.note.new.noted.items before c.note.ensures.noted;
      begun = λ i less. by i less (nat_eq i c.args.first) refl;
    }
  where
    before : (i w : ℕ) → slice_get c.args.visits.now.items i ≡ Some (Some w) → IsNoted c.args.nexts.now c.note.new.noted.items i
    before i w there = c.note.ensures.kept i (c.requires.visited i w there)

    by : (i : ℕ) → i < c.args.first + 1 → (b : Bool) → nat_eq i c.args.first ≡ b → IsNoted c.args.nexts.now c.note.new.noted.items i
    by i less true t =
        subst (IsNoted c.args.nexts.now c.note.new.noted.items) (sym (eqb-true i c.args.first t))
        (c.in-Some.ensures.begun c.note.new.noted.items (λ k w there. c.note.ensures.kept k (c.requires.visited k w there)) c.note.ensures.noted)
    by i less false t =
        let not = eqb-false i c.args.first t in
        c.note.ensures.kept i (c.requires.begun i (grind (arith, less, not)))
