-- Copies of processes have the same stacks under the same numbers, and as much room.
use Rattle.std.proofs.Common.{◌≡◌, ◌≤◌, ℕ, zero, suc, List, [], ◌∷◌, Some, nat_eq, if◌then◌else◌, reverse, slice_get, vec_capacity}
use Rattle.std.proofs.Common.{refl, sym, ap, ◌∙◌, subst, arith}
use Rattle.std.specs.List.{AllZip}
use Rattle.std.proofs.lemmas.Option.{none-some, same_Some}
use Rattle.hep_machine.specs.Words.{Units}
use Rattle.hep_blocked.specs.Numbers.{AreRising}
use Rattle.hep_proc.specs.declared.process.Local.{Local}
use Rattle.hep_proc.specs.declared.process.Process.{Process}
use Rattle.hep_proc.specs.Stacks.{stack_of}
use Rattle.hep_state.specs.declared.core_state.CoreState.{CoreState}
use Rattle.hep_state.specs.declared.core_state.ArgumentBuffers.{ArgumentBuffers}
use Rattle.hep_state.specs.Words.{HasRoom, HasRoomToPass, IsProcessCopy, KeepsRoom, numbers_of, stack_numbered, stacks_from}

-- ---- stacks

-- of one process
stack-is : (q c : Process) → IsProcessCopy q c → stack_of c ≡ stack_of q
stack-is q c h = λ i. record { levels = reverse (h.same.0 i); operands = h.same.1 i; pending = h.same.2 i }

-- the stack under a number
stack-copied : (qs cs : List Process) → AllZip IsProcessCopy qs cs → (p : ℕ) → stack_numbered cs p ≡ stack_numbered qs p
stack-copied [] [] h p = refl
stack-copied (q ∷ qs) (c ∷ cs) h p = λ i. if nat_eq p (h.0.number i) then stack-is q c h.0 i else stack-copied qs cs h.1 p i
stack-copied [] (c ∷ cs) h p = absurd h
stack-copied (q ∷ qs) [] h p = absurd h

-- the stacks from a number on
pub stacks-copied : (qs cs : List Process) → AllZip IsProcessCopy qs cs → (p n : ℕ) → stacks_from cs p n ≡ stacks_from qs p n
stacks-copied qs cs h p zero = refl
stacks-copied qs cs h p (suc n) = λ i. stack-copied qs cs h p i ∷ stacks-copied qs cs h (suc p) n i

-- ---- numbers, and room

-- the numbers
numbers-copied : (qs cs : List Process) → AllZip IsProcessCopy qs cs → numbers_of cs ≡ numbers_of qs
numbers-copied [] [] h = refl
numbers-copied (q ∷ qs) (c ∷ cs) h = λ i. h.0.number i ∷ numbers-copied qs cs h.1 i
numbers-copied [] (c ∷ cs) h = absurd h
numbers-copied (q ∷ qs) [] h = absurd h

-- the room of one process
room-is : (program : Units) (q c : Process) → IsProcessCopy q c → HasRoom program q → HasRoom program c
room-is program q c h room i l e = omega (arith, h.room, room i l (ap (λ (ls : List Local). slice_get ls i) (sym h.same.0) ∙ e))

-- and that of each
room-copied : (program : Units) (qs cs : List Process) → AllZip IsProcessCopy qs cs
    → ((i : ℕ) (q : Process) → slice_get qs i ≡ Some q → HasRoom program q)
    → (i : ℕ) (c : Process) → slice_get cs i ≡ Some c → HasRoom program c
room-copied program [] [] h room i d e = absurd (none-some d e)
room-copied program (q ∷ qs) (c ∷ cs) h room zero d e =
    subst (HasRoom program) (same_Some c d e) (room-is program q c h.0 (room zero q refl))
room-copied program (q ∷ qs) (c ∷ cs) h room (suc i) d e = room-copied program qs cs h.1 (λ j. room (suc j)) i d e
room-copied program [] (c ∷ cs) h room i d e = absurd h
room-copied program (q ∷ qs) [] h room i d e = absurd h

-- buffers with as much room
pub record HasSameRoom (old new : ArgumentBuffers) : Type 0 where
  pub given : vec_capacity old.given ≤ vec_capacity new.given
  pub shapes : vec_capacity old.shapes ≤ vec_capacity new.shapes
  pub values : vec_capacity old.values ≤ vec_capacity new.values
  pub ranges : vec_capacity old.ranges ≤ vec_capacity new.ranges

-- there is room to pass arguments in them
to-pass : (program : Units) (old new : ArgumentBuffers) → HasSameRoom old new → HasRoomToPass program old → HasRoomToPass program new
to-pass program old new h room =
    record {
      given = λ u. omega (arith, room.given u, h.given);
      shapes = λ u. omega (arith, room.shapes u, h.shapes);
      values = λ u inside. omega (arith, room.values u inside, h.values);
      ranges = λ u index line count next inside there. omega (arith, room.ranges u index line count next inside there, h.ranges);
    }

-- a machine with copies of the processes, and such buffers, has the room that there was
pub rooms-copied : (old new : CoreState) → AllZip IsProcessCopy old.processes.items new.processes.items → new.made ≡ old.made
    → HasSameRoom old.passing new.passing → KeepsRoom old new
rooms-copied old new copies made same program cells h =
    let numbers = numbers-copied old.processes.items new.processes.items copies in
    record {
      few = h.few;
      to_pass = to-pass program old.passing new.passing same h.to_pass;
      room = room-copied program old.processes.items new.processes.items copies h.room;
      numbers = subst (λ n. AreRising 1 n (numbers_of new.processes.items)) (sym made) (
          subst (AreRising 1 old.made) (sym numbers) h.numbers);
    }
