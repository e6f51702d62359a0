-- The process that comes next lives, and a machine has its levels.
use Rattle.std.proofs.Common.{◌≡◌, ◌⊎◌, inl, inr, ℕ, ◌||◌, Bool, true, false, true≢false, List, [], ◌∷◌, Option, Some, None, is_some, refl, sym, ap, ◌∙◌, nat_eq, not, slice_get}
use Rattle.std.proofs.lemmas.Bool.{cases_lt, eq-eqb, le-ltb, lt-ltb}
use Rattle.std.proofs.lemmas.Option.{same_Some}
use Rattle.hep_machine.specs.declared.event.Entry.{Entry}
use Rattle.hep_machine.specs.Words.{Units, first_above, is_number_among, living, next_of_ready, numbered, Progress, progress_after, run, schedule_of, State}
use Rattle.hep_cells.specs.declared.want.Want.{Want}
use Rattle.hep_blocked.specs.RosterUpdates.{AreListed}
use Rattle.hep_blocked.proofs.Members.{among-ready}
use Rattle.hep_proc.specs.declared.process.Local.{Local}
use Rattle.hep_proc.specs.Stacks.{Stack}
use Rattle.hep_proc.proofs.Levels.{has-levels}
use Rattle.hep_state.specs.Words.{HasLevels, IsAfter, Snapshot}
use Rattle.hep_state.proofs.TopActivations.{lives-by, none-lives}
use Rattle.hep_private.proofs.OperandRoom.{right-true}

or-true : (a : Bool) {b : Bool} → b ≡ true → (a || b) ≡ true
or-true true e = refl
or-true false e = e

-- the first one above a number is among them, or it is the other one
first-among : (n q : ℕ) (ps : List ℕ) (other : Option ℕ) → first_above n ps other ≡ Some q → (is_number_among q ps ≡ true) ⊎ (other ≡ Some q)
first-among n q [] other is = inr is
first-among n q (p ∷ ps) other is = elim (cases_lt n p) [
  | inl less ↦
      let here : Some p ≡ Some q = rw (lt-ltb n p less) at is in
      inl (rw (eq-eqb q p (sym (same_Some p q here))) refl)
  | inr more ↦ elim (first-among n q ps other (rw (le-ltb n p more) at is)) [
    | inl among ↦ inl (or-true (nat_eq q p) among)
    | inr rest ↦ inr rest
  ]
]

head-among : (q : ℕ) (ps : List ℕ) → slice_get ps 0 ≡ Some q → is_number_among q ps ≡ true
head-among q [] is = absurd cc
head-among q (p ∷ ps) is = rw (eq-eqb q p (sym (same_Some p q is))) refl

next-among : (n q : ℕ) (ps : List ℕ) → next_of_ready n ps ≡ Some q → is_number_among q ps ≡ true
next-among n q ps is = elim (first-among n q ps (slice_get ps 0) is) [ inl among ↦ among | inr first ↦ head-among q ps first ]

-- what lives has levels
levels-of : (program : Units) (cells : ℕ) (choices : List ℕ) (m : Snapshot) (p : ℕ) → IsAfter program cells choices m → is_some (living (run program choices) p) ≡ true → HasLevels m p
levels-of program cells choices m p after lives =
    by_stack (numbered m.processes p) refl
  where
    by_levels : (k : Stack) (ls : List Local) → k.levels ≡ ls → has-levels ls ≡ true → numbered m.processes p ≡ Some k → HasLevels m p
    by_levels k [] same some kept = absurd cc
    by_levels k (l ∷ ls) same some kept =
        record {
          level = l;
          below = ls;
          operands = k.operands;
          pending = k.pending;
          kept = kept ∙ (λ i. Some (record { levels = same i; operands = k.operands; pending = k.pending }));
        }

    by_stack : (o : Option Stack) → numbered m.processes p ≡ o → HasLevels m p
    by_stack None kept = absurd (true≢false (sym lives ∙ ap is_some (none-lives p after kept)))
    by_stack (Some k) kept = by_levels k k.levels refl (sym (lives-by p after k kept) ∙ lives) kept

module _ (program : Units) (cells : ℕ) (history : List Entry) (waits : ℕ → Option Want) (ready : List ℕ) (listed : AreListed program cells (schedule_of history) (progress_after program history) waits ready) where
  abbrev x : Progress
  x = progress_after program history

  -- those that are ready live
  lives-among : (q : ℕ) → is_number_among q ready ≡ true → is_some (living (run program (schedule_of history)) q) ≡ true
  lives-among q among =
      ap (λ (s : State). is_some (living s q)) (sym listed.state)
      ∙ right-true (not (is_number_among q x.listed)) (is_some (living x.state q)) (sym (among-ready x q) ∙ (sym (listed.are_ready q) ∙ among))

  pub next-levels : (m : Snapshot) (p q : ℕ) → IsAfter program cells (schedule_of history) m → next_of_ready p ready ≡ Some q → HasLevels m q
  next-levels m p q after is = levels-of program cells (schedule_of history) m q after (lives-among q (next-among p q ready is))
