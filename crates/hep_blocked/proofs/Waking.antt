-- Who goes on waiting, and who is woken, when another process steps.
use Rattle.std.proofs.Common.{◌≡◌, ◌≢◌, inl, inr, ℕ, Bool, true, false, List, [], ◌∷◌, ◌++◌, Option, Some, None, refl, sym, ap, ◌∙◌, ◌&&◌, if◌then◌else◌, is_some, not}
use Rattle.std.proofs.lemmas.Bool.{cases_eq, ne_eqb, eq-eqb}
use Rattle.std.proofs.lemmas.Option.{none-some, same_Some}
use mathlib.Core.Bool.{beq}
use Rattle.hep_machine.specs.Words.{Units, Layout, is_held, layout_of, run, Location, State, step, is_waiting}
use Rattle.hep_cells.specs.Changes.{full_after}
use Rattle.hep_cells.specs.declared.want.Want.{Want}
use Rattle.hep_blocked.specs.WaitQueues.{want_eq}
use Rattle.hep_layout.specs.Words.{address}
use Rattle.hep_blocked.specs.NeededCells.{NeedsCell}
use Rattle.hep_blocked.proofs.NeededCells.{need-after, waits-by-state}
use Rattle.hep_blocked.specs.RosterUpdates.{HasChanged, HasEmptied, awake_by, awake_where, is_woken, wants_emptied}

-- ---- what is still waited for

-- those wait no more whose want passes a test
abbrev pub awake_if : (Want → Bool) → Option Want → Option Want
awake_if test None = None
awake_if test (Some v) = if test v then None else Some v

-- what is waited for, if anything is, passes it
abbrev pub passes : (Want → Bool) → Option Want → Bool
passes test None = false
passes test (Some v) = test v

unless-same : (b : Bool) (v u : Want) → (if b then None else Some v) ≡ Some u → v ≡ u
unless-same true v u e = absurd (none-some u e)
unless-same false v u e = same_Some v u e

some-unless : (b : Bool) (v : Want) → is_some (if b then None else Some v) ≡ not b
some-unless true v = refl
some-unless false v = refl

pub awake-same : (test : Want → Bool) (v u : Want) → awake_if test (Some v) ≡ Some u → v ≡ u
awake-same test v u = unless-same (test v) v u

-- who waits is woken, or goes on waiting
pub awake-unless : (test : Want → Bool) (v : Want) → is_some (awake_if test (Some v)) ≡ not (test v)
awake-unless test v = some-unless (test v) v

-- ---- the test of a step

-- what is wanted is as the step has made its cell
abbrev pub is_made : Option Want → Want → Bool
is_made None v = false
is_made (Some w) v = want_eq w v

pub awake-made : (changed o : Option Want) → awake_by changed o ≡ awake_if (is_made changed) o
awake-made None None = refl
awake-made None (Some v) = refl
awake-made (Some w) None = refl
awake-made (Some w) (Some v) = refl

pub woken-made : (changed : Option Want) (waiting : ℕ → Option Want) (q : ℕ)
    → is_woken changed waiting q ≡ passes (is_made changed) (waiting q)
woken-made changed waiting q = by_want changed (waiting q) refl where
  by_want : (changed o : Option Want) → waiting q ≡ o
      → is_woken changed waiting q ≡ passes (is_made changed) o
  by_want None None e = refl
  by_want None (Some v) e = refl
  by_want (Some w) None e = rw e refl
  by_want (Some w) (Some v) e = rw e refl

-- the cell is among those that it has emptied, and was to be empty
abbrev pub is_emptied : (ℕ → Bool) → Want → Bool
is_emptied emptied v = not v.full && emptied v.cell

pub awake-emptied : (emptied : ℕ → Bool) (o : Option Want) → awake_where emptied o ≡ awake_if (is_emptied emptied) o
awake-emptied emptied None = refl
awake-emptied emptied (Some v) = refl

pub wants-emptied : (emptied : ℕ → Bool) (o : Option Want) → wants_emptied emptied o ≡ passes (is_emptied emptied) o
wants-emptied emptied None = refl
wants-emptied emptied (Some v) = refl

-- ---- after a step of process p

-- process q waits for v
module _ (program : Units) (cells : ℕ) (choices : List ℕ) (p q : ℕ) (layout : Layout) (v : Want)
    (needs : NeedsCell program cells choices q v.cell v.full)
    (placed : layout_of program cells is_held choices ≡ Some layout)
    (there : step program p (run program choices) ≢ None)
    (other : p ≢ q)
    (waits : is_waiting program (run program choices) q ≡ true) where
  abbrev s : State
  s = run program choices

  abbrev t : State
  t = run program (choices ++ p ∷ [])

  abbrev at : Location
  at = needs.wanted.at

  kept : address program s layout at ≡ Some v.cell
  kept = needs.kept layout placed

  waits-after : is_waiting program t q ≡ not (beq (t.store at).full needs.wanted.full)
  waits-after = waits-by-state program q t needs.wanted (need-after program choices p q needs.wanted there other needs.needed)

  waits-before : not (beq (s.store at).full needs.wanted.full) ≡ true
  waits-before = sym (waits-by-state program q s needs.wanted needs.needed) ∙ waits

  -- where the step makes the storage unit so it waits no more, and else it goes on waiting
  pub goes-on : (changed : Option Want) → HasChanged program choices p layout changed
      → is_waiting program t q ≡ not (is_made changed v)
  goes-on changed has = waits-after ∙ (ap (λ full. not (beq full needs.wanted.full)) (has at v.cell kept) ∙ by_change changed) where
    by_change : (o : Option Want)
        → not (beq (full_after o v.cell (s.store at).full) needs.wanted.full) ≡ not (is_made o v)
    by_change None = waits-before
    by_change (Some x) = elim (cases_eq x.cell v.cell) [
      | inl same ↦ rw (eq-eqb x.cell v.cell same) (ap (λ full. not (beq x.full full)) needs.state)
      | inr apart ↦ rw (ne_eqb x.cell v.cell apart) waits-before
    ]

  -- where it empties the cell, q waits no more for it to be empty, and else it goes on waiting
  pub goes-on-emptying : (emptied : ℕ → Bool) → HasEmptied program choices p layout emptied
      → is_waiting program t q ≡ not (is_emptied emptied v)
  goes-on-emptying emptied has = by_cell (emptied v.cell) refl where
    still : (full : Bool) → true ≡ not (not full && false)
    still true = refl
    still false = refl

    empty : (full : Bool) → not (beq false full) ≡ not (not full && true)
    empty true = refl
    empty false = refl

    by_cell : (b : Bool) → emptied v.cell ≡ b → is_waiting program t q ≡ not (not v.full && b)
    by_cell true e = waits-after ∙ ((λ i. not (beq (has.now at v.cell kept e i) (needs.state i))) ∙ empty v.full)
    by_cell false e =
        waits-after
        ∙ (ap (λ b. not (beq b needs.wanted.full)) (has.others at v.cell kept e) ∙ (waits-before ∙ still v.full))
