-- Where what two steps use has no conflict, none of them stores what the other one accesses. So they can be exchanged.
use Rattle.std.proofs.Common.{◌≡◌, ◌⊎◌, inl, inr, ℕ, Bool, true, false, ◌&&◌, ◌||◌, List, [], ◌∷◌, ◌++◌, Some, refl, sym, ap, ◌∙◌, subst}
use Rattle.std.proofs.lemmas.Bool.{and_parts}
use Rattle.std.specs.List.{AllByRecursion}
use Rattle.std.specs.Option.{unwrap_or}
use Rattle.hep_machine.specs.Words.{Location, State, Units, same_location, step, opening, run, run_from, state_after_turn}
use Rattle.hep_machine.proofs.Locations.{equal_locations}
use Rattle.hep_machine.proofs.Replays.{run_after}
use Rattle.hep_accesses.specs.Races.{conflicts}
use Rattle.hep_accesses.proofs.Elements.{IsAmong, all-among_itself, all-mapped, behind, contains-among, here}
use Rattle.hep_accesses.specs.Accesses.{Access, uses_on_top}
use Rattle.hep_accesses.specs.Exchanges.{AreIndependent, HaveNoConflict, HaveSeparateUses, top_before}
use Rattle.hep_accesses.proofs.Exchanged.{exchanged, possible}
use Rattle.hep_accesses.proofs.Patches.{is_stored}

-- of two accesses without conflict the second one is no store there
no-store : (same first second : Bool) → (same && (first || second)) ≡ false → (second && same) ≡ false
no-store same first false e = refl
no-store false first true e = refl
no-store true true true e = e
no-store true false true e = e

-- where an access has no conflict with any of these none of them stores
none-stores : (a : Access) (ys : List Access) → ((b : Access) → IsAmong b ys → conflicts same_location a b ≡ false) → is_stored ys a.at ≡ false
none-stores a [] h = refl
none-stores a (b ∷ ys) h =
    ap (λ c. c || is_stored ys a.at) (no-store (same_location a.at b.at) a.stores b.stores (h b here))
    ∙ none-stores a ys (λ c k. h c (behind k))

-- so of two lists without conflict none stores what the other one accesses
avoided : (xs ys : List Access) → HaveNoConflict xs ys → AllByRecursion (λ (a : Access). is_stored ys a.at ≡ false) xs
avoided xs ys none =
    all-mapped (λ (a : Access). IsAmong a xs) (λ (a : Access). is_stored ys a.at ≡ false)
    (λ a k. none-stores a ys (λ b m. none a b (contains-among k) (contains-among m))) xs (all-among_itself xs)

-- and a storage unit is stored by one of the two at most
stored-by_one : (l : Location) (xs ys : List Access) → AllByRecursion (λ (a : Access). is_stored ys a.at ≡ false) xs
    → (is_stored xs l ≡ false) ⊎ (is_stored ys l ≡ false)
stored-by_one l [] ys h = inl refl
stored-by_one l (a ∷ xs) ys h = by (a.stores && same_location l a.at) refl (stored-by_one l xs ys h.1)
  where
    by : (b : Bool) → (a.stores && same_location l a.at) ≡ b → (is_stored xs l ≡ false) ⊎ (is_stored ys l ≡ false)
        → ((b || is_stored xs l) ≡ false) ⊎ (is_stored ys l ≡ false)
    by true e rest =
        inr (subst (λ (m : Location). is_stored ys m ≡ false)
        (sym (equal_locations l a.at (and_parts a.stores (same_location l a.at) e).1)) h.0)
    by false e rest = rest

-- conflicts don't depend on the order
conflicts-swapped : (xs ys : List Access) → HaveNoConflict xs ys → HaveNoConflict ys xs
conflicts-swapped xs ys none a b k m = by (same_location a.at b.at) refl
  where
    by : (c : Bool) → same_location a.at b.at ≡ c → (c && (a.stores || b.stores)) ≡ false
    by false e = refl
    by true e =
        let same : a.at ≡ b.at = equal_locations a.at b.at e in
        or_swapped b.stores a.stores (
        ap (λ (c : Bool). c && (b.stores || a.stores))
        (sym (ap (λ (l : Location). same_location b.at l) same ∙ sym (ap (λ (l : Location). same_location l b.at) same) ∙ e))
        ∙ none b a m k)
      where
        or_swapped : (x y : Bool) → (x || y) ≡ false → (y || x) ≡ false
        or_swapped true true f = f
        or_swapped true false f = f
        or_swapped false true f = f
        or_swapped false false f = f

module _ (program : Units) (s t u : State) (p q : ℕ) (made : step program p s ≡ Some t) (other_made : step program q s ≡ Some u)
    (h : AreIndependent program s p q t u) where
  -- independent steps can be exchanged
  pub independent-exchanged : (v : State) × (step program q t ≡ Some v) × (step program p u ≡ Some v)
  independent-exchanged =
      let uses = uses_on_top program (top_before program h.separate.first) in
      let other_uses = uses_on_top program (top_before program h.separate.second) in
      let avoids = avoided uses other_uses h.separate.apart in
      exchanged program s t u p q made other_made h avoids (
      avoided other_uses uses (conflicts-swapped uses other_uses h.separate.apart)) (λ l. stored-by_one l uses other_uses avoids)

-- and no step makes one possible that uses nothing of what it stores, fills or empties
pub possible-before : (program : Units) (s t v : State) (p q : ℕ) → step program p s ≡ Some t → step program q t ≡ Some v
    → HaveSeparateUses program s p q → (u : State) × (step program q s ≡ Some u)
possible-before program s t v p q made after h =
    let uses = uses_on_top program (top_before program h.first) in
    let other_uses = uses_on_top program (top_before program h.second) in
    possible program s t p q made h.different h.first h.second (
    avoided other_uses uses (conflicts-swapped uses other_uses h.apart)) v after

-- so of two turns that are next to each other in a run
two-exchanged : (program : Units) (s t u : State) (p q : ℕ) → step program p s ≡ Some t → step program q s ≡ Some u
    → AreIndependent program s p q t u
    → state_after_turn program q (state_after_turn program p s) ≡ state_after_turn program p (state_after_turn program q s)
two-exchanged program s t u p q made other_made h =
    let v = independent-exchanged program s t u p q made other_made h in
    ap (λ o. state_after_turn program q (unwrap_or o s)) made ∙ ap (λ o. unwrap_or o t) v.1
    ∙ sym (ap (λ o. state_after_turn program p (unwrap_or o s)) other_made ∙ ap (λ o. unwrap_or o u) v.2)

-- and the whole run leads to the same state
pub run-exchanged : (program : Units) (front rest : List ℕ) (t u : State) (p q : ℕ) → step program p (run program front) ≡ Some t
    → step program q (run program front) ≡ Some u → AreIndependent program (run program front) p q t u
    → run program (front ++ p ∷ q ∷ rest) ≡ run program (front ++ q ∷ p ∷ rest)
unfolding run run_from
run-exchanged program front rest t u p q made other_made h =
    run_after program (opening program) front (p ∷ q ∷ rest)
    ∙ ap (λ (s : State). run_from program s rest) (two-exchanged program (run program front) t u p q made other_made h)
    ∙ sym (run_after program (opening program) front (q ∷ p ∷ rest))
