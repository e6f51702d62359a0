-- A cycle that is reachable can be gone round for ever.
use Rattle.std.proofs.Common.{◌≡◌, ℕ, zero, suc, List, [], ◌∷◌, ◌++◌, append_assoc, refl, sym, ap, ◌∙◌, subst}
use Rattle.hep_machine.specs.Words.{AreSteps, State, Units, opening, run, run_from, state_after_turn}
use Rattle.hep_machine.proofs.Replays.{run_after, steps_before}
use Rattle.hep_explore.specs.Endings.{IsReachable, MayRunForEver, first_of}
use Rattle.hep_explore.specs.Closed.{IsCycle}
use Rattle.hep_explore.proofs.Turns.{steps_of}

-- the first ones of steps
steps_front : (program : Units) (s : State) (ps qs : List ℕ) → AreSteps program s (ps ++ qs) → AreSteps program s ps
steps_front program s [] qs h = tt
steps_front program s (p ∷ ps) qs h = (h.0, steps_front program (state_after_turn program p s) ps qs h.1)

-- what is left of a cycle once its first choice was made; then it begins anew
next_left : ℕ → List ℕ → List ℕ → List ℕ
next_left p ps [] = p ∷ ps
next_left p ps (x ∷ []) = p ∷ ps
next_left p ps (x ∷ y ∷ ys) = y ∷ ys

-- what is left after the first n choices, of choices that begin so
left_after : ℕ → List ℕ → List ℕ → ℕ → List ℕ
left_after p ps first zero = first
left_after p ps first (suc n) = next_left p ps (left_after p ps first n)

head_of : List ℕ → ℕ
head_of [] = 0
head_of (x ∷ xs) = x

module _ (program : Units) (before : List ℕ) (p : ℕ) (ps : List ℕ) (made : AreSteps program (opening program) before)
    (cycle : IsCycle program (run program before) p ps) where
  -- the choices: those before the cycle, and then it for ever
  around : ℕ → ℕ
  around n = head_of (left_after p ps (before ++ p ∷ ps) n)

  -- so far they made steps, and those that are left lead back
  record IsGoing (n : ℕ) : Type 0 where
    next : ℕ
    others : List ℕ
    left : left_after p ps (before ++ p ∷ ps) n ≡ next ∷ others
    steps : AreSteps program (opening program) (first_of around n ++ next ∷ others)
    back : run_from program (opening program) (first_of around n ++ next ∷ others) ≡ run program before

  -- the first choices once more
  more : (n : ℕ) (x : ℕ) (xs : List ℕ) → left_after p ps (before ++ p ∷ ps) n ≡ x ∷ xs
      → first_of around (suc n) ≡ first_of around n ++ x ∷ []
  unfolding around head_of
  more n x xs e = ap (λ ys. first_of around n ++ head_of ys ∷ []) e

  -- what is left at first
  begins : (first : List ℕ) → first ≡ before → (all : List ℕ) → all ≡ first ++ p ∷ ps
      → (next : ℕ) × (others : List ℕ) × (all ≡ next ∷ others)
  begins [] e all is = (p, ps, is)
  begins (x ∷ xs) e all is = (x, xs ++ p ∷ ps, is)

  going_at_first : IsGoing 0
  unfolding run left_after
  going_at_first =
      let start = begins before refl (before ++ p ∷ ps) refl in
      record {
        next = start.0;
        others = start.1;
        left = start.2;
        steps = subst (AreSteps program (opening program)) start.2 (steps_before program (opening program) before (p ∷ ps) made cycle.made);
        back = ap (run_from program (opening program)) (sym start.2) ∙ run_after program (opening program) before (p ∷ ps) ∙ cycle.back;
      }

  goes_on : (n : ℕ) → IsGoing n → IsGoing (suc n)
  unfolding run left_after next_left
  goes_on n now = by_others now.others refl where
    by_others : (xs : List ℕ) → now.others ≡ xs → IsGoing (suc n)
    by_others (y ∷ ys) e =
        let left : left_after p ps (before ++ p ∷ ps) n ≡ now.next ∷ y ∷ ys = now.left ∙ ap (λ zs. now.next ∷ zs) e in
        let first : first_of around (suc n) ++ y ∷ ys ≡ first_of around n ++ now.next ∷ now.others =
        ap (λ zs. zs ++ y ∷ ys) (more n now.next (y ∷ ys) left) ∙ append_assoc (first_of around n) (now.next ∷ []) (y ∷ ys)
        ∙ ap (λ zs. first_of around n ++ now.next ∷ zs) (sym e)
        in
        record {
          next = y;
          others = ys;
          left = ap (next_left p ps) left;
          steps = subst (AreSteps program (opening program)) (sym first) now.steps;
          back = ap (run_from program (opening program)) first ∙ now.back;
        }
    by_others [] e =
        let left : left_after p ps (before ++ p ∷ ps) n ≡ now.next ∷ [] = now.left ∙ ap (λ zs. now.next ∷ zs) e in
        let first : first_of around (suc n) ≡ first_of around n ++ now.next ∷ now.others =
        more n now.next [] left ∙ ap (λ zs. first_of around n ++ now.next ∷ zs) (sym e)
        in
        let begun : List ℕ = first_of around (suc n) in
        let steps : AreSteps program (opening program) begun = subst (AreSteps program (opening program)) (sym first) now.steps in
        let back : run_from program (opening program) begun ≡ run program before =
        ap (run_from program (opening program)) first ∙ now.back
        in
        let again : AreSteps program (run_from program (opening program) begun) (p ∷ ps) =
        subst (λ s. AreSteps program s (p ∷ ps)) (sym back) cycle.made
        in
        record {
          next = p;
          others = ps;
          left = ap (next_left p ps) left;
          steps = steps_before program (opening program) begun (p ∷ ps) steps again;
          back = run_after program (opening program) begun (p ∷ ps) ∙ ap (λ s. run_from program s (p ∷ ps)) back ∙ cycle.back;
        }

  -- so it goes on
  going : (n : ℕ) → IsGoing n
  going zero = going_at_first
  going (suc n) = goes_on n (going n)

  around_for_ever : MayRunForEver program
  around_for_ever =
      (around, λ n. let now = going n in steps_front program (opening program) (first_of around n) (now.next ∷ now.others) now.steps)

-- steps lead to the state, and then round the cycle
pub for_ever : (program : Units) (s : State) (p : ℕ) (ps : List ℕ) → IsReachable program s → IsCycle program s p ps → MayRunForEver program
unfolding run
for_ever program s p ps way cycle =
    let steps = steps_of program way.0 (opening program) in
    around_for_ever program steps.steps p ps steps.made (subst (λ t. IsCycle program t p ps) (sym (steps.same ∙ way.1)) cycle)
