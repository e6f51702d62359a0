-- Independent steps may come first.
use Rattle.std.proofs.Common.{◌≡◌, ◌≢◌, inl, inr, ℕ, ◌+◌, ◌≤◌, Bool, true, false, true≢false, List, [], ◌∷◌, ◌++◌, length, Some, refl, sym}
use Rattle.std.proofs.Common.{ap, ◌∙◌, subst, arith}
use Rattle.std.proofs.lemmas.Bool.Decides.{eqb_tells}
use Rattle.std.specs.Option.{unwrap_or}
use Rattle.hep_machine.specs.Words.{AreSteps, State, Units, run_from, state_after_turn, step}
use Rattle.hep_machine.proofs.Replays.{run_after}
use Rattle.hep_replay.proofs.ReplayTurns.{halted_stays}
use Rattle.hep_explore.specs.Endings.{Ending, IsReachable, IsTerminal, ending_of}
use Rattle.hep_explore.specs.Independence.{AreIndependent, AreIndependentSteps, IsBeside}
use Rattle.hep_explore.proofs.Turns.{by_halted, some_step, step_before, turn_is, turn_reachable}

-- a state is terminal and ends as another one
abbrev pub EndsAs : Units → State → State → Type 0
EndsAs program end other = IsTerminal program end × (ending_of program end ≡ ending_of program other)

-- ---- independent steps in a row

-- independent steps may follow others
pub independent_more : (program : Units) (independent : ℕ → State → Bool) (qs rs : List ℕ) (s : State)
    → AreIndependentSteps program independent s qs → AreIndependentSteps program independent (run_from program s qs) rs
    → AreIndependentSteps program independent s (qs ++ rs)
unfolding run_from
independent_more program independent [] rs s first rest = rest
independent_more program independent (q ∷ qs) rs s first rest =
    let turned : state_after_turn program q s ≡ first.1 = turn_is program q s first.1 first.2 in (
      first.0,
      first.1,
      first.2,
      independent_more program independent qs rs first.1 first.3 (
          subst (λ t. AreIndependentSteps program independent (run_from program t qs) rs) turned rest),
    )

-- they all make steps
pub independent_made : (program : Units) (independent : ℕ → State → Bool) (qs : List ℕ) (s : State)
    → AreIndependentSteps program independent s qs → AreSteps program s qs
independent_made program independent [] s are = tt
independent_made program independent (q ∷ qs) s are =
    step_before program q s are.1 qs are.2 (independent_made program independent qs are.1 are.3)

-- after a STOP it is made
halted_on : (program : Units) (ps : List ℕ) (s : State) → s.halted ≡ true → (run_from program s ps).halted ≡ true
unfolding run_from
halted_on program [] s halted = halted
halted_on program (p ∷ ps) s halted =
    let same : state_after_turn program p s ≡ s = ap (λ o. unwrap_or o s) (halted_stays program p s halted) in
    halted_on program ps (state_after_turn program p s) (ap (λ (t : State). t.halted) same ∙ halted)

-- so it isn't made before, where it isn't after
pub going_before : (program : Units) (ps : List ℕ) (s : State) → (run_from program s ps).halted ≡ false → s.halted ≡ false
going_before program ps s going = elim (by_halted s) [
  | inl halted ↦ absurd (true≢false (sym (halted_on program ps s halted) ∙ going))
  | inr before ↦ before
]

-- ---- what else goes along with steps

-- what becomes of a thing by steps, one after the other
abbrev pub after_all : {A : Type 0} → Units → (State → ℕ → A → A) → State → List ℕ → A → A
after_all program after s [] a = a
after_all program after s (p ∷ ps) a = after_all program after (state_after_turn program p s) ps (after s p a)

-- Steps from u that take the place of these choices from s: no more than those, fewer by this number at most, and where those end the
-- run, these end it alike. Where these make no STOP, independent steps lead from there, where those lead, to where these lead. What goes
-- along with steps is the same after both.
pub record Replaces (program : Units) (independent : ℕ → State → Bool) (A : Type 0) (Goes : State → A → Type 0) (after : State → ℕ → A → A)
    (s : State) (choices : List ℕ) (u : State) (fewer : ℕ) : Type 0 where
  pub steps : List ℕ
  pub made : AreSteps program u steps
  pub few : length steps ≤ length choices
  pub many : length choices ≤ length steps + fewer
  pub ends : IsTerminal program (run_from program s choices) → EndsAs program (run_from program u steps) (run_from program s choices)
  pub left : (run_from program u steps).halted ≡ false → (qs : List ℕ)
      × AreIndependentSteps program independent (run_from program s choices) qs
      × (run_from program (run_from program s choices) qs ≡ run_from program u steps)
  pub same : (a : A) → Goes s a → after_all program after s choices a ≡ after_all program after u steps a

-- one step more before them
step_more : (program : Units) (independent : ℕ → State → Bool) (A : Type 0) (Goes : State → A → Type 0) (after : State → ℕ → A → A) (p : ℕ)
    (s t u v : State) (ps : List ℕ) (fewer : ℕ) → step program p s ≡ Some t → step program p u ≡ Some v
    → ((a : A) → Goes s a → Goes t (after s p a) × (after u p a ≡ after s p a))
    → Replaces program independent A Goes after t ps v fewer → Replaces program independent A Goes after s (p ∷ ps) u fewer
unfolding run_from
step_more program independent A Goes after p s t u v ps fewer e f alike rest =
    let EndsIn : State → State → Type 0 =
    λ x y. IsTerminal program (run_from program x ps) → EndsAs program (run_from program y rest.steps) (run_from program x ps)
    in
    let LeftIn : State → State → Type 0 =
    λ x y. (run_from program y rest.steps).halted ≡ false → (qs : List ℕ)
    × AreIndependentSteps program independent (run_from program x ps) qs
    × (run_from program (run_from program x ps) qs ≡ run_from program y rest.steps)
    in
    let AreSame : A → State → State → Type 0 =
    λ a x y. after_all program after x ps (after s p a) ≡ after_all program after y rest.steps (after u p a)
    in
    let now : state_after_turn program p s ≡ t = turn_is program p s t e in
    let then : state_after_turn program p u ≡ v = turn_is program p u v f in
    record {
      steps = p ∷ rest.steps;
      made = step_before program p u v rest.steps f rest.made;
      few = let few = rest.few in omega arith;
      many = let many = rest.many in omega arith;
      ends = subst (λ x. EndsIn x (state_after_turn program p u)) (sym now) (subst (λ y. EndsIn t y) (sym then) rest.ends);
      left = subst (λ x. LeftIn x (state_after_turn program p u)) (sym now) (subst (λ y. LeftIn t y) (sym then) rest.left);
      same = λ a goes.
          let on = alike a goes in
          subst (λ x. AreSame a x (state_after_turn program p u)) (sym now) (
          subst (λ y. AreSame a t y) (sym then) (
          rest.same (after s p a) on.0 ∙ ap (after_all program after v rest.steps) (sym on.1)));
    }

-- Things that go along with steps. An independent step leaves them as they are, and so a step of another process makes the same of them
-- before and after it.
pub record GoAlong (program : Units) (independent : ℕ → State → Bool) (A : Type 0) (Goes : State → A → Type 0) (after : State → ℕ → A
    → A) : Type 0 where
  pub keeps : (q : ℕ) (s u : State) (a : A) → IsReachable program s → independent q s ≡ true → step program q s ≡ Some u → Goes s a
      → after s q a ≡ a
  pub stays : (p : ℕ) (s t : State) (a : A) → step program p s ≡ Some t → Goes s a → Goes t (after s p a)
  pub beside : (p q : ℕ) (s t u : State) (a : A) → IsBeside program independent p q s t → step program q s ≡ Some u → Goes s a
      → after u p a ≡ after s p a

module _ (program : Units) (independent : ℕ → State → Bool) (are : AreIndependent program independent) (A : Type 0)
    (Goes : State → A → Type 0) (after : State → ℕ → A → A) (along : GoAlong program independent A Goes after) where
  abbrev Takes : State → List ℕ → State → ℕ → Type 0
  Takes = Replaces program independent A Goes after

  -- q's independent step may come before a step of p, where it may come before the steps after that one
  before_step : (p q : ℕ) (ps : List ℕ) (s t u : State) → IsReachable program s → independent q s ≡ true → step program p s ≡ Some t
      → step program q s ≡ Some u
      → AreSteps program t ps → ((v : State) → independent q t ≡ true → step program q t ≡ Some v → Takes t ps v 1)
      → Takes s (p ∷ ps) u 1
  unfolding run_from
  before_step p q ps s t u way is e f made behind = elim (eqb_tells p q) [
    | inl equal ↦ same equal.1
    | inr other ↦ others other.1
  ] where
    turned : state_after_turn program p s ≡ t
    turned = turn_is program p s t e

    same : p ≡ q → Takes s (p ∷ ps) u 1
    same equal =
        let end : State = run_from program (state_after_turn program p s) ps in
        let met : t ≡ u = sym turned ∙ turn_is program p s u (subst (λ n. step program n s ≡ Some u) (sym equal) f) in
        record {
          steps = ps;
          made = subst (λ w. AreSteps program w ps) met made;
          few = omega arith;
          many = omega arith;
          ends = λ ended. subst (λ w. EndsAs program (run_from program w ps) end) (turned ∙ met) (ended, refl);
          left = λ going. ([], tt, ap (λ w. run_from program w ps) (turned ∙ met));
          same = λ a goes.
              ap (λ w. after_all program after w ps (after s p a)) (turned ∙ met)
              ∙ ap (after_all program after u ps) (ap (λ n. after s n a) equal ∙ along.keeps q s u a way is f goes);
        }

    alike : IsBeside program independent p q s t → (a : A) → Goes s a → Goes t (after s p a) × (after u p a ≡ after s p a)
    alike beside a goes = (along.stays p s t a e goes, along.beside p q s t u a beside f goes)

    -- nothing comes after a STOP
    stops : IsBeside program independent p q s t → t.halted ≡ true → Takes s (p ∷ ps) u 1
    stops beside halted = by_rest ps made where
      by_rest : (rs : List ℕ) → AreSteps program t rs → Takes s (p ∷ rs) u 1
      by_rest (r ∷ rs) more = absurd (more.0 (halted_stays program r t halted))
      by_rest [] more =
          let met = are.stops p q s t u beside halted f in
          let halted_too : met.0.halted ≡ true = ap (λ (x : Ending). x.halted) met.2 ∙ halted in
          step_more program independent A Goes after p s t u met.0 [] 1 e met.1 (alike beside) (record {
            steps = [];
            made = tt;
            few = omega arith;
            many = omega arith;
            ends = λ ended. (λ r. halted_stays program r met.0 halted_too, met.2);
            left = λ going. absurd (true≢false (sym halted_too ∙ going));
            same = λ a goes. refl;
          })

    goes : IsBeside program independent p q s t → t.halted ≡ false → Takes s (p ∷ ps) u 1
    goes beside going =
        let met = are.commutes p q s t u beside going f in
        step_more program independent A Goes after p s t u met.0 ps 1 e met.2 (alike beside) (
        behind met.0 (are.stays p q s t beside going) met.1)

    others : p ≢ q → Takes s (p ∷ ps) u 1
    others other =
        let beside : IsBeside program independent p q s t = record { reachable = way; is_independent = is; other = other; stepped = e } in
        elim (by_halted t) [
          | inl halted ↦ stops beside halted
          | inr going ↦ goes beside going
        ]

  -- an independent step may come first
  one_first : (choices : List ℕ) (q : ℕ) (s u : State) → IsReachable program s → independent q s ≡ true → step program q s ≡ Some u
      → AreSteps program s choices → Takes s choices u 1
  unfolding run_from
  one_first [] q s u way is f made =
      record {
        steps = [];
        made = tt;
        few = omega arith;
        many = omega arith;
        ends = λ ended. absurd (are.is_there q s way is (ended q));
        left = λ going. (q ∷ [], (is, u, f, tt), turn_is program q s u f);
        same = λ a goes. refl;
      }
  one_first (p ∷ ps) q s u way is f made =
      let t : State = state_after_turn program p s in
      before_step p q ps s t u way is (some_step program p s made.0) f made.1 (
      λ v is_still f_then. one_first ps q t v (turn_reachable program p s way) is_still f_then made.1)

  -- and so may several, one after the other
  pub all_before : (qs choices : List ℕ) (s : State) → IsReachable program s → AreIndependentSteps program independent s qs
      → AreSteps program s choices → Takes s choices (run_from program s qs) (length qs)
  unfolding run_from
  all_before [] choices s way h made =
      record {
        steps = choices;
        made = made;
        few = omega arith;
        many = omega arith;
        ends = λ ended. (ended, refl);
        left = λ going. ([], tt, refl);
        same = λ a goes. refl;
      }
  all_before (q ∷ qs) choices s way h made =
      let u : State = h.1 in
      let first = one_first choices q s u way h.0 h.2 made in
      let turned : state_after_turn program q s ≡ u = turn_is program q s u h.2 in
      let rest = all_before qs first.steps u (subst (IsReachable program) turned (turn_reachable program q s way)) h.3 first.made in
      subst (λ w. Takes s choices (run_from program w qs) (length (q ∷ qs))) (sym turned) (record {
        steps = rest.steps;
        made = rest.made;
        few = let one = first.few in let two = rest.few in omega arith;
        many = let one = first.many in let two = rest.many in omega arith;
        ends = λ ended. let one = first.ends ended in let two = rest.ends one.0 in (two.0, two.1 ∙ one.1);
        left = λ going.
            let two = rest.left going in
            let before = going_before program two.0 (run_from program u first.steps) (ap (λ (x : State). x.halted) two.2 ∙ going) in
            let one = first.left before in
            let end : State = run_from program s choices in (
              one.0 ++ two.0,
              independent_more program independent one.0 two.0 end one.1 (
                  subst (λ w. AreIndependentSteps program independent w two.0) (sym one.2) two.1),
              run_after program end one.0 two.0 ∙ ap (λ w. run_from program w two.0) one.2 ∙ two.2,
            );
        same = λ a goes.
            let later : Goes u a = subst (Goes u) (along.keeps q s u a way h.0 h.2 goes) (along.stays q s u a h.2 goes) in
            first.same a goes ∙ rest.same a later;
      })

-- ---- where nothing else goes along

abbrev pub Nothing : State → Unit {0} → Type 0
Nothing s a = Unit {0}

abbrev pub as_it_was : State → ℕ → Unit {0} → Unit {0}
as_it_was s p a = a

-- nothing goes along with all steps
nothing_along : (program : Units) (independent : ℕ → State → Bool) → GoAlong program independent (Unit {0}) Nothing as_it_was
nothing_along program independent =
    record {
      keeps = λ q s u a way is f goes. refl;
      stays = λ p s t a e goes. tt;
      beside = λ p q s t u a beside f goes. refl;
    }

-- independent steps may come before these
pub all_first : (program : Units) (independent : ℕ → State → Bool) → AreIndependent program independent → (qs choices : List ℕ) (s : State)
    → IsReachable program s → AreIndependentSteps program independent s qs → AreSteps program s choices
    → Replaces program independent (Unit {0}) Nothing as_it_was s choices (run_from program s qs) (length qs)
all_first program independent are qs choices s way h made =
    all_before program independent are (Unit {0}) Nothing as_it_was (nothing_along program independent) qs choices s way h made
