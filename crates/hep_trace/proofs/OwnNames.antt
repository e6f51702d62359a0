-- Whether a place is that of a name of an activation itself is told by numbers.
use Rattle.std.proofs.Common.{◌≡◌, inl, inr, ℕ, suc, ◌-◌, ◌<◌, ◌≤◌, ◌&&◌, Bool, true, false, true≢false, List, refl, sym, ap, ◌∙◌, subst, arith, is_some, nat_eq, nat_lt, eqb-true, slice_get}
use Rattle.std.proofs.lemmas.Bool.{cases_Bool, eq-eqb, ne_eqb}
use Rattle.std.proofs.lemmas.Bool.Decides.{nat_tests}
use Rattle.std.proofs.lemmas.Option.{same_Some}
use Rattle.hep_accepted_laws.proofs.Closed.{units-there}
use Rattle.hep_accepted_laws.proofs.NameMeanings.{dummies_once}
use Rattle.hep_conditions.specs.Words.{IsAccepted}
use Rattle.hep_image.specs.Names.{variable_index, variable_number}
use Rattle.hep_image.proofs.Numbers.{variable-at}
use Rattle.hep_machine.specs.Words.{Location, Name, State, Units, common, common_cells, is_among, main_among, names_of, run, same_name, unit_at, unit_of}
use Rattle.hep_source.proofs.NameTests.{equal_names, same_name-self}
use Rattle.hep_state.specs.declared.core_state.CoreState.{CoreState}
use Rattle.hep_event.specs.StepTexts.{is_own}
use Rattle.hep_views.specs.ListedProcesses.{place_of}
use Rattle.hep_views.specs.CellOwners.{IsSought}
use Rattle.hep_views.proofs.Places.{in-common, in-frame, variable-told}

-- names of a unit are the same where their numbers are
same-number : (program : Units) (u : ℕ) (x y : Name) → is_among x (names_of (unit_at program u)) ≡ true → is_among y (names_of (unit_at program u)) ≡ true
    → nat_eq (variable_number program u y) (variable_number program u x) ≡ same_name x y
same-number program u x y x_among y_among = by (same_name x y) refl where
  one : variable_number program u y ≡ variable_number program u x → y ≡ x
  one same =
      let index : variable_index (unit_at program u) y ≡ variable_index (unit_at program u) x = omega (arith, same) in
      same_Some y x (sym (variable-at (unit_at program u) y y_among) ∙ ap (slice_get (names_of (unit_at program u))) index ∙ variable-at (unit_at program u) x x_among)

  by : (t : Bool) → same_name x y ≡ t → nat_eq (variable_number program u y) (variable_number program u x) ≡ t
  by true e = ap (λ z. nat_eq (variable_number program u y) (variable_number program u z)) (equal_names x y e) ∙ eq-eqb (variable_number program u y) (variable_number program u y) refl
  by false e =
      ne_eqb (variable_number program u y) (variable_number program u x) (λ same. true≢false (sym (ap (same_name x) (one same) ∙ same_name-self x) ∙ e))

module _ (program : Units) (s : State) where
  abbrev Among : ℕ → Name → Type 0
  Among a x = is_among x (names_of (unit_at program (unit_of s a))) ≡ true

  abbrev number : ℕ → Name → ℕ
  number a x = variable_number program (unit_of s a) x

  by-owner : (o a : ℕ) (y x : Name) → Among o y → Among a x → (nat_eq o a && nat_eq (number o y) (number a x)) ≡ (nat_eq a o && same_name x y)
  by-owner o a y x y_among x_among = elim (cases_Bool (nat_eq o a)) [
    | inl t ↦
        subst (λ b. Among b y → (nat_eq b a && nat_eq (number b y) (number a x)) ≡ (nat_eq a b && same_name x y)) (sym (eqb-true o a t)) (λ among.
        ap (λ b. nat_eq a a && b) (same-number program (unit_of s a) x y x_among among)) y_among
    | inr f ↦
        let other : nat_eq a o ≡ false = ne_eqb a o (λ same. true≢false (sym (eq-eqb o a (sym same)) ∙ f)) in
        ap (λ b. b && nat_eq (number o y) (number a x)) f ∙ sym (ap (λ b. b && same_name x y) other)
  ]

  -- the same of a place
  abbrev told : ℕ → Name → Location → Bool
  told a x at = nat_eq (place_of program s at).owner a && nat_eq (place_of program s at).name (number a x)

module _ (program : Units) (cells : ℕ) (choices : List ℕ) (m : CoreState) (accepted : IsAccepted program) (main : is_some (main_among program) ≡ true) where
  abbrev s : State
  s = run program choices

  pub own-is : (key cell : ℕ) (at : Location) → IsSought program cells choices m key cell at → (a : ℕ) (x : Name) → 1 ≤ a → is_among x (names_of (unit_at program (unit_of s a))) ≡ true
      → (nat_eq (place_of program s at).owner a && nat_eq (place_of program s at).name (variable_number program (unit_of s a) x)) ≡ is_own a x at
  own-is key cell at h a x some among = elim (cases_Bool (nat_lt cell (common_cells program))) [
    | inl t ↦
        let less : cell < common_cells program = grind (arith, nat_tests) in
        let f = in-common program cells choices m key cell at h less in
        let other : nat_eq 0 a ≡ false = ne_eqb 0 a (λ same. omega (arith, same, some)) in
        ap (told program s a x) f.is
        ∙ ap (λ b. b && nat_eq (place_of program s (common f.block (suc f.index))).name (variable_number program (unit_of s a) x)) other
        ∙ sym (ap (is_own a x) f.is)
    | inr t ↦
        let back : common_cells program ≤ cell = grind (arith, nat_tests) in
        let f = in-frame program cells choices m key cell at h back in
        let u = unit_of s f.owner in
        let inside = units-there program choices f.owner accepted main f.made.0 f.made.1 in
        let once = λ (i j : ℕ) (y : Name). dummies_once program u i j (unit_at program u) y accepted inside in
        let v = variable-told f.owner (unit_at program u) (cell - f.holder.node.first) f.name f.index once f.told in
        ap (told program s a x) f.is
        ∙ by-owner program s f.owner a f.name x v.2.named among
        ∙ sym (ap (is_own a x) f.is)
  ]
