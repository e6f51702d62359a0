-- The name with which a variable is declared is told by its place.
use Rattle.std.proofs.Common.{◌≡◌, inl, inr, ℕ, zero, suc, ◌-◌, ◌<◌, ◌≤◌, List, length, Option, Some, None, Result, Ok, Err, refl, sym, ap, ◌∙◌, arith, is_some, nat_lt, true}
use Rattle.std.proofs.lemmas.Bool.{cases_Bool}
use Rattle.std.proofs.lemmas.Bool.Decides.{nat_tests}
use Rattle.std.proofs.lemmas.Option.{slice_get_within}
use Rattle.hep_accepted_laws.proofs.Closed.{units-there}
use Rattle.hep_accepted_laws.proofs.NameMeanings.{dummies_once}
use Rattle.hep_code.specs.Words.{Addressing}
use Rattle.hep_conditions.specs.Words.{IsAccepted}
use Rattle.hep_image.specs.Names.{names_in_order}
use Rattle.hep_image.proofs.Numbers.{number-of-variable}
use Rattle.hep_machine.specs.declared.event.Kind.{Kind}
use Rattle.hep_machine.specs.Words.{Location, Name, State, Units, common_cells, is_among, local, main_among, names_of, run, spelling, unit_at, unit_of}
use Rattle.hep_state.specs.declared.core_state.CoreState.{CoreState}
use Rattle.hep_state_text.specs.WaitTexts.{name_seen}
use Rattle.hep_event.specs.AccessedNames.{name_at}
use Rattle.hep_views.specs.declared.place.Place.{Place}
use Rattle.hep_views.specs.ListedProcesses.{place_of}
use Rattle.hep_views.specs.CellOwners.{IsSought}
use Rattle.hep_views.proofs.Places.{in-common, in-frame, variable-told}
use Rattle.hep_event.specs.declared.sites.Site.{Site}
use Rattle.hep_event.specs.Sites.{IsSite}
use Rattle.hep_trace.specs.References.{declared_by, declared_with}

module _ (program : Units) (cells : ℕ) (choices : List ℕ) (m : CoreState) (accepted : IsAccepted program) (main : is_some (main_among program) ≡ true) where
  abbrev s : State
  s = run program choices

  abbrev told : Location → Option (List ℕ)
  told at = declared_with (names_in_order program) (place_of program s at).owner (place_of program s at).name

  local-declared : (a i : ℕ) (x : Name) → unit_of s a < length program → is_among x (names_of (unit_at program (unit_of s a))) ≡ true → 1 ≤ a → told (local a x i) ≡ Some (spelling x)
  local-declared zero i x inside named made = absurd (omega (arith, made))
  local-declared (suc a) i x inside named made = ap (λ o. Some (name_seen o)) (number-of-variable program (unit_of s (suc a)) x inside named)

  declared-is : (key cell : ℕ) (at : Location) → IsSought program cells choices m key cell at → told at ≡ name_at (Ok at)
  declared-is key cell at h = elim (cases_Bool (nat_lt cell (common_cells program))) [
    | inl t ↦
        let less : cell < common_cells program = grind (arith, nat_tests) in
        let f = in-common program cells choices m key cell at h less in
        ap told f.is ∙ sym (ap (λ (o : Location). name_at (Ok o)) f.is)
    | inr t ↦
        let back : common_cells program ≤ cell = grind (arith, nat_tests) in
        let f = in-frame program cells choices m key cell at h back in
        let u = unit_of s f.owner in
        let inside = units-there program choices f.owner accepted main f.made.0 f.made.1 in
        let once = λ (i j : ℕ) (y : Name). dummies_once program u i j (unit_at program u) y accepted inside in
        let v = variable-told f.owner (unit_at program u) (cell - f.holder.node.first) f.name f.index once f.told in
        ap told f.is
        ∙ local-declared f.owner f.index f.name (slice_get_within program u (unit_at program u) inside) v.2.named f.made.0
        ∙ sym (ap (λ (o : Location). name_at (Ok o)) f.is)
  ]

  -- of a site
  pub declared-so : (addressing : Addressing) (site : Option Site) (o : Result Location Kind) → IsSite program s addressing site o
      → ((at : Location) (cell : ℕ) → o ≡ Ok at → addressing at ≡ Some cell → (key : ℕ) × IsSought program cells choices m key cell at)
      → declared_by (names_in_order program) site ≡ name_at o
  declared-so addressing (Some site) (Ok at) h sought =
      let it = sought at site.cell refl h.0 in
      ap (λ (p : Place). declared_with (names_in_order program) p.owner p.name) h.1 ∙ declared-is it.0 site.cell at it.1
  declared-so addressing None (Err k) h sought = refl
  declared-so addressing _ _ h sought = absurd h
