-- What a process waits for is told by the names of its place.
use Rattle.std.proofs.Common.{◌≡◌, inl, inr, ℕ, zero, suc, ◌-◌, ◌<◌, ◌≤◌, Bool, true, false, List, length, Some, refl, sym, ap, ◌∙◌, arith, if◌then◌else◌, is_some, nat_lt, slice_get}
use Rattle.std.proofs.lemmas.Bool.{cases_Bool}
use Rattle.std.proofs.lemmas.Bool.Decides.{nat_tests}
use Rattle.std.proofs.lemmas.Option.{same_Some, slice_get_within}
use Rattle.hep_accepted_laws.proofs.Closed.{units-there}
use Rattle.hep_accepted_laws.proofs.NameMeanings.{dummies_once}
use Rattle.hep_cells.specs.declared.want.Want.{Want}
use Rattle.hep_conditions.specs.Words.{IsAccepted}
use Rattle.hep_image.specs.Names.{names_in_order}
use Rattle.hep_image.proofs.Numbers.{number-of-block, number-of-variable}
use Rattle.hep_machine.specs.Words.{Name, Units, BlockName, blocks_of, common, common_cells, is_among, is_array, is_block_among, local, main_among, names_of, run, spelling, unit_at, unit_of, Location, State, wanted_by}
use Rattle.hep_state.specs.declared.core_state.CoreState.{CoreState}
use Rattle.hep_state.specs.Words.{IsMachineAfter}
use Rattle.hep_state_text.specs.Lines as lines
use Rattle.hep_state_text.specs.States as words
use Rattle.hep_views.specs.declared.listed.Listed.{Listed}
use Rattle.hep_views.specs.ListedProcesses.{listed_at, listed_by, listed_with, place_of}
use Rattle.hep_views.specs.CellOwners.{IsSought}
use Rattle.hep_views.proofs.Places.{in-common, in-frame, variable-told}
use Rattle.hep_views.proofs.WaitingPlaces.{Waits}
use Rattle.hep_state_text.specs.WaitTexts.{element_seen, name_seen, owned_seen, place_listed, place_seen}

-- ---- places

module _ (program : Units) (s : State) where
  -- what is read of a place by these numbers
  abbrev pub seen : ℕ → ℕ → ℕ → List ℕ
  seen name element owner = owned_seen (name_seen (slice_get (names_in_order program) name)) element owner

  abbrev pub place-seen : Location → List ℕ
  place-seen at = seen (place_of program s at).name (place_of program s at).element (place_of program s at).owner

  common-seen : (b : BlockName) (k : ℕ) → is_block_among b (blocks_of program) ≡ true → place-seen (common b (suc k)) ≡ words.place_text program s (common b (suc k))
  common-seen b k h = ap (λ name. lines.element_text (lines.block_name name) (suc k)) (ap name_seen (number-of-block program b h))

  local-seen : (a k : ℕ) (x : Name) → unit_of s a < length program → is_among x (names_of (unit_at program (unit_of s a))) ≡ true → 1 ≤ a
      → place-seen (local a x (suc k)) ≡ words.place_text program s (local a x (suc k))
  local-seen zero k x inside named made = absurd (omega (arith, made))
  local-seen (suc i) k x inside named made =
      ap (λ name. lines.owned_text (element_seen name (if is_array (unit_at program (unit_of s (suc i))) x then suc k else 0)) (suc i)) (ap name_seen (number-of-variable program (unit_of s (suc i)) x inside named))
      ∙ by_array (is_array (unit_at program (unit_of s (suc i))) x)
    where
      by_array : (b : Bool) → lines.owned_text (element_seen (spelling x) (if b then suc k else 0)) (suc i) ≡ lines.owned_text (if b then lines.element_text (spelling x) (suc k) else spelling x) (suc i)
      by_array true = refl
      by_array false = refl

module _ (program : Units) (cells : ℕ) (choices : List ℕ) (m : CoreState) (accepted : IsAccepted program) (main : is_some (main_among program) ≡ true) where
  abbrev s : State
  s = run program choices

  pub place-told : (key cell : ℕ) (at : Location) → IsSought program cells choices m key cell at → place-seen program s at ≡ words.place_text program s at
  place-told key cell at h = elim (cases_Bool (nat_lt cell (common_cells program))) [
    | inl t ↦
        let less : cell < common_cells program = grind (arith, nat_tests) in
        let f = in-common program cells choices m key cell at h less in
        ap (place-seen program s) f.is
        ∙ common-seen program s f.block f.index f.told.named
        ∙ ap (words.place_text program s) (sym f.is)
    | inr t ↦
        let back : common_cells program ≤ cell = grind (arith, nat_tests) in
        let f = in-frame program cells choices m key cell at h back in
        let u = unit_of s f.owner in
        let inside = units-there program choices f.owner accepted main f.made.0 f.made.1 in
        let once = λ (i j : ℕ) (x : Name). dummies_once program u i j (unit_at program u) x accepted inside in
        let v = variable-told f.owner (unit_at program u) (cell - f.holder.node.first) f.name f.index once f.told in
        let is : at ≡ local f.owner f.name (suc v.0) = f.is ∙ ap (local f.owner f.name) v.1 in
        ap (place-seen program s) is
        ∙ local-seen program s f.owner v.0 f.name (slice_get_within program u (unit_at program u) inside) v.2.named f.made.0
        ∙ ap (words.place_text program s) (sym is)
  ]

  -- ---- words

  pub text-is : (after : IsMachineAfter program cells choices m) (p : ℕ) (want : Want) (w : Waits program cells choices m after p want) (l : Listed) → listed_by program p s ≡ Some l
      → lines.waiting_text l.full (place_seen (names_in_order program) (place_listed l)) ≡ words.waiting_text program s (wanted_by program p s)
  text-is after p want w l e =
      let same : l ≡ listed_at program s p w.top.0 w.wanted = same_Some l (listed_at program s p w.top.0 w.wanted) (sym e ∙ (λ i. listed_with program s p (w.lives i) (w.waits i))) in
      ap (λ (z : Listed). lines.waiting_text z.full (place_seen (names_in_order program) (place_listed z))) same
      ∙ ap (lines.waiting_text w.wanted.full) (place-told w.is_top.levels.level.key want.cell w.wanted.at w.sought)
      ∙ sym (ap (words.waiting_text program s) w.waits)
