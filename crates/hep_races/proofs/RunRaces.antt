-- The lines of a run's races under the names that the run has are those of the definition.
use Rattle.std.proofs.Common.{◌≡◌, ℕ, ◌<◌, ◌&&◌, true, List, [], ◌∷◌, ◌++◌, length, map, zero, suc, Option, Some, refl, sym, ap, ◌∙◌, subst}
use Rattle.std.proofs.Common.{arith, is_some, nat_eq, slice_get}
use Rattle.std.proofs.lemmas.Bool.{and_parts, eqb-true}
use Rattle.std.specs.Cmp.{both_ways}
use Rattle.std.proofs.lemmas.Bool.Decides.{nat_tests}
use Rattle.std.proofs.lemmas.Option.{same_Some, slice_get_within}
use Rattle.std.specs.List.{AllZip, flat_map}
use Rattle.std.specs.Option.{unwrap_or}
use Rattle.hep_accepted_laws.proofs.Closed.{units-there}
use Rattle.hep_accesses.specs.Accesses.{Site, same_site}
use Rattle.hep_accesses.specs.RunEvents.{Event, Row, events_of, races_of}
use Rattle.hep_conditions.specs.Words.{IsAccepted}
use Rattle.hep_event.specs.Names.{name_found}
use Rattle.hep_image.specs.Names.{names_in_order, spellings_of}
use Rattle.hep_machine.specs.declared.event.Entry.{Entry}
use Rattle.hep_machine.specs.Words.{Location, State, Units, block_spelling, blocks_of, common, local, main_among, run, same_location}
use Rattle.hep_machine.specs.Words.{same_name, schedule_of, state_after, unit_at, unit_name, unit_of}
use Rattle.hep_accesses.proofs.SiteTests.{site-equivalence}
use Rattle.hep_accesses.proofs.SameRows.{same-rows}
use Rattle.hep_accesses.specs.Detector.{rows_by_clocks, rows_from}
use Rattle.hep_accesses.specs.Events.{Event as AnEvent}
use Rattle.hep_source.proofs.NameTests.{equal_names}
use Rattle.hep_state_text.specs.States.{place_text}
use Rattle.hep_state_text.specs.WaitTexts.{place_seen}
use Rattle.hep_races.specs.EntryNumbers.{entry_of}
use Rattle.hep_races.specs.Observed.{unit_eq}
use Rattle.hep_races.specs.RunNames.{AreUnique, run_names, site_in}
use Rattle.hep_races.specs.RaceLines.{RowWords, rows_text}
use Rattle.hep_races.specs.Races.{races_text, site_words, words_after}
use Rattle.hep_races.specs.Renamings.{AreTestsKept, IsRenamedEvent, IsRenamedRow, Renaming}
use Rattle.hep_races.specs.SeenRaces.{place_of_unit, site_at, site_seen}
use Rattle.hep_races.specs.declared.step_access.AccessSite.{AccessSite}
use Rattle.hep_races.specs.declared.storage_unit.StorageUnit.{StorageUnit}
use Rattle.hep_races.proofs.NamedLines.{lines-same}
use Rattle.hep_races.proofs.PlacesTold.{places-told}
use Rattle.hep_races.proofs.PlaceTexts.{block-words, variable-words}
use Rattle.hep_races.proofs.Renamed.{rows-renamed}

-- by the names of a run
abbrev pub words_in : Units → List AccessSite → List Entry → (ℕ → List ℕ) → RowWords StorageUnit ℕ
words_in program sites entries shown =
    record {
      place = λ (u : StorageUnit). place_seen (names_in_order program) (place_of_unit u);
      site = λ n. site_seen program (site_at sites n);
      entry = entry_of entries;
      source = shown;
    }

-- the first names of a program are those of its units
unit-found : (units : Units) (others : List (List ℕ)) (u : ℕ) → u < length units
    → name_found (slice_get (map unit_name units ++ others) u) ≡ unit_name (unit_at units u)
unit-found [] others u inside = absurd (omega (arith, inside))
unit-found (unit ∷ units) others zero inside = refl
unit-found (unit ∷ units) others (suc u) inside = unit-found units others u (omega (arith, inside))

module _ (program : Units) (entries : List Entry) (sites : List AccessSite) (shown : ℕ → List ℕ) (accepted : IsAccepted program)
    (main : is_some (main_among program) ≡ true) (unique : AreUnique sites) where
  abbrev ps : List ℕ
  ps = schedule_of entries

  abbrev s : State
  s = run program ps

  abbrev r : Renaming Location StorageUnit Site ℕ
  r = run_names program s sites

  -- ---- words

  site-words : (a : Site) (n : ℕ) → r.site a n → site_seen program (site_at sites n) ≡ site_words program a
  site-words a n h =
      ap (λ (found : Option AccessSite). site_seen program (unwrap_or found (site_at [] n))) h.0
      ∙ (λ i. record (site_words program a) {
        unit = unit-found program
            (flat_map spellings_of program ++ map block_spelling (blocks_of program)) a.unit h.1 i;
      })

  unit-words : (at : Location) (u : StorageUnit) → r.unit at u
      → place_seen (names_in_order program) (place_of_unit u) ≡ place_text program s at
  unit-words (common b i) u h =
      ap (λ (v : StorageUnit). place_seen (names_in_order program) (place_of_unit v)) h.1 ∙ block-words program s b i h.0
  unit-words (local a x i) u h =
      let there = units-there program ps a accepted main h.0.0 h.0.1 in
      let inside = slice_get_within program (unit_of s a) (unit_at program (unit_of s a)) there in
      ap (λ (v : StorageUnit). place_seen (names_in_order program) (place_of_unit v)) h.1
      ∙ variable-words program s a i x h.0.0 h.0.4 inside h.0.2

  -- ---- tests

  units-kept : (x y : Location) (u v : StorageUnit) → r.unit x u → r.unit y v → unit_eq u v ≡ same_location x y
  units-kept x y u v h g = (λ i. unit_eq (h.1 i) (g.1 i)) ∙ places-told program s x y h.0 g.0

  same-codes : (a b : Site) → same_site a b ≡ true → site_in a ≡ site_in b
  same-codes a b e =
      let parts = and_parts (nat_eq a.unit b.unit) (nat_eq a.line b.line && same_name a.name b.name) e in
      let more = and_parts (nat_eq a.line b.line) (same_name a.name b.name) parts.1 in
      let units = eqb-true a.unit b.unit parts.0 in
      let lines = eqb-true a.line b.line more.0 in
      let names = equal_names a.name b.name more.1 in
      λ i. record { unit = units i; line = lines i; name = names i }

  sites-kept : (a b : Site) (n m : ℕ) → r.site a n → r.site b m → nat_eq n m ≡ same_site a b
  sites-kept a b n m h g =
      both_ways (nat_eq n m) (same_site a b) (
      λ e. let same = same_Some (site_in a) (site_in b) (sym h.0 ∙ ap (slice_get sites) (eqb-true n m e) ∙ g.0) in
      let is : a ≡ b = ap (λ (z : AccessSite). record { unit = z.unit; line = z.line; name = z.name }) same in
      subst (λ (z : Site). same_site a z ≡ true) is (site-equivalence.refl a)) (
      λ e. let is : n ≡ m = unique n m (site_in b) (h.0 ∙ ap (λ z. Some z) (same-codes a b e)) g.0 in
      grind (arith, nat_tests))

  tests : AreTestsKept r same_location unit_eq same_site nat_eq
  tests = record { units = units-kept; sites = sites-kept }

  -- ---- the text

  -- of these steps alone, where all rows are theirs
  pub text-of-rows : (n : ℕ) (es : List Event) (fs : List (AnEvent StorageUnit ℕ)) → AllZip (IsRenamedEvent r) es fs
      → rows_from same_location same_site n es ≡ rows_by_clocks same_location same_site (events_of program ps)
      → rows_text (words_in program sites entries shown) (rows_from unit_eq nat_eq n fs) ≡ races_text shown program entries
  unfolding races_text state_after
  text-of-rows n es fs h all =
      lines-same r (words_after shown program entries) (words_in program sites entries shown) unit-words site-words (λ n. refl) (λ n. refl)
      (rows_from same_location same_site n es) (rows_from unit_eq nat_eq n fs)
      (rows-renamed r same_location unit_eq same_site nat_eq tests n es fs h)
      ∙ ap (rows_text (words_after shown program entries)) (
      all ∙ same-rows same_location same_site site-equivalence (events_of program ps))

  same-length : {X Y : Type 0} (R : X → Y → Type 0) (xs : List X) (ys : List Y) → AllZip R xs ys → length ys ≡ length xs
  same-length R [] [] h = refl
  same-length R [] (y ∷ ys) h = absurd h
  same-length R (x ∷ xs) [] h = absurd h
  same-length R (x ∷ xs) (y ∷ ys) h = ap suc (same-length R xs ys h.1)

  -- there are as many rows
  pub as-many-rows : (n : ℕ) (es : List Event) (fs : List (AnEvent StorageUnit ℕ)) → AllZip (IsRenamedEvent r) es fs
      → rows_from same_location same_site n es ≡ rows_by_clocks same_location same_site (events_of program ps)
      → length (rows_from unit_eq nat_eq n fs) ≡ length (races_of program ps)
  as-many-rows n es fs h all =
      same-length (IsRenamedRow r) (rows_from same_location same_site n es) (rows_from unit_eq nat_eq n fs)
      (rows-renamed r same_location unit_eq same_site nat_eq tests n es fs h)
      ∙ ap (λ (rows : List Row). length rows) (
      all ∙ same-rows same_location same_site site-equivalence (events_of program ps))
