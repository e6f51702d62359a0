-- Steps of which those that are quiet aren't noted: one more of them, and the rows.
use Rattle.std.proofs.Common.{◌≡◌, ℕ, suc, ◌+◌, nat_eq, List, [], ◌∷◌, ◌++◌, length, None, Option, refl, sym, subst, arith}
use Rattle.std.specs.List.{AllZip}
use Rattle.hep_accesses.specs.Accesses.{Access, Site}
use Rattle.hep_accesses.specs.Detector.{Detector, detector_after, detector_from, rows_from}
use Rattle.hep_accesses.specs.Events.{Event as AnEvent}
use Rattle.hep_accesses.specs.RunEvents.{Event}
use Rattle.hep_machine.specs.Words.{Location, State, Units}
use Rattle.hep_races.proofs.QuietSteps.{AreAlikeDetectors, quiet-alike, quiet_event, step-alike}
use Rattle.hep_races.proofs.RenamedSteps.{event-later}
use Rattle.hep_races.specs.Detectors.{NumberedEvents, detector_along, empty_detector, rows_along}
use Rattle.hep_races.specs.Observed.{unit_eq}
use Rattle.hep_races.specs.ObservedRuns.{AreNoted, Events, IsQuiet, none, noted, quiet}
use Rattle.hep_races.specs.Renamings.{IsRenamedAccess, IsRenamedEvent, IsRenamedNeed, Renaming}
use Rattle.hep_races.specs.RunNames.{run_names}
use Rattle.hep_races.specs.declared.step_access.AccessSite.{AccessSite}
use Rattle.hep_races.specs.declared.storage_unit.StorageUnit.{StorageUnit}

module _ (r : Renaming Location StorageUnit Site ℕ) where
  -- of no steps none is noted
  pub noted-none : (n : ℕ) (fs : NumberedEvents) → AreNoted r n [] fs → fs ≡ []
  noted-none _ _ (none n) = refl

  -- one more is noted
  pub noted-last : (n m : ℕ) (e : Event) (f : AnEvent StorageUnit ℕ) → IsRenamedEvent r e f → (es : Events) (fs : NumberedEvents)
      → m ≡ n + length es → AreNoted r n es fs → AreNoted r n (es ++ e ∷ []) (fs ++ (m, f) ∷ [])
  noted-last _ m e f is _ _ at (none n) =
      let same : n ≡ m = omega (arith, at) in
      subst (λ k. AreNoted r n (e ∷ []) ((k, f) ∷ [])) same (noted n e f [] [] is (none (suc n)))
  noted-last _ m e f is _ _ at (noted n d g es fs own rest) =
      noted n d g (es ++ e ∷ []) (fs ++ (m, f) ∷ []) own (noted-last (suc n) m e f is es fs (omega (arith, at)) rest)
  noted-last _ m e f is _ _ at (quiet n d es fs own rest) =
      quiet n d (es ++ e ∷ []) (fs ++ (m, f) ∷ []) own (noted-last (suc n) m e f is es fs (omega (arith, at)) rest)

  -- one more is quiet
  pub noted-quiet : (n : ℕ) (e : Event) → IsQuiet e → (es : Events) (fs : NumberedEvents) → AreNoted r n es fs
      → AreNoted r n (es ++ e ∷ []) fs
  noted-quiet _ e is _ _ (none n) = quiet n e [] [] is (none (suc n))
  noted-quiet _ e is _ _ (noted n d g es fs own rest) = noted n d g (es ++ e ∷ []) fs own (noted-quiet (suc n) e is es fs rest)
  noted-quiet _ e is _ _ (quiet n d es fs own rest) = quiet n d (es ++ e ∷ []) fs own (noted-quiet (suc n) e is es fs rest)

  -- all steps under the other names, of which those that are noted have the same rows
  pub record AreFilled (n : ℕ) (es : Events) (fs : NumberedEvents) : Type 0 where
    pub all : List (AnEvent StorageUnit ℕ)
    pub zipped : AllZip (IsRenamedEvent r) es all
    pub rows :
        (x y : Detector StorageUnit ℕ) → AreAlikeDetectors x y
        → (detector_from unit_eq nat_eq n x all).rows ≡ (detector_along unit_eq nat_eq y fs).rows

  quiet-renamed : (e : Event) → IsQuiet e → IsRenamedEvent r e (quiet_event e.process)
  quiet-renamed e q =
      record {
        process = refl;
        makes = sym q.makes;
        needs = subst (λ (o : Option Location). IsRenamedNeed r o None) (sym q.needs) tt;
        changes = λ at u is. sym (q.changes at);
        accesses = subst (λ (xs : List Access). AllZip (IsRenamedAccess r) xs []) (sym q.accesses) tt;
      }

  filled : (n : ℕ) (es : Events) (fs : NumberedEvents) → AreNoted r n es fs → AreFilled n es fs
  unfolding detector_from detector_along
  filled _ _ _ (none n) = record { all = []; zipped = tt; rows = λ x y h. h.rows }
  filled _ _ _ (noted n e f es fs own rest) =
      let more = filled (suc n) es fs rest in
      record {
        all = f ∷ more.all;
        zipped = (own, more.zipped);
        rows = λ x y h.
            more.rows (detector_after unit_eq nat_eq n x f) (detector_after unit_eq nat_eq n y f) (step-alike unit_eq nat_eq n x y h f);
      }
  filled _ _ _ (quiet n e es fs own rest) =
      let more = filled (suc n) es fs rest in
      let f : AnEvent StorageUnit ℕ = quiet_event e.process in
      record {
        all = f ∷ more.all;
        zipped = (quiet-renamed e own, more.zipped);
        rows = λ x y h. more.rows (detector_after unit_eq nat_eq n x f) y (quiet-alike unit_eq nat_eq n x y h e.process);
      }

  -- all steps under the other names, and the same rows
  pub record HaveRows (n : ℕ) (es : Events) (fs : NumberedEvents) : Type 0 where
    pub all : List (AnEvent StorageUnit ℕ)
    pub zipped : AllZip (IsRenamedEvent r) es all
    pub rows : rows_along unit_eq nat_eq fs ≡ rows_from unit_eq nat_eq n all

  pub noted-rows : (n : ℕ) (es : Events) (fs : NumberedEvents) → AreNoted r n es fs → HaveRows n es fs
  noted-rows n es fs h =
      let more = filled n es fs h in
      record {
        all = more.all;
        zipped = more.zipped;
        rows = sym (
            more.rows empty_detector empty_detector (
            record { clocks = record { process = λ p q other. refl; unit = λ at q. refl }; table = refl; rows = refl }));
      }

-- sites that come up later
module _ (program : Units) (s : State) (sites more : List AccessSite) where
  pub noted-later : (n : ℕ) (es : Events) (fs : NumberedEvents) → AreNoted (run_names program s sites) n es fs
      → AreNoted (run_names program s (sites ++ more)) n es fs
  noted-later _ _ _ (none n) = none n
  noted-later _ _ _ (noted n e f es fs own rest) =
      noted n e f es fs (event-later program s sites more e f own) (noted-later (suc n) es fs rest)
  noted-later _ _ _ (quiet n e es fs own rest) = quiet n e es fs own (noted-later (suc n) es fs rest)
