-- What is known of a block, name by name.
use Rattle.std.proofs.Common.{◌≡◌, ℕ, ◌+◌, Bool, true, false, not, ◌&&◌, Option, Some, None, List, [], ◌∷◌, ◌++◌, append-nil, append_assoc, refl, ap, sym, ◌∙◌, cond, if◌then◌else◌, arith}
use Rattle.std.specs.Option.{option_map, option_map_or}
use Rattle.hep_machine.specs.Words.{Name, Statement, same_name, name_eq, is_among, Repeated, BlockName, same_block, common_block}
use Rattle.hep_source.proofs.NameTests.{equal_names, name_eq-is, same_name-turned}
use Rattle.hep_conditions.specs.Common as conditions
use Rattle.hep_conditions.specs.Words.{known_before, nothing_more}
use Rattle.hep_storage.specs.BlockContents.{AreNoted, KnownPlaces, is_first_block, names_into, no_run, places_of, run_of, run_of_name, with_noted, with_run, with_known_run, known_places, places_of_names}
use Rattle.hep_storage.specs.Runs.{alike, positions_in}
use Rattle.hep_storage.specs.RunItems.{repeat_before}
use Rattle.hep_storage.specs.declared.runs.PositionRun.{PositionRun}
use Rattle.hep_storage.proofs.CommonPrefixes.{alike-equal, positions-append, repeat-append, repeat-parts}
use Rattle.hep_machine.proofs.Locations.{equal_blocks, block-self}

-- ---- names

first-next : (unit : List Statement) (b : BlockName) (before xs : List Name) (x : Name)
    → conditions.first_names unit b before (xs ++ x ∷ [])
    ≡ conditions.first_names unit b before xs ++ (if is_first_block unit b x && not (if is_among x xs then true else is_among x before) then x ∷ [] else [])
first-next unit b before [] x = append-nil (if is_first_block unit b x && not (is_among x before) then x ∷ [] else [])
first-next unit b before (y ∷ ys) x =
    let shuffled : (if is_among x ys then true else (if same_name x y then true else is_among x before)) ≡ (if (if same_name x y then true else is_among x ys) then true else is_among x before) = grind arith in
    rw (first-next unit b (y ∷ before) ys x, shuffled) (simp append_assoc)

among-next : (x : Name) (xs : List Name) (y : Name) → is_among x (xs ++ y ∷ []) ≡ (if is_among x xs then true else same_name x y)
among-next x [] y = grind arith
among-next x (z ∷ zs) y = grind (arith, among-next x zs y)

pub name-added : (name x : Name) (old : Bool) → cond (name_eq name x) true old ≡ (if old then true else same_name x name)
name-added name x old = rw (name_eq-is name x, same_name-turned name x) (grind arith)

-- ---- runs

-- two runs as one
pub joined-places : (r q : PositionRun) (n : ℕ) → alike r.position q.position ≡ true → n ≡ r.count + q.count → repeat_before n r.position [] ≡ places_of r ++ places_of q
joined-places r q n h e =
    ap (λ k. repeat_before k r.position []) e
    ∙ (repeat-parts r.count q.count r.position []
    ∙ (repeat-append r.count r.position (repeat_before q.count r.position [])
    ∙ ap (λ p. places_of r ++ repeat_before q.count p []) (alike-equal r.position q.position h)))

pub pushed : (rs new : List PositionRun) (r : PositionRun) → new ≡ rs ++ r ∷ [] → positions_in new ≡ positions_in rs ++ places_of r
pushed rs new r e = ap positions_in e ∙ positions-append rs (r ∷ [])

-- after the last one was taken
pub last-put : (old rs : List PositionRun) (r q : PositionRun) (new : List PositionRun) → old ≡ rs ++ r ∷ [] → positions_in new ≡ (positions_in rs ++ places_of r) ++ places_of q → positions_in new ≡ positions_in old ++ places_of q
last-put old rs r q new e h = h ∙ ap (λ ps. ps ++ places_of q) (sym (pushed rs old r e))

abbrev before_places : PositionRun → KnownPlaces → KnownPlaces
before_places r k = record { positions = repeat_before r.count r.position k.positions; is_whole = k.is_whole }

put : (r : PositionRun) (k : KnownPlaces) (o : Option PositionRun) → before_places r (with_run k o) ≡ with_run (before_places r k) o
put r k o = by k.is_whole o
  where
    by : (w : Bool) (o : Option PositionRun)
        → before_places r (if w then with_known_run k.positions o else k) ≡ (if w then with_known_run (repeat_before r.count r.position k.positions) o else before_places r k)
    by true None = refl
    by true (Some q) =
        let e = repeat-append r.count r.position in
        ap (λ ps. record { positions = ps; is_whole = true }) (e (k.positions ++ places_of q) ∙ (sym (append_assoc (places_of r) k.positions (places_of q)) ∙ ap (λ ps. ps ++ places_of q) (sym (e k.positions))))
    by false o = refl

known-next : (unit : List Statement) (xs : List Name) (x : Name)
    → known_places (conditions.positions_of unit (xs ++ x ∷ [])) ≡ with_run (known_places (conditions.positions_of unit xs)) (run_of_name unit x)
known-next unit [] x = by (conditions.positions_of_name unit x)
  where
    by : (o : Option (Repeated conditions.Position)) → known_places (known_before o nothing_more) ≡ with_run no_run (option_map run_of o)
    by None = refl
    by (Some r) = refl
known-next unit (y ∷ ys) x = by (conditions.positions_of_name unit y) (known-next unit ys x)
  where
    by : (o : Option (Repeated conditions.Position))
        → known_places (conditions.positions_of unit (ys ++ x ∷ [])) ≡ with_run (known_places (conditions.positions_of unit ys)) (run_of_name unit x)
        → known_places (known_before o (conditions.positions_of unit (ys ++ x ∷ []))) ≡ with_run (known_places (known_before o (conditions.positions_of unit ys))) (run_of_name unit x)
    by None h = refl
    by (Some r) h = ap (before_places (run_of r)) h ∙ put (run_of r) (known_places (conditions.positions_of unit ys)) (run_of_name unit x)

-- a name whose first place in COMMON is here, and another one
module _ (unit : List Statement) (b : BlockName) (xs : List Name) (x : Name) (first : Bool) (is : first ≡ (is_first_block unit b x && not (is_among x xs))) where
  names-next : conditions.first_names unit b [] (xs ++ x ∷ []) ≡ conditions.first_names unit b [] xs ++ (if first then x ∷ [] else [])
  names-next =
      let new : (is_first_block unit b x && not (if is_among x xs then true else false)) ≡ first = grind arith in
      first-next unit b [] xs x ∙ ap (λ t. conditions.first_names unit b [] xs ++ (if t then x ∷ [] else [])) new

  first-listed : first ≡ true → places_of_names unit b (xs ++ x ∷ []) ≡ with_run (places_of_names unit b xs) (run_of_name unit x)
  first-listed h = rw (names-next, h) (known-next unit (conditions.first_names unit b [] xs) x)

  other-listed : first ≡ false → places_of_names unit b (xs ++ x ∷ []) ≡ places_of_names unit b xs
  other-listed h = rw (names-next, h, append-nil) refl

-- what is known after one name more
module _ (unit : List Statement) (b : BlockName) (xs : List Name) (x : Name) (old : KnownPlaces) (seen : Name → Bool) (marked : AreNoted unit b xs seen) (h : old ≡ places_of_names unit b xs)
    (first : Bool) (is : first ≡ (is_first_block unit b x && not (seen x))) where
  at-first : first ≡ (is_first_block unit b x && not (is_among x xs))
  at-first = grind (arith, marked x)

  pub holds-first : (new : KnownPlaces) (run : Option PositionRun) → first ≡ true → run ≡ run_of_name unit x → new ≡ with_run old run → new ≡ places_of_names unit b (xs ++ x ∷ [])
  holds-first new run f r e = e ∙ (ap (λ k. with_run k run) h ∙ (ap (with_run (places_of_names unit b xs)) r ∙ sym (first-listed unit b xs x first at-first f)))

  pub holds-other : (new : KnownPlaces) → first ≡ false → new ≡ old → new ≡ places_of_names unit b (xs ++ x ∷ [])
  holds-other new f e = e ∙ (h ∙ sym (other-listed unit b xs x first at-first f))

-- ---- which names are noted

-- no name has two first blocks
other-block : (unit : List Statement) (k b : BlockName) (y : Name) → is_first_block unit k y ≡ true → same_block k b ≡ false → is_first_block unit b y ≡ false
other-block unit k b y = by (common_block unit y)
  where
    by : (o : Option BlockName) → option_map_or (same_block k) o false ≡ true → same_block k b ≡ false → option_map_or (same_block b) o false ≡ false
    by None g e = refl
    by (Some c) g e = grind (arith, equal_blocks k c, equal_blocks b c, block-self c)

differ : (unit : List Statement) (b : BlockName) (x y : Name) → is_first_block unit b x ≡ true → is_first_block unit b y ≡ false → same_name x y ≡ false
differ unit b x y f g = grind (arith, equal_names x y)

-- one name more in a block, for that block and any other
pub noted-next : (unit : List Statement) (k b : BlockName) (xs : List Name) (y : Name) (old new : Name → Bool) → AreNoted unit b xs old
    → ((x : Name) → new x ≡ with_noted unit k y old x) → AreNoted unit b (xs ++ names_into k b (y ∷ [])) new
noted-next unit k b xs y old new marked is x f = is x ∙ by (same_block k b) refl
  where
    by : (t : Bool) → same_block k b ≡ t → with_noted unit k y old x ≡ is_among x (xs ++ (if t then y ∷ [] else []))
    by true e = rw (equal_blocks k b e, among-next x xs y) (grind (arith, marked x f, f, differ unit b x y f))
    by false e = rw (append-nil xs) (grind (arith, marked x f, f, other-block unit k b y, differ unit b x y f))
