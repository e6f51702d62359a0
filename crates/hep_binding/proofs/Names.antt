-- Names that are distinct are found where they stand; and what is given, one by one.
use Rattle.std.proofs.Common.{◌≡◌, ℕ, zero, suc, Bool, true, false, List, [], ◌∷◌, length, take, Some, refl, sym, ap, ◌∙◌, subst, if◌then◌else◌, slice_get}
use Rattle.std.specs.Option.{option_map}
use Rattle.std.proofs.lemmas.Option.{same_Some, none-some}
use Rattle.hep_machine.specs.Words.{Name, index_among, same_name, Units, Layout, dummy_at, Dummy, Location, State, Store, local, same_location}
use Rattle.hep_source.proofs.NameTests.{equal_names, same_name-self}
use Rattle.hep_machine.proofs.Locations.{equal_locations}
use Rattle.hep_step.specs.declared.dummy_storage.DummyStorage.{DummyStorage}
use Rattle.hep_step.specs.declared.dummy_storage.DummyStorage.TheVariants as given
use Rattle.hep_binding.specs.ActualArguments.{AreGiven, IsGiven, with_given, with_one_given}
use Rattle.hep_code.specs.Sources.{IsNamedOnce}

-- ---- names

found : (x : Name) (xs : List Name) (k : ℕ) → slice_get xs k ≡ Some x → (j : ℕ) × (index_among x xs ≡ Some j) × (slice_get xs j ≡ Some x)
found x [] k e = absurd (none-some x e)
found x (y ∷ ys) zero e = (0, ap (λ b. if b then Some 0 else option_map suc (index_among x ys)) (ap (same_name x) (same_Some y x e) ∙ same_name-self x), e)
found x (y ∷ ys) (suc k) e = by_test (found x ys k e) (same_name x y) refl where
  by_test : (j : ℕ) × (index_among x ys ≡ Some j) × (slice_get ys j ≡ Some x) → (b : Bool) → same_name x y ≡ b → (j : ℕ) × ((if b then Some 0 else option_map suc (index_among x ys)) ≡ Some j) × (slice_get (y ∷ ys) j ≡ Some x)
  by_test rest true t = (0, refl, ap (λ z. Some z) (sym (equal_names x y t)))
  by_test rest false t = (suc rest.0, ap (option_map suc) rest.1, rest.2)

pub index-found : (x : Name) (xs : List Name) (k : ℕ) → IsNamedOnce xs → slice_get xs k ≡ Some x → index_among x xs ≡ Some k
index-found x xs k distinct e = let there = found x xs k e in there.1 ∙ ap (λ j. Some j) (distinct there.0 k x there.2 e)

-- ---- what is given to dummy argument k

pub record IsGivenAt (program : Units) (s : State) (layout : Layout) (a : ℕ) (xs : List Name) (ds : List Dummy) (k : ℕ) (g : DummyStorage) : Type 0 where
  pub name : Name
  pub named : slice_get xs k ≡ Some name
  pub dummy : Dummy
  pub there : dummy_at ds k ≡ dummy
  pub is_given : IsGiven program s layout a name dummy g

pub given-at : (program : Units) (s : State) (layout : Layout) (a : ℕ) (xs : List Name) (ds : List Dummy) (gs : List DummyStorage) (k : ℕ) (g : DummyStorage) → AreGiven program s layout a xs ds gs → slice_get gs k ≡ Some g → IsGivenAt program s layout a xs ds k g
given-at program s layout a [] [] [] k g h e = absurd (none-some g e)
given-at program s layout a (x ∷ xs) (d ∷ ds) (z ∷ gs) zero g h e = record { name = x; named = refl; dummy = d; there = refl; is_given = subst (IsGiven program s layout a x d) (same_Some z g e) h.0 }
given-at program s layout a (x ∷ xs) (d ∷ ds) (z ∷ gs) (suc k) g h e =
    let rest = given-at program s layout a xs ds gs k g h.1 e in
    record { name = rest.name; named = rest.named; dummy = rest.dummy; there = rest.there; is_given = rest.is_given }
given-at program s layout a _ _ _ k g h e = absurd h

-- as many as there are names
pub given-many : (program : Units) (s : State) (layout : Layout) (a : ℕ) (xs : List Name) (ds : List Dummy) (gs : List DummyStorage) → AreGiven program s layout a xs ds gs → length gs ≡ length xs
given-many program s layout a [] [] [] h = refl
given-many program s layout a (x ∷ xs) (d ∷ ds) (g ∷ gs) h = ap suc (given-many program s layout a xs ds gs h.1)
given-many program s layout a _ _ _ h = absurd h

-- ---- what is stored

pub given-next : (store : Store) (a : ℕ) (xs : List Name) (gs : List DummyStorage) (k : ℕ) (x : Name) (g : DummyStorage) → slice_get xs k ≡ Some x → slice_get gs k ≡ Some g
    → with_given store a xs (take (suc k) gs) ≡ with_one_given (with_given store a xs (take k gs)) a x g
given-next store a [] gs k x g e f = absurd (none-some x e)
given-next store a (y ∷ ys) [] k x g e f = absurd (none-some g f)
given-next store a (y ∷ ys) (h ∷ hs) zero x g e f = none-more ys (λ i. with_one_given store a (same_Some y x e i) (same_Some h g f i)) where
  none-more : (zs : List Name) {new : Store} → with_one_given store a y h ≡ new → with_given (with_one_given store a y h) a zs [] ≡ new
  none-more [] same = same
  none-more (z ∷ zs) same = same
given-next store a (y ∷ ys) (h ∷ hs) (suc k) x g e f = given-next (with_one_given store a y h) a ys hs k x g e f

full-one : (store : Store) (at : Location) (a : ℕ) (x : Name) (g : DummyStorage) → (with_one_given store a x g at).full ≡ (store at).full
full-one store at a x (given.Units first count) = refl
full-one store at a x (given.Value v) = by_test (same_location at (local a x 1)) refl where
  by_test : (b : Bool) → same_location at (local a x 1) ≡ b → (if b then record { value = Some v; full = (store (local a x 1)).full } else store at).full ≡ (store at).full
  by_test false e = refl
  by_test true e = ap (λ z. (store z).full) (sym (equal_locations at (local a x 1) e))

pub full-given : (store : Store) (at : Location) (a : ℕ) (xs : List Name) (gs : List DummyStorage) → (with_given store a xs gs at).full ≡ (store at).full
full-given store at a [] gs = refl
full-given store at a (x ∷ xs) [] = refl
full-given store at a (x ∷ xs) (g ∷ gs) = full-given (with_one_given store a x g) at a xs gs ∙ full-one store at a x g
