-- Elements of lists, wherever they stand; and where nothing agrees with a thing before it, no two things agree.
use Rattle.std.proofs.Common.{⊎_elim, ◌∙◌, ◌≡◌, ◌⊎◌, inl, inr, ℕ, zero, suc, Bool, true, false, List, [], ◌∷◌, ◌++◌, map, Some, refl, sym, ap, subst, true≢false, cond, ◌<◌, arith, option_map, slice_get, if◌then◌else◌}
use Rattle.std.specs.List.{flat_map, filter, find, list_all, list_any}
use Rattle.std.proofs.lemmas.Option.{none-some, same_Some, slice_get-map}
use Rattle.hep_source.proofs.NameTests.{equal_names, same_name-self}
use Rattle.hep_machine.specs.Words.{Name, is_among, same_name, with_name, with_names, Occurrence, Statement, names_of_occurrences, names_of, occurrences_of}
use Rattle.hep_accepted_laws.proofs.Parts.{all-each, none-append, none-when, same_index}
use Rattle.hep_source.proofs.Tests.{at-front}
use Rattle.std.proofs.lemmas.Bool.{or_parts}
use Rattle.hep_conditions.specs.Words.{at_line, repeated_after, when}

abbrev pub Has : {A : Type 0} → List A → A → Type 0
Has xs x = (i : ℕ) × (slice_get xs i ≡ Some x)

pub has_front : {A : Type 0} (xs ys : List A) (x : A) → Has xs x → Has (xs ++ ys) x
has_front xs ys x h = (h.0, at-front xs ys h.0 x h.1)

pub has_one : {A : Type 0} (x y : A) → Has (x ∷ []) y → x ≡ y
has_one x y (zero, g) = same_Some x y g
has_one x y (suc i, g) = absurd (none-some y g)

-- one element more in front
pub has_more : {A : Type 0} (z : A) (xs : List A) (x : A) → Has xs x → Has (z ∷ xs) x
has_more z xs x h = (suc h.0, h.1)

pub has_first_or : {A : Type 0} (z : A) (xs : List A) (x : A) → Has (z ∷ xs) x → (z ≡ x) ⊎ Has xs x
has_first_or z xs x (zero, g) = inl (same_Some z x g)
has_first_or z xs x (suc i, g) = inr (i, g)

pub has_behind : {A : Type 0} (xs ys : List A) (x : A) → Has ys x → Has (xs ++ ys) x
has_behind [] ys x h = h
has_behind (z ∷ zs) ys x h = let more = has_behind zs ys x h in (suc more.0, more.1)

pub has_either : {A : Type 0} (xs ys : List A) (x : A) → Has (xs ++ ys) x → Has xs x ⊎ Has ys x
has_either [] ys x h = inr h
has_either (z ∷ zs) ys x (zero, g) = inl (zero, g)
has_either (z ∷ zs) ys x (suc i, g) = by_place (has_either zs ys x (i, g)) where
  by_place : Has zs x ⊎ Has ys x → Has (z ∷ zs) x ⊎ Has ys x
  by_place (inl h) = inl (suc h.0, h.1)
  by_place (inr h) = inr h

pub image_at : {A B : Type 0} (f : A → B) (xs : List A) (i : ℕ) (x : A) → slice_get xs i ≡ Some x → slice_get (map f xs) i ≡ Some (f x)
image_at f xs i x g = slice_get-map f xs i ∙ ap (option_map f) g

pub has_map : {A B : Type 0} (f : A → B) (xs : List A) (x : A) → Has xs x → Has (map f xs) (f x)
has_map f xs x h = (h.0, image_at f xs h.0 x h.1)

-- an element of a list of images is the image of an element
pub map_at : {A B : Type 0} (f : A → B) (xs : List A) (i : ℕ) (y : B) → slice_get (map f xs) i ≡ Some y → (x : A) × (slice_get xs i ≡ Some x) × (f x ≡ y)
map_at f [] i y g = absurd (none-some y g)
map_at f (z ∷ zs) zero y g = (z, refl, same_Some (f z) y g)
map_at f (z ∷ zs) (suc i) y g = map_at f zs i y g

pub has_flat : {A B : Type 0} (f : A → List B) (xs : List A) (x : A) (y : B) → Has xs x → Has (f x) y → Has (flat_map f xs) y
has_flat f xs x y (i, g) h = at xs i g where
  at : (zs : List _) (k : ℕ) → slice_get zs k ≡ Some x → Has (flat_map f zs) y
  at [] k e = absurd (none-some x e)
  at (z ∷ zs) zero e = has_front (f z) (flat_map f zs) y (subst (λ w. Has (f w) y) (sym (same_Some z x e)) h)
  at (z ∷ zs) (suc k) e = has_behind (f z) (flat_map f zs) y (at zs k e)

pub flat_has : {A B : Type 0} (f : A → List B) (xs : List A) (y : B) → Has (flat_map f xs) y → (x : A) × Has xs x × Has (f x) y
flat_has f [] y h = absurd (none-some y h.1)
flat_has f (z ∷ zs) y h = by_place (has_either (f z) (flat_map f zs) y h) (flat_has f zs y) where
  by_place : Has (f z) y ⊎ Has (flat_map f zs) y → (Has (flat_map f zs) y → (x : _) × Has zs x × Has (f x) y) → (x : _) × Has (z ∷ zs) x × Has (f x) y
  by_place (inl h) more = (z, (zero, refl), h)
  by_place (inr h) more = let found = more h in (found.0, (suc (found.1).0, (found.1).1), found.2)

pub has_filter : {A : Type 0} (test : A → Bool) (xs : List A) (x : A) → Has xs x → test x ≡ true → Has (filter test xs) x
has_filter test xs x (i, g) e = at xs i g where
  keep : (b : Bool) (z : _) (zs : List _) → Has zs x → Has (cond b (z ∷ zs) zs) x
  keep true z zs h = (suc h.0, h.1)
  keep false z zs h = h

  here : (b : Bool) (z : _) (zs : List _) → b ≡ true → z ≡ x → Has (cond b (z ∷ zs) zs) x
  here true z zs f s = (zero, ap (λ w. Some w) s)
  here false z zs f s = absurd (true≢false (sym f))

  at : (zs : List _) (k : ℕ) → slice_get zs k ≡ Some x → Has (filter test zs) x
  at [] k f = absurd (none-some x f)
  at (z ∷ zs) zero f = here (test z) z (filter test zs) (subst (λ w. test w ≡ true) (sym (same_Some z x f)) e) (same_Some z x f)
  at (z ∷ zs) (suc k) f = keep (test z) z (filter test zs) (at zs k f)

pub find_has : {A : Type 0} (test : A → Bool) (xs : List A) (x : A) → find test xs ≡ Some x → Has xs x × (test x ≡ true)
find_has test [] x e = absurd (none-some x e)
find_has test (z ∷ zs) x e = by_test (test z) refl e (find_has test zs x) where
  by_test : (b : Bool) → test z ≡ b → cond b (Some z) (find test zs) ≡ Some x → (find test zs ≡ Some x → Has zs x × (test x ≡ true)) → Has (z ∷ zs) x × (test x ≡ true)
  by_test true f g more = ((zero, g), subst (λ w. test w ≡ true) (same_Some z x g) f)
  by_test false f g more = let h = more g in ((suc (h.0).0, (h.0).1), h.1)

pub all_has : {A : Type 0} (test : A → Bool) (xs : List A) (x : A) → list_all test xs ≡ true → Has xs x → test x ≡ true
all_has test xs x e h = all-each test xs h.0 x e h.1

-- ---- what holds of each element

pub record Each {A : Type 0} (P : A → Type 0) (xs : List A) : Type 0 where
  pub at : (x : A) → Has xs x → P x

pub each_none : {A : Type 0} {P : A → Type 0} → Each P []
each_none = record { at = λ x h. absurd (none-some x h.1) }

pub each_one : {A : Type 0} {P : A → Type 0} (x : A) → P x → Each P (x ∷ [])
each_one {P = P} x p = record { at = λ y h. subst P (has_one x y h) p }

pub each_append : {A : Type 0} {P : A → Type 0} {xs ys : List A} → Each P xs → Each P ys → Each P (xs ++ ys)
each_append {xs = xs} {ys = ys} p q = record { at = λ x h. ⊎_elim (p.at x) (q.at x) (has_either xs ys x h) }

-- ---- names

pub among_has : (x : Name) (xs : List Name) → is_among x xs ≡ true → Has xs x
among_has x [] e = absurd (true≢false (sym e))
among_has x (y ∷ ys) e = by_test (same_name x y) refl e (among_has x ys) where
  by_test : (b : Bool) → same_name x y ≡ b → (if b then true else is_among x ys) ≡ true → (is_among x ys ≡ true → Has ys x) → Has (y ∷ ys) x
  by_test true f g more = (zero, ap (λ z. Some z) (sym (equal_names x y f)))
  by_test false f g more = let h = more g in (suc h.0, h.1)

-- a name that a list has is among the list
pub has_among : (xs : List Name) (x : Name) → Has xs x → is_among x xs ≡ true
has_among [] x h = absurd (none-some x h.1)
has_among (y ∷ ys) x (zero, g) = ap (λ b. if b then true else is_among x ys) (ap (same_name x) (same_Some y x g) ∙ same_name-self x)
has_among (y ∷ ys) x (suc i, g) = behind (same_name x y) (has_among ys x (i, g)) where
  behind : (b : Bool) → is_among x ys ≡ true → (if b then true else is_among x ys) ≡ true
  behind true e = refl
  behind false e = e

-- names that are added to others

pub stays : (xs : List Name) (y x : Name) → Has xs x → Has (with_name xs y) x
stays xs y x h = by (is_among y xs) where
  by : (b : Bool) → Has (if b then xs else xs ++ y ∷ []) x
  by true = h
  by false = has_front xs (y ∷ []) x h

pub all_stay : (xs ys : List Name) (x : Name) → Has xs x → Has (with_names xs ys) x
all_stay xs [] x h = h
all_stay xs (y ∷ ys) x h = all_stay (with_name xs y) ys x (stays xs y x h)

pub is_there : (xs : List Name) (y : Name) → Has (with_name xs y) y
is_there xs y = by (is_among y xs) refl where
  by : (b : Bool) → is_among y xs ≡ b → Has (if b then xs else xs ++ y ∷ []) y
  by true e = among_has y xs e
  by false e = has_behind xs (y ∷ []) y (zero, refl)

pub all_there : (xs ys : List Name) (x : Name) → Has ys x → Has (with_names xs ys) x
all_there xs [] x h = absurd (none-some x h.1)
all_there xs (y ∷ ys) x (zero, g) = all_stay (with_name xs y) ys x (subst (λ z. Has (with_name xs y) z) (same_Some y x g) (is_there xs y))
all_there xs (y ∷ ys) x (suc i, g) = all_there (with_name xs y) ys x (i, g)

pub name_of_unit : (unit : List Statement) (p : Occurrence) → Has (occurrences_of unit) p → Has (names_of unit) p.name
name_of_unit unit p h = all_there [] (names_of_occurrences (occurrences_of unit)) p.name (has_map (λ (q : Occurrence). q.name) (occurrences_of unit) p h)

-- ---- things that agree with none before them

-- things that agree, by their keys, with none before them
abbrev pub AreNew : {X A : Type 0} → (A → A → Bool) → (X → A) → List A → List X → Type 0
AreNew agrees key before [] = Unit {0}
AreNew agrees key before (x ∷ xs) = (list_any (agrees (key x)) before ≡ false) × AreNew agrees key (key x ∷ before) xs

pub new_uses : {A : Type 0} (number : ℕ) (agrees : A → A → Bool) (before : List A) (us : List (A × ℕ)) → repeated_after number agrees before us ≡ [] → AreNew agrees (λ (u : A × ℕ). u.0) before us
new_uses number agrees before [] e = tt
new_uses number agrees before (u ∷ us) e =
    let parts = none-append (when (list_any (agrees u.0) before) (at_line number u.1)) (repeated_after number agrees (u.0 ∷ before) us) e in
    (none-when _ (at_line number u.1) parts.0, new_uses number agrees (u.0 ∷ before) us parts.1)

module _ {X A : Type 0} (agrees : A → A → Bool) (key : X → A) where
  -- a thing agrees with none before
  unlike-before : (before : List A) (xs : List X) (i : ℕ) (x : X) → AreNew agrees key before xs → slice_get xs i ≡ Some x → list_any (agrees (key x)) before ≡ false
  unlike-before before [] i x new g = absurd (none-some x g)
  unlike-before before (y ∷ ys) zero x new g = subst (λ z. list_any (agrees (key z)) before ≡ false) (same_Some y x g) new.0
  unlike-before before (y ∷ ys) (suc i) x new g = (or_parts (agrees (key x) (key y)) (list_any (agrees (key x)) before) (unlike-before (key y ∷ before) ys i x new.1 g)).1

  -- two things don't agree: one of these, and one behind them
  unlike : (before : List A) (xs ys : List X) (i j : ℕ) (x y : X) → AreNew agrees key before (xs ++ ys) → slice_get xs i ≡ Some x → slice_get ys j ≡ Some y → agrees (key y) (key x) ≡ false
  unlike before [] ys i j x y new gx gy = absurd (none-some x gx)
  unlike before (z ∷ zs) ys zero j x y new gx gy =
      let h = has_behind zs ys y (j, gy) in
      subst (λ w. agrees (key y) (key w) ≡ false) (same_Some z x gx) (or_parts (agrees (key y) (key z)) (list_any (agrees (key y)) before) (unlike-before (key z ∷ before) (zs ++ ys) h.0 y new.1 h.1)).0
  unlike before (z ∷ zs) ys (suc i) j x y new gx gy = unlike (key z ∷ before) zs ys i j x y new.1 gx gy

  new_behind : (before : List A) (xs ys : List X) → AreNew agrees key before (xs ++ ys) → (others : List A) × AreNew agrees key others ys
  new_behind before [] ys new = (before, new)
  new_behind before (x ∷ xs) ys new = new_behind (key x ∷ before) xs ys new.1

  unlike-each : {S : Type 0} (f : S → List X) (before : List A) (ss : List S) (j k : ℕ) (s t : S) (x y : X) → AreNew agrees key before (flat_map f ss) → j < k → slice_get ss j ≡ Some s → slice_get ss k ≡ Some t → Has (f s) x → Has (f t) y → agrees (key y) (key x) ≡ false
  unlike-each f before [] j k s t x y new less js kt hx hy = absurd (none-some s js)
  unlike-each f before (r ∷ rs) j zero s t x y new less js kt hx hy = absurd (omega arith)
  unlike-each f before (r ∷ rs) zero (suc k) s t x y new less js kt hx hy =
      let behind = has_flat f rs t y (k, kt) hy in
      unlike before (f r) (flat_map f rs) hx.0 behind.0 x y new (ap (λ w. slice_get (f w) hx.0) (same_Some r s js) ∙ hx.1) behind.1
  unlike-each f before (r ∷ rs) (suc j) (suc k) s t x y new less js kt hx hy =
      let more = new_behind before (f r) (flat_map f rs) new in
      unlike-each f more.0 rs j k s t x y more.1 (omega arith) js kt hx hy

  -- things that agree are of one element of a list
  pub one_source : {S : Type 0} (f : S → List X) (ss : List S) (j k : ℕ) (s t : S) (x y : X) → AreNew agrees key [] (flat_map f ss) → agrees (key x) (key y) ≡ true → agrees (key y) (key x) ≡ true → slice_get ss j ≡ Some s → slice_get ss k ≡ Some t → Has (f s) x → Has (f t) y → j ≡ k
  one_source f ss j k s t x y new xy yx js kt hx hy =
      same_index j k (λ less. true≢false (sym yx ∙ unlike-each f [] ss j k s t x y new less js kt hx hy)) (λ less. true≢false (sym xy ∙ unlike-each f [] ss k j t s y x new less kt js hy hx))

  each_alone : (before : List A) (xs : List X) → AreNew agrees key before xs → AreNew agrees key before (flat_map (λ x. x ∷ []) xs)
  each_alone before [] new = tt
  each_alone before (x ∷ xs) new = (new.0, each_alone (key x ∷ before) xs new.1)

  -- and stand in one place
  pub one_place : (xs : List X) (i j : ℕ) (x y : X) → AreNew agrees key [] xs → agrees (key x) (key y) ≡ true → agrees (key y) (key x) ≡ true → slice_get xs i ≡ Some x → slice_get xs j ≡ Some y → i ≡ j
  one_place xs i j x y new xy yx ix jy = one_source (λ x. x ∷ []) xs i j x y x y (each_alone [] xs new) xy yx ix jy (0, refl) (0, refl)
