-- How far two lists in runs are the same.
use Rattle.std.proofs.Common.{◌≡◌, ◌≤◌, ◌<◌, ℕ, zero, suc, ◌+◌, ◌-◌, min, Bool, true, false, not, ◌&&◌, ◌||◌, nat_lt, nat_eq, List, [], ◌∷◌, ◌++◌, take, drop, length, map, get_or, append-nil, append_assoc, refl, ap, sym, ◌∙◌, arith, true≢false, if◌then◌else◌, subst, Option, Some, None}
use Rattle.std.proofs.lemmas.Bool.Decides.{nat_tests}
use Rattle.std.proofs.lemmas.List.{take-append-drop, take_more, drop_more, drop_all}
use Rattle.hep_machine.specs.Words.{ValueType, Integer, Logical, same_logical}
use Rattle.hep_conditions.specs.Words.{same_type, same_declared}
use Rattle.hep_storage.specs.RunItems.{repeat_before, agree_as_far}
use Rattle.hep_storage.specs.Runs.{alike, positions_in, IsWithin, IsPlace, first_places, later_places, front, rest, after, heads_differ}
use Rattle.hep_storage.specs.declared.runs.RunPlace.{RunPlace}
use Rattle.hep_storage.specs.declared.runs.Position.{Position}
use Rattle.hep_storage.specs.declared.runs.PositionRun.{PositionRun}
use Rattle.hep_source.proofs.NameTests.{equal_logicals, same_logical-self}
use Rattle.std.proofs.lemmas.Bool.{and_parts}
use Rattle.hep_conditions.proofs.Typing.{equal_types}

-- ---- positions are alike where they are the same

type-self : (t : ValueType) → same_type t t ≡ true
type-self Integer = refl
type-self Logical = refl

declared-self : (t : Option ValueType) → same_declared t t ≡ true
declared-self None = refl
declared-self (Some t) = type-self t

pub alike-self : (p : Position) → alike p p ≡ true
alike-self p = rw (same_logical-self p.asynchronous, declared-self p.value_type) refl

declared-equal : (t u : Option ValueType) → same_declared t u ≡ true → t ≡ u
declared-equal None None h = refl
declared-equal (Some t) (Some u) h = ap Some (equal_types t u h)
declared-equal None (Some u) h = absurd (true≢false (sym h))
declared-equal (Some t) None h = absurd (true≢false (sym h))

pub alike-equal : (p q : Position) → alike p q ≡ true → p ≡ q
alike-equal p q h =
    let parts = and_parts (same_logical p.asynchronous q.asynchronous) (same_declared p.value_type q.value_type) h in
    let a = equal_logicals p.asynchronous q.asynchronous parts.0 in
    let t = declared-equal p.value_type q.value_type parts.1 in
    λ i. record { asynchronous = a i; value_type = t i }

-- ---- what stands several times

pub map-repeat : {A B : Type 0} (f : A → B) (n : ℕ) (x : A) (xs : List A) → map f (repeat_before n x xs) ≡ repeat_before n (f x) (map f xs)
map-repeat f zero x xs = refl
map-repeat f (suc n) x xs = ap (λ ys. f x ∷ ys) (map-repeat f n x xs)

pub repeat-append : {A : Type 0} (n : ℕ) (x : A) (xs : List A) → repeat_before n x xs ≡ repeat_before n x [] ++ xs
repeat-append zero x xs = refl
repeat-append (suc n) x xs = ap (λ ys. x ∷ ys) (repeat-append n x xs)

pub repeat-parts : {A : Type 0} (m n : ℕ) (x : A) (xs : List A) → repeat_before (m + n) x xs ≡ repeat_before m x (repeat_before n x xs)
repeat-parts zero n x xs = let e : 0 + n ≡ n = omega arith in rw e refl
repeat-parts (suc m) n x xs = let e : suc m + n ≡ suc (m + n) = omega arith in rw e (ap (λ ys. x ∷ ys) (repeat-parts m n x xs))

pub positions-append : (rs qs : List PositionRun) → positions_in (rs ++ qs) ≡ positions_in rs ++ positions_in qs
positions-append [] qs = refl
positions-append (r ∷ rs) qs =
    ap (repeat_before r.count r.position) (positions-append rs qs)
    ∙ (repeat-append r.count r.position (positions_in rs ++ positions_in qs)
    ∙ (sym (append_assoc (repeat_before r.count r.position []) (positions_in rs) (positions_in qs))
    ∙ ap (λ ps. ps ++ positions_in qs) (sym (repeat-append r.count r.position (positions_in rs)))))

-- ---- places

first-none : (rs : List PositionRun) → first_places rs 0 ≡ []
first-none [] = refl
first-none (r ∷ rs) = refl

-- so many places of a run, and so many more
first-more : (r : PositionRun) (rs : List PositionRun) (m n : ℕ) → first_places (r ∷ rs) (m + n) ≡ first_places (r ∷ rs) m ++ repeat_before n r.position []
first-more r rs m n = repeat-parts m n r.position [] ∙ repeat-append m r.position (repeat_before n r.position [])

parts-of : (rs : List PositionRun) (n : ℕ) → IsWithin rs n → positions_in rs ≡ first_places rs n ++ later_places rs n
parts-of [] n h = refl
parts-of (r ∷ rs) n h =
    let e : r.count ≡ n + (r.count - n) = omega arith in
    ap (λ k. repeat_before k r.position (positions_in rs)) e
    ∙ (repeat-parts n (r.count - n) r.position (positions_in rs) ∙ repeat-append n r.position (later_places (r ∷ rs) n))

-- what stands before a place, and from it on, is all
pub front-rest : (p : RunPlace) (rs : List PositionRun) → IsPlace p rs → positions_in rs ≡ front p rs ++ rest p rs
front-rest p rs h =
    ap positions_in (sym (take-append-drop p.run rs))
    ∙ (positions-append (take p.run rs) (drop p.run rs)
    ∙ (ap (λ ps. positions_in (take p.run rs) ++ ps) (parts-of (drop p.run rs) p.before h.1)
    ∙ sym (append_assoc (positions_in (take p.run rs)) (first_places (drop p.run rs) p.before) (later_places (drop p.run rs) p.before))))

within-none : (rs : List PositionRun) → IsWithin rs 0
within-none [] = refl
within-none (r ∷ rs) = omega arith

module _ (p : RunPlace) (rs : List PositionRun) (r d : PositionRun) (step : ℕ) where
  -- further places of a run
  pub after-is : p.run < length rs → r ≡ get_or rs p.run d → p.before + step ≤ r.count → IsPlace (after p step r.count) rs
  after-is lt at fits = by (nat_eq (p.before + step) r.count)
    where
      here : drop p.run rs ≡ r ∷ drop (p.run + 1) rs
      here = drop_more rs p.run d lt ∙ ap (λ q. q ∷ drop (p.run + 1) rs) (sym at)

      by : (b : Bool) → IsPlace (if b then record { run = p.run + 1; before = 0 } else record { run = p.run; before = p.before + step }) rs
      by true = (omega arith, within-none (drop (p.run + 1) rs))
      by false = (omega arith, rw here fits)

  pub front-after : p.run < length rs → r ≡ get_or rs p.run d → front (after p step r.count) rs ≡ front p rs ++ repeat_before step r.position []
  front-after lt at = by (nat_eq (p.before + step) r.count) refl
    where
      here : drop p.run rs ≡ r ∷ drop (p.run + 1) rs
      here = drop_more rs p.run d lt ∙ ap (λ q. q ∷ drop (p.run + 1) rs) (sym at)

      one_more : take (p.run + 1) rs ≡ take p.run rs ++ r ∷ []
      one_more = take_more rs p.run d lt ∙ ap (λ q. take p.run rs ++ q ∷ []) (sym at)

      further : positions_in (take p.run rs) ++ first_places (r ∷ drop (p.run + 1) rs) (p.before + step) ≡ front p rs ++ repeat_before step r.position []
      further =
          ap (λ ps. positions_in (take p.run rs) ++ ps) (first-more r (drop (p.run + 1) rs) p.before step)
          ∙ (sym (append_assoc (positions_in (take p.run rs)) (first_places (r ∷ drop (p.run + 1) rs) p.before) (repeat_before step r.position []))
          ∙ ap (λ qs. (positions_in (take p.run rs) ++ first_places qs p.before) ++ repeat_before step r.position []) (sym here))

      by : (b : Bool) → nat_eq (p.before + step) r.count ≡ b → front (if b then record { run = p.run + 1; before = 0 } else record { run = p.run; before = p.before + step }) rs ≡ front p rs ++ repeat_before step r.position []
      by true e =
          let n : p.before + step ≡ r.count = grind (arith, nat_tests) in
          ap (λ ps. positions_in (take (p.run + 1) rs) ++ ps) (first-none (drop (p.run + 1) rs))
          ∙ (append-nil (positions_in (take (p.run + 1) rs))
          ∙ (ap positions_in one_more
          ∙ (positions-append (take p.run rs) (r ∷ [])
          ∙ (ap (λ k. positions_in (take p.run rs) ++ repeat_before k r.position []) (sym n) ∙ further))))
      by false e = ap (λ qs. positions_in (take p.run rs) ++ first_places qs (p.before + step)) here ∙ further

-- ---- a turn

same-step : (x y : Position) (n : ℕ) → (nat_lt 0 n && not (alike x y)) ≡ false → repeat_before n x [] ≡ repeat_before n y []
same-step x y zero h = refl
same-step x y (suc n) h = ap (λ p. repeat_before (suc n) p []) (alike-equal x y (turned (alike x y) h))
  where
    turned : (b : Bool) → (nat_lt 0 (suc n) && not b) ≡ false → b ≡ true
    turned true g = refl
    turned false g = absurd (true≢false (both (nat_lt 0 (suc n)) (grind (arith, nat_tests)) g))
      where
        both : (b : Bool) → b ≡ true → (b && true) ≡ false → true ≡ false
        both true e f = f
        both false e f = sym e

-- the places that both lists have before further places
still-same : (p q : RunPlace) (xs ys : List PositionRun) (x y d e : PositionRun) (step : ℕ) → p.run < length xs → q.run < length ys → x ≡ get_or xs p.run d → y ≡ get_or ys q.run e
    → (nat_lt 0 step && not (alike x.position y.position)) ≡ false → front p xs ≡ front q ys → front (after p step x.count) xs ≡ front (after q step y.count) ys
still-same p q xs ys x y d e step lt mt at bt same h =
    front-after p xs x d step lt at
    ∙ (ap (λ ps. ps ++ repeat_before step x.position []) h
    ∙ (ap (λ ps. front q ys ++ ps) (same-step x.position y.position step same) ∙ sym (front-after q ys y e step mt bt)))

within-here : (p : RunPlace) (rs : List PositionRun) (d : PositionRun) → p.run < length rs → IsPlace p rs → p.before ≤ (get_or rs p.run d).count
within-here p rs d lt h = subst (λ qs. IsWithin qs p.before) (drop_more rs p.run d lt) h.1

-- so many places further in both lists
pub meet-turn : (p q p_next q_next : RunPlace) (xs ys : List PositionRun) (d e : PositionRun) (step : ℕ) (differs : Bool) → p.run < length xs → q.run < length ys
    → IsPlace p xs × IsPlace q ys × (front p xs ≡ front q ys)
    → step ≡ min ((get_or xs p.run d).count - p.before) ((get_or ys q.run e).count - q.before)
    → differs ≡ (nat_lt 0 step && not (alike (get_or xs p.run d).position (get_or ys q.run e).position)) → differs ≡ false
    → p_next ≡ after p step (get_or xs p.run d).count → q_next ≡ after q step (get_or ys q.run e).count
    → IsPlace p_next xs × IsPlace q_next ys × (front p_next xs ≡ front q_next ys)
meet-turn p q p_next q_next xs ys d e step differs lt mt h k t f n m =
    let x = get_or xs p.run d in
    let y = get_or ys q.run e in
    let a = within-here p xs d lt h.0 in
    let b = within-here q ys e mt h.1 in (
      subst (λ r. IsPlace r xs) (sym n) (after-is p xs x d step lt refl (omega arith)),
      subst (λ r. IsPlace r ys) (sym m) (after-is q ys y e step mt refl (omega arith)),
      ap (λ r. front r xs) n ∙ (still-same p q xs ys x y d e step lt mt refl refl (sym t ∙ f) h.2 ∙ sym (ap (λ r. front r ys) m)),
    )

differ-heads : (x y : Position) (m n : ℕ) (xs ys : List Position) → 0 < m → 0 < n → not (alike x y) ≡ true → heads_differ (repeat_before m x xs) (repeat_before n y ys) ≡ true
differ-heads x y zero n xs ys h k e = absurd (omega arith)
differ-heads x y (suc m) zero xs ys h k e = absurd (omega arith)
differ-heads x y (suc m) (suc n) xs ys h k e = e

-- both lists go on otherwise
pub parted-here : (p q : RunPlace) (xs ys : List PositionRun) (d e : PositionRun) (step : ℕ) (differs : Bool) → p.run < length xs → q.run < length ys
    → step ≡ min ((get_or xs p.run d).count - p.before) ((get_or ys q.run e).count - q.before)
    → differs ≡ (nat_lt 0 step && not (alike (get_or xs p.run d).position (get_or ys q.run e).position)) → differs ≡ true → heads_differ (rest p xs) (rest q ys) ≡ true
parted-here p q xs ys d e step differs lt mt k t f =
    let x = get_or xs p.run d in
    let y = get_or ys q.run e in
    let parts = and_parts (nat_lt 0 step) (not (alike x.position y.position)) (sym t ∙ f) in
    let some : 0 < step = grind (arith, nat_tests, parts.0) in
    ap (λ rs. heads_differ (later_places rs p.before) (rest q ys)) (drop_more xs p.run d lt)
    ∙ (ap (λ rs. heads_differ (later_places (x ∷ drop (p.run + 1) xs) p.before) (later_places rs q.before)) (drop_more ys q.run e mt)
    ∙ differ-heads x.position y.position (x.count - p.before) (y.count - q.before) (positions_in (drop (p.run + 1) xs)) (positions_in (drop (q.run + 1) ys)) (omega arith) (omega arith) parts.1)

-- ---- the whole

agree-after : (ps cs ds : List Position) → agree_as_far alike (ps ++ cs) (ps ++ ds) ≡ agree_as_far alike cs ds
agree-after [] cs ds = refl
agree-after (p ∷ ps) cs ds = rw (alike-self p, agree-after ps cs ds) refl

agree-none : (cs : List Position) → agree_as_far alike cs [] ≡ true
agree-none [] = refl
agree-none (a ∷ cs) = refl

differ-disagree : (cs ds : List Position) → heads_differ cs ds ≡ true → agree_as_far alike cs ds ≡ false
differ-disagree [] ds h = absurd (true≢false (sym h))
differ-disagree (a ∷ cs) [] h = absurd (true≢false (sym h))
differ-disagree (a ∷ cs) (b ∷ ds) h = by (alike a b) h
  where
    by : (t : Bool) → not t ≡ true → (t && agree_as_far alike cs ds) ≡ false
    by true g = absurd (true≢false (sym g))
    by false g = refl

pub rest-none : (p : RunPlace) (rs : List PositionRun) → length rs ≤ p.run → rest p rs ≡ []
rest-none p rs h = ap (λ qs. later_places qs p.before) (drop_all p.run rs h)

-- two lists agree where one of them ends before they part
pub agreed : (p q : RunPlace) (xs ys : List PositionRun) → IsPlace p xs → IsPlace q ys → front p xs ≡ front q ys
    → (p.run < length xs → q.run < length ys → heads_differ (rest p xs) (rest q ys) ≡ true)
    → (nat_eq p.run (length xs) || nat_eq q.run (length ys)) ≡ agree_as_far alike (positions_in xs) (positions_in ys)
agreed p q xs ys is at same parted = by (nat_eq p.run (length xs)) (nat_eq q.run (length ys)) refl refl ∙ sym whole
  where
    whole : agree_as_far alike (positions_in xs) (positions_in ys) ≡ agree_as_far alike (rest p xs) (rest q ys)
    whole =
        ap (λ ps. agree_as_far alike ps (positions_in ys)) (front-rest p xs is)
        ∙ (ap (λ ps. agree_as_far alike (front p xs ++ rest p xs) ps) (front-rest q ys at ∙ ap (λ ps. ps ++ rest q ys) (sym same))
        ∙ agree-after (front p xs) (rest p xs) (rest q ys))

    by : (a b : Bool) → nat_eq p.run (length xs) ≡ a → nat_eq q.run (length ys) ≡ b → (a || b) ≡ agree_as_far alike (rest p xs) (rest q ys)
    by true b e f =
        let k : length xs ≤ p.run = grind (arith, nat_tests) in
        sym (ap (λ ps. agree_as_far alike ps (rest q ys)) (rest-none p xs k))
    by false true e f =
        let k : length ys ≤ q.run = grind (arith, nat_tests) in
        sym (ap (agree_as_far alike (rest p xs)) (rest-none q ys k) ∙ agree-none (rest p xs))
    by false false e f =
        let i = is.0 in
        let j = at.0 in
        let k : p.run < length xs = grind (arith, nat_tests) in
        let l : q.run < length ys = grind (arith, nat_tests) in
        sym (differ-disagree (rest p xs) (rest q ys) (parted k l))

-- ---- how many places

pub length-repeat : {A : Type 0} (n : ℕ) (x : A) (xs : List A) → length (repeat_before n x xs) ≡ n + length xs
length-repeat zero x xs = omega arith
length-repeat (suc n) x xs = let e = length-repeat n x xs in omega (arith, e)

pub count-turn : (rs : List PositionRun) (i : ℕ) (d : PositionRun) (n count total : ℕ) → i < length rs → count + length (positions_in (drop i rs)) ≡ total → n ≡ (get_or rs i d).count
    → count + n + length (positions_in (drop (i + 1) rs)) ≡ total
count-turn rs i d n count total lt h e =
    let r = get_or rs i d in
    let step : length (positions_in (drop i rs)) ≡ r.count + length (positions_in (drop (i + 1) rs)) = ap (λ qs. length (positions_in qs)) (drop_more rs i d lt) ∙ length-repeat r.count r.position (positions_in (drop (i + 1) rs)) in
    omega (arith, step, h, e)
