-- Which activations are held.
use Rattle.std.proofs.Common.{◌≡◌, ◌⊎◌, inl, inr, ℕ, zero, suc, ◌<◌, ◌≤◌, Bool, true, false, List, [], ◌∷◌, ◌++◌, length, Option, Some, None, refl, sym, ap, ◌∙◌, subst, arith, ◌||◌, ◌↔◌, if◌then◌else◌, slice_get, nat_eq}
use Rattle.std.specs.Option.{option_map_or}
use Rattle.std.specs.List.{flat_map}
use Rattle.std.proofs.lemmas.Bool.{eq-eqb, false≢true, or_left, or_right, or_cases}
use Rattle.std.proofs.lemmas.Bool.Decides.{eqb_tells}
use Rattle.std.proofs.lemmas.List.Folds.{list_any-append}
use Rattle.std.proofs.lemmas.Option.{none-some, same_Some}
use Rattle.hep_machine.specs.Words.{IsOnStack, HasHeldChild, activations_on, is_held, with_ancestry, with_ancestries, run, Process, State, Units, numbered, parent_of, is_number_among}
use Rattle.hep_machine.proofs.Ages.{IsAged, aged, older_parent, on_stack_made}

-- ---- numbers among others

-- a number is among two lists where it is among the first or among the second
pub among-append : (a : ℕ) (xs ys : List ℕ) → is_number_among a (xs ++ ys) ≡ (is_number_among a xs || is_number_among a ys)
among-append a xs ys = list_any-append (nat_eq a) xs ys

pub among-head : (a : ℕ) (xs : List ℕ) → is_number_among a (a ∷ xs) ≡ true
among-head a xs = or_left (nat_eq a a) (is_number_among a xs) (eq-eqb a a refl)

among-tail : (a b : ℕ) (xs : List ℕ) → is_number_among a xs ≡ true → is_number_among a (b ∷ xs) ≡ true
among-tail a b xs h = or_right (nat_eq a b) (is_number_among a xs) h

pub among-cases : (a b : ℕ) (xs : List ℕ) → is_number_among a (b ∷ xs) ≡ true → (a ≡ b) ⊎ (is_number_among a xs ≡ true)
among-cases a b xs h = elim (or_cases (nat_eq a b) (is_number_among a xs) h) [
  | inl same ↦ elim (eqb_tells a b) [ inl t ↦ inl t.1 | inr t ↦ absurd cc ]
  | inr rest_after ↦ inr rest_after
]

-- ---- ancestries

-- activation a is the parent of one of these
abbrev HasChildAmong : State → ℕ → List ℕ → Type 0
HasChildAmong s a xs = (c : ℕ) × (is_number_among c xs ≡ true) × (parent_of s c ≡ Some a)

-- the parent of each of these is one of them, or is the activation b
abbrev IsClosedBut : State → ℕ → List ℕ → Type 0
IsClosedBut s b xs = (c a : ℕ) → is_number_among c xs ≡ true → parent_of s c ≡ Some a → (is_number_among a xs ≡ true) ⊎ (a ≡ b)

abbrev IsClosed : State → List ℕ → Type 0
IsClosed s xs = (c a : ℕ) → is_number_among c xs ≡ true → parent_of s c ≡ Some a → is_number_among a xs ≡ true

-- an activation is among these already, or it has no parent, or it has one
each_ancestry : (P : List ℕ → Type 0) (s : State) (n a : ℕ) (held : List ℕ) → (is_number_among a held ≡ true → P held) → (parent_of s a ≡ None → P (a ∷ held)) → ((b : ℕ) → parent_of s a ≡ Some b → P (with_ancestry s n b (a ∷ held))) → P (with_ancestry s (suc n) a held)
each_ancestry P s n a held h k l = by_test (is_number_among a held) refl (parent_of s a) refl where
  by_test : (t : Bool) → is_number_among a held ≡ t → (o : Option ℕ) → parent_of s a ≡ o → P (option_map_or (λ b. with_ancestry s n b (a ∷ held)) (if t then None else o) (if t then held else a ∷ held))
  by_test true e o f = h e
  by_test false e None f = k f
  by_test false e (Some b) f = l b f

kept : (s : State) (n a : ℕ) (held : List ℕ) (x : ℕ) → is_number_among x held ≡ true → is_number_among x (with_ancestry s n a held) ≡ true
kept s zero a held x h = h
kept s (suc n) a held x h =
    let more = among-tail x a held h in
    each_ancestry (λ xs. is_number_among x xs ≡ true) s n a held (λ e. h) (λ e. more) (λ b e. kept s n b (a ∷ held) x more)

itself : (s : State) (n a : ℕ) (held : List ℕ) → 1 ≤ n → is_number_among a (with_ancestry s n a held) ≡ true
itself s zero a held le = absurd (omega arith)
itself s (suc n) a held le =
    each_ancestry (λ xs. is_number_among a xs ≡ true) s n a held (λ e. e) (λ e. among-head a held) (λ b e. kept s n b (a ∷ held) a (among-head a held))

-- what is there was there, is the activation, or is the parent of what is there
found : (s : State) (n a : ℕ) (held : List ℕ) (x : ℕ) → is_number_among x (with_ancestry s n a held) ≡ true → (is_number_among x held ≡ true) ⊎ ((x ≡ a) ⊎ HasChildAmong s x (with_ancestry s n a held))
found s zero a held x = λ h. inl h
found s (suc n) a held x = each_ancestry (λ xs. is_number_among x xs ≡ true → (is_number_among x held ≡ true) ⊎ ((x ≡ a) ⊎ HasChildAmong s x xs)) s n a held (λ e h. inl h) (λ e h. new (a ∷ held) h) (λ b e h.
    elim (found s n b (a ∷ held) x h) [
      | inl here ↦ new (with_ancestry s n b (a ∷ held)) here
      | inr above ↦ elim above [
        | inl same ↦ inr (inr (a, kept s n b (a ∷ held) a (among-head a held), e ∙ ap (λ m. Some m) (sym same)))
        | inr child ↦ inr (inr child)
      ]
    ]) where
      new : (xs : List ℕ) → is_number_among x (a ∷ held) ≡ true → (is_number_among x held ≡ true) ⊎ ((x ≡ a) ⊎ HasChildAmong s x xs)
      new xs h = elim (among-cases x a held h) [
        | inl same ↦ inr (inl same)
        | inr before ↦ inl before
      ]

-- an ancestry that is long enough leaves no parent out
closed : (s : State) (n b : ℕ) (held : List ℕ) → IsAged s → b ≤ n → IsClosedBut s b held → IsClosed s (with_ancestry s n b held)
closed s zero b held aged le h = all where
  too_old : (c a : ℕ) → a ≡ b → (1 ≤ a) × (a < c) × (c ≤ length s.activations) → ⊥
  too_old c a same older = omega (arith, same, older.0, le)

  all : IsClosed s held
  all c a k e = elim (h c a k e) [
    | inl here ↦ here
    | inr same ↦ absurd (too_old c a same (older_parent s c a aged e))
  ]
closed s (suc n) b held aged le h = each_ancestry (λ xs. IsClosed s xs) s n b held already (λ e. without e) (λ p e. closed s n p (b ∷ held) aged (below p e) (with_one p e)) where
  below : (p : ℕ) → parent_of s b ≡ Some p → p ≤ n
  below p e = let older = older_parent s b p aged e in omega arith

  already : is_number_among b held ≡ true → IsClosed s held
  already e c a k f = elim (h c a k f) [
    | inl here ↦ here
    | inr same ↦ subst (λ m. is_number_among m held ≡ true) (sym same) e
  ]

  -- a parent of what was there
  before : (c a : ℕ) → is_number_among c held ≡ true → parent_of s c ≡ Some a → is_number_among a (b ∷ held) ≡ true
  before c a k f = elim (h c a k f) [
    | inl here ↦ among-tail a b held here
    | inr same ↦ subst (λ m. is_number_among m (b ∷ held) ≡ true) (sym same) (among-head b held)
  ]

  without : parent_of s b ≡ None → IsClosed s (b ∷ held)
  without e c a k f = elim (among-cases c b held k) [
    | inl same ↦ absurd (none-some a (sym e ∙ subst (λ m. parent_of s m ≡ Some a) same f))
    | inr there ↦ before c a there f
  ]

  with_one : (p : ℕ) → parent_of s b ≡ Some p → IsClosedBut s p (b ∷ held)
  with_one p e c a k f = elim (among-cases c b held k) [
    | inl same ↦ inr (same_Some a p (sym (subst (λ m. parent_of s m ≡ Some a) same f) ∙ e))
    | inr there ↦ inl (before c a there f)
  ]

-- ---- the ancestries of some activations

all_kept : (s : State) (held ns : List ℕ) (x : ℕ) → is_number_among x held ≡ true → is_number_among x (with_ancestries s held ns) ≡ true
all_kept s held [] x h = h
all_kept s held (a ∷ ns) x h = all_kept s (with_ancestry s a a held) ns x (kept s a a held x h)

each_there : (s : State) (held ns : List ℕ) (x : ℕ) → 1 ≤ x → is_number_among x ns ≡ true → is_number_among x (with_ancestries s held ns) ≡ true
each_there s held [] x le h = absurd cc
each_there s held (a ∷ ns) x le h = elim (among-cases x a ns h) [
  | inl same ↦
      let le' = subst (λ m. 1 ≤ m) same le in
      all_kept s (with_ancestry s a a held) ns x (subst (λ m. is_number_among m (with_ancestry s a a held) ≡ true) (sym same) (itself s a a held le'))
  | inr rest_after ↦ each_there s (with_ancestry s a a held) ns x le rest_after
]

all_found : (s : State) (held ns : List ℕ) (x : ℕ) → is_number_among x (with_ancestries s held ns) ≡ true → (is_number_among x held ≡ true) ⊎ ((is_number_among x ns ≡ true) ⊎ HasChildAmong s x (with_ancestries s held ns))
all_found s held [] x h = inl h
all_found s held (a ∷ ns) x h =
    let more = with_ancestry s a a held in
    elim (all_found s more ns x h) [
      | inl here ↦ elim (found s a a held x here) [
        | inl before ↦ inl before
        | inr above ↦ elim above [
          | inl same ↦ inr (inl (or_left (nat_eq x a) (is_number_among x ns) (eq-eqb x a same)))
          | inr child ↦ inr (inr (child.0, all_kept s more ns child.0 child.1, child.2))
        ]
      ]
      | inr rest_after ↦ elim rest_after [
        | inl on ↦ inr (inl (among-tail x a ns on))
        | inr child ↦ inr (inr child)
      ]
    ]

all_closed : (s : State) (held ns : List ℕ) → IsAged s → IsClosed s held → IsClosed s (with_ancestries s held ns)
all_closed s held [] aged h = h
all_closed s held (a ∷ ns) aged h =
    all_closed s (with_ancestry s a a held) ns aged (closed s a a held aged (omega arith) (λ c b k e. inl (h c b k e)))

-- ---- the activations on stacks

pub on_some : (a : ℕ) (qs : List Process) → is_number_among a (flat_map activations_on qs) ≡ true → (i : ℕ) × (q : Process) × (slice_get qs i ≡ Some q) × (is_number_among a (activations_on q) ≡ true)
on_some a [] h = absurd cc
on_some a (q ∷ qs) h =
    elim (or_cases (is_number_among a (activations_on q)) (is_number_among a (flat_map activations_on qs)) (sym (among-append a (activations_on q) (flat_map activations_on qs)) ∙ h)) [
      | inl here ↦ (0, q, refl, here)
      | inr rest_after ↦ let found = on_some a qs rest_after in (suc found.0, found.1, found.2, found.3)
    ]

pub some_on : (a : ℕ) (qs : List Process) (i : ℕ) (q : Process) → slice_get qs i ≡ Some q → is_number_among a (activations_on q) ≡ true → is_number_among a (flat_map activations_on qs) ≡ true
some_on a [] i q e h = absurd (none-some q e)
some_on a (r ∷ rs) zero q e h =
    let here = subst (λ (p : Process). is_number_among a (activations_on p) ≡ true) (sym (same_Some r q e)) h in
    among-append a (activations_on r) (flat_map activations_on rs) ∙ or_left (is_number_among a (activations_on r)) (is_number_among a (flat_map activations_on rs)) here
some_on a (r ∷ rs) (suc i) q e h =
    among-append a (activations_on r) (flat_map activations_on rs) ∙ or_right (is_number_among a (activations_on r)) (is_number_among a (flat_map activations_on rs)) (some_on a rs i q e h)

from_stack : (s : State) (a : ℕ) → is_number_among a (flat_map activations_on s.processes) ≡ true → IsOnStack s a
from_stack s a h = let found = on_some a s.processes h in (suc found.0, found.1, found.2, found.3)

stack_among : (a : ℕ) (qs : List Process) (p : ℕ) (q : Process) → numbered qs p ≡ Some q → is_number_among a (activations_on q) ≡ true → is_number_among a (flat_map activations_on qs) ≡ true
stack_among a qs zero q e h = absurd (none-some q e)
stack_among a qs (suc i) q e h = some_on a qs i q e h

-- ---- held activations

held_from : (s : State) (a : ℕ) → is_held s a ≡ true → IsOnStack s a ⊎ HasHeldChild s a
held_from s a h = elim (all_found s [] (flat_map activations_on s.processes) a h) [
  | inl nowhere ↦ absurd (false≢true nowhere)
  | inr there ↦ elim there [
    | inl on ↦ inl (from_stack s a on)
    | inr child ↦ inr child
  ]
]

none_closed : (s : State) → IsClosed s []
none_closed s c a k e = absurd (false≢true k)

to_held : (s : State) (a : ℕ) → IsAged s → IsOnStack s a ⊎ HasHeldChild s a → is_held s a ≡ true
to_held s a aged (inl on) =
    let made = on_stack_made s a aged on in
    each_there s [] (flat_map activations_on s.processes) a made.0 (stack_among a s.processes on.0 on.1 on.2 on.3)
to_held s a aged (inr child) = all_closed s [] (flat_map activations_on s.processes) aged (none_closed s) child.0 a child.1 child.2

pub held_is : (program : Units) (ps : List ℕ) (a : ℕ) → (is_held (run program ps) a ≡ true) ↔ (IsOnStack (run program ps) a ⊎ HasHeldChild (run program ps) a)
held_is program ps a = (held_from (run program ps) a, to_held (run program ps) a (aged program ps))
