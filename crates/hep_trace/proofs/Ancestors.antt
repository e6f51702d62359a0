-- What holds of an activation with its ancestry, and that a turn gives back no other frames than those of its process's top activation and
-- its ancestry.
use Rattle.std.proofs.Common.{◌≡◌, inl, inr, ℕ, zero, suc, ◌+◌, ◌-◌, ◌≤◌, ◌&&◌, Bool, true, false, true≢false, not, List, [], ◌∷◌, ◌++◌, drop, length, length-set, reverse, Option, Some, None, refl, sym, ap, ◌∙◌, subst, arith, nat_eq, slice_get}
use Rattle.std.specs.List.{filter}
use Rattle.std.specs.Option.{option_map_or}
use Rattle.std.proofs.lemmas.Bool.{cases_Bool, eqb-false, eqb-true, or_right}
use Rattle.std.proofs.lemmas.Bool.Decides.{eqb_tells}
use Rattle.std.proofs.lemmas.Option.{none-some, same_Some}
use Rattle.hep_binding.proofs.Calls.{set-numbered}
use Rattle.hep_layout.proofs.HeldFrames.{held-made}
use Rattle.hep_layout.proofs.Stacks.{news, top-numbered}
use Rattle.hep_machine.specs.Words.{Activation, IsOnStack, Level, Process, State, Units, activations_on, is_held, is_number_among, living, next_activation, numbered, parent_of, run, step, top_of, with_numbered}
use Rattle.hep_machine.proofs.Ages.{IsAged, aged, older_parent}
use Rattle.hep_machine.proofs.Changes.{Change, HasStepped, calls, creates, faults, leaves, moves, resumes, step_changes, stops, top_in}
use Rattle.hep_machine.proofs.Held.{among-cases, among-head, held_is}
use Rattle.hep_machine.proofs.Others.{front_numbered, others_stay}
use Rattle.hep_event.specs.Traces.{freed, numbers_from}
use Rattle.hep_trace.specs.Ancestry.{activation_on, ancestry}
use Rattle.hep_trace.specs.FreedFrames.{AreHeldUpwards}
use Rattle.hep_trace.proofs.Parents.{AreAbove, lines, lines-numbered, parent-more, parent_in}
use Rattle.hep_trace.proofs.FallingNumbers.{AreFalling, falling-are, filter-none, filter-reverse, none-above}
use Rattle.hep_trace.proofs.Numbers.{filter-both-of-two}
use Rattle.hep_state.proofs.ProcessNumbers.{within-number}

-- just those of an ancestry are freed from one state to another that aren't held any more, which are the first ones of it, and none where process p has
-- the first one of them on top, or one that was made later
pub record IsFreed (s t : State) (p a : ℕ) : Type 0 where
  pub some : 1 ≤ a
  pub all : freed s t ≡ reverse (filter (λ b. not (is_held t b)) (ancestry s a a))
  pub none : a ≤ activation_on (living t p) → freed s t ≡ []
  pub upwards : AreHeldUpwards t (ancestry s a a)

-- its first one
pub ancestry-first : (s : State) (a : ℕ) → 1 ≤ a → slice_get (ancestry s a a) 0 ≡ Some a
ancestry-first s zero one = absurd (omega (arith, one))
ancestry-first s (suc n) one = refl

module _ (s : State) where
  -- those above it, so many at most
  abbrev above : ℕ → ℕ → List ℕ
  above n a = option_map_or (λ b. ancestry s n b) (parent_of s a) []

  itself : (n a : ℕ) → 1 ≤ a → a ≤ n → is_number_among a (ancestry s n a) ≡ true
  itself zero a one few = absurd (omega (arith, one, few))
  itself (suc n) a one few = among-head a (above n a)

  module _ (ages : IsAged s) where
    -- those below it on a stack are among them
    pub stacked-among : (n a : ℕ) (ns : List ℕ) → 1 ≤ a → a ≤ n → AreAbove s.activations a ns → (b : ℕ) → is_number_among b (a ∷ ns) ≡ true → is_number_among b (ancestry s n a) ≡ true
    stacked-among zero a ns one few h b among = absurd (omega (arith, one, few))
    stacked-among (suc n) a [] one few h b among = elim (among-cases b a [] among) [
      | inl same ↦ subst (λ c. is_number_among c (ancestry s (suc n) a) ≡ true) (sym same) (among-head a (above n a))
      | inr none ↦ absurd (true≢false (sym none))
    ]
    stacked-among (suc n) a (c ∷ ms) one few h b among = elim (among-cases b a (c ∷ ms) among) [
      | inl same ↦ subst (λ d. is_number_among d (ancestry s (suc n) a) ≡ true) (sym same) (among-head a (above n a))
      | inr behind ↦
          let older = older_parent s a c ages h.0 in
          or_right (nat_eq b a) (is_number_among b (above n a)) (
          ap (λ (o : Option ℕ). is_number_among b (option_map_or (λ d. ancestry s n d) o [])) h.0
          ∙ stacked-among n c ms older.0 (omega (arith, older.1, few)) h.1 b behind)
    ]

    -- with each one its parent is among them
    pub closed : (n a : ℕ) → a ≤ n → (c b : ℕ) → is_number_among c (ancestry s n a) ≡ true → parent_of s c ≡ Some b → is_number_among b (ancestry s n a) ≡ true
    closed zero a few c b among parent = absurd (true≢false (sym among))
    closed (suc n) a few c b among parent = by (parent_of s a) refl (λ d le k. closed n d le c b k parent) among where
      by : (o : Option ℕ) → parent_of s a ≡ o → ((d : ℕ) → d ≤ n → is_number_among c (ancestry s n d) ≡ true → is_number_among b (ancestry s n d) ≡ true)
          → is_number_among c (a ∷ option_map_or (λ d. ancestry s n d) o []) ≡ true → is_number_among b (a ∷ option_map_or (λ d. ancestry s n d) o []) ≡ true
      by None is rest k = elim (among-cases c a [] k) [
        | inl same ↦ absurd (none-some b (sym is ∙ (ap (parent_of s) (sym same) ∙ parent)))
        | inr none ↦ absurd (true≢false (sym none))
      ]
      by (Some d) is rest k =
          let older = older_parent s a d ages is in
          or_right (nat_eq b a) (is_number_among b (ancestry s n d)) (
          elim (among-cases c a (ancestry s n d) k) [
            | inl same ↦
                let it : d ≡ b = same_Some d b (sym is ∙ (ap (parent_of s) (sym same) ∙ parent)) in
                subst (λ e. is_number_among e (ancestry s n d) ≡ true) it (itself n d older.0 (omega (arith, older.1, few)))
            | inr behind ↦ rest d (omega (arith, older.1, few)) behind
          ])

    pub falling : (n a most : ℕ) → 1 ≤ a → a ≤ n → a ≤ most → AreFalling most (ancestry s n a)
    falling zero a most one few le = absurd (omega (arith, one, few))
    falling (suc n) a most one few le = (one, le, by (parent_of s a) refl (λ d some fewer. falling n d (a - 1) some (omega (arith, few, fewer)) fewer)) where
      by : (o : Option ℕ) → parent_of s a ≡ o → ((d : ℕ) → 1 ≤ d → d ≤ a - 1 → AreFalling (a - 1) (ancestry s n d)) → AreFalling (a - 1) (option_map_or (λ d. ancestry s n d) o [])
      by None is rest = tt
      by (Some d) is rest = let older = older_parent s a d ages is in rest d older.0 (omega (arith, older.1))

-- of those from an activation upwards, one that was made as late at least is that one itself
pub first-among : (program : Units) (ps : List ℕ) (b a : ℕ) → 1 ≤ b → b ≤ a → is_number_among a (ancestry (run program ps) b b) ≡ nat_eq b a
first-among program ps b a some le = by (nat_eq b a) refl where
  s : State
  s = run program ps

  by : (t : Bool) → nat_eq b a ≡ t → is_number_among a (ancestry s b b) ≡ t
  by true e =
      let same : b ≡ a = eqb-true b a e in
      ap (λ c. is_number_among c (ancestry s b b)) (sym same) ∙ itself s b b some (omega arith)
  by false e =
      let other = eqb-false b a e in
      none-above a b (ancestry s b b) (falling s (aged program ps) b b b some (omega arith) (omega arith)) (omega (arith, le, other))

-- all of them are held in a state in which the first one is, and in which their parents are the same
all-held : (program : Units) (qs : List ℕ) (s : State) → ((c b : ℕ) → parent_of s c ≡ Some b → parent_of (run program qs) c ≡ Some b)
    → (n a : ℕ) → is_held (run program qs) a ≡ true → (b : ℕ) → is_number_among b (ancestry s n a) ≡ true → is_held (run program qs) b ≡ true
all-held program qs s parents zero a held b among = absurd (true≢false (sym among))
all-held program qs s parents (suc n) a held b among = by (parent_of s a) refl (λ d k l. all-held program qs s parents n d k b l) among where
  by : (o : Option ℕ) → parent_of s a ≡ o → ((d : ℕ) → is_held (run program qs) d ≡ true → is_number_among b (ancestry s n d) ≡ true → is_held (run program qs) b ≡ true)
      → is_number_among b (a ∷ option_map_or (λ d. ancestry s n d) o []) ≡ true → is_held (run program qs) b ≡ true
  by None is rest k = elim (among-cases b a [] k) [
    | inl same ↦ subst (λ c. is_held (run program qs) c ≡ true) (sym same) held
    | inr none ↦ absurd (true≢false (sym none))
  ]
  by (Some d) is rest k = elim (among-cases b a (ancestry s n d) k) [
    | inl same ↦ subst (λ c. is_held (run program qs) c ≡ true) (sym same) held
    | inr behind ↦ rest d ((held_is program qs d).1 (inr (a, held, parents a d is))) behind
  ]

-- what is held is the top activation of a process that lives, or in its ancestry
pub record IsKept (s : State) (a : ℕ) : Type 0 where
  pub process : ℕ
  pub top : Level × Process
  pub lives : living s process ≡ Some top
  pub among : is_number_among a (ancestry s top.0.activation top.0.activation) ≡ true

module _ (program : Units) (ps : List ℕ) where
  abbrev now : State
  now = run program ps

  by-stack : (a p : ℕ) (q : Process) → numbered now.processes p ≡ Some q → is_number_among a (activations_on q) ≡ true → IsKept now a
  by-stack a p [] there among = absurd (true≢false (sym among))
  by-stack a p (level ∷ below) there among =
      let b = level.activation in
      let on = (held_is program ps b).1 (inl (p, level ∷ below, there, among-head b (activations_on below))) in
      let old = held-made program ps b on in
      record {
        process = p;
        top = (level, below);
        lives = ap top_of there;
        among = stacked-among now (aged program ps) b b (activations_on below) old.0 (omega arith) (lines-numbered now.activations now.processes p (level ∷ below) (lines program ps) there) a among;
      }

  kept-from : (n a : ℕ) → length now.activations ≤ n + a → is_held now a ≡ true → IsKept now a
  kept-from zero a few held = elim ((held_is program ps a).0 held) [
    | inl on ↦ by-stack a on.0 on.1 on.2 on.3
    | inr child ↦ absurd (omega (arith, few, (held-made program ps child.0 child.1).1, (older_parent now child.0 a (aged program ps) child.2).1))
  ]
  kept-from (suc n) a few held = elim ((held_is program ps a).0 held) [
    | inl on ↦ by-stack a on.0 on.1 on.2 on.3
    | inr child ↦
        let older = older_parent now child.0 a (aged program ps) child.2 in
        let kept = kept-from n child.0 (omega (arith, few, older.1)) child.1 in
        record {
          process = kept.process;
          top = kept.top;
          lives = kept.lives;
          among = closed now (aged program ps) kept.top.0.activation kept.top.0.activation (omega arith) child.0 a kept.among child.2;
        }
  ]

  pub kept-by : (a : ℕ) → is_held now a ≡ true → IsKept now a
  kept-by a held = kept-from (length now.activations) a (omega arith) held

  -- and all of that is held
  pub kept-held : (a : ℕ) → IsKept now a → is_held now a ≡ true
  kept-held a kept =
      let b = kept.top.0.activation in
      let there = top-numbered now kept.process kept.top kept.lives in
      let on = (held_is program ps b).1 (inl (kept.process, kept.top.0 ∷ kept.top.1, there, among-head b (activations_on kept.top.1))) in
      all-held program ps now (λ c d e. e) b b on a kept.among

-- where one of an ancestry is held from which the parents are the same, so are those behind it
all-upwards : (program : Units) (qs : List ℕ) (s : State) → ((c b : ℕ) → parent_of s c ≡ Some b → parent_of (run program qs) c ≡ Some b)
    → (n a i b : ℕ) → slice_get (ancestry s n a) i ≡ Some b → is_held (run program qs) b ≡ true → filter (λ c. not (is_held (run program qs) c)) (drop i (ancestry s n a)) ≡ []
all-upwards program qs s parents zero a i b there held = absurd (none-some b there)
all-upwards program qs s parents (suc n) a zero b there held =
    filter-none (λ c. not (is_held (run program qs) c)) (ancestry s (suc n) a) (λ c among.
    ap not (all-held program qs s parents (suc n) a (subst (λ d. is_held (run program qs) d ≡ true) (sym (same_Some a b there)) held) c among))
all-upwards program qs s parents (suc n) a (suc i) b there held = by (parent_of s a) there (λ d e. all-upwards program qs s parents n d i b e held) where
  by : (o : Option ℕ) → slice_get (option_map_or (λ d. ancestry s n d) o []) i ≡ Some b
      → ((d : ℕ) → slice_get (ancestry s n d) i ≡ Some b → filter (λ c. not (is_held (run program qs) c)) (drop i (ancestry s n d)) ≡ [])
      → filter (λ c. not (is_held (run program qs) c)) (drop i (option_map_or (λ d. ancestry s n d) o [])) ≡ []
  by None e rest = absurd (none-some b e)
  by (Some d) e rest = rest d e

-- ---- a step of p

module _ (program : Units) (ps qs : List ℕ) (p : ℕ) (top : Level × Process) (lives : living (run program ps) p ≡ Some top) where
  abbrev s : State
  s = run program ps

  abbrev t : State
  t = run program qs

  abbrev a : ℕ
  a = top.0.activation

  abbrev chain : List ℕ
  chain = ancestry s a a

  there : numbered s.processes p ≡ Some (top.0 ∷ top.1)
  there = top-numbered s p top lives

  line : AreAbove s.activations a (activations_on top.1)
  line = lines-numbered s.activations s.processes p (top.0 ∷ top.1) (lines program ps) there

  top-on : IsOnStack s a
  top-on = (p, top.0 ∷ top.1, there, among-head a (activations_on top.1))

  top-held : is_held s a ≡ true
  top-held = (held_is program ps a).1 (inl top-on)

  made : (1 ≤ a) × (a ≤ length s.activations)
  made = held-made program ps a top-held

  chain-held : (b : ℕ) → is_number_among b chain ≡ true → is_held s b ≡ true
  chain-held = all-held program ps s (λ c b e. e) a a top-held

  falls : AreFalling (length s.activations) chain
  falls = falling s (aged program ps) a a (length s.activations) made.0 (omega arith) made.1

  -- what was held and isn't among them is held still
  module _ (kept : (b : ℕ) → is_held s b ≡ true → is_number_among b chain ≡ false → is_held t b ≡ true) where
    same : (b : ℕ) → (is_held s b && not (is_held t b)) ≡ (is_number_among b chain && not (is_held t b))
    same b = elim (cases_Bool (is_number_among b chain)) [
      | inl within ↦ ap (λ h. h && not (is_held t b)) (chain-held b within ∙ sym within)
      | inr out ↦ elim (cases_Bool (is_held s b)) [
        | inl held ↦ (λ i. held i && not (kept b held out i)) ∙ sym (ap (λ h. h && not (is_held t b)) out)
        | inr free ↦ ap (λ h. h && not (is_held t b)) (free ∙ sym out)
      ]
    ]

    freed-are : freed s t ≡ reverse (filter (λ b. not (is_held t b)) chain)
    freed-are =
        (λ i. filter (λ b. same b i) (numbers_from 1 (length s.activations)))
        ∙ sym (filter-both-of-two (λ b. is_number_among b chain) (λ b. not (is_held t b)) (numbers_from 1 (length s.activations)))
        ∙ ap (filter (λ b. not (is_held t b))) (falling-are (length s.activations) chain falls)
        ∙ filter-reverse (λ b. not (is_held t b)) chain

    none-freed : ((c b : ℕ) → parent_of s c ≡ Some b → parent_of t c ≡ Some b) → is_held t a ≡ true → freed s t ≡ []
    none-freed parents held = freed-are ∙ ap reverse (filter-none (λ b. not (is_held t b)) chain (λ b among. ap not (all-held program qs s parents a a held b among)))

  -- p waits
  pub freed-waiting : t ≡ s → IsFreed s t p a
  freed-waiting still =
      let kept = λ (b : ℕ) (held : is_held s b ≡ true) (out : is_number_among b chain ≡ false). ap (λ (z : State). is_held z b) still ∙ held in
      record {
        some = made.0;
        all = freed-are kept;
        none = λ le. none-freed kept (λ c b e. ap (λ (z : State). parent_of z c) still ∙ e) (ap (λ (z : State). is_held z a) still ∙ top-held);
        upwards = all-upwards program qs s (λ c b e. ap (λ (z : State). parent_of z c) still ∙ e) a a;
      }

  module _ (stepped : step program p s ≡ Some t) where
    changes : HasStepped s p t
    changes = step_changes program p s t stepped

    change : Change (top_in s p top) t
    change = subst (λ (z : Level × Process). Change (top_in s p z) t) (same_Some changes.top top (sym changes.lives ∙ lives)) changes.change

    parents : (c b : ℕ) → parent_of s c ≡ Some b → parent_of t c ≡ Some b
    parents c b e = elim (news (top_in s p top) t change) [
      | inl still ↦ ap (λ (xs : List Activation). parent_in xs c) still ∙ e
      | inr (x, more) ↦ ap (λ (xs : List Activation). parent_in xs c) more.0 ∙ parent-more s.activations (x ∷ []) c b e
    ]

    -- ---- what isn't among them

    on-other : (b : ℕ) → IsOnStack s b → is_number_among b chain ≡ false → is_held t b ≡ true
    on-other b on out = elim (eqb_tells p on.0) [
      | inl own ↦
          let stack_is : on.1 ≡ top.0 ∷ top.1 = same_Some on.1 (top.0 ∷ top.1) (sym on.2 ∙ (ap (numbered s.processes) (sym own.1) ∙ there)) in
          let on_own : is_number_among b (activations_on (top.0 ∷ top.1)) ≡ true = subst (λ (q : Process). is_number_among b (activations_on q) ≡ true) stack_is on.3 in
          absurd (true≢false (sym (stacked-among s (aged program ps) a a (activations_on top.1) made.0 (omega arith) line b on_own) ∙ out))
      | inr other ↦
          let still = others_stay program p on.0 s t stepped other.1 (within-number s.processes on.0 on.1 on.2) in
          (held_is program qs b).1 (inl (on.0, on.1, still ∙ on.2, on.3))
    ]

    child-out : (b c : ℕ) → parent_of s c ≡ Some b → is_number_among b chain ≡ false → is_number_among c chain ≡ false
    child-out b c e out = elim (cases_Bool (is_number_among c chain)) [
      | inl within ↦ absurd (true≢false (sym (closed s (aged program ps) a a (omega arith) c b within e) ∙ out))
      | inr apart ↦ apart
    ]

    others : (k b : ℕ) → length s.activations ≤ b + k → is_held s b ≡ true → is_number_among b chain ≡ false → is_held t b ≡ true
    others zero b few held out = elim ((held_is program ps b).0 held) [
      | inl on ↦ on-other b on out
      | inr child ↦ let older = older_parent s child.0 b (aged program ps) child.2 in absurd (omega (arith, older.1, older.2, few))
    ]
    others (suc k) b few held out = elim ((held_is program ps b).0 held) [
      | inl on ↦ on-other b on out
      | inr child ↦
          let older = older_parent s child.0 b (aged program ps) child.2 in
          let still = others k child.0 (omega (arith, older.1, few)) child.1 (child-out b child.0 child.2 out) in
          (held_is program qs b).1 (inr (child.0, still, parents child.0 b child.2))
    ]

    -- ---- the top activation, where none that was made before it is on top

    own : (q : Process) → t.processes ≡ with_numbered s.processes p q → numbered t.processes p ≡ Some q
    own q k = ap (λ (xs : List Process). numbered xs p) k ∙ set-numbered s.processes p (top.0 ∷ top.1) q there

    own-of-more : (q r : Process) → t.processes ≡ with_numbered s.processes p q ++ r ∷ [] → numbered t.processes p ≡ Some q
    own-of-more q r k =
        let few : p ≤ length s.processes = within-number s.processes p (top.0 ∷ top.1) there in
        let within : p ≤ length (with_numbered s.processes p q) = rw length-set few in
        ap (λ (xs : List Process). numbered xs p) k
        ∙ front_numbered (with_numbered s.processes p q) (r ∷ []) p within
        ∙ set-numbered s.processes p (top.0 ∷ top.1) q there

    lower-by : (q below : Process) → activations_on q ≡ activations_on below → AreAbove s.activations a (activations_on below) → a ≤ activation_on (top_of (Some q)) → ⊥
    lower-by [] below e h le = omega (arith, le, made.0)
    lower-by (l ∷ ls) [] e h le = absurd cc
    lower-by (l ∷ ls) (m ∷ ms) e h le =
        let like : l.activation ≡ m.activation = cc in
        let older = older_parent s a m.activation (aged program ps) h.0 in
        omega (arith, like, older.1, le)

    module _ (le : a ≤ activation_on (living t p)) where
      there-after : (q : Process) → numbered t.processes p ≡ Some q → a ≤ activation_on (top_of (Some q))
      there-after q n = subst (λ (o : Option Process). a ≤ activation_on (top_of o)) n le

      lower : (q : Process) → numbered t.processes p ≡ Some q → activations_on q ≡ activations_on top.1 → ⊥
      lower q n e = lower-by q top.1 e line (there-after q n)

      nobody : numbered t.processes p ≡ Some [] → ⊥
      nobody n = let none = there-after [] n in omega (arith, made.0, none)

      stays : (q : Process) → numbered t.processes p ≡ Some q → is_number_among a (activations_on q) ≡ true → is_held t a ≡ true
      stays q n among = (held_is program qs a).1 (inl (p, q, n, among))

      first : is_number_among a (activations_on (top.0 ∷ top.1)) ≡ true
      first = among-head a (activations_on top.1)

      by-change : Change (top_in s p top) t → is_held t a ≡ true
      by-change (moves q e k h) = stays q (own q k) (ap (is_number_among a) e ∙ first)
      by-change (leaves q e k h) = absurd (lower q (own q k) e)
      by-change (faults k h) = absurd (nobody (own [] k))
      by-change (calls q x e k h) =
          stays q (own q k) (ap (is_number_among a) e ∙ or_right (nat_eq a (next_activation s)) (is_number_among a (a ∷ activations_on top.1)) first)
      by-change (creates q r x e f k h) = stays q (own-of-more q r k) (ap (is_number_among a) e ∙ first)
      by-change (resumes q r e f k h) = absurd (lower q (own-of-more q r k) e)
      by-change (stops k h) = stays (top.0 ∷ top.1) (ap (λ (xs : List Process). numbered xs p) k ∙ there) first

    pub freed-stepping : IsFreed s t p a
    freed-stepping =
        let kept = λ (b : ℕ) (held : is_held s b ≡ true) (out : is_number_among b chain ≡ false). others (length s.activations) b (omega arith) held out in
        record { some = made.0; all = freed-are kept; none = λ le. none-freed kept parents (by-change le change); upwards = all-upwards program qs s parents a a }
