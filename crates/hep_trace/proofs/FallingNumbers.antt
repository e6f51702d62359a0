-- Numbers that fall, as they are among all numbers, and what a test leaves of them.
use Rattle.std.proofs.Common.{◌≡◌, ◌||◌, ℕ, zero, suc, ◌+◌, ◌-◌, ◌<◌, ◌≤◌, Bool, true, false, List, [], ◌∷◌, ◌++◌, Some, drop, length, reverse, slice_get, take, refl, sym, ap, ◌∙◌, arith, append-nil, if◌then◌else◌, nat_eq}
use Rattle.std.specs.List.{filter}
use Rattle.std.proofs.lemmas.Bool.{ne_eqb, or_right}
use Rattle.std.proofs.lemmas.List.{reverse-append}
use Rattle.std.proofs.lemmas.List.Elements.{filter-append}
use Rattle.hep_machine.specs.Words.{is_number_among}
use Rattle.hep_machine.proofs.Held.{among-head}
use Rattle.hep_event.specs.Traces.{numbers_from}

-- ---- what a test leaves

-- of a list that stands the other way round
pub filter-reverse : (f : ℕ → Bool) (xs : List ℕ) → filter f (reverse xs) ≡ reverse (filter f xs)
filter-reverse f [] = refl
filter-reverse f (x ∷ xs) =
    ap (filter f) (reverse-append (x ∷ []) xs)
    ∙ filter-append f (reverse xs) (x ∷ [])
    ∙ ap (λ ys. ys ++ filter f (x ∷ [])) (filter-reverse f xs)
    ∙ by (f x)
  where
    by : (t : Bool) → reverse (filter f xs) ++ (if t then x ∷ [] else []) ≡ reverse (if t then x ∷ filter f xs else filter f xs)
    by true = sym (reverse-append (x ∷ []) (filter f xs))
    by false = append-nil (reverse (filter f xs))

-- nothing, where none passes
pub filter-none : (f : ℕ → Bool) (xs : List ℕ) → ((b : ℕ) → is_number_among b xs ≡ true → f b ≡ false) → filter f xs ≡ []
filter-none f [] off = refl
filter-none f (x ∷ xs) off =
    ap (λ t. if t then x ∷ filter f xs else filter f xs) (off x (among-head x xs)) ∙ filter-none f xs (λ b among. off b (or_right (nat_eq b x) (is_number_among b xs) among))

-- the first ones, where each of these passes and none behind them
pub filter-front : (f : ℕ → Bool) (xs : List ℕ) (n : ℕ) → n ≤ length xs → ((k a : ℕ) → k < n → slice_get xs k ≡ Some a → f a ≡ true) → filter f (drop n xs) ≡ [] → filter f xs ≡ take n xs
filter-front f [] zero few front behind = refl
filter-front f [] (suc n) few front behind = absurd (omega (arith, few))
filter-front f (x ∷ xs) zero few front behind = behind
filter-front f (x ∷ xs) (suc n) few front behind =
    let rest = filter-front f xs n (omega (arith, few)) (λ k a less there. front (suc k) a (omega (arith, less)) there) behind in
    ap (λ t. if t then x ∷ filter f xs else filter f xs) (front 0 x (omega arith) refl) ∙ ap (λ ys. x ∷ ys) rest

-- of numbers that are counted, by what it says of these
filter-counted : (f g : ℕ → Bool) (first n : ℕ) → ((b : ℕ) → b < first + n → f b ≡ g b) → filter f (numbers_from first n) ≡ filter g (numbers_from first n)
filter-counted f g first zero same = refl
filter-counted f g first (suc n) same =
    let here : f first ≡ g first = same first (omega arith) in
    let rest = filter-counted f g (suc first) n (λ b less. same b (omega (arith, less))) in
    λ i. if here i then first ∷ rest i else rest i

pub filter-off : (f : ℕ → Bool) (first n : ℕ) → ((b : ℕ) → first ≤ b → f b ≡ false) → filter f (numbers_from first n) ≡ []
filter-off f first zero off = refl
filter-off f first (suc n) off =
    ap (λ t. if t then first ∷ filter f (numbers_from (suc first) n) else filter f (numbers_from (suc first) n)) (off first (omega arith))
    ∙ filter-off f (suc first) n (λ b more. off b (omega (arith, more)))

-- ---- numbers

-- a number with those in front of it and behind it
numbers-split : (first m k n c : ℕ) → n ≡ m + suc k → c ≡ first + m → numbers_from first n ≡ numbers_from first m ++ c ∷ numbers_from (suc c) k
numbers-split first zero k n c long at =
    let n_is : n ≡ suc k = omega (arith, long) in
    let c_is : first ≡ c = omega (arith, at) in
    ap (numbers_from first) n_is ∙ ap (λ d. d ∷ numbers_from (suc d) k) c_is
numbers-split first (suc m) k n c long at =
    let n_is : n ≡ suc (m + suc k) = omega (arith, long) in
    ap (numbers_from first) n_is ∙ ap (λ xs. first ∷ xs) (numbers-split (suc first) m k (m + suc k) c refl (omega (arith, at)))

-- from 1 up to n, each one lower than the one in front of it
abbrev pub AreFalling : ℕ → List ℕ → Type 0
AreFalling n [] = Unit {0}
AreFalling n (a ∷ ns) = (1 ≤ a) × (a ≤ n) × AreFalling (a - 1) ns

pub none-above : (b n : ℕ) (ns : List ℕ) → AreFalling n ns → n < b → is_number_among b ns ≡ false
none-above b n [] h less = refl
none-above b n (a ∷ ns) h less =
    let other : nat_eq b a ≡ false = ne_eqb b a (λ same. omega (arith, same, h.1, less)) in
    ap (λ t. t || is_number_among b ns) other ∙ none-above b (a - 1) ns h.2 (omega (arith, h.1, less))

-- they are the numbers that are among them, the other way round
pub falling-are : (n : ℕ) (ns : List ℕ) → AreFalling n ns → filter (λ b. is_number_among b ns) (numbers_from 1 n) ≡ reverse ns
falling-are n [] h = filter-off (λ b. false) 1 n (λ b more. refl)
falling-are n (a ∷ ns) h =
    let f : ℕ → Bool = λ b. is_number_among b (a ∷ ns) in
    let g : ℕ → Bool = λ b. is_number_among b ns in
    let long : n ≡ (a - 1) + suc (n - a) = omega (arith, h.0, h.1) in
    let at : a ≡ 1 + (a - 1) = omega (arith, h.0) in
    let front : filter f (numbers_from 1 (a - 1)) ≡ reverse ns = filter-counted f g 1 (a - 1) (λ b less.
    ap (λ t. t || is_number_among b ns) (ne_eqb b a (λ same. omega (arith, same, less, h.0)))) ∙ falling-are (a - 1) ns h.2 in
    let own : f a ≡ true = among-head a ns in
    let behind : filter f (numbers_from (suc a) (n - a)) ≡ [] = filter-off f (suc a) (n - a) (λ b more.
    ap (λ t. t || is_number_among b ns) (ne_eqb b a (λ same. omega (arith, same, more))) ∙ none-above b (a - 1) ns h.2 (omega (arith, more))) in
    ap (filter f) (numbers-split 1 (a - 1) (n - a) n a long at)
    ∙ filter-append f (numbers_from 1 (a - 1)) (a ∷ numbers_from (suc a) (n - a))
    ∙ (λ i. front i ++ (if own i then a ∷ behind i else behind i))
    ∙ sym (reverse-append (a ∷ []) ns)
