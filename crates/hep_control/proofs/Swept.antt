-- What questions give that stand after values, in a list without order; and one pass over events in order, which gives the lines that their
-- questions give.
use Rattle.std.proofs.Common.{◌≡◌, ℕ, Bool, false, ◌&&◌, ◌||◌, nat_lt, List, [], ◌∷◌, ◌++◌, map, length, drop, Option, option_to_list, refl, ◌∙◌, ap, suc, ◌+◌, ◌*◌, ◌<◌, ◌≤◌, true, sym, arith, append_assoc, append-nil}
use Rattle.std.specs.List.{flat_map, list_any}
use Rattle.std.proofs.lemmas.List.{drop_all}
use Rattle.std.proofs.lemmas.List.Folds.{list_any-append}
use Rattle.hep_conditions.specs.Words.{least_line, line_when, least_line_of}
use Rattle.hep_control.specs.declared.sweep.Event.{Event}
use Rattle.hep_control.specs.declared.sweep.Event.TheVariants.{Value, Question}
use Rattle.hep_control.specs.Sweep.{is_within, comes_before, line_asked, lines_asked, rank, line_met, with_event, lines_swept}
use Rattle.hep_source.proofs.Tests.{any-flat, or-false, or-turned, any-same}
use Rattle.std.specs.List.Sorted.{IsNonDecreasingBy, IsPermutation}
use Rattle.std.proofs.lemmas.Bool.Decides.{nat_tests}
use Rattle.hep_control.proofs.Sets.{any-line, any-map, any-permutation}

module _ {A B : Type 0} (vk vv : A → ℕ) (qk low high line : B → ℕ) where
  abbrev value : A → Event
  value x = Value (vk x) (vv x)

  abbrev question : B → Event
  question y = Question (qk y) (low y) (high y) (line y)

  -- a value that a question asks for
  abbrev pub answers : B → A → Bool
  answers y x = nat_lt (vk x) (qk y) && is_within (low y) (high y) (vv x)

  no_question : (key l h : ℕ) (ys : List B) → list_any (comes_before key l h) (map question ys) ≡ false
  no_question key l h [] = refl
  no_question key l h (y ∷ ys) = no_question key l h ys

  by_values : (y : B) (xs : List A) → list_any (comes_before (qk y) (low y) (high y)) (map value xs) ≡ list_any (answers y) xs
  by_values y [] = refl
  by_values y (x ∷ xs) = ap (λ b. answers y x || b) (by_values y xs)

  one : (xs : List A) (ys : List B) (y : B)
      → line_asked (map value xs ++ map question ys) (question y) ≡ line_when (list_any (answers y) xs) (line y)
  one xs ys y =
      ap (λ b. line_when b (line y))
      (list_any-append (comes_before (qk y) (low y) (high y)) (map value xs) (map question ys)
      ∙ (ap (λ b. list_any (comes_before (qk y) (low y) (high y)) (map value xs) || b) (no_question (qk y) (low y) (high y) ys)
      ∙ (or-false (list_any (comes_before (qk y) (low y) (high y)) (map value xs)) ∙ by_values y xs)))

  lines : (all : List Event) (f : B → Option ℕ) → ((y : B) → line_asked all (question y) ≡ f y) → (ys : List B)
      → least_line_of (line_asked all) (map question ys) ≡ least_line_of f ys
  lines all f h [] = refl
  lines all f h (y ∷ ys) = ap (λ o. least_line o (least_line_of (line_asked all) (map question ys))) (h y) ∙ ap (least_line (f y)) (lines all f h ys)

  -- all lines, as a test of a line sees them
  module _ (test : ℕ → Bool) where
    abbrev passes : List Event → Event → Bool
    passes all e = list_any test (option_to_list (line_asked all e))

    no_passes : (all : List Event) (xs : List A) → list_any (passes all) (map value xs) ≡ false
    no_passes all [] = refl
    no_passes all (x ∷ xs) = no_passes all xs

    one_passes : (xs : List A) (ys : List B) (y : B) → passes (map value xs ++ map question ys) (question y) ≡ (list_any (answers y) xs && test (line y))
    one_passes xs ys y = ap (λ o. list_any test (option_to_list o)) (one xs ys y) ∙ any-line test (list_any (answers y) xs) (line y)

    pub lines-asked : (xs : List A) (ys : List B)
        → list_any test (lines_asked (map value xs ++ map question ys)) ≡ list_any (λ y. list_any (answers y) xs && test (line y)) ys
    lines-asked xs ys =
        let all = map value xs ++ map question ys in
        any-flat test (λ e. option_to_list (line_asked all e)) all
        ∙ (list_any-append (passes all) (map value xs) (map question ys)
        ∙ (ap (λ b. b || list_any (passes all) (map question ys)) (no_passes all xs)
        ∙ (any-map (passes all) question ys
        ∙ any-same (λ y. passes all (question y)) (λ y. list_any (answers y) xs && test (line y)) (one_passes xs ys) ys)))

-- ---- what one pass over events in order keeps

abbrev pub Alike : List ℕ → List ℕ → Type 0
Alike vs ws = (test : ℕ → Bool) → list_any test vs ≡ list_any test ws

line_met-same : (vs ws : List ℕ) → Alike vs ws → (e : Event) → line_met vs e ≡ line_met ws e
line_met-same vs ws h (Value k v) = refl
line_met-same vs ws h (Question k low high line) = ap (λ b. line_when b line) (h (is_within low high))

with_event-same : (vs ws : List ℕ) → Alike vs ws → (e : Event) → Alike (with_event e vs) (with_event e ws)
with_event-same vs ws h (Value k v) test = ap (λ b. test v || b) (h test)
with_event-same vs ws h (Question k low high line) test = h test

lines_swept-same : (vs ws : List ℕ) → Alike vs ws → (es : List Event) → lines_swept vs es ≡ lines_swept ws es
lines_swept-same vs ws h [] = refl
lines_swept-same vs ws h (e ∷ es) =
    ap (λ o. option_to_list o ++ lines_swept (with_event e vs) es) (line_met-same vs ws h e)
    ∙ ap (λ ls. option_to_list (line_met ws e) ++ ls) (lines_swept-same (with_event e vs) (with_event e ws) (with_event-same vs ws h e) es)

-- one event more, and its line
pub lines-next : (vs ws found next whole : List ℕ) (e : Event) (es xs : List Event) → Alike ws (with_event e vs) → xs ≡ e ∷ es
    → found ++ lines_swept vs xs ≡ whole → next ≡ found ++ option_to_list (line_met vs e) → next ++ lines_swept ws es ≡ whole
lines-next vs ws found next whole e es xs h d k n =
    ap (λ ls. ls ++ lines_swept ws es) n
    ∙ (append_assoc found (option_to_list (line_met vs e)) (lines_swept ws es)
    ∙ (ap (λ ls. found ++ (option_to_list (line_met vs e) ++ ls)) (lines_swept-same ws (with_event e vs) h es)
    ∙ (ap (λ ys. found ++ lines_swept vs ys) (sym d) ∙ k)))

-- ---- events in order

abbrev pub Below : ℕ → List Event → Type 0
Below n [] = Unit {0}
Below n (e ∷ es) = (rank e ≤ n) × Below n es

abbrev pub Ascending : ℕ → List Event → Type 0
Ascending n [] = Unit {0}
Ascending n (e ∷ es) = (n ≤ rank e) × Ascending (rank e) es

ascending-from : (e : Event) (es : List Event) → IsNonDecreasingBy rank (e ∷ es) → Ascending (rank e) es
ascending-from e [] h = tt
ascending-from e (f ∷ es) h = (h 0 1 e (omega arith) (omega arith), ascending-from f es (λ i j d p q. h (suc i) (suc j) d (omega arith) (omega arith)))

ascending : (es : List Event) → IsNonDecreasingBy rank es → Ascending 0 es
ascending [] h = tt
ascending (e ∷ es) h = (omega arith, ascending-from e es h)

below-later : (m n : ℕ) (es : List Event) → m ≤ n → Below m es → Below n es
below-later m n [] h b = tt
below-later m n (e ∷ es) h b = (omega (arith, h, b.0), below-later m n es h b.1)

below-push : (n : ℕ) (es : List Event) (e : Event) → Below n es → rank e ≤ n → Below n (es ++ e ∷ [])
below-push n [] e b h = (h, tt)
below-push n (f ∷ es) e b h = (b.0, below-push n es e b.1 h)

abbrev values_of : List Event → List ℕ
values_of [] = []
values_of (Value k v ∷ es) = v ∷ values_of es
values_of (Question k low high line ∷ es) = values_of es

not_below : (k key n : ℕ) → 2 * key ≤ n → n ≤ 2 * k + 1 → nat_lt k key ≡ false
not_below k key n h a = let l : key ≤ k = omega (arith, h, a) in grind (arith, nat_tests, l)

is_below : (k key : ℕ) → 2 * k + 1 ≤ 2 * key → nat_lt k key ≡ true
is_below k key h = let l : k < key = omega (arith, h) in grind (arith, nat_tests, l)

-- no value after a question comes before it
none_after : (key low high n : ℕ) (es : List Event) → 2 * key ≤ n → Ascending n es → list_any (comes_before key low high) es ≡ false
none_after key low high n [] h a = refl
none_after key low high n (Value k v ∷ es) h a =
    ap (λ b. (b && is_within low high v) || list_any (comes_before key low high) es) (not_below k key n h a.0)
    ∙ none_after key low high (2 * k + 1) es (omega (arith, h, a.0)) a.1
none_after key low high n (Question k l m line ∷ es) h a = none_after key low high (2 * k) es (omega (arith, h, a.0)) a.1

-- each value before it does
all_before : (key low high : ℕ) (es : List Event) → Below (2 * key) es → list_any (comes_before key low high) es ≡ list_any (is_within low high) (values_of es)
all_before key low high [] b = refl
all_before key low high (Value k v ∷ es) b =
    ap (λ t. (t && is_within low high v) || list_any (comes_before key low high) es) (is_below k key b.0)
    ∙ ap (λ t. is_within low high v || t) (all_before key low high es b.1)
all_before key low high (Question k l m line ∷ es) b = all_before key low high es b.1

values_of-push : (es : List Event) (e : Event) → Alike (values_of (es ++ e ∷ [])) (with_event e (values_of es))
values_of-push [] (Value k v) test = refl
values_of-push [] (Question k low high line) test = refl
values_of-push (Value j u ∷ es) (Value k v) test = ap (λ b. test u || b) (values_of-push es (Value k v) test) ∙ or-turned (test u) (test v) (list_any test (values_of es))
values_of-push (Value j u ∷ es) (Question k low high line) test = ap (λ b. test u || b) (values_of-push es (Question k low high line) test)
values_of-push (Question j l m n ∷ es) e test = values_of-push es e test

line_here : (before : List Event) (e : Event) (es : List Event) → Below (rank e) before → Ascending (rank e) es
    → line_met (values_of before) e ≡ line_asked (before ++ e ∷ es) e
line_here before (Value k v) es b a = refl
line_here before (Question key low high line) es b a =
    ap (λ t. line_when t line)
    (sym (list_any-append (comes_before key low high) before (Question key low high line ∷ es)
    ∙ (ap (λ t. list_any (comes_before key low high) before || t) (none_after key low high (2 * key) es (omega arith) a)
    ∙ (or-false (list_any (comes_before key low high) before) ∙ all_before key low high before b))))

-- ---- events in another order

line_asked-permutation : (xs ys : List Event) → IsPermutation xs ys → (e : Event) → line_asked ys e ≡ line_asked xs e
line_asked-permutation xs ys p (Value k v) = refl
line_asked-permutation xs ys p (Question key low high line) = ap (λ b. line_when b line) (any-permutation (comes_before key low high) xs ys p)

-- ---- all lines

lines_swept-asked : (n : ℕ) (before es : List Event) → Below n before → Ascending n es
    → lines_swept (values_of before) es ≡ flat_map (λ e. option_to_list (line_asked (before ++ es) e)) es
lines_swept-asked n before [] b a = refl
lines_swept-asked n before (e ∷ es) b a =
    ap (λ o. option_to_list o ++ lines_swept (with_event e (values_of before)) es) (line_here before e es (below-later n (rank e) before a.0 b) a.1)
    ∙ ap (λ ls. option_to_list (line_asked (before ++ e ∷ es) e) ++ ls)
    (lines_swept-same (with_event e (values_of before)) (values_of (before ++ e ∷ [])) (λ test. sym (values_of-push before e test)) es
    ∙ (lines_swept-asked (rank e) (before ++ e ∷ []) es (below-push (rank e) before e (below-later n (rank e) before a.0 b) (omega arith)) a.1
    ∙ ap (λ all. flat_map (λ f. option_to_list (line_asked all f)) es) (append_assoc before (e ∷ []) es)))

pub lines-met : (test : ℕ → Bool) (xs ys : List Event) → IsPermutation xs ys → IsNonDecreasingBy rank ys → list_any test (lines_swept [] ys) ≡ list_any test (lines_asked xs)
lines-met test xs ys p h =
    ap (list_any test) (lines_swept-asked 0 [] ys tt (ascending ys h))
    ∙ (any-flat test (λ e. option_to_list (line_asked ys e)) ys
    ∙ (any-same (λ e. list_any test (option_to_list (line_asked ys e))) (λ e. list_any test (option_to_list (line_asked xs e)))
    (λ e. ap (λ o. list_any test (option_to_list o)) (line_asked-permutation xs ys p e)) ys
    ∙ (any-permutation (λ e. list_any test (option_to_list (line_asked xs e))) xs ys p
    ∙ sym (any-flat test (λ e. option_to_list (line_asked xs e)) xs))))

-- no event is left
pub lines-end : (test : ℕ → Bool) (old found vs : List ℕ) (xs ys : List Event) (i : ℕ) → length ys ≤ i → found ++ lines_swept vs (drop i ys) ≡ old ++ lines_swept [] ys
    → list_any test (lines_swept [] ys) ≡ list_any test (lines_asked xs) → list_any test found ≡ (list_any test old || list_any test (lines_asked xs))
lines-end test old found vs xs ys i le k m =
    ap (list_any test) (sym (append-nil found) ∙ (ap (λ es. found ++ lines_swept vs es) (sym (drop_all i ys le)) ∙ k))
    ∙ (list_any-append test old (lines_swept [] ys) ∙ ap (λ b. list_any test old || b) m)
