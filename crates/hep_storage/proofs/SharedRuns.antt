-- Lists against what several lists have in common.
use Rattle.std.proofs.Common.{◌≡◌, ◌≤◌, ◌<◌, ℕ, zero, suc, ◌+◌, ◌-◌, Bool, true, false, not, ◌&&◌, ◌||◌, if◌then◌else◌, List, [], ◌∷◌, ◌++◌, take, drop, set, length, get_or, append-nil, refl, ap, sym, ◌∙◌, arith}
use Rattle.std.proofs.lemmas.List.{drop_more, take_more_set}
use Rattle.hep_machine.specs.Words.{is_nonempty}
use Rattle.hep_storage.specs.SharedPrefix.{InCommon, departs, with_position, in_common, Compares}
use Rattle.hep_storage.specs.declared.shared_prefix.Comparison.TheVariants.{Parted, Within, Beyond}
use Rattle.hep_storage.specs.RunItems.{repeat_before, agree_as_far}
use Rattle.hep_storage.specs.Runs.{alike, positions_in, IsPlace, first_places, later_places, front, rest, heads_differ}
use Rattle.hep_storage.specs.declared.runs.RunPlace.{RunPlace}
use Rattle.hep_storage.specs.declared.runs.Position.{Position}
use Rattle.hep_storage.specs.declared.runs.PositionRun.{PositionRun}
use Rattle.hep_storage.proofs.CommonPrefixes.{alike-self, alike-equal, front-rest, positions-append, rest-none}
use Rattle.hep_source.proofs.Tests.{or-false, or-true}

-- ---- what departs from several lists departs from one of them

agree-departs : (qs rs : List Position) → not (agree_as_far alike qs rs) ≡ departs false qs rs
agree-departs [] [] = refl
agree-departs [] (r ∷ rs) = refl
agree-departs (q ∷ qs) [] = refl
agree-departs (q ∷ qs) (r ∷ rs) = grind (arith, agree-departs qs rs)

pub one-more : (cut : Bool) (ps qs rs : List Position)
    → (not (agree_as_far alike qs rs) || departs cut ps rs) ≡ departs (in_common cut ps qs).is_cut (in_common cut ps qs).positions rs
one-more false [] qs [] = or-false (not (agree_as_far alike qs [])) ∙ agree-departs qs []
one-more false [] qs (r ∷ rs) = or-false (not (agree_as_far alike qs (r ∷ rs))) ∙ agree-departs qs (r ∷ rs)
one-more true [] [] [] = refl
one-more true [] (q ∷ qs) [] = refl
one-more true [] qs (r ∷ rs) = or-true (not (agree_as_far alike qs (r ∷ rs)))
one-more cut (p ∷ ps) [] rs = refl
one-more cut (p ∷ ps) (q ∷ qs) [] = grind arith
one-more cut (p ∷ ps) (q ∷ qs) (r ∷ rs) = grind (arith, one-more cut ps qs rs, alike-equal p q, alike-equal p r, alike-equal q r, alike-self p)

-- ---- from the place on where two lists part

departs-front : (cut : Bool) (fs ps qs : List Position) → departs cut (fs ++ ps) (fs ++ qs) ≡ departs cut ps qs
departs-front cut [] ps qs = refl
departs-front cut (f ∷ fs) ps qs = rw (alike-self f, departs-front cut fs ps qs) refl

departs-heads : (cut : Bool) (ps qs : List Position) → heads_differ ps qs ≡ true → departs cut ps qs ≡ true
departs-heads cut [] qs h = absurd cc
departs-heads cut (p ∷ ps) [] h = absurd cc
departs-heads cut (p ∷ ps) (q ∷ qs) h = ap (λ b. b || departs cut ps qs) h

departs-end : (cut : Bool) (qs : List Position) → departs cut [] qs ≡ (cut && is_nonempty qs)
departs-end true [] = refl
departs-end false [] = refl
departs-end true (q ∷ qs) = refl
departs-end false (q ∷ qs) = refl

departs-none : (cut : Bool) (ps : List Position) → departs cut ps [] ≡ false
departs-none cut [] = refl
departs-none cut (p ∷ ps) = refl

in_common-front : (cut : Bool) (fs ps qs : List Position) → in_common cut (fs ++ ps) (fs ++ qs) ≡ record { positions = fs ++ (in_common cut ps qs).positions; is_cut = (in_common cut ps qs).is_cut }
in_common-front cut [] ps qs = refl
in_common-front cut (f ∷ fs) ps qs =
    ap (λ b. if b then with_position f (in_common cut (fs ++ ps) (fs ++ qs)) else record { positions = []; is_cut = true }) (alike-self f)
    ∙ ap (with_position f) (in_common-front cut fs ps qs)

in_common-heads : (cut : Bool) (ps qs : List Position) → heads_differ ps qs ≡ true → in_common cut ps qs ≡ record { positions = []; is_cut = true }
in_common-heads cut [] qs h = absurd cc
in_common-heads cut (p ∷ ps) [] h = absurd cc
in_common-heads cut (p ∷ ps) (q ∷ qs) h = grind arith

in_common-none : (cut : Bool) (ps : List Position) → in_common cut ps [] ≡ record { positions = ps; is_cut = cut }
in_common-none true [] = refl
in_common-none false [] = refl
in_common-none cut (p ∷ ps) = refl

abbrev behind_front : List Position → InCommon → InCommon
behind_front fs c = record { positions = fs ++ c.positions; is_cut = c.is_cut }

module _ (p q : RunPlace) (xs ys : List PositionRun) (is : IsPlace p xs) (at : IsPlace q ys) (same : front p xs ≡ front q ys) where
  second-is : positions_in ys ≡ front p xs ++ rest q ys
  second-is = front-rest q ys at ∙ ap (λ ps. ps ++ rest q ys) (sym same)

  whole : (cut : Bool) → departs cut (positions_in xs) (positions_in ys) ≡ departs cut (rest p xs) (rest q ys)
  whole cut = rw (front-rest p xs is, second-is) (departs-front cut (front p xs) (rest p xs) (rest q ys))

  common : (cut : Bool) → in_common cut (positions_in xs) (positions_in ys) ≡ behind_front (front p xs) (in_common cut (rest p xs) (rest q ys))
  common cut = rw (front-rest p xs is, second-is) (in_common-front cut (front p xs) (rest p xs) (rest q ys))

  pub parted : heads_differ (rest p xs) (rest q ys) ≡ true → Compares xs ys (Parted p)
  parted h = (
    is,
    λ cut. whole cut ∙ departs-heads cut (rest p xs) (rest q ys) h,
    λ cut.
        common cut
        ∙ (ap (behind_front (front p xs)) (in_common-heads cut (rest p xs) (rest q ys) h)
        ∙ ap (λ ps. record { positions = ps; is_cut = true }) (append-nil (front p xs))),
  )

  pub within : length ys ≤ q.run → Compares xs ys Within
  within h = (
    λ cut. whole cut ∙ (ap (departs cut (rest p xs)) (rest-none q ys h) ∙ departs-none cut (rest p xs)),
    λ cut.
        common cut
        ∙ (ap (behind_front (front p xs)) (ap (in_common cut (rest p xs)) (rest-none q ys h) ∙ in_common-none cut (rest p xs))
        ∙ ap (λ ps. record { positions = ps; is_cut = cut }) (sym (front-rest p xs is))),
  )

  pub beyond : length xs ≤ p.run → Compares xs ys (Beyond q)
  beyond h = (
    at,
    λ cut. whole cut ∙ (ap (λ ps. departs cut ps (rest q ys)) (rest-none p xs h) ∙ departs-end cut (rest q ys)),
    λ cut. common cut ∙ (ap (λ ps. behind_front (front p xs) (in_common cut ps (rest q ys))) (rest-none p xs h) ∙ by cut),
  )
    where
      first-whole : positions_in xs ≡ front p xs
      first-whole = front-rest p xs is ∙ (ap (λ ps. front p xs ++ ps) (rest-none p xs h) ∙ append-nil (front p xs))

      by : (b : Bool) → behind_front (front p xs) (in_common b [] (rest q ys)) ≡ (if b then record { positions = positions_in xs; is_cut = true } else record { positions = positions_in ys; is_cut = false })
      by true = ap (λ ps. record { positions = ps; is_cut = true }) (append-nil (front p xs) ∙ sym first-whole)
      by false = ap (λ ps. record { positions = ps; is_cut = false }) (sym second-is)

-- ---- what is left before a place

pub cut-within : (p : RunPlace) (rs : List PositionRun) (r d : PositionRun) → p.run < length rs → r.position ≡ (get_or rs p.run d).position → r.count ≡ p.before
    → positions_in (take (p.run + 1) (set rs p.run r)) ≡ front p rs
cut-within p rs r d lt e n =
    ap positions_in (take_more_set rs p.run r lt)
    ∙ (positions-append (take p.run rs) (r ∷ [])
    ∙ (ap (λ k. positions_in (take p.run rs) ++ repeat_before k r.position []) n
    ∙ (ap (λ q. positions_in (take p.run rs) ++ repeat_before p.before q []) e
    ∙ ap (λ qs. positions_in (take p.run rs) ++ first_places qs p.before) (sym (drop_more rs p.run d lt)))))

-- ---- whether some place is left

some-repeat : (n : ℕ) (p : Position) (ps : List Position) → 0 < n → is_nonempty (repeat_before n p ps) ≡ true
some-repeat zero p ps h = absurd (omega arith)
some-repeat (suc n) p ps h = refl

pub some-place : (rs : List PositionRun) (i : ℕ) (d : PositionRun) (all : Bool) → i < length rs → is_nonempty (positions_in (drop i rs)) ≡ all → 0 < (get_or rs i d).count → true ≡ all
some-place rs i d all lt h k =
    let r = get_or rs i d in
    sym (ap (λ qs. is_nonempty (positions_in qs)) (drop_more rs i d lt) ∙ some-repeat r.count r.position (positions_in (drop (i + 1) rs)) k) ∙ h

pub more-here : (p : RunPlace) (rs : List PositionRun) (d : PositionRun) → p.run < length rs → p.before < (get_or rs p.run d).count → true ≡ is_nonempty (rest p rs)
more-here p rs d lt h =
    let r = get_or rs p.run d in
    sym (ap (λ qs. is_nonempty (later_places qs p.before)) (drop_more rs p.run d lt) ∙ some-repeat (r.count - p.before) r.position (positions_in (drop (p.run + 1) rs)) (omega arith))
