-- The letters that ranges have, by their first letters.
use Rattle.std.proofs.Common.{◌≡◌, ℕ, zero, suc, ◌+◌, ◌<◌, Bool, true, false, ◌&&◌, ◌||◌, nat_le, nat_lt, Option, Some, None, List, [], ◌∷◌, length, get_or, take, refl, ◌∙◌, ap, arith, slice_set, replicate}
use Rattle.std.specs.List.{list_any}
use Rattle.std.proofs.lemmas.Bool.Decides.{nat_tests}
use Rattle.hep_machine.specs.Words.{LetterRange}
use Rattle.hep_conditions.specs.Words.{overlap}
use Rattle.hep_types.specs.AmbiguityLines.{reaches, meets, later_letter}
use Rattle.hep_source.proofs.Tests.{or-assoc, or-turned}

or-none : (a : Bool) → a ≡ (a || false)
or-none true = refl
or-none false = refl

reaches-later : (c l : ℕ) (o : Option ℕ) → reaches c (later_letter o l) ≡ (nat_le c l || reaches c o)
reaches-later c l None = or-none (nat_le c l)
reaches-later c l (Some k) = grind (arith, nat_tests)

below-none : (f : ℕ) → false ≡ nat_lt f 0
below-none f = grind (arith, nat_tests)

below-first : (k : ℕ) → true ≡ nat_lt 0 (suc k)
below-first k = grind (arith, nat_tests)

below-next : (f k : ℕ) → nat_lt f k ≡ nat_lt (suc f) (suc k)
below-next f k = grind (arith, nat_tests)

-- one range more
reaches-noted : (c l k f : ℕ) (os : List (Option ℕ)) → f < length os
    → list_any (reaches c) (take k (slice_set os f (later_letter (get_or os f None) l))) ≡ ((nat_lt f k && nat_le c l) || list_any (reaches c) (take k os))
reaches-noted c l k f [] h = absurd (omega arith)
reaches-noted c l zero f (o ∷ os) h = ap (λ b. (b && nat_le c l) || false) (below-none f)
reaches-noted c l (suc k) zero (o ∷ os) h =
    let rest = list_any (reaches c) (take k os) in
    ap (λ b. b || rest) (reaches-later c l o)
    ∙ (or-assoc (nat_le c l) (reaches c o) rest ∙ ap (λ b. (b && nat_le c l) || (reaches c o || rest)) (below-first k))
reaches-noted c l (suc k) (suc f) (o ∷ os) h =
    let rest = list_any (reaches c) (take k os) in
    let within : f < length os = omega arith in
    ap (λ b. reaches c o || b) (reaches-noted c l k f os within)
    ∙ (or-turned (reaches c o) (nat_lt f k && nat_le c l) rest ∙ ap (λ b. (b && nat_le c l) || (reaches c o || rest)) (below-next f k))

overlaps : (a b f l : ℕ) → (nat_lt f (b + 1) && nat_le a l) ≡ (nat_le a l && nat_le f b)
overlaps a b f l = grind (arith, nat_tests)

pub meets-noted : (lasts : List (Option ℕ)) (u r : LetterRange) → u.first < length lasts
    → meets (slice_set lasts u.first (later_letter (get_or lasts u.first None) u.last)) r ≡ (overlap r u || meets lasts r)
meets-noted lasts u r h =
    reaches-noted r.first u.last (r.last + 1) u.first lasts h ∙ ap (λ b. b || meets lasts r) (overlaps r.first r.last u.first u.last)

none-reached : (c k n : ℕ) → list_any (reaches c) (take k (replicate n None)) ≡ false
none-reached c zero n = refl
none-reached c (suc k) zero = refl
none-reached c (suc k) (suc n) = none-reached c k n

pub none-met : (n : ℕ) (r : LetterRange) → meets (replicate n None) r ≡ false
none-met n r = none-reached r.first (r.last + 1) n
