-- Names of actual arguments, as loops gather them.
use Rattle.std.proofs.Common.{◌≡◌, Bool, true, false, List, [], ◌∷◌, ◌++◌, refl, ap, sym, ◌∙◌, if◌then◌else◌}
use Rattle.std.specs.List.{flat_map}
use Rattle.hep_machine.specs.Words.{Name, is_among, same_name}
use Rattle.hep_names.specs.Tables.{either}
use Rattle.hep_names.proofs.Referenced.{among-append}

either-assoc : (a b c : Bool) → either (either a b) c ≡ either a (either b c)
either-assoc true b c = refl
either-assoc false b c = refl

pub among-next : {A : Type 0} (x : Name) (f : A → List Name) (a new whole : Bool) (y : A) (ys rest : List A)
    → either a (is_among x (flat_map f ys)) ≡ whole → ys ≡ y ∷ rest → new ≡ either a (is_among x (f y)) → either new (is_among x (flat_map f rest)) ≡ whole
among-next x f a new whole y ys rest h d e =
    ap (λ b. either b (is_among x (flat_map f rest))) e
    ∙ (either-assoc a (is_among x (f y)) (is_among x (flat_map f rest))
    ∙ (ap (either a) (sym (among-append x (f y) (flat_map f rest)))
    ∙ (ap (λ zs. either a (is_among x (flat_map f zs))) (sym d) ∙ h)))

pub among-both : (x : Name) (a b new : Bool) (xs ys : List Name) → b ≡ either a (is_among x xs) → new ≡ either b (is_among x ys) → new ≡ either a (is_among x (xs ++ ys))
among-both x a b new xs ys first second =
    second ∙ (ap (λ c. either c (is_among x ys)) first ∙ (either-assoc a (is_among x xs) (is_among x ys) ∙ ap (either a) (sym (among-append x xs ys))))

pub either_none : (a : Bool) → either a false ≡ a
either_none true = refl
either_none false = refl

pub among-one : (x y : Name) → same_name x y ≡ is_among x (y ∷ [])
among-one x y = by (same_name x y) where
  by : (b : Bool) → b ≡ (if b then true else false)
  by true = refl
  by false = refl
