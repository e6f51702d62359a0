-- Shapes of names, declarator by declarator.
use Rattle.std.proofs.Common.{◌≡◌, Bool, true, false, not, ◌&&◌, if◌then◌else◌, Option, Some, None, List, ◌∷◌, refl, ap, sym, ◌∙◌}
use Rattle.std.specs.Option.{option_or, option_map}
use Rattle.hep_machine.specs.Words.{Declarator, Name, Statement, same_name, value_among, bounds_of, declarators_in, constants_in, declarator_among, is_nonempty, Bounds}
use Rattle.hep_conditions.specs.Words.{Parameters, shape_by_declarator, known_shape_from, with_parameters, has_bounds, are_bounds_open}
use Rattle.hep_names.specs.Tables.{by_name, by_declarator, given}
use Rattle.hep_source.proofs.NameTests.{same_name-turned}
use Rattle.hep_types.specs.Shapes.{shape_or, shape_among}

-- ---- tables

module _ (f : Declarator → Option Bounds) (x : Name) where
  -- a shape that a table gets
  pub noted : (d : Declarator) (o : Option Bounds) → is_nonempty d.dimensions ≡ true → o ≡ f d → by_name d.occurrence.name o x ≡ option_map f (by_declarator d x)
  noted d o h e = ap (λ b. if b then Some o else None) (same_name-turned x d.occurrence.name) ∙ rw h (by (same_name d.occurrence.name x))
    where
      by : (b : Bool) → (if b then Some o else None) ≡ option_map f (given (b && true) d)
      by true = ap Some e
      by false = refl

-- a turn of a loop over statements
pub shape-noted : (unit : List Statement) (ps : Parameters) (x : Name) (ds : List Declarator) (old : Option (Option Bounds)) (later : Option Bounds)
    → shape_or (option_or old (shape_among unit ps x ds)) later ≡ shape_or old (shape_by_declarator unit ps (declarator_among x ds) later)
shape-noted unit ps x ds (Some o) later = refl
shape-noted unit ps x ds None later = by (declarator_among x ds)
  where
    by : (o : Option Declarator) → shape_or (option_map (λ (d : Declarator). if has_bounds unit ps d && not (are_bounds_open unit ps d) then bounds_of unit (value_among ps.known) d.dimensions else None) o) later ≡ shape_by_declarator unit ps o later
    by None = refl
    by (Some d) = refl

pub next-shape : (unit : List Statement) (ps qs : Parameters) (x : Name) (ds : List Declarator) (old new : Option (Option Bounds)) (s : Statement) (xs ys : List Statement) (whole : Option Bounds)
    → shape_or old (known_shape_from unit ps xs x) ≡ whole → new ≡ option_or old (shape_among unit ps x ds) → ds ≡ declarators_in s.form
    → qs ≡ with_parameters unit ps (constants_in s.form) → xs ≡ s ∷ ys → shape_or new (known_shape_from unit qs ys x) ≡ whole
next-shape unit ps qs x ds old new s xs ys whole h n d q e =
    ap (λ o. shape_or o (known_shape_from unit qs ys x)) (n ∙ ap (λ es. option_or old (shape_among unit ps x es)) d)
    ∙ (ap (λ p. shape_or (option_or old (shape_among unit ps x (declarators_in s.form))) (known_shape_from unit p ys x)) q
    ∙ (shape-noted unit ps x (declarators_in s.form) old (known_shape_from unit (with_parameters unit ps (constants_in s.form)) ys x)
    ∙ (ap (λ zs. shape_or old (known_shape_from unit ps zs x)) (sym e) ∙ h)))
