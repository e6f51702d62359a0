-- The grammar of a statement's text, in the standard's words. The clause `constants` of `statements` says that the definitions of
-- Constant agree with it.
use Rattle.std.specs.Prelude.{◌≡◌, ◌≢◌, Bool, true, false, List, [], ◌∷◌, ◌++◌}
use Rattle.hep_text.specs.Constant.{Character, is_apostrophe, upper_case, is_over, text_from, scanner_after}
use Rattle.hep_text.specs.Line.{is_blank}
use Rattle.hep_text.specs.declared.constant.Scanner.TheVariants.{Outside}

-- The characters that may be between the apostrophes of a constant: two adjacent apostrophes represent one.
pub data Within : List Character → Type 0 where
  none : Within []
  other : (x : Character) (u : List Character) → is_apostrophe x.byte ≡ false → Within u → Within (x ∷ u)
  doubled : (x y : Character) (u : List Character) → is_apostrophe x.byte ≡ true → is_apostrophe y.byte ≡ true → Within u → Within (x ∷ y ∷ u)

-- whether a list of characters begins with an apostrophe
abbrev pub at_apostrophe : List Character → Bool
at_apostrophe [] = false
at_apostrophe (x ∷ xs) = is_apostrophe x.byte

-- The second list is the text of the first. Outside constants blanks don't count (X3.9-1978, 3.1.6), and a lower-case letter is its
-- upper-case letter. Constants are kept as they are. A constant is an apostrophe, at least one character, and an apostrophe that isn't
-- the first of two (X3.9-1978, 4.8.1).
pub data IsText : List Character → List Character → Type 0 where
  nothing : IsText [] []
  blank : (x : Character) (s t : List Character) → is_blank x.byte ≡ true → IsText s t → IsText (x ∷ s) t
  plain : (x : Character) (s t : List Character) → is_blank x.byte ≡ false → is_apostrophe x.byte ≡ false → IsText s t → IsText (x ∷ s) (record { byte = upper_case x.byte; span = x.span } ∷ t)
  constant : (x y : Character) (u s t : List Character) → is_apostrophe x.byte ≡ true → u ≢ [] → Within u → is_apostrophe y.byte ≡ true → at_apostrophe s ≡ false → IsText s t → IsText (x ∷ (u ++ y ∷ s)) (x ∷ (u ++ y ∷ t))

-- The definitions of Constant give t as the text of s, and none of the constants of s is open or empty.
abbrev pub Gives : List Character → List Character → Type 0
Gives s t = (is_over (scanner_after Outside s) ≡ true) × (text_from Outside s ≡ t)
