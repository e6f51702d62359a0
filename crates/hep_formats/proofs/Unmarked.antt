-- A text with marks, without them, is the text.
use Rattle.std.proofs.Common.{◌≡◌, ℕ, List, [], ◌∷◌, ◌++◌, Bool, true, false, if◌then◌else◌, append-nil, append_assoc, refl, sym, ap, ◌∙◌}
use Rattle.hep_formats.specs.Colors.{HasNoEscape, colored, colored_from, last_mark, mark_text, step_at, uncolored, uncolored_from}
use Rattle.hep_formats.specs.declared.mark.Mark.{Mark}
use Rattle.hep_formats.specs.declared.mark.Mark.TheVariants.{Absent, Blue, Bold, BoldBlue, BoldGreen, BoldRed, Dim, Magenta, Plain, Red, Yellow}
use Rattle.hep_formats.specs.declared.place.Place.{Place}
use Rattle.hep_formats.specs.declared.place.Place.TheVariants.{Line}
use Rattle.hep_formats.specs.declared.place.Step.{Step}
use Rattle.hep_formats.specs.declared.place.TextKind.{TextKind}

-- a mark goes from ESC to m
mark-gone : (mark : Mark) (xs : List ℕ) → uncolored_from false (mark_text mark ++ xs) ≡ uncolored_from false xs
mark-gone Absent xs = refl
mark-gone Plain xs = refl
mark-gone Bold xs = refl
mark-gone Dim xs = refl
mark-gone Red xs = refl
mark-gone BoldRed xs = refl
mark-gone BoldGreen xs = refl
mark-gone Yellow xs = refl
mark-gone Blue xs = refl
mark-gone BoldBlue xs = refl
mark-gone Magenta xs = refl

-- a text without ESC, with marks from a place on, is the text without them
pub uncolored-same : (kind : TextKind) (place : Place) (text : List ℕ) → HasNoEscape text → uncolored_from false (colored_from kind place text) ≡ text
uncolored-same kind place [] plain =
    ap (uncolored_from false) (sym (append-nil (mark_text (last_mark place)))) ∙ mark-gone (last_mark place) []
uncolored-same kind place (c ∷ cs) (here, rest) =
    let next = step_at kind place c (c ∷ cs) in
    let left = colored_from kind next.place cs in
    mark-gone next.mark (c ∷ left)
    ∙ ap (λ (b : Bool). if b then uncolored_from true left else c ∷ uncolored_from false left) here
    ∙ ap (λ xs. c ∷ xs) (uncolored-same kind next.place cs rest)

-- so is a text with all its marks
pub same_without : (kind : TextKind) (text items : List ℕ) → items ≡ colored kind text → HasNoEscape text → uncolored items ≡ text
same_without kind text items exact plain = ap uncolored exact ∙ uncolored-same kind Line text plain

-- a text with marks so far, and one byte more
pub more_colored : (kind : TextKind) (place : Place) (rest after items new all : List ℕ) (byte : ℕ) (next : Step) → rest ≡ byte ∷ after
    → next ≡ step_at kind place byte rest → new ≡ items ++ mark_text next.mark ++ byte ∷ []
    → items ++ colored_from kind place rest ≡ all → new ++ colored_from kind next.place after ≡ all
more_colored kind place rest after items new all byte next cut is made so_far =
    let left = colored_from kind next.place after in
    ap (λ xs. xs ++ left) made
    ∙ append_assoc (items ++ mark_text next.mark) (byte ∷ []) left
    ∙ append_assoc items (mark_text next.mark) (byte ∷ left)
    ∙ ap (λ (s : Step). items ++ (mark_text s.mark ++ byte ∷ colored_from kind s.place after)) (is ∙ ap (step_at kind place byte) cut)
    ∙ ap (λ xs. items ++ colored_from kind place xs) (sym cut)
    ∙ so_far
