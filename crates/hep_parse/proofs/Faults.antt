-- What is reported is the first fault, and the other way round.
use Rattle.std.proofs.Common.{◌≡◌, ◌⊎◌, inl, inr, ℕ, Bool, true, false, List, [], ◌∷◌, ◌++◌, length, Option, Some, None, Result, Ok, Err, refl, sym, ap, subst, ◌∙◌, arith, ◌≢◌, not, ◌&&◌, ◌||◌}
use Rattle.hep_source.specs.Tree.{Tree}
use Rattle.hep_source.specs.declared.statement.Form.{Form}
use Rattle.hep_text.specs.declared.statement.Stmt.{Stmt}
use Rattle.hep_expression.specs.declared.characters.Sizes.{Sizes}
use Rattle.hep_expression.specs.declared.characters.Sizes.TheVariants.{Fitting, Any}
use Rattle.hep_expression.proofs.Leaves.{chosen}
use Rattle.hep_parse.specs.declared.program.StatementClass.{StatementClass}
use Rattle.hep_parse.specs.declared.program.StatementClass.TheVariants as part
use Rattle.hep_parse.specs.declared.program.State.{State}
use Rattle.hep_parse.specs.Statement.{context, IsForm}
use Rattle.hep_parse.specs.Program.{class_of, MayStandAfter, begins_main, HasNoReading, IsLeftOutStatement, IsMisplaced, IsRefusedStatement, parts_after, main_after, IsFirstFaultFrom, IsFirstFault}
use Rattle.hep_parse.specs.ReadingStatement.{form}
use Rattle.hep_parse.specs.ReadingProgram.{Refusal, or_refusal, left_out, with_line, nameless_refusal, refusal_of, statement, is_start, may_follow, state_after_statement, placed, after_one, ended, units, nothing_read, program}
use Rattle.hep_parse.proofs.Forms.{form_is, form_read, any_form}
use Rattle.hep_parse.proofs.LeftOut.{left_out_is, left_out_read}
use Rattle.hep_parse.proofs.Programs.{ok, refused, refusal_is, not_both, stand_is, is_stand, is_empty, Stands, stands_first, next_state, stands_end, stands_other, state_is, end_or_other, stage_after_other}
use Rattle.std.proofs.lemmas.Option.{same_Some, none-some}
use Rattle.std.proofs.lemmas.Bool.{not-false}

-- ---- readings

-- a text has one form at most
one_form : (z : Sizes) (s : List ℕ) (conditions more : List Tree) (f g : Form) → IsForm z s conditions f → IsForm z s more g → ◌≡◌ {A = List Tree × Form} (conditions, f) (more, g)
one_form z s conditions more f g h k = same_Some (conditions, f) (more, g) (sym (form_read z s conditions f h) ∙ form_read z s more g k)

unread : (z : Sizes) (s : Stmt) → form z s.text ≡ None → HasNoReading z s
unread z s e conditions f h = none-some (conditions, f) (sym e ∙ form_read z s.text conditions f h)

word_left_out : (s : Stmt) (word : List ℕ) → IsLeftOutStatement s word → left_out (context Any s.text) (length s.text) s.text ≡ Some word
word_left_out s word h = left_out_read (context Any s.text) h.0 (length s.text) s.text word (omega arith) h.1

-- ---- the order of statements

both_of : (start main begins : Bool) → (start && main && begins) ≡ true → (start ≡ true) × (main ≡ true) × (begins ≡ true)
both_of true true true e = (refl, refl, refl)
both_of true true false e = absurd cc
both_of true false begins e = absurd cc
both_of false main begins e = absurd cc

empty_is : (before : List StatementClass) → is_empty before ≡ true → before ≡ []
empty_is [] e = refl
empty_is (y ∷ before) e = absurd cc

-- a part may not stand after those before it, or would begin a second main program
abbrev IsDisplaced : State → List StatementClass → StatementClass → Bool → Type 0
IsDisplaced x before p begins = (MayStandAfter before p → ⊥) ⊎ ((before ≡ []) × (x.has_main ≡ true) × (begins ≡ true))

displaced : (x : State) (before : List StatementClass) (p : StatementClass) (begins : Bool) → Stands x before → state_after_statement x p begins ≡ None → IsDisplaced x before p begins
displaced x before p begins stands e = elim (chosen (may_follow x.stage p && not (is_start x.stage && x.has_main && begins)) (Some (next_state x p begins)) None None e) [
  | inl g ↦ absurd (none-some (next_state x p begins) (sym g.1))
  | inr g ↦ go (may_follow x.stage p) refl g.0
]
  where
    go : (first : Bool) → may_follow x.stage p ≡ first → (first && not (is_start x.stage && x.has_main && begins)) ≡ false → IsDisplaced x before p begins
    go false is e = inl (λ h. let clash : true ≡ false = sym (stand_is before p h) ∙ stands.0 p ∙ is in cc)
    go true is e =
        let second = both_of (is_start x.stage) x.has_main begins (not-false (is_start x.stage && x.has_main && begins) e) in
        inr (empty_is before (sym stands.1 ∙ second.0), second.1, second.2)

not_displaced : (x : State) (before : List StatementClass) (p : StatementClass) (begins : Bool) → Stands x before → may_follow x.stage p ≡ true → (is_start x.stage && x.has_main && begins) ≡ false → IsDisplaced x before p begins → ⊥
not_displaced x before p begins stands first second h = elim h [
  | inl g ↦ g (is_stand before p (stands.0 p ∙ first))
  | inr g ↦ (
      let start : is_start x.stage ≡ true = stands.1 ∙ ap is_empty g.0 in
      let clash : true ≡ false = sym (rw (start, g.1, g.2) refl) ∙ second in
      cc)
]

parts_other : (before : List StatementClass) (p : StatementClass) → p ≢ part.End → parts_after before p ≡ before ++ p ∷ []
parts_other before part.Header h = refl
parts_other before part.Implicit h = refl
parts_other before part.Parameter h = refl
parts_other before part.Specification h = refl
parts_other before part.Action h = refl
parts_other before part.End h = absurd (h refl)

stands_after : (x : State) (before : List StatementClass) (p : StatementClass) (begins : Bool) → Stands x before → may_follow x.stage p ≡ true → Stands (next_state x p begins) (parts_after before p)
stands_after x before p begins stands first = elim (end_or_other p) [
  | inl e ↦ (
      let none : parts_after before p ≡ [] = rw e refl in
      subst (Stands (next_state x p begins)) (sym none) (stands_end x p begins e))
  | inr h ↦ subst (Stands (next_state x p begins)) (sym (parts_other before p h)) (stands_other x before p begins stands first h)
]

main_next : (start main : Bool) (before : List StatementClass) (f : Form) → start ≡ is_empty before → (main || (start && begins_main f)) ≡ main_after before main f
main_next true true [] f e = refl
main_next true false [] f e = refl
main_next true main (y ∷ before) f e = absurd cc
main_next false main [] f e = absurd cc
main_next false true (y ∷ before) f e = refl
main_next false false (y ∷ before) f e = refl

-- ---- one statement

-- It is refused with this number and name and no other, and that is reported.
abbrev Refuses : State → List StatementClass → Stmt → List Stmt → ℕ → List ℕ → Type 0
Refuses x before s rest_after n w =
    IsRefusedStatement before x.has_main s rest_after n w
    × ((m : ℕ) (v : List ℕ) → IsRefusedStatement before x.has_main s rest_after m v → (m ≡ n) × (v ≡ w))
    × ((line : ℕ) → units x line (s ∷ rest_after) ≡ Err (n, s.line, w))

-- It isn't refused, and what is reported is that of those after it.
abbrev Passes : State → List StatementClass → Stmt → List Stmt → List Tree × Form → State → Type 0
Passes x before s rest_after c next =
    ((m : ℕ) (v : List ℕ) → IsRefusedStatement before x.has_main s rest_after m v → ⊥)
    × IsForm Fitting s.text c.0 c.1
    × Stands next (parts_after before (class_of c.0 c.1))
    × (next.has_main ≡ main_after before x.has_main c.1)
    × (rest_after ≡ [] → is_start next.stage ≡ true)
    × ((line : ℕ) → units x line (s ∷ rest_after) ≡ or_refusal (units next s.line rest_after) (λ rest. Ok (after_one (with_line s c) next.stage rest)))

abbrev Judged : State → List StatementClass → Stmt → List Stmt → Type 0
Judged x before s rest_after =
    ((n : ℕ) × (w : List ℕ) × Refuses x before s rest_after n w)
    ⊎ ((c : List Tree × Form) × (next : State) × Passes x before s rest_after c next)

module _ (x : State) (before : List StatementClass) (s : Stmt) (rest_after : List Stmt) where
  no_form : form Fitting s.text ≡ None → form Any s.text ≡ None → left_out (context Any s.text) (length s.text) s.text ≡ None → Refuses x before s rest_after 201 []
  unfolding units placed statement refusal_of nameless_refusal
  no_form none none_any no_word = (inl (refl, unread Any s none_any, no_words, refl), only, λ line. rw (none, none_any, no_word) refl)
    where
      no_words : (word : List ℕ) → IsLeftOutStatement s word → ⊥
      no_words word h = none-some word (sym no_word ∙ word_left_out s word h)

      only : (m : ℕ) (v : List ℕ) → IsRefusedStatement before x.has_main s rest_after m v → (m ≡ 201) × (v ≡ [])
      only m v h = elim h [
        | inl g ↦ (g.0, g.3)
        | inr g ↦ (elim g [
          | inl w ↦ absurd (no_words v w.2)
          | inr w ↦ (elim w [
            | inl q ↦ absurd (unread Any s none_any q.1.0 q.1.1 q.1.2)
            | inr q ↦ absurd (unread Fitting s none q.1 q.2 q.3)
          ])
        ])
      ]

  left_out_form : (word : List ℕ) → form Fitting s.text ≡ None → form Any s.text ≡ None → left_out (context Any s.text) (length s.text) s.text ≡ Some word → Refuses x before s rest_after 202 word
  unfolding units placed statement refusal_of nameless_refusal
  left_out_form word none none_any found = (inr (inl (refl, unread Any s none_any, is)), only, λ line. rw (none, none_any, found) refl)
    where
      is : IsLeftOutStatement s word
      is = left_out_is (context Any s.text) (length s.text) s.text word (omega arith) found

      only : (m : ℕ) (v : List ℕ) → IsRefusedStatement before x.has_main s rest_after m v → (m ≡ 202) × (v ≡ word)
      only m v h = elim h [
        | inl g ↦ absurd (g.2 word is)
        | inr g ↦ (elim g [
          | inl w ↦ (w.0, same_Some v word (sym (word_left_out s v w.2) ∙ found))
          | inr w ↦ (elim w [
            | inl q ↦ absurd (unread Any s none_any q.1.0 q.1.1 q.1.2)
            | inr q ↦ absurd (unread Fitting s none q.1 q.2 q.3)
          ])
        ])
      ]

  too_large : (c : List Tree × Form) → form Fitting s.text ≡ None → form Any s.text ≡ Some c → Refuses x before s rest_after 203 []
  unfolding units placed statement refusal_of
  too_large c none large = (inr (inr (inl (refl, (c.0, c.1, is), unread Fitting s none, refl))), only, λ line. rw (none, large) refl)
    where
      is : IsForm Any s.text c.0 c.1
      is = form_is Any s.text c large

      only : (m : ℕ) (v : List ℕ) → IsRefusedStatement before x.has_main s rest_after m v → (m ≡ 203) × (v ≡ [])
      only m v h = elim h [
        | inl g ↦ absurd (g.1 c.0 c.1 is)
        | inr g ↦ (elim g [
          | inl w ↦ absurd (w.1 c.0 c.1 is)
          | inr w ↦ (elim w [
            | inl q ↦ (q.0, q.3)
            | inr q ↦ absurd (unread Fitting s none q.1 q.2 q.3)
          ])
        ])
      ]

  -- a statement that is read is refused only for where it stands
  only_place : (c : List Tree × Form) → form Fitting s.text ≡ Some c → (m : ℕ) (v : List ℕ) → IsRefusedStatement before x.has_main s rest_after m v → (m ≡ 205) × (v ≡ []) × IsMisplaced before x.has_main c.0 c.1 rest_after
  only_place c found m v h =
      let is = form_is Fitting s.text c found in
      elim h [
        | inl g ↦ absurd (g.1 c.0 c.1 (any_form s.text c.0 c.1 is))
        | inr g ↦ (elim g [
          | inl w ↦ absurd (w.1 c.0 c.1 (any_form s.text c.0 c.1 is))
          | inr w ↦ (elim w [
            | inl q ↦ absurd (q.2 c.0 c.1 is)
            | inr q ↦ (q.0, q.5, subst (λ (y : List Tree × Form). IsMisplaced before x.has_main y.0 y.1 rest_after) (one_form Fitting s.text q.1 c.0 q.2 c.1 q.3 is) q.4)
          ])
        ])
      ]

  module _ (c : List Tree × Form) (found : form Fitting s.text ≡ Some c) where
    reported_only : (m : ℕ) (v : List ℕ) → IsRefusedStatement before x.has_main s rest_after m v → (m ≡ 205) × (v ≡ [])
    reported_only m v h = let o = only_place c found m v h in (o.0, o.1)

    misplaced : Stands x before → state_after_statement x (class_of c.0 c.1) (begins_main c.1) ≡ None → Refuses x before s rest_after 205 []
    unfolding units placed statement
    misplaced stands none =
        let is = form_is Fitting s.text c found in
        let why : IsMisplaced before x.has_main c.0 c.1 rest_after = elim (displaced x before (class_of c.0 c.1) (begins_main c.1) stands none) [ inl g ↦ inl g | inr g ↦ inr (inl g) ] in
        (inr (inr (inr (refl, c.0, c.1, is, why, refl))), reported_only, λ line. rw (found, none) refl)

    last_is_no_end : (next : State) → state_after_statement x (class_of c.0 c.1) (begins_main c.1) ≡ Some next → class_of c.0 c.1 ≢ part.End → is_start next.stage ≡ false → rest_after ≡ [] → Refuses x before s rest_after 205 []
    unfolding units placed statement
    last_is_no_end next goes other within last =
        let is = form_is Fitting s.text c found in
        (inr (inr (inr (refl, c.0, c.1, is, inr (inr (last, other)), refl))), reported_only, λ line. rw (found, goes, last, within) refl)

    passes : (next : State) → Stands x before → state_after_statement x (class_of c.0 c.1) (begins_main c.1) ≡ Some next → (rest_after ≡ [] → class_of c.0 c.1 ≡ part.End) → (rest_after ≡ [] → is_start next.stage ≡ true) → Passes x before s rest_after c next
    unfolding units placed statement
    passes next stands goes_on last start =
        let q = state_is x next (class_of c.0 c.1) (begins_main c.1) goes_on in
        let stands_next : Stands next (parts_after before (class_of c.0 c.1)) = subst (λ (y : State). Stands y (parts_after before (class_of c.0 c.1))) q.2 (stands_after x before (class_of c.0 c.1) (begins_main c.1) stands q.0) in
        let main_is : next.has_main ≡ main_after before x.has_main c.1 = sym (ap (λ (y : State). y.has_main) q.2) ∙ main_next (is_start x.stage) x.has_main before c.1 stands.1 in
        (fine q.0 q.1, form_is Fitting s.text c found, stands_next, main_is, start, λ line. rw (found, goes_on) refl)
      where
        fine : may_follow x.stage (class_of c.0 c.1) ≡ true → (is_start x.stage && x.has_main && begins_main c.1) ≡ false → (m : ℕ) (v : List ℕ) → IsRefusedStatement before x.has_main s rest_after m v → ⊥
        fine first second m v h = elim (only_place c found m v h).2 [
          | inl g ↦ not_displaced x before (class_of c.0 c.1) (begins_main c.1) stands first second (inl g)
          | inr g ↦ (elim g [
            | inl w ↦ not_displaced x before (class_of c.0 c.1) (begins_main c.1) stands first second (inr w)
            | inr w ↦ w.1 (last w.0)
          ])
        ]

    placed_or_not : Stands x before → Judged x before s rest_after
    placed_or_not stands = go (state_after_statement x (class_of c.0 c.1) (begins_main c.1)) refl
      where
        by_place : (next : State) → state_after_statement x (class_of c.0 c.1) (begins_main c.1) ≡ Some next → (l : List Stmt) → rest_after ≡ l → Judged x before s rest_after
        by_place next goes_on [] e =
            let stage_is : is_start (next_state x (class_of c.0 c.1) (begins_main c.1)).stage ≡ is_start next.stage = ap (λ (y : State). is_start y.stage) (state_is x next (class_of c.0 c.1) (begins_main c.1) goes_on).2 in
            elim (end_or_other (class_of c.0 c.1)) [
              | inl last ↦ (
                  let start : is_start next.stage ≡ true = sym stage_is ∙ (stands_end x (class_of c.0 c.1) (begins_main c.1) last).1 in
                  inr (c, next, passes next stands goes_on (λ h. last) (λ h. start)))
              | inr other ↦ inl (205, [], last_is_no_end next goes_on other (sym stage_is ∙ stage_after_other x.stage (class_of c.0 c.1) other) e)
            ]
        by_place next goes_on (b ∷ l) e = inr (c, next, passes next stands goes_on (λ h. absurd (let d = sym e ∙ h in cc)) (λ h. absurd (let d = sym e ∙ h in cc)))

        go : (o : Option State) → state_after_statement x (class_of c.0 c.1) (begins_main c.1) ≡ o → Judged x before s rest_after
        go None none = inl (205, [], misplaced stands none)
        go (Some next) goes_on = by_place next goes_on rest_after refl

  judged : Stands x before → Judged x before s rest_after
  judged stands = go (form Fitting s.text) refl (form Any s.text) refl
    where
      nameless : form Fitting s.text ≡ None → form Any s.text ≡ None → (o : Option (List ℕ)) → left_out (context Any s.text) (length s.text) s.text ≡ o → Judged x before s rest_after
      nameless none none_any None e = inl (201, [], no_form none none_any e)
      nameless none none_any (Some word) e = inl (202, word, left_out_form word none none_any e)

      go : (o : Option (List Tree × Form)) → form Fitting s.text ≡ o → (a : Option (List Tree × Form)) → form Any s.text ≡ a → Judged x before s rest_after
      go None none None none_any = nameless none none_any (left_out (context Any s.text) (length s.text) s.text) refl
      go None none (Some c) large = inl (203, [], too_large c none large)
      go (Some c) found a e = placed_or_not c found stands

-- ---- all statements

with_refusal : {A B : Type 0} (r : Result A Refusal) (f : A → B) (e : Refusal) → or_refusal r (λ rest. ok (f rest)) ≡ Err e → r ≡ Err e
with_refusal (Ok y) f e h = absurd (not_both (f y) e (sym h))
with_refusal (Err n) f e h = let same : n ≡ e = refusal_is n e (Err n) refl h in ap (λ z. Err z) same

first_reported : (given : List Stmt) (before : List StatementClass) (x : State) (last number line : ℕ) (name : List ℕ) → Stands x before → (given ≡ [] → is_start x.stage ≡ true) → units x last given ≡ refused (number, line, name) → IsFirstFaultFrom before x.has_main given number line name
unfolding units
first_reported [] before x last number line name stands ends e = go (is_start x.stage) x.has_main (ends refl) e
  where
    go : (start main : Bool) → start ≡ true → ended start main last ≡ refused (number, line, name) → (main ≡ false) × (number ≡ 204) × (line ≡ 0) × (name ≡ [])
    go true true is e = absurd (not_both [] (number, line, name) (sym e))
    go true false is e =
        let same = refusal_is (204, 0, []) (number, line, name) (ended true false last) refl e in
        (refl, sym (ap (λ (y : Refusal). y.0) same), sym (ap (λ (y : Refusal). y.1) same), sym (ap (λ (y : Refusal). y.2) same))
    go false main is e = absurd cc
first_reported (s ∷ rest_after) before x last number line name stands ends e = elim (judged x before s rest_after stands) [
  | inl g ↦ (
      let same = refusal_is (g.0, s.line, g.1) (number, line, name) (units x last (s ∷ rest_after)) (g.2.2 last) e in
      let is : IsRefusedStatement before x.has_main s rest_after number name = subst (λ (y : Refusal). IsRefusedStatement before x.has_main s rest_after y.0 y.2) same g.2.0 in
      inl (is, sym (ap (λ (y : Refusal). y.1) same)))
  | inr g ↦ (
      let c = g.0 in
      let p = g.2 in
      let rest = with_refusal (units g.1 s.line rest_after) (λ rest. after_one (with_line s c) g.1.stage rest) (number, line, name) (sym (p.5 last) ∙ e) in
      let rest_after_is = first_reported rest_after (parts_after before (class_of c.0 c.1)) g.1 s.line number line name p.2 p.4 rest in
      inr (p.0, c.0, c.1, p.1, subst (λ (b : Bool). IsFirstFaultFrom (parts_after before (class_of c.0 c.1)) b rest_after number line name) p.3 rest_after_is))
]

first_is_reported : (given : List Stmt) (before : List StatementClass) (x : State) (last number line : ℕ) (name : List ℕ) → Stands x before → (given ≡ [] → is_start x.stage ≡ true) → IsFirstFaultFrom before x.has_main given number line name → units x last given ≡ refused (number, line, name)
unfolding units
first_is_reported [] before x last number line name stands ends h =
    let start : is_start x.stage ≡ true = ends refl in
    rw (start, h.0, h.1, h.2, h.3) refl
first_is_reported (s ∷ rest_after) before x last number line name stands ends h = elim (judged x before s rest_after stands) [
  | inl g ↦ (elim h [
    | inl w ↦ (
        let same = g.2.1 number name w.0 in
        g.2.2 last ∙ rw (same.0, same.1, w.1) refl)
    | inr w ↦ absurd (w.0 g.0 g.1 g.2.0)
  ])
  | inr g ↦ (elim h [
    | inl w ↦ absurd (g.2.0 number name w.0)
    | inr w ↦ (
        let p = g.2 in
        let same = one_form Fitting s.text w.1 g.0.0 w.2 g.0.1 w.3 p.1 in
        let moved : IsFirstFaultFrom (parts_after before (class_of g.0.0 g.0.1)) (main_after before x.has_main g.0.1) rest_after number line name = subst (λ (y : List Tree × Form). IsFirstFaultFrom (parts_after before (class_of y.0 y.1)) (main_after before x.has_main y.1) rest_after number line name) same w.4 in
        let is : IsFirstFaultFrom (parts_after before (class_of g.0.0 g.0.1)) g.1.has_main rest_after number line name = subst (λ (b : Bool). IsFirstFaultFrom (parts_after before (class_of g.0.0 g.0.1)) b rest_after number line name) (sym p.3) moved in
        p.5 last ∙ ap (λ (r : Result _ Refusal). or_refusal r (λ rest. ok (after_one (with_line s g.0) g.1.stage rest))) (first_is_reported rest_after (parts_after before (class_of g.0.0 g.0.1)) g.1 s.line number line name p.2 p.4 is))
  ])
]

pub is_first_fault : (given : List Stmt) (number line : ℕ) (name : List ℕ) → program given ≡ refused (number, line, name) → IsFirstFault given number line name
is_first_fault given number line name e = first_reported given [] nothing_read 0 number line name stands_first (λ h. refl) e

pub first_fault_reported : (given : List Stmt) (number line : ℕ) (name : List ℕ) → IsFirstFault given number line name → program given ≡ refused (number, line, name)
first_fault_reported given number line name h = first_is_reported given [] nothing_read 0 number line name stands_first (λ e. refl) h
