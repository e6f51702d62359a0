-- What is read as a program is one, and the other way round.
use Rattle.std.proofs.Common.{◌≡◌, ◌⊎◌, inl, inr, ℕ, Bool, true, false, List, [], ◌∷◌, ◌++◌, Option, Some, None, Result, Ok, Err, refl, sym, ap, subst, ◌∙◌, ◌≢◌, ok_or, not, ◌&&◌, ◌||◌}
use Rattle.hep_source.specs.Tree.{Tree}
use Rattle.hep_source.specs.declared.statement.Form.{Form}
use Rattle.hep_source.specs.declared.statement.Statement.{Statement}
use Rattle.hep_text.specs.declared.statement.Stmt.{Stmt}
use Rattle.hep_expression.specs.declared.characters.Sizes.TheVariants.{Fitting}
use Rattle.hep_expression.proofs.Leaves.{chosen}
use Rattle.hep_parse.specs.declared.program.StatementClass.{StatementClass}
use Rattle.hep_parse.specs.declared.program.StatementClass.TheVariants as part
use Rattle.hep_parse.specs.declared.program.Stage.{Stage}
use Rattle.hep_parse.specs.declared.program.Stage.TheVariants.{Start, Opening, Specification, Actions}
use Rattle.hep_parse.specs.declared.program.State.{State}
use Rattle.hep_parse.specs.Program.{IsStatement, class_of, may_precede, MayStandAfter, AreOrdered, begins_main, AreSubroutines, AreUnits, AreAllStatements, IsProgram}
use Rattle.hep_parse.specs.ReadingStatement.{form}
use Rattle.hep_parse.specs.ReadingProgram.{Refusal, or_refusal, with_line, refusal_of, statement, is_start, may_follow, stage_after, state_after_statement, placed, after_one, ended, units, nothing_read, program}
use Rattle.hep_parse.proofs.Forms.{form_is, form_read}
use Rattle.hep_source.proofs.Tests.{and-assoc, and-false, and-true}
use Rattle.std.proofs.lemmas.Bool.{not-true, and_parts}
use Rattle.std.proofs.lemmas.Option.{same_Some, none-some}

-- ---- results

-- what was read, and no refusal
abbrev pub ok : {A : Type 0} → A → Result A Refusal
ok x = Ok x

abbrev pub refused : {A : Type 0} → Refusal → Result A Refusal
refused e = Err e

pub ok_is : {A : Type 0} (x y : A) → ok x ≡ ok y → x ≡ y
ok_is x y e = cc

pub refusal_is : {A : Type 0} (x y : Refusal) (r : Result A Refusal) → r ≡ Err x → r ≡ Err y → x ≡ y
refusal_is x y r d e = let same = sym d ∙ e in cc

pub not_both : {A : Type 0} (x : A) (e : Refusal) → Err e ≡ Ok x → ⊥
not_both x e h = cc

pub ok_of : {A B : Type 0} (r : Result A Refusal) (f : A → Result B Refusal) (y : B) → or_refusal r f ≡ Ok y → (x : A) × (r ≡ Ok x) × (f x ≡ Ok y)
ok_of (Ok x) f y e = (x, refl, e)
ok_of (Err n) f y e = absurd (not_both y n e)

reported_of : {A : Type 0} (o : Option A) (e : Refusal) (x : A) → ok_or o e ≡ Ok x → o ≡ Some x
reported_of None e x h = absurd (not_both x e h)
reported_of (Some y) e x h = ap (λ z. Some z) (ok_is y x h)

-- ---- stages and parts

-- all parts pass a test
abbrev all_parts : (StatementClass → Bool) → Bool
all_parts f = f part.Header && (f part.Implicit && (f part.Parameter && (f part.Specification && (f part.Action && f part.End))))

any_part : (f : StatementClass → Bool) → all_parts f ≡ true → (x : StatementClass) → f x ≡ true
any_part f h part.Header = (and_parts (f part.Header) _ h).0
any_part f h part.Implicit = (and_parts (f part.Implicit) _ (and_parts (f part.Header) _ h).1).0
any_part f h part.Parameter = (and_parts (f part.Parameter) _ (and_parts (f part.Implicit) _ (and_parts (f part.Header) _ h).1).1).0
any_part f h part.Specification = (and_parts (f part.Specification) _ (and_parts (f part.Parameter) _ (and_parts (f part.Implicit) _ (and_parts (f part.Header) _ h).1).1).1).0
any_part f h part.Action = (and_parts (f part.Action) _ (and_parts (f part.Specification) _ (and_parts (f part.Parameter) _ (and_parts (f part.Implicit) _ (and_parts (f part.Header) _ h).1).1).1).1).0
any_part f h part.End = (and_parts (f part.Action) _ (and_parts (f part.Specification) _ (and_parts (f part.Parameter) _ (and_parts (f part.Implicit) _ (and_parts (f part.Header) _ h).1).1).1).1).1

abbrev same : Bool → Bool → Bool
same true b = b
same false b = not b

same_is : (a b : Bool) → same a b ≡ true → a ≡ b
same_is true true e = refl
same_is true false e = absurd cc
same_is false true e = absurd cc
same_is false false e = refl

abbrev is_end : StatementClass → Bool
is_end part.End = true
is_end _ = false

abbrev implied : Bool → Bool → Bool
implied true b = b
implied false b = true

implied_is : (a b : Bool) → implied a b ≡ true → a ≡ true → b ≡ true
implied_is true b e h = e
implied_is false b e h = absurd cc

-- what may follow after one more part, where that one may follow and isn't END
abbrev goes : Stage → StatementClass → StatementClass → Bool
goes stage p x = implied (may_follow stage p && not (is_end p)) (same (may_follow stage x && may_precede p x) (may_follow (stage_after stage p) x))

goes_always : (stage : Stage) (p x : StatementClass) → goes stage p x ≡ true
goes_always Start p x = any_part (λ (q : StatementClass). goes Start p q) (any_part (λ (q : StatementClass). all_parts (λ (y : StatementClass). goes Start q y)) refl p) x
goes_always Opening p x = any_part (λ (q : StatementClass). goes Opening p q) (any_part (λ (q : StatementClass). all_parts (λ (y : StatementClass). goes Opening q y)) refl p) x
goes_always Specification p x = any_part (λ (q : StatementClass). goes Specification p q) (any_part (λ (q : StatementClass). all_parts (λ (y : StatementClass). goes Specification q y)) refl p) x
goes_always Actions p x = any_part (λ (q : StatementClass). goes Actions p q) (any_part (λ (q : StatementClass). all_parts (λ (y : StatementClass). goes Actions q y)) refl p) x

pub no_end : (p : StatementClass) → p ≢ part.End → is_end p ≡ false
no_end part.Header h = refl
no_end part.Implicit h = refl
no_end part.Parameter h = refl
no_end part.Specification h = refl
no_end part.Action h = refl
no_end part.End h = absurd (h refl)

follows : (stage : Stage) (p x : StatementClass) → may_follow stage p ≡ true → p ≢ part.End → (may_follow stage x && may_precede p x) ≡ may_follow (stage_after stage p) x
follows stage p x first other =
    let known : (may_follow stage p && not (is_end p)) ≡ true = rw (first, no_end p other) refl in
    same_is (may_follow stage x && may_precede p x) (may_follow (stage_after stage p) x) (implied_is (may_follow stage p && not (is_end p)) _ (goes_always stage p x) known)

pub stage_after_end : (stage : Stage) → stage_after stage part.End ≡ Start
stage_after_end Start = refl
stage_after_end Opening = refl
stage_after_end Specification = refl
stage_after_end Actions = refl

-- after a part that isn't END its unit goes on
abbrev keeps : Stage → StatementClass → Bool
keeps stage p = implied (not (is_end p)) (not (is_start (stage_after stage p)))

keeps_always : (stage : Stage) (p : StatementClass) → keeps stage p ≡ true
keeps_always Start p = any_part (λ (q : StatementClass). keeps Start q) refl p
keeps_always Opening p = any_part (λ (q : StatementClass). keeps Opening q) refl p
keeps_always Specification p = any_part (λ (q : StatementClass). keeps Specification q) refl p
keeps_always Actions p = any_part (λ (q : StatementClass). keeps Actions q) refl p

pub stage_after_other : (stage : Stage) (p : StatementClass) → p ≢ part.End → is_start (stage_after stage p) ≡ false
stage_after_other stage p other =
    let known : not (is_end p) ≡ true = rw (no_end p other) refl in
    not-true (is_start (stage_after stage p)) (implied_is (not (is_end p)) (not (is_start (stage_after stage p))) (keeps_always stage p) known)

pub end_or_other : (p : StatementClass) → (p ≡ part.End) ⊎ (p ≢ part.End)
end_or_other part.Header = inr (λ e. cc)
end_or_other part.Implicit = inr (λ e. cc)
end_or_other part.Parameter = inr (λ e. cc)
end_or_other part.Specification = inr (λ e. cc)
end_or_other part.Action = inr (λ e. cc)
end_or_other part.End = inl refl

-- ---- the parts before

abbrev pub may_stand : List StatementClass → StatementClass → Bool
may_stand [] x = true
may_stand (y ∷ before) x = may_precede y x && may_stand before x

pub stand_is : (before : List StatementClass) (x : StatementClass) → MayStandAfter before x → may_stand before x ≡ true
stand_is [] x h = refl
stand_is (y ∷ before) x h = rw (h.0, stand_is before x h.1) refl

pub is_stand : (before : List StatementClass) (x : StatementClass) → may_stand before x ≡ true → MayStandAfter before x
is_stand [] x h = tt
is_stand (y ∷ before) x h = let parts = and_parts (may_precede y x) (may_stand before x) h in (parts.0, is_stand before x parts.1)

stand_more : (before : List StatementClass) (p x : StatementClass) → may_stand (before ++ p ∷ []) x ≡ (may_stand before x && may_precede p x)
stand_more [] p x = and-true (may_precede p x)
stand_more (y ∷ before) p x = ap (λ (b : Bool). may_precede y x && b) (stand_more before p x) ∙ and-assoc (may_precede y x) (may_stand before x) (may_precede p x)

nothing_after_end : (before : List StatementClass) (p x : StatementClass) → p ≡ part.End → MayStandAfter (before ++ p ∷ []) x → ⊥
nothing_after_end before p x e h =
    let none : may_stand (before ++ p ∷ []) x ≡ false = stand_more before p x ∙ rw e (and-false (may_stand before x)) in
    let clash : true ≡ false = sym (stand_is (before ++ p ∷ []) x h) ∙ none in
    cc

abbrev pub is_empty : List StatementClass → Bool
is_empty [] = true
is_empty (y ∷ before) = false

-- what a state says of the parts before
abbrev pub Stands : State → List StatementClass → Type 0
Stands x before = ((p : StatementClass) → may_stand before p ≡ may_follow x.stage p) × (is_start x.stage ≡ is_empty before)

pub stands_first : Stands nothing_read []
stands_first = ((λ p. refl), refl)

-- the state after a part that may stand there
abbrev pub next_state : State → StatementClass → Bool → State
next_state x p begins = record { stage = stage_after x.stage p; has_main = x.has_main || (is_start x.stage && begins) }

pub stands_end : (x : State) (p : StatementClass) (begins : Bool) → p ≡ part.End → Stands (next_state x p begins) []
stands_end x p begins e =
    let start : stage_after x.stage p ≡ Start = rw e (stage_after_end x.stage) in
    ((λ q. rw start refl), rw start refl)

some_empty : (before : List StatementClass) (p : StatementClass) → is_empty (before ++ p ∷ []) ≡ false
some_empty [] p = refl
some_empty (y ∷ before) p = refl

pub stands_other : (x : State) (before : List StatementClass) (p : StatementClass) (begins : Bool) → Stands x before → may_follow x.stage p ≡ true → p ≢ part.End → Stands (next_state x p begins) (before ++ p ∷ [])
stands_other x before p begins stands first other = (
  (λ q. stand_more before p q ∙ ap (λ (b : Bool). b && may_precede p q) (stands.0 q) ∙ follows x.stage p q first other),
  stage_after_other x.stage p other ∙ sym (some_empty before p),
)

-- what a state says of a part that may stand there
pub state_is : (x next : State) (p : StatementClass) (begins : Bool) → state_after_statement x p begins ≡ Some next → (may_follow x.stage p ≡ true) × ((is_start x.stage && x.has_main && begins) ≡ false) × (next_state x p begins ≡ next)
state_is x next p begins e = elim (chosen (may_follow x.stage p && not (is_start x.stage && x.has_main && begins)) (Some (next_state x p begins)) None (Some next) e) [
  | inl g ↦ (
      let parts = and_parts (may_follow x.stage p) (not (is_start x.stage && x.has_main && begins)) g.0 in
      (parts.0, not-true (is_start x.stage && x.has_main && begins) parts.1, same_Some (next_state x p begins) next g.1))
  | inr g ↦ absurd (none-some next g.1)
]

pub state_read : (x : State) (p : StatementClass) (begins : Bool) → may_follow x.stage p ≡ true → (is_start x.stage && x.has_main && begins) ≡ false → state_after_statement x p begins ≡ Some (next_state x p begins)
state_read x p begins first second = rw (first, second) refl

pub placed_is : (x : State) (given : Stmt) (y : Statement × State) → placed x given ≡ Ok y → (c : List Tree × Form) × (form Fitting given.text ≡ Some c) × (state_after_statement x (class_of c.0 c.1) (begins_main c.1) ≡ Some y.1) × (with_line given c ≡ y.0)
unfolding placed statement
placed_is x given y e = go (form Fitting given.text) refl
  where
    reported : Statement → Result (Statement × State) Refusal
    reported read = or_refusal (ok_or (state_after_statement x (class_of read.conditions read.form) (begins_main read.form)) (205, given.line, [])) (λ next. Ok (read, next))

    go : (o : Option (List Tree × Form)) → form Fitting given.text ≡ o → (c : List Tree × Form) × (form Fitting given.text ≡ Some c) × (state_after_statement x (class_of c.0 c.1) (begins_main c.1) ≡ Some y.1) × (with_line given c ≡ y.0)
    go None none =
        let turn : placed x given ≡ Err (refusal_of given) = rw none refl in
        absurd (not_both y (refusal_of given) (sym turn ∙ e))
    go (Some c) found =
        let turn : placed x given ≡ reported (with_line given c) = rw found refl in
        let b = ok_of (ok_or (state_after_statement x (class_of c.0 c.1) (begins_main c.1)) (205, given.line, [])) (λ next. Ok (with_line given c, next)) y (sym turn ∙ e) in
        let next = reported_of (state_after_statement x (class_of c.0 c.1) (begins_main c.1)) (205, given.line, []) b.0 b.1 in
        let is_y : (with_line given c, b.0) ≡ y = ok_is (with_line given c, b.0) y b.2 in
        (c, found, next ∙ ap (λ (z : Statement × State). Some z.1) is_y, ap (λ (z : Statement × State). z.0) is_y)

-- ---- what is read is a program

-- the units after, where a main program is there or isn't
abbrev pub AreRest : Bool → List (List Statement) → Type 0
AreRest true us = AreSubroutines us
AreRest false us = AreUnits us

-- the rest of a unit and the units after it, where the unit has begun or hasn't
abbrev pub Shape : Bool → Bool → List StatementClass → List (List Statement) → Type 0
Shape true main before us = AreRest main us
Shape false main before [] = ⊥
Shape false main before (u ∷ us) = AreOrdered before u × AreRest main us

shape_on : (start main : Bool) (before : List StatementClass) (s : Statement) (u : List Statement) (us : List (List Statement)) → start ≡ is_empty before → (start && main && begins_main s.form) ≡ false → AreOrdered before (s ∷ u) → AreRest (main || (start && begins_main s.form)) us → Shape start main before ((s ∷ u) ∷ us)
shape_on true true [] s u us e clash ordered rest = (ordered, clash, rest)
shape_on true false [] s u us e clash ordered rest = (ordered, by_main (begins_main s.form) refl rest)
  where
    by_main : (b : Bool) → begins_main s.form ≡ b → AreRest b us → ((begins_main s.form ≡ true) × AreSubroutines us) ⊎ ((begins_main s.form ≡ false) × AreUnits us)
    by_main true is rest = inl (is, rest)
    by_main false is rest = inr (is, rest)
shape_on true main (y ∷ before) s u us e clash ordered rest = absurd cc
shape_on false true before s u us e clash ordered rest = (ordered, rest)
shape_on false false before s u us e clash ordered rest = (ordered, rest)

shape_back : (start main : Bool) (before : List StatementClass) (s : Statement) (u : List Statement) (us : List (List Statement)) → start ≡ is_empty before → Shape start main before ((s ∷ u) ∷ us) → AreOrdered before (s ∷ u) × ((start && main && begins_main s.form) ≡ false) × AreRest (main || (start && begins_main s.form)) us
shape_back true true [] s u us e h = h
shape_back true false [] s u us e h = (
  h.0,
  refl,
  elim h.1 [
    | inl g ↦ subst (λ (b : Bool). AreRest b us) (sym g.0) g.1
    | inr g ↦ subst (λ (b : Bool). AreRest b us) (sym g.0) g.1
  ],
)
shape_back true main (y ∷ before) s u us e h = absurd cc
shape_back false true before s u us e h = (h.0, refl, h.1)
shape_back false false before s u us e h = (h.0, refl, h.1)

one_at_end : (s : Statement) (stage : Stage) (us : List (List Statement)) → stage ≡ Start → after_one s stage us ≡ (s ∷ []) ∷ us
one_at_end s stage us e = rw e refl

one_within : (s : Statement) (stage : Stage) (u : List Statement) (us : List (List Statement)) → is_start stage ≡ false → after_one s stage (u ∷ us) ≡ (s ∷ u) ∷ us
one_within s Start u us e = absurd cc
one_within s Opening u us e = refl
one_within s Specification u us e = refl
one_within s Actions u us e = refl

-- the units that are read from a state, after these parts
abbrev AreRead : State → List StatementClass → List Stmt → List (List Statement) → Type 0
AreRead x before given us = AreAllStatements given us × Shape (is_start x.stage) x.has_main before us

end_on : (x : State) (before : List StatementClass) (s : Stmt) (given : List Stmt) (t : Statement) (us : List (List Statement)) → Stands x before → IsStatement s t → may_follow x.stage (class_of t.conditions t.form) ≡ true → (is_start x.stage && x.has_main && begins_main t.form) ≡ false → class_of t.conditions t.form ≡ part.End → AreRead (next_state x (class_of t.conditions t.form) (begins_main t.form)) [] given us → AreRead x before (s ∷ given) ((t ∷ []) ∷ us)
end_on x before s given t us stands is first second last h =
    let last_stage : stage_after x.stage (class_of t.conditions t.form) ≡ Start = rw last (stage_after_end x.stage) in
    let start : is_start (stage_after x.stage (class_of t.conditions t.form)) ≡ true = ap is_start last_stage in
    let rest : Shape true (x.has_main || (is_start x.stage && begins_main t.form)) [] us = subst (λ (b : Bool). Shape b (x.has_main || (is_start x.stage && begins_main t.form)) [] us) start h.1 in
    let place : MayStandAfter before (class_of t.conditions t.form) = is_stand before (class_of t.conditions t.form) (stands.0 (class_of t.conditions t.form) ∙ first) in
    ((given, (is, refl), h.0), shape_on (is_start x.stage) x.has_main before t [] us stands.1 second (place, last) rest)

within_on : (x : State) (before : List StatementClass) (s : Stmt) (given : List Stmt) (t : Statement) (us : List (List Statement)) → Stands x before → IsStatement s t → may_follow x.stage (class_of t.conditions t.form) ≡ true → (is_start x.stage && x.has_main && begins_main t.form) ≡ false → class_of t.conditions t.form ≢ part.End → AreRead (next_state x (class_of t.conditions t.form) (begins_main t.form)) (before ++ class_of t.conditions t.form ∷ []) given us → AreRead x before (s ∷ given) (after_one t (stage_after x.stage (class_of t.conditions t.form)) us)
within_on x before s given t us stands is first second other h =
    let within = stage_after_other x.stage (class_of t.conditions t.form) other in
    let shape : Shape false (x.has_main || (is_start x.stage && begins_main t.form)) (before ++ class_of t.conditions t.form ∷ []) us = subst (λ (b : Bool). Shape b (x.has_main || (is_start x.stage && begins_main t.form)) (before ++ class_of t.conditions t.form ∷ []) us) within h.1 in
    go us h.0 shape
  where
    place : MayStandAfter before (class_of t.conditions t.form)
    place = is_stand before (class_of t.conditions t.form) (stands.0 (class_of t.conditions t.form) ∙ first)

    go : (us : List (List Statement)) → AreAllStatements given us → Shape false (x.has_main || (is_start x.stage && begins_main t.form)) (before ++ class_of t.conditions t.form ∷ []) us → AreRead x before (s ∷ given) (after_one t (stage_after x.stage (class_of t.conditions t.form)) us)
    go [] all shape = absurd shape
    go ([] ∷ us) all shape = absurd shape.0
    go ((v ∷ u) ∷ us) all shape =
        let all_on : AreAllStatements (s ∷ given) ((t ∷ v ∷ u) ∷ us) = (all.0, (is, all.1), all.2) in
        let shape_is = shape_on (is_start x.stage) x.has_main before t (v ∷ u) us stands.1 second (place, shape.0) shape.1 in
        subst (AreRead x before (s ∷ given)) (sym (one_within t (stage_after x.stage (class_of t.conditions t.form)) (v ∷ u) us (stage_after_other x.stage (class_of t.conditions t.form) other))) (all_on, shape_is)

units_are : (given : List Stmt) (x : State) (line : ℕ) (before : List StatementClass) (us : List (List Statement)) → Stands x before → units x line given ≡ Ok us → AreRead x before given us
unfolding units
units_are [] x line before us stands e = over (is_start x.stage) x.has_main e
  where
    over : (start main : Bool) → ended start main line ≡ Ok us → AreAllStatements [] us × Shape start main before us
    over true true e = subst (λ (l : List (List Statement)). AreAllStatements [] l × AreSubroutines l) (ok_is [] us e) (refl, tt)
    over true false e = absurd (not_both us (204, 0, []) e)
    over false main e = absurd (not_both us (205, line, []) e)
units_are (s ∷ given) x line before us stands e =
    let b = ok_of (placed x s) (λ y. or_refusal (units y.1 s.line given) (λ rest. Ok (after_one y.0 y.1.stage rest))) us e in
    let c = ok_of (units b.0.1 s.line given) (λ rest. Ok (after_one b.0.0 b.0.1.stage rest)) us b.2 in
    let p = placed_is x s b.0 b.1 in
    let q = state_is x b.0.1 (class_of p.0.0 p.0.1) (begins_main p.0.1) p.2 in
    let t = with_line s p.0 in
    let is : IsStatement s t = (refl, refl, form_is Fitting s.text p.0 p.1) in
    let is_us : after_one t (stage_after x.stage (class_of p.0.0 p.0.1)) c.0 ≡ us = ap (λ (z : State). after_one t z.stage c.0) q.2 ∙ ap (λ (z : Statement). after_one z b.0.1.stage c.0) p.3 ∙ ok_is (after_one b.0.0 b.0.1.stage c.0) us c.2 in
    let again : units (next_state x (class_of p.0.0 p.0.1) (begins_main p.0.1)) s.line given ≡ Ok c.0 = ap (λ (z : State). units z s.line given) q.2 ∙ c.1 in
    elim (end_or_other (class_of p.0.0 p.0.1)) [
      | inl last ↦ (
          let rest = units_are given (next_state x (class_of p.0.0 p.0.1) (begins_main p.0.1)) s.line [] c.0 (stands_end x (class_of p.0.0 p.0.1) (begins_main p.0.1) last) again in
          let start : stage_after x.stage (class_of p.0.0 p.0.1) ≡ Start = rw last (stage_after_end x.stage) in
          subst (AreRead x before (s ∷ given)) (sym (one_at_end t (stage_after x.stage (class_of p.0.0 p.0.1)) c.0 start) ∙ is_us) (end_on x before s given t c.0 stands is q.0 q.1 last rest))
      | inr other ↦ (
          let rest = units_are given (next_state x (class_of p.0.0 p.0.1) (begins_main p.0.1)) s.line (before ++ class_of p.0.0 p.0.1 ∷ []) c.0 (stands_other x before (class_of p.0.0 p.0.1) (begins_main p.0.1) stands q.0 other) again in
          subst (AreRead x before (s ∷ given)) is_us (within_on x before s given t c.0 stands is q.0 q.1 other rest))
    ]

pub is_program : (given : List Stmt) (p : List (List Statement)) → program given ≡ Ok p → IsProgram given p
is_program given p e = units_are given nothing_read 0 [] p stands_first e

-- ---- a program is read

placed_read : (x : State) (s : Stmt) (t : Statement) → IsStatement s t → may_follow x.stage (class_of t.conditions t.form) ≡ true → (is_start x.stage && x.has_main && begins_main t.form) ≡ false → placed x s ≡ Ok (t, next_state x (class_of t.conditions t.form) (begins_main t.form))
unfolding placed statement
placed_read x s t is first second =
    let is_t : with_line s (t.conditions, t.form) ≡ t = λ i. record { line = sym is.0 i; label = sym is.1 i; conditions = t.conditions; form = t.form } in
    let found : form Fitting s.text ≡ Some (t.conditions, t.form) = form_read Fitting s.text t.conditions t.form is.2 in
    rw (found, state_read x (class_of t.conditions t.form) (begins_main t.form) first second) (ap (λ (z : Statement). Ok (z, next_state x (class_of t.conditions t.form) (begins_main t.form))) is_t)

units_read : (given : List Stmt) (x : State) (line : ℕ) (before : List StatementClass) (us : List (List Statement)) → Stands x before → AreRead x before given us → units x line given ≡ Ok us
unfolding units
units_read [] x line before [] stands h = over (is_start x.stage) x.has_main h.1
  where
    over : (start main : Bool) → Shape start main before [] → ended start main line ≡ Ok []
    over true true h = refl
    over true false h = absurd h
    over false main h = absurd h
units_read given x line before ([] ∷ us) stands h = absurd (over (is_start x.stage) x.has_main h.1)
  where
    over : (start main : Bool) → Shape start main before ([] ∷ us) → ⊥
    over true true h = h.0
    over true false h = h.0
    over false main h = h.0
units_read [] x line before ((t ∷ u) ∷ us) stands h = absurd h.0.1
units_read (s ∷ given) x line before [] stands h = absurd (let e = h.0 in cc)
units_read (s ∷ given) x line before ((t ∷ []) ∷ us) stands h =
    let back = shape_back (is_start x.stage) x.has_main before t [] us stands.1 h.1 in
    let p = class_of t.conditions t.form in
    let first : may_follow x.stage p ≡ true = sym (stands.0 p) ∙ stand_is before p back.0.0 in
    let start : stage_after x.stage p ≡ Start = rw back.0.1 (stage_after_end x.stage) in
    let rest_after : AreAllStatements given us = subst (λ (l : List Stmt). AreAllStatements l us) (sym h.0.1.1) h.0.2 in
    let shape : Shape (is_start (stage_after x.stage p)) (x.has_main || (is_start x.stage && begins_main t.form)) [] us = rw start back.2 in
    let rest = units_read given (next_state x p (begins_main t.form)) s.line [] us (stands_end x p (begins_main t.form) back.0.1) (rest_after, shape) in
    rw (placed_read x s t h.0.1.0 first back.1, rest) (ap (λ (l : List (List Statement)). Ok l) (one_at_end t (stage_after x.stage p) us start))
units_read (s ∷ given) x line before ((t ∷ v ∷ u) ∷ us) stands h =
    let back = shape_back (is_start x.stage) x.has_main before t (v ∷ u) us stands.1 h.1 in
    let p = class_of t.conditions t.form in
    let first : may_follow x.stage p ≡ true = sym (stands.0 p) ∙ stand_is before p back.0.0 in
    let other : p ≢ part.End = λ e. nothing_after_end before p (class_of v.conditions v.form) e (first_stands (before ++ p ∷ []) v u back.0.1) in
    let within = stage_after_other x.stage p other in
    let shape : Shape (is_start (stage_after x.stage p)) (x.has_main || (is_start x.stage && begins_main t.form)) (before ++ p ∷ []) ((v ∷ u) ∷ us) = rw within (back.0.1, back.2) in
    let rest = units_read given (next_state x p (begins_main t.form)) s.line (before ++ p ∷ []) ((v ∷ u) ∷ us) (stands_other x before p (begins_main t.form) stands first other) ((h.0.0, h.0.1.1, h.0.2), shape) in
    rw (placed_read x s t h.0.1.0 first back.1, rest) (ap (λ (l : List (List Statement)). Ok l) (one_within t (stage_after x.stage p) (v ∷ u) us within))
  where
    first_stands : (before : List StatementClass) (v : Statement) (u : List Statement) → AreOrdered before (v ∷ u) → MayStandAfter before (class_of v.conditions v.form)
    first_stands before v [] h = h.0
    first_stands before v (w ∷ u) h = h.0

pub program_read : (given : List Stmt) (p : List (List Statement)) → IsProgram given p → program given ≡ Ok p
program_read given p h = units_read given nothing_read 0 [] p stands_first h

-- The statements of a source are at most one program.
pub at_most_one : (given : List Stmt) (p q : List (List Statement)) → IsProgram given p → IsProgram given q → p ≡ q
at_most_one given p q h g = ok_is p q (sym (program_read given p h) ∙ program_read given q g)
