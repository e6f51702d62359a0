-- Each violation of a program is told, but what a name without a type explains.
use Rattle.std.proofs.Common.{◌≡◌, ℕ, Bool, true, false, not, ◌&&◌, nat_eq, if◌then◌else◌, is_none, is_some, List, [], ◌∷◌, ◌++◌, Some, refl, sym, ap, subst, ◌∙◌, ⊎_elim, true≢false}
use Rattle.std.specs.List.{Contains, flat_map}
use Rattle.std.proofs.lemmas.List.Elements.{Contains-append_left, Contains-append_right, Contains-append_cases}
use Rattle.hep_source.proofs.Tests.{and-true, number-self}
use Rattle.hep_source.specs.declared.statement.Form.TheVariants as form
use Rattle.hep_machine.specs.Words.{Form, Name, Occurrence, Statement, Units, constants_in, is_among, occurrences_in_statement, same_name, subroutine_called, subroutine_name}
use Rattle.hep_conditions.specs.declared.violation.Violation.{Violation}
use Rattle.hep_source.proofs.NameTests.{equal_names}
use Rattle.hep_conditions.specs.Words.{Calling, FunctionTypes, Parameters, Violations, argument_violations, at_line, at_occurrence, calls_in, common_violations, count_violations, data_violations, function_types, is_resume, is_statement_typed, jump_violations, label_violations, name_violations, names_with_lists, no_parameters, resume_violations, structure_violations, type_missing_violations, type_violations, type_violations_from, unknown_name_violations, unknown_references, unknown_subroutines, unknown_targets, untyped_in, when, with_parameters, is_untyped}
use Rattle.hep_types.specs.CallPasses.{is_mismatched}
use Rattle.hep_names.specs.Parts.{is_miscounted, unknown_in_form, unknown_listed}
use Rattle.hep_names.proofs.Passes.{unknown-targets}
use Rattle.hep_check.specs.Culprits.{miscounted, misfit}
use Rattle.hep_check.specs.AllViolations.{ViolatedLines, has_doubtful, has_line, is_doubtful, is_untyped_at, lines_in, names_after, others_told, shared_told, told, told_after, told_from, told_in, unknown_call, unknown_told, untold, untyped_told, with_name}
use Rattle.hep_check.proofs.Members.{Within, contained-any, contains-flat, contains-here, contains-more, contains-one, flat-within, none-contained}
use Rattle.hep_check.proofs.StatementLines.{plain-common, plain-data, plain-jumps, plain-labels, plain-names, plain-structure}
use Rattle.hep_check.proofs.Sound.{counted, matched, when-there}
use Rattle.hep_types.specs.Passes.{parameters_after}

contained-when : (b : Bool) (w v : Violation) → Contains (when b w) v → v ≡ w
contained-when true w v h = contains-one w v h
contained-when false w v h = none-contained v h

test-when : (b : Bool) (w v : Violation) → Contains (when b w) v → b ≡ true
test-when true w v h = refl
test-when false w v h = none-contained v h

-- what a call is told by
call-told : (program : Units) (line : ℕ) (f : Form)
    → Within (flat_map (λ (c : Calling). when (is_none (subroutine_called program c.occurrence.name)) (at_occurrence 310 line c.occurrence)) (calls_in f)) (unknown_call program line f)
call-told program line (form.Call p ts) = λ v c.
    ⊎_elim (λ h. h) (λ h. none-contained v h) (Contains-append_cases (when (is_none (subroutine_called program p.name)) (at_occurrence 310 line p)) [] v c)
call-told program line (form.Create p ts) = λ v c.
    ⊎_elim (λ h. h) (λ h. none-contained v h) (Contains-append_cases (when (is_none (subroutine_called program p.name)) (at_occurrence 310 line p)) [] v c)
call-told program line _ = λ v c. none-contained v c

module _ (program : Units) (unit : List Statement) (there : Contains program unit) where
  abbrev lines : ViolatedLines
  lines = lines_in program unit

  abbrev functions : FunctionTypes
  functions = function_types program

  unit-told : Within (told_in program unit) (told program)
  unit-told v c = contains-flat (told_in program) program unit v there c

  -- ---- a statement of the unit

  others-from : (ps : Parameters) (known : List Name) (ss : List Statement) (s : Statement) → Contains ss s
      → Within (others_told program lines unit (is_doubtful program unit s) s) (told_from program lines unit ps known ss)
  others-from ps known [] s h v c = none-contained s h
  others-from ps known (r ∷ rs) s h v c =
      let untyped = untyped_told functions unit r.line known (occurrences_in_statement unit r) in
      let mistyped = when (not (is_statement_typed functions unit ps r) && not (is_doubtful program unit r)) (at_line 302 r.line) in
      let others = others_told program lines unit (is_doubtful program unit r) r in
      let behind = told_from program lines unit (parameters_after unit ps r) (names_after program unit known r) rs in
      ⊎_elim
      (λ one. Contains-append_left (untyped ++ (mistyped ++ others)) behind v
      (Contains-append_right untyped (mistyped ++ others) v
      (Contains-append_right mistyped others v (subst (λ t. Contains (others_told program lines unit (is_doubtful program unit t) t) v) (contains-one r s one) c))))
      (λ more. Contains-append_right (untyped ++ (mistyped ++ others)) behind v (others-from (parameters_after unit ps r) (names_after program unit known r) rs s more v c))
      (Contains-append_cases (r ∷ []) rs s h)

  module _ (s : Statement) (stands : Contains unit s) where
    abbrev one : Violations
    one = when (is_some (miscounted program unit s)) (at_line 303 s.line)

    abbrev two : Violations
    two = when (is_some (misfit program unit s) && not (is_doubtful program unit s)) (at_line 304 s.line)

    abbrev three : Violations
    three = when (lines.values s.line) (at_line 311 s.line)

    abbrev four : Violations
    four = when (is_resume s.form && is_none (subroutine_name unit)) (at_line 312 s.line)

    abbrev shared : Violations
    shared = shared_told lines s.line

    abbrev unknown : Violations
    unknown = unknown_told program unit s

    others-in : Within (one ++ (two ++ (shared ++ (unknown ++ (three ++ four))))) (told program)
    others-in v c = unit-told v (others-from no_parameters [] unit s stands v c)

    one-in : Within one (told program)
    one-in v c = others-in v (Contains-append_left one (two ++ (shared ++ (unknown ++ (three ++ four)))) v c)

    from-two : Within (two ++ (shared ++ (unknown ++ (three ++ four)))) (told program)
    from-two v c = others-in v (Contains-append_right one (two ++ (shared ++ (unknown ++ (three ++ four)))) v c)

    two-in : Within two (told program)
    two-in v c = from-two v (Contains-append_left two (shared ++ (unknown ++ (three ++ four))) v c)

    from-shared : Within (shared ++ (unknown ++ (three ++ four))) (told program)
    from-shared v c = from-two v (Contains-append_right two (shared ++ (unknown ++ (three ++ four))) v c)

    shared-in : Within shared (told program)
    shared-in v c = from-shared v (Contains-append_left shared (unknown ++ (three ++ four)) v c)

    from-unknown : Within (unknown ++ (three ++ four)) (told program)
    from-unknown v c = from-shared v (Contains-append_right shared (unknown ++ (three ++ four)) v c)

    unknown-in : Within unknown (told program)
    unknown-in v c = from-unknown v (Contains-append_left unknown (three ++ four) v c)

    from-three : Within (three ++ four) (told program)
    from-three v c = from-unknown v (Contains-append_right unknown (three ++ four) v c)

    three-in : Within three (told program)
    three-in v c = from-three v (Contains-append_left three four v c)

    four-in : Within four (told program)
    four-in v c = from-three v (Contains-append_right three four v c)

    -- ---- what several statements or units have together

    abbrev once : (n : ℕ) (b : Bool) → Violations
    once n b = when b (at_line n s.line)

    common-told : Within (once 305 (lines.common s.line)) (told program)
    common-told v c =
        shared-in v (Contains-append_left (once 305 (lines.common s.line)) (once 306 (lines.labels s.line) ++ (once 307 (lines.structure s.line) ++ (once 308 (lines.jumps s.line) ++ once 309 (lines.names s.line)))) v c)

    from-labels : Within (once 306 (lines.labels s.line) ++ (once 307 (lines.structure s.line) ++ (once 308 (lines.jumps s.line) ++ once 309 (lines.names s.line)))) (told program)
    from-labels v c =
        shared-in v (Contains-append_right (once 305 (lines.common s.line)) (once 306 (lines.labels s.line) ++ (once 307 (lines.structure s.line) ++ (once 308 (lines.jumps s.line) ++ once 309 (lines.names s.line)))) v c)

    labels-told : Within (once 306 (lines.labels s.line)) (told program)
    labels-told v c = from-labels v (Contains-append_left (once 306 (lines.labels s.line)) (once 307 (lines.structure s.line) ++ (once 308 (lines.jumps s.line) ++ once 309 (lines.names s.line))) v c)

    from-structure : Within (once 307 (lines.structure s.line) ++ (once 308 (lines.jumps s.line) ++ once 309 (lines.names s.line))) (told program)
    from-structure v c = from-labels v (Contains-append_right (once 306 (lines.labels s.line)) (once 307 (lines.structure s.line) ++ (once 308 (lines.jumps s.line) ++ once 309 (lines.names s.line))) v c)

    structure-told : Within (once 307 (lines.structure s.line)) (told program)
    structure-told v c = from-structure v (Contains-append_left (once 307 (lines.structure s.line)) (once 308 (lines.jumps s.line) ++ once 309 (lines.names s.line)) v c)

    from-jumps : Within (once 308 (lines.jumps s.line) ++ once 309 (lines.names s.line)) (told program)
    from-jumps v c = from-structure v (Contains-append_right (once 307 (lines.structure s.line)) (once 308 (lines.jumps s.line) ++ once 309 (lines.names s.line)) v c)

    jumps-told : Within (once 308 (lines.jumps s.line)) (told program)
    jumps-told v c = from-jumps v (Contains-append_left (once 308 (lines.jumps s.line)) (once 309 (lines.names s.line)) v c)

    names-told : Within (once 309 (lines.names s.line)) (told program)
    names-told v c = from-jumps v (Contains-append_right (once 308 (lines.jumps s.line)) (once 309 (lines.names s.line)) v c)

    -- a violation at the line of the statement
    at-statement : (n : ℕ) (vs : Violations) (v : Violation) → v ≡ at_line n v.line → Contains vs v → s.line ≡ v.line
        → Within (once n (has_line vs s.line)) (told program)
        → Contains (told program) v
    at-statement n vs v plain c e h =
        let same : v ≡ at_line n s.line = plain ∙ ap (at_line n) (sym e) in
        let here : has_line vs s.line ≡ true =
        contained-any (λ (w : Violation). nat_eq w.line s.line) vs v c (ap (λ k. nat_eq k s.line) (sym e) ∙ number-self s.line) in
        subst (Contains (told program)) (sym same) (h (at_line n s.line) (when-there (has_line vs s.line) (at_line n s.line) here))

    -- ---- what a statement has by itself

    count-told : (v : Violation) → Contains (when (is_miscounted program unit s) (at_line 303 s.line)) v → Contains (told program) v
    count-told v c = one-in v (subst (λ b. Contains (when b (at_line 303 s.line)) v) (sym (counted program unit s)) c)

    unknown-told : Within (unknown_subroutines program s ++ (unknown_references program unit s ++ unknown_targets unit s)) (told program)
    unknown-told v c =
        let in_form = unknown_in_form unit s.line s.form in
        let in_call = unknown_call program s.line s.form in
        let in_lists = flat_map (unknown_listed program unit s.line) (names_with_lists s) in
        ⊎_elim
        (λ h. unknown-in v (Contains-append_right in_form (in_call ++ in_lists) v (Contains-append_left in_call in_lists v (call-told program s.line s.form v h))))
        (λ h. ⊎_elim
        (λ k. unknown-in v (Contains-append_right in_form (in_call ++ in_lists) v (Contains-append_right in_call in_lists v k)))
        (λ k. unknown-in v (Contains-append_left in_form (in_call ++ in_lists) v (subst (λ vs. Contains vs v) (sym (unknown-targets unit s.line s.form)) k)))
        (Contains-append_cases (unknown_references program unit s) (unknown_targets unit s) v h))
        (Contains-append_cases (unknown_subroutines program s) (unknown_references program unit s ++ unknown_targets unit s) v c)

    -- a statement at a line of which no statement has a name without a type
    typed-names : (line : ℕ) → has_doubtful program unit line ≡ false → s.line ≡ line → is_doubtful program unit s ≡ false
    typed-names line h e = by (is_doubtful program unit s) refl
      where
        by : (b : Bool) → is_doubtful program unit s ≡ b → is_doubtful program unit s ≡ false
        by false d = d
        by true d =
            let here : (nat_eq s.line line && is_doubtful program unit s) ≡ true = (λ i. nat_eq s.line (sym e i) && d i) ∙ (and-true (nat_eq s.line s.line) ∙ number-self s.line) in
            absurd (true≢false (sym (contained-any (λ (r : Statement). nat_eq r.line line && is_doubtful program unit r) unit s stands here) ∙ h))

    argument-told : (v : Violation) → has_doubtful program unit v.line ≡ false → Contains (when (is_mismatched program unit s) (at_line 304 s.line)) v → Contains (told program) v
    argument-told v h c =
        let e : s.line ≡ v.line = sym (ap (λ (w : Violation). w.line) (contained-when (is_mismatched program unit s) (at_line 304 s.line) v c)) in
        let all : (is_some (misfit program unit s) && not (is_doubtful program unit s)) ≡ is_mismatched program unit s =
        ap (λ d. is_some (misfit program unit s) && not d) (typed-names v.line h e) ∙ (and-true (is_some (misfit program unit s)) ∙ matched program unit s) in
        two-in v (subst (λ b. Contains (when b (at_line 304 s.line)) v) (sym all) c)

  -- what statements have together is at the line of one of them
  pub labels-complete : (v : Violation) → Contains (label_violations unit) v → Contains (told program) v
  labels-complete v c =
      let p = plain-labels unit v c in
      at-statement p.1.0 p.1.1 306 (label_violations unit) v p.0 c p.1.2 (labels-told p.1.0 p.1.1)

  pub structure-complete : (v : Violation) → Contains (structure_violations functions unit) v → Contains (told program) v
  structure-complete v c =
      let p = plain-structure functions unit v c in
      at-statement p.1.0 p.1.1 307 (structure_violations functions unit) v p.0 c p.1.2 (structure-told p.1.0 p.1.1)

  pub jumps-complete : (v : Violation) → Contains (jump_violations unit) v → Contains (told program) v
  jumps-complete v c =
      let p = plain-jumps unit v c in
      at-statement p.1.0 p.1.1 308 (jump_violations unit) v p.0 c p.1.2 (jumps-told p.1.0 p.1.1)

  pub data-complete : (v : Violation) → Contains (data_violations unit) v → Contains (told program) v
  data-complete v c =
      let p = plain-data unit v c in
      at-statement p.1.0 p.1.1 311 (data_violations unit) v p.0 c p.1.2 (three-in p.1.0 p.1.1)

  pub counts-complete : (v : Violation) → Contains (count_violations program unit) v → Contains (told program) v
  counts-complete v c = flat-within (λ (s : Statement). when (is_miscounted program unit s) (at_line 303 s.line)) unit v (λ s stands h. count-told s stands v h) c

  pub unknown-complete : (v : Violation) → Contains (unknown_name_violations program unit) v → Contains (told program) v
  unknown-complete v c =
      flat-within (λ (s : Statement). unknown_subroutines program s ++ (unknown_references program unit s ++ unknown_targets unit s)) unit v (λ s stands h. unknown-told s stands v h) c

  pub resume-complete : (v : Violation) → Contains (resume_violations unit) v → Contains (told program) v
  resume-complete v c = flat-within (λ (s : Statement). when (is_resume s.form && is_none (subroutine_name unit)) (at_line 312 s.line)) unit v (λ s stands h. four-in s stands v h) c

  pub arguments-complete : (v : Violation) → has_doubtful program unit v.line ≡ false → Contains (argument_violations functions program unit) v → Contains (told program) v
  arguments-complete v d c = flat-within (λ (s : Statement). when (is_mismatched program unit s) (at_line 304 s.line)) unit v (λ s stands h. argument-told s stands v d h) c

  -- ---- 302

  types-from : (ps : Parameters) (known : List Name) (ss : List Statement) (v : Violation) → ((s : Statement) → Contains ss s → Contains unit s) → has_doubtful program unit v.line ≡ false
      → Contains (type_violations_from functions unit ps ss) v → Contains (told_from program lines unit ps known ss) v
  types-from ps known [] v k d c = none-contained v c
  types-from ps known (s ∷ ss) v k d c =
      let untyped = untyped_told functions unit s.line known (occurrences_in_statement unit s) in
      let wrong = not (is_statement_typed functions unit ps s) in
      let mistyped = when (wrong && not (is_doubtful program unit s)) (at_line 302 s.line) in
      let others = others_told program lines unit (is_doubtful program unit s) s in
      let behind = told_from program lines unit (parameters_after unit ps s) (names_after program unit known s) ss in
      ⊎_elim
      (λ h. let e : s.line ≡ v.line = sym (ap (λ (w : Violation). w.line) (contained-when wrong (at_line 302 s.line) v h)) in
      let all : (wrong && not (is_doubtful program unit s)) ≡ wrong = ap (λ b. wrong && not b) (typed-names s (k s (contains-here s ss)) v.line d e) ∙ and-true wrong in
      Contains-append_left (untyped ++ (mistyped ++ others)) behind v
      (Contains-append_right untyped (mistyped ++ others) v
      (Contains-append_left mistyped others v (subst (λ b. Contains (when b (at_line 302 s.line)) v) (sym all) h))))
      (λ h. Contains-append_right (untyped ++ (mistyped ++ others)) behind v
      (types-from (parameters_after unit ps s) (names_after program unit known s) ss v (λ r m. k r (contains-more r s ss m)) d h))
      (Contains-append_cases (when wrong (at_line 302 s.line)) (type_violations_from functions unit (with_parameters unit ps (constants_in s.form)) ss) v c)

  pub types-complete : (v : Violation) → has_doubtful program unit v.line ≡ false → Contains (type_violations functions unit) v → Contains (told program) v
  types-complete v d c = unit-told v (types-from no_parameters [] unit v (λ s m. m) d c)

  -- ---- 301

  -- a violation of 301 by this name is told
  abbrev IsTold : Name → Type 0
  IsTold x = (w : Violation) × (Contains (told program) w) × (w.number ≡ 301) × (w.name ≡ Some x)

  abbrev AreTold : List Name → Type 0
  AreTold known = (x : Name) → is_among x known ≡ true → IsTold x

  told-more : (x : Name) (known : List Name) → IsTold x → AreTold known → AreTold (with_name x known)
  told-more x known h k = by (is_among x known)
    where
      one : (y : Name) (b : Bool) → same_name y x ≡ b → (if b then true else is_among y known) ≡ true → IsTold y
      one y true e g = subst IsTold (sym (equal_names y x e)) h
      one y false e g = k y g

      by : (b : Bool) → AreTold (if b then known else x ∷ known)
      by true = k
      by false = λ y g. one y (same_name y x) refl g

  untyped-from : (line : ℕ) (known : List Name) (ps : List Occurrence) → AreTold known → Within (untyped_told functions unit line known ps) (told program)
      → ((p : Occurrence) → Contains ps p → is_untyped_at functions unit p ≡ true → IsTold p.name) × AreTold (told_after functions unit known ps)
  untyped-from line known [] k h = (λ p c e. none-contained p c, k)
  untyped-from line known (q ∷ qs) k h =
      by (is_untyped_at functions unit q) refl (λ a w. untyped-from line (with_name q.name known) qs a w) (λ a w. untyped-from line known qs a w)
    where
      first : (b : Bool) → is_among q.name known ≡ b → Within (when (not b) (at_occurrence 301 line q) ++ untyped_told functions unit line (with_name q.name known) qs) (told program) → IsTold q.name
      first true a w = k q.name a
      first false a w =
          (at_occurrence 301 line q, w (at_occurrence 301 line q) (contains-here (at_occurrence 301 line q) (untyped_told functions unit line (with_name q.name known) qs)), refl, refl)

      by : (b : Bool) → is_untyped_at functions unit q ≡ b
          → (AreTold (with_name q.name known) → Within (untyped_told functions unit line (with_name q.name known) qs) (told program)
          → ((p : Occurrence) → Contains qs p → is_untyped_at functions unit p ≡ true → IsTold p.name) × AreTold (told_after functions unit (with_name q.name known) qs))
          → (AreTold known → Within (untyped_told functions unit line known qs) (told program)
          → ((p : Occurrence) → Contains qs p → is_untyped_at functions unit p ≡ true → IsTold p.name) × AreTold (told_after functions unit known qs))
          → ((p : Occurrence) → Contains (q ∷ qs) p → is_untyped_at functions unit p ≡ true → IsTold p.name) × AreTold (told_after functions unit known (q ∷ qs))
      by true e after same =
          let all : Within (untold known line q ++ untyped_told functions unit line (with_name q.name known) qs) (told program) =
          subst (λ b. Within (if b then untold known line q ++ untyped_told functions unit line (with_name q.name known) qs else untyped_told functions unit line known qs) (told program)) e h in
          let here : IsTold q.name = first (is_among q.name known) refl all in
          let more = after (told-more q.name known here k) (λ v c. all v (Contains-append_right (untold known line q) (untyped_told functions unit line (with_name q.name known) qs) v c)) in (
            λ p c u. ⊎_elim (λ one. subst (λ (r : Occurrence). IsTold r.name) (sym (contains-one q p one)) here) (λ m. more.0 p m u) (Contains-append_cases (q ∷ []) qs p c),
            subst (λ b. AreTold (told_after functions unit (if b then with_name q.name known else known) qs)) (sym e) more.1,
          )
      by false e after same =
          let all : Within (untyped_told functions unit line known qs) (told program) =
          subst (λ b. Within (if b then untold known line q ++ untyped_told functions unit line (with_name q.name known) qs else untyped_told functions unit line known qs) (told program)) e h in
          let more = same k all in (
            λ p c u. ⊎_elim (λ one. absurd (true≢false (sym u ∙ (ap (is_untyped_at functions unit) (contains-one q p one) ∙ e)))) (λ m. more.0 p m u) (Contains-append_cases (q ∷ []) qs p c),
            subst (λ b. AreTold (told_after functions unit (if b then with_name q.name known else known) qs)) (sym e) more.1,
          )

  names-from : (ps : Parameters) (known : List Name) (ss : List Statement) → AreTold known → Within (told_from program lines unit ps known ss) (told program)
      → (s : Statement) → Contains ss s → (p : Occurrence) → Contains (occurrences_in_statement unit s) p → is_untyped_at functions unit p ≡ true → IsTold p.name
  names-from ps known [] k h s m p c u = none-contained s m
  names-from ps known (r ∷ rs) k h s m p c u =
      let untyped = untyped_told functions unit r.line known (occurrences_in_statement unit r) in
      let mistyped = when (not (is_statement_typed functions unit ps r) && not (is_doubtful program unit r)) (at_line 302 r.line) in
      let others = others_told program lines unit (is_doubtful program unit r) r in
      let behind = told_from program lines unit (parameters_after unit ps r) (names_after program unit known r) rs in
      let here = untyped-from r.line known (occurrences_in_statement unit r) k
      (λ v g. h v (Contains-append_left (untyped ++ (mistyped ++ others)) behind v (Contains-append_left untyped (mistyped ++ others) v g))) in
      ⊎_elim (λ one. here.0 p (subst (λ t. Contains (occurrences_in_statement unit t) p) (contains-one r s one) c) u)
      (λ more. names-from (parameters_after unit ps r) (names_after program unit known r) rs here.1 (λ v g. h v (Contains-append_right (untyped ++ (mistyped ++ others)) behind v g)) s more p c u)
      (Contains-append_cases (r ∷ []) rs s m)

  pub untyped-complete : (v : Violation) → Contains (type_missing_violations functions unit) v
      → (w : Violation) × (Contains (told program) w) × (w.number ≡ 301) × (w.name ≡ v.name)
  untyped-complete v c =
      flat-within (untyped_in functions unit) unit v
      (λ s m h. flat-within (λ (p : Occurrence). when (is_untyped functions unit p.name) (at_occurrence 301 s.line p)) (occurrences_in_statement unit s) v
      (λ p q g. subst (λ x. (w : Violation) × (Contains (told program) w) × (w.number ≡ 301) × (w.name ≡ x))
      (sym (ap (λ (z : Violation). z.name) (contained-when (is_untyped functions unit p.name) (at_occurrence 301 s.line p) v g)))
      (names-from no_parameters [] unit (λ x e. absurd (true≢false (sym e))) unit-told s m p q (test-when (is_untyped functions unit p.name) (at_occurrence 301 s.line p) v g))) h) c

-- what units have together is at the line of a statement of one of them
pub common-complete : (program : Units) (v : Violation) → Contains (common_violations program) v → Contains (told program) v
common-complete program v c =
    let p = plain-common program v c in
    let (unit, there, place) = p.1 in
    at-statement program unit there place.0 place.1 305 (common_violations program) v p.0 c place.2 (common-told program unit there place.0 place.1)

pub names-complete : (program : Units) (v : Violation) → Contains (name_violations program) v → Contains (told program) v
names-complete program v c =
    let p = plain-names program v c in
    let (unit, there, place) = p.1 in
    at-statement program unit there place.0 place.1 309 (name_violations program) v p.0 c place.2 (names-told program unit there place.0 place.1)
