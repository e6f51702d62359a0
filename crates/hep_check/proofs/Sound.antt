-- Each violation that is told is one of the program's.
use Rattle.std.proofs.Common.{◌≡◌, ℕ, Bool, true, false, not, ◌&&◌, ◌||◌, if◌then◌else◌, is_none, is_some, List, [], ◌∷◌, ◌++◌, Some, None, refl, sym, ap, subst, ◌∙◌, find}
use Rattle.std.specs.List.{Contains, flat_map, list_all}
use Rattle.std.specs.Option.{option_map}
use Rattle.std.proofs.lemmas.Bool.{and_parts}
use Rattle.std.proofs.lemmas.List.Elements.{Contains-append_left, Contains-append_right}
use Rattle.hep_source.proofs.Tests.{and-false, or-false, or-true}
use Rattle.hep_source.specs.declared.statement.Form.TheVariants as form
use Rattle.hep_machine.specs.Words.{Form, Name, Occurrence, Statement, Target, Units, constants_in, is_among, occurrences_in_statement, subroutine_called, subroutine_name}
use Rattle.hep_conditions.specs.declared.violation.Violation.{Violation}
use Rattle.hep_conditions.specs.Words.{Calling, FunctionTypes, NameWithList, Parameters, Violations, argument_violations, at_line, at_occurrence, calls_in, common_violations, count_violations, data_violations, fits_call, fits_reference, function_types, is_call_counted, is_counted, is_reference_counted, is_reference_given, is_resume, is_statement_typed, jump_violations, label_violations, name_violations, names_with_lists, no_parameters, resume_violations, structure_violations, targets_purged, type_missing_violations, type_violations, type_violations_from, unknown_name_violations, unknown_references, unknown_subroutines, unknown_targets, untyped_in, violations, violations_in, when, with_parameters, is_untyped}
use Rattle.hep_types.specs.CallPasses.{is_given, is_mismatched, is_purgeable}
use Rattle.hep_names.specs.Parts.{is_miscounted, unknown_in_form, unknown_listed}
use Rattle.hep_names.proofs.Passes.{unknown-targets}
use Rattle.hep_check.specs.Culprits.{first_call_unmet, first_target_unmet, first_unmet, is_list_counted, miscounted, misfit}
use Rattle.hep_check.specs.ExpressionCulprits.{Found, either}
use Rattle.hep_check.specs.AllViolations.{ViolatedLines, is_doubtful, is_untyped_at, lines_in, names_after, others_told, shared_told, statement_told, told, told_from, told_in, unknown_call, unknown_told, untold, untyped_told, with_name}
use Rattle.hep_check.proofs.Members.{Within, contains-flat, contains-here, contains-more, contains-one, flat-within, none-contained, within-append}
use Rattle.hep_check.proofs.StatementLines.{IsLineIn, IsLineOf, plain-common, plain-data, plain-jumps, plain-labels, plain-names, plain-structure, plain-there}
use Rattle.hep_types.specs.Passes.{parameters_after}

-- ---- tests

found-unmet : {A B : Type 0} (f : A → B) (test : A → Bool) (xs : List A) → is_some (option_map f (find (λ y. not (test y)) xs)) ≡ not (list_all test xs)
found-unmet f test [] = refl
found-unmet f test (x ∷ xs) = by (test x) refl (found-unmet f test xs)
  where
    by : (b : Bool) → test x ≡ b → is_some (option_map f (find (λ y. not (test y)) xs)) ≡ not (list_all test xs)
        → is_some (option_map f (find (λ y. not (test y)) (x ∷ xs))) ≡ not (list_all test (x ∷ xs))
    by true e h = rw e h
    by false e h = rw e refl

some-either : (a b : Found) → is_some (either a b) ≡ (is_some a || is_some b)
some-either (Some p) b = refl
some-either None b = refl

all-both : {A : Type 0} (p q : A → Bool) (xs : List A) → list_all (λ x. p x && q x) xs ≡ (list_all p xs && list_all q xs)
all-both p q [] = refl
all-both p q (x ∷ xs) = ap (λ b. (p x && q x) && b) (all-both p q xs) ∙ swapped (p x) (q x) (list_all p xs) (list_all q xs)
  where
    swapped : (a b c d : Bool) → ((a && b) && (c && d)) ≡ ((a && c) && (b && d))
    swapped true true c d = refl
    swapped true false c d = sym (and-false c)
    swapped false b c d = refl

three : (a b c : Bool) → (not c || not (a && b)) ≡ not (a && (b && c))
three true true c = or-false (not c)
three true false c = or-true (not c)
three false b c = or-true (not c)

four : (c f g p : Bool) → (not c || (not (f && g) || not p)) ≡ not (c && (f && (g && p)))
four true true true p = refl
four true true false p = refl
four true false g p = refl
four false f g p = refl

-- what is miscounted or doesn't fit is found where the condition says so
module _ (program : Units) (unit : List Statement) (s : Statement) where
  abbrev lists : List NameWithList
  lists = names_with_lists s

  abbrev calls : List Calling
  calls = calls_in s.form

  pub counted : is_some (miscounted program unit s) ≡ is_miscounted program unit s
  counted =
      some-either (first_call_unmet (is_call_counted program) calls) (first_unmet (is_list_counted program unit) lists)
      ∙ ((λ i. found-unmet (λ (c : Calling). c.occurrence) (is_call_counted program) calls i
      || (found-unmet (λ (r : NameWithList). r.occurrence) (is_list_counted program unit) lists ∙ ap not (all-both (is_counted unit) (is_reference_counted program unit) lists)) i)
      ∙ three (list_all (is_counted unit) lists) (list_all (is_reference_counted program unit) lists) (list_all (is_call_counted program) calls))

  abbrev functions : FunctionTypes
  functions = function_types program

  pub matched : is_some (misfit program unit s) ≡ is_mismatched program unit s
  matched =
      let by_calls = first_call_unmet (fits_call functions program unit) calls in
      let by_lists = first_unmet (is_given program unit) lists in
      let by_targets = first_target_unmet (is_purgeable unit) (targets_purged s.form) in
      some-either by_calls (either by_lists by_targets)
      ∙ (ap (λ b. is_some by_calls || b) (some-either by_lists by_targets)
      ∙ ((λ i. found-unmet (λ (c : Calling). c.occurrence) (fits_call functions program unit) calls i
      || ((found-unmet (λ (r : NameWithList). r.occurrence) (is_given program unit) lists ∙ ap not (all-both (fits_reference functions program unit) (is_reference_given functions unit) lists)) i
      || found-unmet (λ (t : Target). t.occurrence) (is_purgeable unit) (targets_purged s.form) i))
      ∙ four (list_all (fits_call functions program unit) calls) (list_all (fits_reference functions program unit) lists) (list_all (is_reference_given functions unit) lists)
      (list_all (is_purgeable unit) (targets_purged s.form))))

-- ---- lists

within-none : (ws : Violations) → Within [] ws
within-none ws v c = none-contained v c

within-tail : (us vs ws : Violations) → Within (us ++ vs) ws → Within vs ws
within-tail us vs ws h v c = h v (Contains-append_right us vs v c)

within-head : (us vs ws : Violations) → Within (us ++ vs) ws → Within us ws
within-head us vs ws h v c = h v (Contains-append_left us vs v c)

within-when : (b : Bool) (v : Violation) (ws : Violations) → (b ≡ true → Contains ws v) → Within (when b v) ws
within-when true v ws h w c = subst (Contains ws) (sym (contains-one v w c)) (h refl)
within-when false v ws h w c = none-contained w c

pub when-there : (b : Bool) (v : Violation) → b ≡ true → Contains (when b v) v
when-there b v e = subst (λ c. Contains (when c v) v) (sym e) (contains-here v [])

-- ---- 301 and 310

untyped-within : (functions : FunctionTypes) (unit : List Statement) (line : ℕ) (known : List Name) (ps : List Occurrence)
    → Within (untyped_told functions unit line known ps) (flat_map (λ (p : Occurrence). when (is_untyped functions unit p.name) (at_occurrence 301 line p)) ps)
untyped-within functions unit line known [] = within-none []
untyped-within functions unit line known (p ∷ ps) =
    by (is_untyped_at functions unit p) (untyped-within functions unit line (with_name p.name known) ps) (untyped-within functions unit line known ps)
  where
    by : (b : Bool) → Within (untyped_told functions unit line (with_name p.name known) ps) (flat_map (λ (q : Occurrence). when (is_untyped functions unit q.name) (at_occurrence 301 line q)) ps)
        → Within (untyped_told functions unit line known ps) (flat_map (λ (q : Occurrence). when (is_untyped functions unit q.name) (at_occurrence 301 line q)) ps)
        → Within (if b then untold known line p ++ untyped_told functions unit line (with_name p.name known) ps else untyped_told functions unit line known ps)
        (when b (at_occurrence 301 line p) ++ flat_map (λ (q : Occurrence). when (is_untyped functions unit q.name) (at_occurrence 301 line q)) ps)
    by true h k =
        let more = flat_map (λ (q : Occurrence). when (is_untyped functions unit q.name) (at_occurrence 301 line q)) ps in
        within-append (untold known line p) (untyped_told functions unit line (with_name p.name known) ps) (at_occurrence 301 line p ∷ more)
        (within-when (not (is_among p.name known)) (at_occurrence 301 line p) (at_occurrence 301 line p ∷ more) (λ e. contains-here (at_occurrence 301 line p) more))
        (λ v c. contains-more v (at_occurrence 301 line p) more (h v c))
    by false h k = k

call-within : (program : Units) (line : ℕ) (f : Form)
    → Within (unknown_call program line f) (flat_map (λ (c : Calling). when (is_none (subroutine_called program c.occurrence.name)) (at_occurrence 310 line c.occurrence)) (calls_in f))
call-within program line (form.Call p ts) = λ v c. Contains-append_left (when (is_none (subroutine_called program p.name)) (at_occurrence 310 line p)) [] v c
call-within program line (form.Create p ts) = λ v c. Contains-append_left (when (is_none (subroutine_called program p.name)) (at_occurrence 310 line p)) [] v c
call-within program line _ = λ v c. none-contained v c

-- ---- a unit of a program

module _ (program : Units) (unit : List Statement) (there : Contains program unit) where
  abbrev ws : Violations
  ws = violations program

  abbrev types_of : FunctionTypes
  types_of = function_types program

  abbrev from_data : Violations
  from_data = data_violations unit ++ resume_violations unit

  abbrev from_unknown : Violations
  from_unknown = unknown_name_violations program unit ++ from_data

  abbrev from_jumps : Violations
  from_jumps = jump_violations unit ++ from_unknown

  abbrev from_structure : Violations
  from_structure = structure_violations types_of unit ++ from_jumps

  abbrev from_labels : Violations
  from_labels = label_violations unit ++ from_structure

  abbrev from_arguments : Violations
  from_arguments = argument_violations types_of program unit ++ from_labels

  abbrev from_counts : Violations
  from_counts = count_violations program unit ++ from_arguments

  abbrev from_types : Violations
  from_types = type_violations types_of unit ++ from_counts

  abbrev of_program : Violations
  of_program = common_violations program ++ name_violations program

  all-in : Within (type_missing_violations types_of unit ++ from_types) ws
  all-in v c = Contains-append_left (flat_map (violations_in program) program) of_program v (contains-flat (violations_in program) program unit v there c)

  program-in : Within of_program ws
  program-in v c = Contains-append_right (flat_map (violations_in program) program) of_program v c

  missing-in : Within (type_missing_violations types_of unit) ws
  missing-in = within-head (type_missing_violations types_of unit) from_types ws all-in

  from-types : Within from_types ws
  from-types = within-tail (type_missing_violations types_of unit) from_types ws all-in

  from-counts : Within from_counts ws
  from-counts = within-tail (type_violations types_of unit) from_counts ws from-types

  from-arguments : Within from_arguments ws
  from-arguments = within-tail (count_violations program unit) from_arguments ws from-counts

  from-labels : Within from_labels ws
  from-labels = within-tail (argument_violations types_of program unit) from_labels ws from-arguments

  from-structure : Within from_structure ws
  from-structure = within-tail (label_violations unit) from_structure ws from-labels

  from-jumps : Within from_jumps ws
  from-jumps = within-tail (structure_violations types_of unit) from_jumps ws from-structure

  from-unknown : Within from_unknown ws
  from-unknown = within-tail (jump_violations unit) from_unknown ws from-jumps

  from-data : Within from_data ws
  from-data = within-tail (unknown_name_violations program unit) from_data ws from-unknown

  types-in : Within (type_violations types_of unit) ws
  types-in = within-head (type_violations types_of unit) from_counts ws from-types

  counts-in : Within (count_violations program unit) ws
  counts-in = within-head (count_violations program unit) from_arguments ws from-counts

  arguments-in : Within (argument_violations types_of program unit) ws
  arguments-in = within-head (argument_violations types_of program unit) from_labels ws from-arguments

  labels-in : Within (label_violations unit) ws
  labels-in = within-head (label_violations unit) from_structure ws from-labels

  structure-in : Within (structure_violations types_of unit) ws
  structure-in = within-head (structure_violations types_of unit) from_jumps ws from-structure

  jumps-in : Within (jump_violations unit) ws
  jumps-in = within-head (jump_violations unit) from_unknown ws from-jumps

  unknown-in : Within (unknown_name_violations program unit) ws
  unknown-in = within-head (unknown_name_violations program unit) from_data ws from-unknown

  data-in : Within (data_violations unit) ws
  data-in = within-head (data_violations unit) (resume_violations unit) ws from-data

  resume-in : Within (resume_violations unit) ws
  resume-in = within-tail (data_violations unit) (resume_violations unit) ws from-data

  common-in : Within (common_violations program) ws
  common-in = within-head (common_violations program) (name_violations program) ws program-in

  names-in : Within (name_violations program) ws
  names-in = within-tail (common_violations program) (name_violations program) ws program-in

  -- ---- a statement

  module _ (s : Statement) (stands : Contains unit s) where
    abbrev line : ℕ
    line = s.line

    abbrev lines : ViolatedLines
    lines = lines_in program unit

    abbrev shared-one : (n : ℕ) (b : Bool) → Violations
    shared-one n b = when b (at_line n line)

    shared-within : Within (shared_told lines line) ws
    shared-within =
        within-append (shared-one 305 (lines.common line)) (shared-one 306 (lines.labels line) ++ (shared-one 307 (lines.structure line) ++ (shared-one 308 (lines.jumps line) ++ shared-one 309 (lines.names line)))) ws
        (within-when (lines.common line) (at_line 305 line) ws
        (λ e. common-in (at_line 305 line) (plain-there (IsLineOf program) 305 (common_violations program) line (plain-common program) e)))
        (within-append (shared-one 306 (lines.labels line)) (shared-one 307 (lines.structure line) ++ (shared-one 308 (lines.jumps line) ++ shared-one 309 (lines.names line))) ws
        (within-when (lines.labels line) (at_line 306 line) ws
        (λ e. labels-in (at_line 306 line) (plain-there (IsLineIn unit) 306 (label_violations unit) line (plain-labels unit) e)))
        (within-append (shared-one 307 (lines.structure line)) (shared-one 308 (lines.jumps line) ++ shared-one 309 (lines.names line)) ws
        (within-when (lines.structure line) (at_line 307 line) ws
        (λ e. structure-in (at_line 307 line)
        (plain-there (IsLineIn unit) 307 (structure_violations types_of unit) line (plain-structure types_of unit) e)))
        (within-append (shared-one 308 (lines.jumps line)) (shared-one 309 (lines.names line)) ws
        (within-when (lines.jumps line) (at_line 308 line) ws
        (λ e. jumps-in (at_line 308 line) (plain-there (IsLineIn unit) 308 (jump_violations unit) line (plain-jumps unit) e)))
        (within-when (lines.names line) (at_line 309 line) ws
        (λ e. names-in (at_line 309 line) (plain-there (IsLineOf program) 309 (name_violations program) line (plain-names program) e))))))

    abbrev in_form : Violations
    in_form = unknown_in_form unit line s.form

    abbrev in_call : Violations
    in_call = unknown_call program line s.form

    abbrev in_lists : Violations
    in_lists = flat_map (unknown_listed program unit line) (names_with_lists s)

    unknown-here : Within (unknown_subroutines program s ++ (unknown_references program unit s ++ unknown_targets unit s)) ws
    unknown-here v c =
        unknown-in v (contains-flat (λ (r : Statement). unknown_subroutines program r ++ (unknown_references program unit r ++ unknown_targets unit r)) unit s v stands c)

    unknown-within : Within (unknown_told program unit s) ws
    unknown-within =
        within-append in_form (in_call ++ in_lists) ws
        (λ v c. unknown-here v
        (Contains-append_right (unknown_subroutines program s) (unknown_references program unit s ++ unknown_targets unit s) v
        (Contains-append_right (unknown_references program unit s) (unknown_targets unit s) v (subst (λ vs. Contains vs v) (unknown-targets unit line s.form) c))))
        (within-append in_call in_lists ws
        (λ v c. unknown-here v (Contains-append_left (unknown_subroutines program s) (unknown_references program unit s ++ unknown_targets unit s) v (call-within program line s.form v c)))
        (λ v c. unknown-here v
        (Contains-append_right (unknown_subroutines program s) (unknown_references program unit s ++ unknown_targets unit s) v
        (Contains-append_left (unknown_references program unit s) (unknown_targets unit s) v c))))

    others-within : (is_held : Bool) → Within (others_told program lines unit is_held s) ws
    others-within is_held =
        let one = when (is_some (miscounted program unit s)) (at_line 303 line) in
        let two = when (is_some (misfit program unit s) && not is_held) (at_line 304 line) in
        let three = when (lines.values line) (at_line 311 line) in
        let four = when (is_resume s.form && is_none (subroutine_name unit)) (at_line 312 line) in
        within-append one (two ++ (shared_told lines line ++ (unknown_told program unit s ++ (three ++ four)))) ws
        (within-when (is_some (miscounted program unit s)) (at_line 303 line) ws
        (λ e. counts-in (at_line 303 line)
        (contains-flat (λ (r : Statement). when (is_miscounted program unit r) (at_line 303 r.line)) unit s (at_line 303 line) stands
        (when-there (is_miscounted program unit s) (at_line 303 line) (sym (counted program unit s) ∙ e)))))
        (within-append two (shared_told lines line ++ (unknown_told program unit s ++ (three ++ four))) ws
        (within-when (is_some (misfit program unit s) && not is_held) (at_line 304 line) ws
        (λ e. arguments-in (at_line 304 line)
        (contains-flat (λ (r : Statement). when (is_mismatched program unit r) (at_line 304 r.line)) unit s (at_line 304 line) stands
        (when-there (is_mismatched program unit s) (at_line 304 line) (sym (matched program unit s) ∙ (and_parts (is_some (misfit program unit s)) (not is_held) e).0)))))
        (within-append (shared_told lines line) (unknown_told program unit s ++ (three ++ four)) ws shared-within
        (within-append (unknown_told program unit s) (three ++ four) ws unknown-within
        (within-append three four ws
        (within-when (lines.values line) (at_line 311 line) ws
        (λ e. data-in (at_line 311 line) (plain-there (IsLineIn unit) 311 (data_violations unit) line (plain-data unit) e)))
        (λ v c. resume-in v (contains-flat (λ (r : Statement). when (is_resume r.form && is_none (subroutine_name unit)) (at_line 312 r.line)) unit s v stands c))))))

    statement-within : (ps : Parameters) (known : List Name) → (not (is_statement_typed types_of unit ps s) ≡ true → Contains ws (at_line 302 line))
        → Within (statement_told program lines unit ps known s) ws
    statement-within ps known h =
        let untyped = untyped_told types_of unit line known (occurrences_in_statement unit s) in
        let mistyped = when (not (is_statement_typed types_of unit ps s) && not (is_doubtful program unit s)) (at_line 302 line) in
        within-append untyped (mistyped ++ others_told program lines unit (is_doubtful program unit s) s) ws
        (λ v c. missing-in v (contains-flat (untyped_in types_of unit) unit s v stands (untyped-within types_of unit line known (occurrences_in_statement unit s) v c)))
        (within-append mistyped (others_told program lines unit (is_doubtful program unit s) s) ws
        (within-when (not (is_statement_typed types_of unit ps s) && not (is_doubtful program unit s)) (at_line 302 line) ws
        (λ e. h (and_parts (not (is_statement_typed types_of unit ps s)) (not (is_doubtful program unit s)) e).0))
        (others-within (is_doubtful program unit s)))

  -- ---- statement by statement

  from-within : (ps : Parameters) (known : List Name) (ss : List Statement) → Within (type_violations_from types_of unit ps ss) ws → ((s : Statement) → Contains ss s → Contains unit s)
      → Within (told_from program (lines_in program unit) unit ps known ss) ws
  from-within ps known [] h k = within-none ws
  from-within ps known (s ∷ ss) h k =
      let here = when (not (is_statement_typed types_of unit ps s)) (at_line 302 s.line) in
      let behind = type_violations_from types_of unit (with_parameters unit ps (constants_in s.form)) ss in
      within-append (statement_told program (lines_in program unit) unit ps known s)
      (told_from program (lines_in program unit) unit (parameters_after unit ps s) (names_after program unit known s) ss) ws
      (statement-within s (k s (contains-here s ss)) ps known
      (λ e. h (at_line 302 s.line) (Contains-append_left here behind (at_line 302 s.line) (when-there (not (is_statement_typed types_of unit ps s)) (at_line 302 s.line) e))))
      (from-within (parameters_after unit ps s) (names_after program unit known s) ss (within-tail here behind ws h) (λ r c. k r (contains-more r s ss c)))

  unit-within : Within (told_in program unit) ws
  unit-within = from-within no_parameters [] unit types-in (λ s c. c)

pub told-within : (program : Units) → Within (told program) (violations program)
told-within program v c = flat-within (told_in program) program v (λ unit m here. unit-within program unit m v here) c
