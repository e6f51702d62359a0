-- What is ambiguous has the lines that 309 has, fs each test of a line sees them; and loops that gather it.
use Rattle.std.proofs.Common.{◌≡◌, ℕ, ◌<◌, ◌+◌, max, length, get_or, drop, Bool, true, false, not, ◌&&◌, ◌||◌, nat_le, Option, Some, None, List, [], ◌∷◌, ◌++◌, refl, ◌∙◌, sym, ap, arith, append_assoc, slice_set, true≢false}
use Rattle.std.specs.List.{flat_map, list_any}
use Rattle.std.proofs.lemmas.Bool.Decides.{nat_tests}
use Rattle.std.proofs.lemmas.List.{drop_more}
use Rattle.std.proofs.lemmas.List.Folds.{list_any-append}
use Rattle.hep_machine.specs.Words.{LetterRange, Name, Statement, Units, function_named, is_external, same_name}
use Rattle.hep_source.proofs.NameTests.{same_name-turned}
use Rattle.hep_source.proofs.Tests.{any-flat, any-or, or-false, any-same, any-and, any-turned}
use Rattle.hep_conditions.specs.declared.violation.Violation.{Violation}
use Rattle.hep_conditions.specs.Words.{FunctionTypes, Use, Violations, assigned_names, at_line, block_names, both_ways, bounded_names, called_names, common_names, constant_names, data_names, dummy_names, function_names, function_names_alone, function_types, given_twice, least_line, letter_ranges_of, letters_repeated, line_when, misnamed, misused_constants, misused_results, name_violations, overlap, repeated, repeated_after, result_names, typed_names, unit_uses, used_both_ways, uses_by, variable_names, when}
use Rattle.hep_conditions.specs.Names as conditions
use Rattle.hep_types.specs.declared.all_ambiguities.Ambiguity.{Ambiguity}
use Rattle.hep_types.specs.declared.uses.UseKind.TheVariants.{Dummy, Common, Constant, Called, Variable, Result, Function, Alone}
use Rattle.hep_types.specs.Ambiguities.{ambiguities, ambiguous_in, ambiguous_units, ambiguous_when, is_by, its_name, met_at, met_both_ways, met_from, misnamed_by, misnamed_in, misused_names, no_name, repeated_from, repeated_letters, repeated_names, twice_in, two_ways_in}
use Rattle.hep_types.specs.AmbiguityLines.{given_once, least_named, meets, later_letter, no_constants, no_results, with_seen}
use Rattle.hep_types.specs.Uses.{uses_of}
use Rattle.hep_types.proofs.Overlaps.{meets-noted}

-- the lesser of two lines isn't after this line where one of them isn't
pub by-lesser : (a b : Option ℕ) (line : ℕ) → is_by (least_line a b) line ≡ (is_by a line || is_by b line)
by-lesser None b line = refl
by-lesser (Some k) None line = sym (or-false (nat_le k line))
by-lesser (Some k) (Some l) line = grind (arith, nat_tests)

-- ---- loops

-- a turn of a loop that adds what each element gives
pub flat-more : {A B : Type 0} (f : A → List B) (xs : List A) (i : ℕ) (d : A) (found next whole : List B) → i < length xs → found ++ flat_map f (drop i xs) ≡ whole
    → next ≡ found ++ f (get_or xs i d) → next ++ flat_map f (drop (i + 1) xs) ≡ whole
flat-more f xs i d found next whole lt h n =
    let x = get_or xs i d in
    let rest = drop (i + 1) xs in
    ap (λ l. l ++ flat_map f rest) n
    ∙ (append_assoc found (f x) (flat_map f rest) ∙ (ap (λ ys. found ++ flat_map f ys) (sym (drop_more xs i d lt)) ∙ h))

-- a turn of a loop over things with their lines
pub repeated-more : {A : Type 0} (agrees : A → A → Bool) (name : A → Option Name) (us : List (A × ℕ)) (i : ℕ) (d : A × ℕ) (b : Bool) (found next whole : List Ambiguity) (seen later : A → Bool) → i < length us
    → found ++ repeated_from agrees name seen (drop i us) ≡ whole → next ≡ found ++ ambiguous_when b (name (get_or us i d).0) (get_or us i d).1 → b ≡ seen (get_or us i d).0
    → ((x : A) → later x ≡ with_seen agrees seen (get_or us i d).0 x) → next ++ repeated_from agrees name later (drop (i + 1) us) ≡ whole
repeated-more agrees name us i d b found next whole seen later lt h n e w =
    let u = get_or us i d in
    let rest = drop (i + 1) us in
    let here = ambiguous_when (seen u.0) (name u.0) u.1 in
    let first : next ≡ found ++ here = n ∙ ap (λ t. found ++ ambiguous_when t (name u.0) u.1) e in
    (λ k. first k ++ repeated_from agrees name (λ x. w x k) rest)
    ∙ (append_assoc found here (repeated_from agrees name (with_seen agrees seen u.0) rest)
    ∙ (ap (λ vs. found ++ repeated_from agrees name seen vs) (sym (drop_more us i d lt)) ∙ h))

-- a turn of a loop over ranges of letters
pub letters-more : (us : List (LetterRange × ℕ)) (i : ℕ) (d : LetterRange × ℕ) (b : Bool) (found next whole : List Ambiguity) (old new : List (Option ℕ)) → i < length us
    → found ++ repeated_from overlap no_name (meets old) (drop i us) ≡ whole → next ≡ found ++ ambiguous_when b None (get_or us i d).1 → b ≡ meets old (get_or us i d).0
    → new ≡ slice_set old (get_or us i d).0.first (later_letter (get_or old (get_or us i d).0.first None) (get_or us i d).0.last) → (get_or us i d).0.first < length old
    → next ++ repeated_from overlap no_name (meets new) (drop (i + 1) us) ≡ whole
letters-more us i d b found next whole old new lt h n m e within =
    repeated-more overlap no_name us i d b found next whole (meets old) (meets new) lt h n m (λ r. ap (λ os. meets os r) e ∙ meets-noted old (get_or us i d).0 r within)

-- things that were seen alike
pub repeated_from-same : {A : Type 0} (agrees : A → A → Bool) (name : A → Option Name) (p q : A → Bool) → ((x : A) → p x ≡ q x) → (us : List (A × ℕ))
    → repeated_from agrees name p us ≡ repeated_from agrees name q us
repeated_from-same agrees name p q h us = λ i. repeated_from agrees name (λ x. h x i) us

-- a turn of a loop over uses
pub met-more : (lines : Name → Option ℕ) (us : List Use) (i : ℕ) (d : Use) (b : Bool) (o : Option ℕ) (found next whole : List Ambiguity) → i < length us
    → found ++ met_from lines (drop i us) ≡ whole → next ≡ found ++ ambiguous_when b (Some (get_or us i d).0) (get_or us i d).1 → b ≡ is_by o (get_or us i d).1 → o ≡ lines (get_or us i d).0
    → next ++ met_from lines (drop (i + 1) us) ≡ whole
met-more lines us i d b o found next whole lt h n e m =
    let u = get_or us i d in
    flat-more (met_at lines) us i d found next whole lt h
    (n ∙ ap (λ t. found ++ ambiguous_when t (Some u.0) u.1) (e ∙ ap (λ p. is_by p u.1) m))

-- lines that are known alike
pub met_from-same : (p q : Name → Option ℕ) → ((x : Name) → p x ≡ q x) → (ws : List Use) → met_from p ws ≡ met_from q ws
met_from-same p q h ws = λ i. met_from (λ x. h x i) ws

-- ---- tests

module _ (test : ℕ → Bool) where
  abbrev at : Ambiguity → Bool
  at a = test a.line

  abbrev by : Violation → Bool
  by v = test v.line

  -- what is ambiguous, and violations that each test of a line finds alike
  abbrev Told : List Ambiguity → Violations → Type 0
  Told fs vs = list_any at fs ≡ list_any by vs

  any-here : (b : Bool) (name : Option Name) (line : ℕ) → list_any at (ambiguous_when b name line) ≡ (b && test line)
  any-here true name line = or-false (test line)
  any-here false name line = refl

  any-when : (line : ℕ) (b : Bool) → list_any by (when b (at_line 309 line)) ≡ (b && test line)
  any-when line true = or-false (test line)
  any-when line false = refl

  told-when : (line : ℕ) (b : Bool) (name : Option Name) → Told (ambiguous_when b name line) (when b (at_line 309 line))
  told-when line b name = any-here b name line ∙ sym (any-when line b)

  told-append : (fs bs : List Ambiguity) (vs ws : Violations) → Told fs vs → Told bs ws → Told (fs ++ bs) (vs ++ ws)
  told-append fs bs vs ws h k = list_any-append at fs bs ∙ ((λ i. h i || k i) ∙ sym (list_any-append by vs ws))

  told-each : {A : Type 0} (f : A → List Ambiguity) (g : A → Violations) → ((x : A) → Told (f x) (g x)) → (xs : List A) → Told (flat_map f xs) (flat_map g xs)
  told-each f g h [] = refl
  told-each f g h (x ∷ xs) = told-append (f x) (flat_map f xs) (g x) (flat_map g xs) (h x) (told-each f g h xs)

  -- ---- what is used twice

  told-repeated : {A : Type 0} (agrees : A → A → Bool) (name : A → Option Name) (before : List A) (us : List (A × ℕ))
      → Told (repeated_from agrees name (λ x. list_any (agrees x) before) us) (repeated_after 309 agrees before us)
  told-repeated agrees name before [] = refl
  told-repeated agrees name before (u ∷ us) =
      told-append (ambiguous_when (list_any (agrees u.0) before) (name u.0) u.1) (repeated_from agrees name (λ x. list_any (agrees x) (u.0 ∷ before)) us)
      (when (list_any (agrees u.0) before) (at_line 309 u.1)) (repeated_after 309 agrees (u.0 ∷ before) us)
      (told-when u.1 (list_any (agrees u.0) before) (name u.0)) (told-repeated agrees name (u.0 ∷ before) us)

  -- ---- what is used in two ways

  -- a use of a name is there by a line
  abbrev is_before : Use → Use → Bool
  is_before w u = same_name u.0 w.0 && nat_le u.1 w.1

  by-when : (b : Bool) (k line : ℕ) → is_by (line_when b k) line ≡ (b && nat_le k line)
  by-when true k line = refl
  by-when false k line = refl

  named-by : (w : Use) (us : List Use) → is_by (least_named us w.0) w.1 ≡ list_any (is_before w) us
  named-by w [] = refl
  named-by w (u ∷ us) =
      by-lesser (line_when (same_name u.0 w.0) u.1) (least_named us w.0) w.1
      ∙ (λ i. by-when (same_name u.0 w.0) u.1 w.1 i || named-by w us i)

  met-any : (us ws : List Use) → list_any at (met_from (least_named us) ws) ≡ list_any (λ w. list_any (λ u. is_before w u && test w.1) us) ws
  met-any us ws =
      any-flat at (met_at (least_named us)) ws
      ∙ any-same (λ w. list_any at (met_at (least_named us) w)) (λ w. list_any (λ u. is_before w u && test w.1) us)
      (λ w. any-here (is_by (least_named us w.0) w.1) (Some w.0) w.1 ∙ (ap (λ b. b && test w.1) (named-by w us) ∙ sym (any-and (is_before w) (test w.1) us))) ws

  -- the later of two lines is that of one use or of the other
  later-one : (same : Bool) (k l : ℕ) → (((same && nat_le k l) && test l) || ((same && nat_le l k) && test k)) ≡ (same && test (max k l))
  later-one false k l = refl
  later-one true k l = by_order (nat_le k l) (nat_le l k) refl refl
    where
      later-is : nat_le k l ≡ true → max k l ≡ l
      later-is e = grind (arith, nat_tests, e)

      earlier-is : nat_le l k ≡ true → max k l ≡ k
      earlier-is e = grind (arith, nat_tests, e)

      one-of-two : nat_le k l ≡ false → nat_le l k ≡ true
      one-of-two e = grind (arith, nat_tests, e)

      or-self : (b : Bool) → (b || b) ≡ b
      or-self true = refl
      or-self false = refl

      by_order : (a b : Bool) → nat_le k l ≡ a → nat_le l k ≡ b → ((a && test l) || (b && test k)) ≡ test (max k l)
      by_order true true e f = (λ i. test (sym (later-is e) i) || test (sym (earlier-is f) i)) ∙ or-self (test (max k l))
      by_order true false e f = or-false (test l) ∙ ap test (sym (later-is e))
      by_order false true e f = ap test (sym (earlier-is f))
      by_order false false e f = absurd (true≢false (sym (one-of-two e) ∙ f))

  told-both_ways : (us ws : List Use) → Told (met_both_ways us ws) (both_ways us ws)
  told-both_ways us ws =
      let one = λ (u : Use) (w : Use). is_before w u && test w.1 in
      let other = λ (u : Use) (w : Use). is_before u w && test u.1 in
      list_any-append at (met_from (least_named us) ws) (met_from (least_named ws) us)
      ∙ ((λ i. (met-any us ws ∙ sym (any-turned one us ws)) i || met-any ws us i)
      ∙ (sym (any-or (λ u. list_any (one u) ws) (λ u. list_any (other u) ws) us)
      ∙ (any-same (λ u. list_any (one u) ws || list_any (other u) ws) (λ u. list_any (λ w. same_name u.0 w.0 && test (max u.1 w.1)) ws)
      (λ u. sym (any-or (one u) (other u) ws)
      ∙ any-same (λ w. one u w || other u w) (λ w. same_name u.0 w.0 && test (max u.1 w.1))
      (λ w. ap (λ b. one u w || ((b && nat_le w.1 u.1) && test u.1)) (same_name-turned w.0 u.0) ∙ later-one (same_name u.0 w.0) u.1 w.1) ws) us
      ∙ sym
      (any-flat by (λ (u : Use). flat_map (λ (w : Use). when (same_name u.0 w.0) (at_line 309 (max u.1 w.1))) ws) us
      ∙ any-same (λ (u : Use). list_any by (flat_map (λ (w : Use). when (same_name u.0 w.0) (at_line 309 (max u.1 w.1))) ws))
      (λ (u : Use). list_any (λ (w : Use). same_name u.0 w.0 && test (max u.1 w.1)) ws)
      (λ (u : Use). any-flat by (λ (w : Use). when (same_name u.0 w.0) (at_line 309 (max u.1 w.1))) ws
      ∙ any-same (λ (w : Use). list_any by (when (same_name u.0 w.0) (at_line 309 (max u.1 w.1)))) (λ (w : Use). same_name u.0 w.0 && test (max u.1 w.1))
      (λ (w : Use). any-when (max u.1 w.1) (same_name u.0 w.0)) ws) us))))

  -- ---- a unit, and a program

  told-misnamed : (unit : List Statement) → Told (flat_map misnamed_in unit) (misnamed unit)
  told-misnamed unit =
      told-each misnamed_in (λ (s : Statement). flat_map (λ (x : Name). when (not (is_external (function_named x))) (at_line 309 s.line)) (result_names s))
      (λ (s : Statement). told-each (misnamed_by s.line) (λ (x : Name). when (not (is_external (function_named x))) (at_line 309 s.line))
      (λ (x : Name). told-when s.line (not (is_external (function_named x))) (Some x)) (result_names s)) unit

  module _ (functions : FunctionTypes) (unit : List Statement) where
    told-given_twice : Told (flat_map (twice_in functions unit) given_once) (given_twice unit)
    told-given_twice =
        told-each (λ (names : Statement → List Name). repeated_names (uses_by names unit)) (λ (names : Statement → List Name). repeated (uses_by names unit))
        (λ names. told-repeated same_name its_name [] (uses_by names unit)) (dummy_names ∷ typed_names ∷ bounded_names ∷ common_names ∷ constant_names ∷ [])

    told-constants : Told (flat_map (two_ways_in functions unit Constant) no_constants) (misused_constants unit)
    told-constants =
        told-each (λ (names : Statement → List Name). met_both_ways (uses_of functions Constant unit) (uses_by names unit)) (used_both_ways unit constant_names)
        (λ names. told-both_ways (uses_of functions Constant unit) (uses_by names unit)) (dummy_names ∷ bounded_names ∷ common_names ∷ data_names ∷ assigned_names ∷ called_names ∷ [])

    told-results : Told (flat_map (two_ways_in functions unit Result) no_results) (misused_results unit)
    told-results =
        told-each (λ (names : Statement → List Name). met_both_ways (uses_of functions Result unit) (uses_by names unit)) (used_both_ways unit result_names)
        (λ names. told-both_ways (uses_of functions Result unit) (uses_by names unit)) (dummy_names ∷ bounded_names ∷ common_names ∷ constant_names ∷ [])

    abbrev calls : Violations
    calls = used_both_ways unit called_names (variable_names functions unit)

    abbrev references : Violations
    references = used_both_ways unit (function_names functions unit) (function_names_alone functions unit)

    told-misused : Told (misused_names functions unit) (misused_constants unit ++ (misused_results unit ++ (misnamed unit ++ (calls ++ references))))
    told-misused =
        let called = two_ways_in functions unit Called Variable in
        let referred = two_ways_in functions unit Function Alone in
        told-append (flat_map (two_ways_in functions unit Constant) no_constants) (flat_map (two_ways_in functions unit Result) no_results ++ (flat_map misnamed_in unit ++ (called ++ referred)))
        (misused_constants unit) (misused_results unit ++ (misnamed unit ++ (calls ++ references))) told-constants
        (told-append (flat_map (two_ways_in functions unit Result) no_results) (flat_map misnamed_in unit ++ (called ++ referred)) (misused_results unit) (misnamed unit ++ (calls ++ references)) told-results
        (told-append (flat_map misnamed_in unit) (called ++ referred) (misnamed unit) (calls ++ references) (told-misnamed unit)
        (told-append called referred calls references
        (told-both_ways (uses_of functions Called unit) (uses_of functions Variable unit)) (told-both_ways (uses_of functions Function unit) (uses_of functions Alone unit)))))

    told-unit : Told (ambiguous_in functions unit) (conditions.ambiguous_in functions unit)
    told-unit =
        let commons = used_both_ways unit dummy_names common_names in
        let others = misused_constants unit ++ (misused_results unit ++ (misnamed unit ++ (calls ++ references))) in
        let common = two_ways_in functions unit Dummy Common in
        let twice = flat_map (twice_in functions unit) given_once in
        told-append (repeated_letters (letter_ranges_of unit)) (twice ++ (common ++ misused_names functions unit)) (letters_repeated unit) (given_twice unit ++ (commons ++ others))
        (told-repeated overlap no_name [] (letter_ranges_of unit))
        (told-append twice (common ++ misused_names functions unit) (given_twice unit) (commons ++ others) told-given_twice
        (told-append common (misused_names functions unit) commons others (told-both_ways (uses_of functions Dummy unit) (uses_of functions Common unit)) told-misused))

  told-units : (program : Units) → Told (ambiguous_units program) (conditions.ambiguous_units program)
  told-units program =
      let units = flat_map unit_uses program in
      let blocks = flat_map (uses_by block_names) program in
      told-append (repeated_names units) (met_both_ways units blocks) (repeated units) (both_ways units blocks) (told-repeated same_name its_name [] units) (told-both_ways units blocks)

  pub told-names : (program : Units) → Told (ambiguities program) (name_violations program)
  told-names program =
      let functions = function_types program in
      told-append (ambiguous_units program) (flat_map (ambiguous_in functions) program) (conditions.ambiguous_units program) (flat_map (conditions.ambiguous_in functions) program)
      (told-units program) (told-each (ambiguous_in functions) (conditions.ambiguous_in functions) (told-unit functions) program)
