-- What stands from a statement on, by one pass from the end of a unit, is where one goes from the statement before.
use Rattle.std.proofs.Common.{◌≡◌, ℕ, zero, suc, ◌+◌, ◌<◌, Bool, true, false, true≢false, List, [], ◌∷◌, ◌++◌, map, reverse, length, drop, get_or, slice_get, refl, ◌∙◌, sym, ap, subst, arith, if◌then◌else◌}
use Rattle.std.proofs.Math.Seq.{drop-cons}
use Rattle.std.proofs.lemmas.List.{reverse-append, length-drop}
use Rattle.std.specs.Option.{unwrap_or}
use Rattle.hep_machine.specs.Words.{Tree, no_statement, Form, Statement, is_executable, passed_over, executable_from, statement_at, Role, opens, alternative, otherwise, closes, other, role_of_form, role_after, role_of, to_end_if, before_end_if, to_alternative, before_alternative, end_if_after, past_block, following, past_else, alternative_of}
use Rattle.hep_source.specs.declared.statement.Form.TheVariants as form
use Rattle.hep_control.specs.declared.successors.Successors as code
use Rattle.hep_control.specs.Successors.{successors_seen, successors_at, successors_from, Continuation, innermost, without_innermost, successors_before, with_role, with_statement, at_end, ahead_of}
use Rattle.hep_source.proofs.Statements.{first_of_rest, rest_of_rest}

-- ---- statements of a unit

past-end : (unit : List Statement) (k : ℕ) → drop k unit ≡ [] → statement_at unit k ≡ no_statement
past-end [] k h = refl
past-end (x ∷ xs) zero h = cc
past-end (x ∷ xs) (suc k) h = past-end xs k h

-- a statement that isn't executable is nothing to block IFs
plain-form : (f : Form) → is_executable f ≡ false → role_of_form f ≡ other
plain-form (form.IfThen t) h = absurd (true≢false h)
plain-form (form.ElseIf t) h = absurd (true≢false h)
plain-form form.Else h = absurd (true≢false h)
plain-form form.EndIf h = absurd (true≢false h)
plain-form _ h = refl

plain-after : (ts : List Tree) (f : Form) → is_executable f ≡ false → role_after ts f ≡ other
plain-after [] f h = plain-form f h
plain-after (t ∷ ts) f h = refl

-- ---- what a pass keeps

module _ (unit : List Statement) where
  -- where a false condition leads whose next ELSE IF, ELSE or END IF is at an index
  abbrev target : ℕ → ℕ
  target n = past_else unit n (role_of (statement_at unit n))

  -- where one goes to an executable statement
  abbrev reached : ℕ → ℕ
  reached n = past_block unit n (role_of (statement_at unit n))

  record Stands (k : ℕ) (ss : List Statement) (a : Continuation) : Type 0 where
    executable_is : a.executable ≡ k + passed_over ss
    next_is : a.next ≡ reached (k + passed_over ss)
    end_ifs_are : (depth : ℕ) → unwrap_or (slice_get a.end_ifs depth) a.past ≡ k + before_end_if ss depth
    alternatives_are : (depth : ℕ) → unwrap_or (slice_get a.alternatives depth) a.past ≡ target (k + before_alternative ss depth)

  without : (ks : List ℕ) (depth : ℕ) → slice_get (without_innermost ks) depth ≡ slice_get ks (suc depth)
  without [] depth = refl
  without (k ∷ ks) depth = refl

  plus-none : (k : ℕ) → k + 0 ≡ k
  plus-none k = omega arith

  one-later : (k n : ℕ) → suc k + n ≡ k + suc n
  one-later k n = omega arith

  -- an executable statement with a role at index k
  module _ (k : ℕ) (s : Statement) (ss : List Statement) (a : Continuation) (here : drop k unit ≡ s ∷ ss) (h : Stands (suc k) ss a) where
    role_here : role_of (statement_at unit k) ≡ role_of s
    role_here = ap role_of (first_of_rest unit k s ss here)

    end_if_here : innermost a.end_ifs a.past ≡ end_if_after unit k
    end_if_here = h.end_ifs_are 0 ∙ ap (λ l. suc k + before_end_if l 0) (sym (rest_of_rest unit k s ss here))

    executable_after : a.executable ≡ executable_from unit (suc k)
    executable_after = h.executable_is ∙ ap (λ l. suc k + passed_over l) (sym (rest_of_rest unit k s ss here))

    next_by : (r : Role) → (with_role a k r).next ≡ past_block unit k r
    next_by opens = refl
    next_by alternative = end_if_here
    next_by otherwise = end_if_here
    next_by _ = refl

    end_ifs_by : (r : Role) (depth : ℕ) → unwrap_or (slice_get (with_role a k r).end_ifs depth) a.past ≡ k + to_end_if r depth (before_end_if ss)
    end_ifs_by opens depth = ap (λ o. unwrap_or o a.past) (without a.end_ifs depth) ∙ (h.end_ifs_are (suc depth) ∙ one-later k (before_end_if ss (suc depth)))
    end_ifs_by closes zero = sym (plus-none k)
    end_ifs_by closes (suc depth) = h.end_ifs_are depth ∙ one-later k (before_end_if ss depth)
    end_ifs_by _ depth = h.end_ifs_are depth ∙ one-later k (before_end_if ss depth)

    target_here : (r : Role) → role_of s ≡ r → target (k + 0) ≡ past_else unit k r
    target_here r e = ap target (plus-none k) ∙ ap (past_else unit k) (role_here ∙ e)

    later : (depth : ℕ) → unwrap_or (slice_get a.alternatives depth) a.past ≡ target (k + suc (before_alternative ss depth))
    later depth = h.alternatives_are depth ∙ ap target (one-later k (before_alternative ss depth))

    alternatives_by : (r : Role) → role_of s ≡ r → (depth : ℕ) → unwrap_or (slice_get (with_role a k r).alternatives depth) a.past ≡ target (k + to_alternative r depth (before_alternative ss))
    alternatives_by opens e depth = ap (λ o. unwrap_or o a.past) (without a.alternatives depth) ∙ later (suc depth)
    alternatives_by alternative e zero = sym (target_here alternative e)
    alternatives_by alternative e (suc depth) = ap (λ o. unwrap_or o a.past) (without a.alternatives depth) ∙ later (suc depth)
    alternatives_by otherwise e zero = executable_after ∙ sym (target_here otherwise e)
    alternatives_by otherwise e (suc depth) = ap (λ o. unwrap_or o a.past) (without a.alternatives depth) ∙ later (suc depth)
    alternatives_by closes e zero = sym (target_here closes e)
    alternatives_by closes e (suc depth) = later depth
    alternatives_by other e depth = later depth

    past_by : (r : Role) → (with_role a k r).past ≡ a.past
    past_by opens = refl
    past_by _ = refl

    executable_by : (r : Role) → (with_role a k r).executable ≡ k
    executable_by opens = refl
    executable_by _ = refl

    stands-executable : (r : Role) → role_of s ≡ r → (b : Bool) → b ≡ true → is_executable s.form ≡ b → Stands k (s ∷ ss) (with_role a k r)
    stands-executable r e b t x =
        let none : passed_over (s ∷ ss) ≡ 0 = ap (λ z. if z then 0 else suc (passed_over ss)) (x ∙ t) in
        let at : k + passed_over (s ∷ ss) ≡ k = ap (λ n. k + n) none ∙ plus-none k in
        record {
          executable_is = executable_by r ∙ sym at;
          next_is = next_by r ∙ (ap (past_block unit k) (sym (role_here ∙ e)) ∙ ap reached (sym at));
          end_ifs_are = λ depth. ap (unwrap_or (slice_get (with_role a k r).end_ifs depth)) (past_by r) ∙ (end_ifs_by r depth ∙ ap (λ q. k + to_end_if q depth (before_end_if ss)) (sym e));
          alternatives_are = λ depth. ap (unwrap_or (slice_get (with_role a k r).alternatives depth)) (past_by r) ∙ (alternatives_by r e depth ∙ ap (λ q. target (k + to_alternative q depth (before_alternative ss))) (sym e));
        }

    stands-plain : is_executable s.form ≡ false → Stands k (s ∷ ss) a
    stands-plain x =
        let more : passed_over (s ∷ ss) ≡ suc (passed_over ss) = ap (λ z. if z then 0 else suc (passed_over ss)) x in
        let at : suc k + passed_over ss ≡ k + passed_over (s ∷ ss) = one-later k (passed_over ss) ∙ ap (λ n. k + n) (sym more) in
        let e : role_of s ≡ other = plain-after s.conditions s.form x in
        record {
          executable_is = h.executable_is ∙ at;
          next_is = h.next_is ∙ ap reached at;
          end_ifs_are = λ depth. end_ifs_by other depth ∙ ap (λ q. k + to_end_if q depth (before_end_if ss)) (sym e);
          alternatives_are = λ depth. alternatives_by other e depth ∙ ap (λ q. target (k + to_alternative q depth (before_alternative ss))) (sym e);
        }

    stands-next : Stands k (s ∷ ss) (with_statement a k s)
    stands-next = by (is_executable s.form) refl
      where
        by : (b : Bool) → is_executable s.form ≡ b → Stands k (s ∷ ss) (if b then with_role a k (role_of s) else a)
        by true x = stands-executable (role_of s) refl true refl x
        by false x = stands-plain x

  stands-end : (k : ℕ) → drop k unit ≡ [] → Stands k [] (at_end k)
  stands-end k h =
      let role_is : role_of (statement_at unit (k + 0)) ≡ other = ap (λ n. role_of (statement_at unit n)) (plus-none k) ∙ ap role_of (past-end unit k h) in
      record {
        executable_is = sym (plus-none k);
        next_is = sym (ap (past_block unit (k + 0)) role_is ∙ plus-none k);
        end_ifs_are = λ depth. sym (plus-none k);
        alternatives_are = λ depth. sym (ap (past_else unit (k + 0)) role_is ∙ plus-none k);
      }

  stands : (k : ℕ) (ss : List Statement) (past : ℕ) → drop k unit ≡ ss → k + length ss ≡ past → Stands k ss (ahead_of past ss k)
  stands k [] past h l = subst (λ n. Stands k [] (at_end n)) (sym (plus-none k) ∙ l) (stands-end k h)
  stands k (s ∷ ss) past h l = stands-next k s ss (ahead_of past ss (suc k)) h (stands (suc k) ss past (rest_of_rest unit k s ss h) (one-later k (length ss) ∙ l))

  -- where one goes from a statement
  successors-are : (k past : ℕ) → past ≡ length unit → k < length unit → successors_before (ahead_of past (drop (suc k) unit) (suc k)) ≡ successors_at unit k
  successors-are k past e l =
      let ss = drop (suc k) unit in
      let a = ahead_of past ss (suc k) in
      let long : suc k + length ss ≡ past = omega (arith, length-drop (suc k) unit) in
      let h : Stands (suc k) ss a = stands (suc k) ss past refl long in
      ap (λ n. record { following = n; alternative = innermost a.alternatives a.past; end_if = innermost a.end_ifs a.past }) h.next_is
      ∙ (ap (λ n. record { following = following unit k; alternative = n; end_if = innermost a.end_ifs a.past }) (h.alternatives_are 0)
      ∙ ap (λ n. record { following = following unit k; alternative = alternative_of unit k; end_if = n }) (h.end_ifs_are 0))

  -- ---- one statement more, from the end

  pub record Read (past k : ℕ) (all : List code.Successors) (ahead : Continuation) : Type 0 where
    pub ahead_is : ahead ≡ ahead_of past (drop k unit) k
    pub all_are : map successors_seen (reverse all) ≡ successors_from unit k (drop k unit)

  pub one-read : (past k : ℕ) (s : Statement) (x : code.Successors) (all : List code.Successors) (ahead new : Continuation) → past ≡ length unit → k < length unit → s ≡ get_or unit k s
      → Read past (suc k) all ahead → successors_seen x ≡ successors_before ahead → new ≡ with_statement ahead k s → Read past k (all ++ x ∷ []) new
  one-read past k s x all ahead new e l is h xe ne =
      let here : drop k unit ≡ s ∷ drop (suc k) unit = drop-cons unit k s l ∙ ap (λ z. z ∷ drop (suc k) unit) (sym is) in
      record {
        ahead_is = ne ∙ (ap (λ a. with_statement a k s) h.ahead_is ∙ ap (λ ss. ahead_of past ss k) (sym here));
        all_are = ap (map successors_seen) (reverse-append all (x ∷ []))
            ∙ (ap (λ y. y ∷ map successors_seen (reverse all)) (xe ∙ (ap successors_before h.ahead_is ∙ successors-are k past e l))
            ∙ (ap (λ ys. successors_at unit k ∷ ys) h.all_are ∙ ap (successors_from unit k) (sym here)));
      }

  -- those of one statement
  successors-get : (j k : ℕ) (ss : List Statement) (xs : List code.Successors) (x : code.Successors) → map successors_seen xs ≡ successors_from unit j ss → k < length ss → x ≡ get_or xs k x
      → successors_seen x ≡ successors_at unit (j + k)
  successors-get j k [] xs x h l is = absurd (omega (arith, l))
  successors-get j k (s ∷ ss) [] x h l is = cc
  successors-get j zero (s ∷ ss) (y ∷ ys) x h l is =
      let e : successors_seen y ≡ successors_at unit j = cc in
      ap successors_seen is ∙ (e ∙ ap (successors_at unit) (sym (plus-none j)))
  successors-get j (suc k) (s ∷ ss) (y ∷ ys) x h l is =
      let e : map successors_seen ys ≡ successors_from unit (suc j) ss = cc in
      successors-get (suc j) k ss ys x e (omega (arith, l)) is ∙ ap (successors_at unit) (one-later j k)

  pub successors-of : (k : ℕ) (xs : List code.Successors) (x : code.Successors) → map successors_seen xs ≡ successors_from unit 0 unit → k < length unit → x ≡ get_or xs k x
      → successors_seen x ≡ successors_at unit k
  successors-of k xs x h l is = let none : 0 + k ≡ k = omega arith in successors-get 0 k unit xs x h l is ∙ ap (successors_at unit) none

  length-from : (j : ℕ) (ss : List Statement) (xs : List code.Successors) → map successors_seen xs ≡ successors_from unit j ss → length xs ≡ length ss
  length-from j [] [] h = refl
  length-from j [] (y ∷ ys) h = cc
  length-from j (s ∷ ss) [] h = cc
  length-from j (s ∷ ss) (y ∷ ys) h = let e : map successors_seen ys ≡ successors_from unit (suc j) ss = cc in ap suc (length-from (suc j) ss ys e)

  pub successors-length : (xs : List code.Successors) → map successors_seen xs ≡ successors_from unit 0 unit → length xs ≡ length unit
  successors-length xs h = length-from 0 unit xs h
