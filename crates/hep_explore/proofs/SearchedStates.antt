-- A search that goes on: it still is one, and its first states stay expanded.
use Rattle.std.proofs.Common.{◌≡◌, ◌≢◌, ◌⊎◌, inl, inr, ℕ, zero, suc, true, true≢false, ◌+◌, ◌<◌, ◌≤◌, false, ◌||◌, not, List, [], ◌∷◌, ◌++◌}
use Rattle.std.proofs.Common.{length, Bool, Option, Some, None, get_or, refl, sym, ap, ◌∙◌, subst, arith, slice_get}
use Rattle.std.specs.Option.{unwrap_or}
use Rattle.std.proofs.lemmas.Bool.{not-false, or_parts}
use Rattle.std.proofs.lemmas.List.{length-append}
use Rattle.std.proofs.lemmas.Option.{none-some, same_Some, slice_get-get_or, slice_get_within}
use Rattle.hep_source.proofs.Tests.{at-front, at-last}
use Rattle.hep_machine.specs.Words.{Units}
use Rattle.hep_fast.proofs.StepRows.{get-one-more}
use Rattle.hep_state.specs.declared.core_state.CoreState.{CoreState}
use Rattle.hep_state.specs.Words.{HasNoGap, IsMachineAfter, snapshot_of}
use Rattle.hep_explore.specs.Keys.{IsKeyOf}
use Rattle.hep_explore.specs.Searching.{AreAlikeByKeys, AreExpanded, GoesOn, HasKey, IsEnded, IsFound, IsFullStep, IsKept, IsNumbered}
use Rattle.hep_explore.specs.Searching.{IsOrigin, IsSearch, IsVisit, IsWhole, KeepsStates, Known, Leads, LeadsToFound, pure_turns}
use Rattle.hep_explore.specs.declared.search.Origin.{Origin}

-- ---- machines with one key

module _ (program : Units) (alike : AreAlikeByKeys program) (cells : ℕ) (m : CoreState) (key turns : List ℕ)
    (is_key : IsKeyOf program (snapshot_of m) key) (after : IsMachineAfter program cells turns m) where
  -- a machine keeps each state of its key
  pub kept_machine : (before : List ℕ) → IsKept program cells before key → IsMachineAfter program cells before m
  kept_machine before kept =
      record {
        after = alike cells before turns key kept.machine (snapshot_of m) kept.is_key is_key kept.after after.after;
        few = after.few;
        to_pass = after.to_pass;
        room = after.room;
        numbers = after.numbers;
      }

-- what a machine keeps is kept by its key
pub machine_kept : (program : Units) (cells : ℕ) (m : CoreState) (key before : List ℕ) → IsKeyOf program (snapshot_of m) key
    → IsMachineAfter program cells before m → IsKept program cells before key
machine_kept program cells m key before is_key after = record { machine = snapshot_of m; is_key = is_key; after = after.after }

-- ---- what steps lead to

-- what is so of all choices that lead to a machine is so of those to which steps lead
pub leads_on : (program : Units) (before : List ℕ) (o : Origin) (IsSo IsThen : List ℕ → Type 0)
    → ((choices : List ℕ) → IsSo choices → IsThen choices) → Leads program before o IsSo → Leads program before o IsThen
leads_on program before o IsSo IsThen on led =
    record {
      stepped = led.stepped;
      are_pure = led.are_pure;
      holds = on ((before ++ o.process ∷ []) ++ pure_turns o) led.holds;
    }

-- ---- a search that goes on

-- searches that know the same are the same
pub same_known : (a b : Known) → a.cells ≡ b.cells → a.states ≡ b.states → a.origins ≡ b.origins → a.queue ≡ b.queue
    → a.expanded ≡ b.expanded → a.ended ≡ b.ended → a.full ≡ b.full → a.most ≡ b.most → a.cut ≡ b.cut → a ≡ b
same_known a b cells states origins queue expanded ended full most cut =
    λ i. record {
      cells = cells i;
      states = states i;
      origins = origins i;
      queue = queue i;
      expanded = expanded i;
      ended = ended i;
      full = full i;
      most = most i;
      cut = cut i;
    }

module _ (program : Units) (old new : Known) (on : KeepsStates old new) where
  kept_on : (before key : List ℕ) → IsKept program old.cells before key → IsKept program new.cells before key
  kept_on before key kept = subst (λ c. IsKept program c before key) (sym on.cells) kept

  kept_before : (before key : List ℕ) → IsKept program new.cells before key → IsKept program old.cells before key
  kept_before before key kept = subst (λ c. IsKept program c before key) on.cells kept

  -- what was found is still found, and each state has its number
  pub found_on : (before : List ℕ) → IsFound program old before → IsFound program new before
  found_on before found =
      record {
        number = found.number;
        key = found.key;
        numbered = on.states found.number found.key found.numbered;
        kept = kept_on before found.key found.kept;
      }

  pub led_on : (before : List ℕ) → LeadsToFound program old before → LeadsToFound program new before
  led_on before led = record { steps = led.steps; are_pure = led.are_pure; found = found_on (before ++ led.steps) led.found }

  pub numbered_on : (i : ℕ) (m : CoreState) → IsNumbered program old i m → IsNumbered program new i m
  numbered_on i m numbered =
      record {
        key = numbered.key;
        numbered = on.states i numbered.key numbered.numbered;
        is_key = numbered.is_key;
        choices = numbered.choices;
        after = subst (λ c. IsMachineAfter program c numbered.choices m) (sym on.cells) numbered.after;
      }

  pub origin_on : (i : ℕ) (o : Origin) → IsOrigin program old i o → IsOrigin program new i o
  origin_on i o origin =
      record {
        earlier = origin.earlier;
        from = origin.from;
        to = origin.to;
        from_is = on.states o.from origin.from origin.from_is;
        to_is = on.states i origin.to origin.to_is;
        leads = λ before kept.
            leads_on program before o (λ cs. IsKept program old.cells cs origin.to) (λ cs. IsKept program new.cells cs origin.to) (
            λ cs. kept_on cs origin.to) (origin.leads before (kept_before before origin.from kept));
      }

  pub full_on : (o : Origin) → IsFullStep program old o → IsFullStep program new o
  full_on o step =
      record {
        from = step.from;
        from_is = on.states o.from step.from step.from_is;
        full = λ before kept.
            subst (λ c. HasNoGap program c before o.process) (sym on.cells) (step.full before (kept_before before step.from kept));
      }

-- no state is lost where nothing changes
all_kept : (s : Known) → KeepsStates s s
all_kept s = record { cells = refl; most = refl; states = λ i key is. is }

-- a search goes on as it is
pub stays_on : (s : Known) → GoesOn s s
stays_on s = record { kept = all_kept s; ended = refl; whole = λ whole. whole }

-- and by way of another one
pub then_on : (a b c : Known) → GoesOn a b → GoesOn b c → GoesOn a c
then_on a b c first second =
    record {
      kept = record {
        cells = second.kept.cells ∙ first.kept.cells;
        most = second.kept.most ∙ first.kept.most;
        states = λ i key is. second.kept.states i key (first.kept.states i key is);
      };
      ended = second.ended ∙ first.ended;
      whole = λ whole. first.whole (second.whole whole);
    }

module _ (program : Units) (old new : Known) (on : GoesOn old new) (n : ℕ) (few : n ≤ length old.states)
    (expanded : AreExpanded program n old) where
  -- the number of a state is that of one that was found before, if it is small enough
  old_key : (i : ℕ) (key : List ℕ) → i < n → slice_get new.states i ≡ Some key → slice_get old.states i ≡ Some key
  old_key i key less is =
      let was = slice_get-get_or old.states i key (omega (arith, less, few)) in
      was ∙ (sym (on.kept.states i (get_or old.states i key) was) ∙ is)

  old_kept : (before key : List ℕ) → IsKept program new.cells before key → IsKept program old.cells before key
  old_kept = kept_before program old new on.kept

  -- the first states stay expanded
  pub expanded_on : AreExpanded program n new
  expanded_on =
      record {
        closed = λ whole i p key before less is kept some.
            led_on program old new on.kept (before ++ p ∷ []) (
            expanded.closed (on.whole whole) i p key before less (old_key i key less is) (old_kept before key kept) some);
        ended = λ i there. expanded.ended i (was i there);
        terminal = λ i key before there is kept.
            expanded.terminal i key before (was i there) (old_key i key (expanded.ended i (was i there)) is) (old_kept before key kept);
        all = λ i key before less is kept terminal.
            let there = expanded.all i key before less (old_key i key less is) (old_kept before key kept) terminal in
            (there.0, ap (λ es. slice_get es there.0) on.ended ∙ there.1);
      }
    where
      was : (i : ℕ) → IsEnded new i → IsEnded old i
      was i there = (there.0, sym (ap (λ es. slice_get es there.0) on.ended) ∙ there.1)

-- ---- one state more

module _ (program : Units) (s : Known) (search : IsSearch program s) (m : CoreState) (o : Origin) (visit : IsVisit program s m o)
    (key : List ℕ) (is_key : IsKeyOf program (snapshot_of m) key) (unseen : (i : ℕ) → slice_get s.states i ≢ Some key)
    (room : length s.states < s.most) where
  -- what a search knows then
  abbrev pub with_state : Known
  with_state = record s { states = s.states ++ key ∷ []; origins = s.origins ++ o ∷ []; queue = s.queue ++ m ∷ [] }

  more : KeepsStates s with_state
  more = record { cells = refl; most = refl; states = λ i k is. at-front s.states (key ∷ []) i k is }

  -- the new state has its origin
  new_origin : IsOrigin program with_state (length s.states) o
  new_origin =
      record {
        earlier = slice_get_within s.states o.from visit.from visit.from_is;
        from = visit.from;
        to = key;
        from_is = at-front s.states (key ∷ []) o.from visit.from visit.from_is;
        to_is = at-last s.states key;
        leads = λ before kept.
            leads_on program before o (λ cs. IsMachineAfter program s.cells cs m) (λ cs. IsKept program s.cells cs key) (
            λ cs. machine_kept program s.cells m key cs is_key) (visit.leads before kept);
      }

  -- and its machine
  new_numbered : IsNumbered program with_state (length s.states) m
  new_numbered =
      record {
        key = key;
        numbered = at-last s.states key;
        is_key = is_key;
        choices = visit.choices;
        after = visit.after;
      }

  pub more_goes_on : GoesOn s with_state
  more_goes_on = record { kept = more; ended = refl; whole = λ whole. whole }

  pub more_is_search : IsSearch program with_state
  more_is_search =
      record {
        opening = search.opening;
        opening_is = at-front s.states (key ∷ []) 0 search.opening search.opening_is;
        different = λ i j k here there. by_two i j k (get-one-more s.states key i k here) (get-one-more s.states key j k there);
        begins = search.begins;
        origins =
            let a : length (s.origins ++ o ∷ []) ≡ length s.origins + 1 = simp length-append in
            let b : length (s.states ++ key ∷ []) ≡ length s.states + 1 = simp length-append in
            let c = search.origins in
            omega arith;
        origin = λ i x some here. by_origin i x some (get-one-more s.origins o i x here);
        counted =
            let a : length (s.queue ++ m ∷ []) ≡ length s.queue + 1 = simp length-append in
            let b : length (s.states ++ key ∷ []) ≡ length s.states + 1 = simp length-append in
            let c = search.counted in
            omega arith;
        full = λ x e. full_on program s with_state more x (search.full x e);
        few = let b : length (s.states ++ key ∷ []) ≡ length s.states + 1 = simp length-append in omega arith;
        cut = λ is.
            let b : length (s.states ++ key ∷ []) ≡ length s.states + 1 = simp length-append in
            let enough = search.cut is in
            omega arith;
        queued = λ k x here. by_queued k x (get-one-more s.queue m k x here);
      }
    where
      by_two : (i j : ℕ) (k : List ℕ) → (slice_get s.states i ≡ Some k) ⊎ ((i ≡ length s.states) × (key ≡ k))
          → (slice_get s.states j ≡ Some k) ⊎ ((j ≡ length s.states) × (key ≡ k)) → i ≡ j
      by_two i j k (inl here) (inl there) = search.different i j k here there
      by_two i j k (inl here) (inr new) = absurd (unseen i (here ∙ ap (λ x. Some x) (sym new.1)))
      by_two i j k (inr new) (inl there) = absurd (unseen j (there ∙ ap (λ x. Some x) (sym new.1)))
      by_two i j k (inr first) (inr second) = first.0 ∙ sym second.0

      by_origin : (i : ℕ) (x : Origin) → 1 ≤ i → (slice_get s.origins i ≡ Some x) ⊎ ((i ≡ length s.origins) × (o ≡ x))
          → IsOrigin program with_state i x
      by_origin i x some (inl was) = origin_on program s with_state more i x (search.origin i x some was)
      by_origin i x some (inr (last, new)) =
          subst (λ j. IsOrigin program with_state j x) (sym (last ∙ search.origins)) (
          subst (IsOrigin program with_state (length s.states)) new new_origin)

      by_queued : (k : ℕ) (x : CoreState) → (slice_get s.queue k ≡ Some x) ⊎ ((k ≡ length s.queue) × (m ≡ x))
          → IsNumbered program with_state (s.expanded + k) x
      by_queued k x (inl was) = numbered_on program s with_state more (s.expanded + k) x (search.queued k x was)
      by_queued k x (inr (last, new)) =
          let at : length s.states ≡ s.expanded + k = sym search.counted ∙ ap (λ j. s.expanded + j) (sym last) in
          subst (λ j. IsNumbered program with_state j x) at (subst (IsNumbered program with_state (length s.states)) new new_numbered)

-- a search in which a state is told to have ended, or the search to be cut short
pub told_is_search : (program : Units) (s : Known) (ended : List ℕ) (cut : Bool) → IsSearch program s
    → (cut ≡ true → s.most ≤ length s.states) → IsSearch program (record s { ended = ended; cut = cut })
told_is_search program s ended cut search enough =
    record {
      opening = search.opening;
      opening_is = search.opening_is;
      different = search.different;
      begins = search.begins;
      origins = search.origins;
      origin = λ i o some here. origin_on program s told on i o (search.origin i o some here);
      counted = search.counted;
      full = λ o e. full_on program s told on o (search.full o e);
      few = search.few;
      cut = enough;
      queued = λ k m here. numbered_on program s told on (s.expanded + k) m (search.queued k m here);
    }
  where
    told : Known
    told = record s { ended = ended; cut = cut }

    on : KeepsStates s told
    on = record { cells = refl; most = refl; states = λ i k is. is }

-- what a search knows after a step
pub record HasVisited (program : Units) (old new : Known) (m : CoreState) : Type 0 where
  pub search : IsSearch program new
  pub goes_on : GoesOn old new
  pub found : IsWhole new → HasKey program new m

-- a step led to a new state
pub new_visit : (program : Units) (s new : Known) (search : IsSearch program s) (m : CoreState) (o : Origin)
    → (visit : IsVisit program s m o) → (key : List ℕ) → (is_key : IsKeyOf program (snapshot_of m) key)
    → (unseen : (i : ℕ) → slice_get s.states i ≢ Some key) → (room : length s.states < s.most)
    → new ≡ with_state program s search m o visit key is_key unseen room
    → HasVisited program s new m
new_visit program s new search m o visit key is_key unseen room e =
    subst (λ n. HasVisited program s n m) (sym e) (
    record {
      search = more_is_search program s search m o visit key is_key unseen room;
      goes_on = more_goes_on program s search m o visit key is_key unseen room;
      found = λ whole. record { number = length s.states; key = key; numbered = at-last s.states key; is_key = is_key };
    })

-- or to one that was found before
pub seen_visit : (program : Units) (s new : Known) (m : CoreState) (number : ℕ) (key : List ℕ) → IsSearch program s
    → IsKeyOf program (snapshot_of m) key → slice_get new.states number ≡ Some key → new ≡ s → HasVisited program s new m
seen_visit program s new m number key search is_key there e =
    record {
      search = subst (IsSearch program) (sym e) search;
      goes_on = subst (GoesOn s) (sym e) (stays_on s);
      found = λ whole. record { number = number; key = key; numbered = there; is_key = is_key };
    }

-- or to one that is left out, if it wasn't found before, where as many as may be were found
pub last_visit : (program : Units) (s : Known) (m : CoreState) (key : List ℕ) (seen : Bool) → IsSearch program s
    → IsKeyOf program (snapshot_of m) key → s.most ≤ length s.states
    → (seen ≡ true → (number : ℕ) × (slice_get s.states number ≡ Some key))
    → HasVisited program s (record s { cut = s.cut || not seen }) m
last_visit program s m key seen search is_key enough there =
    record {
      search = told_is_search program s s.ended (s.cut || not seen) search (λ is. enough);
      goes_on = record {
        kept = record { cells = refl; most = refl; states = λ i k is. is };
        ended = refl;
        whole = λ whole. (
          whole.0,
          (or_parts s.cut (not seen) whole.1).0,
        );
      };
      found = λ whole.
          let at = there (not-false seen (or_parts s.cut (not seen) whole.1).1) in
          record { number = at.0; key = key; numbered = at.1; is_key = is_key };
    }

-- a search that leaves out a step
module _ (s : Known) (o : Origin) where
  abbrev pub with_full : Known
  with_full = record s { full = Some (unwrap_or s.full o) }

  on_full : KeepsStates s with_full
  on_full = record { cells = refl; most = refl; states = λ i k is. is }

  pub full_goes_on : GoesOn s with_full
  full_goes_on = record { kept = on_full; ended = refl; whole = λ whole. absurd (none-some (unwrap_or s.full o) (sym whole.0)) }

  pub full_is_search : (program : Units) → IsSearch program s → IsFullStep program s o → IsSearch program with_full
  full_is_search program search step =
      record {
        opening = search.opening;
        opening_is = search.opening_is;
        different = search.different;
        begins = search.begins;
        origins = search.origins;
        origin = λ i x some here. origin_on program s with_full on_full i x (search.origin i x some here);
        counted = search.counted;
        full = λ x e. full_on program s with_full on_full x (first s.full refl x e);
        few = search.few;
        cut = search.cut;
        queued = λ k m here. numbered_on program s with_full on_full (s.expanded + k) m (search.queued k m here);
      }
    where
      first : (f : Option Origin) → s.full ≡ f → (x : Origin) → Some (unwrap_or f o) ≡ Some x → IsFullStep program s x
      first None is x e = subst (IsFullStep program s) (same_Some o x e) step
      first (Some y) is x e = search.full x (is ∙ e)

-- a search whose first queued state is taken to be expanded
module _ (program : Units) (s : Known) (search : IsSearch program s) (m : CoreState) (rest : List CoreState)
    (first : s.queue ≡ m ∷ rest) where
  abbrev pub taken : Known
  taken = record s { queue = rest; expanded = s.expanded + 1 }

  same : KeepsStates s taken
  same = record { cells = refl; most = refl; states = λ i k is. is }

  pub taken_goes_on : GoesOn s taken
  taken_goes_on = record { kept = same; ended = refl; whole = λ whole. whole }

  pub taken_numbered : IsNumbered program taken s.expanded m
  taken_numbered =
      let at : s.expanded + 0 ≡ s.expanded = omega arith in
      numbered_on program s taken same s.expanded m (
      subst (λ i. IsNumbered program s i m) at (search.queued 0 m (ap (λ q. slice_get q 0) first)))

  pub taken_is_search : IsSearch program taken
  taken_is_search =
      record {
        opening = search.opening;
        opening_is = search.opening_is;
        different = search.different;
        begins = search.begins;
        origins = search.origins;
        origin = λ i o some here. origin_on program s taken same i o (search.origin i o some here);
        counted = let c = ap length first in let d = search.counted in omega arith;
        full = λ o e. full_on program s taken same o (search.full o e);
        few = search.few;
        cut = search.cut;
        queued = λ k x here.
            let at : s.expanded + suc k ≡ s.expanded + 1 + k = omega arith in
            numbered_on program s taken same (s.expanded + 1 + k) x (
            subst (λ i. IsNumbered program s i x) at (search.queued (suc k) x (ap (λ q. slice_get q (suc k)) first ∙ here)));
      }

-- the search of the opening alone
pub opening_is_search : (program : Units) (cells most : ℕ) (m : CoreState) (o : Origin) (key : List ℕ) → IsKeyOf program (snapshot_of m) key
    → IsMachineAfter program cells [] m
    → IsSearch program (record {
      cells = cells;
      states = key ∷ [];
      origins = o ∷ [];
      queue = m ∷ [];
      expanded = 0;
      ended = [];
      full = None;
      most = most;
      cut = false;
    })
opening_is_search program cells most m o key is_key after =
    record {
      opening = key;
      opening_is = refl;
      different = λ i j k here there. (
          let a = slice_get_within (key ∷ []) i k here in
          let b = slice_get_within (key ∷ []) j k there in
          omega arith);
      begins = machine_kept program cells m key [] is_key after;
      origins = refl;
      origin = λ i x some here. (let one = slice_get_within (o ∷ []) i x here in absurd (omega arith));
      counted = refl;
      full = λ x e. absurd (none-some x e);
      few = omega arith;
      cut = λ is. absurd (true≢false (sym is));
      queued = λ k x here. (let at : k ≡ 0 + k = omega arith in subst (λ j. IsNumbered program opened j x) at (by_first k x here));
    }
  where
    opened : Known
    opened = record {
      cells = cells;
      states = key ∷ [];
      origins = o ∷ [];
      queue = m ∷ [];
      expanded = 0;
      ended = [];
      full = None;
      most = most;
      cut = false;
    }

    by_first : (k : ℕ) (x : CoreState) → slice_get (m ∷ []) k ≡ Some x → IsNumbered program opened k x
    by_first zero x here =
        subst (IsNumbered program opened 0) (same_Some m x here) (
        record { key = key; numbered = refl; is_key = is_key; choices = []; after = after })
    by_first (suc k) x here = absurd cc

-- what a search knows that has the opening alone
pub is_opened : (program : Units) (s : Known) (m : CoreState) (o : Origin) (key : List ℕ) → IsKeyOf program (snapshot_of m) key
    → IsMachineAfter program s.cells [] m → s.states ≡ key ∷ [] → s.origins ≡ o ∷ [] → s.queue ≡ m ∷ [] → s.expanded ≡ 0 → s.ended ≡ []
    → s.full ≡ None → s.cut ≡ false → IsSearch program s
is_opened program s m o key is_key after states origins queue expanded ended full cut =
    subst (IsSearch program) (sym (same_known s opened refl states origins queue expanded ended full refl cut)) (
    opening_is_search program s.cells s.most m o key is_key after)
  where
    opened : Known
    opened = record {
      cells = s.cells;
      states = key ∷ [];
      origins = o ∷ [];
      queue = m ∷ [];
      expanded = 0;
      ended = [];
      full = None;
      most = s.most;
      cut = false;
    }

-- a key that is inserted where there are no states is the first one
pub first_inserted : (old new : List (List ℕ)) (key : List ℕ) (number : ℕ) (is_new : Bool) → old ≡ [] → slice_get new number ≡ Some key
    → (is_new ≡ false → new ≡ old) → (is_new ≡ true → (number ≡ length old) × (new ≡ old ++ key ∷ [])) → new ≡ key ∷ []
first_inserted old new key number true none there seen added = (added refl).1 ∙ ap (λ ks. ks ++ key ∷ []) none
first_inserted old new key number false none there seen added =
    absurd (none-some key (sym (ap (λ ks. slice_get ks number) (seen refl ∙ none)) ∙ there))

-- no state is expanded yet
pub none_expanded : (program : Units) (s : Known) → s.ended ≡ [] → AreExpanded program 0 s
none_expanded program s none =
    record {
      closed = λ whole i p key before less. absurd (omega arith);
      ended = λ i there. absurd (nothing i there);
      terminal = λ i key before there. absurd (nothing i there);
      all = λ i key before less. absurd (omega arith);
    }
  where
    nothing : (i : ℕ) → IsEnded s i → ⊥
    nothing i there = none-some i (sym (ap (λ es. slice_get es there.0) none) ∙ there.1)
