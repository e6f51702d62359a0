-- What is kept of who waits and who is ready is so by the definitions after a step, and after an entry without one.
use Rattle.std.proofs.Common.{◌≡◌, ◌≢◌, inl, inr, ℕ, ◌&&◌, ◌||◌, Bool, true, false, List, [], ◌∷◌, ◌++◌, length, Option, Some, None, refl, sym, ap, ◌∙◌, subst, is_some, not, nat_eq}
use Rattle.std.specs.Option.{unwrap_or}
use Rattle.std.proofs.Math.Bool.{and-false, and-true, not-not, or-false}
use Rattle.std.proofs.lemmas.Bool.{cases_eq, ne_eqb, eq-eqb}
use Rattle.std.proofs.lemmas.Option.{none-some, same_Some}
use Rattle.hep_machine.specs.Words.{Units, is_number_among, living, run, Progress, progress_after_entry, progress_after_step, ready_in, without, State, is_waiting, step}
use Rattle.hep_cells.specs.declared.want.Want.{Want}
use Rattle.hep_blocked.specs.NeededCells.{NeedsCell}
use Rattle.hep_blocked.proofs.NeededCells.{stepped}
use Rattle.hep_blocked.specs.RosterUpdates.{AreListed, GoesAlong, GoesAlongEmptying, IsBlocked, IsReadyNoMore, WaitsNow, is_noted}
use Rattle.hep_blocked.proofs.LivingProcesses.{is_new, lives-after, living-within, old-is, waits-apart, waits-live}
use Rattle.hep_blocked.proofs.Members.{among-filter, among-ready, among-without}
use Rattle.hep_blocked.proofs.Waking.{awake-emptied, awake-made, awake-same, awake-unless, awake_if, is_emptied, is_made, passes, wants-emptied, woken-made}

-- what is kept of who waits and who is ready goes along with a step that wakes those whose want passes a test
pub record GoesAlongBy (program : Units) (choices : List ℕ) (p : ℕ) (test : Want → Bool) (waiting waiting_after : ℕ → Option Want) (ready ready_after : List ℕ) : Type 0 where
  pub waits : (q : ℕ) → waiting_after q ≡ awake_if test (waiting q)
  pub are_ready : (q : ℕ) → is_number_among q ready_after
      ≡ (passes test (waiting q) || is_noted p (is_some (living (run program (choices ++ p ∷ [])) p)) (length (run program choices).processes) (length (run program (choices ++ p ∷ [])).processes) ready q)

module _ (program : Units) (cells : ℕ) (choices : List ℕ) (x : Progress) (waiting : ℕ → Option Want) (ready : List ℕ)
    (are : AreListed program cells choices x waiting ready) where
  -- those are ready that live and for which nothing is kept
  ready-now : (q : ℕ) → is_number_among q ready ≡ (not (is_some (waiting q)) && is_some (living (run program choices) q))
  ready-now q = are.are_ready q ∙ (among-ready x q ∙ (λ i. not (are.listed q i) && is_some (living (are.state i) q)))

  -- ---- process p was found waiting

  module _ (p : ℕ) (w : Want) (waiting_after : ℕ → Option Want) (left : List ℕ) (blocked : IsBlocked program cells choices p w)
      (now : WaitsNow p w waiting waiting_after) (no_more : IsReadyNoMore p ready left) where
    abbrev after : Progress
    after = progress_after_entry program x (record { process = p; steps = 0 }) 0

    waits-here : (q : ℕ) → p ≡ q → waiting_after q ≡ Some (unwrap_or (waiting p) w)
    waits-here q same = now q ∙ rw (eq-eqb p q same) refl

    waits-before : (q : ℕ) → p ≢ q → waiting_after q ≡ waiting q
    waits-before q other = now q ∙ rw (ne_eqb p q other) refl

    entry-listed : (q : ℕ) → is_number_among q after.listed ≡ is_some (waiting_after q)
    entry-listed q = elim (cases_eq p q) [
      | inl same ↦ rw (eq-eqb q p (sym same)) (sym (ap is_some (waits-here q same)))
      | inr other ↦
          rw (ne_eqb q p (λ e. other (sym e))) (
          among-without p q x.listed other ∙ (are.listed q ∙ sym (ap is_some (waits-before q other))))
    ]

    wants-now : (o : Option Want) (u : Want) → waiting p ≡ o → Some (unwrap_or o w) ≡ Some u
        → IsBlocked program cells choices p u
    wants-now None u e is = subst (IsBlocked program cells choices p) (same_Some w u is) blocked
    wants-now (Some v) u e is = are.blocked p u (e ∙ is)

    entry-blocked : (q : ℕ) (u : Want) → waiting_after q ≡ Some u → IsBlocked program cells choices q u
    entry-blocked q u e = elim (cases_eq p q) [
      | inl same ↦
          subst (λ n. IsBlocked program cells choices n u) same (wants-now (waiting p) u refl (sym (waits-here q same) ∙ e))
      | inr other ↦ are.blocked q u (sym (waits-before q other) ∙ e)
    ]

    entry-ready : (q : ℕ) → is_number_among q left ≡ is_number_among q (ready_in after)
    entry-ready q =
        no_more q
        ∙ (ap (λ b. not (nat_eq p q) && b) (are.are_ready q ∙ among-ready x q)
        ∙ sym (among-ready after q ∙ by_number))
      where
        by_number : (not (is_number_among q after.listed) && is_some (living x.state q))
            ≡ (not (nat_eq p q) && (not (is_number_among q x.listed) && is_some (living x.state q)))
        by_number = elim (cases_eq p q) [
          | inl same ↦ rw (eq-eqb q p (sym same), eq-eqb p q same) refl
          | inr other ↦
              rw (ne_eqb q p (λ e. other (sym e)), ne_eqb p q other) (
              ap (λ b. not b && is_some (living x.state q)) (among-without p q x.listed other))
        ]

    pub entry-kept : AreListed program cells choices after waiting_after left
    entry-kept =
        record { state = are.state; listed = entry-listed; blocked = entry-blocked; are_ready = entry-ready }

  -- ---- process p made a step

  module _ (waiting_after : ℕ → Option Want) (ready_after : List ℕ) (p : ℕ) (test : Want → Bool)
      (there : step program p (run program choices) ≢ None)
      (goes : GoesAlongBy program choices p test waiting waiting_after ready ready_after)
      (still : (q cell : ℕ) (full : Bool) → NeedsCell program cells choices q cell full → p ≢ q
      → NeedsCell program cells (choices ++ p ∷ []) q cell full)
      (waits_on : (q : ℕ) (v : Want) → IsBlocked program cells choices q v → p ≢ q
      → is_waiting program (run program (choices ++ p ∷ [])) q ≡ not (test v)) where
    abbrev s : State
    s = run program choices

    abbrev t : State
    t = run program (choices ++ p ∷ [])

    abbrev turned : Progress
    turned = progress_after_step program x p t

    made : step program p s ≡ Some t
    made = stepped program choices p p there

    other-waits : (q : ℕ) (v : Want) → waiting q ≡ Some v → p ≢ q
    other-waits q v e = waits-apart program p q s (are.blocked q v e).1 there

    waits : (q : ℕ) (v : Want) → waiting q ≡ Some v → is_waiting program t q ≡ not (test v)
    waits q v e = waits_on q v (are.blocked q v e) (other-waits q v e)

    turned-listed : (q : ℕ) → is_number_among q turned.listed ≡ is_some (waiting_after q)
    turned-listed q =
        among-filter (is_waiting program t) q (without p x.listed)
        ∙ (ap (λ b. is_waiting program t q && b) (
        among-filter (λ r. not (nat_eq p r)) q x.listed ∙ ap (λ b. not (nat_eq p q) && b) (are.listed q))
        ∙ (by_want (waiting q) refl ∙ ap is_some (sym (goes.waits q))))
      where
        by_want : (o : Option Want) → waiting q ≡ o
            → (is_waiting program t q && (not (nat_eq p q) && is_some o)) ≡ is_some (awake_if test o)
        by_want None e =
            ap (λ b. is_waiting program t q && b) (and-false (not (nat_eq p q))) ∙ and-false (is_waiting program t q)
        by_want (Some v) e =
            rw (ne_eqb p q (other-waits q v e)) (
            and-true (is_waiting program t q) ∙ (waits q v e ∙ sym (awake-unless test v)))

    turned-blocked : (q : ℕ) (u : Want) → waiting_after q ≡ Some u → IsBlocked program cells (choices ++ p ∷ []) q u
    turned-blocked q u after = by_want (waiting q) refl (sym (goes.waits q) ∙ after) where
      by_want : (o : Option Want) → waiting q ≡ o → awake_if test o ≡ Some u → IsBlocked program cells (choices ++ p ∷ []) q u
      by_want None e f = absurd (none-some u f)
      by_want (Some v) e f =
          let one : v ≡ u = awake-same test v u f in
          let needs = still q v.cell v.full (are.blocked q v e).0 (other-waits q v e) in
          let on = waits q v e ∙ (sym (awake-unless test v) ∙ ap is_some f) in
          (subst (λ (z : Want). NeedsCell program cells (choices ++ p ∷ []) q z.cell z.full) one needs, on)

    -- beside those that are woken, those are ready that live and for which nothing was kept
    noted-is : (q : ℕ) (o : Option Want) → waiting q ≡ o
        → is_noted p (is_some (living t p)) (length s.processes) (length t.processes) ready q
        ≡ (((not (is_some o) && is_some (living s q)) && (not (nat_eq p q) || is_some (living t p))) || is_new program p s t made q)
    noted-is q o e =
        ap (λ b. (b && (not (nat_eq p q) || is_some (living t p))) || is_new program p s t made q) (
        ready-now q ∙ ap (λ (w : Option Want). not (is_some w) && is_some (living s q)) e)

    turned-ready : (q : ℕ) → is_number_among q ready_after ≡ is_number_among q (ready_in turned)
    turned-ready q =
        goes.are_ready q
        ∙ (by_want (waiting q) refl
        ∙ sym (among-ready turned q ∙ ap (λ b. not b && is_some (living t q)) (turned-listed q ∙ ap is_some (goes.waits q))))
      where
        noted : Bool
        noted = is_noted p (is_some (living t p)) (length s.processes) (length t.processes) ready q

        by_want : (o : Option Want) → waiting q ≡ o
            → (passes test o || noted) ≡ (not (is_some (awake_if test o)) && is_some (living t q))
        by_want None e = noted-is q None e ∙ sym (lives-after program p s t made q)
        by_want (Some v) e =
            let lived : is_some (living s q) ≡ true = waits-live program q s (are.blocked q v e).1 in
            let old = old-is program p s t made q (living-within s q lived) in
            let apart = ne_eqb p q (other-waits q v e) in
            let lives : is_some (living t q) ≡ true = lives-after program p s t made q ∙ rw (lived, apart) refl in
            (λ i. test v || (noted-is q (Some v) e ∙ old) i)
            ∙ (or-false _ ∙ sym ((λ i. not (awake-unless test v i) && lives i) ∙ (and-true _ ∙ not-not (test v))))

    pub step-kept : AreListed program cells (choices ++ p ∷ []) turned waiting_after ready_after
    step-kept =
        record { state = refl; listed = turned-listed; blocked = turned-blocked; are_ready = turned-ready }

-- ---- what a step is told to have changed

module _ (program : Units) (choices : List ℕ) (p : ℕ) (waiting waiting_after : ℕ → Option Want) (ready ready_after : List ℕ) where
  abbrev noted : ℕ → Bool
  noted q = is_noted p (is_some (living (run program (choices ++ p ∷ [])) p)) (length (run program choices).processes) (length (run program (choices ++ p ∷ [])).processes) ready q

  pub along-made : (changed : Option Want) → GoesAlong program choices p changed waiting waiting_after ready ready_after
      → GoesAlongBy program choices p (is_made changed) waiting waiting_after ready ready_after
  along-made changed goes =
      record {
        waits = λ q. goes.waits q ∙ awake-made changed (waiting q);
        are_ready = λ q. goes.are_ready q ∙ ap (λ b. b || noted q) (woken-made changed waiting q);
      }

  pub along-emptied : (emptied : ℕ → Bool) → GoesAlongEmptying program choices p emptied waiting waiting_after ready ready_after
      → GoesAlongBy program choices p (is_emptied emptied) waiting waiting_after ready ready_after
  along-emptied emptied goes =
      record {
        waits = λ q. goes.waits q ∙ awake-emptied emptied (waiting q);
        are_ready = λ q. goes.are_ready q ∙ ap (λ b. b || noted q) (wants-emptied emptied (waiting q));
      }

-- ---- lists that say the same

pub listed-alike : (program : Units) (cells : ℕ) (choices : List ℕ) (x : Progress) (waiting other : ℕ → Option Want) (ready left : List ℕ)
    → AreListed program cells choices x waiting ready → ((q : ℕ) → other q ≡ waiting q)
    → ((q : ℕ) → is_number_among q left ≡ is_number_among q ready) → AreListed program cells choices x other left
listed-alike program cells choices x waiting other ready left are waits same =
    record {
      state = are.state;
      listed = λ q. are.listed q ∙ ap is_some (sym (waits q));
      blocked = λ q w e. are.blocked q w (sym (waits q) ∙ e);
      are_ready = λ q. same q ∙ are.are_ready q;
    }

-- a process that lives is ready or waits
pub living-enrolled : (program : Units) (cells : ℕ) (choices : List ℕ) (x : Progress) (waiting : ℕ → Option Want) (ready : List ℕ)
    → AreListed program cells choices x waiting ready → (p : ℕ) → is_some (living (run program choices) p) ≡ true
    → (is_number_among p ready || is_some (waiting p)) ≡ true
living-enrolled program cells choices x waiting ready are p lives =
    (λ i. (ready-now program cells choices x waiting ready are p ∙ ap (λ b. not (is_some (waiting p)) && b) lives) i || is_some (waiting p))
    ∙ by_want (is_some (waiting p))
  where
    by_want : (b : Bool) → ((not b && true) || b) ≡ true
    by_want true = refl
    by_want false = refl
