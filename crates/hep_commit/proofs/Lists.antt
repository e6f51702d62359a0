-- Plain turns leave who waits and who is ready.
use Rattle.std.proofs.Common.{◌≡◌, ◌≢◌, ℕ, zero, suc, true, false, ◌||◌, Bool, List, [], ◌∷◌, ◌++◌, length, Option, Some, None, is_some, refl, sym, ap, ◌∙◌, subst, arith}
use Rattle.std.proofs.lemmas.Bool.Decides.{nat_tests}
use Rattle.hep_machine.specs.Words.{Units, Layout, is_held, is_number_among, layout_of, living, Progress, progress_after_step, progress_after_steps, run, State, state_after_turn, step}
use Rattle.hep_layout.proofs.HeldFrames.{run-last}
use Rattle.hep_cells.specs.declared.want.Want.{Want}
use Rattle.hep_blocked.specs.RosterUpdates.{AreListed, GoesAlong, HasChanged, is_noted}
use Rattle.hep_advance.specs.SilentRuns.{HasGone, IsPlainTurn, none, more}
use Rattle.hep_source.proofs.Tests.{some-if_not}

-- the law of lists that go along with a step
abbrev pub GoAlong : Type 0
GoAlong =
    (program : Units) (cells : ℕ) (choices : List ℕ) (x : Progress) (waiting waiting_after : ℕ → Option Want) (ready ready_after : List ℕ) (p : ℕ) (changed : Option Want) (layout : Layout)
    → AreListed program cells choices x waiting ready → step program p (run program choices) ≢ None → layout_of program cells is_held choices ≡ Some layout
    → HasChanged program choices p layout changed → GoesAlong program choices p changed waiting waiting_after ready ready_after
    → AreListed program cells (choices ++ p ∷ []) (progress_after_step program x p (run program (choices ++ p ∷ []))) waiting_after ready_after

-- who is ready stays, where the process lives and no other number is there
pub noted-same : (p before after q : ℕ) (ready : List ℕ) (lives : Bool) → lives ≡ true → after ≡ before → is_number_among q ready ≡ (false || is_noted p lives before after ready q)
noted-same p before after q ready lives alive same = grind (arith, nat_tests, alive, same)

-- the last step of several
progress-last : (program : Units) (x : Progress) (p n : ℕ)
    → progress_after_steps program x p (suc n) ≡ progress_after_step program (progress_after_steps program x p n) p (state_after_turn program p (progress_after_steps program x p n).state)
progress-last program x p zero = refl
progress-last program x p (suc n) = progress-last program (progress_after_step program x p (state_after_turn program p x.state)) p n

module _ (law : GoAlong) (program : Units) (cells p : ℕ) (waits : ℕ → Option Want) (ready : List ℕ) where
  pub record AreFar (choices : List ℕ) (x : Progress) : Type 0 where
    pub layout : Layout
    pub laid : layout_of program cells is_held choices ≡ Some layout
    pub listed : AreListed program cells choices x waits ready

  further : (choices : List ℕ) (x : Progress) → AreFar choices x → IsPlainTurn program cells choices p → AreFar (choices ++ p ∷ []) (progress_after_step program x p (state_after_turn program p x.state))
  further choices x far is =
      let now = run program (choices ++ p ∷ []) in
      let lists = law program cells choices x waits waits ready ready p None far.layout far.listed is.stepped far.laid (is.unchanged.told far.layout far.laid)
      (record {
        waits = λ q. refl;
        are_ready = λ q. noted-same p (length (run program choices).processes) (length now.processes) q ready (is_some (living now p)) (some-if_not (living now p) is.lives) is.made;
      }) in
      let state : now ≡ state_after_turn program p x.state = run-last program choices p ∙ ap (state_after_turn program p) (sym far.listed.state) in
      record {
        layout = is.layout;
        laid = is.laid;
        listed = subst (λ (s : State). AreListed program cells (choices ++ p ∷ []) (progress_after_step program x p s) waits ready) state lists;
      }

  pub far-on : (choices : List ℕ) (n : ℕ) (after : List ℕ) (x : Progress) → HasGone program cells p choices n after → AreFar choices x → AreFar after (progress_after_steps program x p n)
  far-on _ _ _ x (none choices) far = far
  far-on _ _ _ x (more choices n after gone is) far =
      subst (AreFar (after ++ p ∷ [])) (sym (progress-last program x p n)) (further after (progress_after_steps program x p n) (far-on choices n after x gone far) is)
