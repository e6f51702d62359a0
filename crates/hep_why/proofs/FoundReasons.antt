-- From watches, for which nothing is known, to reasons.
use Rattle.std.proofs.Common.{◌≡◌, ℕ, zero, suc, ◌+◌, ◌≤◌, List, [], ◌∷◌, ◌++◌, length, length-append, map, replicate, Option, Some, None, refl, sym, ap, ◌∙◌, subst, arith, IsSome, if◌then◌else◌, slice_get}
use Rattle.std.specs.Option.{option_map, option_to_list}
use Rattle.std.proofs.lemmas.List.{length-replicate}
use Rattle.std.proofs.lemmas.Option.{none-some, same_Some, slice_get-map}
use Rattle.hep_replay.proofs.Histories.{number-listed, state-is}
use Rattle.hep_replay.specs.CoreValues.{CoreValue, listed_after, state_of}
use Rattle.hep_replay.proofs.ReplayTurns.{state_singles, one}
use Rattle.hep_replay.specs.Replays.{most_entries, single_entries, single_steps}
use Rattle.hep_machine.specs.declared.event.Entry.{Entry}
use Rattle.hep_machine.specs.Words.{Location, Progress, State, Units, Wanted, is_number_among, opening, progress_after_entry, progress_after_steps, progress_from, ready_in, schedule_of, state_after, wanted_by}
use Rattle.hep_why.specs.LatestChanges.{latest_changes}
use Rattle.hep_why.specs.Reasons.{able_of, reason_by, reason_of, reason_with, reasons_from, reasons_of}
use Rattle.hep_views.specs.declared.listed.Listed.{Listed}
use Rattle.hep_views.specs.ListedProcesses.{listed_by}
use Rattle.hep_why.specs.declared.watch.Watch.{Watch}
use Rattle.hep_why.specs.Watches.{AreFound, AreWaiting, IsReplayed, WaitTheSame, listed_from, reasons_for}

-- ---- entries, and the same one step at a time

module _ (program : Units) where
  steps-one : (x : Progress) (p n : ℕ) (es : List Entry)
      → progress_from program x (replicate n (one p) ++ es) ≡ progress_from program (progress_after_steps program x p n) es
  unfolding progress_from
  steps-one x p zero es = refl
  steps-one x p (suc n) es = steps-one (progress_after_entry program x (one p) 1) p n es

  entry-one : (x : Progress) (p n : ℕ) (es : List Entry)
      → progress_from program x (single_steps p n ++ es)
      ≡ progress_from program (progress_after_entry program x (record { process = p; steps = n }) n) es
  unfolding progress_from
  entry-one x p zero es = refl
  entry-one x p (suc n) es = steps-one x p (suc n) es

  pub progress-singles : (x : Progress) (es : List Entry) → progress_from program x (single_entries es) ≡ progress_from program x es
  unfolding progress_from
  progress-singles x [] = refl
  progress-singles x (e ∷ es) =
      entry-one x e.process e.steps (single_entries es) ∙ progress-singles (progress_after_entry program x e e.steps) es

  listed-singles : (es : List Entry) (p : ℕ) → listed_after program (single_entries es) p ≡ listed_after program es p
  listed-singles es p =
      let listed = progress-singles (record { state = opening program; listed = [] }) es in
      λ i. if is_number_among p (listed i).listed then listed_by program p (state_singles program es i) else None

  -- and as many can go on
  pub able-singles : (es : List Entry) → able_of program (single_entries es) ≡ able_of program es
  able-singles es =
      let same = progress-singles (record { state = opening program; listed = [] }) es in
      λ i. if (state_singles program es i).halted then 0 else length (ready_in (same i))

  all-listed : (es : List Entry) (p n : ℕ) → listed_from program (single_entries es) p n ≡ listed_from program es p n
  all-listed es p zero = refl
  all-listed es p (suc n) = λ i. option_to_list (listed-singles es p i) ++ all-listed es (suc p) n i

-- each of them has one step at most
some-singles : (p n : ℕ) → n ≤ length (single_steps p n)
some-singles p zero = omega arith
some-singles p (suc n) = omega (arith, length-replicate (suc n) (one p))

-- a history has no more steps than entries, one step at a time
pub few-singles : (es : List Entry) → length (schedule_of es) ≤ length (single_entries es)
unfolding schedule_of
few-singles [] = omega arith
few-singles (e ∷ es) =
    let turns : length (schedule_of (e ∷ es)) ≡ length (replicate e.steps e.process) + length (schedule_of es) =
    length-append (replicate e.steps e.process) (schedule_of es) in
    let entries : length (single_entries (e ∷ es)) ≡ length (single_steps e.process e.steps) + length (single_entries es) =
    length-append (single_steps e.process e.steps) (single_entries es) in
    omega (arith, turns, entries, few-singles es, some-singles e.process e.steps, length-replicate e.steps e.process)

-- ---- a core that has made entries

module _ (core : CoreValue) (entries : List Entry) (h : IsReplayed core entries) where
  pub history-is : core.history ≡ single_entries entries
  history-is = ap (λ (c : CoreValue). c.history) h.made

  pub limit-is : core.limit ≡ most_entries
  limit-is = ap (λ (c : CoreValue). c.limit) h.made

  pub state-is-so : state_of core ≡ state_after core.program entries
  state-is-so = ap (state_after core.program) history-is ∙ state_singles core.program entries

  pub able-is : able_of core.program core.history ≡ able_of core.program entries
  able-is = ap (able_of core.program) history-is ∙ able-singles core.program entries

  -- ---- reasons

  some-wanted : (o : Option Wanted) (at : Location) → option_map (λ (x : Wanted). x.at) o ≡ Some at → IsSome o
  some-wanted None at e = absurd (none-some at e)
  some-wanted (Some w) at e = refl

  pub all-waiting : (ws : List Watch) → AreFound core entries ws → AreWaiting core ws
  all-waiting ws found i w e =
      let f = found i w e in
      subst (λ (t : State). IsSome (wanted_by core.program w.listed.process t))
      (sym (state-is core.program core.history)) (some-wanted _ f.0 f.1)

  same-lists : (xs ys : List Listed) → ((i : ℕ) → slice_get xs i ≡ slice_get ys i) → xs ≡ ys
  same-lists [] [] same = refl
  same-lists [] (y ∷ ys) same = absurd (none-some y (same 0))
  same-lists (x ∷ xs) [] same = absurd (none-some x (sym (same 0)))
  same-lists (x ∷ xs) (y ∷ ys) same = λ i. same_Some x y (same 0) i ∷ same-lists xs ys (λ j. same (suc j)) i

  abbrev listed : List Watch → List Listed
  listed ws = map (λ (w : Watch). w.listed) ws

  still-listed : (old ws : List Watch) → WaitTheSame old ws → listed ws ≡ listed old
  still-listed old ws same =
      same-lists (listed ws) (listed old)
      (λ i. slice_get-map (λ (w : Watch). w.listed) ws i ∙ same i ∙ sym (slice_get-map (λ (w : Watch). w.listed) old i))

  abbrev s : State
  s = state_after core.program entries

  abbrev HasReason : Watch → Type 0
  HasReason w =
      (at : Location) × (option_map (λ (x : Wanted). x.at) (wanted_by core.program w.listed.process s) ≡ Some at) × (w.latest ≡ latest_changes core.program entries at)

  -- the reason of one that is listed
  one-reason : (p : ℕ) (l : Listed) (w : Watch) → listed_after core.program entries p ≡ Some l → w.listed ≡ l → HasReason w
      → reason_of core.program entries p ≡ reason_with core.program s w.listed w.latest ∷ []
  one-reason p l w there same has =
      let number : w.listed.process ≡ p = ap (λ (x : Listed). x.process) same ∙ number-listed core.program entries p l there in
      by (wanted_by core.program p s) refl (ap (λ q. option_map (λ (x : Wanted). x.at) (wanted_by core.program q s)) (sym number) ∙ has.1)
    where
      by : (o : Option Wanted) → wanted_by core.program p s ≡ o → option_map (λ (x : Wanted). x.at) o ≡ Some has.0
          → reason_of core.program entries p ≡ reason_with core.program s w.listed w.latest ∷ []
      by None e f = absurd (none-some has.0 f)
      by (Some x) e f =
          let at : x.at ≡ has.0 = same_Some x.at has.0 f in
          (λ i. reason_by core.program entries (there i) (e i))
          ∙ (λ i. reason_with core.program s (sym same i) ((ap (latest_changes core.program entries) at ∙ sym has.2) i) ∷ [])

  all-reasons : (p n : ℕ) (ws : List Watch) → listed ws ≡ listed_from core.program entries p n
      → ((i : ℕ) (w : Watch) → slice_get ws i ≡ Some w → HasReason w)
      → reasons_for core.program s ws ≡ reasons_from core.program entries p n
  all-reasons p zero [] same has = refl
  all-reasons p zero (w ∷ ws) same has = absurd (omega (arith, ap length same))
  all-reasons p (suc n) ws same has = by (listed_after core.program entries p) refl same (λ vs. all-reasons (suc p) n vs)
    where
      by : (o : Option Listed) → listed_after core.program entries p ≡ o
          → listed ws ≡ option_to_list o ++ listed_from core.program entries (suc p) n
          → ((vs : List Watch) → listed vs ≡ listed_from core.program entries (suc p) n → ((i : ℕ) (w : Watch) → slice_get vs i ≡ Some w → HasReason w) → reasons_for core.program s vs ≡ reasons_from core.program entries (suc p) n)
          → reasons_for core.program s ws ≡ reason_of core.program entries p ++ reasons_from core.program entries (suc p) n
      by None e f further =
          further ws f has
          ∙ (λ i. reason_by core.program entries (sym e i) (wanted_by core.program p s) ++ reasons_from core.program entries (suc p) n)
      by (Some l) e f further = cut ws f has
        where
          cut : (vs : List Watch) → listed vs ≡ l ∷ listed_from core.program entries (suc p) n
              → ((i : ℕ) (w : Watch) → slice_get vs i ≡ Some w → HasReason w)
              → reasons_for core.program s vs ≡ reason_of core.program entries p ++ reasons_from core.program entries (suc p) n
          cut [] g has = absurd (omega (arith, ap length g))
          cut (w ∷ vs) g has =
              let first : w.listed ≡ l = same_Some w.listed l (ap (λ (xs : List Listed). slice_get xs 0) g) in
              let rest : listed vs ≡ listed_from core.program entries (suc p) n =
              same-lists (listed vs) _ (λ i. ap (λ (xs : List Listed). slice_get xs (suc i)) g) in
              (λ i. reason_with core.program s w.listed w.latest ∷ further vs rest (λ j u k. has (suc j) u k) i)
              ∙ (λ i. sym (one-reason p l w e first (has 0 w refl)) i ++ reasons_from core.program entries (suc p) n)

  pub reasons-are : (old ws : List Watch) → listed old ≡ listed_from core.program core.history 1 (length (state_of core).processes)
      → WaitTheSame old ws → AreFound core entries ws
      → reasons_for core.program (state_of core) ws ≡ reasons_of core.program entries
  reasons-are old ws found same are =
      ap (λ (t : State). reasons_for core.program t ws) state-is-so
      ∙ all-reasons 1 (length s.processes) ws listed-so has
    where
      listed-so : listed ws ≡ listed_from core.program entries 1 (length s.processes)
      listed-so =
          still-listed old ws same ∙ found
          ∙ (λ i. listed_from core.program (history-is i) 1 (length (state-is-so i).processes))
          ∙ all-listed core.program entries 1 (length s.processes)

      has : (i : ℕ) (w : Watch) → slice_get ws i ≡ Some w → HasReason w
      has i w e =
          let a = are i w e in (
            a.0,
            ap
                (λ (t : State). option_map (λ (x : Wanted). x.at) (wanted_by core.program w.listed.process t))
                (sym (sym (state-is core.program core.history) ∙ state-is-so))
                ∙ a.1,
            a.2,
          )
