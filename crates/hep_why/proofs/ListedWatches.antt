-- Processes that are listed, as watches.
use Rattle.std.proofs.Common.{◌≡◌, ℕ, zero, suc, ◌-◌, ◌<◌, true, false, List, [], ◌∷◌, ◌++◌, map, Option, Some, None, refl, sym, ap, ◌∙◌, subst, arith, append_assoc, append-nil, if◌then◌else◌, slice_get}
use Rattle.std.specs.Option.{option_map, option_to_list}
use Rattle.std.proofs.lemmas.List.{map-append}
use Rattle.std.proofs.lemmas.Option.{none-some, same_Some}
use Rattle.hep_blocked.specs.RosterUpdates.{IsBlocked}
use Rattle.hep_cells.specs.declared.want.Want.{Want}
use Rattle.hep_replay.proofs.Histories.{number-listed, state-is}
use Rattle.hep_replay.specs.CoreValues.{CoreValue, listed_after}
use Rattle.hep_machine.specs.declared.event.Entry.{Entry}
use Rattle.hep_machine.specs.Words.{Layout, Location, State, Units, Wanted, common, is_number_among, local, progress_after, run, schedule_of, wanted_by}
use Rattle.hep_layout.specs.Words.{address}
use Rattle.hep_why.specs.LatestChanges.{no_changes, owner_of}
use Rattle.hep_state.specs.declared.core_state.CoreState.{CoreState}
use Rattle.hep_state.specs.Words.{IsMachineAfter}
use Rattle.hep_views.specs.declared.listed.Listed.{Listed}
use Rattle.hep_views.specs.ListedProcesses.{listed_at, listed_by, listed_with, place_of}
use Rattle.hep_views.specs.CellOwners.{IsListedAs}
use Rattle.hep_views.proofs.WaitingPlaces.{blocked-waits}
use Rattle.hep_why.specs.declared.watch.Watch.{Watch}
use Rattle.hep_why.specs.Watches.{IsWatchOf, listed_from}

-- ---- one

owner-placed : (program : Units) (s : State) (at : Location) → owner_of at ≡ (place_of program s at).owner
owner-placed program s (local a x i) = refl
owner-placed program s (common b i) = refl

-- one that is listed
pub new-watch : (core : CoreValue) (image : Units) (p : ℕ) (m : CoreState) (want : Want) (l : Listed) → image ≡ core.program
    → IsMachineAfter core.program core.cells (schedule_of core.history) m
    → IsBlocked core.program core.cells (schedule_of core.history) p want
    → true ≡ is_number_among p (progress_after core.program core.history).listed → IsListedAs image m p want l
    → IsWatchOf core p (Some (record { listed = l; cell = want.cell; full = false; latest = no_changes }))
new-watch core image p m want l same after blocked found as_listed =
    let program = core.program in
    let turns = schedule_of core.history in
    let s : State = run program turns in
    let w = blocked-waits program core.cells turns m after p want blocked in
    let is : listed_by program p s ≡ Some l =
    subst (λ (us : Units). IsListedAs us m p want l) same as_listed core.cells turns after blocked in
    let there : listed_after program core.history p ≡ Some l =
    (λ i. if sym found i then listed_by program p (state-is program core.history i) else None) ∙ is in
    let number : l.process ≡ p = number-listed program core.history p l there in
    let as_is : l ≡ listed_at program s p w.top.0 w.wanted =
    same_Some l (listed_at program s p w.top.0 w.wanted) (sym is ∙ (λ i. listed_with program s p (w.lives i) (w.waits i))) in (
      there,
      (
        refl,
        (
          w.wanted.at,
          record {
            located = ap (λ q. option_map (λ (x : Wanted). x.at) (wanted_by program q s)) number
                ∙ ap (option_map (λ (x : Wanted). x.at)) w.waits;
            owner = owner-placed program s w.wanted.at ∙ sym (ap (λ (z : Listed). z.owner) as_is);
            kept = λ layout e.
                ap (λ (ls : Layout). address program s ls w.wanted.at)
                (same_Some layout w.sought.after.layout (sym e ∙ w.sought.after.laid)) ∙ w.sought.kept;
          },
        ),
      ),
    )

-- and one that isn't
pub no-watch : (core : CoreValue) (p : ℕ) → false ≡ is_number_among p (progress_after core.program core.history).listed
    → IsWatchOf core p None
no-watch core p found = λ i. if sym found i then listed_by core.program p (state-is core.program core.history i) else None

-- ---- one more

pub each-last : (P : Watch → Type 0) (ws : List Watch) (w : Watch) → ((i : ℕ) (v : Watch) → slice_get ws i ≡ Some v → P v) → P w
    → (i : ℕ) (v : Watch) → slice_get (ws ++ w ∷ []) i ≡ Some v → P v
each-last P [] w all one zero v e = subst P (same_Some w v e) one
each-last P [] w all one (suc i) v e = absurd (none-some v e)
each-last P (x ∷ xs) w all one zero v e = all zero v e
each-last P (x ∷ xs) w all one (suc i) v e = each-last P xs w (λ j u f. all (suc j) u f) one i v e

abbrev listed : List Watch → List Listed
listed ws = map (λ (w : Watch). w.listed) ws

pub listed-more : (core : CoreValue) (p : ℕ) (ws : List Watch) (w : Watch) → IsWatchOf core p (Some w)
    → listed (ws ++ w ∷ []) ≡ listed ws ++ option_to_list (listed_after core.program core.history p)
listed-more core p ws w h =
    map-append (λ (v : Watch). v.listed) ws (w ∷ []) ∙ ap (λ (o : Option Listed). listed ws ++ option_to_list o) (sym h.0)

pub listed-no_more : (core : CoreValue) (p : ℕ) (ws : List Watch) → IsWatchOf core p None
    → listed ws ≡ listed ws ++ option_to_list (listed_after core.program core.history p)
listed-no_more core p ws h = sym (append-nil (listed ws)) ∙ ap (λ (o : Option Listed). listed ws ++ option_to_list o) (sym h)

-- a turn of the loop over processes
pub turn : (program : Units) (history : List Entry) (b m n : ℕ) (found next whole : List Listed) → b < n → m ≡ suc b
    → found ++ listed_from program history (suc b) (n - b) ≡ whole
    → next ≡ found ++ option_to_list (listed_after program history m)
    → next ++ listed_from program history (suc m) (n - m) ≡ whole
turn program history b m n found next whole lt same h e =
    let left : n - b ≡ suc (n - m) = omega (arith, lt, same) in
    let here = option_to_list (listed_after program history m) in
    let rest = listed_from program history (suc m) (n - m) in
    ap (λ (xs : List Listed). xs ++ rest) e
    ∙ append_assoc found here rest
    ∙ ap (λ k. found ++ listed_from program history k (suc (n - m))) same
    ∙ ap (λ k. found ++ listed_from program history (suc b) k) (sym left)
    ∙ h

-- before the first one
pub none-yet : (program : Units) (history : List Entry) (n : ℕ) (ws : List Watch) → ws ≡ []
    → listed ws ++ listed_from program history 1 (n - 0) ≡ listed_from program history 1 n
none-yet program history n ws none =
    let all : n - 0 ≡ n = omega arith in
    ap (λ (vs : List Watch). listed vs ++ listed_from program history 1 (n - 0)) none ∙ ap (listed_from program history 1) all

pub none-there : (ws : List Watch) (i : ℕ) (w : Watch) → ws ≡ [] → slice_get ws i ≡ Some w → ⊥
none-there ws i w none e = none-some w (sym (ap (λ (vs : List Watch). slice_get vs i) none) ∙ e)
