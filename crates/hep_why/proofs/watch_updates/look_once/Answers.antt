use Rattle.std.proofs.Common.{◌≡◌, ◌<◌, ◌≤◌, ◌∙◌, ℕ, Bool, true, false, Option, ap, sym, length, if◌then◌else◌, arith}
use Rattle.std.proofs.lemmas.Bool.Decides.{nat_tests}
use Rattle.hep_machine.specs.Words.{Location, State}
use Rattle.hep_why.specs.LatestChanges.{is_there}
use Rattle.hep_why.specs.declared.reason.Change.{Change}
use Rattle.hep_why.specs.declared.reason.LatestChanges.{LatestChanges}
use Rattle.hep_why.specs.declared.watch.Watch.{Watch}
use Rattle.hep_why.specs.Watches.{IsKeptOnceThere, TurnsMade, looked, noted, state_at}
use Rattle.hep_why.proofs.watch_updates.look_once.Goals as goal

-- it isn't there
not-there : (t : TurnsMade) (w : Watch) (at : Location) (n : ℕ) → IsKeptOnceThere t w at → n ≡ length (state_at t).activations
    → n < w.listed.owner
    → is_there (state_at t) at ≡ false
not-there t w at n h made less = let owner = h.owner in grind (arith, nat_tests, made, less, owner)

there : (t : TurnsMade) (w : Watch) (at : Location) (n : ℕ) → IsKeptOnceThere t w at → n ≡ length (state_at t).activations
    → w.listed.owner ≤ n
    → is_there (state_at t) at ≡ true
there t w at n h made less = let owner = h.owner in grind (arith, nat_tests, made, less, owner)

unlooked : (s : State) (at : Location) (made : ℕ) (change : Option Change) (w : Watch) → is_there s at ≡ false
    → w ≡ looked s at made change w
unlooked s at made change w e = λ i. if sym e i then noted (s.store at).full made change w else w

looked-so : (s : State) (at : Location) (made : ℕ) (change : Option Change) (w : Watch) (full : Bool) (latest : LatestChanges)
    → is_there s at ≡ true → full ≡ (s.store at).full → latest ≡ (noted full made change w).latest
    → (let v : Watch = record { listed = w.listed; cell = w.cell; full = full; latest = latest } in v) ≡ looked s at made change w
looked-so s at made change w full latest e full_is latest_is =
    (λ i. record { listed = w.listed; cell = w.cell; full = full; latest = latest_is i })
    ∙ ap (λ b. noted b made change w) full_is
    ∙ (λ i. if sym e i then noted (s.store at).full made change w else w)

pub is_full-full-requires : goal.is_full-full-requires
is_full-full-requires c =
    let t = c.requires.0 in
    let at = c.requires.1 in
    let of = c.requires.2 in
    let h = c.requires.3 in
    (t, at, of, h.kept (there t c.args.watch at c.args.machine.now.activations h of.after.shows.activations c.if-made_now-watch.false))

pub returns-then-made_now-watch : goal.returns-then-made_now-watch
returns-then-made_now-watch c t at of h =
    let away = not-there t c.args.watch at c.args.machine.now.activations h of.after.shows.activations c.if-made_now-watch.true in
    unlooked (state_at t) at c.args.made c.args.change c.args.watch away

pub returns : goal.returns
returns c t at of h =
    let here = there t c.args.watch at c.args.machine.now.activations h of.after.shows.activations c.if-made_now-watch.false in
    looked-so (state_at t) at c.args.made c.args.change c.args.watch c.is_full-full.result c.latest.result here
    (c.is_full-full.ensures t at of (h.kept here)) c.latest.ensures
