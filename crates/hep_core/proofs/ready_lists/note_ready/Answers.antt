use Rattle.std.proofs.Common.{◌≡◌, ℕ, Bool, true, false, List, sym, ap, ◌∙◌, arith, ◌&&◌, ◌||◌, nat_eq, nat_lt, not, le-ltb, lt-ltb}
use Rattle.std.proofs.lemmas.Bool.Decides.{nat_tests}
use Rattle.hep_machine.specs.Words.{is_number_among}
use Rattle.hep_blocked.specs.RosterUpdates.{is_noted}
use Rattle.hep_blocked.specs.Rosters.{RosterValue, want_of}
use Rattle.hep_core.proofs.ready_lists.note_ready.Goals as goal
use Rattle.hep_core.proofs.ready_lists.note_ready.Goals.{then-not-lives, else-not-lives}

-- process q is left, where process p lives or not
abbrev is_left : List ℕ → ℕ → ℕ → Bool → Bool
is_left ns p q lives = is_number_among q ns && (not (nat_eq p q) || lives)

left-alive : (ns : List ℕ) (p q : ℕ) → is_number_among q ns ≡ is_left ns p q true
left-alive ns p q = grind (arith, nat_tests)

left-dead : (ns : List ℕ) (p q : ℕ) → (not (nat_eq p q) && is_number_among q ns) ≡ is_left ns p q false
left-dead ns p q = grind (arith, nat_tests)

noted-more : (ns : List ℕ) (p made n q : ℕ) (lives was : Bool) → was ≡ lives → nat_lt made n ≡ true → (nat_eq q n || is_left ns p q was) ≡ is_noted p lives made n ns q
noted-more ns p made n q lives was same more = grind (arith, nat_tests, same, more)

noted-same : (ns : List ℕ) (p made n q : ℕ) (lives was : Bool) → was ≡ lives → nat_lt made n ≡ false → is_left ns p q was ≡ is_noted p lives made n ns q
noted-same ns p made n q lives was same none = grind (arith, nat_tests, same, none)

pub returns-then-made-machine-clause-ready : goal.returns-then-made-machine-clause-ready
returns-then-made-machine-clause-ready c program cells choices after q =
    let p = c.args.p in
    let before = c.args.roster.now.ready in
    let n = c.args.machine.now.made in
    let left : is_number_among q c.if-not-lives.roster.ready ≡ is_left before p q c.lives.result = elim c.if-not-lives.branch [
      | then-not-lives w ↦ ap (λ (r : RosterValue). is_number_among q r.ready) w.roster-is ∙ w.remove.ensures.ready q ∙ left-dead before p q ∙ ap (is_left before p q) (sym w.if-not-lives.true)
      | else-not-lives w ↦ ap (λ (r : RosterValue). is_number_among q r.ready) w.roster-is ∙ left-alive before p q ∙ ap (is_left before p q) (sym w.if-not-lives.false)
    ] in
    c.enroll.ensures.ready q ∙ (λ i. nat_eq q n || left i)
    ∙ noted-more before p c.args.made n q _ c.lives.result (c.lives.ensures.lives program cells choices after) (lt-ltb c.args.made n (omega (arith, c.if-made-machine.true)))

pub returns-else-made-machine-clause-ready : goal.returns-else-made-machine-clause-ready
returns-else-made-machine-clause-ready c program cells choices after q =
    let p = c.args.p in
    let before = c.args.roster.now.ready in
    let n = c.args.machine.now.made in
    let left : is_number_among q c.if-not-lives.roster.ready ≡ is_left before p q c.lives.result = elim c.if-not-lives.branch [
      | then-not-lives w ↦ ap (λ (r : RosterValue). is_number_among q r.ready) w.roster-is ∙ w.remove.ensures.ready q ∙ left-dead before p q ∙ ap (is_left before p q) (sym w.if-not-lives.true)
      | else-not-lives w ↦ ap (λ (r : RosterValue). is_number_among q r.ready) w.roster-is ∙ left-alive before p q ∙ ap (is_left before p q) (sym w.if-not-lives.false)
    ] in
    left ∙ noted-same before p c.args.made n q _ c.lives.result (c.lives.ensures.lives program cells choices after) (le-ltb c.args.made n (omega (arith, c.if-made-machine.false)))

pub enroll-requires-clause-later : goal.enroll-requires-clause-later
enroll-requires-clause-later c =
    let last : c.if-not-lives.roster.last ≡ c.args.roster.now.last = elim c.if-not-lives.branch [
      | then-not-lives w ↦ ap (λ (r : RosterValue). r.last) w.roster-is ∙ ap (λ (r : RosterValue). r.last) w.remove.ensures.others
      | else-not-lives w ↦ ap (λ (r : RosterValue). r.last) w.roster-is
    ] in
    omega (arith, last, c.requires.last, c.if-made-machine.true)

pub enroll-requires-clause-room : goal.enroll-requires-clause-room
enroll-requires-clause-room c =
    let room : c.if-not-lives.roster.room ≡ c.args.roster.now.room = elim c.if-not-lives.branch [
      | then-not-lives w ↦ ap (λ (r : RosterValue). r.room) w.roster-is ∙ ap (λ (r : RosterValue). r.room) w.remove.ensures.others
      | else-not-lives w ↦ ap (λ (r : RosterValue). r.room) w.roster-is
    ] in
    omega (arith, room, c.requires.room)

pub returns-then-made-machine-clause-waiting : goal.returns-then-made-machine-clause-waiting
returns-then-made-machine-clause-waiting c q =
    let same : want_of c.if-not-lives.roster.waiting q ≡ want_of c.args.roster.now.waiting q = elim c.if-not-lives.branch [
      | then-not-lives w ↦ ap (λ (r : RosterValue). want_of r.waiting q) w.roster-is ∙ ap (λ (r : RosterValue). want_of r.waiting q) w.remove.ensures.others
      | else-not-lives w ↦ ap (λ (r : RosterValue). want_of r.waiting q) w.roster-is
    ] in
    c.enroll.ensures.waiting q ∙ same

pub returns-then-made-machine-clause-room : goal.returns-then-made-machine-clause-room
returns-then-made-machine-clause-room c =
    let room : c.if-not-lives.roster.room ≡ c.args.roster.now.room = elim c.if-not-lives.branch [
      | then-not-lives w ↦ ap (λ (r : RosterValue). r.room) w.roster-is ∙ ap (λ (r : RosterValue). r.room) w.remove.ensures.others
      | else-not-lives w ↦ ap (λ (r : RosterValue). r.room) w.roster-is
    ] in
    record {
      room = omega (arith, room, c.requires.room, c.enroll.ensures.room);
      last = omega (arith, c.enroll.ensures.last);
    }

pub returns-else-made-machine-clause-waiting : goal.returns-else-made-machine-clause-waiting
returns-else-made-machine-clause-waiting c q = elim c.if-not-lives.branch [
  | then-not-lives w ↦ ap (λ (r : RosterValue). want_of r.waiting q) w.roster-is ∙ ap (λ (r : RosterValue). want_of r.waiting q) w.remove.ensures.others
  | else-not-lives w ↦ ap (λ (r : RosterValue). want_of r.waiting q) w.roster-is
]

pub returns-else-made-machine-clause-room : goal.returns-else-made-machine-clause-room
returns-else-made-machine-clause-room c =
    let last : c.if-not-lives.roster.last ≡ c.args.roster.now.last = elim c.if-not-lives.branch [
      | then-not-lives w ↦ ap (λ (r : RosterValue). r.last) w.roster-is ∙ ap (λ (r : RosterValue). r.last) w.remove.ensures.others
      | else-not-lives w ↦ ap (λ (r : RosterValue). r.last) w.roster-is
    ] in
    let room : c.if-not-lives.roster.room ≡ c.args.roster.now.room = elim c.if-not-lives.branch [
      | then-not-lives w ↦ ap (λ (r : RosterValue). r.room) w.roster-is ∙ ap (λ (r : RosterValue). r.room) w.remove.ensures.others
      | else-not-lives w ↦ ap (λ (r : RosterValue). r.room) w.roster-is
    ] in
    record {
      room = omega (arith, room, c.requires.room);
      last = omega (arith, last, c.requires.last, c.requires.more);
    }
