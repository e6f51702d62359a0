use Rattle.std.proofs.Common.{◌∷◌, [], ℕ, refl}
use Rattle.hep_fold.proofs.Folding.{ahead, can-turn-next, folded-turn, made-turn}
use Rattle.hep_fold.proofs.history_fold.make_turn.Goals as goal

pub look-requires : goal.look-requires
look-requires g c =
    let t : ℕ × ℕ = (c.args.entry, c.args.p) in
    ahead g.O.Observer.knows g.O.Observer.see c.args.tabled.now c.requires.0 c.requires.1 c.args.again.now
    c.args.observer.now (t ∷ c.requires.2) (t ∷ []) c.requires.2 refl c.requires.3

pub turn-requires : goal.turn-requires
turn-requires g c =
    can-turn-next g.O.Observer.knows g.O.Observer.see c.args.tabled.now c.requires.0 c.requires.1
    c.args.again.now c.args.observer.now c.args.entry c.args.p c.requires.2 c.requires.3

pub tell-requires : goal.tell-requires
tell-requires g c =
    let t : ℕ × ℕ = (c.args.entry, c.args.p) in
    made-turn g.O.Observer.knows g.O.Observer.see c.args.tabled.now c.requires.0 c.requires.1 c.args.again.now
    c.args.observer.now c.args.entry c.args.p c.requires.2 c.requires.3
    c.turn.new.self c.in_ok-turn.ensures g.O.Observer.notes c.in_ok-look.look (
    c.in_ok-look.ensures (
    ahead g.O.Observer.knows g.O.Observer.see c.args.tabled.now c.requires.0 c.requires.1 c.args.again.now
    c.args.observer.now (t ∷ c.requires.2) (t ∷ []) c.requires.2 refl c.requires.3))

pub returns : goal.returns
returns g c replay total left h =
    let t : ℕ × ℕ = (c.args.entry, c.args.p) in
    folded-turn g.O.Observer.knows g.O.Observer.see c.args.tabled.now replay total
    c.args.again.now c.args.observer.now c.args.entry c.args.p left h
    c.turn.new.self c.in_ok-turn.ensures c.tell.new.self (
    c.in_ok-tell.ensures (
    made-turn g.O.Observer.knows g.O.Observer.see c.args.tabled.now replay total
    c.args.again.now c.args.observer.now c.args.entry c.args.p left h
    c.turn.new.self c.in_ok-turn.ensures g.O.Observer.notes c.in_ok-look.look (
    c.in_ok-look.ensures (ahead g.O.Observer.knows g.O.Observer.see c.args.tabled.now replay total c.args.again.now c.args.observer.now (t ∷ left) (t ∷ []) left refl h))))
