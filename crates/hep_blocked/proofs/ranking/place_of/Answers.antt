use Rattle.std.proofs.Common.{ap, sym, arith, ◌∙◌}
use Rattle.hep_blocked.specs.Rosters.{number_at}
use Rattle.hep_blocked.proofs.Ranks.{place-found, place-none, to-within}
use Rattle.hep_blocked.proofs.ranking.place_of.Goals as goal
use Rattle.hep_blocked.proofs.ranking.place_of.Goals.{else-place-gt0-via-then-place-gt0+else-number_at-p, else-place-gt0-via-else-place-gt0}

pub number_at-requires-clause-inside : goal.number_at-requires-clause-inside
number_at-requires-clause-inside c = omega (arith, c.places_to-place.ensures, to-within c.args.p c.args.numbers.now)

pub returns-then-number_at-p-clause-place : goal.returns-then-number_at-p-clause-place
returns-then-number_at-p-clause-place c =
    let ns = c.args.numbers.now in
    let r = c.requires.rising in
    place-found c.args.p r.0 c.places_to-place.result ns r.1 (omega (arith, c.if-place-gt0.true)) (omega (arith, c.places_to-place.ensures, to-within c.args.p ns)) (sym c.number_at.ensures ∙ c.if-number_at-p.true)

pub returns-then-number_at-p-clause-inside : goal.returns-then-number_at-p-clause-inside
returns-then-number_at-p-clause-inside c = omega (arith, c.places_to-place.ensures, to-within c.args.p c.args.numbers.now)

pub returns-else-place-gt0-clause-place : goal.returns-else-place-gt0-clause-place
returns-else-place-gt0-clause-place c =
    let ns = c.args.numbers.now in
    let r = c.requires.rising in
    place-none c.args.p r.0 ns r.1 (λ some is. elim c.else-place-gt0.branch [
      | else-place-gt0-via-then-place-gt0+else-number_at-p w ↦ w.if-number_at-p.false (w.number_at.ensures ∙ ap (number_at ns) c.places_to-place.ensures ∙ is)
      | else-place-gt0-via-else-place-gt0 w ↦ omega (arith, w.if-place-gt0.false, c.places_to-place.ensures, some)
    ])
