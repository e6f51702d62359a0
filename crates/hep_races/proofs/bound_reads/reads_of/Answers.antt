use Rattle.std.proofs.Common.{◌+◌, ◌++◌, ◌∙◌, [], IsSome, List, append_assoc, append-nil, ap, arith, drop, false, get_or, map, refl}
use Rattle.std.proofs.Common.{slice_get, subst, sym}
use Rattle.std.proofs.lemmas.List.{drop_all, drop_more, map-append}
use Rattle.std.proofs.lemmas.Option.{slice_get-get_or}
use Rattle.std.specs.List.{flat_map}
use Rattle.hep_accesses.specs.Accesses.{Access}
use Rattle.hep_machine.specs.Words.{run, unit_at}
use Rattle.hep_races.proofs.ReadBounds.{bounds-read, row-sourced}
use Rattle.hep_races.proofs.bound_reads.reads_of.Goals as goal
use Rattle.hep_races.specs.BoundReads.{IsReading, read_bound}
use Rattle.hep_races.specs.StepEvents.{access_seen}
use Rattle.hep_races.specs.declared.bound_names.BoundName.{BoundName}
use Rattle.hep_races.specs.declared.step_access.SitedAccess.{SitedAccess}
use Rattle.hep_races.specs.declared.bound_names.BoundSource.TheVariants as source

pub append_read-requires-clause-reading : goal.append_read-requires-clause-reading
append_read-requires-clause-reading c =
    let h = c.requires.given.3 in
    record {
      cells = c.requires.given.0;
      choices = c.requires.given.1;
      top = c.requires.given.2;
      is_ahead = h;
      given_is = c.requires.given.4;
      here_is = c.whereabouts-here.ensures c.requires.given.0 c.requires.given.1 h.lives.after (subst IsSome (sym h.lives.lives) refl);
    }

-- what an index past the end would give
abbrev no_bound : BoundName
no_bound = record { name = record { asynchronous = false; letters = [] }; source = source.Dummy 0 }

pub append_read-requires-clause-bound : goal.append_read-requires-clause-bound
append_read-requires-clause-bound c =
    let program = c.args.ahead.now.image.now in
    let i = c.loop-bound.bound-index in
    let b = get_or c.args.bounds.now i no_bound in
    row-sourced program (unit_at program c.args.unit) i b (
    ap (λ bs. slice_get bs i) (sym c.requires.bounds) ∙ slice_get-get_or c.args.bounds.now i no_bound c.loop-bound-test.true)

pub loop-bound-preserved : goal.loop-bound-preserved
loop-bound-preserved c r =
    let program = c.args.ahead.now.image.now in
    let seen = access_seen program (run program r.choices) in
    let i = c.loop-bound.bound-index in
    let b = get_or c.args.bounds.now i no_bound in
    let bounds = c.args.bounds.now in
    let old = c.loop-bound.reads.items in
    let f : BoundName → List Access = λ x. read_bound r x.name in
    let rest = flat_map f (drop (i + 1) bounds) in
    ap (λ (xs : List SitedAccess). xs ++ map seen rest) (c.in_ok-append_read.ensures r)
    ∙ append_assoc old (map seen (f b)) (map seen rest)
    ∙ ap (λ (xs : List SitedAccess). old ++ xs) (sym (map-append seen (f b) rest)
    ∙ ap (λ bs. map seen (flat_map f bs)) (sym (drop_more bounds i no_bound c.loop-bound-test.true)))
    ∙ c.loop-bound.invariant r

pub returns : goal.returns
returns c cells choices top h g =
    let program = c.args.ahead.now.image.now in
    let seen = access_seen program (run program choices) in
    let bounds = c.args.bounds.now in
    let r : IsReading c.args.ahead.now c.whereabouts-here.result c.args.unit c.args.given.now = record {
      cells = cells;
      choices = choices;
      top = top;
      is_ahead = h;
      given_is = g;
      here_is = c.whereabouts-here.ensures cells choices h.lives.after (subst IsSome (sym h.lives.lives) refl);
    } in
    let f : BoundName → List Access = λ x. read_bound r x.name in
    bounds-read r c.loop-bound.reads.items (
    sym (append-nil c.loop-bound.reads.items)
    ∙ ap (λ bs. c.loop-bound.reads.items ++ map seen (flat_map f bs)) (
    sym (drop_all c.loop-bound.bound-index bounds (omega (arith, c.loop-bound-test.false))))
    ∙ c.loop-bound.invariant r ∙ ap (λ bs. map seen (flat_map f bs)) c.requires.bounds)
