use Rattle.std.proofs.Common.{◌+◌, ◌||◌, ◌∙◌, Bool, List, ap, drop, sym}
use Rattle.std.specs.List.{list_any}
use Rattle.hep_source.proofs.Tests.{drop_at}
use Rattle.hep_explore.specs.Explored.{Found}
use Rattle.hep_explore.specs.FoundOutcomes.{is_like}
use Rattle.hep_explore.proofs.found.is_among.Goals as goal

pub returns-then-is_like : goal.returns-then-is_like
returns-then-is_like c =
    let all : List Found = c.args.all.now in
    let like = is_like c.args.one.now in
    let i = c.loop-found.found-index in
    let f : Found = c.found-item.result in
    let rest = list_any like (drop (i + 1) all) in
    ap (λ (b : Bool). b || rest) (sym c.if-is_like.true ∙ c.is_like.ensures)
    ∙ (ap (list_any like) (sym (drop_at all i f c.loop-found-test.true c.found-item.is)) ∙ c.loop-found.invariant)

pub loop-found-preserved : goal.loop-found-preserved
loop-found-preserved c =
    let all : List Found = c.args.all.now in
    let like = is_like c.args.one.now in
    let i = c.loop-found.found-index in
    let f : Found = c.found-item.result in
    let rest = list_any like (drop (i + 1) all) in
    ap (λ (b : Bool). b || rest) (sym c.if-is_like.false ∙ c.is_like.ensures)
    ∙ (ap (list_any like) (sym (drop_at all i f c.loop-found-test.true c.found-item.is)) ∙ c.loop-found.invariant)
