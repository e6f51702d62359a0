use Rattle.std.proofs.Common.{◌++◌, ◌∙◌, List, ℕ, ap, append_assoc}
use Rattle.hep_outcome.specs.Tallies.{Tally, count_text, seed_text}
use Rattle.hep_outcome.proofs.tally.Tally.append.Goals as goal

pub returns : goal.returns
returns c =
    let before = c.args.text.now.items in
    let count = count_text c.args.runs c.args.self.now in
    let seed = seed_text c.args.self.now.seed in
    c.in_ok-extend_from_slice.ensures.items
    ∙ ap (λ (l : List ℕ). l ++ c.deref.result.now) (
    c.in_ok-append_seed.ensures
    ∙ ap (λ (l : List ℕ). l ++ seed_text c.self.inside.seed) c.in_ok-append_count.ensures
    ∙ ap (λ (n : ℕ). (before ++ count) ++ seed_text n) (ap (λ (t : Tally). t.seed) c.self.view_is))
    ∙ append_assoc (before ++ count) seed c.deref.result.now
    ∙ append_assoc before count (seed ++ c.deref.result.now)
    ∙ ap (λ (l : List ℕ). before ++ (count ++ (seed ++ l))) (c.deref.ensures.value ∙ ap (λ (t : Tally). t.lines) c.self.view_is)
