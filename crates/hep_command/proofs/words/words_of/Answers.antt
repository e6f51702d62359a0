use Rattle.std.proofs.Common.{[], ℕ, List, Option, ap, codes, map, ◌∙◌}
use Rattle.std.proofs.lemmas.Result.{IfOk-weaker}
use Rattle.std.specs.Borrow.{Bor}
use Rattle.std.specs.Option.{unwrap_or}
use Rattle.clap.specs.Words.{Text, found_of}
use Rattle.clap.proofs.WalkLemmas.{raw_values-rows}
use Rattle.hep_command.proofs.words.words_of.Goals as goal

pub returns-in-Some : goal.returns-in-Some
returns-in-Some c =
    let found = c.in-Some.ensures ∙ raw_values-rows (found_of c.args.found.now) (codes "histories") in
    IfOk-weaker c.copied.result _ _ (λ words same. same ∙ ap (λ (o : Option (List Text)). unwrap_or o []) found) c.copied.ensures

pub returns-in-None : goal.returns-in-None
returns-in-None c =
    let found = c.in-None.ensures ∙ raw_values-rows (found_of c.args.found.now) (codes "histories") in
    ap (λ (ws : List (Bor (List ℕ))). map (λ w. w.now) ws) c.new.ensures.items ∙ ap (λ (o : Option (List Text)). unwrap_or o []) found
