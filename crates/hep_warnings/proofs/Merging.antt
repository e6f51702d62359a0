-- One more warning of the first of two lists.
use Rattle.std.proofs.Common.{◌≡◌, ℕ, ◌+◌, ◌<◌, [], ◌∷◌, ◌++◌, drop, get_or, length, take, refl, sym, ap, ◌∙◌}
use Rattle.std.proofs.lemmas.List.{at_drop_more}
use Rattle.hep_warnings.specs.declared.warning.Warning.{Warning}
use Rattle.hep_warnings.specs.Lines.{Warnings}
use Rattle.hep_warnings.specs.Merge.{count_before, merged}

joined : (all front : Warnings) (v : Warning) (more : Warnings) → (all ++ (front ++ (v ∷ []))) ++ more ≡ all ++ (front ++ (v ∷ more))
joined [] [] v more = refl
joined [] (x ∷ front) v more = ap (λ ws. x ∷ ws) (joined [] front v more)
joined (x ∷ all) front v more = ap (λ ws. x ∷ ws) (joined all front v more)

pub turned : (vs ws all new left end : Warnings) (i : ℕ) (d : Warning) → i < length vs
    → new ≡ all ++ (take (count_before (get_or vs i d).line ws) ws ++ (get_or vs i d ∷ []))
    → left ≡ drop (count_before (get_or vs i d).line ws) ws
    → all ++ merged (drop i vs) ws ≡ end → new ++ merged (drop (i + 1) vs) left ≡ end
turned vs ws all new left end i d h made rest so_far =
    let n = count_before (get_or vs i d).line ws in
    ap (λ (us : Warnings). us ++ merged (drop (i + 1) vs) left) made
    ∙ (ap (λ (us : Warnings). (all ++ (take n ws ++ (get_or vs i d ∷ []))) ++ merged (drop (i + 1) vs) us) rest
    ∙ (joined all (take n ws) (get_or vs i d) (merged (drop (i + 1) vs) (drop n ws))
    ∙ (sym (at_drop_more (λ us. all ++ merged us ws) vs i d h) ∙ so_far)))
