-- Names that a table notes by lines.
use Rattle.std.proofs.Common.{◌≡◌, ◌∙◌, ℕ, ◌+◌, ◌<◌, List, Option, Some, None, drop, get_or, length, refl, ap, sym}
use Rattle.std.specs.Option.{option_or}
use Rattle.std.proofs.lemmas.List.{drop_more}
use Rattle.hep_machine.specs.Words.{Name}
use Rattle.hep_types.specs.declared.all_ambiguities.Ambiguity.{Ambiguity}
use Rattle.hep_check.specs.NameClashes.{name_at, named_at}

or-assoc : (a b c : Option Name) → option_or (option_or a b) c ≡ option_or a (option_or b c)
or-assoc None b c = refl
or-assoc (Some x) b c = refl

-- one more
pub names-next : (line : ℕ) (old new whole : Option Name) (xs : List Ambiguity) (i : ℕ) (d : Ambiguity) → i < length xs → option_or old (name_at line (drop i xs)) ≡ whole
    → new ≡ option_or old (named_at line (get_or xs i d)) → option_or new (name_at line (drop (i + 1) xs)) ≡ whole
names-next line old new whole xs i d lt h n =
    let a = get_or xs i d in
    let rest = drop (i + 1) xs in
    ap (λ o. option_or o (name_at line rest)) n
    ∙ (or-assoc old (named_at line a) (name_at line rest) ∙ (ap (λ zs. option_or old (name_at line zs)) (sym (drop_more xs i d lt)) ∙ h))
