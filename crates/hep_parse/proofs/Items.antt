-- Items of a PRINT list: what is read is so by the grammar, and the other way round.
use Rattle.std.proofs.Common.{◌≡◌, inl, inr, ℕ, List, ◌∷◌, length, Some, None, refl, ap, subst, ◌∙◌, arith, length-append}
use Rattle.hep_source.specs.declared.statement.PrintItem.{PrintItem}
use Rattle.hep_source.specs.declared.statement.PrintItem.TheVariants.{Expression, Characters}
use Rattle.hep_expression.specs.declared.characters.Context.{Context}
use Rattle.hep_expression.specs.Expression.{equivalence}
use Rattle.hep_expression.specs.Reading.{◌>>=◌, after}
use Rattle.hep_expression.specs.ReadingExpression.{expression_at}
use Rattle.hep_expression.proofs.Leaves.{bind_some, either_some, after_is, fits}
use Rattle.hep_expression.proofs.Sound.{expression_at_sound}
use Rattle.hep_expression.proofs.Complete.{AfterExpression, expression_read}
use Rattle.hep_parse.specs.Constant.{quoted, ReadsItem}
use Rattle.hep_parse.specs.ReadingConstant.{constant_after, item_at}
use Rattle.hep_parse.proofs.Lists.{IsSound, Shortens, IsComplete}
use Rattle.hep_parse.proofs.Targets.{expression_begins_not}
use Rattle.hep_parse.proofs.Parts.{constant_is, constant_read}
use Rattle.std.proofs.lemmas.Option.{same_Some}

-- what may follow an item
abbrev pub AfterItem : List ℕ → Type 0
AfterItem r = AfterExpression r × (after 39 r ≡ None)

module _ (k : Context) where
  pub item_shortens : Shortens (ReadsItem k)
  item_shortens (Expression t) s r h = omega (arith, fits k t equivalence s r h)
  item_shortens (Characters t) s r h = omega (arith, ap length h.1, length-append (quoted t) (39 ∷ r))

  pub item_sound : IsSound k (ReadsItem k) (item_at k)
  unfolding item_at
  item_sound s x fit e =
      elim (either_some (after 39 s) (λ m. constant_after m >>= λ y. Some (Characters y.0, y.1)) (expression_at k s >>= λ y. Some (Expression y.0, y.1)) x e) [
        | inl g ↦ (
            let b = bind_some _ _ x g.2 in
            let c = constant_is g.0 b.0 b.1 in
            subst (λ (y : PrintItem × List ℕ). ReadsItem k y.0 s y.1) (same_Some (Characters b.0.0, b.0.1) x b.2) (c.0, after_is 39 s g.0 g.1 ∙ ap (λ (l : List ℕ). 39 ∷ l) c.1))
        | inr g ↦ (
            let b = bind_some _ _ x g.1 in
            subst (λ (y : PrintItem × List ℕ). ReadsItem k y.0 s y.1) (same_Some (Expression b.0.0, b.0.1) x b.2) (expression_at_sound k s b.0.1 b.0.0 fit b.1))
      ]

  pub item_complete : IsComplete (ReadsItem k) (item_at k) AfterItem
  unfolding item_at
  item_complete (Expression t) s r h f = rw (expression_begins_not k t s r 39 refl h, expression_read k t s r h f.0) refl
  item_complete (Characters t) s r h f = rw (h.1, constant_read t r h.0 f.1) refl
