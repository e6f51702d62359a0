use Rattle.std.proofs.Common.{◌≡◌, ◌∙◌, refl, sym, subst, rules}
use Rattle.indexmap.specs.IndexSet.{contains}
use Rattle.hep_machine.specs.Words.{name_eq}
use Rattle.hep_names.specs.Tables.{either}
use Rattle.hep_storage.specs.InitializedElements.{element_eq, IsNamed}
use Rattle.hep_storage.proofs.GivenElements.{with-one, with-all, element-added}
use Rattle.hep_storage.proofs.initialized_elements.InitializedElements.give.Goals as goal

pub returns-in_ok-insert-in-One : goal.returns-in_ok-insert-in-One
returns-in_ok-insert-in-One c =
    let old = c.args.self.now in
    let e = c.in-One.element in
    let was : c.if-contains.was ≡ either (contains element_eq old.elements e) (contains name_eq old.arrays e.name) = search rules in
    record {
      was = λ unit given s described named. was ∙ sym (described.alone e s (subst (λ n. IsNamed unit n s) c.in-One.is named));
      given = λ unit given s described named.
          with-one described e s (subst (λ n. IsNamed unit n s) c.in-One.is named)
          (λ x. refl) c.in_ok-add-in-One.ensures (λ f. c.in_ok-insert-in-One.ensures.updates.0 f ∙ element-added e f (contains element_eq old.elements f));
    }

pub returns-in_ok-add-in-All-2 : goal.returns-in_ok-add-in-All-2
returns-in_ok-add-in-All-2 c =
    let old = c.args.self.now in
    let x = c.in-All.name in
    let was : c.contains-was-in-All.result ≡ contains name_eq old.names x = search rules in
    record {
      was = λ unit given s described named. was ∙ sym (described.together x c.in-All.field-1 s (subst (λ n. IsNamed unit n s) c.in-All.is named));
      given = λ unit given s described named.
          with-all described x c.in-All.field-1 s (subst (λ n. IsNamed unit n s) c.in-All.is named)
          c.in_ok-add-in-All-2.ensures c.in_ok-add-in-All.ensures (λ f. refl);
    }
