use Rattle.std.proofs.Common.{◌∙◌, ◌&&◌, nat_eq, refl, subst}
use Rattle.std.proofs.lemmas.Bool.{and_from, eq-eqb}
use Rattle.hep_source.proofs.NameTests.{name_eq-is, same_name-self}
use Rattle.hep_source.specs.Names.{name_eq}
use Rattle.hep_races.proofs.DistinctSites.{one-index}
use Rattle.hep_races.proofs.site_table.SiteTable.as_slice.Goals as goal
use Rattle.hep_races.specs.RunNames.{AreUnique}

pub returns-clause-unique : goal.returns-clause-unique
returns-clause-unique c =
    subst AreUnique c.self.view_is (
    one-index _ (λ x.
    and_from (nat_eq x.unit x.unit) (nat_eq x.line x.line && name_eq x.name x.name) (eq-eqb x.unit x.unit refl) (
    and_from (nat_eq x.line x.line) (name_eq x.name x.name) (eq-eqb x.line x.line refl) (
    name_eq-is x.name x.name ∙ same_name-self x.name))) c.self.inside.sites.keys c.as_slice.ensures.unique)
