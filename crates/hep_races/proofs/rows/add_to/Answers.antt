use Rattle.std.proofs.Common.{◌≡◌, ap, ◌∙◌, map, subst, sym}
use Rattle.std.specs.Option.{option_copied}
use Rattle.std.specs.Map.{values_of}
use Rattle.hep_races.specs.Observed.{row_in}
use Rattle.hep_races.specs.RowTables.{AreUnderSites}
use Rattle.hep_races.proofs.RowEntries.{counted, counted-by, rows-counted, under-counted}
use Rattle.hep_races.proofs.rows.add_to.Goals as goal

pub returns-clause-under : goal.returns-clause-under
returns-clause-under c =
    let es = c.args.rows.now.entries in
    let is : c.insert.new.self.entries ≡ counted c.args.d.now c.args.y.now es =
    counted-by c.args.d.now c.args.y.now es c.insert.new.self.entries c.site_pair-sites.result c.in_ok-row.row (option_copied c.get.result)
    c.site_pair-sites.ensures c.get.ensures.value c.in_ok-row.ensures c.in_ok-insert.ensures.entries in
    subst AreUnderSites (sym is) (under-counted c.args.d.now c.args.y.now es c.requires)

pub returns-clause-added : goal.returns-clause-added
returns-clause-added c =
    let es = c.args.rows.now.entries in
    let is : c.insert.new.self.entries ≡ counted c.args.d.now c.args.y.now es =
    counted-by c.args.d.now c.args.y.now es c.insert.new.self.entries c.site_pair-sites.result c.in_ok-row.row (option_copied c.get.result)
    c.site_pair-sites.ensures c.get.ensures.value c.in_ok-row.ensures c.in_ok-insert.ensures.entries in
    ap (λ ws. map row_in (values_of ws)) is ∙ rows-counted c.args.d.now c.args.y.now es c.requires
