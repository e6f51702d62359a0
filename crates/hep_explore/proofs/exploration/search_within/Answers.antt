use Rattle.std.proofs.Common.{◌∙◌, inl, inr, arith, false, sym, true, true≢false}
use Rattle.hep_explore.specs.Searching.{known_of}
use Rattle.hep_explore.proofs.NoOther.{done_by}
use Rattle.hep_explore.proofs.exploration.search_within.Goals as goal

pub search_in-requires : goal.search_in-requires
search_in-requires g c = (omega arith, omega arith, sym c.fits.ensures ∙ c.if-fits.true)

pub returns-then-not-is_full : goal.returns-then-not-is_full
returns-then-not-is_full g c =
    let is = c.in_ok-search.ensures in
    let s = known_of c.in_ok-search.search in
    let none = c.is_full.ensures.none c.if-not-is_full.true in
    record {
      search = is.search;
      expanded = is.expanded;
      within = omega (arith, is.same.0);
      done = done_by true s (λ yes. none) is.done;
      full = inl none;
      bounded = is.same.1;
    }

pub returns : goal.returns
returns g c =
    let is = c.in_ok-search_in.ensures in
    let s = known_of c.in_ok-search_in.field-0 in
    record {
      search = is.search;
      expanded = is.expanded;
      within = omega (arith, is.same.0);
      done = done_by false s (λ yes. absurd (true≢false (sym yes))) is.done;
      full = inr is.same.0;
      bounded = is.same.1;
    }
