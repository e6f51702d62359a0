-- The template of a page, and the texts of a run between its pieces: docs/page/README.md.
use Rattle.std.specs.Prelude.{ℕ, List, ◌++◌}
use Rattle.hep_page.specs.Html.{html}
use Rattle.hep_page.specs.declared.page.Template.{Template}
use Rattle.hep_page.specs.declared.page.Texts.{Texts}
use Rattle.hep_page.specs.declared.template.TheConstants.{BEFORE_CHANGES, BEFORE_OPENING, BEFORE_SOURCE, BEFORE_TRACE, END}

pub record TemplatePieces : Type 0 where
  pub before_source : List ℕ
  pub before_opening : List ℕ
  pub before_trace : List ℕ
  pub before_changes : List ℕ
  pub rest : List ℕ

abbrev pub pieces_of : Template → TemplatePieces
pieces_of template = record {
  before_source = template.before_source.now;
  before_opening = template.before_opening.now;
  before_trace = template.before_trace.now;
  before_changes = template.before_changes.now;
  rest = template.rest.now;
}

-- the template of docs/page, as docs/page/pieces.py writes it
unfoldable pub template_pieces : TemplatePieces
template_pieces = record {
  before_source = BEFORE_SOURCE.now;
  before_opening = BEFORE_OPENING.now;
  before_trace = BEFORE_TRACE.now;
  before_changes = BEFORE_CHANGES.now;
  rest = END.now;
}

-- the source, what everything holds before the first entry, what each turn does, and what it changes
pub record RunTexts : Type 0 where
  pub source : List ℕ
  pub opening : List ℕ
  pub trace : List ℕ
  pub changes : List ℕ

abbrev pub texts_of : Texts → RunTexts
texts_of texts = record { source = texts.source.now; opening = texts.opening.now; trace = texts.trace.now; changes = texts.changes.now }

abbrev pub page_with : TemplatePieces → RunTexts → List ℕ
page_with template texts =
    template.before_source ++ html texts.source
    ++ template.before_opening ++ html texts.opening
    ++ template.before_trace ++ html texts.trace
    ++ template.before_changes ++ html texts.changes
    ++ template.rest
