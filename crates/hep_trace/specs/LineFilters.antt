-- The lines that are shown: docs/RUNS.md, "What each step did".
use Rattle.hep_trace.specs.Observations.{name_sought}
use Rattle.hep_event.specs.Traces.{LineSelection}
use Rattle.hep_trace.specs.declared.line_filter.LineFilter.{LineFilter}

abbrev pub shown_on : LineFilter → LineSelection
shown_on page = record { first = page.first; last = page.last; process = page.process; cell = name_sought page.cell }
