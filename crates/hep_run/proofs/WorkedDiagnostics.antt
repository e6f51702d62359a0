-- Computed examples of what `check --format` writes.
use Rattle.std.proofs.Common.{◌≡◌, ◌++◌, None, Some, codes, refl}
use Rattle.std.specs.Fmt.{digits}
use Rattle.hep_formats.specs.Strings.{json_string}
use Rattle.hep_run.specs.Diagnostics.{error_text, warning_text}
use Rattle.hep_run.specs.declared.options.DiagnosticFormat.TheVariants.{Gnu, Json}
use Rattle.hep_warnings.specs.declared.warning.WarningKind.TheVariants.{Behind}

-- a label that isn't there, in column 7 of line 3
as_a_line : error_text Gnu (codes "area.f") 306 3 (codes "10") (Some (record { line = 3; column = 7 }))
    ≡ codes "area.f:3:7: error: 306 10: a label that isn't there, or is there twice\n"
unfolding digits
as_a_line = refl

as_an_object : error_text Json (codes "area.f") 306 3 (codes "10") (Some (record { line = 3; column = 7 }))
    ≡ codes "{\"file\":\"area.f\",\"line\":3,\"column\":7,\"severity\":\"error\",\"number\":306,"
    ++ codes "\"message\":\"10: a label that isn't there, or is there twice\"}\n"
unfolding digits json_string
as_an_object = refl

-- a source as a whole, in a file whose name has a quote
of_the_whole : error_text Json (codes "a\"b.f") 204 0 (codes "") None
    ≡ codes "{\"file\":\"a\\\"b.f\",\"severity\":\"error\",\"number\":204,\"message\":\"there is no main program\"}\n"
unfolding digits json_string
of_the_whole = refl

-- a character after column 72
as_a_warning : warning_text Json (codes "area.f") (record { line = 12; kind = Behind })
    ≡ codes "{\"file\":\"area.f\",\"line\":12,\"severity\":\"warning\",\"message\":\"BEHIND COLUMN 72\"}\n"
unfolding digits json_string
as_a_warning = refl
