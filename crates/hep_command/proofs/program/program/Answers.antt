use Rattle.std.proofs.Common.{◌≡◌, ◌∙◌, ap, true}
use Rattle.clap.specs.Simple.{app_of_fields}
use Rattle.clap.specs.Words.{App, app_of}
use Rattle.hep_command.specs.Program.{bare_program, looking, named_program, running, with_apps}
use Rattle.hep_command.proofs.program.program.Goals as goal

-- with a version
abbrev versioned : App → App
versioned app = record app { top = record app.top { has_version = true } }

pub returns : goal.returns
returns c =
    let named : app_of c.about-bare.result ≡ named_program =
    ap app_of_fields c.about-bare.ensures ∙ ap app_of_fields c.version.ensures ∙ ap versioned c.new.ensures.app in
    c.with_saying.ensures (with_apps (with_apps bare_program running) looking)
    (c.with_looking.ensures (with_apps bare_program running) (c.with_running-running.ensures bare_program (c.with_words.ensures named_program named)))
