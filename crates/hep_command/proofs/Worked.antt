-- What the words for numbers, jobs and names say, row by row.
use Rattle.std.proofs.Common.{◌≡◌, ◌∷◌, [], ℕ, Some, None, false, refl, true, codes}
use Rattle.clap.proofs.OnLiterals.{clap_on_literals}
use Rattle.hep_command.specs.Asked.{Viewed, check, cover, diff, explain, explore, heard, page, races, replay, run, sample, standard, state, trace, why}
use Rattle.hep_command.specs.declared.job.CheckForm.TheVariants.{Lines, Gnu, Json}
use Rattle.hep_command.specs.declared.job.TraceForm.TheVariants.{Lines as TraceLines, Lanes, Json as TraceJson}
use Rattle.hep_command.specs.declared.job.ColorWhen.TheVariants.{Auto, Never}
use Rattle.hep_command.specs.declared.job.PageForm.TheVariants.{Html, Svg}
use Rattle.hep_command.specs.Explanations.{is_explained, name_of}
use Rattle.hep_command.specs.Numbers.{number_within}
use Rattle.hep_command.specs.Program.{asked, color, histories, is_long}

least : number_within 1 16777216 (codes "1") ≡ Some 1
least = refl

greatest : number_within 1 16777216 (codes "16777216") ≡ Some 16777216
greatest = refl

greatest_steps : number_within 1 4294967296 (codes "4294967296") ≡ Some 4294967296
greatest_steps = refl

zeros_in_front : number_within 1 16777216 (codes "007") ≡ Some 7
zeros_in_front = refl

plus : number_within 1 16777216 (codes "+5") ≡ Some 5
plus = refl

zero_number : number_within 1 16777216 (codes "0") ≡ None
zero_number = refl

one_too_large : number_within 1 16777216 (codes "16777217") ≡ None
one_too_large = refl

empty : number_within 1 16777216 (codes "") ≡ None
empty = refl

minus : number_within 1 16777216 (codes "-5") ≡ None
minus = refl

plus_alone : number_within 1 16777216 (codes "+") ≡ None
plus_alone = refl

letter : number_within 1 16777216 (codes "1a") ≡ None
letter = refl

no_word : asked (codes "hepf" ∷ []) ≡ Some standard
unfolding asked clap_on_literals
no_word = refl

run_with_all : asked (codes "hepf" ∷ codes "run" ∷ codes "--history" ∷ codes "h" ∷ codes "a.f" ∷ codes "--steps=4294967296"
    ∷ codes "--choices" ∷ codes "c" ∷ codes "--arena" ∷ codes "9" ∷ [])
    ≡ Some (run (codes "a.f") 9 4294967296 None None (Some (codes "c")) None (Some (codes "h")))
unfolding asked clap_on_literals
run_with_all = refl

run_by_workers : asked (codes "hepf" ∷ codes "run" ∷ codes "a.f" ∷ codes "--workers" ∷ codes "16" ∷ [])
    ≡ Some (run (codes "a.f") 65536 10000000 (Some 16) None None None None)
unfolding asked clap_on_literals
run_by_workers = refl

run_by_lots : asked (codes "hepf" ∷ codes "run" ∷ codes "a.f" ∷ codes "--seed" ∷ codes "7" ∷ [])
    ≡ Some (run (codes "a.f") 65536 10000000 None (Some 7) None None None)
unfolding asked clap_on_literals
run_by_lots = refl

run_behind_a_history : asked (codes "hepf" ∷ codes "run" ∷ codes "-" ∷ codes "--follow" ∷ codes "h" ∷ [])
    ≡ Some (run (codes "-") 65536 10000000 None None None (Some (codes "h")) None)
unfolding asked clap_on_literals
run_behind_a_history = refl

sample_with_defaults : asked (codes "hepf" ∷ codes "sample" ∷ codes "a.f" ∷ [])
    ≡ Some (sample (codes "a.f") 100 1 65536 10000000 None false false)
unfolding asked clap_on_literals
sample_with_defaults = refl

sample_with_all : asked (codes "hepf" ∷ codes "sample" ∷ codes "--runs" ∷ codes "9" ∷ codes "a.f" ∷ codes "--keep" ∷ codes "k" ∷ codes "--seed=4"
    ∷ codes "--progress" ∷ codes "--format=json" ∷ [])
    ≡ Some (sample (codes "a.f") 9 4 65536 10000000 (Some (codes "k")) true true)
unfolding asked clap_on_literals
sample_with_all = refl

explore_with_defaults : asked (codes "hepf" ∷ codes "explore" ∷ codes "a.f" ∷ []) ≡ Some (explore (codes "a.f") 1000000 65536 None false false None)
unfolding asked clap_on_literals
explore_with_defaults = refl

explore_with_all : asked (codes "hepf" ∷ codes "explore" ∷ codes "--states" ∷ codes "16777216" ∷ codes "a.f" ∷ codes "--arena=9" ∷ codes "--keep=k"
    ∷ codes "--expect-status" ∷ codes "0" ∷ codes "--expect-one" ∷ codes "--progress" ∷ [])
    ≡ Some (explore (codes "a.f") 16777216 9 (Some (codes "k")) true true (Some 0))
unfolding asked clap_on_literals
explore_with_all = refl

-- no outcome has this status
expected_ten : asked (codes "hepf" ∷ codes "explore" ∷ codes "a.f" ∷ codes "--expect-status=10" ∷ []) ≡ None
unfolding asked clap_on_literals
expected_ten = refl

-- the run of the history h, in an arena of so many cells
abbrev of_h : ℕ → Viewed
of_h cells = record { history = Some (codes "h"); choices = None; seed = None; arena = cells; steps = 10000000 }

-- the serial run
abbrev serial : Viewed
serial = record { history = None; choices = None; seed = None; arena = 65536; steps = 10000000 }

state_at : asked (codes "hepf" ∷ codes "state" ∷ codes "a.f" ∷ codes "h" ∷ codes "--at" ∷ codes "0" ∷ [])
    ≡ Some (state (codes "a.f") (of_h 65536) (Some 0) false)
unfolding asked clap_on_literals
state_at = refl

state_of_all : asked (codes "hepf" ∷ codes "state" ∷ codes "a.f" ∷ codes "h" ∷ codes "--arena" ∷ codes "9" ∷ [])
    ≡ Some (state (codes "a.f") (of_h 9) None false)
unfolding asked clap_on_literals
state_of_all = refl

state_by_choices : asked (codes "hepf" ∷ codes "state" ∷ codes "a.f" ∷ codes "--choices" ∷ codes "c" ∷ codes "--steps=9" ∷ [])
    ≡ Some (state (codes "a.f") (record serial { choices = Some (codes "c"); steps = 9 }) None false)
unfolding asked clap_on_literals
state_by_choices = refl

state_as_objects : asked (codes "hepf" ∷ codes "state" ∷ codes "a.f" ∷ codes "--format=json" ∷ [])
    ≡ Some (state (codes "a.f") serial None true)
unfolding asked clap_on_literals
state_as_objects = refl

trace_of_all : asked (codes "hepf" ∷ codes "trace" ∷ codes "a.f" ∷ codes "h" ∷ [])
    ≡ Some (trace (codes "a.f") (of_h 65536) None None None None TraceLines)
unfolding asked clap_on_literals
trace_of_all = refl

trace_by_lots : asked (codes "hepf" ∷ codes "trace" ∷ codes "a.f" ∷ codes "--seed" ∷ codes "9" ∷ codes "--cell" ∷ codes "N" ∷ [])
    ≡ Some (trace (codes "a.f") (record serial { seed = Some 9 }) None None None (Some (codes "N")) TraceLines)
unfolding asked clap_on_literals
trace_by_lots = refl

trace_with_all : asked (codes "hepf" ∷ codes "trace" ∷ codes "a.f" ∷ codes "--from=2" ∷ codes "h" ∷ codes "--to" ∷ codes "9" ∷ codes "--process=3"
    ∷ codes "--cell" ∷ codes "$X" ∷ codes "--arena" ∷ codes "7" ∷ [])
    ≡ Some (trace (codes "a.f") (of_h 7) (Some 2) (Some 9) (Some 3) (Some (codes "$X")) TraceLines)
unfolding asked clap_on_literals
trace_with_all = refl

trace_as_lanes : asked (codes "hepf" ∷ codes "trace" ∷ codes "a.f" ∷ codes "--lanes" ∷ []) ≡ Some (trace (codes "a.f") serial None None None None (Lanes 80))
unfolding asked clap_on_literals
trace_as_lanes = refl

trace_as_wide_lanes : asked (codes "hepf" ∷ codes "trace" ∷ codes "a.f" ∷ codes "--width=400" ∷ codes "--lanes" ∷ [])
    ≡ Some (trace (codes "a.f") serial None None None None (Lanes 400))
unfolding asked clap_on_literals
trace_as_wide_lanes = refl

trace_as_objects : asked (codes "hepf" ∷ codes "trace" ∷ codes "a.f" ∷ codes "--format=json" ∷ [])
    ≡ Some (trace (codes "a.f") serial None None None None TraceJson)
unfolding asked clap_on_literals
trace_as_objects = refl

-- no lanes have this width
width_alone : asked (codes "hepf" ∷ codes "trace" ∷ codes "a.f" ∷ codes "--width=80" ∷ []) ≡ None
unfolding asked clap_on_literals
width_alone = refl

lanes_as_objects : asked (codes "hepf" ∷ codes "trace" ∷ codes "a.f" ∷ codes "--lanes" ∷ codes "--format=json" ∷ []) ≡ None
unfolding asked clap_on_literals
lanes_as_objects = refl

page_alone : asked (codes "hepf" ∷ codes "page" ∷ codes "a.f" ∷ codes "--seed=9" ∷ codes "a.html" ∷ [])
    ≡ Some (page Html (codes "a.f") (record serial { seed = Some 9 }) None None (codes "a.html"))
unfolding asked clap_on_literals
page_alone = refl

page_of_history : asked (codes "hepf" ∷ codes "page" ∷ codes "a.f" ∷ codes "h" ∷ codes "a.html" ∷ codes "--arena=9" ∷ [])
    ≡ Some (page Html (codes "a.f") (of_h 9) None None (codes "a.html"))
unfolding asked clap_on_literals
page_of_history = refl

page_of_some : asked (codes "hepf" ∷ codes "page" ∷ codes "a.f" ∷ codes "a.html" ∷ codes "--from=2" ∷ codes "--to" ∷ codes "9" ∷ [])
    ≡ Some (page Html (codes "a.f") serial (Some 2) (Some 9) (codes "a.html"))
unfolding asked clap_on_literals
page_of_some = refl

picture_of_history : asked (codes "hepf" ∷ codes "picture" ∷ codes "a.f" ∷ codes "h" ∷ codes "a.svg" ∷ [])
    ≡ Some (page Svg (codes "a.f") (of_h 65536) None None (codes "a.svg"))
unfolding asked clap_on_literals
picture_of_history = refl

why_with_arena : asked (codes "hepf" ∷ codes "why" ∷ codes "a.f" ∷ codes "h" ∷ codes "--arena=9" ∷ [])
    ≡ Some (why (codes "a.f") (of_h 9) false)
unfolding asked clap_on_literals
why_with_arena = refl

races_alone : asked (codes "hepf" ∷ codes "races" ∷ codes "a.f" ∷ []) ≡ Some (races (codes "a.f") serial)
unfolding asked clap_on_literals
races_alone = refl

races_of_history : asked (codes "hepf" ∷ codes "races" ∷ codes "a.f" ∷ codes "h" ∷ codes "--arena=9" ∷ [])
    ≡ Some (races (codes "a.f") (of_h 9))
unfolding asked clap_on_literals
races_of_history = refl

why_alone : asked (codes "hepf" ∷ codes "why" ∷ codes "a.f" ∷ []) ≡ Some (why (codes "a.f") serial false)
unfolding asked clap_on_literals
why_alone = refl

why_as_objects : asked (codes "hepf" ∷ codes "why" ∷ codes "--format" ∷ codes "json" ∷ codes "a.f" ∷ [])
    ≡ Some (why (codes "a.f") serial true)
unfolding asked clap_on_literals
why_as_objects = refl

cover_two : asked (codes "hepf" ∷ codes "cover" ∷ codes "a.f" ∷ codes "h" ∷ codes "--arena=9" ∷ codes "g" ∷ []) ≡ Some (cover (codes "a.f") (of_h 9) None false)
unfolding asked clap_on_literals
cover_two = refl

cover_by_lots : asked (codes "hepf" ∷ codes "cover" ∷ codes "a.f" ∷ codes "--runs" ∷ codes "100" ∷ [])
    ≡ Some (cover (codes "a.f") serial (Some 100) false)
unfolding asked clap_on_literals
cover_by_lots = refl

cover_as_tracefile : asked (codes "hepf" ∷ codes "cover" ∷ codes "--format" ∷ codes "lcov" ∷ codes "a.f" ∷ []) ≡ Some (cover (codes "a.f") serial None true)
unfolding asked clap_on_literals
cover_as_tracefile = refl

histories_of_two : histories (codes "hepf" ∷ codes "cover" ∷ codes "a.f" ∷ codes "g" ∷ codes "--arena=9" ∷ codes "h" ∷ []) ≡ codes "g" ∷ codes "h" ∷ []
unfolding histories clap_on_literals
histories_of_two = refl

-- a history may be left out
none_of_cover : histories (codes "hepf" ∷ codes "cover" ∷ codes "a.f" ∷ []) ≡ []
unfolding histories clap_on_literals
none_of_cover = refl

no_histories : histories (codes "hepf" ∷ codes "replay" ∷ codes "a.f" ∷ codes "h" ∷ []) ≡ []
unfolding histories clap_on_literals
no_histories = refl

diff_with_arena : asked (codes "hepf" ∷ codes "diff" ∷ codes "a.f" ∷ codes "h" ∷ codes "--arena=9" ∷ codes "g" ∷ [])
    ≡ Some (diff (codes "a.f") (of_h 9) (Some (codes "g")) None)
unfolding asked clap_on_literals
diff_with_arena = refl

diff_by_lots : asked (codes "hepf" ∷ codes "diff" ∷ codes "a.f" ∷ codes "--seed" ∷ codes "4" ∷ codes "--seed" ∷ codes "9" ∷ [])
    ≡ Some (diff (codes "a.f") (record serial { seed = Some 4 }) None (Some 9))
unfolding asked clap_on_literals
diff_by_lots = refl

diff_by_three_lots : asked (codes "hepf" ∷ codes "diff" ∷ codes "a.f" ∷ codes "--seed=4" ∷ codes "--seed=9" ∷ codes "--seed=5" ∷ []) ≡ None
unfolding asked clap_on_literals
diff_by_three_lots = refl

replay_with_defaults : asked (codes "hepf" ∷ codes "replay" ∷ codes "a.f" ∷ codes "h" ∷ [])
    ≡ Some (replay (codes "a.f") (codes "h") 65536)
unfolding asked clap_on_literals
replay_with_defaults = refl

explain_by_words : asked (codes "hepf" ∷ codes "explain" ∷ codes "arena" ∷ codes "Full" ∷ [])
    ≡ Some (explain (codes "arena") (Some (codes "Full")) None)
unfolding asked clap_on_literals
explain_by_words = refl

explain_alone : asked (codes "hepf" ∷ codes "explain" ∷ []) ≡ Some (explain (codes "WORDS") None None)
unfolding asked clap_on_literals
explain_alone = refl

long_before : is_long (codes "hepf" ∷ codes "--long" ∷ codes "check" ∷ codes "a.f" ∷ []) ≡ true
unfolding is_long clap_on_literals
long_before = refl

long_behind : is_long (codes "hepf" ∷ codes "check" ∷ codes "a.f" ∷ codes "--long" ∷ []) ≡ true
unfolding is_long clap_on_literals
long_behind = refl

-- a word behind `--` is no option
no_long : is_long (codes "hepf" ∷ codes "check" ∷ codes "--" ∷ codes "--long" ∷ []) ≡ false
unfolding is_long clap_on_literals
no_long = refl

check_long : asked (codes "hepf" ∷ codes "--long" ∷ codes "check" ∷ codes "a.f" ∷ []) ≡ Some (check (codes "a.f") false Lines)
unfolding asked clap_on_literals
check_long = refl

check_warn : asked (codes "hepf" ∷ codes "check" ∷ codes "--warn" ∷ codes "a.f" ∷ []) ≡ Some (check (codes "a.f") true Lines)
unfolding asked clap_on_literals
check_warn = refl

check_warn_long : asked (codes "hepf" ∷ codes "--long" ∷ codes "check" ∷ codes "a.f" ∷ codes "--warn" ∷ []) ≡ Some (check (codes "a.f") true Lines)
unfolding asked clap_on_literals
check_warn_long = refl

check_for_editors : asked (codes "hepf" ∷ codes "check" ∷ codes "a.f" ∷ codes "--warn" ∷ codes "--format=gnu" ∷ [])
    ≡ Some (check (codes "a.f") true Gnu)
unfolding asked clap_on_literals
check_for_editors = refl

check_as_objects : asked (codes "hepf" ∷ codes "check" ∷ codes "--format" ∷ codes "json" ∷ codes "a.f" ∷ []) ≡ Some (check (codes "a.f") false Json)
unfolding asked clap_on_literals
check_as_objects = refl

-- the format of another command
check_as_tracefile : asked (codes "hepf" ∷ codes "check" ∷ codes "a.f" ∷ codes "--format=lcov" ∷ []) ≡ None
unfolding asked clap_on_literals
check_as_tracefile = refl

color_never : color (codes "hepf" ∷ codes "check" ∷ codes "a.f" ∷ codes "--color=never" ∷ []) ≡ Never
unfolding color clap_on_literals
color_never = refl

no_color_said : color (codes "hepf" ∷ codes "check" ∷ codes "a.f" ∷ []) ≡ Auto
unfolding color clap_on_literals
no_color_said = refl

-- no colors are of this name
unknown_color : asked (codes "hepf" ∷ codes "check" ∷ codes "a.f" ∷ codes "--color=red" ∷ []) ≡ None
unfolding asked clap_on_literals
unknown_color = refl

long_behind_warn : is_long (codes "hepf" ∷ codes "check" ∷ codes "--warn" ∷ codes "--long" ∷ codes "a.f" ∷ []) ≡ true
unfolding is_long clap_on_literals
long_behind_warn = refl

help_of_help : heard (codes "hepf" ∷ codes "help" ∷ codes "--help" ∷ []) ≡ codes "hepf" ∷ codes "help" ∷ []
help_of_help = refl

long_help_of_help : heard (codes "hepf" ∷ codes "--long" ∷ codes "help" ∷ codes "-h" ∷ []) ≡ codes "hepf" ∷ codes "--long" ∷ codes "help" ∷ []
long_help_of_help = refl

version : heard (codes "hepf" ∷ codes "version" ∷ []) ≡ codes "hepf" ∷ codes "--version" ∷ []
version = refl

long_version : heard (codes "hepf" ∷ codes "--long" ∷ codes "version" ∷ []) ≡ codes "hepf" ∷ codes "--version" ∷ []
long_version = refl

-- a file of this name
run_of_version : heard (codes "hepf" ∷ codes "run" ∷ codes "version" ∷ []) ≡ codes "hepf" ∷ codes "run" ∷ codes "version" ∷ []
run_of_version = refl

joined : name_of (codes "arena") (Some (codes "Full")) None ≡ codes "ARENA FULL"
joined = refl

explained_stop : is_explained (codes "ARENA FULL") ≡ true
explained_stop = refl

explained_refusal : is_explained (codes "+0304") ≡ true
explained_refusal = refl

no_status : is_explained (codes "STATUS 11") ≡ false
no_status = refl

explained_status : is_explained (codes "70") ≡ true
explained_status = refl

explained_race : is_explained (codes "RACE") ≡ true
explained_race = refl

explained_expectation : is_explained (codes "EXPECTED") ≡ true
explained_expectation = refl

explained_words : is_explained (codes "WORDS") ≡ true
explained_words = refl

no_number : is_explained (codes "71") ≡ false
no_number = refl
