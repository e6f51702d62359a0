-- Worked rows: what is read from the lines of a trace, and lanes and events of small runs.
use Rattle.std.proofs.Common.{◌≡◌, ℕ, List, [], ◌++◌, codes, false, true, refl}
use Rattle.std.specs.Fmt.{digits}
use Rattle.hep_formats.specs.Strings.{json_string}
use Rattle.hep_formats.specs.Lanes.{lanes_of, shown_cells}
use Rattle.hep_formats.specs.ShortActions.{short_action}
use Rattle.hep_formats.specs.TraceEvents.{events_of, state_after, state_of, turn_events, unit_args, with_state}
use Rattle.hep_formats.specs.TraceLines.{action_of, is_listed, woken_by}
use Rattle.hep_formats.specs.TurnMarks.{mark_of}
use Rattle.hep_formats.specs.declared.turn_mark.TurnKind.TheVariants.{Create, End, Other, Print, Take}

-- ---- lines

a_take : mark_of (codes "4 PROCESS 2 SWAP LINE 16 take $X = 1 [$A OF 1]") ≡ record { process = 2; kind = Take; created = 0 }
a_take = refl

a_create : mark_of (codes "3 PROCESS 1 DEADLK LINE 7 creates 2 SWAP as 2") ≡ record { process = 1; kind = Create; created = 2 }
a_create = refl

a_resume : mark_of (codes "9 PROCESS 1 MAIN LINE 7 resumes as 12") ≡ record { process = 1; kind = Create; created = 12 }
a_resume = refl

-- a word ends at a comma too
an_end : mark_of (codes "49 PROCESS 2 ADD LINE 18 ends, frame of 2 given back") ≡ record { process = 2; kind = End; created = 0 }
an_end = refl

-- whatever is printed
a_print : mark_of (codes "8 PROCESS 1 MAIN LINE 7 print 'creates 9</svg>'") ≡ record { process = 1; kind = Print; created = 0 }
a_print = refl

no_line : mark_of [] ≡ record { process = 0; kind = Other; created = 0 }
no_line = refl

effects : action_of (codes "3 PROCESS 2 S LINE 7 fill $X(1,2) = 3 [$A#1 OF 1], wakes 1, 12, frame of 4 given back")
    ≡ codes "fill $X(1,2) = 3 [$A#1 OF 1]"
effects = refl

woken : woken_by (codes "3 PROCESS 2 S LINE 7 fill $X = 3 [$A OF 1], wakes 1, 12, frame of 4 given back") ≡ codes "1, 12, "
woken = refl

-- a record wakes nobody, whatever it says
woken_by_no_record : woken_by (codes "3 PROCESS 2 S LINE 7 print A, wakes 1") ≡ []
woken_by_no_record = refl

a_second_one : is_listed 12 (codes "1, 12, ") ≡ true
a_second_one = refl

no_part_of_one : is_listed 2 (codes "1, 12, ") ≡ false
no_part_of_one = refl

-- ---- in few words

a_short_take : short_action (codes "take $X(1,2) = -3 [$A#1 OF 1]") ≡ codes "$X(1,2) -> -3"
a_short_take = refl

a_short_loop : short_action (codes "begin DO I = 1") ≡ codes "I <- 1"
a_short_loop = refl

a_short_sum : short_action (codes "add 3 + 2 = 5") ≡ codes "3+2=5"
a_short_sum = refl

a_short_wait : short_action (codes "waits FOR FULL $A OF 1") ≡ codes "FULL $A"
a_short_wait = refl

a_short_record : short_action (codes "print N = 4") ≡ codes "\"N = 4\""
a_short_record = refl

-- ---- a run

-- process 1 creates process 2, which wakes it, and is still waiting in the end
abbrev trace : List ℕ
trace =
    codes "1 PROCESS 1 MAIN LINE 2 creates 2 S as 2\n2 PROCESS 1 MAIN LINE 3 waits FOR FULL $A OF 1\n"
    ++ codes "3 PROCESS 2 S LINE 7 fill $X = 3 [$A OF 1], wakes 1\n3 PROCESS 2 S LINE 8 ends\n"
    ++ codes "4 PROCESS 1 MAIN LINE 3 waits FOR FULL $B OF 1\n"

lanes : lanes_of 44 trace
    ≡ codes " entry 1 MAIN            2 S\n     1 2 CREATE 2        *\n     2 3 FULL $A         |\n     3 <                 7 $X <- 3\n"
    ++ codes "     3 |                 8 ends\n     4 3 FULL $B\n       PROCESS 1 MAIN LINE 3 waits FOR FULL $B OF 1\n"
unfolding digits shown_cells
lanes = refl

-- only one lane fits
few_lanes : lanes_of 25 (codes "1 PROCESS 1 MAIN LINE 2 creates 2 S as 2\n2 PROCESS 2 S LINE 7 purge $X\n")
    ≡ codes " entry 1 MAIN           ~\n     1 2 CREATE 2\n     2 |                ~\n"
unfolding digits shown_cells
few_lanes = refl

-- a call begins an activation and a return ends it, and the one that is open in the end ends there
events : events_of (codes "1 PROCESS 1 M LINE 2 calls F as 2\n1 PROCESS 1 F LINE 7 returns F = 4\n")
    ≡ codes "{\"traceEvents\":[\n{\"ph\":\"M\",\"pid\":1,\"name\":\"process_name\",\"args\":{\"name\":\"hepf\"}},\n"
    ++ codes "{\"ph\":\"M\",\"pid\":1,\"tid\":1,\"name\":\"thread_name\",\"args\":{\"name\":\"M\"}},\n"
    ++ codes "{\"ph\":\"B\",\"pid\":1,\"tid\":1,\"ts\":0,\"name\":\"M\"},\n"
    ++ codes "{\"ph\":\"X\",\"pid\":1,\"tid\":1,\"ts\":0,\"dur\":1,\"cat\":\"calls\",\"name\":\"calls F as 2\","
    ++ codes "\"args\":{\"entry\":1,\"unit\":\"M\",\"line\":2}},\n"
    ++ codes "{\"ph\":\"B\",\"pid\":1,\"tid\":1,\"ts\":1,\"name\":\"F\"},\n"
    ++ codes "{\"ph\":\"X\",\"pid\":1,\"tid\":1,\"ts\":1,\"dur\":1,\"cat\":\"returns\",\"name\":\"returns F = 4\","
    ++ codes "\"args\":{\"entry\":1,\"unit\":\"F\",\"line\":7}},\n"
    ++ codes "{\"ph\":\"E\",\"pid\":1,\"tid\":1,\"ts\":2},\n{\"ph\":\"E\",\"pid\":1,\"tid\":1,\"ts\":2}\n],\"displayTimeUnit\":\"ns\"}\n"
unfolding digits json_string turn_events state_after state_of with_state unit_args
events = refl
