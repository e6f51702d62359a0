-- Worked runs: the races of small programs. Above each program is its source with the numbers of its lines.
use Rattle.std.specs.Prelude.{◌≡◌, ℕ, pos, Bool, true, false, List, [], ◌∷◌, None, Some, refl, map}
use Rattle.hep_source.specs.declared.declaration.Dimension.{Dimension}
use Rattle.hep_source.specs.declared.declaration.UpperBound.TheVariants.{Expression}
use Rattle.hep_source.specs.declared.statement.Form.TheVariants as form
use Rattle.hep_source.specs.declared.value.Value.TheVariants as value
use Rattle.hep_source.specs.declared.declaration.ValueType.TheVariants.{Integer}
use Rattle.hep_machine.specs.declared.event.Entry.{Entry}
use Rattle.hep_machine.specs.Words.{Common, Create, Declarator, Do, End, Form, Location, Name, Occurrence, Purge, Statement, Subroutine}
use Rattle.hep_machine.specs.Words.{Target, Tree, Units, common, constant, local, no_trees, occurrence, opening, parenthesized, run_from}
use Rattle.hep_machine.specs.Words.{schedule_of, step_result_of, trees, with_list}
use Rattle.hep_accesses.specs.Pairs.{pairs_from}
use Rattle.hep_accesses.specs.Races.{StepAccess}
use Rattle.hep_accesses.specs.Accesses.{Site}
use Rattle.hep_accesses.specs.RunEvents.{Row, events_from, events_of, races_of}

-- ---- statements

-- a name of one letter, with `$` or without
abbrev letter : Bool → ℕ → Name
letter b c = record { asynchronous = b; letters = c ∷ 32 ∷ 32 ∷ 32 ∷ 32 ∷ 32 ∷ [] }

-- it in a statement
abbrev at : Bool → ℕ → Occurrence
at b c = record { name = letter b c; position = 0 }

-- the names J, $K, L, M, N, S, T and F
abbrev j-name : Occurrence
j-name = at false 74

abbrev k-name : Occurrence
k-name = at true 75

abbrev l-name : Occurrence
l-name = at false 76

abbrev m-name : Occurrence
m-name = at false 77

abbrev n-name : Occurrence
n-name = at false 78

abbrev s-name : Occurrence
s-name = at false 83

abbrev t-name : Occurrence
t-name = at false 84

abbrev f-name : Occurrence
f-name = at false 70

-- a name of these letters
abbrev word : List ℕ → Occurrence
word letters = record { name = record { asynchronous = false; letters = letters }; position = 0 }

-- a statement of a line
abbrev statement : ℕ → Form → Statement
statement line form = record { line = line; label = None; conditions = []; form = form }

-- one with a label
abbrev labelled : ℕ → ℕ → Form → Statement
labelled line l form = record { line = line; label = Some l; conditions = []; form = form }

-- one after a logical IF
abbrev conditional : ℕ → Tree → Form → Statement
conditional line t form = record { line = line; label = None; conditions = t ∷ []; form = form }

-- a constant
abbrev number : ℕ → Tree
number n = constant (value.Int (pos n))

-- a scalar that is assigned
abbrev target : Occurrence → Target
target p = record { occurrence = p; subscripts = [] }

-- an assignment to it
abbrev assigned : Occurrence → Tree → Form
assigned p t = form.Assign (target p) t

-- a scalar in COMMON
abbrev declared : Occurrence → Declarator
declared p = record { occurrence = p; dimensions = [] }

-- COMMON N,$K
abbrev shared : Form
shared = Common (record { block = None; entries = declared n-name ∷ declared k-name ∷ [] } ∷ [])

-- FULL($K) and WAITF($K)
abbrev full : Tree
full = with_list (word (70 ∷ 85 ∷ 76 ∷ 76 ∷ 32 ∷ 32 ∷ [])) (trees (occurrence k-name) no_trees)

-- WAITF($K)
abbrev waitf : Tree
waitf = with_list (word (87 ∷ 65 ∷ 73 ∷ 84 ∷ 70 ∷ 32 ∷ [])) (trees (occurrence k-name) no_trees)

-- a dimension with this upper bound
abbrev upto : Tree → Dimension
upto t = record { lower = None; upper = Expression t }

-- lines 7 and 8 of a source whose subroutine S has these further statements
abbrev with_subroutine : List Statement → List Statement → Units
with_subroutine main body = main ∷ (statement 7 (Subroutine s-name []) ∷ statement 8 shared ∷ body) ∷ []

-- ---- a race in short: its storage unit; of both accesses the number of the step, from 0, the process, the line, and whether it stores;
-- and how often

-- a row in short
abbrev Short : Type 0
Short = Location × (ℕ × ℕ × ℕ × Bool) × (ℕ × ℕ × ℕ × Bool) × ℕ

-- one of its two accesses
abbrev side : StepAccess Location Site → ℕ × ℕ × ℕ × Bool
side d = (d.step, d.process, d.access.site.line, d.access.stores)

-- the row in short
abbrev short : Row → Short
short r = (r.second.access.at, side r.first, side r.second, r.times)

-- the rows of a run in short
abbrev races : Units → List ℕ → List Short
races program processes = map short (races_of program processes)

-- ---- a DO whose variable is passed to processes

--     1        DO 10 L=1,2
--     2     10 CREATE S(L)
--     3        END
--     4        SUBROUTINE S(J)
--     5        M=J
--     6        END
abbrev forked : Units
forked =
    (statement 1 (Do (record { terminal = 10; variable = l-name; initial = number 1; limit = number 2; increment = None }))
    ∷ labelled 2 10 (Create s-name (occurrence l-name ∷ []))
    ∷ statement 3 End ∷ [])
    ∷ (statement 4 (Subroutine s-name (j-name ∷ [])) ∷ statement 5 (assigned m-name (occurrence j-name)) ∷ statement 6 End ∷ [])
    ∷ []

-- the DO goes on beside the processes: each one's read of L races with the end of its iteration
forking_orders_only_what_precedes_it : races forked (1 ∷ 1 ∷ 2 ∷ 1 ∷ 2 ∷ 1 ∷ 2 ∷ 3 ∷ 1 ∷ 3 ∷ 1 ∷ 3 ∷ [])
    ≡ (local 1 (letter false 76) 1, (2, 2, 5, false), (3, 1, 2, true), 2) ∷ []
unfolding run_from opening step_result_of events_from events_of pairs_from
forking_orders_only_what_precedes_it = refl

-- ---- a DO whose variable's value is passed

-- as above but for
-- 2     10 CREATE S((L))
abbrev forked_by_value : Units
forked_by_value =
    (statement 1 (Do (record { terminal = 10; variable = l-name; initial = number 1; limit = number 2; increment = None }))
    ∷ labelled 2 10 (Create s-name (parenthesized (occurrence l-name) ∷ []))
    ∷ statement 3 End ∷ [])
    ∷ (statement 4 (Subroutine s-name (j-name ∷ [])) ∷ statement 5 (assigned m-name (occurrence j-name)) ∷ statement 6 End ∷ [])
    ∷ []

-- each process has a variable of its own
values_are_not_shared : races forked_by_value (1 ∷ 1 ∷ 1 ∷ 2 ∷ 1 ∷ 2 ∷ 1 ∷ 2 ∷ 1 ∷ 3 ∷ 1 ∷ 3 ∷ 1 ∷ 3 ∷ []) ≡ []
unfolding run_from opening step_result_of events_from events_of pairs_from
values_are_not_shared = refl

-- ---- a value that a full/empty variable hands over

--     1        COMMON N,$K
--     2        CREATE S
--     3        N=1
--     4        $K=1
--     5        END
--     7        SUBROUTINE S
--     8        COMMON N,$K
--     9        J=$K
--     10       M=N
--     11       END
abbrev handed : Units
handed =
    with_subroutine (statement 1 shared ∷ statement 2 (Create s-name []) ∷ statement 3 (assigned n-name (number 1))
    ∷ statement 4 (assigned k-name (number 1)) ∷ statement 5 End ∷ []) (
    statement 9 (assigned j-name (occurrence k-name)) ∷ statement 10 (assigned m-name (occurrence n-name)) ∷ statement 11 End ∷ [])

-- who takes the value comes after the step that filled
handing_over_orders : races handed (1 ∷ 1 ∷ 1 ∷ 2 ∷ 1 ∷ 2 ∷ 2 ∷ 2 ∷ 2 ∷ []) ≡ []
unfolding run_from opening step_result_of events_from events_of pairs_from
handing_over_orders = refl

-- ---- FULL

--     1 to 8 as above
--     9        IF(FULL($K)) M=N
--     10       END
abbrev asked : Units
asked =
    with_subroutine (statement 1 shared ∷ statement 2 (Create s-name []) ∷ statement 3 (assigned n-name (number 1))
    ∷ statement 4 (assigned k-name (number 1)) ∷ statement 5 End ∷ []) (
    conditional 9 full (assigned m-name (occurrence n-name)) ∷ statement 10 End ∷ [])

-- FULL is true, and yet the read of N isn't after its store
asking_orders_nothing : races asked (1 ∷ 1 ∷ 1 ∷ 2 ∷ 2 ∷ 2 ∷ 2 ∷ 2 ∷ 1 ∷ []) ≡ (common None 1, (1, 1, 3, true), (5, 2, 9, false), 1) ∷ []
unfolding run_from opening step_result_of events_from events_of pairs_from
asking_orders_nothing = refl

-- ---- PURGE

--     1        COMMON N,$K
--     2        $K=1
--     3        CREATE S
--     4        N=1
--     5        PURGE $K
--     6        END
--     7        SUBROUTINE S
--     8        COMMON N,$K
--     9        $K=2
--     10       M=N
--     11       END
abbrev purged : Units
purged =
    with_subroutine (statement 1 shared ∷ statement 2 (assigned k-name (number 1)) ∷ statement 3 (Create s-name [])
    ∷ statement 4 (assigned n-name (number 1)) ∷ statement 5 (Purge (target k-name ∷ [])) ∷ statement 6 End ∷ []) (
    statement 9 (assigned k-name (number 2)) ∷ statement 10 (assigned m-name (occurrence n-name)) ∷ statement 11 End ∷ [])

-- a fill needs the storage unit empty, so it comes after the PURGE that emptied it
purging_orders : races purged (1 ∷ 1 ∷ 1 ∷ 1 ∷ 2 ∷ 1 ∷ 2 ∷ 2 ∷ 2 ∷ []) ≡ []
unfolding run_from opening step_result_of events_from events_of pairs_from
purging_orders = refl

-- ---- WAITF

--     1        COMMON N,$K
--     2        CREATE S
--     3        N=WAITF($K)
--     4        END
--     7        SUBROUTINE S
--     8        COMMON N,$K
--     9        $K=1
--     10       J=$K
--     11       N=J
--     12       END
abbrev waited : Units
waited =
    with_subroutine (statement 1 shared ∷ statement 2 (Create s-name []) ∷ statement 3 (assigned n-name waitf) ∷ statement 4 End ∷ []) (
    statement 9 (assigned k-name (number 1)) ∷ statement 10 (assigned j-name (occurrence k-name))
    ∷ statement 11 (assigned n-name (occurrence j-name)) ∷ statement 12 End ∷ [])

-- WAITF comes after the fill; but it changes no state, so the take after it doesn't come after it
waitf_is_before_nothing : races waited (1 ∷ 2 ∷ 1 ∷ 2 ∷ 1 ∷ 2 ∷ 1 ∷ 2 ∷ 2 ∷ 2 ∷ [])
    ≡ (common None 1, (4, 1, 3, true), (8, 2, 11, true), 1) ∷ []
unfolding run_from opening step_result_of events_from events_of pairs_from
waitf_is_before_nothing = refl

-- ---- a turn that finds its process waiting

--     1        COMMON N,$K
--     2        CREATE S
--     3        CREATE T
--     4        N=1
--     5        $K=1
--     6        END
--     7        SUBROUTINE S
--     8        COMMON N,$K
--     9        $K=2
--     10       M=N
--     11       END
--     12       SUBROUTINE T
--     13       COMMON N,$K
--     14       PURGE $K
--     15       END
abbrev interrupted : Units
interrupted =
    (statement 1 shared ∷ statement 2 (Create s-name []) ∷ statement 3 (Create t-name []) ∷ statement 4 (assigned n-name (number 1))
    ∷ statement 5 (assigned k-name (number 1)) ∷ statement 6 End ∷ [])
    ∷ (statement 7 (Subroutine s-name []) ∷ statement 8 shared ∷ statement 9 (assigned k-name (number 2))
    ∷ statement 10 (assigned m-name (occurrence n-name)) ∷ statement 11 End ∷ [])
    ∷ (statement 12 (Subroutine t-name []) ∷ statement 13 shared ∷ statement 14 (Purge (target k-name ∷ [])) ∷ statement 15 End ∷ [])
    ∷ []

-- process 2 waits after the fill, which orders nothing; its own fill comes after the PURGE alone
waiting_is_no_step : races interrupted (1 ∷ 1 ∷ 1 ∷ 1 ∷ 2 ∷ 3 ∷ 2 ∷ 2 ∷ []) ≡ (common None 1, (2, 1, 4, true), (6, 2, 10, false), 1) ∷ []
unfolding run_from opening step_result_of events_from events_of pairs_from
waiting_is_no_step = refl

-- ---- RESUME

--     1        COMMON N,$K
--     2        CALL S
--     3        M=N
--     4        END
--     7        SUBROUTINE S
--     8        COMMON N,$K
--     9        N=1
--     10       RESUME
--     11       N=2
--     12       END
abbrev resumed : Units
resumed =
    with_subroutine (statement 1 shared ∷ statement 2 (form.Call s-name []) ∷ statement 3 (assigned m-name (occurrence n-name))
    ∷ statement 4 End ∷ []) (
    statement 9 (assigned n-name (number 1)) ∷ statement 10 form.Resume ∷ statement 11 (assigned n-name (number 2))
    ∷ statement 12 End ∷ [])

-- what is before RESUME is before both processes; what follows it in one races with the other
resuming_orders : races resumed (1 ∷ 1 ∷ 1 ∷ 2 ∷ 1 ∷ 2 ∷ 1 ∷ 1 ∷ []) ≡ (common None 1, (3, 2, 11, true), (4, 1, 3, false), 1) ∷ []
unfolding run_from opening step_result_of events_from events_of pairs_from
resuming_orders = refl

-- ---- a frame that is taken again

--     1        CREATE S
--     2        CREATE S
--     3        END
--     4        SUBROUTINE S
--     5        J=1
--     6        END
abbrev recreated : Units
recreated =
    (statement 1 (Create s-name []) ∷ statement 2 (Create s-name []) ∷ statement 3 End ∷ [])
    ∷ (statement 4 (Subroutine s-name []) ∷ statement 5 (assigned j-name (number 1)) ∷ statement 6 End ∷ [])
    ∷ []

-- the second frame has the cells of the first one, whose activation has ended; the locations differ
activations_share_no_locals : races recreated (1 ∷ 2 ∷ 2 ∷ 1 ∷ 3 ∷ 3 ∷ 1 ∷ []) ≡ []
unfolding run_from opening step_result_of events_from events_of pairs_from
activations_share_no_locals = refl

-- ---- a bound of an adjustable array

--     1        COMMON N,$K
--     2        DIMENSION L(2)
--     3        N=2
--     4        CREATE T
--     5        CALL S(L)
--     6        END
--     7        SUBROUTINE S(M)
--     8        COMMON N,$K
--     9        DIMENSION M(N)
--     10       END
--     11       SUBROUTINE T
--     12       COMMON N,$K
--     13       N=1
--     14       END
abbrev adjusted : Units
adjusted =
    (statement 1 shared ∷ statement 2 (form.Dimension (record { occurrence = l-name; dimensions = upto (number 2) ∷ [] } ∷ []))
    ∷ statement 3 (assigned n-name (number 2)) ∷ statement 4 (Create t-name []) ∷ statement 5 (form.Call s-name (occurrence l-name ∷ []))
    ∷ statement 6 End ∷ [])
    ∷ (statement 7 (Subroutine s-name (m-name ∷ [])) ∷ statement 8 shared
    ∷ statement 9
    (form.Dimension (record { occurrence = m-name; dimensions = upto (occurrence n-name) ∷ [] } ∷ [])) ∷ statement 10 End ∷ [])
    ∷ (statement 11 (Subroutine t-name []) ∷ statement 12 shared ∷ statement 13 (assigned n-name (number 1)) ∷ statement 14 End ∷ [])
    ∷ []

-- the CALL reads N for the shape of M
calling_reads_bounds : races adjusted (1 ∷ 1 ∷ 2 ∷ 1 ∷ []) ≡ (common None 1, (2, 2, 13, true), (3, 1, 5, false), 1) ∷ []
unfolding run_from opening step_result_of events_from events_of pairs_from
calling_reads_bounds = refl

-- ---- the result of a function

--     1        L=F()
--     2        END
--     3        INTEGER FUNCTION F()
--     4        F=1
--     5        CREATE S(F)
--     6        END
--     7        SUBROUTINE S(J)
--     8        J=2
--     9        END
abbrev passed : Units
passed =
    (statement 1 (assigned l-name (with_list f-name no_trees)) ∷ statement 2 End ∷ [])
    ∷ (statement 3 (form.Function (Some Integer) f-name []) ∷ statement 4 (assigned f-name (number 1))
    ∷ statement 5 (Create s-name (occurrence f-name ∷ [])) ∷ statement 6 End ∷ [])
    ∷ (statement 7 (Subroutine s-name (j-name ∷ [])) ∷ statement 8 (assigned j-name (number 2)) ∷ statement 9 End ∷ [])
    ∷ []

-- END of F reads F, which was passed on
ending_a_function_reads_its_result : races passed (1 ∷ 1 ∷ 1 ∷ 2 ∷ 1 ∷ [])
    ≡ (local 2 (letter false 70) 1, (3, 2, 8, true), (4, 1, 6, false), 1) ∷ []
unfolding run_from opening step_result_of events_from events_of pairs_from
ending_a_function_reads_its_result = refl

-- ---- the end of an iteration

--     1        COMMON N,$K
--     2        DO 10 N=n,n
--     3     10 CREATE S
--     4        END
--     7        SUBROUTINE S
--     8        COMMON N,$K
--     9        M=N
--     10       END
abbrev counted : ℕ → Units
counted n =
    with_subroutine (
    statement 1 shared
    ∷ statement 2 (Do (record { terminal = 10; variable = n-name; initial = number n; limit = number n; increment = None }))
    ∷ labelled 3 10 (Create s-name [])
    ∷ statement 4 End ∷ []) (statement 9 (assigned m-name (occurrence n-name)) ∷ statement 10 End ∷ [])

-- N becomes 2
ending_an_iteration_stores : races (counted 1) (1 ∷ 1 ∷ 2 ∷ 1 ∷ []) ≡ (common None 1, (2, 2, 9, false), (3, 1, 3, true), 1) ∷ []
unfolding run_from opening step_result_of events_from events_of pairs_from
ending_an_iteration_stores = refl

-- N can't become 2**63: the end is the fault OVERFLOW, and reads alone
overflow_stores_nothing : races (counted 9223372036854775807) (1 ∷ 1 ∷ 2 ∷ 1 ∷ []) ≡ []
unfolding run_from opening step_result_of events_from events_of pairs_from
overflow_stores_nothing = refl

-- ---- an entry of several steps

--     1        COMMON N,$K
--     2        CREATE S
--     3        $K=1
--     4        N=1
--     5        END
--     7        SUBROUTINE S
--     8        COMMON N,$K
--     9        J=$K
--     10       M=N
--     11       END
abbrev filled : Units
filled =
    with_subroutine (statement 1 shared ∷ statement 2 (Create s-name []) ∷ statement 3 (assigned k-name (number 1))
    ∷ statement 4 (assigned n-name (number 1)) ∷ statement 5 End ∷ []) (
    statement 9 (assigned j-name (occurrence k-name)) ∷ statement 10 (assigned m-name (occurrence n-name)) ∷ statement 11 End ∷ [])

-- process p makes n steps
abbrev entry : ℕ → ℕ → Entry
entry p n = record { process = p; steps = n }

-- the store of N follows the fill in the same entry, so the take isn't after it
filling_orders_only_what_precedes_it : races filled (schedule_of (entry 1 1 ∷ entry 1 2 ∷ entry 2 3 ∷ []))
    ≡ (common None 1, (2, 1, 4, true), (5, 2, 10, false), 1) ∷ []
unfolding run_from opening step_result_of events_from events_of pairs_from schedule_of
filling_orders_only_what_precedes_it = refl
