-- Worked rows: texts with marks.
use Rattle.std.specs.Prelude.{◌≡◌, ◌++◌, ◌∷◌, codes, refl}
use Rattle.hep_formats.specs.Colors.{colored, uncolored}
use Rattle.hep_formats.specs.declared.place.TextKind.TheVariants.{Outcome, State, Trace}

-- a process is bold, and what it waits for red
a_wait : colored State (codes "PROCESS 1 S WAITING FOR FULL $A\n")
    ≡ (27 ∷ codes "[1mPROCESS 1") ++ (27 ∷ codes "[0m S ") ++ (27 ∷ codes "[31mWAITING FOR FULL $A") ++ (27 ∷ codes "[0m\n")
a_wait = refl

-- a record of an outcome gets no mark, whatever it says
a_record : colored Outcome (codes " FAULT 1\nFAULT 1\n") ≡ codes " FAULT 1\n" ++ (27 ∷ codes "[1;31mFAULT 1") ++ (27 ∷ codes "[0m\n")
a_record = refl

-- without its marks a line of a trace is as it was
unmarked : uncolored (colored Trace (codes "1 PROCESS 1 S LINE 2 fill $A = 3, wakes 2\n")) ≡ codes "1 PROCESS 1 S LINE 2 fill $A = 3, wakes 2\n"
unmarked = refl
