-- Worked texts of searches.
use Rattle.std.proofs.Common.{◌≡◌, true, false, [], ◌∷◌, ◌++◌, codes, refl}
use Rattle.std.specs.Fmt.{digits}
use Rattle.hep_explore.specs.Explored.{Found, deadlock_text, explored_text, has_waiting_line}

-- two processes that print
abbrev first : Found
first = record { status = 0; lines = codes " 1\n 2\n"; choices = 1 ∷ 1 ∷ 1 ∷ 2 ∷ 2 ∷ [] }

abbrev second : Found
second = record { status = 0; lines = codes " 2\n 1\n"; choices = 1 ∷ 2 ∷ 1 ∷ 1 ∷ 2 ∷ [] }

-- a process that waits after the first step
abbrev waiting : Found
waiting = record { status = 4; lines = codes "WAITING 1 MAIN LINE 2 FOR FULL $A OF 1\n"; choices = 1 ∷ [] }

-- a process that waits where another one ended by a fault
abbrev faulted : Found
faulted = record { status = 3; lines = codes " 1\nFAULT 2 S LINE 9 DIVIDE\nWAITING 1 MAIN LINE 2 FOR FULL $A OF 1\n"; choices = 1 ∷ 2 ∷ [] }

-- two outcomes
text-both : explored_text (first ∷ second ∷ []) 14 true
    ≡ codes "STATUS 0 BY 5 CHOICES\n 1\n 2\nSTATUS 0 BY 5 CHOICES\n 2\n 1\n"
    ++ codes "2 OUTCOMES OF 14 STATES\nNO DEADLOCK IS POSSIBLE\nNO OTHER OUTCOME IS POSSIBLE\n"
unfolding digits
text-both = refl

-- a program that waits
text-waiting : explored_text (waiting ∷ []) 2 true
    ≡ codes "STATUS 4 BY 1 CHOICE\nWAITING 1 MAIN LINE 2 FOR FULL $A OF 1\n"
    ++ codes "1 OUTCOME OF 2 STATES\nDEADLOCK IS POSSIBLE\nNO OTHER OUTCOME IS POSSIBLE\n"
unfolding digits
text-waiting = refl

-- one that waits after a fault, and one that prints what a line of a process that waits begins with
waiting-faulted : deadlock_text (first ∷ faulted ∷ []) true ≡ codes "DEADLOCK IS POSSIBLE\n"
waiting-faulted = refl

waiting-printed : has_waiting_line (codes " WAITING \n") ≡ false
waiting-printed = refl

-- a search that is cut short
text-cut-short : explored_text (first ∷ []) 1 false
    ≡ codes "STATUS 0 BY 5 CHOICES\n 1\n 2\n1 OUTCOME OF 1 STATE\nCUT SHORT AFTER 1 STATE\nOTHER OUTCOMES MAY BE POSSIBLE\n"
unfolding digits
text-cut-short = refl

-- no run ends
text-none : explored_text [] 3 true ≡ codes "0 OUTCOMES OF 3 STATES\nNO DEADLOCK IS POSSIBLE\nNO OTHER OUTCOME IS POSSIBLE\n"
unfolding digits
text-none = refl
