-- The rules in a few words: docs/REFUSALS.md.
use Rattle.std.specs.Prelude.{ℕ, List, [], codes, if◌then◌else◌, nat_eq}

-- the rule with this number
abbrev pub reason : ℕ → List ℕ
reason number =
    if nat_eq number 101 then codes "a tab; write blanks"
    else (if nat_eq number 102 then codes "no printable ASCII character"
    else (if nat_eq number 103 then codes "columns 1 to 5 are for a label; statements begin in column 7"
    else (if nat_eq number 104 then codes "the twentieth continuation line of its statement"
    else (if nat_eq number 105 then codes "a mark in column 6 goes on with a statement, and there is none before it"
    else (if nat_eq number 106 then codes "a character constant isn't closed, or has no characters"
    else (if nat_eq number 107 then codes "more than 65535 lines or 4194304 bytes"
    else (if nat_eq number 201 then codes "no statement of the language; see hepf explain 201"
    else (if nat_eq number 202 then codes "left out of the language"
    else (if nat_eq number 203 then codes "an integer constant above 9223372036854775807"
    else (if nat_eq number 204 then codes "there is no main program"
    else (if nat_eq number 205 then codes "not in this place: declarations come first, one main program, END last"
    else (if nat_eq number 301 then codes "has no type; declare it, or take a name that begins with I to N"
    else (if nat_eq number 302 then codes "a value of the wrong type, or an array in the place of a scalar"
    else (if nat_eq number 303 then codes "another number of arguments than are wanted"
    else (if nat_eq number 304 then codes "an argument doesn't fit: its type, array or scalar, $ or plain"
    else (if nat_eq number 305 then codes "the common block is declared otherwise in a unit before"
    else (if nat_eq number 306 then codes "a label that isn't there, or is there twice"
    else (if nat_eq number 307 then codes "a DO or an IF isn't closed or nested as it must be"
    else (if nat_eq number 308 then codes "a jump into a DO or into a block of an IF"
    else (if nat_eq number 309 then codes "a name stands for two things, or is given something twice"
    else (if nat_eq number 310 then codes "no subroutine, array or function"
    else (if nat_eq number 311 then codes "DATA gives too few or too many values, or wrong ones"
    else (if nat_eq number 312 then codes "RESUME stands in subroutines only"
    else (if nat_eq number 401 then codes "the program is too large"
    else (if nat_eq number 402 then codes "more than 256 operands at once; assign a part to a variable first"
    else [])))))))))))))))))))))))))
