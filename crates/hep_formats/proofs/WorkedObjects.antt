-- Computed examples of the objects of lines.
use Rattle.std.proofs.Common.{◌≡◌, ◌++◌, codes, refl}
use Rattle.hep_formats.specs.Strings.{json_string}
use Rattle.hep_formats.specs.LineWords.{after_words, word_at}
use Rattle.hep_formats.specs.StateObjects.{has_subscripts, is_waiting, kind_of, state_objects}
use Rattle.hep_formats.specs.WhyObjects as why
use Rattle.hep_formats.specs.WhyObjects.{why_objects}

-- a process that waits, and one that has called a subroutine
processes : state_objects (
    codes "AFTER 9 ENTRIES\n"
    ++ codes "PROCESS 1 DEADLK LINE 10 IN ACTIVATION 1 WAITING FOR FULL $DONE OF 1\n"
    ++ codes "   10 |       I = $DONE\n"
    ++ codes "PROCESS 2 S LINE 17 IN ACTIVATION 3\n"
    ++ codes "  BACK TO SWAP LINE 12 IN ACTIVATION 2\n")
    ≡ codes "{\"entries\":9}\n"
    ++ codes "{\"process\":1,\"unit\":\"DEADLK\",\"line\":10,\"activation\":1,\"state\":\"waiting\",\"for\":\"FULL $DONE OF 1\"}\n"
    ++ codes "{\"process\":2,\"unit\":\"S\",\"line\":17,\"activation\":3,\"state\":\"living\"}\n"
    ++ codes "{\"process\":2,\"unit\":\"SWAP\",\"line\":12,\"activation\":2,\"state\":\"calling\"}\n"
unfolding after_words has_subscripts is_waiting json_string kind_of word_at
processes = refl

-- variables of COMMON and of an activation
variables : state_objects (
    codes "COMMON /C/ AS IN MAIN\n"
    ++ codes "  $A(1..3) = UNDEFINED EMPTY\n"
    ++ codes "  L = T\n"
    ++ codes "ACTIVATION 2 S\n"
    ++ codes "  N = -7\n"
    ++ codes "  $X IS $A#3 OF 1\n")
    ≡ codes "{\"common\":\"/C/\",\"unit\":\"MAIN\",\"name\":\"$A\",\"subscripts\":\"(1..3)\",\"value\":null,\"full\":false}\n"
    ++ codes "{\"common\":\"/C/\",\"unit\":\"MAIN\",\"name\":\"L\",\"value\":true}\n"
    ++ codes "{\"activation\":2,\"unit\":\"S\",\"name\":\"N\",\"value\":-7}\n"
    ++ codes "{\"activation\":2,\"unit\":\"S\",\"name\":\"$X\",\"is\":\"$A#3 OF 1\"}\n"
unfolding after_words has_subscripts is_waiting json_string kind_of word_at
variables = refl

-- a circle
circle : why_objects (
    codes "AFTER 5 ENTRIES\n"
    ++ codes "WAITING 1 MAIN LINE 5 FOR FULL $A OF 1\n"
    ++ codes "      | process 2, which waits, emptied $A at S LINE 9 in entry 3\n"
    ++ codes "      | process 1, which waits, filled it last, at MAIN LINE 2 in entry 1\n"
    ++ codes "CIRCLE 1 WAITS FOR WHAT WAS CHANGED BY 3, 2, 1\n")
    ≡ codes "{\"entries\":5}\n"
    ++ codes "{\"process\":1,\"unit\":\"MAIN\",\"line\":5,\"state\":\"waiting\",\"for\":\"FULL $A OF 1\",\"name\":\"$A\","
    ++ codes "\"last\":{\"process\":2,\"unit\":\"S\",\"line\":9,\"state\":\"waiting\",\"did\":\"emptied\",\"entry\":3},"
    ++ codes "\"brought\":{\"process\":1,\"unit\":\"MAIN\",\"line\":2,\"state\":\"waiting\",\"did\":\"filled\",\"entry\":1}}\n"
    ++ codes "{\"circle\":[1, 3, 2]}\n"
unfolding after_words json_string why.deed why.kind_of word_at
circle = refl

-- processes that nobody makes wait, or one that has ended, while others can go on
others_go_on : why_objects (
    codes "AFTER 4 ENTRIES\n"
    ++ codes "WAITING 2 S LINE 9 FOR FULL /B/#2\n"
    ++ codes "      | nobody has filled or emptied $D(1)\n"
    ++ codes "WAITING 3 T LINE 14 FOR EMPTY $B OF 1\n"
    ++ codes "      | process 4, which has ended, filled $Y at U LINE 22 in entry 3\n"
    ++ codes "AND 2 PROCESSES CAN GO ON\n")
    ≡ codes "{\"entries\":4}\n"
    ++ codes "{\"process\":2,\"unit\":\"S\",\"line\":9,\"state\":\"waiting\",\"for\":\"FULL /B/#2\",\"name\":\"$D(1)\",\"last\":null}\n"
    ++ codes "{\"process\":3,\"unit\":\"T\",\"line\":14,\"state\":\"waiting\",\"for\":\"EMPTY $B OF 1\",\"name\":\"$Y\","
    ++ codes "\"last\":{\"process\":4,\"unit\":\"U\",\"line\":22,\"state\":\"ended\",\"did\":\"filled\",\"entry\":3}}\n"
    ++ codes "{\"can_go_on\":2}\n"
unfolding after_words json_string why.deed why.kind_of word_at
others_go_on = refl
