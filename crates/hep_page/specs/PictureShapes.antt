-- How the marks of a picture look: docs/RUNS.md, "A picture".
use Rattle.std.specs.Prelude.{ℕ, Bool, if◌then◌else◌, List, [], ◌∷◌, codes}
use Rattle.hep_formats.specs.declared.turn_mark.TurnKind.{TurnKind}
use Rattle.hep_formats.specs.declared.turn_mark.TurnKind.TheVariants.{Begins, Call, Create, End, Fault, Fill, Idle, Other, Print, Read}
use Rattle.hep_formats.specs.declared.turn_mark.TurnKind.TheVariants.{Store, Take, Wait}

-- the class of a kind in the style sheet
abbrev pub class_of : TurnKind → List ℕ
class_of Idle = []
class_of Begins = codes "born"
class_of Other = codes "other"
class_of Read = codes "read"
class_of Call = codes "call"
class_of Wait = codes "wait"
class_of Store = codes "store"
class_of Create = codes "create"
class_of Take = codes "take"
class_of Fill = codes "fill"
class_of Print = codes "print"
class_of End = codes "end"
class_of Fault = codes "fault"

-- the path of a mark, from its middle
abbrev pub sign_of : TurnKind → List ℕ
sign_of Idle = []
sign_of Begins = codes "m-4-4l4 4-4 4"
sign_of Other = codes "m0-3v6"
sign_of Read = codes "m-3 0a3 3 0 1 0 6 0a3 3 0 1 0-6 0z"
sign_of Call = codes "m-4-2l4 5 4-5"
sign_of Wait = codes "m0-6v12"
sign_of Store = codes "m-5 0a5 5 0 1 0 10 0a5 5 0 1 0-10 0z"
sign_of Create = codes "m-5 0h10m-5-5v10"
sign_of Take = codes "m-4-4h8v8h-8z"
sign_of Fill = codes "m-5-5h10v10h-10z"
sign_of Print = codes "m0-6l6 6-6 6-6-6z"
sign_of End = codes "m0-7v14"
sign_of Fault = codes "m-5-5l10 10m0-10l-10 10"

-- that where columns are folded, from the line of its lane
abbrev pub bar_of : TurnKind → List ℕ
bar_of Idle = []
bar_of Begins = codes "v-2"
bar_of Other = codes "v-3"
bar_of Read = codes "v-4"
bar_of Call = codes "v-4"
bar_of Wait = codes "v-3"
bar_of Store = codes "v-6"
bar_of Create = codes "v-7"
bar_of Take = codes "v-9"
bar_of Fill = codes "v-10"
bar_of Print = codes "v-11"
bar_of End = codes "v-12"
bar_of Fault = codes "v-12"

abbrev pub shape_of : Bool → TurnKind → List ℕ
shape_of folded k = if folded then bar_of k else sign_of k

-- those that matter more over the others
abbrev pub kinds : List TurnKind
kinds = Begins ∷ Other ∷ Read ∷ Call ∷ Wait ∷ Store ∷ Create ∷ Take ∷ Fill ∷ Print ∷ End ∷ Fault ∷ []
