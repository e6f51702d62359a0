-- Worked rows: text in HTML, and what changes between two states.
use Rattle.std.specs.Prelude.{◌≡◌, [], ◌∷◌, codes, refl}
use Rattle.std.specs.Fmt.{digits}
use Rattle.hep_page.specs.Changes.{PartTexts, change_between, change_text}
use Rattle.hep_page.specs.Html.{html}

marks : html (codes "A <B> & 'C'\n") ≡ codes "A &lt;B&gt; &amp; 'C'\n"
marks = refl

-- a tab, and a byte that is no character of ASCII
unshown_bytes : html (9 ∷ 200 ∷ []) ≡ codes "??"
unshown_bytes = refl

-- of a program without common blocks, in which K has no value and then 1
abbrev before : PartTexts
before = record {
  processes = codes "PROCESS 1 MAIN LINE 4 IN ACTIVATION 1\n";
  common = [];
  activations = codes "ACTIVATION 1 MAIN\n  K = UNDEFINED\n";
}

abbrev after : PartTexts
after = record {
  processes = codes "PROCESS 1 MAIN LINE 5 IN ACTIVATION 1\n";
  common = [];
  activations = codes "ACTIVATION 1 MAIN\n  K = 1\n";
}

a_store : change_text (change_between before after)
    ≡ codes "=\nP 0 1\n+PROCESS 1 MAIN LINE 5 IN ACTIVATION 1\nA 1 1\n+  K = 1\n"
unfolding digits
a_store = refl

nothing : change_text (change_between before before) ≡ codes "=\n"
nothing = refl
