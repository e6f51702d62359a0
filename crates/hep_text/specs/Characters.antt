-- Characters by their names (X3.9-1978, 3.1), as codes of ASCII, and the columns of a line (3.2).
use Rattle.std.specs.Prelude.{ℕ}

-- ---- characters that end lines, and the tab (docs/LANGUAGE.md, 1)

abbrev pub tab : ℕ
tab = 9

abbrev pub line_feed : ℕ
line_feed = 10

abbrev pub carriage_return : ℕ
carriage_return = 13

-- ---- the printable characters, which have consecutive codes in ASCII

-- ` `
abbrev pub blank : ℕ
blank = 32

-- `~`
abbrev pub last_printable : ℕ
last_printable = 126

-- `'`
abbrev pub apostrophe : ℕ
apostrophe = 39

-- `*`
abbrev pub asterisk : ℕ
asterisk = 42

-- `0`
abbrev pub first_digit : ℕ
first_digit = 48

-- `9`
abbrev pub last_digit : ℕ
last_digit = 57

-- `C`
abbrev pub letter_c : ℕ
letter_c = 67

-- `c`
abbrev pub lower_case_c : ℕ
lower_case_c = 99

-- `a`
abbrev pub first_lower_case : ℕ
first_lower_case = 97

-- `z`
abbrev pub last_lower_case : ℕ
last_lower_case = 122

-- the code of a lower-case letter less the code of its upper-case letter
abbrev pub case_distance : ℕ
case_distance = 32

-- ---- columns (X3.9-1978, 3.2)

-- the last column that counts
abbrev pub last_column : ℕ
last_column = 72

-- the number of columns of the label: columns 1 to 5
abbrev pub label_columns : ℕ
label_columns = 5

-- the number of columns of the label and of the mark of a continuation line: columns 1 to 6
abbrev pub columns_before_text : ℕ
columns_before_text = 6

-- the text of a statement is in columns 7 to 72
abbrev pub first_text_column : ℕ
first_text_column = 7

abbrev pub text_columns : ℕ
text_columns = 66
