-- The categories of shapes and the parts that have a name.
-- Assumes nothing.
use Rattle.std.specs.Prelude.{ℕ}
use Rattle.theory.specs.Ebnf.{Ex, part}

-- The categories: a function, a parameter, a type, a pattern, a block, a `let`, any other expression, an arm, a type item.
abbrev pub function : ℕ
function = 0

abbrev pub parameter : ℕ
parameter = 1

abbrev pub type : ℕ
type = 2

abbrev pub pattern : ℕ
pattern = 3

abbrev pub block : ℕ
block = 4

abbrev pub assignment : ℕ
assignment = 5

abbrev pub single : ℕ
single = 6

abbrev pub arm : ℕ
arm = 7

abbrev pub type_item : ℕ
type_item = 8

-- The named parts: what the braces of a block hold; an argument list; a path from behind its first `::`, in an arm's head from that on; a pattern with its type; the items of a file.
abbrev pub elements : Ex
elements = part 0

abbrev pub arguments : Ex
arguments = part 1

abbrev pub path : Ex
path = part 2

abbrev pub head_path : Ex
head_path = part 3

abbrev pub pair : Ex
pair = part 4

abbrev pub file : Ex
file = part 5
