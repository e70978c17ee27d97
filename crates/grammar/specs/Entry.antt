-- What a draft is read as. All that tells one entry of the reader from another stands here, by clauses: what its drafts are made of, what
-- is handed over of them, and the ownership that is promised of it.
-- Assumes nothing.
use Rattle.std.specs.Prelude.{List, ℕ}
use Rattle.theory.specs.Ebnf.{Ex, child}
use Rattle.own.specs.File.{filed, FileOwnership}
use Rattle.own.specs.Tree.{Tok, Node, Rec, records}
use Rattle.own.specs.Law.{Ownership}
use Rattle.up.specs.Ups.{ups, file_ups}
use Rattle.kinds.specs.Spelled.{Spelled, Program}
use Rattle.grammar.specs.Shapes.Categories.{function, file}
use Rattle.grammar.specs.Shapes.TablesIndex.{n-function, n-file}

-- One function and then the end: "`Function::parser()` followed by the end". Or a whole file: "any number of functions and of `type` items".
pub data Entry : Type 0 where
  single_function : Entry
  whole_file : Entry

-- Where the grammar starts: the expression that a whole draft is (Shapes.antt), and the nonterminal that stands for it (Tables.antt).
abbrev pub start_ex : Entry → Ex
start_ex single_function = child function
start_ex whole_file = file

abbrev pub start_nt : Entry → ℕ
start_nt single_function = n-function
start_nt whole_file = n-file

-- The records of a draft of so many bytes, from its trees side by side.
abbrev pub records_of : Entry → ℕ → List Node → List Rec
records_of single_function len ns = records ns
records_of whole_file len ns = filed len (records ns)

-- The way up of each of them.
abbrev pub ups_of : Entry → List Node → List ℕ
ups_of single_function ns = ups ns
ups_of whole_file ns = file_ups ns

-- Demand 3 of the tokens and records of a draft of so many bytes.
abbrev pub Owned : Entry → ℕ → List Tok → List Rec → Type 0
Owned single_function len ts rs = Ownership Spelled ts rs
Owned whole_file len ts rs = FileOwnership Spelled Program len ts rs

-- How many records there may be more than tokens.
abbrev pub over : Entry → ℕ
over single_function = 0
over whole_file = 1
