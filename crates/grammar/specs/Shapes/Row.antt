-- What a row of the table of shapes says (`rows` of Shapes.antt).
-- Assumes nothing.
use Rattle.std.specs.Prelude.{ℕ}
use Rattle.theory.specs.Ebnf.{Ex}

-- How a shape decides the head of its record; `head_of` of Records.antt says it of each.
pub data Form : Type 0 where
  -- always of this kind; of this kind, with the number of its decimal; so if `<` is among its tokens, but "`Either`, `Option` or `List`
  -- without `<` is a plain alias name"
  always numbered angled : ℕ → Form
  -- the first kind if it has one part and no comma, otherwise the second: "`(e)` is parenthesised, `(e,)` and `()` tuples"
  lonely : ℕ → ℕ → Form
  aFunction aTypeName aPatternName aBlock aLiteral aMatch aName anArm : Form

-- Which refusals of 9 to 14 and 19 a shape may have: none; 9 of a `List`; 19 of an array type; 9 of a `fold` and 10 of an `array_fold`; 11 to 14
-- (`faults_by`, Faults.antt).
pub data Refused : Type 0 where
  never byBound byLength byFold byArms : Refused

-- A shape: its category, the form of its record, its refusals, and its expression.
pub record Row : Type 0 where
  pub category : ℕ
  pub form : Form
  pub refused : Refused
  pub body : Ex

abbrev pub shape : ℕ → Form → Refused → Ex → Row
shape C f r e = record { category = C; form = f; refused = r; body = e }
