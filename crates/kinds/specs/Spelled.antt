-- The rule of law 3 (c): a record spells one of the forms of its kind, low and high.
-- Assumes nothing.
use Rattle.std.specs.Prelude.{List, ℕ, T, eqb}
use Rattle.text.specs.Lists.{keep, Some}
use Rattle.own.specs.Law.{Sort, Rule}
use Rattle.kinds.specs.Shape.{Spells}
use Rattle.kinds.specs.Fields.{holds}
use Rattle.kinds.specs.Rules.{Form, forms, program}

unfoldable pub forms_of : ℕ → List Form
forms_of kind = keep (λ f. eqb f.kind kind) forms

-- What a record is made of is of this form, with this low and high.
pub record Written (low high : ℕ) (w : List Sort) (f : Form) : Type 0 where
  pub fields : T (holds f.fields low high w)
  pub shape : Spells f.shape w

-- The rule: what a record of this kind, low and high is made of is of one of the forms of its kind.
abbrev pub Spelled : Rule
Spelled kind low high w = Some (Written low high w) (forms_of kind)

-- What a program is made of: any number of items.
abbrev pub Program : List Sort → Type 0
Program = Spells program
