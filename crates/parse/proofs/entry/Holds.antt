-- A record that spells the rule of its kind holds its number, if the kind has one.
-- Assumes nothing.
use Rattle.std.proofs.Common.{ℕ, Bool, true, false, not, ◌||◌, T, eqb, ◌⊎◌, List, sym, subst, inl, inr, eqb→eq}
use Rattle.text.specs.Lists.{all, has, span, count}
use Rattle.text.proofs.ListLaws.{all-some, from_some, some-keep}
use Rattle.text.proofs.Table.{first-of, or_cases, not-true}
use Rattle.num.specs.Bound.{is_bound}
use Rattle.own.specs.Tree.{Node}
use Rattle.own.specs.Law.{Sort, sorts, Keeps}
use Rattle.kinds.specs.Shape.{number}
use Rattle.kinds.specs.Fields as field
use Rattle.kinds.specs.Fields.{Fields, halves, holds}
use Rattle.kinds.specs.Rules.{Form, forms}
use Rattle.kinds.specs.Spelled.{forms_of, Written, Spelled}
use Rattle.parse.specs.Contract.{number_kinds, Holds}

-- Fields that hold a number, be it a bound.
abbrev of_number : Fields → Bool
of_number field.plain = false
of_number field.wide = true
of_number field.bounded = true
of_number field.names = false
of_number field.pairs = false
of_number (field.low n) = false
of_number (field.parameters n) = false
of_number (field.among ns) = false

-- Every form of such a kind has such fields: by one computation.
abbrev sound : Form → Bool
sound f = not (has number_kinds f.kind) || of_number f.fields

all_sound : T (all sound forms)
unfolding all forms has span count
all_sound = tt

fields-hold : (f : Fields) (l h : ℕ) (w : List Sort) → T (of_number f) → T (holds f l h w) → T (halves l h)
unfolding holds
fields-hold field.plain l h w t s = absurd t
fields-hold field.wide l h w t s = s
fields-hold field.bounded l h w t s = first-of (halves l h) (is_bound (number l h)) s
fields-hold field.names l h w t s = absurd t
fields-hold field.pairs l h w t s = absurd t
fields-hold (field.low n) l h w t s = absurd t
fields-hold (field.parameters n) l h w t s = absurd t
fields-hold (field.among ns) l h w t s = absurd t

pub spelled_holds : (n : Node) → Keeps Spelled n → Holds n
unfolding forms_of
spelled_holds n s t = from_some one (all-some sound all_sound (some-keep (λ f. eqb f.kind n.kind) forms s))
  where
    numbers : (f : Form) → T (eqb f.kind n.kind) → T (not (has number_kinds f.kind)) ⊎ T (of_number f.fields) → T (of_number f.fields)
    numbers f e (inl u) =
        let k : T (has number_kinds f.kind) = subst (λ (i : ℕ). T (has number_kinds i)) (sym (eqb→eq f.kind n.kind e)) t in
        absurd (subst (λ y. T y) (not-true (has number_kinds f.kind) u) k)
    numbers f e (inr u) = u

    one : (f : Form) → T (sound f) × (T (eqb f.kind n.kind) × Written n.low n.high (sorts n.items) f) → T (halves n.low n.high)
    one f (a, (e, w)) = fields-hold f.fields n.low n.high (sorts n.items) (numbers f e (or_cases (not (has number_kinds f.kind)) (of_number f.fields) a)) w.fields
