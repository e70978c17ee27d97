-- Assumes nothing.
use Rattle.std.proofs.Common.{rules, sym, refl, ap, ◌∙◌, arith}
use Rattle.theory.specs.Walk.{k_nt}
use Rattle.theory.specs.Machine.{expand}
use Rattle.grammar.specs.Shapes.Tables.{table}
use Rattle.parse.specs.Contract.{text, tok_at, read, stuck, TypeKind, value_at}
use Rattle.parse.specs.declared.token.Brackets.TheVariants.{Round}
use Rattle.parse.proofs.Rule.Chain.{further}
use Rattle.parse.proofs.Rule.Brackets.{bracket₁, bracket₂, bracket₃}
use Rattle.parse.proofs.Rule.Commas as lined
use Rattle.parse.proofs.Rule.Entered as entered
use Rattle.parse.proofs.Rule.Entered.{passed, lacks, closes, closes-judged}
use Rattle.parse.proofs.Rule.Heads.{judged-at, number_at, value-is, value-text, first-is}
use Rattle.parse.proofs.tree.Numbers.{array-numbered, list-numbered, put-number}
use Rattle.parse.proofs.types.Forms as form
use Rattle.parse.proofs.types.Steps as step
use Rattle.own.specs.Kinds as kind
use Rattle.grammar.specs.Shapes.TablesIndex.{n-list-type, n-type}
use Rattle.parse.proofs.Rule.Refused.{refusal}
use Rattle.parse.proofs.types.+types.Goals as goal

pub array-ty-inner-requires : goal.array-ty-inner-requires
array-ty-inner-requires t c =
    let n = entered.apart form.array-rule c.requires.ready c.requires.class_value c.clean.ensures c.reserve.ensures in
    let f = further n.ready n.opened (step.array₁ c.args.tree.now n c.advance-a.ensures) (omega arith) in
    (omega (arith, f.ahead, f.within, c.decreases), f.ready)

pub array-returns-in_default : goal.array-returns-in_default
array-returns-in_default t c =
    let n = entered.apart form.array-rule c.requires.ready c.requires.class_value c.clean.ensures c.reserve.ensures in
    let d1 = step.array₁ c.args.tree.now n c.advance-a.ensures in
    passed n d1 c.in_default.is c.ty-inner.ensures

pub array-returns-in_default-semi : goal.array-returns-in_default-semi
array-returns-in_default-semi t c =
    let n = entered.apart form.array-rule c.requires.ready c.requires.class_value c.clean.ensures c.reserve.ensures in
    let d2 = step.array₂ c.args.tree.now n c.advance-a.ensures c.ty-inner.ensures c.in-Next.is in
    lacks n d2.amid c.in_default-semi.is c.eat-semi.ensures

pub array-returns-in_default-decimal : goal.array-returns-in_default-decimal
array-returns-in_default-decimal t c =
    let n = entered.apart form.array-rule c.requires.ready c.requires.class_value c.clean.ensures c.reserve.ensures in
    let d3 = step.array₃ c.args.tree.now n c.advance-a.ensures c.ty-inner.ensures c.in-Next.is c.eat-semi.ensures c.in-Next-semi.is in
    lacks n d3 c.in_default-decimal.is c.eat-decimal.ensures

pub array-returns-in_default-bracket : goal.array-returns-in_default-bracket
array-returns-in_default-bracket t c =
    let n = entered.apart form.array-rule c.requires.ready c.requires.class_value c.clean.ensures c.reserve.ensures in
    let d4 = step.array₄ c.args.tree.now n c.advance-a.ensures c.ty-inner.ensures c.in-Next.is c.eat-semi.ensures c.in-Next-semi.is c.eat-decimal.ensures c.in-Next-decimal.is in
    lacks n d4 c.in_default-bracket.is c.eat-bracket.ensures

pub array-returns : goal.array-returns
array-returns t c =
    let x = text c.args.source.now in
    let n = entered.apart form.array-rule c.requires.ready c.requires.class_value c.clean.ensures c.reserve.ensures in
    let d3 = step.array₃ c.args.tree.now n c.advance-a.ensures c.ty-inner.ensures c.in-Next.is c.eat-semi.ensures c.in-Next-semi.is in
    let d5 = step.array₅ c.args.tree.now n c.advance-a.ensures c.ty-inner.ensures c.in-Next.is c.eat-semi.ensures c.in-Next-semi.is c.eat-decimal.ensures c.in-Next-decimal.is c.eat-bracket.ensures c.in-Next-bracket.is in
    let q = value-is c.args.source.now d3.lays.stands c.number-v.ensures in
    let z = form.wide_is (form.array_head d5) (number_at d5) refl refl in
    closes-judged n d5 (omega arith) z tt tt TypeKind (omega arith, omega arith)
    (put-number (value_at x c.in-Next-semi.c.at) q array-numbered c.close_number.ensures) (judged-at c.judged-f.ensures c.placed.ensures c.array_length.ensures d3.lays.stands.start_is)
    (λ is u v. form.array-fault x.draft is c.number-v.result (tok_at x c.in-Next-semi.c.at) (first-is is u v) (value-text c.args.source.now d3.lays.stands c.number-v.ensures))

pub either-returns-then-a-ne-LANGLE : goal.either-returns-then-a-ne-LANGLE
either-returns-then-a-ne-LANGLE t c =
    let n = entered.by form.either-rule c.requires.ready c.requires.class_value c.reserve.ensures in
    let a = step.alone c.args.tree.now n.opened (form.at-either c.args.st.class n.chosen) (omega arith) form.either-optional c.advance-a.ensures c.if-a-ne-LANGLE.true in
    closes n tt a (omega arith) (form.either-alone-head a) tt TypeKind (omega arith, omega arith) (rw c.plain.ensures at c.close.ensures)

pub either-ty-left-requires : goal.either-ty-left-requires
either-ty-left-requires t c =
    let n = entered.by form.either-rule c.requires.ready c.requires.class_value c.reserve.ensures in
    let f = further n.ready n.opened (step.either₁ c.args.tree.now n c.advance-a.ensures c.if-a-ne-LANGLE.false c.advance-b.ensures) (omega arith) in
    (omega (arith, f.ahead, f.within, c.decreases), f.ready)

pub either-returns-in_default : goal.either-returns-in_default
either-returns-in_default t c =
    let n = entered.by form.either-rule c.requires.ready c.requires.class_value c.reserve.ensures in
    let d1 = step.either₁ c.args.tree.now n c.advance-a.ensures c.if-a-ne-LANGLE.false c.advance-b.ensures in
    passed n d1 c.in_default.is c.ty-left.ensures

pub either-returns-in_default-comma : goal.either-returns-in_default-comma
either-returns-in_default-comma t c =
    let n = entered.by form.either-rule c.requires.ready c.requires.class_value c.reserve.ensures in
    let d2 = step.either₂ c.args.tree.now n c.advance-a.ensures c.if-a-ne-LANGLE.false c.advance-b.ensures c.ty-left.ensures c.in-Next.is in
    lacks n d2.amid c.in_default-comma.is c.eat-comma.ensures

pub either-ty-right-requires : goal.either-ty-right-requires
either-ty-right-requires t c =
    let n = entered.by form.either-rule c.requires.ready c.requires.class_value c.reserve.ensures in
    let f = further n.ready n.opened (step.either₃ c.args.tree.now n c.advance-a.ensures c.if-a-ne-LANGLE.false c.advance-b.ensures c.ty-left.ensures c.in-Next.is c.eat-comma.ensures c.in-Next-comma.is) (omega arith) in
    (omega (arith, f.ahead, f.within, c.decreases), f.ready)

pub either-returns-in_default-right : goal.either-returns-in_default-right
either-returns-in_default-right t c =
    let n = entered.by form.either-rule c.requires.ready c.requires.class_value c.reserve.ensures in
    let d3 = step.either₃ c.args.tree.now n c.advance-a.ensures c.if-a-ne-LANGLE.false c.advance-b.ensures c.ty-left.ensures c.in-Next.is c.eat-comma.ensures c.in-Next-comma.is in
    passed n d3 c.in_default-right.is c.ty-right.ensures

pub either-returns-in_default-angle : goal.either-returns-in_default-angle
either-returns-in_default-angle t c =
    let n = entered.by form.either-rule c.requires.ready c.requires.class_value c.reserve.ensures in
    let d4 = step.either₄ c.args.tree.now n c.advance-a.ensures c.if-a-ne-LANGLE.false c.advance-b.ensures c.ty-left.ensures c.in-Next.is c.eat-comma.ensures c.in-Next-comma.is c.ty-right.ensures c.in-Next-right.is in
    lacks n d4.amid c.in_default-angle.is c.eat-angle.ensures

pub either-returns : goal.either-returns
either-returns t c =
    let n = entered.by form.either-rule c.requires.ready c.requires.class_value c.reserve.ensures in
    let d5 = step.either₅ c.args.tree.now n c.advance-a.ensures c.if-a-ne-LANGLE.false c.advance-b.ensures c.ty-left.ensures c.in-Next.is c.eat-comma.ensures c.in-Next-comma.is c.ty-right.ensures c.in-Next-right.is
    c.eat-angle.ensures c.in-Next-angle.is in
    let z = form.wide_is (form.either-head d5) (number_at d5 ∙ form.no_value (text c.args.source.now).draft) form.zero-low form.zero_high in
    closes n tt d5 (omega arith) z tt TypeKind (omega arith, omega arith) (rw c.plain-2.ensures at c.close-2.ensures)

pub list-returns-then-a-ne-LANGLE : goal.list-returns-then-a-ne-LANGLE
list-returns-then-a-ne-LANGLE t c =
    let x = text c.args.source.now in
    let n = entered.apart form.list-rule c.requires.ready c.requires.class_value c.clean.ensures c.reserve.ensures in
    let a = step.alone c.args.tree.now n.opened (form.at-list c.args.st.class n.chosen) (omega arith) form.list-optional c.advance-a.ensures c.if-a-ne-LANGLE.true in
    closes-judged n a (omega arith) (form.list-alone-head a) tt tt TypeKind (omega arith, omega arith) (rw c.plain.ensures at c.close.ensures)
    c.judged-z.ensures (λ is u v. form.list-alone-fault x.draft is u)

pub list-ty-inner-requires : goal.list-ty-inner-requires
list-ty-inner-requires t c =
    let n = entered.apart form.list-rule c.requires.ready c.requires.class_value c.clean.ensures c.reserve.ensures in
    let f = further n.ready n.opened (step.list₁ c.args.tree.now n c.advance-a.ensures c.if-a-ne-LANGLE.false c.advance-b.ensures) (omega arith) in
    (omega (arith, f.ahead, f.within, c.decreases), f.ready)

pub list-returns-in_default : goal.list-returns-in_default
list-returns-in_default t c =
    let n = entered.apart form.list-rule c.requires.ready c.requires.class_value c.clean.ensures c.reserve.ensures in
    let d1 = step.list₁ c.args.tree.now n c.advance-a.ensures c.if-a-ne-LANGLE.false c.advance-b.ensures in
    passed n d1 c.in_default.is c.ty-inner.ensures

pub list-returns-in_default-comma : goal.list-returns-in_default-comma
list-returns-in_default-comma t c =
    let n = entered.apart form.list-rule c.requires.ready c.requires.class_value c.clean.ensures c.reserve.ensures in
    let d2 = step.list₂ c.args.tree.now n c.advance-a.ensures c.if-a-ne-LANGLE.false c.advance-b.ensures c.ty-inner.ensures c.in-Next.is in
    lacks n d2.amid c.in_default-comma.is c.eat-comma.ensures

pub list-returns-in_default-decimal : goal.list-returns-in_default-decimal
list-returns-in_default-decimal t c =
    let n = entered.apart form.list-rule c.requires.ready c.requires.class_value c.clean.ensures c.reserve.ensures in
    let d3 = step.list₃ c.args.tree.now n c.advance-a.ensures c.if-a-ne-LANGLE.false c.advance-b.ensures c.ty-inner.ensures c.in-Next.is c.eat-comma.ensures c.in-Next-comma.is in
    lacks n d3 c.in_default-decimal.is c.eat-decimal.ensures

pub list-returns-in_default-angle : goal.list-returns-in_default-angle
list-returns-in_default-angle t c =
    let n = entered.apart form.list-rule c.requires.ready c.requires.class_value c.clean.ensures c.reserve.ensures in
    let d4 = step.list₄ c.args.tree.now n c.advance-a.ensures c.if-a-ne-LANGLE.false c.advance-b.ensures c.ty-inner.ensures c.in-Next.is c.eat-comma.ensures c.in-Next-comma.is c.eat-decimal.ensures c.in-Next-decimal.is in
    lacks n d4 c.in_default-angle.is c.eat-angle.ensures

pub list-returns : goal.list-returns
list-returns t c =
    let x = text c.args.source.now in
    let n = entered.apart form.list-rule c.requires.ready c.requires.class_value c.clean.ensures c.reserve.ensures in
    let d3 = step.list₃ c.args.tree.now n c.advance-a.ensures c.if-a-ne-LANGLE.false c.advance-b.ensures c.ty-inner.ensures c.in-Next.is c.eat-comma.ensures c.in-Next-comma.is in
    let d5 = step.list₅ c.args.tree.now n c.advance-a.ensures c.if-a-ne-LANGLE.false c.advance-b.ensures c.ty-inner.ensures c.in-Next.is c.eat-comma.ensures c.in-Next-comma.is c.eat-decimal.ensures c.in-Next-decimal.is
    c.eat-angle.ensures c.in-Next-angle.is in
    let q = value-is c.args.source.now d3.lays.stands c.number-v.ensures in
    let z = form.wide_is (form.list-head d5) (number_at d5) refl refl in
    closes-judged n d5 (omega arith) z tt tt TypeKind (omega arith, omega arith)
    (put-number (value_at x c.in-Next-comma.d.at) q list-numbered c.close_number.ensures) (judged-at c.judged-g.ensures c.placed.ensures c.bound.ensures d3.lays.stands.start_is)
    (λ is u v. form.list-fault x.draft is c.number-v.result (tok_at x c.in-Next-comma.d.at) u (first-is is u v) (value-text c.args.source.now d3.lays.stands c.number-v.ensures))

pub option-returns-then-a-ne-LANGLE : goal.option-returns-then-a-ne-LANGLE
option-returns-then-a-ne-LANGLE t c =
    let n = entered.by form.option-rule c.requires.ready c.requires.class_value c.reserve.ensures in
    let a = step.alone c.args.tree.now n.opened (form.at_option c.args.st.class n.chosen) (omega arith) form.option-optional c.advance-a.ensures c.if-a-ne-LANGLE.true in
    closes n tt a (omega arith) (form.option-alone-head a) tt TypeKind (omega arith, omega arith) (rw c.plain.ensures at c.close.ensures)

pub option-ty-inner-requires : goal.option-ty-inner-requires
option-ty-inner-requires t c =
    let n = entered.by form.option-rule c.requires.ready c.requires.class_value c.reserve.ensures in
    let f = further n.ready n.opened (step.option₁ c.args.tree.now n c.advance-a.ensures c.if-a-ne-LANGLE.false c.advance-b.ensures) (omega arith) in
    (omega (arith, f.ahead, f.within, c.decreases), f.ready)

pub option-returns-in_default : goal.option-returns-in_default
option-returns-in_default t c =
    let n = entered.by form.option-rule c.requires.ready c.requires.class_value c.reserve.ensures in
    let d1 = step.option₁ c.args.tree.now n c.advance-a.ensures c.if-a-ne-LANGLE.false c.advance-b.ensures in
    passed n d1 c.in_default.is c.ty-inner.ensures

pub option-returns-in_default-angle : goal.option-returns-in_default-angle
option-returns-in_default-angle t c =
    let n = entered.by form.option-rule c.requires.ready c.requires.class_value c.reserve.ensures in
    let d2 = step.option₂ c.args.tree.now n c.advance-a.ensures c.if-a-ne-LANGLE.false c.advance-b.ensures c.ty-inner.ensures c.in-Next.is in
    lacks n d2.amid c.in_default-angle.is c.eat-angle.ensures

pub option-returns : goal.option-returns
option-returns t c =
    let n = entered.by form.option-rule c.requires.ready c.requires.class_value c.reserve.ensures in
    let d3 = step.option₃ c.args.tree.now n c.advance-a.ensures c.if-a-ne-LANGLE.false c.advance-b.ensures c.ty-inner.ensures c.in-Next.is
    c.eat-angle.ensures c.in-Next-angle.is in
    let z = form.wide_is (form.option-head d3) (number_at d3 ∙ form.no_value (text c.args.source.now).draft) form.zero-low form.zero_high in
    closes n tt d3 (omega arith) z tt TypeKind (omega arith, omega arith) (rw c.plain-2.ensures at c.close-2.ensures)

pub tuple-types-inner-requires : goal.tuple-types-inner-requires
tuple-types-inner-requires t c =
    let n = entered.by form.tuple-rule c.requires.ready c.requires.class_value c.reserve.ensures in
    let f = further n.ready n.opened (bracket₁ kind.TupleType n-list-type Round c.args.tree.now n.opened (form.at-tuple c.args.st.class n.chosen) c.advance-a.ensures) (omega arith) in
    (omega (arith, f.ahead, f.within, c.decreases), f.ready)

pub tuple-returns-in_default : goal.tuple-returns-in_default
tuple-returns-in_default t c =
    let n = entered.by form.tuple-rule c.requires.ready c.requires.class_value c.reserve.ensures in
    let d1 = bracket₁ kind.TupleType n-list-type Round c.args.tree.now n.opened (form.at-tuple c.args.st.class n.chosen) c.advance-a.ensures in
    passed n d1 c.in_default.is c.types-inner.ensures

pub tuple-returns-in_default-paren : goal.tuple-returns-in_default-paren
tuple-returns-in_default-paren t c =
    let n = entered.by form.tuple-rule c.requires.ready c.requires.class_value c.reserve.ensures in
    let d2 = bracket₂ kind.TupleType n-list-type Round c.args.tree.now n.opened (form.at-tuple c.args.st.class n.chosen) c.advance-a.ensures c.types-inner.ensures c.in-Next.is in
    lacks n d2.amid c.in_default-paren.is c.eat-paren.ensures

pub tuple-returns : goal.tuple-returns
tuple-returns t c =
    let n = entered.by form.tuple-rule c.requires.ready c.requires.class_value c.reserve.ensures in
    let d3 = bracket₃ kind.TupleType n-list-type Round c.args.tree.now n.opened (form.at-tuple c.args.st.class n.chosen) c.advance-a.ensures c.types-inner.ensures c.in-Next.is c.eat-paren.ensures c.in-Next-paren.is in
    closes n tt d3 (omega arith) (form.tuple-head d3) tt TypeKind (omega arith, omega arith) (rw c.plain.ensures at c.close.ensures)

pub ty-returns-in_default : goal.ty-returns-in_default
ty-returns-in_default t c =
    let y = c.requires in
    stuck y.stands.within (λ τ. k_nt (ap (expand table n-type) (sym y.stands.class_is) ∙ form.no-type c.args.st.class c.types.result c.types.ensures (search rules)))

pub types-loop-here-init : goal.types-loop-here-init
types-loop-here-init t c = lined.lined-starts form.type-rows c.requires tt

pub types-returns-in_default : goal.types-returns-in_default
types-returns-in_default t c = lined.lined-passed form.type-rows c.requires c.loop-here.invariant c.loop-here-test.true (refusal c.in_default.is) c.ty-inner.ensures

pub types-returns-then-a-ne-COMMA : goal.types-returns-then-a-ne-COMMA
types-returns-then-a-ne-COMMA t c =
    read (lined.lined-last form.type-rows c.requires c.loop-here.invariant c.loop-here-test.true c.ty-inner.ensures c.in-Next.is c.if-a-ne-COMMA.true (λ J K m a b e. record { same = a; commas = b }))

pub types-loop-here-smaller : goal.types-loop-here-smaller
types-loop-here-smaller t c =
    lined.again-fewer form.type-rows c.requires c.loop-here.invariant c.loop-here-test.true c.ty-inner.ensures c.in-Next.is c.if-a-ne-COMMA.false c.advance-here.ensures

pub types-loop-here-preserved : goal.types-loop-here-preserved
types-loop-here-preserved t c =
    lined.lined-again form.type-rows c.requires c.loop-here.invariant c.loop-here-test.true c.ty-inner.ensures c.in-Next.is c.if-a-ne-COMMA.false c.advance-here.ensures tt

pub types-returns : goal.types-returns
types-returns t c = read (lined.lined-ends form.type-rows c.requires c.loop-here.invariant c.loop-here-test.false (λ J K m a b e. record { same = a; commas = b }))
