-- Assumes nothing.
use Rattle.std.proofs.Common.{rules, not, [], ◌∷◌, sym, refl, ap, ◌∙◌, inl, inr, arith}
use Rattle.theory.specs.Grammar.{tok, nt}
use Rattle.theory.specs.Walk.{k_nt}
use Rattle.theory.specs.Machine.{expand}
use Rattle.lexer.specs.Classes as class
use Rattle.own.specs.Kinds as kind
use Rattle.own.specs.Law.{word}
use Rattle.grammar.specs.Records.Records.{lone, call_head}
use Rattle.grammar.specs.Shapes.Tables.{table}
use Rattle.grammar.specs.Shapes.TablesIndex.{n-arguments, n-named-optional, n-single}
use Rattle.grammar.specs.Shapes.ShapeKind.{FoldingShape}
use Rattle.own.specs.Numbers.{kind_number}
use Rattle.parse.specs.Contract.{text, tok_at, read, stuck, ExprKind}
use Rattle.parse.specs.Infos as info
use Rattle.parse.proofs.names.Steps.{ready-near}
use Rattle.parse.proofs.Rule.Amid.{starts, then_turns}
use Rattle.parse.proofs.Rule.Closing.{reserved-class, opens, enters}
use Rattle.parse.proofs.Rule.Chain.{onward, turns, advances, then-eats, then-node}
use Rattle.parse.proofs.Rule.Brackets.{then-closes}
use Rattle.parse.proofs.Rule.Entered as entered
use Rattle.parse.proofs.Rule.Entered.{part-passed, part-lacks}
use Rattle.parse.proofs.Rule.Marks.{sign-mark, keeping-mark}
use Rattle.parse.proofs.Rule.Commas.{AnyN}
use Rattle.parse.proofs.Rule.Commas as lined
use Rattle.parse.proofs.Rule.Heads.{judged-at, shut-judged, value-text}
use Rattle.parse.proofs.names.Chain as chain2
use Rattle.parse.proofs.pattern.Forms as pattern
use Rattle.parse.proofs.expr.Elements as elem
use Rattle.parse.proofs.expr.Forms as form
use Rattle.parse.proofs.expr.ArmForms as armed
use Rattle.parse.proofs.expr.ArmsLoop as arm-loop
use Rattle.parse.proofs.expr.MatchForm as match
use Rattle.parse.proofs.expr.LetForm as letting
use Rattle.parse.proofs.expr.AngleForms as angle
use Rattle.parse.proofs.expr.BracketForms as bracket
use Rattle.parse.proofs.expr.CallForms as call
use Rattle.parse.proofs.expr.CallLaws as law
use Rattle.parse.proofs.expr.CallSteps as steps
use Rattle.parse.proofs.expr.CallEnd as ends
use Rattle.parse.proofs.expr.FoldForm as fold
use Rattle.parse.proofs.expr.NameRules as rule
use Rattle.parse.proofs.Rule.Refused.{refusal}
use Rattle.parse.proofs.expr.+expression.Goals as goal

pub arm-head-head-requires : goal.arm-head-head-requires
arm-head-head-requires t c =
    let y = c.requires.ready in
    let o = opens y c.reserve.ensures in
    record { stands = o.stands; short = y.short; few = omega arith }

pub arm-returns-in_default : goal.arm-returns-in_default
arm-returns-in_default t c = armed.head-refused c.requires.ready (opens c.requires.ready c.reserve.ensures) (refusal c.in_default.is) c.head-head.ensures

pub arm-returns-in_default-arrow : goal.arm-returns-in_default-arrow
arm-returns-in_default-arrow t c =
    let n = armed.arm₀ c.requires.ready c.reserve.ensures c.head-head.ensures c.in-Next.is in
    entered.lacks n (armed.arm₁ n c.head-head.ensures c.in-Next.is).amid c.in_default-arrow.is c.eat-arrow.ensures

pub arm-body-rest-requires : goal.arm-body-rest-requires
arm-body-rest-requires t c =
    let n = armed.arm₀ c.requires.ready c.reserve.ensures c.head-head.ensures c.in-Next.is in
    let f = entered.on n (armed.arm₂ n c.head-head.ensures c.in-Next.is c.eat-arrow.ensures c.in-Next-arrow.is) (omega arith) in
    (omega arith, f.ready)

pub arm-returns-in_default-rest : goal.arm-returns-in_default-rest
arm-returns-in_default-rest t c =
    let n = armed.arm₀ c.requires.ready c.reserve.ensures c.head-head.ensures c.in-Next.is in
    entered.passed n (armed.arm₂ n c.head-head.ensures c.in-Next.is c.eat-arrow.ensures c.in-Next-arrow.is) c.in_default-rest.is c.body-rest.ensures

pub arm-returns : goal.arm-returns
arm-returns t c =
    let n = armed.arm₀ c.requires.ready c.reserve.ensures c.head-head.ensures c.in-Next.is in
    rw c.from.ensures (armed.arm-whole n c.head-head.ensures c.in-Next.is c.eat-arrow.ensures c.in-Next-arrow.is c.body-rest.ensures c.in-Next-rest.is c.head-h.ensures c.close.ensures)

pub arms-loop-here-init : goal.arms-loop-here-init
arms-loop-here-init t c = arm-loop.arms-starts c.requires.ready

pub arms-returns-in_default : goal.arms-returns-in_default
arms-returns-in_default t c = arm-loop.arms-passed c.requires.ready c.loop-here.invariant c.loop-here-test.true (refusal c.in_default.is) c.arm-inner.ensures

pub arms-loop-here-preserved : goal.arms-loop-here-preserved
arms-loop-here-preserved t c =
    arm-loop.arms-again c.requires.ready c.loop-here.invariant c.loop-here-test.true c.arm-inner.ensures c.in-Next.is c.after-order.ensures c.first_end-mid.ensures

pub arms-returns : goal.arms-returns
arms-returns t c = read (arm-loop.arms-ends c.requires.ready c.loop-here.invariant c.loop-here-test.false)

pub bracketed-exprs-inner-requires : goal.bracketed-exprs-inner-requires
bracketed-exprs-inner-requires t c =
    let n = entered.by (form.bracketed-rule c.args.brackets) c.requires.ready c.requires.class_value c.reserve.ensures in
    let f = entered.on n (bracket.bracketed₁ c.args.brackets c.args.tree.now n c.advance-a.ensures kind.Tuple) (omega arith) in
    (omega arith, f.ready)

pub bracketed-returns-in_default : goal.bracketed-returns-in_default
bracketed-returns-in_default t c =
    let n = entered.by (form.bracketed-rule c.args.brackets) c.requires.ready c.requires.class_value c.reserve.ensures in
    entered.passed n (bracket.bracketed₁ c.args.brackets c.args.tree.now n c.advance-a.ensures kind.Tuple) c.in_default.is c.exprs-inner.ensures

pub bracketed-returns-in_default-end : goal.bracketed-returns-in_default-end
bracketed-returns-in_default-end t c =
    let n = entered.by (form.bracketed-rule c.args.brackets) c.requires.ready c.requires.class_value c.reserve.ensures in
    let d2 = bracket.bracketed₂ c.args.brackets c.args.tree.now n c.advance-a.ensures kind.Tuple c.exprs-inner.ensures c.in-Next.is in
    entered.lacks n d2.amid c.in_default-end.is (rw c.end.ensures at c.eat-end.ensures)

pub bracketed-returns : goal.bracketed-returns
bracketed-returns t c =
    let b = c.args.brackets in
    let n = entered.by (form.bracketed-rule b) c.requires.ready c.requires.class_value c.reserve.ensures in
    let d2 = bracket.bracketed₂ b c.args.tree.now n c.advance-a.ensures (kind_number c.kind.result) c.exprs-inner.ensures c.in-Next.is in
    let d3 = then-closes b d2.amid (rw c.end.ensures at c.eat-end.ensures) c.in-Next-end.is in
    let z = form.bracketed-kind b c.in-Next.lone c.kind.ensures in
    entered.closes n (form.bracketed-faultless b) d3 (omega arith) (form.bracketed-head b d2.W c.in-Next.lone d3 d2.so.1 c.kind.ensures) (form.not-match z.1 (omega arith))
    ExprKind (form.expr-kind (omega arith, omega arith)) (rw c.plain.ensures at c.close.ensures)

pub assign-pattern-left-requires : goal.assign-pattern-left-requires
assign-pattern-left-requires t c =
    let n = letting.let₀ c.requires.ready c.requires.class_value c.reserve.ensures in
    (entered.on n (letting.let₁ c.args.tree.now n c.requires.class_value c.advance-a.ensures) (omega arith)).ready

pub assign-returns-in_default : goal.assign-returns-in_default
assign-returns-in_default t c =
    let n = letting.let₀ c.requires.ready c.requires.class_value c.reserve.ensures in
    entered.passed n (letting.let₁ c.args.tree.now n c.requires.class_value c.advance-a.ensures) c.in_default.is c.pattern-left.ensures

pub assign-returns-in_default-colon : goal.assign-returns-in_default-colon
assign-returns-in_default-colon t c =
    let n = letting.let₀ c.requires.ready c.requires.class_value c.reserve.ensures in
    let d2 = letting.let₂ c.args.tree.now n c.requires.class_value c.advance-a.ensures c.pattern-left.ensures c.in-Next.is in
    entered.lacks n d2.amid c.in_default-colon.is c.eat-colon.ensures

pub assign-ty-middle-requires : goal.assign-ty-middle-requires
assign-ty-middle-requires t c =
    let n = letting.let₀ c.requires.ready c.requires.class_value c.reserve.ensures in
    let d3 = letting.let₃ c.args.tree.now n c.requires.class_value c.advance-a.ensures c.pattern-left.ensures c.in-Next.is c.eat-colon.ensures c.in-Next-colon.is in
    (entered.on n d3 (omega arith)).ready

pub assign-returns-in_default-middle : goal.assign-returns-in_default-middle
assign-returns-in_default-middle t c =
    let n = letting.let₀ c.requires.ready c.requires.class_value c.reserve.ensures in
    let d3 = letting.let₃ c.args.tree.now n c.requires.class_value c.advance-a.ensures c.pattern-left.ensures c.in-Next.is c.eat-colon.ensures c.in-Next-colon.is in
    entered.passed n d3 c.in_default-middle.is c.ty-middle.ensures

pub assign-returns-in_default-equal : goal.assign-returns-in_default-equal
assign-returns-in_default-equal t c =
    let n = letting.let₀ c.requires.ready c.requires.class_value c.reserve.ensures in
    let d4 = letting.let₄ c.args.tree.now n c.requires.class_value c.advance-a.ensures c.pattern-left.ensures c.in-Next.is c.eat-colon.ensures c.in-Next-colon.is
    c.ty-middle.ensures c.in-Next-middle.is in
    entered.lacks n d4.amid c.in_default-equal.is c.eat-equal.ensures

pub assign-expr-right-requires : goal.assign-expr-right-requires
assign-expr-right-requires t c =
    let n = letting.let₀ c.requires.ready c.requires.class_value c.reserve.ensures in
    let d5 = letting.let₅ c.args.tree.now n c.requires.class_value c.advance-a.ensures c.pattern-left.ensures c.in-Next.is c.eat-colon.ensures c.in-Next-colon.is
    c.ty-middle.ensures c.in-Next-middle.is c.eat-equal.ensures c.in-Next-equal.is in
    let f = entered.on n d5 (omega arith) in
    (omega arith, f.ready)

pub assign-returns-in_default-right : goal.assign-returns-in_default-right
assign-returns-in_default-right t c =
    let n = letting.let₀ c.requires.ready c.requires.class_value c.reserve.ensures in
    let d5 = letting.let₅ c.args.tree.now n c.requires.class_value c.advance-a.ensures c.pattern-left.ensures c.in-Next.is c.eat-colon.ensures c.in-Next-colon.is
    c.ty-middle.ensures c.in-Next-middle.is c.eat-equal.ensures c.in-Next-equal.is in
    entered.passed n d5 c.in_default-right.is c.expr-right.ensures

pub assign-returns : goal.assign-returns
assign-returns t c =
    let n = letting.let₀ c.requires.ready c.requires.class_value c.reserve.ensures in
    let d5 = letting.let₅ c.args.tree.now n c.requires.class_value c.advance-a.ensures c.pattern-left.ensures c.in-Next.is c.eat-colon.ensures c.in-Next-colon.is
    c.ty-middle.ensures c.in-Next-middle.is c.eat-equal.ensures c.in-Next-equal.is in
    let d6 = then-node d5 c.expr-right.ensures c.in-Next-right.is in
    entered.closes n tt d6.amid (omega arith) (form.assign-head d6.amid) tt info.LetKind refl (rw c.plain.ensures at c.close.ensures)

pub block-elems-inner-requires : goal.block-elems-inner-requires
block-elems-inner-requires t c =
    let n = bracket.block₀ c.requires.ready c.requires.class_value c.reserve.ensures in
    let f = entered.on n (bracket.block₁ c.args.tree.now n c.requires.class_value c.advance-a.ensures) (omega arith) in
    (omega arith, f.ready)

pub block-returns-in_default : goal.block-returns-in_default
block-returns-in_default t c =
    let n = bracket.block₀ c.requires.ready c.requires.class_value c.reserve.ensures in
    entered.passed n (bracket.block₁ c.args.tree.now n c.requires.class_value c.advance-a.ensures) c.in_default.is c.elems-inner.ensures

pub block-returns-in_default-brace : goal.block-returns-in_default-brace
block-returns-in_default-brace t c =
    let n = bracket.block₀ c.requires.ready c.requires.class_value c.reserve.ensures in
    let d2 = bracket.block₂ c.args.tree.now n c.requires.class_value c.advance-a.ensures c.elems-inner.ensures c.in-Next.is in
    entered.lacks n d2.amid c.in_default-brace.is c.eat-brace.ensures

pub block-returns : goal.block-returns
block-returns t c =
    let n = bracket.block₀ c.requires.ready c.requires.class_value c.reserve.ensures in
    let d2 = bracket.block₂ c.args.tree.now n c.requires.class_value c.advance-a.ensures c.elems-inner.ensures c.in-Next.is in
    let d3 = then-eats d2.amid (omega arith) c.eat-brace.ensures c.in-Next-brace.is (sign-mark kind.Block class.RBrace tt) in
    entered.closes n tt d3 (omega arith) (form.block-head d2.W d3 d2.so) tt ExprKind (form.expr-kind (omega arith, omega arith)) (rw c.with_low.ensures at c.close.ensures)

pub body-returns-in_default : goal.body-returns-in_default
body-returns-in_default t c =
    part-passed (bracket.block_body c.args.tree.now c.requires c.if-st-eq-LBRACE.true) c.in_default.is c.block-inner.ensures

pub body-returns-then-a-eq-COMMA : goal.body-returns-then-a-eq-COMMA
body-returns-then-a-eq-COMMA t c =
    let d1 = bracket.block_body₁ c.args.tree.now c.requires c.if-st-eq-LBRACE.true c.block-inner.ensures c.in-Next.is in
    let d2 = turns (tok class.Comma ∷ []) d1.amid armed.comma-optional.flat (armed.comma-optional.there _ c.if-a-eq-COMMA.true) in
    let d3 = advances d2 c.if-a-eq-COMMA.true (omega arith) c.advance-b.ensures (sign-mark 0 class.Comma tt) in
    read (armed.body_is d1.kind d1.low d1.high d1.first (word class.Comma ∷ []) d3 d1.its_kind (inr refl))

pub body-returns-then-st-eq-LBRACE : goal.body-returns-then-st-eq-LBRACE
body-returns-then-st-eq-LBRACE t c =
    let d1 = bracket.block_body₁ c.args.tree.now c.requires c.if-st-eq-LBRACE.true c.block-inner.ensures c.in-Next.is in
    let d2 = turns [] d1.amid armed.comma-optional.flat (armed.comma-optional.elsewhere _ c.if-a-eq-COMMA.false) in
    read (armed.body_is d1.kind d1.low d1.high d1.first [] d2 d1.its_kind (inl refl))

pub body-returns-in_default-other : goal.body-returns-in_default-other
body-returns-in_default-other t c =
    part-passed (bracket.other_body c.args.tree.now c.requires c.if-st-eq-LBRACE.false) c.in_default-other.is c.single-other.ensures

pub body-returns-in_default-comma : goal.body-returns-in_default-comma
body-returns-in_default-comma t c =
    let d1 = bracket.other_body₁ c.args.tree.now c.requires c.if-st-eq-LBRACE.false c.single-other.ensures c.in-Next-other.is in
    part-lacks d1.amid c.in_default-comma.is c.eat-comma.ensures

pub body-returns : goal.body-returns
body-returns t c =
    let d1 = bracket.other_body₁ c.args.tree.now c.requires c.if-st-eq-LBRACE.false c.single-other.ensures c.in-Next-other.is in
    let d2 = then-eats d1.amid (omega arith) c.eat-comma.ensures c.in-Next-comma.is (sign-mark 0 class.Comma tt) in
    read (armed.body_is d1.kind d1.low d1.high d1.first (word class.Comma ∷ []) d2 d1.its_kind (inr refl))

pub c::args-returns-in_default : goal.c::args-returns-in_default
c::args-returns-in_default t c = part-lacks (bracket.arguments₀ c.args.tree.now c.requires) c.in_default.is c.eat-open.ensures

pub c::args-exprs-inner-requires : goal.c::args-exprs-inner-requires
c::args-exprs-inner-requires t c =
    let d1 = bracket.arguments₁ c.args.tree.now c.requires c.eat-open.ensures c.in-Next.is in
    (omega arith, armed.near-onward c.requires d1 (omega arith))

pub c::args-returns-in_default-inner : goal.c::args-returns-in_default-inner
c::args-returns-in_default-inner t c =
    part-passed (bracket.arguments₁ c.args.tree.now c.requires c.eat-open.ensures c.in-Next.is) c.in_default-inner.is c.exprs-inner.ensures

pub c::args-returns-in_default-paren : goal.c::args-returns-in_default-paren
c::args-returns-in_default-paren t c =
    let d2 = bracket.arguments₂ c.args.tree.now c.requires c.eat-open.ensures c.in-Next.is c.exprs-inner.ensures c.in-Next-inner.is in
    part-lacks d2.amid c.in_default-paren.is c.eat-paren.ensures

pub c::args-returns : goal.c::args-returns
c::args-returns t c =
    let d2 = bracket.arguments₂ c.args.tree.now c.requires c.eat-open.ensures c.in-Next.is c.exprs-inner.ensures c.in-Next-inner.is in
    let d3 = then-eats d2.amid (omega arith) c.eat-paren.ensures c.in-Next-paren.is (sign-mark 0 class.RParen tt) in
    read (armed.args_are d2.W d3 (omega arith) d2.so.0 d2.so.1)

pub c::bound-name-inner-requires : goal.c::bound-name-inner-requires
c::bound-name-inner-requires t c =
    let n = entered.apart call.folding-rule c.requires.ready c.requires.class_value refl refl in
    ready-near (entered.on n (angle.folding₁ c.args.tree.now n c.requires.angled c.clean.ensures c.advance-d.ensures AnyN) (omega arith)).ready

pub c::bound-returns-in_default : goal.c::bound-returns-in_default
c::bound-returns-in_default t c =
    let n = entered.apart call.folding-rule c.requires.ready c.requires.class_value refl refl in
    entered.passed n (angle.folding₁ c.args.tree.now n c.requires.angled c.clean.ensures c.advance-d.ensures AnyN) c.in_default.is c.name-inner.ensures

pub c::bound-returns-in_default-comma : goal.c::bound-returns-in_default-comma
c::bound-returns-in_default-comma t c =
    let n = entered.apart call.folding-rule c.requires.ready c.requires.class_value refl refl in
    let d2 = angle.folding₂ c.args.tree.now n c.requires.angled c.clean.ensures c.advance-d.ensures c.name-inner.ensures c.in-Next.is AnyN in
    entered.lacks n d2 c.in_default-comma.is c.eat-comma.ensures

pub c::bound-decimal-size-requires : goal.c::bound-decimal-size-requires
c::bound-decimal-size-requires t c =
    let n = entered.apart call.folding-rule c.requires.ready c.requires.class_value refl refl in
    let d3 = angle.folding₃ c.args.tree.now n c.requires.angled c.clean.ensures c.advance-d.ensures c.name-inner.ensures c.in-Next.is c.eat-comma.ensures c.in-Next-comma.is in
    (entered.on n d3 (omega arith)).ready

pub c::bound-returns-in_default-size : goal.c::bound-returns-in_default-size
c::bound-returns-in_default-size t c =
    let n = entered.apart call.folding-rule c.requires.ready c.requires.class_value refl refl in
    let d3 = angle.folding₃ c.args.tree.now n c.requires.angled c.clean.ensures c.advance-d.ensures c.name-inner.ensures c.in-Next.is c.eat-comma.ensures c.in-Next-comma.is in
    entered.passed n d3 c.in_default-size.is c.decimal-size.ensures

pub c::bound-close_angled-rest-requires : goal.c::bound-close_angled-rest-requires
c::bound-close_angled-rest-requires t c =
    let n = entered.apart call.folding-rule c.requires.ready c.requires.class_value refl refl in
    let d4 = angle.folding₄ c.args.tree.now n c.requires.angled c.clean.ensures c.advance-d.ensures c.name-inner.ensures c.in-Next.is c.eat-comma.ensures c.in-Next-comma.is
    c.decimal-size.ensures c.in-Next-size.is in
    let f = entered.on n d4 (omega arith) in
    (omega arith, law.near f.ready)

pub c::bound-returns-in_default-rest : goal.c::bound-returns-in_default-rest
c::bound-returns-in_default-rest t c =
    let n = entered.apart call.folding-rule c.requires.ready c.requires.class_value refl refl in
    let d4 = angle.folding₄ c.args.tree.now n c.requires.angled c.clean.ensures c.advance-d.ensures c.name-inner.ensures c.in-Next.is c.eat-comma.ensures c.in-Next-comma.is
    c.decimal-size.ensures c.in-Next-size.is in
    ends.angle-passed d4 c.in_default-rest.is (enters n.rule n.ready n.chosen n.opened) c.close_angled-rest.ensures

pub c::bound-returns : goal.c::bound-returns
c::bound-returns t c =
    let x = text c.args.source.now in
    let n = entered.apart call.folding-rule c.requires.ready c.requires.class_value refl refl in
    let p = call.folding-apart c.args.st.class n.chosen in
    let d4 = angle.folding₄ c.args.tree.now n c.requires.angled c.clean.ensures c.advance-d.ensures c.name-inner.ensures c.in-Next.is c.eat-comma.ensures c.in-Next-comma.is
    c.decimal-size.ensures c.in-Next-size.is in
    let d3 = angle.folding₃ c.args.tree.now n c.requires.angled c.clean.ensures c.advance-d.ensures c.name-inner.ensures c.in-Next.is c.eat-comma.ensures c.in-Next-comma.is in
    let g5 = ends.angle-went d4 c.close_angled-rest.ensures c.in-Next-rest.is in
    let d6 = g5.argued in
    let nd = law.name-no-decimal c.name-inner.ensures c.in-Next.is in
    let vt = value-text c.args.source.now d3.lays.stands c.number-n.ensures in
    entered.whole n (shut-judged FoldingShape n.ready n.opened d6.amid (omega arith) (call.call-low c.args.st.class (call.folding-head d6.amid) refl)
    (law.fold-number d6.amid p.decimal nd) tt ExprKind call.call-kind g5.put
    (judged-at c.judged-z.ensures c.placed-own.ensures c.size_fault.ensures d3.lays.stands.start_is)
    (λ is u v. fold.fold-fault x.draft is c.args.st.class c.number-n.result (tok_at x c.in-Next-comma.g.at) u (law.fold-first d6.amid p.decimal nd is u v) vt))

pub c::built-path-rest-requires : goal.c::built-path-rest-requires
c::built-path-rest-requires t c =
    let z = rule.enum-begins c.requires.ready refl c.requires.begun c.name-d.ensures.put c.name-d.ensures.value c.requires.leads in
    let f = entered.on z.entered z.amid (omega arith) in
    (omega arith, f.ready)

pub c::built-returns-in_default : goal.c::built-returns-in_default
c::built-returns-in_default t c =
    let z = rule.enum-begins c.requires.ready refl c.requires.begun c.name-d.ensures.put c.name-d.ensures.value c.requires.leads in
    entered.passed z.entered z.amid c.in_default.is c.path-rest.ensures

pub c::built-returns : goal.c::built-returns
c::built-returns t c =
    let z = rule.enum-begins c.requires.ready refl c.requires.begun c.name-d.ensures.put c.name-d.ensures.value c.requires.leads in
    let n = z.entered in
    let d2 = law.then-path z.amid c.path-rest.ensures c.in-Next.is in
    entered.whole n (rule.shut-named z.by n.ready n.opened d2.amid (omega arith)
    (call.enum_is c.args.st.class d2.W z.by.name d2.so.angles d2.so.count_is) (call.enum-unseen c.args.st.class d2.W z.by.name d2.so.angles) tt
    ExprKind call.enum_kind (rw c.with_low.ensures at c.close.ensures))

pub c::called-close_call-requires : goal.c::called-close_call-requires
c::called-close_call-requires t c =
    let n = entered.by call.named_rule c.requires.ready c.requires.class_value refl in
    let d1 = steps.named₁ n c.requires.moved c.callee-b.ensures in
    (omega arith, law.nearly n.ready n.opened d1.amid)

pub c::called-returns : goal.c::called-returns
c::called-returns t c =
    let n = entered.by call.named_rule c.requires.ready c.requires.class_value refl in
    let d1 = steps.named₁ n c.requires.moved c.callee-b.ensures in
    let d2 = steps.into-args d1.amid (d1.class_is ∙ c.requires.class_value_2) in
    ends.call-shut n tt d2 (λ W h ms m z l d. call.form-named d ∙ call.unwrapped-is c.args.st.class W (call.named-apart c.args.st.class n.chosen) c.in_default.ensures h) c.close_call.ensures

pub c::cast-ty-inner-requires : goal.c::cast-ty-inner-requires
c::cast-ty-inner-requires t c =
    let n = entered.by call.cast-rule c.requires.ready c.requires.class_value c.reserve.ensures in
    (entered.on n (angle.cast₁ c.args.tree.now n c.advance-a.ensures) (omega arith)).ready

pub c::cast-returns-in_default : goal.c::cast-returns-in_default
c::cast-returns-in_default t c =
    let n = entered.by call.cast-rule c.requires.ready c.requires.class_value c.reserve.ensures in
    entered.passed n (angle.cast₁ c.args.tree.now n c.advance-a.ensures) c.in_default.is c.ty-inner.ensures

pub c::cast-returns-in_default-angle : goal.c::cast-returns-in_default-angle
c::cast-returns-in_default-angle t c =
    let n = entered.by call.cast-rule c.requires.ready c.requires.class_value c.reserve.ensures in
    entered.lacks n (angle.cast₂ c.args.tree.now n c.advance-a.ensures c.ty-inner.ensures c.in-Next.is).amid c.in_default-angle.is c.eat-angle.ensures

pub c::cast-returns-in_default-colons : goal.c::cast-returns-in_default-colons
c::cast-returns-in_default-colons t c =
    let n = entered.by call.cast-rule c.requires.ready c.requires.class_value c.reserve.ensures in
    let d3 = angle.cast₃ c.args.tree.now n c.advance-a.ensures c.ty-inner.ensures c.in-Next.is c.eat-angle.ensures c.in-Next-angle.is in
    entered.lacks n d3 c.in_default-colons.is c.eat-colons.ensures

pub c::cast-returns-in_default-into : goal.c::cast-returns-in_default-into
c::cast-returns-in_default-into t c =
    let n = entered.by call.cast-rule c.requires.ready c.requires.class_value c.reserve.ensures in
    let d4 = angle.cast₄ c.args.tree.now n c.advance-a.ensures c.ty-inner.ensures c.in-Next.is c.eat-angle.ensures c.in-Next-angle.is c.eat-colons.ensures c.in-Next-colons.is in
    entered.lacks n d4 c.in_default-into.is c.eat-into.ensures

pub c::cast-close_call-requires : goal.c::cast-close_call-requires
c::cast-close_call-requires t c =
    let n = entered.by call.cast-rule c.requires.ready c.requires.class_value c.reserve.ensures in
    let d5 = angle.cast₅ c.args.tree.now n c.advance-a.ensures c.ty-inner.ensures c.in-Next.is c.eat-angle.ensures c.in-Next-angle.is c.eat-colons.ensures c.in-Next-colons.is
    c.eat-into.ensures c.in-Next-into.is in
    let f = entered.on n d5 (omega arith) in
    (omega arith, law.near f.ready)

pub c::cast-returns : goal.c::cast-returns
c::cast-returns t c =
    let n = entered.by call.cast-rule c.requires.ready c.requires.class_value c.reserve.ensures in
    let d5 = angle.cast₅ c.args.tree.now n c.advance-a.ensures c.ty-inner.ensures c.in-Next.is c.eat-angle.ensures c.in-Next-angle.is c.eat-colons.ensures c.in-Next-colons.is
    c.eat-into.ensures c.in-Next-into.is in
    ends.call-shut n tt d5 (λ W h ms m z l d. call.cast-head d ∙ ap call_head (sym (call.at-cast c.args.st.class n.chosen))) c.close_call.ensures

pub c::close_angled-returns-in_default : goal.c::close_angled-returns-in_default
c::close_angled-returns-in_default t c = ends.angle-stuck c.in_default.is c.eat-angle.ensures

pub c::close_angled-close_call-requires : goal.c::close_angled-close_call-requires
c::close_angled-close_call-requires t c =
    let d0 = starts 0 AnyN (tok class.RAngle ∷ nt n-arguments ∷ []) c.args.tree.now c.requires.stands in
    let d1 = then-eats d0 (omega arith) c.eat-angle.ensures c.in-Next.is (sign-mark 0 class.RAngle tt) in
    (omega arith, law.near (armed.near-onward c.requires d1 (omega arith)))

pub c::close_angled-returns : goal.c::close_angled-returns
c::close_angled-returns t c = ends.angle-ends c.in-Next.is c.eat-angle.ensures c.close_call.ensures

pub c::close_call-returns-in_default : goal.c::close_call-returns-in_default
c::close_call-returns-in_default t c = ends.call-stuck c.in_default.is c.args-inner.ensures

pub c::close_call-returns : goal.c::close_call-returns
c::close_call-returns t c = ends.call-ends c.in-Next.is c.args-inner.ensures (rw c.call.ensures at (rw c.of_call.ensures at c.close.ensures))

pub c::generic-returns-then-a-ne-DOUBLE_COLON : goal.c::generic-returns-then-a-ne-DOUBLE_COLON
c::generic-returns-then-a-ne-DOUBLE_COLON t c =
    let z = rule.uncalled-rule c.args.call c.requires.uncalled in
    let n = rule.enters z.by c.requires.ready c.reserve.ensures in
    let k = kind_number c.alone.result in
    let ks = call.alone-kinds c.args.st.class k c.alone.ensures in
    let a1 = law.first-mark n.ready n.opened z.by.one_token k AnyN (nt z.by.B ∷ []) c.args.tree.now c.advance-a.ensures (keeping-mark k c.args.st.class (call.alone-keeps ks)) in
    let a2 = turns [] a1 z.optional.flat (z.optional.elsewhere _ c.if-a-ne-DOUBLE_COLON.true) in
    entered.whole n (rule.shut-named z.by n.ready n.opened a2 (omega arith)
    (call.alone-is c.args.st.class z.by.name ∙ sym c.alone.ensures) (call.alone-angle c.args.st.class z.by.name) (call.alone-unturned ks)
    ExprKind (call.alone-kind ks) (rw c.plain.ensures at c.close.ensures))

pub c::generic-built-requires : goal.c::generic-built-requires
c::generic-built-requires t c =
    let b = law.begun c.reserve.ensures c.advance-a.ensures c.if-a-ne-DOUBLE_COLON.false c.advance-b.ensures in
    (omega arith, (c.requires.ready, (rule.uncalled-leads c.args.call c.requires.uncalled c.if-b-ne-LANGLE.true, b)))

pub c::loops-name-inner-requires : goal.c::loops-name-inner-requires
c::loops-name-inner-requires t c =
    let n = entered.by call.whiles-rule c.requires.ready c.requires.class_value refl in
    ready-near (entered.on n (angle.whiles₁ c.args.tree.now n c.requires.angled c.advance-d.ensures) (omega arith)).ready

pub c::loops-returns-in_default : goal.c::loops-returns-in_default
c::loops-returns-in_default t c =
    let n = entered.by call.whiles-rule c.requires.ready c.requires.class_value refl in
    entered.passed n (angle.whiles₁ c.args.tree.now n c.requires.angled c.advance-d.ensures) c.in_default.is c.name-inner.ensures

pub c::loops-close_angled-requires : goal.c::loops-close_angled-requires
c::loops-close_angled-requires t c =
    let n = entered.by call.whiles-rule c.requires.ready c.requires.class_value refl in
    let f = entered.on n (angle.whiles₂ c.args.tree.now n c.requires.angled c.advance-d.ensures c.name-inner.ensures c.in-Next.is) (omega arith) in
    (omega arith, law.near f.ready)

pub c::loops-returns : goal.c::loops-returns
c::loops-returns t c =
    let n = entered.by call.whiles-rule c.requires.ready c.requires.class_value refl in
    let d2 = angle.whiles₂ c.args.tree.now n c.requires.angled c.advance-d.ensures c.name-inner.ensures c.in-Next.is in
    ends.angle-shut n tt d2 (λ W h ms m z l d. call.whiles-head d) c.close_angled.ensures

pub c::named-returns-in_default : goal.c::named-returns-in_default
c::named-returns-in_default t c =
    let n = entered.by call.named_rule c.requires.ready c.requires.class_value c.reserve.ensures in
    let s = c.args.st.class in
    let a1 = steps.marked₁ kind.Variable tt c.args.tree.now n c.advance-a.ensures in
    let a2 = then_turns [] a1 call.flat-named (call.named-alone (λ h. omega arith) (λ h. omega arith)) in
    entered.closes n tt a2 (omega arith) (call.form-named a2 ∙ call.variable-is s (call.named-name s n.chosen) (call.named-variable s n.chosen)) tt
    ExprKind call.variable-kind (rw c.plain.ensures at c.close.ensures)

pub c::of_type-ty-inner-requires : goal.c::of_type-ty-inner-requires
c::of_type-ty-inner-requires t c =
    let n = entered.by call.typed-rule c.requires.ready c.requires.class_value refl in
    (entered.on n (angle.typed₁ c.args.tree.now n c.requires.angled c.advance-d.ensures) (omega arith)).ready

pub c::of_type-returns-in_default : goal.c::of_type-returns-in_default
c::of_type-returns-in_default t c =
    let n = entered.by call.typed-rule c.requires.ready c.requires.class_value refl in
    entered.passed n (angle.typed₁ c.args.tree.now n c.requires.angled c.advance-d.ensures) c.in_default.is c.ty-inner.ensures

pub c::of_type-close_angled-requires : goal.c::of_type-close_angled-requires
c::of_type-close_angled-requires t c =
    let n = entered.by call.typed-rule c.requires.ready c.requires.class_value refl in
    let f = entered.on n (angle.typed₂ c.args.tree.now n c.requires.angled c.advance-d.ensures c.ty-inner.ensures c.in-Next.is).amid (omega arith) in
    (omega arith, law.near f.ready)

pub c::of_type-returns : goal.c::of_type-returns
c::of_type-returns t c =
    let n = entered.by call.typed-rule c.requires.ready c.requires.class_value refl in
    let d2 = angle.typed₂ c.args.tree.now n c.requires.angled c.advance-d.ensures c.ty-inner.ensures c.in-Next.is in
    ends.angle-shut n tt d2.amid (λ W h ms m z l d. call.typed-head d) c.close_angled.ensures

pub c::path-returns-in_default : goal.c::path-returns-in_default
c::path-returns-in_default t c = chain2.then-names-passed (law.path-starts c.args.tree.now c.requires) (refusal c.in_default.is) (λ τ p h. h) c.names-inner.ensures

pub c::path-returns-then-a-ne-LPAREN : goal.c::path-returns-then-a-ne-LPAREN
c::path-returns-then-a-ne-LPAREN t c = read (law.path-ends (steps.path₁ c.requires c.names-inner.ensures c.in-Next.is) c.if-a-ne-LPAREN.true)

pub c::path-args-rest-requires : goal.c::path-args-rest-requires
c::path-args-rest-requires t c =
    let d1 = steps.path₁ c.requires c.names-inner.ensures c.in-Next.is in
    (omega arith, law.near (onward c.requires d1.amid))

pub c::path-returns-in_default-rest : goal.c::path-returns-in_default-rest
c::path-returns-in_default-rest t c =
    part-passed (law.path-into (steps.path₁ c.requires c.names-inner.ensures c.in-Next.is) c.if-a-ne-LPAREN.false) c.in_default-rest.is c.args-rest.ensures

pub c::path-returns : goal.c::path-returns
c::path-returns t c =
    let d1 = steps.path₁ c.requires c.names-inner.ensures c.in-Next.is in
    read (law.path-called d1 (law.then-args (law.path-into d1 c.if-a-ne-LPAREN.false) c.args-rest.ensures c.in-Next-rest.is))

pub c::simple-close_call-requires : goal.c::simple-close_call-requires
c::simple-close_call-requires t c =
    let n = entered.by call.simple-rule c.requires.ready c.requires.class_value c.reserve.ensures in
    let d1 = steps.simple₁ n c.advance-a.ensures c.callee-b.ensures in
    (omega arith, law.nearly n.ready n.opened d1.amid)

pub c::simple-returns : goal.c::simple-returns
c::simple-returns t c =
    let n = entered.by call.simple-rule c.requires.ready c.requires.class_value c.reserve.ensures in
    let s = c.args.st.class in
    let d1 = steps.simple₁ n c.advance-a.ensures c.callee-b.ensures in
    ends.call-shut n tt d1.amid (λ W h ms m z l d. call.form-simple d ∙ call.unwrapped-is s W (call.simple-apart s n.chosen) (call.simple-unwrapped s n.chosen) h) c.close_call.ensures

pub c::wrap-args-inner-requires : goal.c::wrap-args-inner-requires
c::wrap-args-inner-requires t c =
    let n = steps.wrapper₀ c.requires.ready c.requires.wraps.0 in
    let f = entered.on n (steps.wrapped₁ kind.Left tt c.args.tree.now n c.requires.moved c.requires.class_value) (omega arith) in
    (omega arith, law.near f.ready)

pub c::wrap-returns-in_default : goal.c::wrap-returns-in_default
c::wrap-returns-in_default t c =
    let n = steps.wrapper₀ c.requires.ready c.requires.wraps.0 in
    entered.passed n (steps.wrapped₁ kind.Left tt c.args.tree.now n c.requires.moved c.requires.class_value) c.in_default.is c.args-inner.ensures

pub c::wrap-returns-then-lone-eq-LONE : goal.c::wrap-returns-then-lone-eq-LONE
c::wrap-returns-then-lone-eq-LONE t c =
    let s = c.args.st.class in
    let w = c.requires.wraps in
    let n = steps.wrapper₀ c.requires.ready w.0 in
    let d1 = steps.wrapped₁ (kind_number c.args.kind) (call.wrapper-keeps s w.0 w.1) c.args.tree.now n c.requires.moved c.requires.class_value in
    let d2 = law.then-args d1 c.args-inner.ensures c.in-Next.is in
    entered.closes n tt d2.amid (omega arith) (call.form-named d2.amid ∙ call.wrapper-is s w.0 w.1 d2.W (call.named-apart s n.chosen) d2.commas d2.lone_is c.if-lone-eq-LONE.true)
    (call.wrapper-unturned s w.0 w.1) ExprKind (call.wrapper-kind s w.0 w.1) (rw c.plain.ensures at c.close.ensures)

pub c::wrap-returns : goal.c::wrap-returns
c::wrap-returns t c =
    let s = c.args.st.class in
    let w = c.requires.wraps.0 in
    let n = steps.wrapper₀ c.requires.ready w in
    let y = law.near (entered.on n (steps.wrapped₁ kind.Left tt c.args.tree.now n c.requires.moved c.requires.class_value) (omega arith)).ready in
    let g = law.went-args c.args-inner.ensures c.in-Next.is in
    let p = law.put-before y g c.name-z.ensures.put c.name-z.ensures.value c.exchange.ensures in
    let d1 = law.first-name n.ready n.opened (call.for-named s n.chosen) kind.Call AnyN (nt n-named-optional ∷ []) c.requires.moved p refl (call.called-role s (call.wrapper-named s w)) in
    let d2 = steps.into-args d1 (reserved-class c.args.a refl ∙ c.requires.class_value) in
    let d3 = law.then-args d2 (read (law.behind y g c.name-z.ensures.put c.name-z.ensures.value c.exchange.ensures)) refl in
    entered.closes n tt d3.amid (omega arith) (call.form-named d3.amid ∙ call.other-is s d3.W w (call.named-apart s n.chosen) d3.commas d3.lone_is c.if-lone-eq-LONE.false) tt
    ExprKind call.call-kind (rw c.of_call.ensures at c.close-2.ensures)

pub cases-expr-inner-requires : goal.cases-expr-inner-requires
cases-expr-inner-requires t c =
    let n = entered.apart match.match-rule c.requires.ready c.requires.class_value c.clean.ensures c.reserve.ensures in
    let f = entered.on n (match.match₁ kind.Match c.args.tree.now n c.advance-a.ensures) (omega arith) in
    (omega arith, f.ready)

pub cases-returns-in_default : goal.cases-returns-in_default
cases-returns-in_default t c =
    let n = entered.apart match.match-rule c.requires.ready c.requires.class_value c.clean.ensures c.reserve.ensures in
    entered.passed n (match.match₁ kind.Match c.args.tree.now n c.advance-a.ensures) c.in_default.is c.expr-inner.ensures

pub cases-returns-in_default-open : goal.cases-returns-in_default-open
cases-returns-in_default-open t c =
    let n = entered.apart match.match-rule c.requires.ready c.requires.class_value c.clean.ensures c.reserve.ensures in
    entered.lacks n (match.match₂ kind.Match c.args.tree.now n c.advance-a.ensures c.expr-inner.ensures c.in-Next.is).amid c.in_default-open.is c.eat-open.ensures

pub cases-arms-rest-requires : goal.cases-arms-rest-requires
cases-arms-rest-requires t c =
    let n = entered.apart match.match-rule c.requires.ready c.requires.class_value c.clean.ensures c.reserve.ensures in
    let d3 = match.match₃ kind.Match c.args.tree.now n c.advance-a.ensures c.expr-inner.ensures c.in-Next.is c.eat-open.ensures c.in-Next-open.is in
    let f = entered.on n d3 (omega arith) in
    (omega arith, (f.ready, omega arith))

pub cases-returns-in_default-rest : goal.cases-returns-in_default-rest
cases-returns-in_default-rest t c =
    let n = entered.apart match.match-rule c.requires.ready c.requires.class_value c.clean.ensures c.reserve.ensures in
    let d3 = match.match₃ kind.Match c.args.tree.now n c.advance-a.ensures c.expr-inner.ensures c.in-Next.is c.eat-open.ensures c.in-Next-open.is in
    entered.passed n d3 c.in_default-rest.is c.arms-rest.ensures

pub cases-returns-in_default-brace : goal.cases-returns-in_default-brace
cases-returns-in_default-brace t c =
    let n = entered.apart match.match-rule c.requires.ready c.requires.class_value c.clean.ensures c.reserve.ensures in
    let d4 = match.match₄ n c.advance-a.ensures c.expr-inner.ensures c.in-Next.is c.eat-open.ensures c.in-Next-open.is c.arms-rest.ensures c.in-Next-rest.is in
    entered.lacks n d4.amid c.in_default-brace.is c.eat-brace.ensures

pub cases-returns : goal.cases-returns
cases-returns t c =
    let n = entered.apart match.match-rule c.requires.ready c.requires.class_value c.clean.ensures c.reserve.ensures in
    match.match-shut n c.advance-a.ensures c.expr-inner.ensures c.in-Next.is c.eat-open.ensures c.in-Next-open.is c.arms-rest.ensures c.in-Next-rest.is c.eat-brace.ensures c.in-Next-brace.is
    c.arrange.ensures (rw⁻¹ c.kind.ensures (rw c.plain.ensures at c.close.ensures)) (judged-at c.judged-z.ensures c.placed.ensures c.fault.ensures refl)

pub elems-loop-here-init : goal.elems-loop-here-init
elems-loop-here-init t c = elem.elems-start c.requires

pub elems-returns-in_default : goal.elems-returns-in_default
elems-returns-in_default t c = elem.let-passed c.requires c.loop-here.invariant c.if-here-eq-LET.true (refusal c.in_default.is) c.assign-statement.ensures

pub elems-returns-in_default-semi : goal.elems-returns-in_default-semi
elems-returns-in_default-semi t c =
    elem.let-lacks c.requires c.loop-here.invariant c.if-here-eq-LET.true c.assign-statement.ensures c.in-Next.is (refusal c.in_default-semi.is) c.eat-semi.ensures

pub elems-loop-here-smaller-then-here-eq-LET : goal.elems-loop-here-smaller-then-here-eq-LET
elems-loop-here-smaller-then-here-eq-LET t c =
    elem.let-less c.requires c.loop-here.invariant c.if-here-eq-LET.true c.assign-statement.ensures c.in-Next.is c.eat-semi.ensures c.in-Next-semi.is

pub elems-loop-here-preserved-then-here-eq-LET : goal.elems-loop-here-preserved-then-here-eq-LET
elems-loop-here-preserved-then-here-eq-LET t c =
    elem.let-again c.requires c.loop-here.invariant c.if-here-eq-LET.true c.assign-statement.ensures c.in-Next.is c.eat-semi.ensures c.in-Next-semi.is

pub elems-returns-in_default-inner : goal.elems-returns-in_default-inner
elems-returns-in_default-inner t c = elem.expr-passed c.requires c.loop-here.invariant c.loop-here-test.true c.if-here-eq-LET.false (refusal c.in_default-inner.is) c.expr-inner.ensures

pub elems-returns-then-d-ne-SEMI : goal.elems-returns-then-d-ne-SEMI
elems-returns-then-d-ne-SEMI t c =
    read (elem.expr-last c.requires c.loop-here.invariant c.loop-here-test.true c.if-here-eq-LET.false c.expr-inner.ensures c.in-Next-inner.is c.if-d-ne-SEMI.true)

pub elems-loop-here-smaller : goal.elems-loop-here-smaller
elems-loop-here-smaller t c =
    elem.expr-less c.requires c.loop-here.invariant c.loop-here-test.true c.if-here-eq-LET.false c.expr-inner.ensures c.in-Next-inner.is c.if-d-ne-SEMI.false c.advance-here.ensures

pub elems-loop-here-preserved : goal.elems-loop-here-preserved
elems-loop-here-preserved t c =
    elem.expr-again c.requires c.loop-here.invariant c.loop-here-test.true c.if-here-eq-LET.false c.expr-inner.ensures c.in-Next-inner.is c.if-d-ne-SEMI.false c.advance-here.ensures

pub elems-returns : goal.elems-returns
elems-returns t c = read (elem.elems-end c.requires c.loop-here.invariant c.loop-here-test.false)

pub expr-returns-then-st-eq-LBRACE : goal.expr-returns-then-st-eq-LBRACE
expr-returns-then-st-eq-LBRACE t c = form.as-part form.expression-choice.flat c.requires (form.expression-choice.there c.args.st.class c.if-st-eq-LBRACE.true) c.block-step.ensures

pub expr-returns : goal.expr-returns
expr-returns t c = form.as-part form.expression-choice.flat c.requires (form.expression-choice.elsewhere c.args.st.class c.if-st-eq-LBRACE.false) c.single.ensures

pub exprs-loop-tree-init : goal.exprs-loop-tree-init
exprs-loop-tree-init t c = lined.lined-starts form.expression-rows c.requires elem.nothing

pub exprs-returns-in_default : goal.exprs-returns-in_default
exprs-returns-in_default t c =
    let n = pattern.open_at c.loop-tree.here.class c.closes.ensures (ap not c.loop-tree-test.true) in
    lined.lined-passed form.expression-rows c.requires c.loop-tree.invariant n (refusal c.in_default.is) c.expr-inner.ensures

pub exprs-returns-then-a-ne-COMMA : goal.exprs-returns-then-a-ne-COMMA
exprs-returns-then-a-ne-COMMA t c =
    let v = c.loop-tree.invariant in
    let n = pattern.open_at c.loop-tree.here.class c.closes.ensures (ap not c.loop-tree-test.true) in
    let i = lined.item form.expression-rows c.requires v n c.expr-inner.ensures c.in-Next.is in
    read (lined.lined-last form.expression-rows c.requires v n c.expr-inner.ensures c.in-Next.is c.if-a-ne-COMMA.true
    (λ J K m a b e. record { same = a; commas = b; lone_is = ap lone e ∙ elem.counted-last i.kind i.low i.high i.first c.first.result v.so c.first.ensures }))

pub exprs-loop-tree-smaller : goal.exprs-loop-tree-smaller
exprs-loop-tree-smaller t c =
    let n = pattern.open_at c.loop-tree.here.class c.closes.ensures (ap not c.loop-tree-test.true) in
    lined.again-fewer form.expression-rows c.requires c.loop-tree.invariant n c.expr-inner.ensures c.in-Next.is c.if-a-ne-COMMA.false c.advance-here.ensures

pub exprs-loop-tree-preserved : goal.exprs-loop-tree-preserved
exprs-loop-tree-preserved t c =
    let n = pattern.open_at c.loop-tree.here.class c.closes.ensures (ap not c.loop-tree-test.true) in
    elem.exprs-again c.requires c.loop-tree.invariant n c.expr-inner.ensures c.in-Next.is c.if-a-ne-COMMA.false c.advance-here.ensures

pub exprs-returns : goal.exprs-returns
exprs-returns t c =
    read (lined.lined-ends form.expression-rows c.requires c.loop-tree.invariant (pattern.shut_at c.loop-tree.here.class c.closes.ensures (ap not c.loop-tree-test.false))
    (λ J K m a b e. record { same = a; commas = b; lone_is = elem.counted-lone e }))

pub list-returns-in_default : goal.list-returns-in_default
list-returns-in_default t c =
    let n = entered.by form.listed-rule c.requires.ready c.requires.class_value c.reserve.ensures in
    entered.lacks n (bracket.listed₁ c.args.tree.now n c.advance-a.ensures) c.in_default.is c.eat-open.ensures

pub list-exprs-inner-requires : goal.list-exprs-inner-requires
list-exprs-inner-requires t c =
    let n = entered.by form.listed-rule c.requires.ready c.requires.class_value c.reserve.ensures in
    let f = entered.on n (bracket.listed₂ c.args.tree.now n c.advance-a.ensures c.eat-open.ensures c.in-Next.is) (omega arith) in
    (omega arith, f.ready)

pub list-returns-in_default-inner : goal.list-returns-in_default-inner
list-returns-in_default-inner t c =
    let n = entered.by form.listed-rule c.requires.ready c.requires.class_value c.reserve.ensures in
    entered.passed n (bracket.listed₂ c.args.tree.now n c.advance-a.ensures c.eat-open.ensures c.in-Next.is) c.in_default-inner.is c.exprs-inner.ensures

pub list-returns-in_default-bracket : goal.list-returns-in_default-bracket
list-returns-in_default-bracket t c =
    let n = entered.by form.listed-rule c.requires.ready c.requires.class_value c.reserve.ensures in
    let d3 = bracket.listed₃ c.args.tree.now n c.advance-a.ensures c.eat-open.ensures c.in-Next.is c.exprs-inner.ensures c.in-Next-inner.is in
    entered.lacks n d3.amid c.in_default-bracket.is c.eat-bracket.ensures

pub list-returns : goal.list-returns
list-returns t c =
    let n = entered.by form.listed-rule c.requires.ready c.requires.class_value c.reserve.ensures in
    let d3 = bracket.listed₃ c.args.tree.now n c.advance-a.ensures c.eat-open.ensures c.in-Next.is c.exprs-inner.ensures c.in-Next-inner.is in
    let d4 = then-eats d3.amid (omega arith) c.eat-bracket.ensures c.in-Next-bracket.is (sign-mark kind.List class.RBracket tt) in
    entered.closes n tt d4 (omega arith) (form.listed-head d4) tt ExprKind (form.expr-kind (omega arith, omega arith)) (rw c.plain.ensures at c.close.ensures)

pub single-returns-in_default : goal.single-returns-in_default
single-returns-in_default t c =
    let y = c.requires in
    stuck y.stands.within (λ τ. k_nt (ap (expand table n-single) (sym y.stands.class_is) ∙ form.no-single c.args.st.class c.singles.result c.singles.ensures (search rules)))
