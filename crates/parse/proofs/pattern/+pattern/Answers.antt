-- Assumes nothing.
use Rattle.std.proofs.Common.{rules, not, sym, ap, ◌∙◌, arith}
use Rattle.theory.specs.Walk.{k_nt}
use Rattle.theory.specs.Machine.{expand}
use Rattle.grammar.specs.Shapes.Tables.{table}
use Rattle.grammar.specs.Shapes.TablesIndex.{n-list-pattern, n-pattern}
use Rattle.parse.specs.Contract.{read, stuck, PatternKind, pattern_kind}
use Rattle.parse.proofs.Rule.Chain.{further}
use Rattle.parse.proofs.Rule.Brackets.{bracket₁, bracket₂, bracket₃}
use Rattle.parse.proofs.Rule.Commas as lined
use Rattle.parse.proofs.Rule.Entered as entered
use Rattle.parse.proofs.Rule.Entered.{passed, lacks, closes}
use Rattle.parse.proofs.Rule.Refused.{refusal}
use Rattle.parse.proofs.pattern.Forms as form
use Rattle.parse.proofs.pattern.+pattern.Goals as goal

pub bracketed-patterns-inner-requires : goal.bracketed-patterns-inner-requires
bracketed-patterns-inner-requires t c =
    let b = c.args.brackets in
    let n = entered.by (form.list-rule b) c.requires.ready c.requires.class_value c.reserve.ensures in
    let f = further n.ready n.opened (bracket₁ (pattern_kind b) n-list-pattern b c.args.tree.now n.opened (form.at-list c.args.st.class b n.chosen) c.advance-a.ensures) (omega arith) in
    (omega (arith, f.ahead, f.within, c.decreases), f.ready)

pub bracketed-returns-in_default : goal.bracketed-returns-in_default
bracketed-returns-in_default t c =
    let b = c.args.brackets in
    let n = entered.by (form.list-rule b) c.requires.ready c.requires.class_value c.reserve.ensures in
    let d1 = bracket₁ (pattern_kind b) n-list-pattern b c.args.tree.now n.opened (form.at-list c.args.st.class b n.chosen) c.advance-a.ensures in
    passed n d1 c.in_default.is c.patterns-inner.ensures

pub bracketed-returns-in_default-end : goal.bracketed-returns-in_default-end
bracketed-returns-in_default-end t c =
    let b = c.args.brackets in
    let n = entered.by (form.list-rule b) c.requires.ready c.requires.class_value c.reserve.ensures in
    let d2 = bracket₂ (pattern_kind b) n-list-pattern b c.args.tree.now n.opened (form.at-list c.args.st.class b n.chosen) c.advance-a.ensures c.patterns-inner.ensures c.in-Next.is in
    lacks n d2.amid c.in_default-end.is (rw c.end.ensures at c.eat-end.ensures)

pub bracketed-returns : goal.bracketed-returns
bracketed-returns t c =
    let b = c.args.brackets in
    let n = entered.by (form.list-rule b) c.requires.ready c.requires.class_value c.reserve.ensures in
    let d3 = bracket₃ (pattern_kind b) n-list-pattern b c.args.tree.now n.opened (form.at-list c.args.st.class b n.chosen) c.advance-a.ensures c.patterns-inner.ensures c.in-Next.is (rw c.end.ensures at c.eat-end.ensures) c.in-Next-end.is in
    closes n (form.list-faultless b) d3 (omega arith) (form.list-head b d3) (form.list-unturned b) PatternKind (form.list-kind b) (rw (c.plain.ensures, c.kind.ensures) at c.close.ensures)

pub pattern-returns-in_default : goal.pattern-returns-in_default
pattern-returns-in_default t c =
    let y = c.requires in
    stuck y.stands.within (λ τ. k_nt (ap (expand table n-pattern) (sym y.stands.class_is) ∙ form.no-pattern c.args.st.class c.patterns.result c.patterns.ensures (search rules)))

pub patterns-loop-tree-init : goal.patterns-loop-tree-init
patterns-loop-tree-init t c = lined.lined-starts form.pattern-rows c.requires tt

pub patterns-returns-in_default : goal.patterns-returns-in_default
patterns-returns-in_default t c =
    lined.lined-passed form.pattern-rows c.requires c.loop-tree.invariant (form.open_at c.loop-tree.here.class c.closes.ensures (ap not c.loop-tree-test.true)) (refusal c.in_default.is) c.pattern-inner.ensures

pub patterns-returns-then-a-ne-COMMA : goal.patterns-returns-then-a-ne-COMMA
patterns-returns-then-a-ne-COMMA t c =
    read (lined.lined-last form.pattern-rows c.requires c.loop-tree.invariant (form.open_at c.loop-tree.here.class c.closes.ensures (ap not c.loop-tree-test.true)) c.pattern-inner.ensures c.in-Next.is c.if-a-ne-COMMA.true
    (λ J K m a b e. record { same = a; commas = b }))

pub patterns-loop-tree-smaller : goal.patterns-loop-tree-smaller
patterns-loop-tree-smaller t c =
    lined.again-fewer form.pattern-rows c.requires c.loop-tree.invariant (form.open_at c.loop-tree.here.class c.closes.ensures (ap not c.loop-tree-test.true)) c.pattern-inner.ensures c.in-Next.is c.if-a-ne-COMMA.false c.advance-here.ensures

pub patterns-loop-tree-preserved : goal.patterns-loop-tree-preserved
patterns-loop-tree-preserved t c =
    lined.lined-again form.pattern-rows c.requires c.loop-tree.invariant (form.open_at c.loop-tree.here.class c.closes.ensures (ap not c.loop-tree-test.true)) c.pattern-inner.ensures c.in-Next.is c.if-a-ne-COMMA.false c.advance-here.ensures tt

pub patterns-returns : goal.patterns-returns
patterns-returns t c =
    read (lined.lined-ends form.pattern-rows c.requires c.loop-tree.invariant (form.shut_at c.loop-tree.here.class c.closes.ensures (ap not c.loop-tree-test.false))
    (λ J K m a b e. record { same = a; commas = b }))
