-- Assumes nothing.
use Rattle.std.proofs.Common.{[], ◌∷◌, refl, arith}
use Rattle.theory.specs.Grammar.{nt}
use Rattle.parse.specs.Contract.{read}
use Rattle.parse.proofs.Rule.Amid.{went}
use Rattle.parse.proofs.Rule.Entered.{part-passed, part-lacks}
use Rattle.parse.proofs.heads.PairForms as pairs
use Rattle.parse.proofs.heads.Steps as step
use Rattle.grammar.specs.Shapes.TablesIndex.{n-head_path-optional-LParen}
use Rattle.parse.proofs.heads.pairs.Goals as goal

pub returns-then-st-ne-LPAREN : goal.returns-then-st-ne-LPAREN
returns-then-st-ne-LPAREN c =
    let s = pairs.on-starts (nt n-head_path-optional-LParen ∷ []) c.args.tree.now c.requires in
    read (pairs.on-many (pairs.on-turns [] s pairs.pairs-optional.flat (pairs.pairs-optional.elsewhere c.args.st.class c.if-st-ne-LPAREN.true)) refl)

pub pair-first-requires : goal.pair-first-requires
pair-first-requires c = pairs.on-ready c.requires (step.pairs₁ c.args.tree.now c.requires c.if-st-ne-LPAREN.false c.advance-a.ensures)

pub returns-in_default : goal.returns-in_default
returns-in_default c = part-passed (step.pairs₁ c.args.tree.now c.requires c.if-st-ne-LPAREN.false c.advance-a.ensures).amid c.in_default.is c.pair-first.ensures

pub more-rest-requires : goal.more-rest-requires
more-rest-requires c = pairs.on-ready c.requires (step.pairs₂ c.args.tree.now c.requires c.if-st-ne-LPAREN.false c.advance-a.ensures c.pair-first.ensures c.in-Next.is)

pub returns-in_default-rest : goal.returns-in_default-rest
returns-in_default-rest c =
    part-passed (step.pairs₂ c.args.tree.now c.requires c.if-st-ne-LPAREN.false c.advance-a.ensures c.pair-first.ensures c.in-Next.is).amid c.in_default-rest.is c.more-rest.ensures

pub returns-in_default-paren : goal.returns-in_default-paren
returns-in_default-paren c =
    part-lacks (step.pairs₃ c.args.tree.now c.requires c.if-st-ne-LPAREN.false c.advance-a.ensures c.pair-first.ensures c.in-Next.is (went c.in-Next-rest.is c.more-rest.ensures)).amid c.in_default-paren.is c.eat-paren.ensures

pub returns : goal.returns
returns c =
    let q = went c.in-Next-rest.is c.more-rest.ensures in
    let d3 = step.pairs₃ c.args.tree.now c.requires c.if-st-ne-LPAREN.false c.advance-a.ensures c.pair-first.ensures c.in-Next.is q in
    let d4 = pairs.on-eats d3 tt (λ e. omega arith) c.eat-paren.ensures c.in-Next-paren.is in
    read (pairs.on-many d4 (pairs.all_of q.info.k q.info.one_more))
