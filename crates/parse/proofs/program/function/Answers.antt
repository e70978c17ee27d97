-- Assumes nothing.
use Rattle.std.proofs.Common.{◌+◌, arith, refl}
use Rattle.own.specs.Kinds as kind
use Rattle.parse.specs.Contract.{text, tok_at}
use Rattle.parse.specs.Infos.{FunctionKind}
use Rattle.parse.proofs.names.Steps.{ready-near}
use Rattle.parse.proofs.Rule.Amid.{starts, done}
use Rattle.parse.proofs.Rule.Closing.{opens}
use Rattle.parse.proofs.Rule.Chain.{then-node}
use Rattle.parse.proofs.Rule.Commas.{AnyN}
use Rattle.parse.proofs.Rule.Entered as entered
use Rattle.parse.proofs.Rule.Entered.{closes}
use Rattle.parse.proofs.names.Joined.{function-name-class}
use Rattle.parse.proofs.program.Forms as form
use Rattle.parse.proofs.program.FunctionHead as head
use Rattle.parse.proofs.program.Steps as step
use Rattle.parse.proofs.program.function.Goals as goal

pub public-first-requires : goal.public-first-requires
public-first-requires c = form.opened-near c.requires (opens c.requires c.reserve.ensures)

pub returns-in_default : goal.returns-in_default
returns-in_default c =
    let d0 = starts kind.Function AnyN form.function_rhs c.args.tree.now (opens c.requires c.reserve.ensures).stands in
    step.function-passed c.requires c.reserve.ensures d0 c.in_default.is (c.public-first.ensures c.args.tree.now)

pub returns-in_default-word : goal.returns-in_default-word
returns-in_default-word c =
    let d1 = step.function₁ c.requires c.reserve.ensures c.args.tree.now (c.public-first.ensures c.args.tree.now) c.in-Next.is in
    step.function-lacks c.requires c.reserve.ensures d1.amid c.in_default-word.is c.eat-word.ensures

pub name-name-requires : goal.name-name-requires
name-name-requires c =
    let d2 = step.function₂ c.requires c.reserve.ensures c.args.tree.now (c.public-first.ensures c.args.tree.now) c.in-Next.is c.eat-word.ensures c.in-Next-word.is in
    ready-near (step.function-ready c.requires c.reserve.ensures d2 (omega arith))

pub returns-in_default-name : goal.returns-in_default-name
returns-in_default-name c =
    let d2 = step.function₂ c.requires c.reserve.ensures c.args.tree.now (c.public-first.ensures c.args.tree.now) c.in-Next.is c.eat-word.ensures c.in-Next-word.is in
    step.function-passed c.requires c.reserve.ensures d2 c.in_default-name.is c.name-name.ensures

pub returns-in_default-left : goal.returns-in_default-left
returns-in_default-left c =
    let d3 = step.function₃ c.requires c.reserve.ensures c.args.tree.now (c.public-first.ensures c.args.tree.now) c.in-Next.is c.eat-word.ensures c.in-Next-word.is c.name-name.ensures c.in-Next-name.is in
    step.function-lacks c.requires c.reserve.ensures d3 c.in_default-left.is c.eat-left.ensures

pub parameters-inner-requires : goal.parameters-inner-requires
parameters-inner-requires c =
    let d4 = step.function₄ c.requires c.reserve.ensures c.args.tree.now (c.public-first.ensures c.args.tree.now) c.in-Next.is c.eat-word.ensures c.in-Next-word.is c.name-name.ensures c.in-Next-name.is c.eat-left.ensures c.in-Next-left.is in
    step.function-ready c.requires c.reserve.ensures d4 (omega arith)

pub returns-in_default-inner : goal.returns-in_default-inner
returns-in_default-inner c =
    let d4 = step.function₄ c.requires c.reserve.ensures c.args.tree.now (c.public-first.ensures c.args.tree.now) c.in-Next.is c.eat-word.ensures c.in-Next-word.is c.name-name.ensures c.in-Next-name.is c.eat-left.ensures c.in-Next-left.is in
    step.function-passed c.requires c.reserve.ensures d4 c.in_default-inner.is c.parameters-inner.ensures

pub returns-in_default-paren : goal.returns-in_default-paren
returns-in_default-paren c =
    let d5 = step.function₅ c.requires c.reserve.ensures c.args.tree.now (c.public-first.ensures c.args.tree.now) c.in-Next.is c.eat-word.ensures c.in-Next-word.is c.name-name.ensures c.in-Next-name.is c.eat-left.ensures c.in-Next-left.is
    c.parameters-inner.ensures c.in-Next-inner.is in
    step.function-lacks c.requires c.reserve.ensures d5.amid c.in_default-paren.is c.eat-paren.ensures

pub result-arrow-requires : goal.result-arrow-requires
result-arrow-requires c =
    let d6 = step.function₆ c.requires c.reserve.ensures c.args.tree.now (c.public-first.ensures c.args.tree.now) c.in-Next.is c.eat-word.ensures c.in-Next-word.is c.name-name.ensures c.in-Next-name.is c.eat-left.ensures c.in-Next-left.is
    c.parameters-inner.ensures c.in-Next-inner.is c.eat-paren.ensures c.in-Next-paren.is in
    step.function-ready c.requires c.reserve.ensures d6 (omega arith)

pub returns-in_default-arrow : goal.returns-in_default-arrow
returns-in_default-arrow c =
    let d6 = step.function₆ c.requires c.reserve.ensures c.args.tree.now (c.public-first.ensures c.args.tree.now) c.in-Next.is c.eat-word.ensures c.in-Next-word.is c.name-name.ensures c.in-Next-name.is c.eat-left.ensures c.in-Next-left.is
    c.parameters-inner.ensures c.in-Next-inner.is c.eat-paren.ensures c.in-Next-paren.is in
    step.function-passed c.requires c.reserve.ensures d6 c.in_default-arrow.is c.result-arrow.ensures

pub block-body-requires : goal.block-body-requires
block-body-requires c =
    let d7 = step.function₇ c.requires c.reserve.ensures c.args.tree.now (c.public-first.ensures c.args.tree.now) c.in-Next.is c.eat-word.ensures c.in-Next-word.is c.name-name.ensures c.in-Next-name.is c.eat-left.ensures c.in-Next-left.is
    c.parameters-inner.ensures c.in-Next-inner.is c.eat-paren.ensures c.in-Next-paren.is c.result-arrow.ensures c.in-Next-arrow.is in
    step.function-ready c.requires c.reserve.ensures d7.amid (omega arith)

pub returns-in_default-body : goal.returns-in_default-body
returns-in_default-body c =
    let d7 = step.function₇ c.requires c.reserve.ensures c.args.tree.now (c.public-first.ensures c.args.tree.now) c.in-Next.is c.eat-word.ensures c.in-Next-word.is c.name-name.ensures c.in-Next-name.is c.eat-left.ensures c.in-Next-left.is
    c.parameters-inner.ensures c.in-Next-inner.is c.eat-paren.ensures c.in-Next-paren.is c.result-arrow.ensures c.in-Next-arrow.is in
    step.function-passed c.requires c.reserve.ensures d7.amid c.in_default-body.is c.block-body.ensures

pub overflow_add-head : goal.overflow_add-head
overflow_add-head c =
    let d1 = step.function₁ c.requires c.reserve.ensures c.args.tree.now (c.public-first.ensures c.args.tree.now) c.in-Next.is in
    let d7 = step.function₇ c.requires c.reserve.ensures c.args.tree.now (c.public-first.ensures c.args.tree.now) c.in-Next.is c.eat-word.ensures c.in-Next-word.is c.name-name.ensures c.in-Next-name.is c.eat-left.ensures c.in-Next-left.is
    c.parameters-inner.ensures c.in-Next-inner.is c.eat-paren.ensures c.in-Next-paren.is c.result-arrow.ensures c.in-Next-arrow.is in
    omega (arith, head.low_fits d1.W d7.W d1.so.there d7.so.there)

pub returns : goal.returns
returns c =
    let d1 = step.function₁ c.requires c.reserve.ensures c.args.tree.now (c.public-first.ensures c.args.tree.now) c.in-Next.is in
    let d5 = step.function₅ c.requires c.reserve.ensures c.args.tree.now (c.public-first.ensures c.args.tree.now) c.in-Next.is c.eat-word.ensures c.in-Next-word.is c.name-name.ensures c.in-Next-name.is c.eat-left.ensures c.in-Next-left.is
    c.parameters-inner.ensures c.in-Next-inner.is in
    let d7 = step.function₇ c.requires c.reserve.ensures c.args.tree.now (c.public-first.ensures c.args.tree.now) c.in-Next.is c.eat-word.ensures c.in-Next-word.is c.name-name.ensures c.in-Next-name.is c.eat-left.ensures c.in-Next-left.is
    c.parameters-inner.ensures c.in-Next-inner.is c.eat-paren.ensures c.in-Next-paren.is c.result-arrow.ensures c.in-Next-arrow.is in
    let fname = function-name-class c.name-name.ensures c.in-Next-name.is in
    let x = text c.args.source.now in
    let d8 = then-node d7.amid c.block-body.ensures c.in-Next-body.is in
    let z = head.function-head d1.W d5.W d7.W (tok_at x c.in-Next-word.b.at).class d8.kind d8.low d8.high d8.first fname d1.so.there d1.so.others d1.so.no_parameters d5.so.commas d5.so.count_is d7.so.there d7.so.others d7.so.no_parameters d8.its_kind x in
    let n = entered.by form.function-rule c.requires (form.function-begins c.requires (opens c.requires c.reserve.ensures) (done d8.amid)) c.reserve.ensures in
    closes n tt d8.amid (head.owns ((((0 + d1.k) + 1) + 1) + d5.k) d7.k) (z _) tt FunctionKind refl c.close.ensures
