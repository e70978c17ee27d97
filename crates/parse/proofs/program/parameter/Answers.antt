-- Assumes nothing.
use Rattle.std.proofs.Common.{refl, arith}
use Rattle.parse.specs.Infos.{ParameterKind}
use Rattle.parse.proofs.Rule.Closing.{opens}
use Rattle.parse.proofs.Rule.Chain.{further, then-node}
use Rattle.parse.proofs.Rule.Entered.{passed, lacks, closes}
use Rattle.parse.proofs.Rule.Refused.{refusal}
use Rattle.parse.proofs.program.Forms as form
use Rattle.parse.proofs.program.Steps as step
use Rattle.parse.proofs.program.parameter.Goals as goal

pub name-first-requires : goal.name-first-requires
name-first-requires c = form.opened-near c.requires (opens c.requires c.reserve.ensures)

pub returns-in_default : goal.returns-in_default
returns-in_default c = form.parameter-passed c.requires (opens c.requires c.reserve.ensures) (refusal c.in_default.is) c.name-first.ensures

pub returns-in_default-colon : goal.returns-in_default-colon
returns-in_default-colon c =
    let n = step.parameter-entered c.requires c.reserve.ensures c.args.tree.now c.name-first.ensures c.in-Next.is in
    lacks n (step.parameter₁ c.requires c.reserve.ensures c.args.tree.now c.name-first.ensures c.in-Next.is) c.in_default-colon.is c.eat-colon.ensures

pub ty-inner-requires : goal.ty-inner-requires
ty-inner-requires c =
    let d2 = step.parameter₂ c.requires c.reserve.ensures c.args.tree.now c.name-first.ensures c.in-Next.is c.eat-colon.ensures c.in-Next-colon.is in
    (further c.requires (opens c.requires c.reserve.ensures) d2 (omega arith)).ready

pub returns-in_default-inner : goal.returns-in_default-inner
returns-in_default-inner c =
    let n = step.parameter-entered c.requires c.reserve.ensures c.args.tree.now c.name-first.ensures c.in-Next.is in
    let d2 = step.parameter₂ c.requires c.reserve.ensures c.args.tree.now c.name-first.ensures c.in-Next.is c.eat-colon.ensures c.in-Next-colon.is in
    passed n d2 c.in_default-inner.is c.ty-inner.ensures

pub returns : goal.returns
returns c =
    let n = step.parameter-entered c.requires c.reserve.ensures c.args.tree.now c.name-first.ensures c.in-Next.is in
    let d2 = step.parameter₂ c.requires c.reserve.ensures c.args.tree.now c.name-first.ensures c.in-Next.is c.eat-colon.ensures c.in-Next-colon.is in
    let d3 = then-node d2 c.ty-inner.ensures c.in-Next-inner.is in
    closes n tt d3.amid (omega arith) (form.parameter-head d3.amid) tt ParameterKind refl (rw c.plain.ensures at c.close.ensures)
