-- Assumes nothing.
use Rattle.std.proofs.Common.{refl, arith}
use Rattle.parse.specs.Infos.{TypeItemKind}
use Rattle.parse.proofs.names.Steps.{ready-near}
use Rattle.parse.proofs.Rule.Chain.{further}
use Rattle.parse.proofs.Rule.Entered as entered
use Rattle.parse.proofs.Rule.Entered.{passed, lacks, closes}
use Rattle.parse.proofs.file.Forms as form
use Rattle.parse.proofs.file.Steps as step
use Rattle.parse.proofs.file.type_item.Goals as goal

pub name-name-requires : goal.name-name-requires
name-name-requires c =
    let n = entered.by form.type-item-rule c.requires.ready (form.at-type-item c.args.st.class c.requires.class_value) c.reserve.ensures in
    ready-near (further n.ready n.opened (step.item₁ c.args.tree.now n.opened c.requires.class_value c.advance-a.ensures) (omega arith)).ready

pub returns-in_default : goal.returns-in_default
returns-in_default c =
    let n = entered.by form.type-item-rule c.requires.ready (form.at-type-item c.args.st.class c.requires.class_value) c.reserve.ensures in
    passed n (step.item₁ c.args.tree.now n.opened c.requires.class_value c.advance-a.ensures) c.in_default.is c.name-name.ensures

pub returns-in_default-equals : goal.returns-in_default-equals
returns-in_default-equals c =
    let n = entered.by form.type-item-rule c.requires.ready (form.at-type-item c.args.st.class c.requires.class_value) c.reserve.ensures in
    lacks n (step.item₂ c.args.tree.now n.opened c.requires.class_value c.advance-a.ensures c.name-name.ensures c.in-Next.is) c.in_default-equals.is c.eat-equals.ensures

pub ty-inner-requires : goal.ty-inner-requires
ty-inner-requires c =
    let n = entered.by form.type-item-rule c.requires.ready (form.at-type-item c.args.st.class c.requires.class_value) c.reserve.ensures in
    (further n.ready n.opened (step.item₃ c.args.tree.now n.opened c.requires.class_value c.advance-a.ensures c.name-name.ensures c.in-Next.is c.eat-equals.ensures c.in-Next-equals.is) (omega arith)).ready

pub returns-in_default-inner : goal.returns-in_default-inner
returns-in_default-inner c =
    let n = entered.by form.type-item-rule c.requires.ready (form.at-type-item c.args.st.class c.requires.class_value) c.reserve.ensures in
    passed n (step.item₃ c.args.tree.now n.opened c.requires.class_value c.advance-a.ensures c.name-name.ensures c.in-Next.is c.eat-equals.ensures c.in-Next-equals.is) c.in_default-inner.is c.ty-inner.ensures

pub returns-in_default-semi : goal.returns-in_default-semi
returns-in_default-semi c =
    let n = entered.by form.type-item-rule c.requires.ready (form.at-type-item c.args.st.class c.requires.class_value) c.reserve.ensures in
    let d4 = step.item₄ c.args.tree.now n.opened c.requires.class_value c.advance-a.ensures c.name-name.ensures c.in-Next.is c.eat-equals.ensures c.in-Next-equals.is c.ty-inner.ensures c.in-Next-inner.is in
    lacks n d4.amid c.in_default-semi.is c.eat-semi.ensures

pub returns : goal.returns
returns c =
    let n = entered.by form.type-item-rule c.requires.ready (form.at-type-item c.args.st.class c.requires.class_value) c.reserve.ensures in
    let d5 = step.item₅ c.args.tree.now n.opened c.requires.class_value c.advance-a.ensures c.name-name.ensures c.in-Next.is c.eat-equals.ensures c.in-Next-equals.is c.ty-inner.ensures c.in-Next-inner.is c.eat-semi.ensures c.in-Next-semi.is in
    closes n tt d5 (omega arith) (form.type-item-head d5) tt TypeItemKind refl (rw c.plain.ensures at c.close.ensures)
