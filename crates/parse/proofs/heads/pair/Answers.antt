-- Assumes nothing.
use Rattle.std.proofs.Common.{arith}
use Rattle.parse.specs.Contract.{read}
use Rattle.parse.proofs.Rule.Entered.{part-passed, part-lacks}
use Rattle.parse.proofs.heads.PairForms as pairs
use Rattle.parse.proofs.heads.Steps as step
use Rattle.parse.proofs.heads.pair.Goals as goal

pub returns-in_default : goal.returns-in_default
returns-in_default c = part-passed (step.pair₀ c.args.tree.now c.requires).amid c.in_default.is c.pattern-left.ensures

pub returns-in_default-colon : goal.returns-in_default-colon
returns-in_default-colon c = part-lacks (step.pair₁ c.args.tree.now c.requires c.pattern-left.ensures c.in-Next.is).amid c.in_default-colon.is c.eat-colon.ensures

pub ty-right-requires : goal.ty-right-requires
ty-right-requires c = pairs.on-ready c.requires (step.pair₂ c.args.tree.now c.requires c.pattern-left.ensures c.in-Next.is c.eat-colon.ensures c.in-Next-colon.is)

pub returns-in_default-right : goal.returns-in_default-right
returns-in_default-right c =
    part-passed (step.pair₂ c.args.tree.now c.requires c.pattern-left.ensures c.in-Next.is c.eat-colon.ensures c.in-Next-colon.is).amid c.in_default-right.is c.ty-right.ensures

pub returns : goal.returns
returns c =
    let d2 = step.pair₂ c.args.tree.now c.requires c.pattern-left.ensures c.in-Next.is c.eat-colon.ensures c.in-Next-colon.is in
    read (pairs.on-ends (pairs.on-type d2 c.ty-right.ensures c.in-Next-right.is) (omega arith))
