-- Assumes nothing.
use Rattle.parse.specs.Contract.{read}
use Rattle.parse.proofs.Rule.Amid.{went}
use Rattle.parse.proofs.Rule.Chain.{onward}
use Rattle.parse.proofs.Rule.Entered.{part-passed, part-lacks}
use Rattle.parse.proofs.Rule.Refused.{refusal}
use Rattle.parse.proofs.names.Chain.{then-names-passed}
use Rattle.parse.proofs.heads.Forms as form
use Rattle.parse.proofs.heads.Steps as step
use Rattle.parse.proofs.heads.path.Goals as goal

pub returns-in_default : goal.returns-in_default
returns-in_default c = part-lacks (step.path₀ c.args.tree.now c.requires) c.in_default.is c.eat-colons.ensures

pub names-rest-requires : goal.names-rest-requires
names-rest-requires c = onward c.requires (step.path₁ c.args.tree.now c.requires c.eat-colons.ensures c.in-Next.is)

pub returns-in_default-rest : goal.returns-in_default-rest
returns-in_default-rest c = then-names-passed (step.path₁ c.args.tree.now c.requires c.eat-colons.ensures c.in-Next.is) (refusal c.in_default-rest.is) (λ τ p h. h) c.names-rest.ensures

pub pairs-inner-requires : goal.pairs-inner-requires
pairs-inner-requires c =
    let d2 = step.path₂ c.args.tree.now c.requires c.eat-colons.ensures c.in-Next.is c.names-rest.ensures c.in-Next-rest.is in
    onward c.requires d2.amid

pub returns-in_default-inner : goal.returns-in_default-inner
returns-in_default-inner c =
    part-passed (step.path₂ c.args.tree.now c.requires c.eat-colons.ensures c.in-Next.is c.names-rest.ensures c.in-Next-rest.is).amid c.in_default-inner.is c.pairs-inner.ensures

pub returns : goal.returns
returns c =
    let d2 = step.path₂ c.args.tree.now c.requires c.eat-colons.ensures c.in-Next.is c.names-rest.ensures c.in-Next-rest.is in
    read (form.path-went d2 (went c.in-Next-inner.is c.pairs-inner.ensures))
