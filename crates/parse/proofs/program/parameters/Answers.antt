-- Assumes nothing.
use Rattle.std.proofs.Common.{[], ◌∷◌, ap, ◌∙◌}
use Rattle.kinds.specs.Fields.{counted}
use Rattle.own.specs.Kinds as kind
use Rattle.parse.specs.Contract.{read}
use Rattle.parse.proofs.Rule.Commas as lined
use Rattle.parse.proofs.program.Forms as form
use Rattle.parse.proofs.Rule.Refused.{refusal}
use Rattle.parse.proofs.program.parameters.Goals as goal

pub loop-here-init : goal.loop-here-init
loop-here-init c = lined.lined-starts form.parameter-rows c.requires (form.many-starts c.args.st)

pub returns-in_default : goal.returns-in_default
returns-in_default c = lined.lined-passed form.parameter-rows c.requires c.loop-here.invariant c.loop-here-test.true (refusal c.in_default.is) c.parameter-inner.ensures

pub returns-then-a-ne-COMMA : goal.returns-then-a-ne-COMMA
returns-then-a-ne-COMMA c =
    let v = c.loop-here.invariant in
    let it = lined.item form.parameter-rows c.requires c.loop-here.invariant c.loop-here-test.true c.parameter-inner.ensures c.in-Next.is in
    read (lined.lined-last form.parameter-rows c.requires c.loop-here.invariant c.loop-here-test.true c.parameter-inner.ensures c.in-Next.is c.if-a-ne-COMMA.true
    (λ J K m a b e. record { same = a; commas = b; count_is = ap (counted (kind.Parameter ∷ [])) e ∙ form.many_more v.w it.kind it.low it.high it.first v.so.0 it.its_kind }))

pub loop-here-smaller : goal.loop-here-smaller
loop-here-smaller c =
    lined.again-fewer form.parameter-rows c.requires c.loop-here.invariant c.loop-here-test.true c.parameter-inner.ensures c.in-Next.is c.if-a-ne-COMMA.false c.advance-here.ensures

pub loop-here-preserved : goal.loop-here-preserved
loop-here-preserved c =
    let v = c.loop-here.invariant in
    let it = lined.item form.parameter-rows c.requires c.loop-here.invariant c.loop-here-test.true c.parameter-inner.ensures c.in-Next.is in
    let less = lined.again-less form.parameter-rows c.requires c.loop-here.invariant c.loop-here-test.true c.parameter-inner.ensures c.in-Next.is c.if-a-ne-COMMA.false c.advance-here.ensures in
    lined.lined-again form.parameter-rows c.requires c.loop-here.invariant c.loop-here-test.true c.parameter-inner.ensures c.in-Next.is c.if-a-ne-COMMA.false c.advance-here.ensures
    (form.many-again v.w c.loop-here.number it.kind it.low it.high it.first c.args.st c.loop-here.here c.advance-here.result v.so it.its_kind less)

pub returns : goal.returns
returns c =
    read (lined.lined-ends form.parameter-rows c.requires c.loop-here.invariant c.loop-here-test.false (λ J K m a b e. record { same = a; commas = b; count_is = e.0 }))
