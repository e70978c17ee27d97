-- The first name and the path behind it.
-- Assumes nothing.
use Rattle.parse.specs.Contract.{read}
use Rattle.parse.proofs.Rule.Chain.{onward}
use Rattle.parse.proofs.Rule.Entered.{part-passed}
use Rattle.parse.proofs.heads.Forms as form
use Rattle.parse.proofs.heads.enum_path.Goals as goal

pub path-rest-requires : goal.path-rest-requires
path-rest-requires c =
    let b = form.path-begins c.requires.ready c.requires.leading c.requires.moved c.name-c.ensures.put c.name-c.ensures.value in
    onward c.requires.ready b.1

pub returns-in_default : goal.returns-in_default
returns-in_default c =
    let b = form.path-begins c.requires.ready c.requires.leading c.requires.moved c.name-c.ensures.put c.name-c.ensures.value in
    part-passed b.1 c.in_default.is c.path-rest.ensures

pub returns : goal.returns
returns c =
    let b = form.path-begins c.requires.ready c.requires.leading c.requires.moved c.name-c.ensures.put c.name-c.ensures.value in
    read (form.arm-went b.0 b.1 c.path-rest.ensures c.in-Next.is)
