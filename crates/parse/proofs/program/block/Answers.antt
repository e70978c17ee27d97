-- Assumes nothing.
use Rattle.parse.proofs.names.Steps.{refuses-nt}
use Rattle.parse.proofs.program.Forms as form
use Rattle.parse.proofs.program.block.Goals as goal

pub returns-then-st-ne-LBRACE : goal.returns-then-st-ne-LBRACE
returns-then-st-ne-LBRACE c = refuses-nt c.requires (form.no_block c.args.st.class c.if-st-ne-LBRACE.true)
