-- The run behind the first byte is that from it on.
-- Assumes nothing.
use Rattle.std.proofs.Common.{◌∙◌}
use Rattle.lexer.proofs.Names.{named}
use Rattle.lexer.proofs.Runs.{run_in}
use Rattle.lexer.proofs.scan.Scanner.plain_name.Goals as goal

pub name_to-requires : goal.name_to-requires
name_to-requires c = named _ _ _ c.args.self.within c.requires.0 (c.run_end-end.ensures ∙ run_in _ _ _ c.args.self.within c.requires.1)
