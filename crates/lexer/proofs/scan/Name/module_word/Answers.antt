-- The name is one of jet, witness and param, or a word.
-- Assumes nothing.
use Rattle.std.proofs.Common.{sym, ◌∙◌}
use Rattle.words.specs.Words.{words_of}
use Rattle.lexer.proofs.Names.{unreserved-word, at-module}
use Rattle.lexer.proofs.scan.Name.module_word.Goals as goal

pub word-requires-in-None : goal.word-requires-in-None
unfolding words_of
word-requires-in-None c = unreserved-word _ _ _ c.args.self.named c.requires (sym c.word.ensures ∙ c.in-None.is)

pub returns-in-Some : goal.returns-in-Some
unfolding words_of
returns-in-Some c = rw c.from.ensures (at-module _ _ _ c.args.self.named _ _ c.requires (sym c.word.ensures ∙ c.in-Some.is) c.run_end.ensures)
