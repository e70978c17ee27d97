-- With `!` behind it a name is a macro or a word.
-- Assumes nothing.
use Rattle.std.proofs.Common.{sym, ◌∙◌}
use Rattle.words.specs.Words.{words_of}
use Rattle.lexer.proofs.Names.{unmarked-word, at-macro}
use Rattle.lexer.proofs.scan.Name.macro_word.Goals as goal

pub word-requires-in-None : goal.word-requires-in-None
unfolding words_of
word-requires-in-None c = unmarked-word _ _ _ c.args.self.named c.requires (sym c.word.ensures ∙ c.in-None.is)

pub returns-in-Some : goal.returns-in-Some
unfolding words_of
returns-in-Some c = at-macro _ _ _ c.args.self.named _ c.requires (sym c.word.ensures ∙ c.in-Some.is)
