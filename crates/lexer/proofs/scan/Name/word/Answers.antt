-- The word found decides.
-- Assumes nothing.
use Rattle.std.proofs.Common.{sym, ◌∙◌}
use Rattle.words.proofs.Right.{below}
use Rattle.words.specs.Words.{KEYWORDS, words_of}
use Rattle.lexer.proofs.Names.{at_plain, at-keyword}
use Rattle.lexer.proofs.scan.Name.word.Goals as goal

pub keyword-requires : goal.keyword-requires
unfolding words_of
keyword-requires c = below KEYWORDS _ _ (sym c.which.ensures ∙ c.in-Some.is)

pub returns-in-Some : goal.returns-in-Some
unfolding words_of
returns-in-Some c = c.keyword.ensures ∙ at-keyword _ _ _ c.args.self.named _ c.requires.0 c.requires.1 (sym c.which.ensures ∙ c.in-Some.is)

pub returns-in-None : goal.returns-in-None
unfolding words_of
returns-in-None c = at_plain _ _ _ c.args.self.named c.requires.0 c.requires.1 (sym c.which.ensures ∙ c.in-None.is)
