-- The word, if the kind may be one.
-- Assumes nothing.
use Rattle.std.proofs.Common.{sym, ◌∙◌}
use Rattle.words.specs.Words.{words_of}
use Rattle.lexer.specs.Class.{class_of}
use Rattle.lexer.proofs.TokenClass.{no_word}
use Rattle.lexer.proofs.rule_word.Goals as goal

pub returns-in_default : goal.returns-in_default
unfolding words_of
returns-in_default c = no_word _ _ (sym c.which.ensures ∙ c.in_default.is)

pub returns-then-may_be_word : goal.returns-then-may_be_word
unfolding class_of words_of
returns-then-may_be_word c = rw (sym c.may_be_word.ensures ∙ c.if-may_be_word.true, sym c.which.ensures ∙ c.in-Some.is, c.from.ensures)

pub returns : goal.returns
unfolding class_of
returns c = rw (sym c.may_be_word.ensures ∙ c.if-may_be_word.false)
