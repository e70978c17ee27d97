-- What the class says of a token.
-- Assumes nothing.
use Rattle.lexer.proofs.TokenClass.{small_kind}
use Rattle.lexer.proofs.ClassDrafts.{class_law}
use Rattle.lexer.proofs.class.Goals as goal

pub returns-then-kind-lt-BOOL-clause-law : goal.returns-then-kind-lt-BOOL-clause-law
returns-then-kind-lt-BOOL-clause-law c = class_law (small_kind _ _ c.if-kind-lt-BOOL.true)

pub returns-clause-law : goal.returns-clause-law
returns-clause-law c = class_law c.word_class.ensures
