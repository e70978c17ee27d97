-- Without `::` and a name behind it, a name is a word.
-- Assumes nothing.
use Rattle.std.proofs.Common.{sym, ◌∙◌, ap}
use Rattle.lexer.specs.Chars.{among, name_starts}
use Rattle.lexer.proofs.Names.{path-word, unnamed-word}
use Rattle.lexer.proofs.scan.Name.colon_word.Goals as goal

pub word-requires : goal.word-requires
word-requires c = path-word _ _ _ c.args.self.named c.requires (λ z. c.if-peek-ne58.true (c.peek.ensures ∙ z))

pub word-requires-2 : goal.word-requires-2
word-requires-2 c =
    unnamed-word _ _ _ c.args.self.named c.requires (ap (among name_starts) (sym c.peek-2.ensures) ∙ sym c.starts_name.ensures ∙ c.if-starts_name.false)
