-- Without `!` and `::` behind it, a name is a word.
-- Assumes nothing.
use Rattle.std.proofs.Common.{◌≡◌, drop, ◌∙◌}
use Rattle.std.proofs.Math.Option.{none}
use Rattle.lexer.specs.Lexemes.{qualified}
use Rattle.lexer.proofs.Names.{not-module, not-path, no-macro}
use Rattle.lexer.proofs.scan.Scanner.name_to.Goals.{then-b-eq58+else-peek-eq58, else-b-eq58}
use Rattle.lexer.proofs.scan.Scanner.name_to.Goals as goal

pub word-requires : goal.word-requires
word-requires c =
    let q : qualified (drop c.args.self.at c.args.self.draft.now) ≡ none =
    elim c.if-b-eq58.branch [
      | then-b-eq58+else-peek-eq58 w ↦ not-path _ _ _ c.requires (λ z. w.if-peek-eq58.false (w.peek.ensures ∙ z))
      | else-b-eq58 w ↦ not-module _ _ _ c.requires (λ z. w.if-b-eq58.false (c.peek-b.ensures ∙ z))
    ]
    in
    (q, no-macro _ _ _ c.requires (λ z. c.if-b-eq33.false (c.peek-b.ensures ∙ z)))
