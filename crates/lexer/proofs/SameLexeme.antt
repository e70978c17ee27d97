-- Whether two lexemes are the same, as a test that antt computes, and that it says what it should.
-- Assumes nothing.
use Rattle.std.specs.Prelude.{Bool, false, ◌&&◌, ◌≡◌, T, eqb}
use Rattle.std.proofs.Common.{ap, ap₂, eqb→eq}
use Rattle.text.proofs.Table.{first-of, second-of}
use Rattle.lexer.specs.Lexemes.{Lexeme, token, trivia, refused}

unfoldable pub same_lexeme : Lexeme → Lexeme → Bool
same_lexeme (token k n) (token l m) = eqb k l && eqb n m
same_lexeme (token k n) (trivia m) = false
same_lexeme (token k n) (refused c m) = false
same_lexeme (trivia n) (token l m) = false
same_lexeme (trivia n) (trivia m) = eqb n m
same_lexeme (trivia n) (refused c m) = false
same_lexeme (refused c n) (token l m) = false
same_lexeme (refused c n) (trivia m) = false
same_lexeme (refused c n) (refused d m) = eqb c d && eqb n m

pub same-lexeme : (x y : Lexeme) → T (same_lexeme x y) → x ≡ y
unfolding same_lexeme
same-lexeme (token k n) (token l m) t = ap₂ token (eqb→eq k l (first-of (eqb k l) (eqb n m) t)) (eqb→eq n m (second-of (eqb k l) (eqb n m) t))
same-lexeme (token k n) (trivia m) t = absurd t
same-lexeme (token k n) (refused c m) t = absurd t
same-lexeme (trivia n) (token l m) t = absurd t
same-lexeme (trivia n) (trivia m) t = ap trivia (eqb→eq n m t)
same-lexeme (trivia n) (refused c m) t = absurd t
same-lexeme (refused c n) (token l m) t = absurd t
same-lexeme (refused c n) (trivia m) t = absurd t
same-lexeme (refused c n) (refused d m) t = ap₂ refused (eqb→eq c d (first-of (eqb c d) (eqb n m) t)) (eqb→eq n m (second-of (eqb c d) (eqb n m) t))
