-- Sentences of document 01, "Well-shaped drafts", as classes of tokens, and what `shape_of` gives of each, by computation. Places are numbers of
-- tokens here. The drafts that the paper marks ● stand in Cases/Known.antt.
-- Assumes nothing.
use Rattle.std.specs.Prelude.{◌≡◌, refl, Bool, true, false, List, [], ◌∷◌, ◌++◌, map, ℕ}
use Rattle.text.specs.Lists.{all}
use Rattle.theory.specs.Grammar.{look, row, alt, pick}
use Rattle.theory.specs.Machine.{choose}
use Rattle.theory.specs.Ebnf.{kinds_of, sort_of}
use Rattle.theory.specs.Same.{ex}
use Rattle.theory.specs.Exec.{then_word, then_rest, then_sub, exec}
use Rattle.theory.specs.Fuel.{saves, need}
use Rattle.theory.specs.Parse.{Found, found, stuck, judge, parse}
use Rattle.lexer.specs.Classes as t
use Rattle.grammar.specs.Shapes.Shapes.{shapes}
use Rattle.grammar.specs.Shapes.Tables.{table, means}
use Rattle.grammar.specs.Entry.{single_function}
use Rattle.grammar.specs.Shapes.WellShaped.{shape_of}

-- "B stands in braces after the head", `fn f()`: the classes of its tokens.
unfoldable with_head : List ℕ → List ℕ
with_head cs = t.Fn ∷ t.Ident ∷ t.LParen ∷ t.RParen ∷ t.LBrace ∷ (cs ++ (t.RBrace ∷ []))

-- Refused, sentence by sentence: `fn f(`, at its end; `None(1)`; `fn fold(){}`, a reserved name; `let x:y=1`, without `;`; `Either` without its closing `>`;
-- `List<x,1,>`, a closing comma; `(,)`; a jet with no argument list; `fold::<unwrap,1>(x)`, a reserved f; `match x{Left(x:y,)~1,}`, a
-- closing comma; `match x{Left~1,}`; `match x{x~1,}`, a path of one name; `list!(x)`; `is_none(x)`, without its type.
unfoldable let_of : List ℕ → List ℕ
let_of cs = t.Let ∷ t.Ident ∷ t.Colon ∷ (cs ++ (t.Eq ∷ t.DecLiteral ∷ []))

unfoldable match_of : List ℕ → List ℕ
match_of cs = t.Match ∷ t.Ident ∷ t.LBrace ∷ (cs ++ (t.FatArrow ∷ t.DecLiteral ∷ t.Comma ∷ t.RBrace ∷ []))

refused :
    map (shape_of single_function) (
    (t.Fn ∷ t.Ident ∷ t.LParen ∷ []) ∷
    with_head (t.None ∷ t.LParen ∷ t.DecLiteral ∷ t.RParen ∷ []) ∷
    (t.Fn ∷ t.fold ∷ t.LParen ∷ t.RParen ∷ t.LBrace ∷ t.RBrace ∷ []) ∷
    with_head (let_of (t.Ident ∷ [])) ∷
    with_head (let_of (t.Either ∷ t.LAngle ∷ t.Ident ∷ t.Comma ∷ t.Ident ∷ []) ++ (t.Semi ∷ [])) ∷
    with_head (let_of (t.List ∷ t.LAngle ∷ t.Ident ∷ t.Comma ∷ t.DecLiteral ∷ t.Comma ∷ t.RAngle ∷ []) ++ (t.Semi ∷ [])) ∷
    with_head (t.LParen ∷ t.Comma ∷ t.RParen ∷ []) ∷
    with_head (t.Jet ∷ []) ∷
    with_head (t.fold ∷ t.DoubleColon ∷ t.LAngle ∷ t.unwrap ∷ t.Comma ∷ t.DecLiteral ∷ t.RAngle ∷ t.LParen ∷ t.Ident ∷ t.RParen ∷ []) ∷
    with_head (match_of (t.Left ∷ t.LParen ∷ t.Ident ∷ t.Colon ∷ t.Ident ∷ t.Comma ∷ t.RParen ∷ [])) ∷
    with_head (match_of (t.Left ∷ [])) ∷
    with_head (match_of (t.Ident ∷ [])) ∷
    with_head (t.list! ∷ t.LParen ∷ t.Ident ∷ t.RParen ∷ []) ∷
    with_head (t.is_none ∷ t.LParen ∷ t.Ident ∷ t.RParen ∷ []) ∷ [])
    ≡ (stuck 3 ∷ stuck 6 ∷ stuck 1 ∷ stuck 11 ∷ stuck 13 ∷ stuck 13 ∷ stuck 6 ∷ stuck 6 ∷ stuck 8 ∷ stuck 13 ∷ stuck 9 ∷ stuck 9 ∷ stuck 6 ∷ stuck 6 ∷ [])
unfolding with_head let_of match_of shape_of parse judge exec then_word then_rest then_sub need saves look row alt pick choose kinds_of sort_of ex shapes means table
refused = refl

-- Accepted: `let x:Either=1;`, a plain alias name; `let x:List<x,1>=1;`; `let (x,[x],):(x,)=1;`; `let ():()=1;`; `fold`, a variable; `fold::x`, a path;
-- `fold::<None,1>(x)`; `is_none::<x>(x)`; `<x>::into(x)`; `assert!(x,)`; `list![x,]`; `match x{None::x(x:y,)~1,}`; `match x{Left(x:y)~{}None~{}}`.
unfoldable tree_found : Found → Bool
tree_found (found r) = true
tree_found (stuck p) = false

accepted :
    all (λ cs. tree_found (shape_of single_function cs)) (
    with_head (let_of (t.Either ∷ []) ++ (t.Semi ∷ [])) ∷
    with_head (let_of (t.List ∷ t.LAngle ∷ t.Ident ∷ t.Comma ∷ t.DecLiteral ∷ t.RAngle ∷ []) ++ (t.Semi ∷ [])) ∷
    with_head (t.Let ∷ t.LParen ∷ t.Ident ∷ t.Comma ∷ t.LBracket ∷ t.Ident ∷ t.RBracket ∷ t.Comma ∷ t.RParen ∷ t.Colon ∷ t.LParen ∷ t.Ident ∷ t.Comma ∷ t.RParen ∷ t.Eq ∷ t.DecLiteral ∷ t.Semi ∷ []) ∷
    with_head (t.Let ∷ t.LParen ∷ t.RParen ∷ t.Colon ∷ t.LParen ∷ t.RParen ∷ t.Eq ∷ t.DecLiteral ∷ t.Semi ∷ []) ∷
    with_head (t.fold ∷ []) ∷
    with_head (t.fold ∷ t.DoubleColon ∷ t.Ident ∷ []) ∷
    with_head (t.fold ∷ t.DoubleColon ∷ t.LAngle ∷ t.None ∷ t.Comma ∷ t.DecLiteral ∷ t.RAngle ∷ t.LParen ∷ t.Ident ∷ t.RParen ∷ []) ∷
    with_head (t.is_none ∷ t.DoubleColon ∷ t.LAngle ∷ t.Ident ∷ t.RAngle ∷ t.LParen ∷ t.Ident ∷ t.RParen ∷ []) ∷
    with_head (t.LAngle ∷ t.Ident ∷ t.RAngle ∷ t.DoubleColon ∷ t.into ∷ t.LParen ∷ t.Ident ∷ t.RParen ∷ []) ∷
    with_head (t.assert! ∷ t.LParen ∷ t.Ident ∷ t.Comma ∷ t.RParen ∷ []) ∷
    with_head (t.list! ∷ t.LBracket ∷ t.Ident ∷ t.Comma ∷ t.RBracket ∷ []) ∷
    with_head (match_of (t.None ∷ t.DoubleColon ∷ t.Ident ∷ t.LParen ∷ t.Ident ∷ t.Colon ∷ t.Ident ∷ t.Comma ∷ t.RParen ∷ [])) ∷
    with_head (t.Match ∷ t.Ident ∷ t.LBrace ∷ t.Left ∷ t.LParen ∷ t.Ident ∷ t.Colon ∷ t.Ident ∷ t.RParen ∷ t.FatArrow ∷ t.LBrace ∷ t.RBrace ∷ t.None ∷ t.FatArrow ∷ t.LBrace ∷ t.RBrace ∷ t.RBrace ∷ []) ∷ [])
    ≡ true
unfolding tree_found all with_head let_of match_of shape_of parse judge exec then_word then_rest then_sub need saves look row alt pick choose kinds_of sort_of ex shapes means table
accepted = refl
