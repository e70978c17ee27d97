-- The law of HeadLaws.antt for a block.
-- Assumes nothing.
use Rattle.std.specs.Prelude.{true, false, ◌&&◌, not, cond, List, [], ◌∷◌, ◌++◌, ◌≡◌, refl, ℕ, T, eqb}
use Rattle.std.proofs.Common.{append-nil, append_assoc, sym, ap, ◌∙◌, subst, arith, eq-eqb, ne_eqb, eqb→eq}
use Rattle.text.specs.Lists.{some, all, has, count, span}
use Rattle.own.specs.Law.{Sort, word, child}
use Rattle.own.specs.Kinds as kind
use Rattle.kinds.specs.Shape.{◌▸◌, many, fits, Spells, empty, one_mark, one_part, seq, left, right, stop, more}
use Rattle.kinds.specs.Rules.{the, element, expression, forms}
use Rattle.kinds.specs.Spelled.{forms_of}
use Rattle.lexer.specs.Classes as class
use Rattle.grammar.proofs.Spelled.Rows.{r_end, r_more, pairs, variants}
use Rattle.grammar.proofs.Spelled.Inclusion.{row_in, marks_of, is_part, kinds_of, only_kinds, token_in, piece_in, shape_in, many_in, atom_in}
use Rattle.grammar.proofs.Spelled.Decisions.{one_has}
use Rattle.grammar.proofs.Spelled.FormTests.{SpelledAs, form_in, fixed}
use Rattle.grammar.proofs.Spelled.HeadLaws.{exact_in, exact-sound}
use Rattle.grammar.proofs.Spelled.Rules.{elements_shape}
use Rattle.grammar.specs.Records.Records.{head, role_of, unended}

-- ---- a block

unended-elements : {v : List Sort} (u : List Sort) → Spells (many (element ▸ the class.Semi)) v → unended false (v ++ u) ≡ unended false u
unfolding unended
unended-elements u stop = refl
unended-elements u (more {w = w} (seq (one_part x l h c i) (one_mark d j)) q) =
    rw (eq-eqb d class.Semi (sym (eqb→eq class.Semi d (one_has class.Semi d j)))) (unended-elements u q)

-- the two rows of a block
ended-row : (n : ℕ) → T (exact_in n (head kind.Block 0 0) (the class.LBrace ∷ many (element ▸ the class.Semi) ∷ the class.RBrace ∷ []))
unfolding exact_in form_in forms_of forms fixed some all variants pairs row_in atom_in many_in shape_in piece_in token_in marks_of is_part kinds_of only_kinds role_of has span count fits
ended-row n = tt

unended-row : (n : ℕ) → T (exact_in n (head kind.Block 1 0) (the class.LBrace ∷ many (element ▸ the class.Semi) ∷ expression ∷ the class.RBrace ∷ []))
unfolding exact_in form_in forms_of forms fixed some all variants pairs row_in atom_in many_in shape_in piece_in token_in marks_of is_part kinds_of only_kinds role_of has span count fits
unended-row n = tt

pub block-law : (n : ℕ) {w : List Sort} → Spells (the class.LBrace ▸ elements_shape ▸ the class.RBrace) w → SpelledAs (head kind.Block (cond (unended false w) 1 0) 0) n w
unfolding unended
block-law n (seq (one_mark a i) (seq (seq {v = v} m (left empty)) (one_mark b j))) =
    let e : (v ++ []) ++ (word b ∷ []) ≡ v ++ (word b ∷ []) = ap (λ l. l ++ (word b ∷ [])) (append-nil v) in
    let w = word a ∷ (v ++ (word b ∷ [])) in
    let q : unended false w ≡ false = unended-elements (word b ∷ []) m in
    subst (λ (l : List Sort). SpelledAs (head kind.Block (cond (unended false (word a ∷ l)) 1 0) 0) n (word a ∷ l)) (sym e)
    (rw q (exact-sound n (head kind.Block 0 0) (the class.LBrace ∷ many (element ▸ the class.Semi) ∷ the class.RBrace ∷ []) (ended-row n) (r_more (one_mark a i) (r_more m (r_more (one_mark b j) r_end)))))
block-law n (seq (one_mark a i) (seq (seq {v = v} m (right (one_part x l h c y))) (one_mark b j))) =
    let e : (v ++ (child x l h c ∷ [])) ++ (word b ∷ []) ≡ v ++ (child x l h c ∷ word b ∷ []) = append_assoc v (child x l h c ∷ []) (word b ∷ []) in
    let w = word a ∷ (v ++ (child x l h c ∷ word b ∷ [])) in
    let z : eqb b class.Semi ≡ false = ne_eqb b class.Semi (λ o. let g = eqb→eq class.RBrace b (one_has class.RBrace b j) in absurd (omega arith)) in
    let q : unended false w ≡ true = unended-elements (child x l h c ∷ word b ∷ []) m ∙ ap (λ o. true && not o) z in
    subst (λ (l : List Sort). SpelledAs (head kind.Block (cond (unended false (word a ∷ l)) 1 0) 0) n (word a ∷ l)) (sym e)
    (rw q (exact-sound n (head kind.Block 1 0) (the class.LBrace ∷ many (element ▸ the class.Semi) ∷ expression ∷ the class.RBrace ∷ []) (unended-row n) (r_more (one_mark a i) (r_more m (r_more (one_part x l h c y) (r_more (one_mark b j) r_end))))))
