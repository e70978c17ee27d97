-- One word a token (document 02, order 10): what the definitions make of `fn f(){}`, the draft of Boundaries.antt, is computed.
-- Assumes nothing.
use Rattle.std.specs.Prelude.{List, [], ◌∷◌, map, ◌≡◌, refl}
use Rattle.text.specs.Ascii.{ascii, ascii_from}
use Rattle.lexer.specs.Starts.{start_room}
use Rattle.grammar.specs.Answers.Lean.{lean_reading, lean_answer, start_buffer, lean_records, lean_tree, lean_listing}
use Rattle.grammar.specs.Cases.Cases.{Result, refused_with, records, buffers, Case, told, defined}
use Rattle.grammar.specs.Cases.Boundaries.{small}

-- What the definitions say of a draft; the token space is that of the starts.
unfoldable pub lean_defined : Case → Result
unfolding defined start_room lean_reading lean_answer start_buffer lean_records lean_tree lean_listing
lean_defined k =
    let en = k.entry in
    let l = k.limits in
    let sw = k.token_space in
    let rw = k.tree_space in
    let d = k.draft in
    told (lean_answer en l d sw rw) k.result (lean_records en l d sw) (lean_listing en l d sw rw) (start_buffer en l d sw rw) (lean_tree en l d sw rw)

unfoldable cases : List Case
cases =
    -- each limit met, and passed by one; and room for two tokens, not for a third of two
    small 8 6 6 21 (records 3)
    ∷ small 7 6 6 21 (refused_with 1 7)
    ∷ small 8 5 6 21 (refused_with 6 7)
    ∷ small 8 6 5 21 (refused_with 6 7)
    ∷ small 8 6 2 21 (refused_with 6 4)
    ∷ small 8 6 6 20 (refused_with 15 0)
    -- every word of both buffers
    ∷ small 8 6 8 23
    (buffers (0 ∷ 3 ∷ 4 ∷ 5 ∷ 6 ∷ 7 ∷ 0 ∷ 0 ∷ [])
    (1 ∷ 0 ∷ 8 ∷ 0 ∷ 0 ∷ 3 ∷ 0 ∷ 2 ∷ 3 ∷ 4 ∷ 0 ∷ 0 ∷ 1 ∷ 1 ∷ 18 ∷ 6 ∷ 8 ∷ 0 ∷ 0 ∷ 1 ∷ 2 ∷ 0 ∷ 0 ∷ []))
    ∷ []

-- What the definitions make of them is this.
cases-agree : map lean_defined cases ≡ map (λ k. k.result) cases
unfolding cases lean_defined ascii ascii_from
cases-agree = refl
