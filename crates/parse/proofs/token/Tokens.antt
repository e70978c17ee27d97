-- The tokens of a text, one by one.
-- Assumes nothing.
use Rattle.std.proofs.Common.{◌≡◌, ℕ, zero, suc, ◌+◌, ◌-◌, ◌<◌, ◌≤◌, Bool, true, cond, ltb, List, [], ◌∷◌, length, map, get_or, sym, ap, ◌∙◌, arith, lt-ltb, length-append}
use Rattle.std.proofs.lemmas.List.{get_or_append_left, get_or-append_right, get_or-map, length-map}
use lib.ListN.{get_or-eq_default}
use Rattle.text.specs.Part.{part_of}
use Rattle.lexer.specs.Class as lexer
use Rattle.lexer.specs.Lexemes.{Token}
use Rattle.lexer.specs.Limits.{no_token}
use Rattle.lexer.specs.Starts.{token_at, tokens_at}
use Rattle.own.specs.Tree.{Tok}
use Rattle.own.specs.Flat.{blank_tok}
use Rattle.kinds.specs.Class.{class_of}
use Rattle.grammar.specs.Answers.Answer.{toks_of}
use Rattle.grammar.proofs.Answers.TokensInOrder.{toks-length}
use Rattle.parse.specs.declared.token.Source.{Source}
use Rattle.parse.specs.Contract.{count_of, row_token, source_tokens, text, tok_at, Gives, next}

-- as many as rows and starts
pub length-source : (s : Source) → length (source_tokens s) ≡ count_of s
length-source s =
    let a = length-append (map row_token s.rows.now) (tokens_at s.draft.now s.starts.now) in
    omega (arith, a, length-map s.rows.now row_token, length-map s.starts.now (token_at s.draft.now), s.counted)

pub length-text : (s : Source) → length (text s).ts ≡ count_of s
unfolding text
length-text s = toks-length s.draft.now (source_tokens s) ∙ length-source s

-- A token says what it is.
tok-in : (draft : List ℕ) (ts : List Token) (at : ℕ) {t : Token} → at < length ts → get_or ts at no_token ≡ t
    → get_or (toks_of draft ts) at blank_tok ≡ record { class = class_of draft t.kind t.start t.end; start = t.start; stop = t.end }
unfolding toks_of
tok-in draft [] at h e = absurd (omega arith)
tok-in draft (u ∷ ts) zero h e = ap (λ (t : Token). record { class = class_of draft t.kind t.start t.end; start = t.start; stop = t.end }) e
tok-in draft (u ∷ ts) (suc at) h e = tok-in draft ts at (omega arith) e

-- A token that the source has,
pub token-in : (s : Source) (at k : ℕ) {t : Token} → at < count_of s → get_or (source_tokens s) at no_token ≡ t
    → k ≡ lexer.class_of t.kind (part_of s.draft.now t.start t.end)
    → Gives (record { class = k; start = t.start; stop = t.end }) (tok_at (text s) at)
unfolding text class_of
token-in s at k {t} h f e =
    let q = tok-in s.draft.now (source_tokens s) at (omega (arith, h, length-source s)) f in
    record { class_is = e ∙ sym (ap (λ (t : Tok). t.class) q); start_is = sym (ap (λ (t : Tok). t.start) q); stop_is = sym (ap (λ (t : Tok). t.stop) q) }

none-given : (t : Tok) → t ≡ blank_tok → Gives (record { class = 0; start = 0; stop = 0 }) t
none-given t e = record { class_is = sym (ap (λ (t : Tok). t.class) e); start_is = sym (ap (λ (t : Tok). t.start) e); stop_is = sym (ap (λ (t : Tok). t.stop) e) }

-- and one past those.
pub token-out : (s : Source) (at : ℕ) → count_of s ≤ at → Gives (record { class = 0; start = 0; stop = 0 }) (tok_at (text s) at)
token-out s at h = none-given (tok_at (text s) at) (get_or-eq_default (text s).ts blank_tok (omega (arith, length-text s)))

-- The token of a row,
pub in-row : (s : Source) (at : ℕ) {v : List ℕ} → at < length s.rows.now → v ≡ get_or s.rows.now at v → get_or (source_tokens s) at no_token ≡ row_token v
in-row s at {v} h e =
    get_or_append_left (map row_token s.rows.now) (tokens_at s.draft.now s.starts.now) no_token at (omega (arith, h, length-map s.rows.now row_token))
    ∙ get_or-map row_token s.rows.now at v no_token h ∙ ap row_token (sym e)

-- and that found again at a start.
pub at-start : (s : Source) (at : ℕ) {i : ℕ} → length s.rows.now ≤ at → at - length s.rows.now < length s.starts.now
    → i ≡ get_or s.starts.now (at - length s.rows.now) i
    → get_or (source_tokens s) at no_token ≡ token_at s.draft.now i
at-start s at {i} h l e =
    get_or-append_right (map row_token s.rows.now) (tokens_at s.draft.now s.starts.now) (length s.rows.now) at no_token (length-map s.rows.now row_token) h
    ∙ get_or-map (token_at s.draft.now) s.starts.now (at - length s.rows.now) i no_token l ∙ ap (token_at s.draft.now) (sym e)

-- The next token of a text is the one behind.
pub next-in : (s : Source) (at i : ℕ) → i ≡ next at (count_of s) → at < length (text s).ts → i ≡ at + 1
unfolding next
next-in s at i e h =
    let f : ltb at (count_of s) ≡ true = lt-ltb at (count_of s) (omega (arith, length-text s)) in
    e ∙ ap (λ (b : Bool). cond b (at + 1) at) f
