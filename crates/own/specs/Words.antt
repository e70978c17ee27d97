-- The two lists in buffers of words: three words a token, `rec_wide` a record, and from the buffers back to the lists.
-- A token's class is not in its buffer: c gives it from the token's three words, kind, start and end (and the draft behind c).
-- Assumes nothing.
use Rattle.std.specs.Prelude.{◌≡◌, List, [], ◌∷◌, ℕ, zero, suc, ◌+◌, get_or, drop}
use Rattle.text.specs.Widths.{tok_wide, rec_wide}
use Rattle.own.specs.Tree.{Tok, Items, none, mark, sub, Node, roots, yield, begin, end, turned, arrange, concat, Rec, tokens, records, Fine}

-- The words of a record, before other words. The seventh, how many records back its parent begins, is 0 until all records stand (crate `up`).
abbrev pub rec_then : ℕ → ℕ → ℕ → ℕ → ℕ → ℕ → List ℕ → List ℕ
rec_then kind start stop low high size ws = kind ∷ start ∷ stop ∷ low ∷ high ∷ size ∷ 0 ∷ ws

-- The first n tokens of a buffer.
abbrev pub toks : (ℕ → ℕ → ℕ → ℕ) → ℕ → List ℕ → List Tok
toks c zero w = []
toks c (suc n) w = record { class = c (get_or w 0 0) (get_or w 1 0) (get_or w 2 0); start = get_or w 1 0; stop = get_or w 2 0 } ∷ toks c n (drop tok_wide w)

-- The first n records of a buffer: the first six words of each.
abbrev pub recs : ℕ → List ℕ → List Rec
recs zero w = []
recs (suc n) w =
    record { kind = get_or w 0 0; start = get_or w 1 0; stop = get_or w 2 0; low = get_or w 3 0; high = get_or w 4 0; size = get_or w 5 0 } ∷ recs n (drop rec_wide w)

-- The first nt tokens of the buffer tw and the first nr records of the buffer rw are those of the trees ns.
pub record Handed (c : ℕ → ℕ → ℕ → ℕ) (ns : List Node) (nt : ℕ) (tw : List ℕ) (nr : ℕ) (rw : List ℕ) : Type 0 where
  pub fine : Fine ns
  pub tokens_are : toks c nt tw ≡ tokens ns
  pub records_are : recs nr rw ≡ records ns

-- The words of tokens, where k gives the kind of a class.
abbrev pub tok_words : (ℕ → ℕ) → List Tok → List ℕ
tok_words k [] = []
tok_words k (t ∷ ts) = k t.class ∷ t.start ∷ t.stop ∷ tok_words k ts

abbrev pub rec_words : List Rec → List ℕ
rec_words [] = []
rec_words (r ∷ rs) = rec_then r.kind r.start r.stop r.low r.high r.size (rec_words rs)

-- what a writer counts: a record, and all beneath it
abbrev pub sizes : Items → ℕ
sizes none = 0
sizes (mark t r) = sizes r
sizes (sub k l h js r) = 1 + sizes js + sizes r

-- of each node right beneath, in the order of the text: its words, then those of all beneath it, in the order handed over
abbrev pub word_groups : Items → List (List ℕ)
word_groups none = []
word_groups (mark t r) = word_groups r
word_groups (sub k l h js r) = rec_then k (begin (yield js)) (end 0 (yield js)) l h (1 + sizes js) (concat (arrange (turned k js) (word_groups js))) ∷ word_groups r

-- the words of a node and of all beneath it
abbrev pub node_words : Node → List ℕ
node_words n =
    rec_then n.kind (begin (yield n.items)) (end 0 (yield n.items)) n.low n.high (1 + sizes n.items)
    (concat (arrange (turned n.kind n.items) (word_groups n.items)))

-- the words of trees side by side: all that a record buffer begins with
abbrev pub words : List Node → List ℕ
words ns = concat (word_groups (roots ns))
