-- Laws of the two lists in buffers of words: written and read back, word by word, and what a writer makes of trees.
-- Assumes nothing.
use Rattle.std.specs.Prelude.{◌≡◌, refl, Bool, List, [], ◌∷◌, ◌++◌, map, ℕ, zero, suc, ◌+◌, ◌*◌, ◌<◌, length, get_or, drop}
use Rattle.std.proofs.Common.{sym, ap, ◌∙◌, subst, arith, length-append, get_or-drop}
use Rattle.std.proofs.lemmas.List.{length-map}
use Rattle.text.specs.Widths.{tok_wide, rec_wide}
use Rattle.own.specs.Tree.{Tok, Items, none, mark, sub, Node, node, roots, begin, end, Each, turned, arrange, concat, groups, nodes, Rec, record_of, tokens, all, records}
use Rattle.own.specs.Flat.{blank, blank_tok}
use Rattle.own.specs.Law.{Rule, Ownership, Keeps}
use Rattle.own.specs.Lists.{All, nil, ◌&◌}
use Rattle.own.proofs.Lists.{arrange-map}
use Rattle.own.proofs.Count.{weigh, weigh-arrange}
use Rattle.own.proofs.Rules.{ownership}
use Rattle.own.specs.Words.{toks, recs, Handed, tok_words, rec_words, sizes, word_groups, node_words, words}

-- Law 3, of what the buffers begin with.
pub handed : (R : Rule) {c : ℕ → ℕ → ℕ → ℕ} {ns : List Node} {nt nr : ℕ} {tw rw : List ℕ} → Each (Keeps R) (roots ns) → Handed c ns nt tw nr rw
    → Ownership R (toks c nt tw) (recs nr rw)
handed R {c} {ns} {nt} {nr} {tw} {rw} k h =
    subst (λ (ts : List Tok). Ownership R ts (recs nr rw)) (sym h.tokens_are)
    (subst (λ (rs : List Rec). Ownership R (tokens ns) rs) (sym h.records_are) (ownership R ns h.fine k))

-- Written and read back, where c finds the class of each token again.
pub toks-words : (c : ℕ → ℕ → ℕ → ℕ) (k : ℕ → ℕ) {ts : List Tok} (z : List ℕ) → All (λ t. c (k t.class) t.start t.stop ≡ t.class) ts
    → toks c (length ts) (tok_words k ts ++ z) ≡ ts
toks-words c k z nil = refl
toks-words c k z (◌&◌ {a = t} {l = ts} e h) = λ i. record { class = e i; start = t.start; stop = t.stop } ∷ toks-words c k z h i

-- the token j of a buffer, word by word
pub tok-at : (c : ℕ → ℕ → ℕ → ℕ) (n j : ℕ) (w : List ℕ) → j < n
    → get_or (toks c n w) j blank_tok
    ≡ record { class = c (get_or w (tok_wide * j) 0) (get_or w (tok_wide * j + 1) 0) (get_or w (tok_wide * j + 2) 0); start = get_or w (tok_wide * j + 1) 0; stop = get_or w (tok_wide * j + 2) 0 }
tok-at c zero j w h = absurd (omega arith)
tok-at c (suc n) zero w h = refl
tok-at c (suc n) (suc j) w h =
    tok-at c n j (drop tok_wide w) (omega arith)
    ∙ λ i.
    record {
      class = c (word (tok_wide * j) (tok_wide * suc j) (omega arith) i) (word (tok_wide * j + 1) (tok_wide * suc j + 1) (omega arith) i)
          (word (tok_wide * j + 2) (tok_wide * suc j + 2) (omega arith) i);
      start = word (tok_wide * j + 1) (tok_wide * suc j + 1) (omega arith) i;
      stop = word (tok_wide * j + 2) (tok_wide * suc j + 2) (omega arith) i;
    }
  where
    word : (a e : ℕ) → tok_wide + a ≡ e → get_or (drop tok_wide w) a 0 ≡ get_or w e 0
    word a e q = get_or-drop tok_wide w a 0 ∙ ap (λ (k : ℕ). get_or w k 0) q

-- Written and read back.
pub recs-words : (rs : List Rec) (z : List ℕ) → recs (length rs) (rec_words rs ++ z) ≡ rs
recs-words [] z = refl
recs-words (r ∷ rs) z = ap (λ l. r ∷ l) (recs-words rs z)

-- So many words a record.
pub record-words-length : (rs : List Rec) → length (rec_words rs) ≡ rec_wide * length rs
record-words-length [] = refl
record-words-length (r ∷ rs) = let h = record-words-length rs in omega arith

-- As many as are read.
pub recs-length : (n : ℕ) (w : List ℕ) → length (recs n w) ≡ n
recs-length zero w = refl
recs-length (suc n) w = ap suc (recs-length n (drop rec_wide w))

-- The words of two lists.
pub rec_words-append : (k l : List Rec) → rec_words (k ++ l) ≡ rec_words k ++ rec_words l
rec_words-append [] l = refl
rec_words-append (r ∷ k) l = let e = rec_words-append k l in cc

-- the record j of a buffer, word by word
pub rec-at : (n j : ℕ) (w : List ℕ) → j < n
    → get_or (recs n w) j blank
    ≡ record {
      kind = get_or w (rec_wide * j) 0;
      start = get_or w (rec_wide * j + 1) 0;
      stop = get_or w (rec_wide * j + 2) 0;
      low = get_or w (rec_wide * j + 3) 0;
      high = get_or w
          (rec_wide * j + 4) 0;
      size = get_or w (rec_wide * j + 5) 0;
    }
rec-at zero j w h = absurd (omega arith)
rec-at (suc n) zero w h = refl
rec-at (suc n) (suc j) w h =
    rec-at n j (drop rec_wide w) (omega arith)
    ∙ λ i.
    record {
      kind = word (rec_wide * j) (rec_wide * suc j) (omega arith) i;
      start = word (rec_wide * j + 1) (rec_wide * suc j + 1) (omega arith) i;
      stop = word (rec_wide * j + 2) (rec_wide * suc j + 2) (omega arith) i;
      low = word (rec_wide * j + 3) (rec_wide * suc j + 3) (omega arith) i;
      high = word (rec_wide * j + 4) (rec_wide * suc j + 4) (omega arith) i;
      size = word (rec_wide * j + 5) (rec_wide * suc j + 5) (omega arith) i;
    }
  where
    word : (c e : ℕ) → rec_wide + c ≡ e → get_or (drop rec_wide w) c 0 ≡ get_or w e 0
    word c e q = get_or-drop rec_wide w c 0 ∙ ap (λ (k : ℕ). get_or w k 0) q

length-weigh : (l : List Node) → length l ≡ weigh (λ n. 1) l
length-weigh [] = refl
length-weigh (n ∷ l) = let h = length-weigh l in omega arith

length-arrange : (b : Bool) (gs : List (List Node)) → length (concat (arrange b gs)) ≡ length (concat gs)
length-arrange b gs = length-weigh (concat (arrange b gs)) ∙ weigh-arrange (λ n. 1) b gs ∙ sym (length-weigh (concat gs))

length-groups : (is : Items) → length (concat (groups is)) ≡ sizes is
length-groups none = refl
length-groups (mark t r) = length-groups r
length-groups (sub k l h js r) =
    omega (arith, length-append (nodes (node k l h js)) (concat (groups r)), length-arrange (turned k js) (groups js), length-groups js, length-groups r)

-- Size counts the record and all beneath it.
pub size_is : (n : Node) → (record_of n).size ≡ 1 + sizes n.items
size_is n = omega (arith, length-arrange (turned n.kind n.items) (groups n.items), length-groups n.items)

-- a place by the numbers of its first token and of the one past its last
pub place-start : (a y b : List Tok) (d : Tok) → 0 < length y → begin y ≡ (get_or (a ++ (y ++ b)) (length a) d).start
place-start [] [] b d h = absurd (omega arith)
place-start [] (t ∷ y) b d h = refl
place-start (x ∷ a) y b d h = place-start a y b d h

-- A place ends where its last token ends.
pub place-stop : (p : ℕ) (a y b : List Tok) (d : Tok) → suc p ≡ length a + length y → 0 < length y → end 0 y ≡ (get_or (a ++ (y ++ b)) p d).stop
place-stop p [] [] b d e h = absurd (omega arith)
place-stop p (x ∷ a) [] b d e h = absurd (omega arith)
place-stop zero [] (t ∷ []) b d e h = refl
place-stop (suc p) [] (t ∷ []) b d e h = absurd (omega arith)
place-stop zero [] (t ∷ u ∷ y) b d e h = absurd (omega arith)
place-stop (suc p) [] (t ∷ u ∷ y) b d e h = place-stop p [] (u ∷ y) b d (omega arith) (omega arith)
place-stop zero (x ∷ a) (t ∷ y) b d e h = absurd (omega arith)
place-stop (suc p) (x ∷ a) (t ∷ y) b d e h = place-stop p a (t ∷ y) b d (omega arith) h

-- of a list of nodes
abbrev each : List Node → List ℕ
each l = rec_words (map record_of l)

each_append : (k l : List Node) → each (k ++ l) ≡ each k ++ each l
each_append [] l = refl
each_append (n ∷ k) l = let e = each_append k l in cc

each-concat : (gs : List (List Node)) → each (concat gs) ≡ concat (map each gs)
each-concat [] = refl
each-concat (a ∷ gs) = each_append a (concat gs) ∙ ap (λ m. each a ++ m) (each-concat gs)

each-node : (n : Node) → map each (groups n.items) ≡ word_groups n.items → each (nodes n) ≡ node_words n
each-node n e =
    let b = turned n.kind n.items in
    let f : each (concat (arrange b (groups n.items))) ≡ concat (arrange b (word_groups n.items)) =
    each-concat (arrange b (groups n.items)) ∙ ap concat (arrange-map each b (groups n.items) ∙ ap (arrange b) e) in
    cc (f, size_is n)

each-groups : (is : Items) → map each (groups is) ≡ word_groups is
each-groups none = refl
each-groups (mark t r) = each-groups r
each-groups (sub k l h js r) = let e = each-node (node k l h js) (each-groups js) in let f = each-groups r in cc

-- The words that a writer makes are those of the records.
pub words_are : (ns : List Node) → rec_words (records ns) ≡ words ns
words_are ns = each-concat (groups (roots ns)) ∙ ap concat (each-groups (roots ns))

-- a buffer that begins with the words of trees holds their records
pub recs-are : (ns : List Node) (w z : List ℕ) → w ≡ words ns ++ z → recs (sizes (roots ns)) w ≡ records ns
recs-are ns w z e =
    ap (λ (k : ℕ). recs k w) (sym (length-map (all ns) record_of ∙ length-groups (roots ns)))
    ∙ ap (recs (length (records ns))) (e ∙ ap (λ l. l ++ z) (sym (words_are ns)))
    ∙ recs-words (records ns) z
