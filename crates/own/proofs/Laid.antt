-- How the words of trees come to stand in a buffer: the laws that a reader's proofs use, one for each step of its writing.
-- Assumes nothing.
use Rattle.std.specs.Prelude.{◌≡◌, refl, List, [], ◌∷◌, ◌++◌, ℕ, ◌+◌, ◌*◌, ◌≤◌, length, take, drop}
use Rattle.std.proofs.Common.{sym, ap, ◌∙◌, append_assoc, append-nil, arith, length-append, take-append-drop, take_at, drop_at, take-add, length-take-le}
use Rattle.std.proofs.Math.Seq.{take-append_seam, drop-append-add, length-sets}
use Rattle.std.proofs.lemmas.List.Edits.{sets, sets-eq}
use Rattle.own.specs.Tree.{Items, none, mark, sub, Node, yield, begin, end, turned, arrange, concat, roots, records}
use Rattle.text.specs.Widths.{rec_wide}
use Rattle.own.specs.Words.{rec_then, recs, node_words, words, word_groups, sizes}
use Rattle.own.proofs.WordLaws.{recs-are}

-- from w with `out` records to w' with out': the words ws came after
pub record Laid (w : List ℕ) (out : ℕ) (w' : List ℕ) (out' : ℕ) (ws : List ℕ) : Type 0 where
  pub same : length w' ≡ length w
  pub fits : rec_wide * out' ≤ length w'
  pub long : rec_wide * out + length ws ≡ rec_wide * out'
  pub laid : take (rec_wide * out') w' ≡ take (rec_wide * out) w ++ ws

-- nothing yet; and one thing after the other
pub laid_none : (w : List ℕ) (out : ℕ) → rec_wide * out ≤ length w → Laid w out w out []
laid_none w out h = record { same = refl; fits = h; long = omega arith; laid = sym (append-nil (take (rec_wide * out) w)) }

-- One thing laid after the other.
pub laid_then : {w w' w'' ws vs : List ℕ} {out out' out'' : ℕ} → Laid w out w' out' ws → Laid w' out' w'' out'' vs → Laid w out w'' out'' (ws ++ vs)
laid_then {w = w} {ws = ws} {vs = vs} {out = out} a b =
    record {
      same = b.same ∙ a.same;
      fits = b.fits;
      long = omega (arith, length-append ws vs, a.long, b.long);
      laid = b.laid ∙ ap (λ l. l ++ vs) a.laid ∙ append_assoc (take (rec_wide * out) w) ws vs;
    }

-- words written over as many
overwrite : (p m s r : List ℕ) → length m ≡ length s → sets (p ++ (m ++ r)) (length p) s ≡ p ++ (s ++ r)
overwrite p m s r e =
    sets-eq s (p ++ (m ++ r)) (length p) (omega (arith, length-append p (m ++ r), length-append m r))
    ∙ ap (λ l. l ++ s ++ drop (length p + length s) (p ++ (m ++ r))) (take-append_seam p (m ++ r))
    ∙ ap (λ l. p ++ s ++ l) (drop-append-add p (m ++ r) (length s) ∙ drop_at m r (length s) e)
    ∙ append_assoc p s r

-- a record: its place was left free, what is beneath it came after, and its own words come last
pub laid-close : {w w' ws : List ℕ} {out out' : ℕ} (its : List ℕ) → length its ≡ rec_wide → Laid w (out + 1) w' out' ws
    → Laid w out (sets w' (rec_wide * out) its) out' (its ++ ws)
laid-close {w} {w'} {ws} {out} {out'} its e a =
    record {
      same = length-sets w' (rec_wide * out) its ∙ a.same;
      fits = omega (arith, length-sets w' (rec_wide * out) its, a.fits);
      long = omega (arith, length-append its ws, a.long);
      laid = ap (take (rec_wide * out')) now ∙ ap (take (rec_wide * out')) (ap (λ l. p ++ l) (sym (append_assoc its ws z)) ∙ sym (append_assoc p (its ++ ws) z))
          ∙ take_at (p ++ (its ++ ws)) z (rec_wide * out') all;
    }
  where
    p : List ℕ
    p = take (rec_wide * out) w

    m : List ℕ
    m = take rec_wide (drop (rec_wide * out) w)

    z : List ℕ
    z = drop (rec_wide * out') w'

    p-long : length p ≡ rec_wide * out
    p-long = length-take-le (rec_wide * out) w (omega (arith, a.same, a.fits, a.long))

    pm : take (rec_wide * (out + 1)) w ≡ p ++ m
    pm = let e : rec_wide * (out + 1) ≡ rec_wide * out + rec_wide = omega arith in ap (λ (k : ℕ). take k w) e ∙ take-add (rec_wide * out) rec_wide w

    pm-long : length (take (rec_wide * (out + 1)) w) ≡ rec_wide * (out + 1)
    pm-long = length-take-le (rec_wide * (out + 1)) w (omega (arith, a.same, a.fits, a.long))

    m-long : length m ≡ length its
    m-long = omega (arith, length-append p m, ap length pm, pm-long, p-long, e)

    was : w' ≡ p ++ (m ++ (ws ++ z))
    was =
        sym (take-append-drop (rec_wide * out') w')
        ∙ ap (λ l. l ++ z) (a.laid ∙ ap (λ l. l ++ ws) pm)
        ∙ append_assoc (p ++ m) ws z
        ∙ append_assoc p m (ws ++ z)

    now : sets w' (rec_wide * out) its ≡ p ++ (its ++ (ws ++ z))
    now = ap (λ l. sets l (rec_wide * out) its) was ∙ ap (λ (k : ℕ). sets (p ++ (m ++ (ws ++ z))) k its) (sym p-long) ∙ overwrite p m its (ws ++ z) m-long

    all : length (p ++ (its ++ ws)) ≡ rec_wide * out'
    all = omega (arith, length-append p (its ++ ws), length-append its ws, p-long, a.long, e)

-- so a node is laid, where what is beneath it was laid in the order handed over
pub laid-node : {w w' : List ℕ} {out out' : ℕ} (n : Node) → Laid w (out + 1) w' out' (concat (arrange (turned n.kind n.items) (word_groups n.items)))
    → Laid w out (sets w' (rec_wide * out) (rec_then n.kind (begin (yield n.items)) (end 0 (yield n.items)) n.low n.high
    (1 + sizes n.items) [])) out' (node_words n)
laid-node n a = laid-close (rec_then n.kind (begin (yield n.items)) (end 0 (yield n.items)) n.low n.high (1 + sizes n.items) []) refl a

-- two parts that change places: x and y stand last, and in w'' they stand the other way round
pub laid-turn : {w w' : List ℕ} {out out' : ℕ} (w'' p x y : List ℕ) → Laid w out w' out' (p ++ (x ++ y))
    → w'' ≡ take (rec_wide * out) w ++ (p ++ (y ++ x)) ++ drop (rec_wide * out') w'
    → Laid w out w'' out' (p ++ (y ++ x))
laid-turn {w} {w'} {out} {out'} w'' p x y a f =
    record {
      same = omega (arith, now, was, a.same, xy, yx);
      fits = omega (arith, now, was, a.fits, xy, yx);
      long = omega (arith, a.long, xy, yx);
      laid = ap (take (rec_wide * out')) f ∙ take_at (t ++ (p ++ (y ++ x))) z (rec_wide * out')
          (omega (arith, length-append t (p ++ (y ++ x)), xy, yx, a.long, t-long));
    }
  where
    t : List ℕ
    t = take (rec_wide * out) w

    z : List ℕ
    z = drop (rec_wide * out') w'

    t-long : length t ≡ rec_wide * out
    t-long = length-take-le (rec_wide * out) w (omega (arith, a.same, a.fits, a.long))

    xy : length (p ++ (x ++ y)) ≡ length p + (length x + length y)
    xy = omega (arith, length-append p (x ++ y), length-append x y)

    yx : length (p ++ (y ++ x)) ≡ length p + (length x + length y)
    yx = omega (arith, length-append p (y ++ x), length-append y x)

    now : length w'' ≡ length t + length (p ++ (y ++ x)) + length z
    now = ap length f ∙ omega (arith, length-append (t ++ (p ++ (y ++ x))) z, length-append t (p ++ (y ++ x)))

    was : length w' ≡ length t + length (p ++ (x ++ y)) + length z
    was =
        ap length (sym (take-append-drop (rec_wide * out') w') ∙ ap (λ l. l ++ z) a.laid)
        ∙ omega (arith, length-append (t ++ (p ++ (x ++ y))) z, length-append t (p ++ (x ++ y)))

-- trees laid from the front on: the buffer's records are theirs
pub laid-records : {w w' : List ℕ} {nr : ℕ} (ns : List Node) → nr ≡ sizes (roots ns) → Laid w 0 w' nr (words ns) → recs nr w' ≡ records ns
laid-records {w' = w'} {nr} ns e a =
    ap (λ (k : ℕ). recs k w') e ∙ recs-are ns w' (drop (rec_wide * nr) w')
    (sym (take-append-drop (rec_wide * nr) w') ∙ ap (λ l. l ++ drop (rec_wide * nr) w') a.laid)

-- items read after others
abbrev pub join : Items → Items → Items
join none js = js
join (mark t r) js = mark t (join r js)
join (sub k l h is r) js = sub k l h is (join r js)

-- The tokens of both.
pub yield-join : (is js : Items) → yield (join is js) ≡ yield is ++ yield js
yield-join none js = refl
yield-join (mark t r) js = ap (λ l. t ∷ l) (yield-join r js)
yield-join (sub k l h is r) js = ap (λ m. yield is ++ m) (yield-join r js) ∙ sym (append_assoc (yield is) (yield r) (yield js))

-- The records of both.
pub sizes-join : (is js : Items) → sizes (join is js) ≡ sizes is + sizes js
sizes-join none js = omega arith
sizes-join (mark t r) js = sizes-join r js
sizes-join (sub k l h is r) js = let e = sizes-join r js in omega arith

-- The words of both.
pub word_groups-join : (is js : Items) → concat (word_groups (join is js)) ≡ concat (word_groups is) ++ concat (word_groups js)
word_groups-join none js = refl
word_groups-join (mark t r) js = word_groups-join r js
word_groups-join (sub k l h is r) js =
    let e = word_groups-join r js in
    let f = append_assoc (concat (arrange (turned k is) (word_groups is))) (concat (word_groups r)) (concat (word_groups js)) in
    cc
