-- Pairs `p: T` of arms' heads: their rules in grammar's table, and the steps through them.
-- Assumes nothing.
use Rattle.std.proofs.Common.{◌≡◌, ℕ, ◌+◌, ◌-◌, ◌<◌, ◌≤◌, false, T, List, [], ◌∷◌, ◌++◌, length, sym, refl, ◌∙◌, subst, arith, ne_eqb}
use mathlib.Core.Option.{some}
use types.Run.{OneOf}
use denote.Enum.Declared.{tag_of}
use Rattle.theory.specs.Grammar.{Sym, tok, nt, row, look, alt, pick}
use Rattle.theory.specs.Machine.{choose, expand}
use Rattle.theory.specs.Ebnf as shape
use Rattle.theory.specs.Ebnf.{sort_of}
use Rattle.theory.specs.Same.{ex}
use Rattle.own.specs.Tree.{Tok, Items, marks}
use Rattle.own.specs.Law.{Sort, word, child, sorts}
use Rattle.kinds.specs.Fields.{counted}
use Rattle.kinds.specs.Families as family
use Rattle.lexer.specs.Classes as t
use Rattle.grammar.specs.Shapes.Tables.{means, table}
use Rattle.grammar.specs.Records.Records.{sees, name_count}
use Rattle.grammar.specs.Shapes.TablesIndex.{n-head_path-optional-LParen, n-list-pair, n-pair, n-pattern, n-tail-pair, n-type}
use Rattle.parse.specs.contracts.Step.{the_type}
use Rattle.parse.specs.Contract.{Text, tok_at, raw, Ready, Moved, Eaten, Info, as_items, Went, Parsed, Node, TypeKind, PatternKind, countable}
use Rattle.parse.specs.Infos.{Pairs, ManyPairs, MorePairs}
use Rattle.parse.specs.declared.State.{State}
use Rattle.parse.specs.declared.Step.{Step}
use Rattle.parse.specs.declared.Step.TheVariants.{Next}
use Rattle.parse.proofs.choice.Chosen.{Forked, Optionally, forked, optionally}
use Rattle.parse.proofs.Rule.Marks.{sign, sign-mark, sign_pos}
use Rattle.parse.proofs.Rule.Amid.{inside, went, Amid, starts, then-passed, then-went}
use Rattle.parse.proofs.Rule.Chain.{turns, advances, then-eats, then-node, onward}
use Rattle.parse.proofs.Rule.Commas.{AnyN, arranged-zero, finish, went-ahead}
use Rattle.parse.proofs.Rule.Pieces.{name_count-append, counted-append, unseen-append, name_count-other, Marks, marks-append, arranged-marks, marks-arranged, pattern-counted, type-uncounted, sign-no-name}

-- The rules: a pair,
pub flat-pair : sort_of (ex means (nt n-pair)) ≡ shape.flat
unfolding sort_of ex means
flat-pair = refl

pub pair_row : (c : ℕ) → expand table n-pair c ≡ some (nt n-pattern ∷ tok t.Colon ∷ nt n-type ∷ [])
unfolding choose row table look alt pick
pair_row c = refl

-- pairs in parentheses or nothing,
pub pairs-optional : Optionally n-head_path-optional-LParen t.LParen (tok t.LParen ∷ nt n-pair ∷ nt n-tail-pair ∷ tok t.RParen ∷ [])
unfolding sort_of ex means choose row look table alt pick
pairs-optional = optionally refl (λ c. refl) refl refl

-- and what follows a pair.
pub tail-optional : Optionally n-tail-pair t.Comma (tok t.Comma ∷ nt n-list-pair ∷ [])
unfolding sort_of ex means choose row look table alt pick
tail-optional = optionally refl (λ c. refl) refl refl

pub list-choice : Forked n-list-pair t.RParen [] (nt n-pair ∷ nt n-tail-pair ∷ [])
unfolding sort_of ex means choose row look table alt pick
list-choice = forked refl (λ c. refl) refl refl

-- Pieces of pairs: tokens that are marks of every record, no `::`, no name, and n patterns.
pub record Paired (n : ℕ) (w : List Sort) : Type 0 where
  pub marks : (K : ℕ) → Marks K w
  pub paths : sees t.DoubleColon w ≡ false
  pub names : name_count w ≡ 0
  pub patterns : counted family.patterns w ≡ n

pub paired-nil : Paired 0 []
unfolding sees name_count counted
paired-nil = record { marks = λ K. tt; paths = refl; names = refl; patterns = refl }

pub paired-append : {n k : ℕ} (w v : List Sort) → Paired n w → Paired k v → Paired (n + k) (w ++ v)
paired-append w v p q = record {
  marks = λ K. marks-append K w v (p.marks K) (q.marks K);
  paths = unseen-append t.DoubleColon w v p.paths q.paths;
  names = omega (arith, name_count-append w v, p.names, q.names);
  patterns = omega (arith, counted-append family.patterns w v, p.patterns, q.patterns);
}

pub paired-sign : (c : ℕ) → T (sign c) → (c ≡ t.DoubleColon → ⊥) → Paired 0 (word c ∷ [])
unfolding sees counted
paired-sign c s n = record {
  marks = λ K. (sign-mark K c s, tt);
  paths = rw (ne_eqb c t.DoubleColon n) refl;
  names = name_count-other c [] (sign-no-name c s) ∙ paired-nil.names;
  patterns = refl;
}

pub paired-pattern : (k l h d : ℕ) → PatternKind k → Paired 1 (child k l h d ∷ [])
unfolding sees name_count counted
paired-pattern k l h d p = record { marks = λ K. tt; paths = refl; names = refl; patterns = rw (pattern-counted k p) refl }

pub paired-type : (k l h d : ℕ) → TypeKind k → Paired 0 (child k l h d ∷ [])
unfolding sees name_count counted
paired-type k l h d p = record { marks = λ K. tt; paths = refl; names = refl; patterns = rw (type-uncounted k p) refl }

-- What an answer says of pairs, and what it says if the pieces are pairs.
pub is-paired : {n : ℕ} {J L : Items} {m a b : ℕ} → Pairs n J L m a b → Paired n (sorts J)
is-paired {J = J} p = record {
  marks = λ K. marks-arranged K 0 J (p.roles K 0 ∙ sym (p.roles 0 0) ∙ arranged-zero 0 J);
  paths = p.paths;
  names = p.names;
  patterns = p.patterns;
}

pub as-pairs : {n : ℕ} {J L : Items} {m a b : ℕ} → L ≡ J → Paired n (sorts J) → Pairs n J L m a b
as-pairs {J = J} e p = record {
  roles = λ K i. arranged-marks K i J (p.marks K) ∙ sym e;
  paths = p.paths;
  names = p.names;
  patterns = p.patterns;
}

-- On the way through pairs: n patterns so far.
pub record On (x : Text) (full left : List Sym) (st : State) (l : List ℕ) (n : ℕ) (st₁ : State) (l₁ : List ℕ) : Type 0 where
  pub w : List Sort
  pub ms : List Tok
  pub m : ℕ
  pub amid : Amid x 0 AnyN full left st l w ms m st₁ l₁
  pub paired : Paired n w

pub on-starts : {x : Text} (full : List Sym) {st : State} (l : List ℕ) → Ready x st → On x full full st l 0 st l
on-starts full l y = record { w = []; ms = []; m = 0; amid = starts 0 AnyN full l y.stands; paired = paired-nil }

module _ {x : Text} {full : List Sym} {st : State} {l : List ℕ} {n : ℕ} {st₁ : State} {l₁ : List ℕ} where
  pub on-ready : {left : List Sym} → Ready x st → On x full left st l n st₁ l₁ → Ready x st₁
  on-ready y v = onward y v.amid

  -- A nonterminal is replaced,
  pub on-turns : {A : ℕ} {left : List Sym} (rhs : List Sym) → On x full (nt A ∷ left) st l n st₁ l₁ → sort_of (ex means (nt A)) ≡ shape.flat → expand table A st₁.class ≡ some rhs → On x full (rhs ++ left) st l n st₁ l₁
  on-turns {A} rhs v f e = record {
    w = v.w;
    ms = v.ms;
    m = v.m;
    amid = turns rhs v.amid f e;
    paired = v.paired;
  }

  -- a sign is passed,
  pub on-sign : {c : ℕ} {left : List Sym} {st₂ : State} → On x full (tok c ∷ left) st l n st₁ l₁ → T (sign c) → (c ≡ t.DoubleColon → ⊥) → st₁.class ≡ c → Moved x st₁ st₂ → On x full left st l (n + 0) st₂ l₁
  on-sign {c} v s h e mv = record {
    w = v.w ++ (word c ∷ []);
    ms = v.ms ++ (tok_at x st₁.at ∷ []);
    m = v.m + 1;
    amid = advances v.amid e (sign_pos c s) mv (sign-mark 0 c s);
    paired = paired-append v.w (word c ∷ []) v.paired (paired-sign c s h);
  }

  pub on-eats : {c : ℕ} {left : List Sym} {st₂ : State} {a b : ℕ} {r : Step} → On x full (tok c ∷ left) st l n st₁ l₁ → T (sign c) → (c ≡ t.DoubleColon → ⊥) → Eaten x st₁ c r → r ≡ Next st₂ a b → On x full left st l (n + 0) st₂ l₁
  on-eats {c} v s h q e = record {
    w = v.w ++ (word c ∷ []);
    ms = v.ms ++ (tok_at x st₁.at ∷ []);
    m = v.m + 1;
    amid = then-eats v.amid (sign_pos c s) q e (sign-mark 0 c s);
    paired = paired-append v.w (word c ∷ []) v.paired (paired-sign c s h);
  }

  -- a pattern is read, or a type,
  pub on-pattern : {s : Sym} {left : List Sym} {st₂ : State} {l₂ : List ℕ} {a b : ℕ} {r : Step} → On x full (s ∷ left) st l n st₁ l₁ → Parsed x (s ∷ []) as_items (Node PatternKind) st₁ l₁ l₂ r → r ≡ Next st₂ a b
      → On x full left st l (n + 1) st₂ l₂
  on-pattern v p e =
      let d = then-node v.amid p e in
      let u = child d.kind d.low d.high d.first ∷ [] in
      record { w = v.w ++ u; ms = v.ms; m = v.m; amid = d.amid; paired = paired-append v.w u v.paired (paired-pattern d.kind d.low d.high d.first d.its_kind) }

  pub on-type : {s : Sym} {left : List Sym} {st₂ : State} {l₂ : List ℕ} {a b : ℕ} {r : Step} → On x full (s ∷ left) st l n st₁ l₁ → Parsed x (s ∷ []) as_items (Node TypeKind) st₁ l₁ l₂ r → r ≡ Next st₂ a b
      → On x full left st l (n + 0) st₂ l₂
  on-type v p e =
      let d = then-node v.amid p e in
      let u = child d.kind d.low d.high d.first ∷ [] in
      record { w = v.w ++ u; ms = v.ms; m = v.m; amid = d.amid; paired = paired-append v.w u v.paired (paired-type d.kind d.low d.high d.first d.its_kind) }

  -- pairs are read,
  pub on-went : {I : Info} {s : Sym} {left : List Sym} {st₂ : State} {l₂ : List ℕ} {a b : ℕ} (k : ℕ) → On x full (s ∷ left) st l n st₁ l₁ → (q : Went x (s ∷ []) as_items I st₁ l₁ st₂ l₂ a b)
      → Pairs k (raw x st₁.at q.items) q.L q.m a b → On x full left st l (n + k) st₂ l₂
  on-went k v q i =
      let J = raw x st₁.at q.items in
      record { w = v.w ++ sorts J; ms = v.ms ++ marks J; m = v.m + q.m; amid = then-went v.amid q (λ n g. i.roles 0 n); paired = paired-append v.w (sorts J) v.paired (is-paired i) }

  pub on-pair : {s : Sym} {left : List Sym} {st₂ : State} {l₂ : List ℕ} {a b : ℕ} {r : Step} → On x full (s ∷ left) st l n st₁ l₁ → Parsed x (s ∷ []) as_items (Pairs 1) st₁ l₁ l₂ r → r ≡ Next st₂ a b
      → On x full left st l (n + 1) st₂ l₂
  on-pair v p e = let q = went e p in on-went 1 v q q.info

  -- and all is read.
  pub on-ends : {k a b : ℕ} → On x full [] st l n st₁ l₁ → n ≡ k → Went x full as_items (Pairs k) st l st₁ l₁ a b
  on-ends {k} v e =
      let d = v.amid in
      let J = raw x st.at d.pre in
      finish d (as-pairs (sym (d.roles 0 tt) ∙ arranged-zero 0 J) (subst (λ u. Paired k u) (sym d.sorted) (subst (λ i. Paired i v.w) e v.paired)))

-- As many as the answer says.
pub on-many : {x : Text} {full : List Sym} {st : State} {l : List ℕ} {n : ℕ} {st₁ : State} {l₁ : List ℕ} {a b : ℕ} → On x full [] st l n st₁ l₁ → n ≡ a → Went x full as_items ManyPairs st l st₁ l₁ a b
on-many {x} {full} {st} {l} {st₁ = st₁} {l₁ = l₁} {a = a} {b = b} v e =
    let q : Went x full as_items (Pairs a) st l st₁ l₁ a b = on-ends v e in
    record { items = q.items; L = q.L; m = q.m; reads = q.reads; lays = q.lays; info = q.info }

-- The first pair and k more, with the parentheses.
pub all_of : (k : ℕ) {a : ℕ} → a ≡ k + 1 → 0 + 0 + 1 + k + 0 ≡ a
all_of k e = omega arith

-- The pairs after the first one, up to `here`: `number` of them with the first.
pub record More (x : Text) (st : State) (l : List ℕ) (here : State) (l₁ : List ℕ) (number : ℕ) : Type 0 where
  pub k : ℕ
  pub on : On x (nt n-tail-pair ∷ []) (nt n-tail-pair ∷ []) st l k here l₁
  pub one_more : number ≡ k + 1
  pub far : number + st.at ≤ here.at + 1

module _ {x : Text} {st : State} {l : List ℕ} (y : Ready x st) where
  pub more-starts : More x st l st l 1
  more-starts = record { k = 0; on = on-starts (nt n-tail-pair ∷ []) l y; one_more = refl; far = omega arith }

  module _ {here : State} {l₁ : List ℕ} {number : ℕ} (v : More x st l here l₁ number) where
    pub more-few : number ≤ countable + 1
    more-few = omega (arith, v.far, v.on.amid.lays.stands.within, y.short)

    whole : {k' : ℕ} {here' : State} {l' : List ℕ} → On x (nt n-tail-pair ∷ []) [] st l k' here' l' → k' ≡ v.k → Went x (nt n-tail-pair ∷ []) as_items MorePairs st l here' l' number 0
    whole u e =
        let q : Went x (nt n-tail-pair ∷ []) as_items (Pairs v.k) st l _ _ number 0 = on-ends u e in
        record { items = q.items; L = q.L; m = q.m; reads = q.reads; lays = q.lays; info = record { k = v.k; one_more = v.one_more; pairs = q.info } }

    -- They end where no comma stands,
    pub more-ends : (here.class ≡ t.Comma → ⊥) → Went x (nt n-tail-pair ∷ []) as_items MorePairs st l here l₁ number 0
    more-ends n = whole (on-turns [] v.on tail-optional.flat (tail-optional.elsewhere here.class n)) refl

    module _ (c : here.class ≡ t.Comma) {next : State} (mv : Moved x here next) where
      comma : On x (nt n-tail-pair ∷ []) (nt n-list-pair ∷ []) st l (v.k + 0) next l₁
      comma = on-sign (on-turns (tok t.Comma ∷ nt n-list-pair ∷ []) v.on tail-optional.flat (tail-optional.there here.class c)) tt (λ e. omega arith) c mv

      comma-next : next.at ≡ here.at + 1
      comma-next = mv.ahead (inside x here.at (omega arith) (sym v.on.amid.lays.stands.class_is ∙ c))

      -- or behind a last comma,
      pub more-closes : next.class ≡ t.RParen → Went x (nt n-tail-pair ∷ []) as_items MorePairs st l next l₁ number 0
      more-closes e = whole (on-turns [] comma list-choice.flat (list-choice.there next.class e)) (omega arith)

      module _ (n : next.class ≡ t.RParen → ⊥) where
        pub more-into : On x (nt n-tail-pair ∷ []) (nt n-pair ∷ nt n-tail-pair ∷ []) st l (v.k + 0) next l₁
        more-into = on-turns (nt n-pair ∷ nt n-tail-pair ∷ []) comma list-choice.flat (list-choice.elsewhere next.class n)

        -- or a pair is refused,
        pub more-passed : {I J : Info} {l₂ l' : List ℕ} {r : Step} → OneOf (1 ∷ []) (tag_of the_type r) → Parsed x (nt n-pair ∷ []) as_items I next l₁ l₂ r → Parsed x (nt n-tail-pair ∷ []) as_items J st l l' r
        more-passed k p = then-passed more-into.amid k (λ τ q h. h) p

        -- or there is one more.
        module _ {l₂ : List ℕ} {r : Step} {st₂ : State} {a b : ℕ} (p : Parsed x (nt n-pair ∷ []) as_items (Pairs 1) next l₁ l₂ r) (e : r ≡ Next st₂ a b) where
          pub more_within : st₂.at ≤ length x.ts
          more_within = (went e p).lays.stands.within

          pub more-fewer : length x.ts - st₂.at < length x.ts - here.at
          more-fewer = omega (arith, comma-next, went-ahead p e, more_within)

          pub more-again : More x st l st₂ l₂ (number + 1)
          more-again = record { k = v.k + 0 + 1; on = on-pair more-into p e; one_more = omega (arith, v.one_more); far = omega (arith, v.far, comma-next, went-ahead p e) }
