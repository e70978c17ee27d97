-- Heads of arms: their rules in grammar's table, and what they decide.
-- Assumes nothing.
use Rattle.std.proofs.Common.{◌≡◌, ℕ, ◌+◌, ◌<◌, ◌≤◌, Bool, true, false, cond, not, ◌&&◌, ◌||◌, T, eqb, ltb, List, [], ◌∷◌, ◌++◌, get_or, sym, refl, ap, ◌∙◌, subst, arith, eqb→eq, ltb→lt, eq-eqb, ne_eqb}
use mathlib.Core.Option.{some}
use Rattle.text.proofs.Same.{differ}
use Rattle.text.proofs.Table.{first-of, second-of, is_true}
use Rattle.text.specs.Lists.{has}
use Rattle.theory.specs.Grammar.{Sym, tok, nt, row, look, alt, pick}
use Rattle.theory.specs.Machine.{choose, expand}
use Rattle.theory.specs.Ebnf as shape
use Rattle.theory.specs.Ebnf.{sort_of}
use Rattle.theory.specs.Same.{ex}
use Rattle.theory.specs.Walk.{k_nt, k_in}
use Rattle.own.specs.Tree.{Tok}
use Rattle.own.specs.Law.{Sort, word, sorts}
use Rattle.own.specs.Arms as arm
use Rattle.own.specs.Kinds as kind
use Rattle.kinds.specs.Fields.{counted}
use Rattle.kinds.specs.Families as family
use Rattle.lexer.specs.Classes as t
use Rattle.grammar.specs.Shapes.Tables.{means, table}
use Rattle.grammar.specs.Shapes.TablesIndex.{n-arm, n-head, n-head-choice, n-head-optional, n-head-word, n-head_path, n-head_path-optional-LParen, n-identifier, n-other_name, n-pair, n-path-many-DoubleColon}
use Rattle.grammar.specs.Records.Records.{sees, opening, name_count, place_in, arm_head, arm_words}
use Rattle.parse.specs.Contract.{Text, classes, tok_at, raw, Ready, Moved, Put, Info, as_items, Went, Parsed, read, stuck, reserved, Named, head_sort}
use Rattle.parse.specs.Infos.{Leading, none_begins, word_begins, name_begins, ManyPairs, HeadPath, ArmHead, arm_kind, arm_low, arm_high}
use Rattle.parse.specs.declared.State.{State}
use Rattle.parse.specs.declared.Step.{Step}
use Rattle.parse.specs.declared.Step.TheVariants.{Next, Refused}
use Rattle.parse.specs.Choice as choice
use Rattle.parse.proofs.Rule.ByClass.{run, where-passed, beyond, past_classes}
use Rattle.parse.proofs.choice.Checks.{head-past}
use Rattle.parse.proofs.choice.Chosen.{Forked, Optionally, forked, optionally, alone, is-alone, goes}
use Rattle.parse.proofs.Rule.Amid.{class-at, inside, went, Amid, starts, then-went}
use Rattle.parse.proofs.Rule.Steps.{child-went, reads-tok}
use Rattle.parse.proofs.Rule.Chain.{turns}
use Rattle.parse.proofs.Rule.Commas.{AnyN, finish}
use Rattle.parse.proofs.Rule.Told.{Told}
use Rattle.parse.proofs.Rule.Closing.{reserved-class}
use Rattle.parse.proofs.names.Chain.{NamePieces, then-named}
use Rattle.parse.proofs.names.Rows.{name-role}
use Rattle.parse.proofs.names.Steps.{child-nt}
use Rattle.parse.proofs.Rule.Pieces.{name_count-append, counted-append, unseen-append, seen_first, seen-second, name_count-name, name_count-other, sign-no-name}

-- The rules: a head,
pub flat-head : sort_of (ex means (nt n-head)) ≡ shape.flat
unfolding sort_of ex means
flat-head = refl

-- a path or nothing,
pub path-optional : Optionally n-head-optional t.DoubleColon (nt n-head_path ∷ [])
unfolding sort_of ex means choose row look table alt pick
path-optional = optionally refl (λ c. refl) refl refl

-- a built-in word, and what follows it,
pub flat_word : sort_of (ex means (nt n-head-word)) ≡ shape.flat
unfolding sort_of ex means
flat_word = refl

pub after-word : Forked n-head-choice t.LParen (tok t.LParen ∷ nt n-pair ∷ tok t.RParen ∷ []) (nt n-head_path ∷ [])
unfolding sort_of ex means choose row look table alt pick
after-word = forked refl (λ c. refl) refl refl

-- any other name,
pub flat-other : sort_of (ex means (nt n-other_name)) ≡ shape.flat
unfolding sort_of ex means has
flat-other = refl

-- and a path.
pub flat-path : sort_of (ex means (nt n-head_path)) ≡ shape.flat
unfolding sort_of ex means
flat-path = refl

pub path-row : (c : ℕ) → expand table n-head_path c ≡ some (tok t.DoubleColon ∷ nt n-identifier ∷ nt n-path-many-DoubleColon ∷ nt n-head_path-optional-LParen ∷ [])
unfolding choose row table look alt pick
path-row c = refl

-- What begins a head of each sort, by one computation over the classes; past them none begins.

where-sorted : (k : ℕ) (f : ℕ → Bool) → 0 < k → T (run (λ c. not (eqb (head_sort c) k) || f c) past_classes 0) → (c : ℕ) → head_sort c ≡ k → T (f c)
where-sorted k f pos t c e =
    where-passed f (λ c. eqb (head_sort c) k) t (λ c h u. absurd (omega (arith, head-past c h, eqb→eq (head_sort c) k u))) c (rw (eq-eqb (head_sort c) k e) tt)

only-sorted : (k d : ℕ) → 0 < k → T (run (λ c. not (eqb (head_sort c) k) || eqb c d) past_classes 0) → (c : ℕ) → head_sort c ≡ k → c ≡ d
only-sorted k d pos t c e = eqb→eq c d (where-sorted k (λ a. eqb a d) pos t c e)

module _ (c : ℕ) where
  pub at-false : head_sort c ≡ choice.FalseHead → c ≡ t.false
  unfolding head_sort choose row table look
  at-false e = only-sorted choice.FalseHead t.false (omega arith) tt c e

  pub at_true : head_sort c ≡ choice.TrueHead → c ≡ t.true
  unfolding head_sort choose row table look
  at_true e = only-sorted choice.TrueHead t.true (omega arith) tt c e

  pub at_none : head_sort c ≡ choice.NoneHead → c ≡ t.None
  unfolding head_sort choose row table look
  at_none e = only-sorted choice.NoneHead t.None (omega arith) tt c e

  module _ (e : head_sort c ≡ choice.WrappedHead) where
    pub word_row : expand table n-head-word c ≡ some (tok c ∷ [])
    unfolding head_sort choose row table look alt pick
    word_row = is-alone (expand table n-head-word c) c (where-sorted choice.WrappedHead (λ a. alone (expand table n-head-word a) a) (omega arith) tt c e)

    pub word-pos : 0 < c
    unfolding head_sort choose row table look
    word-pos = ltb→lt 0 c (where-sorted choice.WrappedHead (λ a. ltb 0 a) (omega arith) tt c e)

    pub word-name : has t.identifiers c ≡ true
    unfolding head_sort choose row table look has
    word-name = is_true (has t.identifiers c) (where-sorted choice.WrappedHead (λ a. has t.identifiers a) (omega arith) tt c e)

    pub word-place : place_in 0 arm.Left arm_words c ≡ cond (eqb c t.Left) arm.Left (cond (eqb c t.Right) arm.Right arm.Some)
    unfolding head_sort choose row table look place_in
    word-place = eqb→eq (place_in 0 arm.Left arm_words c) (cond (eqb c t.Left) arm.Left (cond (eqb c t.Right) arm.Right arm.Some))
        (where-sorted choice.WrappedHead (λ a. eqb (place_in 0 arm.Left arm_words a) (cond (eqb a t.Left) arm.Left (cond (eqb a t.Right) arm.Right arm.Some))) (omega arith) tt c e)

  module _ (e : head_sort c ≡ choice.NamedHead) where
    pub other_row : expand table n-other_name c ≡ some (tok c ∷ [])
    unfolding head_sort choose row table look alt pick
    other_row = is-alone (expand table n-other_name c) c (where-sorted choice.NamedHead (λ a. alone (expand table n-other_name a) a) (omega arith) tt c e)

    pub other-pos : 0 < c
    unfolding head_sort choose row table look
    other-pos = ltb→lt 0 c (where-sorted choice.NamedHead (λ a. ltb 0 a) (omega arith) tt c e)

    pub other_name : has t.identifiers c ≡ true
    unfolding head_sort choose row table look has
    other_name = is_true (has t.identifiers c) (where-sorted choice.NamedHead (λ a. has t.identifiers a) (omega arith) tt c e)

  sort-choice : {i : ℕ} → 0 < i → head_sort c ≡ i → choose table n-head c ≡ i
  unfolding head_sort
  sort-choice {i} pos e = go (eqb (choose table n-arm c) 0) e
    where
      go : (b : Bool) → cond b 0 (choose table n-head c) ≡ i → choose table n-head c ≡ i
      go true e = absurd (omega arith)
      go false e = e

  -- The alternative of a head.
  pub false-row : head_sort c ≡ choice.FalseHead → expand table n-head c ≡ some (tok t.false ∷ [])
  unfolding row table alt pick
  false-row e = goes n-head choice.FalseHead c (sort-choice (omega arith) e) refl

  pub true-row : head_sort c ≡ choice.TrueHead → expand table n-head c ≡ some (tok t.true ∷ [])
  unfolding row table alt pick
  true-row e = goes n-head choice.TrueHead c (sort-choice (omega arith) e) refl

  pub none_row : head_sort c ≡ choice.NoneHead → expand table n-head c ≡ some (tok t.None ∷ nt n-head-optional ∷ [])
  unfolding row table alt pick
  none_row e = goes n-head choice.NoneHead c (sort-choice (omega arith) e) refl

  pub wrapped-row : head_sort c ≡ choice.WrappedHead → expand table n-head c ≡ some (nt n-head-word ∷ nt n-head-choice ∷ [])
  unfolding row table alt pick
  wrapped-row e = goes n-head choice.WrappedHead c (sort-choice (omega arith) e) refl

  pub named-row : head_sort c ≡ choice.NamedHead → expand table n-head c ≡ some (nt n-other_name ∷ nt n-head_path ∷ [])
  unfolding row table alt pick
  named-row e = goes n-head choice.NamedHead c (sort-choice (omega arith) e) refl

-- Where no head begins the table still chooses the last alternative, and has nothing for its first name.
abbrev sorted : List ℕ
sorted = choice.FalseHead ∷ choice.TrueHead ∷ choice.NoneHead ∷ choice.WrappedHead ∷ choice.NamedHead ∷ []

unbegun : (c : ℕ) → has sorted (head_sort c) ≡ false → T (eqb (choose table n-head c) choice.NamedHead && eqb (choose table n-other_name c) 0)
unfolding head_sort choose row table look has
unbegun c e =
    where-passed (λ a. eqb (choose table n-head a) choice.NamedHead && eqb (choose table n-other_name a) 0) (λ a. not (has sorted (head_sort a))) tt (λ a h u. rw (beyond n-head a h, beyond n-other_name a h) tt) c (rw e tt)

abbrev Unsorted : ℕ → Type 0
Unsorted i = ((((Unit {0} × (i ≡ choice.FalseHead → ⊥)) × (i ≡ choice.TrueHead → ⊥)) × (i ≡ choice.NoneHead → ⊥)) × (i ≡ choice.WrappedHead → ⊥)) × (i ≡ choice.NamedHead → ⊥)

unsorted : (i : ℕ) → Unsorted i → has sorted i ≡ false
unfolding has
unsorted i h =
    rw (
      ne_eqb choice.FalseHead i (λ e. h.0.0.0.0.1 (sym e)),
      ne_eqb choice.TrueHead i (λ e. h.0.0.0.1 (sym e)),
      ne_eqb choice.NoneHead i (λ e. h.0.0.1 (sym e)),
      ne_eqb choice.WrappedHead i (λ e. h.0.1 (sym e)),
      ne_eqb choice.NamedHead i (λ e. h.1 (sym e)),
    ) refl

pub no-head : {x : Text} {st : State} {I : Info} {l l' : List ℕ} (i : ℕ) → Ready x st → i ≡ head_sort st.class
    → Unsorted i → Parsed x (nt n-head ∷ []) as_items I st l l' (Refused st.at)
unfolding row table alt pick
no-head {x} {st} i y e h =
    let c = get_or (classes x) st.at 0 in
    let f = e ∙ ap head_sort y.stands.class_is in
    let u = unbegun c (ap (has sorted) (sym f) ∙ unsorted i h) in
    stuck y.stands.within
    (λ τ. k_in (goes n-head choice.NamedHead c (eqb→eq (choose table n-head c) choice.NamedHead (first-of (eqb (choose table n-head c) choice.NamedHead) (eqb (choose table n-other_name c) 0) u)) refl)
    (k_nt (goes n-other_name 0 c (eqb→eq (choose table n-other_name c) 0 (second-of (eqb (choose table n-head c) choice.NamedHead) (eqb (choose table n-other_name c) 0) u)) refl)))

-- A built-in arm: b is its low.
pub built_in : {x : Text} {st : State} {l : List ℕ} {c : ℕ} {u : List Sort} {ms : List Tok} {m : ℕ} {st₁ : State} {l₁ : List ℕ} (b : ℕ) → Amid x kind.BuiltinArm AnyN (nt n-head ∷ []) [] st l (word c ∷ u) ms m st₁ l₁
    → (c ≡ t.DoubleColon → ⊥) → sees t.DoubleColon u ≡ false → place_in 0 arm.Left arm_words c ≡ b → arm.Left ≤ b → b ≤ arm.True → Went x (nt n-head ∷ []) as_items ArmHead st l st₁ l₁ 0 b
unfolding arm_kind arm_low arm_high arm_head sees opening
built_in {c = c} {u = u} b d n p e one six = finish d (record {
  roles = λ i. d.roles i tt;
  decides = λ v q. ap (λ (w : List Sort). arm_head (w ++ v)) d.sorted ∙ (rw (ne_eqb c t.DoubleColon n, unseen-append t.DoubleColon u v p q.paths, e) refl);
  low_is = λ z. (one, six);
})

-- A path in a head, from its first `::` on: the names, then the pairs.
pub enum_kind : has family.names_kept kind.EnumArm ≡ true
unfolding has
enum_kind = refl

pub path-went : {x : Text} {st : State} {l : List ℕ} {ms : List Tok} {m : ℕ} {st₁ : State} {l₁ : List ℕ} {st₂ : State} {l₂ : List ℕ} {a b c : ℕ}
    → Told x kind.EnumArm AnyN (nt n-head_path ∷ []) (nt n-head_path-optional-LParen ∷ []) st l (word t.DoubleColon ∷ []) ms m (NamePieces a) st₁ l₁
    → Went x (nt n-head_path-optional-LParen ∷ []) as_items ManyPairs st₁ l₁ st₂ l₂ b c → Went x (nt n-head_path ∷ []) as_items HeadPath st l st₂ l₂ a b
unfolding sees counted
path-went {x} {st₁ = st₁} d q =
    let z = then-went d.amid q (λ n g. q.info.roles kind.EnumArm n) in
    let P = sorts (raw x st₁.at q.items) in
    finish z (record {
      roles = λ n. z.roles n tt;
      count_is = ap name_count z.sorted ∙ name_count-other t.DoubleColon (d.W ++ P) (sign-no-name t.DoubleColon tt) ∙ name_count-append d.W P ∙ omega (arith, d.so.count_is, q.info.names);
      bounded = d.so.bounded;
      path = ap (sees t.DoubleColon) z.sorted;
      patterns = ap (counted family.patterns) z.sorted ∙ counted-append family.patterns d.W P ∙ omega (arith, d.so.no_parts family.patterns, q.info.patterns);
    })

-- A word that is a record of its own.
pub named-token : {x : Text} {st st₁ st₂ : State} {l l' : List ℕ} (c : ℕ) → 0 < c → Ready x st → st.class ≡ c → Moved x st st₁ → Put l st₁.out kind.Name st.start st.stop 0 0 1 l' → st₂ ≡ reserved st₁
    → Parsed x (tok c ∷ []) as_items (Named (tok_at x st.at) kind.Name 0 0) st l l' (Next st₂ 0 0)
named-token {x} {st} c pos y e v put more =
    let f = sym y.stands.class_is ∙ e in
    let i = inside x st.at pos f in
    read (child-went y.stands i v put more (omega (arith, y.few, y.stands.within, y.short)) c (reads-tok x c f i))

-- The first name of a path, which is a record,
pub named-first : {x : Text} {st : State} {l l₁ : List ℕ} {c : State} {a b : ℕ} (s r : Sym) → Ready x st → expand table n-head st.class ≡ some (s ∷ r ∷ []) → has t.identifiers st.class ≡ true
    → Parsed x (s ∷ []) as_items (Named (tok_at x st.at) kind.Name 0 0) st l l₁ (Next c a b) → Amid x kind.EnumArm AnyN (nt n-head ∷ []) (r ∷ []) st l (word st.class ∷ []) (tok_at x st.at ∷ []) 0 c l₁
named-first {x} {st} {l} {l₁} {c} s r y e h p =
    let f : (tok_at x st.at).class ≡ st.class = sym (class-at x.ts st.at) ∙ sym y.stands.class_is in
    let d = turns (s ∷ r ∷ []) (starts kind.EnumArm AnyN (nt n-head ∷ []) l y.stands) flat-head e in
    let z = then-named d p refl (name-role kind.EnumArm (tok_at x st.at).class enum_kind (ap (has t.identifiers) f ∙ h)) in
    subst (λ k. Amid x kind.EnumArm AnyN (nt n-head ∷ []) (r ∷ []) st l (word k ∷ []) (tok_at x st.at ∷ []) 0 c l₁) f z

-- and the arm with that path.
pub arm-went : {x : Text} {st : State} {l : List ℕ} {c : ℕ} {ms : List Tok} {m : ℕ} {st₁ : State} {l₁ : List ℕ} {st₂ : State} {l₂ : List ℕ} {a b : ℕ} {r : Step} → has t.identifiers c ≡ true
    → Amid x kind.EnumArm AnyN (nt n-head ∷ []) (nt n-head_path ∷ []) st l (word c ∷ []) ms m st₁ l₁ → Parsed x (nt n-head_path ∷ []) as_items HeadPath st₁ l₁ l₂ r → r ≡ Next st₂ a b → Went x (nt n-head ∷ []) as_items ArmHead st l st₂ l₂ (a + 1) b
unfolding arm_kind arm_low arm_high arm_head counted
arm-went {x} {c = c} {st₁ = st₁} {a = a} {b = b} h d p e =
    let q = went e p in
    let i = q.info in
    let z = then-went d q (λ n g. i.roles n) in
    let P = sorts (raw x st₁.at q.items) in
    let k : eqb (a + 1) 0 ≡ false = ne_eqb (a + 1) 0 (λ f. omega arith) in
    finish z (record {
      roles = λ n. rw k (z.roles n tt);
      decides = λ v o.
          let n₁ : name_count (word c ∷ (P ++ v)) ≡ a + 1 = name_count-name c (P ++ v) h ∙ omega (arith, name_count-append P v, i.count_is, o.names) in
          let n₂ : counted family.patterns (word c ∷ (P ++ v)) ≡ b = counted-append family.patterns P v ∙ omega (arith, i.patterns, o.patterns) in
          let s : sees t.DoubleColon (word c ∷ (P ++ v)) ≡ true = seen-second t.DoubleColon (word c ∷ []) (P ++ v) (seen_first t.DoubleColon P v i.path) in
          ap (λ (w : List Sort). arm_head (w ++ v)) z.sorted ∙ (rw (s, n₁, n₂, k) refl);
      low_is = λ f. absurd (omega arith);
    })

-- The words of built-in arms.
pub unseen-nil : sees t.DoubleColon [] ≡ false
unfolding sees
unseen-nil = refl

pub none-place : place_in 0 arm.Left arm_words t.None ≡ arm.None
unfolding place_in
none-place = refl

pub false-place : place_in 0 arm.Left arm_words t.false ≡ arm.False
unfolding place_in
false-place = refl

pub true-place : place_in 0 arm.Left arm_words t.true ≡ arm.True
unfolding place_in
true-place = refl

pub none-name : {c : ℕ} → c ≡ t.None → has t.identifiers c ≡ true
unfolding has
none-name e = ap (has t.identifiers) e

pub no-colons : {c : ℕ} → has t.identifiers c ≡ true → c ≡ t.DoubleColon → ⊥
unfolding has
no-colons h e = differ (ap (has t.identifiers) (sym e) ∙ h)

pub unseen-pair : (P : List Sort) → sees t.DoubleColon P ≡ false → sees t.DoubleColon (word t.LParen ∷ (P ++ (word t.RParen ∷ []))) ≡ false
unfolding sees
unseen-pair P e = unseen-append t.DoubleColon P (word t.RParen ∷ []) e refl

pub wrapper-low : {b : ℕ} (c : ℕ) → b ≡ cond (eqb c t.Left) arm.Left (cond (eqb c t.Right) arm.Right arm.Some) → (arm.Left ≤ b) × (b ≤ arm.True)
wrapper-low {b} c e = go (eqb c t.Left) (eqb c t.Right) e
  where
    go : (u v : Bool) → b ≡ cond u arm.Left (cond v arm.Right arm.Some) → (arm.Left ≤ b) × (b ≤ arm.True)
    go true v e = (omega arith, omega arith)
    go false true e = (omega arith, omega arith)
    go false false e = (omega arith, omega arith)

-- The first name of an enum path, whichever name it is.
pub path-begins : {x : Text} {st a c : State} {l l₁ : List ℕ} → Ready x st → Leading st.class a.class → Moved x st a → Put l a.out kind.Name st.start st.stop 0 0 1 l₁ → c ≡ reserved a
    → (has t.identifiers st.class ≡ true) × Amid x kind.EnumArm AnyN (nt n-head ∷ []) (nt n-head_path ∷ []) st l (word st.class ∷ []) (tok_at x st.at ∷ []) 0 c l₁
path-begins {st = st} {a} {c} y (none_begins e n) v put more =
    let k = at_none st.class e in
    let p = named-token t.None (omega arith) y k v put more in
    let b0 = named-first (tok t.None) (nt n-head-optional) y (none_row st.class e) (none-name k) p in
    (none-name k, turns (nt n-head_path ∷ []) b0 path-optional.flat (path-optional.there c.class (reserved-class a more ∙ n)))
path-begins {st = st} {a} {c} y (word_begins e n) v put more =
    let p = child-nt y (word-pos st.class e) v put more flat_word (word_row st.class e) in
    let b0 = named-first (nt n-head-word) (nt n-head-choice) y (wrapped-row st.class e) (word-name st.class e) p in
    (word-name st.class e, turns (nt n-head_path ∷ []) b0 after-word.flat (after-word.elsewhere c.class (λ h. n (sym (reserved-class a more) ∙ h))))
path-begins {st = st} y (name_begins e) v put more =
    let p = child-nt y (other-pos st.class e) v put more flat-other (other_row st.class e) in
    (other_name st.class e, named-first (nt n-other_name) (nt n-head_path) y (named-row st.class e) (other_name st.class e) p)
