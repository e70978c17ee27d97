-- A type item and an item: their rules in grammar's table, and the head of a type item's record.
-- Assumes nothing.
use Rattle.std.proofs.Common.{◌≡◌, ℕ, ◌-◌, ◌<◌, ◌≤◌, Bool, true, false, cond, ltb, List, [], ◌∷◌, ◌++◌, length, take, drop, sym, refl, ap, ◌∙◌, subst, ap₂, inl, inr, arith}
use Rattle.std.proofs.Common.{append-nil, length-drop, drop_of_length-le, take_all, ltb-false, ltb-true, le-ltb, lt-ltb, eq-eqb, ne_eqb}
use types.Run.{OneOf}
use denote.Enum.Declared.{tag_of}
use Rattle.text.specs.Lists.{has}
use Rattle.text.specs.Widths.{rec_wide}
use Rattle.theory.specs.Grammar.{Sym, tok, nt, look, row, alt, pick}
use Rattle.theory.specs.Machine.{choose}
use Rattle.theory.specs.Ebnf.{kinds_of}
use Rattle.theory.specs.Same.{ex}
use Rattle.own.specs.Tree.{Tok}
use Rattle.own.specs.Law.{Sort}
use Rattle.own.specs.Kinds as kind
use Rattle.kinds.specs.Families as family
use Rattle.lexer.specs.Classes as t
use Rattle.grammar.specs.Shapes.Shapes.{shapes}
use Rattle.grammar.specs.Shapes.Tables.{means, table}
use Rattle.grammar.specs.Records.Records.{head, head_of, form_of}
use Rattle.grammar.specs.Shapes.ShapeKind.{TypeItemShape}
use Rattle.grammar.specs.Shapes.TablesIndex.{n-function, n-type_item, n-alias_name, n-type, n-file}
use Rattle.parse.specs.Contract.{Text, as_items, Parsed, read, stuck, Node, Put, reserved}
use Rattle.parse.specs.Infos.{FunctionKind, TypeItemKind, ItemKind, item_at, FileItems, behind, FileRead, file_read, file_stuck}
use Rattle.parse.specs.declared.State.{State}
use Rattle.parse.specs.declared.Step.{Step}
use Rattle.parse.specs.declared.Step.TheVariants.{Next}
use Rattle.parse.specs.contracts.Step.{the_type}
use Rattle.parse.proofs.Rule.Amid.{Amid}
use Rattle.parse.proofs.Rule.Steps.{decided}
use Rattle.parse.proofs.Rule.Closing.{Rule}

abbrev pub type_item_rhs : List Sym
type_item_rhs = tok t.«Type» ∷ nt n-alias_name ∷ tok t.Eq ∷ nt n-type ∷ tok t.Semi ∷ []

pub type-item-rule : Rule n-type_item 1 TypeItemShape type_item_rhs
unfolding ex means kinds_of shapes row table alt pick
type-item-rule = record { category = refl; from_one = refl; kind = refl; rule = refl }

pub at-type-item : (c : ℕ) → c ≡ t.«Type» → choose table n-type_item c ≡ 1
unfolding choose row look table
at-type-item c e = ap (choose table n-type_item) e

pub named-type-item : has family.names_kept kind.TypeItem ≡ true
unfolding has
named-type-item = refl

-- The head of a type item.
pub type-item-head : {x : Text} {K : ℕ} {N : ℕ → Type 0} {full left : List Sym} {st : State} {l : List ℕ} {w : List Sort} {ms : List Tok} {m : ℕ} {st₁ : State} {l₁ : List ℕ}
    → Amid x K N full left st l w ms m st₁ l₁ → decided x TypeItemShape w ms ≡ head kind.TypeItem 0 0
unfolding head_of form_of
type-item-head d = refl

-- A node of a kind is a node of a wider sort of kinds.
as-node : {x : Text} {st : State} {l l' : List ℕ} {r : Step} {A : ℕ} {P Q : ℕ → Type 0} → ((k : ℕ) → P k → Q k) → Parsed x (nt A ∷ []) as_items (Node P) st l l' r → Parsed x (nt A ∷ []) as_items (Node Q) st l l' r
as-node f (read w) =
    let i = w.info in
    read (record {
      items = w.items;
      L = w.L;
      m = w.m;
      reads = w.reads;
      lays = w.lays;
      info = record { kind = i.kind; low = i.low; high = i.high; js = i.js; raw_is = i.raw_is; laid_is = i.laid_is; none_left = i.none_left; its_kind = f i.kind i.its_kind };
    })
as-node f (stuck h g) = stuck h g

-- An item begins as its first token says.
module _ {x : Text} {st : State} {l l' : List ℕ} {r : Step} where
  at_item : {A : ℕ} → A ≡ item_at st.class → Parsed x (nt A ∷ []) as_items (Node ItemKind) st l l' r → Parsed x (nt (item_at st.class) ∷ []) as_items (Node ItemKind) st l l' r
  at_item e p = subst (λ (A : ℕ). Parsed x (nt A ∷ []) as_items (Node ItemKind) st l l' r) e p

  pub as_type_item : st.class ≡ t.«Type» → Parsed x (nt n-type_item ∷ []) as_items (Node TypeItemKind) st l l' r → Parsed x (nt (item_at st.class) ∷ []) as_items (Node ItemKind) st l l' r
  unfolding item_at
  as_type_item e p = at_item (sym (ap (λ (b : Bool). cond b n-type_item n-function) (eq-eqb st.class t.«Type» e))) (as-node (λ k h. inr h) p)

  pub as_function : (st.class ≡ t.«Type» → ⊥) → Parsed x (nt n-function ∷ []) as_items (Node FunctionKind) st l l' r → Parsed x (nt (item_at st.class) ∷ []) as_items (Node ItemKind) st l l' r
  unfolding item_at
  as_function n p = at_item (sym (ap (λ (b : Bool). cond b n-type_item n-function) (ne_eqb st.class t.«Type» n))) (as-node (λ k h. inl h) p)

-- Where the words behind the first record begin.
pub behind-short : (n : ℕ) → n < rec_wide → n ≡ behind n
unfolding behind
behind-short n h = sym (ap (λ (b : Bool). cond b n rec_wide) (lt-ltb n rec_wide h))

pub behind-long : (n : ℕ) → rec_wide ≤ n → rec_wide ≡ behind n
unfolding behind
behind-long n h = sym (ap (λ (b : Bool). cond b n rec_wide) (le-ltb n rec_wide h))

pub behind-within : (n : ℕ) → behind n ≤ n
behind-within n = go (ltb n rec_wide) refl
  where
    go : (b : Bool) → ltb n rec_wide ≡ b → behind n ≤ n
    go true e = omega (arith, behind-short n (ltb-true n rec_wide e))
    go false e = omega (arith, behind-long n (ltb-false n rec_wide e), ltb-false n rec_wide e)

pub behind-few : (n : ℕ) → behind n ≤ rec_wide
behind-few n = go (ltb n rec_wide) refl
  where
    go : (b : Bool) → ltb n rec_wide ≡ b → behind n ≤ rec_wide
    go true e = omega (arith, behind-short n (ltb-true n rec_wide e), ltb-true n rec_wide e)
    go false e = omega (arith, behind-long n (ltb-false n rec_wide e))

-- The words that are lent from there on, and all words when they have been written.
module _ (l : List ℕ) {k : ℕ} (e : k ≡ behind (length l)) where
  rest-long : length (drop k l) ≤ length l - k
  rest-long = omega (arith, length-drop k l)

  pub lent-words : take (length l - k) (drop k l) ≡ drop (behind (length l)) l
  lent-words = take_all (length l - k) (drop k l) rest-long ∙ ap (λ (i : ℕ). drop i l) e

  pub all_words : (u : List ℕ) → take k l ++ (u ++ drop (length l - k) (drop k l)) ≡ take (behind (length l)) l ++ u
  all_words u =
      ap₂ (λ (i : ℕ) (v : List ℕ). take i l ++ (u ++ v)) e (drop_of_length-le (drop k l) rest-long) ∙ ap (λ (v : List ℕ). take (behind (length l)) l ++ v) (append-nil u)

-- The items of a whole file are refused, or read and closed by the first record.
file-passed : {x : Text} (len : ℕ) {st : State} (l l₁ l' : List ℕ) {r : Step} → OneOf (1 ∷ []) (tag_of the_type r)
    → Parsed x (nt n-file ∷ []) as_items FileItems st (drop (behind (length l)) l) l₁ r → FileRead x len st l l' r
file-passed len l l₁ l' k (read w) = absurd (omega arith)
file-passed len l l₁ l' k (stuck h g) = file_stuck {l₁ = l₁} (stuck h g)

module _ {x : Text} (len : ℕ) {st : State} (l : List ℕ) {s l₁ : List ℕ} (l' : List ℕ) {r : Step} (e : s ≡ drop (behind (length l)) l) (p : Parsed x (nt n-file ∷ []) as_items FileItems st s l₁ r) where
  its-items : Parsed x (nt n-file ∷ []) as_items FileItems st (drop (behind (length l)) l) l₁ r
  its-items = subst (λ u. Parsed x (nt n-file ∷ []) as_items FileItems st u l₁ r) e p

  pub file-refused : OneOf (1 ∷ []) (tag_of the_type r) → FileRead x len st l l' r
  file-refused k = file-passed len l l₁ l' k its-items

  pub file-closed : {z : State} {a b : ℕ} {u : List ℕ} → r ≡ Next z a b → u ≡ take (behind (length l)) l ++ l₁ → {all : State} → all ≡ reserved z
      → Put u 0 kind.Program 0 len 0 0 all.out l' → FileRead x len st l l' (Next all 0 0)
  file-closed {z} {a} {b} {u} f g {all} q t =
      subst (λ y. FileRead x len st l l' (Next y 0 0)) (sym q)
      (file_read (subst (Parsed x (nt n-file ∷ []) as_items FileItems st (drop (behind (length l)) l) l₁) f its-items)
      (subst (λ v. Put v 0 kind.Program 0 len 0 0 (reserved z).out l') g (subst (λ y. Put u 0 kind.Program 0 len 0 0 y.out l') q t)))
