-- Items side by side, as the loop of `items` reads them.
-- Assumes nothing.
use Rattle.std.proofs.Common.{◌≡◌, ℕ, Bool, true, false, cond, eqb, List, [], ◌∷◌, ◌++◌, sym, refl, ◌∙◌, eq-eqb, eqb-true}
use mathlib.Core.Option.{some}
use types.Run.{OneOf}
use denote.Enum.Declared.{tag_of}
use Rattle.text.proofs.Same.{differ}
use Rattle.theory.specs.Grammar.{Sym, nt, on, look, row, alt, pick}
use Rattle.theory.specs.Machine.{choose, expand}
use Rattle.theory.specs.Ebnf as shape
use Rattle.theory.specs.Ebnf.{sort_of}
use Rattle.theory.specs.Same.{ex}
use Rattle.own.specs.Law.{Sort}
use Rattle.grammar.specs.Shapes.Tables.{means, table}
use Rattle.grammar.specs.Shapes.TablesIndex.{n-file, n-function, n-type_item}
use Rattle.lexer.specs.Classes as t
use Rattle.parse.specs.contracts.Step.{the_type}
use Rattle.parse.specs.Contract.{Text, raw, Ready, Info, as_items, Went, Parsed, Node}
use Rattle.parse.specs.Infos.{ItemKind, item_at, FileItems}
use Rattle.parse.specs.declared.State.{State}
use Rattle.parse.specs.declared.Step.{Step}
use Rattle.parse.specs.declared.Step.TheVariants.{Next}
use Rattle.parse.proofs.Rule.Amid.{Amid, starts, then-passed}
use Rattle.parse.proofs.Rule.Chain.{turns, then-node}
use Rattle.parse.proofs.Rule.Commas.{AnyN, arranged-zero, finish}
use Rattle.parse.proofs.choice.Chosen.{hit, miss, goes}

-- The row of a file: nothing at the end; a type item where `type` stands, otherwise a function; and further items.
flat-file : sort_of (ex means (nt n-file)) ≡ shape.flat
unfolding sort_of ex means
flat-file = refl

no_more : (c : ℕ) → c ≡ 0 → expand table n-file c ≡ some []
unfolding choose row table look alt pick
no_more c h = goes n-file 1 c (hit 0 1 (on t.«Type» 2 ∷ []) 3 h) refl

one_more : (c : ℕ) → (c ≡ 0 → ⊥) → expand table n-file c ≡ some (nt (item_at c) ∷ nt n-file ∷ [])
unfolding choose row table look alt pick item_at
one_more c n = go (eqb c t.«Type») refl
  where
    go : (b : Bool) → eqb c t.«Type» ≡ b → expand table n-file c ≡ some (nt (cond b n-type_item n-function) ∷ nt n-file ∷ [])
    go true e = goes n-file 2 c (miss 0 1 (on t.«Type» 2 ∷ []) 3 n (hit t.«Type» 2 [] 3 (eqb-true c t.«Type» e))) refl
    go false e = goes n-file 3 c (miss 0 1 (on t.«Type» 2 ∷ []) 3 n (miss t.«Type» 2 [] 3 (λ h. differ (sym e ∙ eq-eqb c t.«Type» h)) refl)) refl

-- The items up to `here`.
pub record ItemsInv (x : Text) (st : State) (l : List ℕ) (here : State) (l₁ : List ℕ) : Type 0 where
  pub w : List Sort
  pub amid : Amid x 0 AnyN (nt n-file ∷ []) (nt n-file ∷ []) st l w [] 0 here l₁

module _ {x : Text} {st : State} {l : List ℕ} (y : Ready x st) where
  pub items-starts : ItemsInv x st l st l
  items-starts = record { w = []; amid = starts 0 AnyN (nt n-file ∷ []) l y.stands }

  module _ {here : State} {l₁ : List ℕ} (v : ItemsInv x st l here l₁) where
    at_here : {rhs : List Sym} → expand table n-file here.class ≡ some rhs → Amid x 0 AnyN (nt n-file ∷ []) (rhs ++ []) st l v.w [] 0 here l₁
    at_here {rhs} e = turns rhs v.amid flat-file e

    -- They end at the end,
    pub items-ends : here.class ≡ 0 → Went x (nt n-file ∷ []) as_items FileItems st l here l₁ 0 0
    items-ends c =
        let d = at_here (no_more here.class c) in
        finish d (record { same = sym (d.roles 0 tt) ∙ arranged-zero 0 (raw x st.at d.pre) })

    module _ (n : here.class ≡ 0 → ⊥) {l₂ : List ℕ} {r : Step} (p : Parsed x (nt (item_at here.class) ∷ []) as_items (Node ItemKind) here l₁ l₂ r) where
      -- or an item is refused,
      pub items-passed : {J : Info} {l' : List ℕ} → OneOf (1 ∷ []) (tag_of the_type r) → Parsed x (nt n-file ∷ []) as_items J st l l' r
      items-passed k = then-passed (at_here (one_more here.class n)) k (λ τ q h. h) p

      module _ {a : State} {i j : ℕ} (e : r ≡ Next a i j) where
        -- or there is one item more.
        pub items-again : ItemsInv x st l a l₂
        items-again = let z = then-node (at_here (one_more here.class n)) p e in record { w = _; amid = z.amid }
