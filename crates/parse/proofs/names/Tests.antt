-- What the tests of names.rt say of a name as a pattern and of the name of a call.
-- Assumes nothing.
use Rattle.std.proofs.Common.{◌≡◌, ℕ, Bool, true, false, cond, ◌||◌, eqb, List, [], ◌∷◌, ◌∙◌, ap, sym, refl, eq-eqb, ne_eqb, eqb-true}
use Rattle.text.specs.Ascii.{ascii, ascii_from}
use Rattle.text.specs.Same.{same}
use Rattle.text.specs.Lists.{has}
use Rattle.text.proofs.SameLaws.{same_self, same_true}
use Rattle.lexer.specs.Classes as t
use Rattle.grammar.specs.Records.Records.{plain, pattern_name_head}
use Rattle.own.specs.Kinds as kind
use Rattle.parse.specs.Contract.{name_sort, callees}
use Rattle.parse.proofs.names.Rows.{other-sort}
use Rattle.parse.specs.Choice as choice

-- The byte `_`.
abbrev underscore : ℕ
underscore = 95

module _ (l p : List ℕ) (c : ℕ) (s : l ≡ p) (h : c ≡ t.Ident) where
  by-same : (b : Bool) → same l (underscore ∷ []) ≡ b → cond b (plain kind.IgnorePattern) (plain kind.IdentifierPattern) ≡ pattern_name_head p c
  unfolding pattern_name_head ascii ascii_from
  by-same b q = rw (eq-eqb c t.Ident h, ← s, q) refl

  pub is-underscore : l ≡ underscore ∷ [] → plain kind.IgnorePattern ≡ pattern_name_head p c
  is-underscore e = by-same true (ap (λ w. same w (underscore ∷ [])) e ∙ same_self (underscore ∷ []))

  pub is-other : (l ≡ underscore ∷ [] → ⊥) → plain kind.IdentifierPattern ≡ pattern_name_head p c
  is-other n = by-same false (go (same l (underscore ∷ [])) refl)
    where
      go : (b : Bool) → same l (underscore ∷ []) ≡ b → b ≡ false
      go true q = absurd (n (same_true l (underscore ∷ []) q))
      go false q = refl

pub no-plain-name : (p : List ℕ) (c : ℕ) → (c ≡ t.Ident → ⊥) → plain kind.IdentifierPattern ≡ pattern_name_head p c
unfolding pattern_name_head
no-plain-name p c n = rw (ne_eqb c t.Ident n) refl

-- The name of a call: a jet, a function's name, any other.
pub jet-called : (c : ℕ) → c ≡ t.Jet → has callees c ≡ true
unfolding has
jet-called c e = rw (eq-eqb t.Jet c (sym e)) refl

with-jet : (c : ℕ) (b : Bool) → has t.function_names c ≡ b → (c ≡ t.Jet → b ≡ true) → has callees c ≡ b
unfolding has
with-jet c b q j = go (eqb t.Jet c) refl
  where
    go : (a : Bool) → eqb t.Jet c ≡ a → (a || has t.function_names c) ≡ b
    go true e = sym (j (sym (eqb-true t.Jet c e)))
    go false e = q

pub name-called : (c : ℕ) → name_sort c ≡ choice.FunctionName → has callees c ≡ true
unfolding name_sort
name-called c e = go (has t.function_names c) refl
  where
    go : (b : Bool) → has t.function_names c ≡ b → has callees c ≡ true
    go true q = with-jet c true q (λ j. refl)
    go false q = absurd (other-sort c q e)

pub none-called : (c : ℕ) → (c ≡ t.Jet → ⊥) → (name_sort c ≡ choice.FunctionName → ⊥) → has callees c ≡ false
unfolding name_sort
none-called c j n = go (has t.function_names c) refl
  where
    go : (b : Bool) → has t.function_names c ≡ b → has callees c ≡ false
    go true q = absurd (n (rw q refl))
    go false q = with-jet c false q (λ e. absurd (j e))
