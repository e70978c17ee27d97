-- Each bracket and `match` by its kind; every other token ends a row and leaves the depth.
-- Assumes nothing.
use mathlib.Core.Logic.{◌⊎◌, inl, inr}
use Rattle.std.proofs.Common.{◌≡◌, ◌+◌, ◌-◌, ℕ, refl, false, eqb, arith, rules, tests}
use Rattle.lexer.specs.Classes as t
use Rattle.lexer.specs.Limits.{depth_after, row_after}
use Rattle.lexer.proofs.Nesting.{passes-not}
use Rattle.lexer.proofs.depth.Counts.after.Goals as goal

-- what a token of a kind does to both counts
record Becomes (k d' m' d m : ℕ) : Type 0 where
  depth : depth_after k d ≡ d'
  row : row_after k m ≡ m'

opens : (k d m : ℕ) → (k ≡ t.LParen) ⊎ ((k ≡ t.LBracket) ⊎ ((k ≡ t.LBrace) ⊎ (k ≡ t.LAngle))) → Becomes k (d + 1) 0 d m
unfolding depth_after row_after
opens k d m (inl e) = record { depth = rw e refl; row = rw e refl }
opens k d m (inr (inl e)) = record { depth = rw e refl; row = rw e refl }
opens k d m (inr (inr (inl e))) = record { depth = rw e refl; row = rw e refl }
opens k d m (inr (inr (inr e))) = record { depth = rw e refl; row = rw e refl }

shuts : (k d m : ℕ) → (k ≡ t.RParen) ⊎ ((k ≡ t.RBracket) ⊎ ((k ≡ t.RBrace) ⊎ (k ≡ t.RAngle))) → Becomes k (d - 1) 0 d m
unfolding depth_after row_after
shuts k d m (inl e) = record { depth = rw e refl; row = rw e refl }
shuts k d m (inr (inl e)) = record { depth = rw e refl; row = rw e refl }
shuts k d m (inr (inr (inl e))) = record { depth = rw e refl; row = rw e refl }
shuts k d m (inr (inr (inr e))) = record { depth = rw e refl; row = rw e refl }

pub returns-in-20 : goal.returns-in-20
returns-in-20 c =
    let k = opens _ c.args.self.depth c.args.self.row c.in-20.is in
    rw (k.depth, k.row) c.opened.ensures

pub returns-in-21 : goal.returns-in-21
returns-in-21 c =
    let k = shuts _ c.args.self.depth c.args.self.row c.in-21.is in
    let few = c.args.self.few in
    rw (k.depth, k.row) (passes-not (c.args.self.depth - 1) 0 (omega arith) (omega arith), c.closed.ensures.0, c.closed.ensures.1)

pub returns-in-9 : goal.returns-in-9
unfolding depth_after row_after
returns-in-9 c = rw c.in-9.is c.matched.ensures

pub returns-in_default : goal.returns-in_default
unfolding depth_after row_after
returns-in_default c =
    let e20 : eqb c.args.kind 20 ≡ false = search (tests, rules) in
    let e22 : eqb c.args.kind 22 ≡ false = search (tests, rules) in
    let e24 : eqb c.args.kind 24 ≡ false = search (tests, rules) in
    let e26 : eqb c.args.kind 26 ≡ false = search (tests, rules) in
    let e21 : eqb c.args.kind 21 ≡ false = search (tests, rules) in
    let e23 : eqb c.args.kind 23 ≡ false = search (tests, rules) in
    let e25 : eqb c.args.kind 25 ≡ false = search (tests, rules) in
    let e27 : eqb c.args.kind 27 ≡ false = search (tests, rules) in
    let e9 : eqb c.args.kind 9 ≡ false = search (tests, rules) in
    simp (e20, e22, e24, e26, e21, e23, e25, e27, e9) (passes-not c.args.self.depth 0 c.args.self.few (omega arith), c.ended.ensures.0, c.ended.ensures.1)
