-- The law of HeadLaws.antt for what begins with a name, a macro, a jet or `<`.
-- Assumes nothing.
use Rattle.std.specs.Prelude.{Bool, true, ◌&&◌, ◌||◌, not, cond, List, [], ◌∷◌, ◌⊎◌, ◌≡◌, ℕ}
use Rattle.std.proofs.Math.Bool.{false, and-false}
use Rattle.std.proofs.Common.{inl, inr}
use Rattle.std.proofs.Math.Path.{refl}
use Rattle.std.proofs.Math.Dec.{T}
use Rattle.text.proofs.Table.{is_true, first-of, second-of, or_cases, not-true}
use Rattle.text.specs.Lists.{all, has}
use Rattle.own.specs.Law.{Sort}
use Rattle.own.specs.Kinds as kind
use Rattle.kinds.specs.Shape.{Part, Shape, Spells}
use Rattle.kinds.specs.Rules.{wrappers}
use Rattle.lexer.specs.Classes as class
use Rattle.grammar.proofs.Spelled.Rows.{Row, variants}
use Rattle.grammar.proofs.Spelled.Inclusion.{dealt}
use Rattle.grammar.proofs.Spelled.Decisions.{sure, free, row_sure, row-free, lacks, row-lacks}
use Rattle.grammar.proofs.Spelled.FormTests.{SpelledAs, by_rows, form_in, Numbers, form-sound, no_number, fixed, fixed-holds, of_names, counts, Says}
use Rattle.grammar.proofs.Spelled.FormTests.{lone_row, crowded_row, lone-sound, crowded-sound, judge, judge-sound}
use Rattle.grammar.proofs.Spelled.HeadLaws.{opened, opened-sound, exact_in, exact-sound, count-sound}
use Rattle.grammar.proofs.Spelled.CountedLaws.{names-construction, second-third}
use Rattle.grammar.specs.Records.Records.{head, sees, opening, name_count, lone, call_head, wrapper_head, called_head, alone_head, name_head}

module _ (n : ℕ) (ok : ℕ → Part → Bool) where
  -- a wrapper, or a call of a name
  unfoldable pub wraps_row : ℕ → List Shape → Bool
  wraps_row c row = (has wrappers c && lone_row row) && exact_in n (wrapper_head c) row

  unfoldable pub calls_row : ℕ → List Shape → Bool
  calls_row c row = (not (has wrappers c) || crowded_row row) && exact_in n (call_head c) row

  -- a call with `< >`; a path; a call or wrapper; a token alone
  unfoldable pub generic_row : ℕ → List Shape → Bool
  generic_row c row = sure class.LAngle row && form_in kind.Call n (ok c) (fixed (call_head c).low (call_head c).high) row

  unfoldable pub path_row : List Shape → Bool
  path_row row = sure class.DoubleColon row && (all (lacks (kind.Name ∷ [])) row && form_in kind.EnumConstruction n no_number (counts of_names) row)

  unfoldable pub parens_row : ℕ → List Shape → Bool
  parens_row c row = sure class.LParen row && (wraps_row c row || calls_row c row)

  unfoldable pub alone_row : ℕ → List Shape → Bool
  alone_row c row = free class.LParen row && exact_in n (alone_head c) row

  unfoldable pub plain_row : ℕ → List Shape → Bool
  plain_row c row = free class.DoubleColon row && (parens_row c row || alone_row c row)

  unfoldable pub name_row : ℕ → List Shape → Bool
  name_row c row = generic_row c row || (free class.LAngle row && (path_row row || plain_row c row))

  module _ (c : ℕ) (row : List Shape) {w : List Sort} (e : opening w ≡ c) (r : Row row w) where
    called-sound : T (wraps_row c row || calls_row c row) → SpelledAs (called_head w) n w
    unfolding wraps_row calls_row called_head
    called-sound t = go (or_cases ((has wrappers c && lone_row row) && exact_in n (wrapper_head c) row) ((not (has wrappers c) || crowded_row row) && exact_in n (call_head c) row) t)
      where
        lonely : T (not (has wrappers c)) ⊎ T (crowded_row row) → (has wrappers c && lone w) ≡ false
        lonely (inl u) = rw (not-true (has wrappers c) u) refl
        lonely (inr u) = rw (crowded-sound row u r) (and-false (has wrappers c))

        go : T ((has wrappers c && lone_row row) && exact_in n (wrapper_head c) row) ⊎ T ((not (has wrappers c) || crowded_row row) && exact_in n (call_head c) row)
            → SpelledAs (cond (has wrappers (opening w) && lone w) (wrapper_head (opening w)) (call_head (opening w))) n w
        go (inl u) =
            let a = has wrappers c && lone_row row in
            let v = first-of a (exact_in n (wrapper_head c) row) u in
            rw (e, is_true (has wrappers c) (first-of (has wrappers c) (lone_row row) v), lone-sound row (second-of (has wrappers c) (lone_row row) v) r)
            (exact-sound n (wrapper_head c) row (second-of a (exact_in n (wrapper_head c) row) u) r)
        go (inr u) =
            let a = not (has wrappers c) || crowded_row row in
            rw (e, lonely (or_cases (not (has wrappers c)) (crowded_row row) (first-of a (exact_in n (call_head c) row) u)))
            (exact-sound n (call_head c) row (second-of a (exact_in n (call_head c) row) u) r)

    plain-sound : T (plain_row c row) → sees class.LAngle w ≡ false → SpelledAs (name_head w) n w
    unfolding plain_row parens_row alone_row name_head
    plain-sound t f =
        let d = free class.DoubleColon row in
        let x = parens_row c row || alone_row c row in
        go (row-free class.DoubleColon (first-of d x t) r) (or_cases (parens_row c row) (alone_row c row) (second-of d x t))
      where
        go : sees class.DoubleColon w ≡ false → T (sure class.LParen row && (wraps_row c row || calls_row c row)) ⊎ T (free class.LParen row && exact_in n (alone_head c) row) → SpelledAs (name_head w) n w
        go g (inl u) = rw (f, g, row_sure class.LParen (first-of (sure class.LParen row) (wraps_row c row || calls_row c row) u) r) (called-sound (second-of (sure class.LParen row) (wraps_row c row || calls_row c row) u))
        go g (inr u) =
            rw (f, g, row-free class.LParen (first-of (free class.LParen row) (exact_in n (alone_head c) row) u) r, e)
            (exact-sound n (alone_head c) row (second-of (free class.LParen row) (exact_in n (alone_head c) row) u) r)

    path-sound : T (path_row row) → sees class.LAngle w ≡ false → SpelledAs (name_head w) n w
    unfolding path_row name_head Says
    path-sound t f =
        let x = sure class.DoubleColon row in
        let y = all (lacks (kind.Name ∷ [])) row in
        let z = form_in kind.EnumConstruction n no_number (counts of_names) row in
        let v = second-third x y z t in
        rw (f, row_sure class.DoubleColon (first-of x (y && z) t) r)
        (count-sound n of_names (head kind.EnumConstruction (name_count w) 0) row (names-construction n w (row-lacks (kind.Name ∷ []) v.0 r), refl) v.1 r)

    module _ (numbers : sees class.LAngle w ≡ true → Numbers n (ok c)) where
      generic-sound : T (generic_row c row) → SpelledAs (name_head w) n w
      unfolding generic_row name_head call_head
      generic-sound t =
          let x = sure class.LAngle row in
          let y = form_in kind.Call n (ok c) (fixed (call_head c).low (call_head c).high) row in
          let g = row_sure class.LAngle (first-of x y t) r in
          rw (g, e)
          (form-sound kind.Call n (ok c) (numbers g) (fixed (call_head c).low (call_head c).high) (call_head c).low (call_head c).high
          (fixed-holds (call_head c).low (call_head c).high (dealt kind.Call n w)) row (second-of x y t) r)

      name-sound : T (name_row c row) → SpelledAs (name_head w) n w
      unfolding name_row
      name-sound t = go (or_cases (generic_row c row) (free class.LAngle row && (path_row row || plain_row c row)) t)
        where
          rest : sees class.LAngle w ≡ false → T (path_row row) ⊎ T (plain_row c row) → SpelledAs (name_head w) n w
          rest f (inl u) = path-sound u f
          rest f (inr u) = plain-sound u f

          go : T (generic_row c row) ⊎ T (free class.LAngle row && (path_row row || plain_row c row)) → SpelledAs (name_head w) n w
          go (inl u) = generic-sound u
          go (inr u) =
              let x = free class.LAngle row in
              let y = path_row row || plain_row c row in
              rest (row-free class.LAngle (first-of x y u) r) (or_cases (path_row row) (plain_row c row) (second-of x y u))

  -- A row, or all that it unrolls to.
  unfoldable pub name_rows : ℕ → List Shape → Bool
  name_rows c row = judge (name_row c) row

  pub name-law : (a : Shape) {w : List Sort} → ((c : ℕ) → opening w ≡ c → sees class.LAngle w ≡ true → Numbers n (ok c)) → T (all (opened name_rows) (variants a)) → Spells a w → SpelledAs (name_head w) n w
  unfolding name_rows
  name-law a numbers t p =
      by_rows (opened name_rows) a t
      (λ l u r. opened-sound name_rows l u (λ c m x e s. judge-sound (name_row c) m x (λ o y q. name-sound c o e q (numbers c e) y) s) r) p
