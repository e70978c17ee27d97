-- A record with its children is of one of the forms of its kind, with its arms as exchanged, exactly when the automaton takes the children and their
-- numbers are what low and high say.
-- Assumes nothing.
use Rattle.std.specs.Prelude.{Bool, ◌&&◌, not, List, [], map, ◌⊎◌, ◌≡◌, ℕ}
use Rattle.std.proofs.Math.Bool.{cond}
use Rattle.std.proofs.Common.{inl, inr, sym, ◌∙◌, eq-eqb, ne_eqb}
use Rattle.std.proofs.Math.Path.{refl, ap, subst}
use Rattle.std.proofs.Math.Decide.{ℕ_discrete}
use Rattle.std.proofs.Math.Dec.{T, eqb, eqb→eq}
use Rattle.text.specs.Lists.{Some, here}
use Rattle.text.proofs.ListLaws.{all-some, from_some, only_one, some-map, some-keep, keep_some}
use Rattle.text.proofs.Table.{first-of, second-of, pair}
use Rattle.own.specs.Tree.{Rec, reversed}
use Rattle.own.specs.Kinds as kind
use Rattle.kinds.specs.Shape.{Shape, ◌▸◌, Spells}
use Rattle.kinds.specs.Fields.{halves, holds}
use Rattle.kinds.specs.Rules.{Form, forms, all_forms, expression}
use Rattle.kinds.specs.Decide.{forms_for}
use Rattle.load.specs.Bare.{bare, bare_shape}
use Rattle.load.specs.Function.{Fits, alone}
use Rattle.load.specs.Children.Tidy.{tidy}
use Rattle.load.proofs.Children.Tidy.{tidy-in, tidy-out}
use Rattle.load.specs.Children.Laid.{in_turn, laid}
use Rattle.load.proofs.Children.Turned.{match_shape, match-laid, laid-match}
use Rattle.load.specs.Children.Run.{run, ended}
use Rattle.load.proofs.Children.Run.{run_in, run_out, dead-ends}
use Rattle.load.specs.Children.Begin.{asked, asked_of, start}
use Rattle.load.proofs.Children.Begins.{asks, agreed, holds-split, forms-right, form_right, begins-in, Begun, begins-out}

-- What the code finds of a record of this kind, low and high with these children.
pub record Decided (k low high : ℕ) (cs : List Rec) : Type 0 where
  pub taken : T (ended (run (start k low high) cs))
  pub agreeing : T (agreed (asked_of k) low high (map bare cs))

-- The children of a form as they stand in a listing.
record Laid (low high : ℕ) (cs : List Rec) (f : Form) : Type 0 where
  fields : T (holds f.fields low high (map bare cs))
  shape : Spells (laid f) (map bare cs)

module _ (low high : ℕ) (cs : List Rec) where
  -- of a form that is no match's
  plain-laid : (f : Form) → (f.kind ≡ kind.Match → ⊥) → laid f ≡ bare_shape f.shape
  unfolding laid
  plain-laid f n = ap (λ (b : Bool). cond b (expression ▸ in_turn) (bare_shape f.shape)) (ne_eqb f.kind kind.Match n)

  -- the one form of a match
  match-form : {P Q : Form → Type 0} → ((f : Form) → f.kind ≡ kind.Match → f.shape ≡ match_shape → P f → Q f) → Some P (forms_for kind.Match) → Some Q (forms_for kind.Match)
  unfolding forms_for all_forms forms
  match-form g s = here {l = []} (g _ refl refl (only_one s))

  match_is : (f : Form) → f.kind ≡ kind.Match → laid f ≡ expression ▸ in_turn
  unfolding laid
  match_is f e = ap (λ (b : Bool). cond b (expression ▸ in_turn) (bare_shape f.shape)) (eq-eqb f.kind kind.Match e)

  other-map : {P Q : Form → Type 0} (k : ℕ) → (k ≡ kind.Match → ⊥) → ((f : Form) → (f.kind ≡ kind.Match → ⊥) → P f → Q f) → Some P (forms_for k) → Some Q (forms_for k)
  unfolding forms_for
  other-map k n g s =
      keep_some (λ f. eqb f.kind k)
      (some-map (λ f x. (x.0, g f (λ e. n (sym (eqb→eq f.kind k x.0) ∙ e)) x.1)) (some-keep (λ f. eqb f.kind k) all_forms s))

  -- A form with its arms as exchanged is a form as its children stand in a listing,
  lay : (k : ℕ) → Some (Fits low high cs) (forms_for k) → (k ≡ kind.Match → T (not (reversed (map alone cs)))) → Some (Laid low high cs) (forms_for k)
  lay k s x = go (ℕ_discrete k kind.Match)
    where
      go : Dec (k ≡ kind.Match) → Some (Laid low high cs) (forms_for k)
      go (yes e) =
          subst (λ (j : ℕ). Some (Laid low high cs) (forms_for j)) (sym e)
          (match-form
          (λ f q m h. record {
            fields = h.fields;
            shape = subst (λ (a : Shape). Spells a (map bare cs)) (sym (match_is f q)) (match-laid cs (subst (λ (a : Shape). Spells (bare_shape a) (map bare cs)) m h.shape) (x e));
          })
          (subst (λ (j : ℕ). Some (Fits low high cs) (forms_for j)) e s))
      go (no n) = other-map k n (λ f q h. record { fields = h.fields; shape = subst (λ (a : Shape). Spells a (map bare cs)) (sym (plain-laid f q)) h.shape }) s

  -- and back.
  formed-back : (k : ℕ) → Some (Laid low high cs) (forms_for k) → Some (Fits low high cs) (forms_for k)
  formed-back k s = go (ℕ_discrete k kind.Match)
    where
      go : Dec (k ≡ kind.Match) → Some (Fits low high cs) (forms_for k)
      go (yes e) =
          subst (λ (j : ℕ). Some (Fits low high cs) (forms_for j)) (sym e)
          (match-form
          (λ f q m h. record {
            fields = h.fields;
            shape = subst (λ (a : Shape). Spells (bare_shape a) (map bare cs)) (sym m) (laid-match cs (subst (λ (a : Shape). Spells a (map bare cs)) (match_is f q) h.shape)).0;
          })
          (subst (λ (j : ℕ). Some (Laid low high cs) (forms_for j)) e s))
      go (no n) = other-map k n (λ f q h. record { fields = h.fields; shape = subst (λ (a : Shape). Spells a (map bare cs)) (plain-laid f q) h.shape }) s

  exchanged-back : (k : ℕ) → Some (Laid low high cs) (forms_for k) → k ≡ kind.Match → T (not (reversed (map alone cs)))
  exchanged-back k s e =
      from_some (λ f x. x)
      (match-form {Q = λ f. T (not (reversed (map alone cs)))} (λ f q m h. (laid-match cs (subst (λ (a : Shape). Spells a (map bare cs)) (match_is f q) h.shape)).1)
      (subst (λ (j : ℕ). Some (Laid low high cs) (forms_for j)) e s))

  module _ (k : ℕ) (small : T (halves low high)) where
    split : (f : Form) → holds f.fields low high (map bare cs) ≡ (asks f.fields low high && agreed (asked f.fields) low high (map bare cs))
    split f = holds-split f.fields low high (map bare cs) small

    -- Of one of the forms of its kind, with its arms as exchanged: the automaton takes the children, and their numbers agree;
    pub decided : Some (Fits low high cs) (forms_for k) → (k ≡ kind.Match → T (not (reversed (map alone cs)))) → Decided k low high cs
    unfolding forms_for
    decided s x = from_some go (all-some form_right forms-right (some-keep (λ f. eqb f.kind k) all_forms (lay k s x)))
      where
        go : (f : Form) → T (form_right f) × (T (eqb f.kind k) × Laid low high cs f) → Decided k low high cs
        go f (r, (e, h)) =
            let q = eqb→eq f.kind k e in
            let a = asks f.fields low high in
            let b = agreed (asked f.fields) low high (map bare cs) in
            let t : T (a && b) = subst T (split f) h.fields in
            let (same, has) = begins-in f low high r (first-of a b t) in
            record {
              taken = subst (λ (j : ℕ). T (ended (run (start j low high) cs))) q (run_in (start f.kind low high) (tidy (laid f)) cs has (tidy-in h.shape));
              agreeing = subst (λ (x : ℕ). T (agreed x low high (map bare cs))) (same ∙ ap asked_of q) (second-of a b t);
            }

    laid_of : Decided k low high cs → Some (Laid low high cs) (forms_for k)
    laid_of d = go (begins-out k low high)
      where
        one : (f : Form) → Begun k low high f → Laid low high cs f
        one f b =
            let x = asks f.fields low high in
            let y = agreed (asked f.fields) low high (map bare cs) in
            record {
              fields = subst T (sym (split f)) (pair x y b.suits (subst (λ (a : ℕ). T (agreed a low high (map bare cs))) (sym b.same_asked) d.agreeing));
              shape = tidy-out (laid f) (map bare cs) (run_out (start k low high) (tidy (laid f)) cs b.state d.taken);
            }

        go : (start k low high ≡ 0) ⊎ Some (Begun k low high) (forms_for k) → Some (Laid low high cs) (forms_for k)
        go (inl e) = absurd (dead-ends cs (subst (λ (q : ℕ). T (ended (run q cs))) e d.taken))
        go (inr s) = some-map one s

    -- and back.
    pub decided-formed : Decided k low high cs → Some (Fits low high cs) (forms_for k)
    decided-formed d = formed-back k (laid_of d)

    pub decided-exchanged : Decided k low high cs → k ≡ kind.Match → T (not (reversed (map alone cs)))
    decided-exchanged d = exchanged-back k (laid_of d)
