-- What `Check.good` gives of the predictive machine: it accepts just what the grammar derives, and it refuses at the first token
-- that no derivation has there.
-- Assumes nothing.
use Rattle.std.specs.Prelude.{◌≡◌, ◌⊎◌, eqb}
use Rattle.std.proofs.Math.Path.{refl}
use Rattle.std.proofs.Common.{ap, inl, inr, arith, eqb→eq}
use Rattle.std.proofs.Math.Bool.{Bool, false}
use mathlib.Core.List.{List, [], ◌∷◌, ◌++◌, append_assoc, append-nil}
use Rattle.std.proofs.Math.Option.{Option, none, some}
use Prim.Native.Nat.{ℕ, zero, suc}
use Rattle.std.proofs.Math.Dec.{T}
use Rattle.text.proofs.Table.{first-of, second-of}
use Rattle.text.specs.Lists.{all, has}
use Rattle.text.proofs.ListLaws.{all-has}
use Rattle.theory.specs.Grammar.{Sym, tok, nt, Row, row, alt, pick, Der, d_end, d_tok, d_nt}
use Rattle.theory.specs.Machine.{la, choose, expand, Acc, a_end, a_tok, a_nt, Ref, r_long, r_short, r_other, r_stuck, r_tok, r_nt, Same, same_end, same_head}
use Rattle.theory.specs.Check.{Starts, scan, scan-at, follows, good, good_row, row-good, parts, short, numbered, good_alt}

module _ (g : List Row) where
  -- Sound: what the machine accepts is derived.
  pub sound : {σ : List Sym} {ts : List ℕ} → Acc g σ ts → Der g σ ts
  sound a_end = d_end
  sound (a_tok e m) = rw e (d_tok (sound m))
  sound (a_nt {A = A} {ts = ts} e m) = d_nt (choose g A (la ts)) e (sound m)

  -- Derivations side by side are one.
  pub der-append : {σ τ : List Sym} {u v : List ℕ} → Der g σ u → Der g τ v → Der g (σ ++ τ) (u ++ v)
  der-append d_end b = b
  der-append (d_tok d) b = d_tok (der-append d b)
  der-append {τ = τ} {v = v} (d_nt {σ = σ} {ts = ts} i {rhs = rhs} e d) b = d_nt i e (rw append_assoc at (der-append d b))

  -- Symbols start with what comes after them, if they may be empty, under any weaker condition too.
  pub starts-mono : (C D : Type 0) (a : ℕ) (σ : List Sym) → (C → D) → Starts g C a σ → Starts g D a σ
  starts-mono C D a [] f s = f s
  starts-mono C D a (tok b ∷ σ) f s = s
  starts-mono C D a (nt B ∷ σ) f (inl m) = inl m
  starts-mono C D a (nt B ∷ σ) f (inr s) = inr (s.0, starts-mono C D a σ f s.1)

  -- What two runs of symbols start with, from the first one's side.
  pub starts-append : (C : Type 0) (a : ℕ) (σ τ : List Sym) → Starts g C a (σ ++ τ) → Starts g (Starts g C a τ) a σ
  starts-append C a [] τ s = s
  starts-append C a (tok b ∷ σ) τ s = s
  starts-append C a (nt B ∷ σ) τ (inl m) = inl m
  starts-append C a (nt B ∷ σ) τ (inr s) = inr (s.0, starts-append C a σ τ s.1)

  -- Below each nonterminal of the stack stands only what may follow it.
  abbrev pub Ok : List Sym → Type 0
  Ok [] = Unit {0}
  Ok (tok b ∷ σ) = Ok σ
  Ok (nt A ∷ σ) = ((a : ℕ) → Starts g (a ≡ 0) a σ → T (has (row g A).follow a)) × Ok σ

  -- The start symbol alone is such a stack, if the end may follow it.
  pub start-ok : (S : ℕ) → T (has (row g S).follow 0) → Ok (nt S ∷ [])
  start-ok S ends = ((λ a e. rw e ends), tt)

  module _ (ok : T (good g)) where
    -- What is derived begins as the symbols may start.
    pub der-starts : {σ : List Sym} {ts : List ℕ} → Der g σ ts → Starts g (la ts ≡ 0) (la ts) σ
    der-starts d_end = refl
    der-starts (d_tok d) = refl
    der-starts (d_nt {A = A} {σ = σ} {ts = ts} i {rhs = rhs} e d) =
        scan-at g (has (row g A).first) (row g A).null (Starts g (la ts ≡ 0) (la ts) σ) (la ts) rhs (parts g ok A i e).firsts (starts-append (la ts ≡ 0) (la ts) rhs σ (der-starts d))

    -- The table chooses the alternative of every derivation.
    pub chosen : (A i a : ℕ) {rhs : List Sym} → alt g A i ≡ some rhs → Starts g (T (has (row g A).follow a)) a rhs → choose g A a ≡ i
    chosen A i a {rhs} e s = fix (scan-at g (λ b. eqb (choose g A b) i) (all (λ b. eqb (choose g A b) i) (row g A).follow) (T (has (row g A).follow a)) a rhs (parts g ok A i e).choice s)
      where
        fix : T (eqb (choose g A a) i) ⊎ (T (all (λ b. eqb (choose g A b) i) (row g A).follow) × T (has (row g A).follow a)) → choose g A a ≡ i
        fix (inl t) = eqb→eq _ _ t
        fix (inr s) = eqb→eq _ _ (all-has (λ b. eqb (choose g A b) i) (row g A).follow a s.0 s.1)

    -- The same, for an alternative at the front of a stack.
    pub taken : (σ rhs : List Sym) {ts : List ℕ} (A i : ℕ) → Ok (nt A ∷ σ) → alt g A i ≡ some rhs → Der g (rhs ++ σ) ts → choose g A (la ts) ≡ i
    taken σ rhs {ts} A i k e d =
        chosen A i (la ts) e (starts-mono (Starts g (la ts ≡ 0) (la ts) σ) (T (has (row g A).follow (la ts))) (la ts) rhs (k.0 (la ts)) (starts-append (la ts ≡ 0) (la ts) rhs σ (der-starts d)))

    -- An expansion keeps a stack what it should be.
    pub ok-append : (r : Row) (rhs σ : List Sym) → T (follows g r rhs) → ((a : ℕ) → Starts g (a ≡ 0) a σ → T (has r.follow a)) → Ok σ → Ok (rhs ++ σ)
    unfolding follows
    ok-append r [] σ t f k = k
    ok-append r (tok b ∷ rhs) σ t f k = ok-append r rhs σ t f k
    ok-append r (nt B ∷ rhs) σ t f k =
        let fol : ℕ → Bool = has (row g B).follow in
        let here : Bool = scan g fol (all fol r.follow) rhs in (
          λ a s. fix a (scan-at g fol (all fol r.follow) (T (has r.follow a)) a rhs (first-of here (follows g r rhs) t) (starts-mono (Starts g (a ≡ 0) a σ) (T (has r.follow a)) a rhs (f a) (starts-append (a ≡ 0) a rhs σ s))),
          ok-append r rhs σ (second-of here (follows g r rhs) t) f k,
        )
      where
        fix : (a : ℕ) → T (has (row g B).follow a) ⊎ (T (all (has (row g B).follow) r.follow) × T (has r.follow a)) → T (has (row g B).follow a)
        fix a (inl t) = t
        fix a (inr s) = all-has (has (row g B).follow) r.follow a s.0 s.1

    -- Complete: the machine accepts what is derived.
    pub complete : {σ : List Sym} {ts : List ℕ} → Ok σ → Der g σ ts → Acc g σ ts
    complete k d_end = a_end
    complete k (d_tok d) = a_tok refl (complete k d)
    complete k (d_nt {A = A} {σ = σ} {ts = ts} i {rhs = rhs} e d) =
        let c : choose g A (la ts) ≡ i = taken σ rhs A i k e d in
        let x : expand g A (la ts) ≡ some rhs = rw c e in
        a_nt x (complete (ok-append (row g A) rhs σ (parts g ok A i e).after k.0 k.1) d)

    short-der : (n : ℕ) (σ : List Sym) → T (short g n σ) → (ts : List ℕ) × Der g σ ts
    unfolding short
    short-der zero σ t = absurd t
    short-der (suc n) [] t = ([], d_end)
    short-der (suc n) (tok b ∷ σ) t = let r = short-der n σ t in (b ∷ r.0, d_tok r.1)
    short-der (suc n) (nt B ∷ σ) t = go (alt g B (row g B).least) refl (λ τ. short-der n τ) t
      where
        go : (o : Option (List Sym)) → alt g B (row g B).least ≡ o → ((τ : List Sym) → T (short g n τ) → (ts : List ℕ) × Der g τ ts) → T (elim o [ none ↦ false | some rhs ↦ short g n (rhs ++ σ) ]) → (ts : List ℕ) × Der g (nt B ∷ σ) ts
        go none e ih t = absurd t
        go (some rhs) e ih t = let r = ih (rhs ++ σ) t in (r.0, d_nt (row g B).least e r.1)

    word : (A : ℕ) → (ts : List ℕ) × Der g (nt A ∷ []) ts
    unfolding good_row alt
    word A = go (alt g A (row g A).least) refl (second-of (numbered (good_alt g (row g A)) (row g A).alts) (elim (pick (row g A).alts (row g A).least) [ none ↦ false | some rhs ↦ short g 1000 rhs ]) (row-good g ok A))
      where
        go : (o : Option (List Sym)) → alt g A (row g A).least ≡ o → T (elim o [ none ↦ false | some rhs ↦ short g 1000 rhs ]) → (ts : List ℕ) × Der g (nt A ∷ []) ts
        go none e t = absurd t
        go (some rhs) e t =
            let r = short-der 1000 rhs t in
            let w : Der g (rhs ++ []) r.0 = rw append-nil r.1 in
            (r.0, d_nt (row g A).least e w)

    -- Every stack derives some word.
    pub words : (σ : List Sym) → (ts : List ℕ) × Der g σ ts
    words [] = ([], d_end)
    words (tok b ∷ σ) = let r = words σ in (b ∷ r.0, d_tok r.1)
    words (nt A ∷ σ) = let r = words σ in let w = word A in (w.0 ++ r.0, der-append w.1 r.1)

    -- Viable prefix: what was taken before a refusal can be continued to what is derived.
    pub viable : {σ : List Sym} {d r : List ℕ} → Ref g σ d r → (c : List ℕ) × Der g σ (d ++ c)
    viable r_long = words []
    viable (r_short {b = b} {σ = σ}) = words (tok b ∷ σ)
    viable (r_other {b = b} {σ = σ} n) = words (tok b ∷ σ)
    viable (r_stuck {A = A} {σ = σ} e) = words (nt A ∷ σ)
    viable (r_tok m) = let v = viable m in (v.0, d_tok v.1)
    viable (r_nt {A = A} {d = d} {r = r} e m) = let v = viable m in (v.0, d_nt (choose g A (la (d ++ r))) e v.1)

    acc-nt : {A : ℕ} {σ : List Sym} {ts : List ℕ} → Acc g (nt A ∷ σ) ts → (rhs : List Sym) × (expand g A (la ts) ≡ some rhs) × Acc g (rhs ++ σ) ts
    acc-nt (a_nt {rhs = rhs} e m) = (rhs, e, m)

    acc-tok : {a b : ℕ} {σ : List Sym} {ts : List ℕ} → Acc g (tok b ∷ σ) (a ∷ ts) → (a ≡ b) × Acc g σ ts
    acc-tok (a_tok e m) = (e, m)

    acc-long : {a : ℕ} {ts : List ℕ} → Acc g [] (a ∷ ts) → ⊥
    acc-long m = elim m [ ]

    acc-short : {b : ℕ} {σ : List Sym} → Acc g (tok b ∷ σ) [] → ⊥
    acc-short m = elim m [ ]

    la-same : (d : List ℕ) {r s : List ℕ} → Same r s → la (d ++ r) ≡ la (d ++ s)
    la-same [] same_end = refl
    la-same [] same_head = refl
    la-same (a ∷ d) h = refl

    no-acc : {σ : List Sym} {d r s : List ℕ} → Ref g σ d r → Same r s → Acc g σ (d ++ s) → ⊥
    no-acc r_long same_head m = acc-long m
    no-acc r_short same_end m = acc-short m
    no-acc (r_other n) same_head m = n (acc-tok m).0
    no-acc (r_stuck {A = A} {ts = r} e) h m =
        let n = acc-nt m in
        let e₂ = n.1 in
        let l = ap (expand g A) (la-same [] h) in
        let z : ◌≡◌ {A = ℕ} 0 1 = cc in
        omega arith
    no-acc (r_tok t) h m = no-acc t h (acc-tok m).1
    no-acc {s = s} (r_nt {A = A} {σ = σ} {d = d} {r = r} {rhs = rhs} e t) h m =
        let n = acc-nt m in
        let e₂ = n.1 in
        let l = ap (expand g A) (la-same d h) in
        let q : n.0 ≡ rhs = cc in
        no-acc t h (rw q at n.2)

    -- No further: nothing is derived that begins with what was taken and goes on with the refused token, or ends where the tokens ended.
    pub no-further : {σ : List Sym} {d r : List ℕ} → Ok σ → Ref g σ d r → (s : List ℕ) → Same r s → Der g σ (d ++ s) → ⊥
    no-further k t s h d = no-acc t h (complete k d)
