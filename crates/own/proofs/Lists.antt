-- Laws of lists: all have, exactly one has, those kept, and the lists of a list, exchanged or not.
-- Assumes nothing.
use Rattle.std.specs.Prelude.{◌≡◌, refl, Bool, true, false, ◌&&◌, cond, ◌≢◌, ◌↔◌, List, [], ◌∷◌, ◌++◌, map, ℕ, zero, suc, ◌<◌, T, length, get_or, take, drop}
use Rattle.std.proofs.Common.{ap, arith}
use Rattle.text.specs.Lists.{all, keep}
use Rattle.text.proofs.Exactly.{both}
use Rattle.own.specs.Tree.{exchange, arrange, concat}
use Rattle.own.specs.Lists.{All, nil, ◌&◌, Only, here, there}

module _ {A : Type 0} where
  -- The first has.
  pub all_head : {P : A → Type 0} {a : A} {l : List A} → All P (a ∷ l) → P a
  all_head (p & h) = p

  -- The others have.
  pub all_tail : {P : A → Type 0} {a : A} {l : List A} → All P (a ∷ l) → All P l
  all_tail (p & h) = h

  -- What follows for each follows for all.
  pub all_map : {P Q : A → Type 0} {l : List A} → ((a : A) → P a → Q a) → All P l → All Q l
  all_map f nil = nil
  all_map f (◌&◌ {a = a} p h) = f a p & all_map f h

  -- All have both.
  pub all_both : {P Q : A → Type 0} {l : List A} → All P l → All Q l → All (λ a. P a × Q a) l
  all_both nil nil = nil
  all_both (p & h) (q & i) = (p, q) & all_both h i

  -- All of two lists have.
  pub all_append : {P : A → Type 0} {k l : List A} → All P k → All P l → All P (k ++ l)
  all_append nil i = i
  all_append (p & h) i = p & all_append h i

  -- All have, exchanged.
  pub all-swap : {P : A → Type 0} (l : List A) → All P l → All P (exchange l)
  all-swap [] h = h
  all-swap (a ∷ []) h = h
  all-swap (a ∷ b ∷ []) h = h
  all-swap (e ∷ a ∷ b ∷ []) (o & (p & (q & h))) = o & (q & (p & h))
  all-swap (e ∷ a ∷ b ∷ c ∷ l) h = h

  -- All have, arranged.
  pub all-arrange : {P : A → Type 0} (b : Bool) {l : List A} → All P l → All P (arrange b l)
  all-arrange true {l} h = all-swap l h
  all-arrange false h = h

  -- All of all lists have.
  pub all-concat : {P : A → Type 0} {l : List (List A)} → All (All P) l → All P (concat l)
  all-concat nil = nil
  all-concat (p & h) = all_append p (all-concat h)

  -- The one at a place has.
  pub all-at : {P : A → Type 0} {l : List A} (j : ℕ) (d : A) → j < length l → All P l → P (get_or l j d)
  all-at j d i nil = absurd (omega arith)
  all-at zero d i (p & h) = p
  all-at (suc j) d i (p & h) = all-at j d (omega arith) h

  -- All have where each at its place has.
  pub all_from : {P : A → Type 0} (l : List A) (d : A) → ((j : ℕ) → j < length l → P (get_or l j d)) → All P l
  all_from [] d f = nil
  all_from (a ∷ l) d f = f 0 (omega arith) & all_from l d (λ j h. f (suc j) (omega arith))

  -- The first n have, and those behind them.
  pub all_take : {P : A → Type 0} (n : ℕ) {l : List A} → All P l → All P (take n l)
  all_take zero h = nil
  all_take (suc n) nil = nil
  all_take (suc n) (p & h) = p & all_take n h

  pub all_drop : {P : A → Type 0} (n : ℕ) {l : List A} → All P l → All P (drop n l)
  all_drop zero h = h
  all_drop (suc n) nil = nil
  all_drop (suc n) (p & h) = all_drop n h

  -- Exactly one of two lists, in the first.
  pub only-left : {P Q : A → Type 0} {k l : List A} → Only P Q k → All Q l → Only P Q (k ++ l)
  only-left (here p h) i = here p (all_append h i)
  only-left (there q o) i = there q (only-left o i)

  -- Exactly one of two lists, in the second.
  pub only-right : {P Q : A → Type 0} {k l : List A} → All Q k → Only P Q l → Only P Q (k ++ l)
  only-right nil o = o
  only-right (q & h) o = there q (only-right h o)

  -- Exactly one, exchanged.
  pub only-swap : {P Q : A → Type 0} (l : List A) → Only P Q l → Only P Q (exchange l)
  only-swap {P = P} {Q = Q} [] o = elim o [ ]
  only-swap {P = P} {Q = Q} (e ∷ (a ∷ (b ∷ []))) (there q (there r (there _ x20))) = elim x20 [ ]
  only-swap (a ∷ []) o = o
  only-swap (a ∷ b ∷ []) o = o
  only-swap (e ∷ a ∷ b ∷ []) (here p (q & (r & h))) = here p (r & (q & h))
  only-swap (e ∷ a ∷ b ∷ []) (there q (here p (r & h))) = there q (there r (here p h))
  only-swap (e ∷ a ∷ b ∷ []) (there q (there r (here p h))) = there q (here p (r & h))
  only-swap (e ∷ a ∷ b ∷ c ∷ l) o = o

  -- Exactly one, arranged.
  pub only-arrange : {P Q : A → Type 0} (b : Bool) {l : List A} → Only P Q l → Only P Q (arrange b l)
  only-arrange true {l} o = only-swap l o
  only-arrange false o = o

  -- Exactly one of all lists.
  pub only-concat : {P Q : A → Type 0} {l : List (List A)} → Only (Only P Q) (All Q) l → Only P Q (concat l)
  only-concat (here o h) = only-left o (all-concat h)
  only-concat (there q o) = only-right q (only-concat o)

  -- exactly one, by its number
  pub only_at : {P Q : A → Type 0} {l : List A} (d : A) → Only P Q l
      → (j : ℕ) × (j < length l) × P (get_or l j d) × ((i : ℕ) → i < length l → i ≢ j → Q (get_or l i d))
  only_at {Q = Q} d (here {a = a} {l = r} p h) = (0, omega arith, p, others)
    where
      others : (i : ℕ) → i < length (a ∷ r) → i ≢ 0 → Q (get_or (a ∷ r) i d)
      others zero lt ne = absurd (ne refl)
      others (suc i) lt ne = all-at i d (omega arith) h
  only_at {P = P} {Q = Q} d (there {a = a} {l = r} q o) = go (only_at d o)
    where
      others : (j : ℕ) → ((i : ℕ) → i < length r → i ≢ j → Q (get_or r i d)) → (i : ℕ) → i < length (a ∷ r) → i ≢ suc j → Q (get_or (a ∷ r) i d)
      others j f zero lt ne = q
      others j f (suc i) lt ne = f i (omega arith) (λ e. ne (ap suc e))

      go : (j : ℕ) × (j < length r) × P (get_or r j d) × ((i : ℕ) → i < length r → i ≢ j → Q (get_or r i d))
          → (j : ℕ) × (j < length (a ∷ r)) × P (get_or (a ∷ r) j d) × ((i : ℕ) → i < length (a ∷ r) → i ≢ j → Q (get_or (a ∷ r) i d))
      go (j, lt, p, f) = (suc j, omega arith, p, others j f)

  -- those kept
  pub keep_append : (p : A → Bool) (k l : List A) → keep p (k ++ l) ≡ keep p k ++ keep p l
  keep_append p [] l = refl
  keep_append p (a ∷ k) l = go (p a) (keep_append p k l)
    where
      go : (b : Bool) → keep p (k ++ l) ≡ keep p k ++ keep p l
          → cond b (a ∷ keep p (k ++ l)) (keep p (k ++ l)) ≡ cond b (a ∷ keep p k) (keep p k) ++ keep p l
      go true e = ap (λ (m : List A). a ∷ m) e
      go false e = e

  -- All pass, and all are kept.
  pub keep_all : (p : A → Bool) {l : List A} → All (λ a. T (p a)) l → keep p l ≡ l
  keep_all p nil = refl
  keep_all p (◌&◌ {a = a} {l = l} t h) = go (p a) t (keep_all p h)
    where
      go : (b : Bool) → T b → keep p l ≡ l → cond b (a ∷ keep p l) (keep p l) ≡ a ∷ l
      go true t e = ap (λ (m : List A). a ∷ m) e
      go false t e = absurd t

  -- None passes, and none is kept.
  pub keep-none : (p : A → Bool) {l : List A} → All (λ a. ¬ T (p a)) l → keep p l ≡ []
  keep-none p nil = refl
  keep-none p (◌&◌ {a = a} {l = l} t h) = go (p a) t (keep-none p h)
    where
      go : (b : Bool) → ¬ T b → keep p l ≡ [] → cond b (a ∷ keep p l) (keep p l) ≡ []
      go true t e = absurd (t tt)
      go false t e = e

  -- Two tests, one after the other.
  pub keep-and : (p q : A → Bool) (l : List A) → keep (λ a. p a && q a) l ≡ keep q (keep p l)
  keep-and p q [] = refl
  keep-and p q (a ∷ l) = go (p a) (keep-and p q l)
    where
      go : (b : Bool) → keep (λ x. p x && q x) l ≡ keep q (keep p l)
          → cond (b && q a) (a ∷ keep (λ x. p x && q x) l) (keep (λ x. p x && q x) l) ≡ keep q (cond b (a ∷ keep p l) (keep p l))
      go true e = ap (λ (m : List A). cond (q a) (a ∷ m) m) e
      go false e = e

  -- Tests that agree on the list.
  pub keep_same : (p q : A → Bool) {l : List A} → All (λ a. p a ≡ q a) l → keep p l ≡ keep q l
  keep_same p q nil = refl
  keep_same p q (◌&◌ {a = a} {l = l} e h) = let i = keep_same p q h in cc

  -- Tests that agree everywhere.
  pub keep-ext : (p q : A → Bool) → ((a : A) → p a ≡ q a) → (l : List A) → keep p l ≡ keep q l
  keep-ext p q e [] = refl
  keep-ext p q e (a ∷ l) = let h = e a in let i = keep-ext p q e l in cc

-- All of a list pass a test exactly where each has what is tested.
pub all-exactly : {A : Type 0} {P : A → Type 0} (p : A → Bool) → ((a : A) → T (p a) ↔ P a) → (l : List A) → T (all p l) ↔ All P l
unfolding all
all-exactly p f [] = (λ t. nil, λ h. tt)
all-exactly p f (a ∷ l) =
    let h = both (p a) (all p l) (f a) (all-exactly p f l) in
    (λ t. let x = h.0 t in x.0 & x.1, λ i. h.1 (all_head i, all_tail i))

-- what two lists share, whatever the arrangement
pub arrange-map : {A B : Type 0} (f : A → B) (b : Bool) (l : List A) → map f (arrange b l) ≡ arrange b (map f l)
arrange-map f false l = refl
arrange-map f true [] = refl
arrange-map f true (x ∷ []) = refl
arrange-map f true (x ∷ y ∷ []) = refl
arrange-map f true (x ∷ y ∷ z ∷ []) = refl
arrange-map f true (x ∷ y ∷ z ∷ w ∷ l) = refl
