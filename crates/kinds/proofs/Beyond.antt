-- Past the last kind and the last class nothing may be owned or held: the bounds are computed over the table of forms.
-- Assumes nothing.
use mathlib.Core.Bool.{Bool, false}
use mathlib.Core.List.{List, [], ◌∷◌, ◌++◌}
use mathlib.Core.Path.{◌≡◌, refl}
use Prim.Native.Nat.{ℕ, suc, ◌≤◌}
use native.Mathlib.Omega.{arith}
use borrow.Author.Tests.{ne_eqb}
use lib.Dec.{T, eqb, ltb, ltb→lt}
use Rattle.text.proofs.Table.{first-of, second-of, pair}
use Rattle.text.specs.Lists.{keep, some, all, has, count, span}
use Rattle.text.proofs.ListLaws.{all_keep}
use Rattle.own.specs.Kinds as kind
use Rattle.lexer.specs.Classes as t
use Rattle.kinds.specs.Shape.{Shape}
use Rattle.kinds.specs.Rules.{Form, forms, all_forms}
use Rattle.kinds.specs.Decide.{kinds_of, gather, classes_in, kinds_in, in_forms, forms_for, may_own, may_hold}
use Rattle.kinds.specs.Groups.{groups, categories, bits, group_set, mark_set, category_set, part_set}

-- The number after the last class, and that after the last kind.
abbrev classes_end : ℕ
classes_end = suc t.last

abbrev kinds_end : ℕ
kinds_end = suc kind.Last

-- All numbers of a list are below n.
abbrev under : ℕ → List ℕ → Bool
under n = all (λ m. ltb m n)

has-none : (l : List ℕ) (n x : ℕ) → T (under n l) → n ≤ x → has l x ≡ false
unfolding all has
has-none [] n x t h = refl
has-none (m ∷ l) n x t h =
    let lt = ltb→lt m n (first-of (ltb m n) (under n l) t) in
    rw (ne_eqb m x (λ e. omega arith)) (has-none l n x (second-of (ltb m n) (under n l) t) h)

under-append : (n : ℕ) (l m : List ℕ) → T (under n l) → T (under n m) → T (under n (l ++ m))
unfolding all
under-append n [] m s t = t
under-append n (a ∷ l) m s t = pair (ltb a n) (under n (l ++ m)) (first-of (ltb a n) (under n l) s) (under-append n l m (second-of (ltb a n) (under n l) s) t)

-- of all forms, and so of those of a kind
forms-under : (f : Shape → List ℕ) (n : ℕ) (l : List Form) → T (all (λ x. under n (f x.shape)) l) → T (under n (in_forms f l))
unfolding all in_forms
forms-under f n [] t = tt
forms-under f n (x ∷ l) t =
    under-append n (f x.shape) (in_forms f l) (first-of (under n (f x.shape)) (all (λ y. under n (f y.shape)) l) t)
    (forms-under f n l (second-of (under n (f x.shape)) (all (λ y. under n (f y.shape)) l) t))

kind-under : (f : Shape → List ℕ) (n kind : ℕ) → T (all (λ x. under n (f x.shape)) all_forms) → T (under n (in_forms f (forms_for kind)))
unfolding forms_for
kind-under f n kind t = forms-under f n (forms_for kind) (all_keep (λ x. under n (f x.shape)) (λ x. eqb x.kind kind) all_forms t)

classes-under : T (all (λ x. under classes_end (classes_in x.shape)) all_forms)
unfolding all gather forms all_forms
classes-under = tt

kinds-under : T (all (λ x. under kinds_end (kinds_in x.shape)) all_forms)
unfolding all gather kinds_of forms all_forms count span
kinds-under = tt

-- No kind owns a class past the last.
pub no-class : (kind class : ℕ) → classes_end ≤ class → may_own kind class ≡ false
unfolding may_own
no-class kind class h = has-none (in_forms classes_in (forms_for kind)) classes_end class (kind-under classes_in classes_end kind classes-under) h

-- No kind holds a kind past the last.
pub no-child : (kind kid : ℕ) → kinds_end ≤ kid → may_hold kind kid ≡ false
unfolding may_hold
no-child kind kid h = has-none (in_forms kinds_in (forms_for kind)) kinds_end kid (kind-under kinds_in kinds_end kind kinds-under) h

-- no form is of a kind past the last
keep-none : (l : List Form) (kind : ℕ) → T (all (λ x. ltb x.kind kinds_end) l) → kinds_end ≤ kind → keep (λ x. eqb x.kind kind) l ≡ []
unfolding all
keep-none [] kind t h = refl
keep-none (x ∷ l) kind t h =
    let lt = ltb→lt x.kind kinds_end (first-of (ltb x.kind kinds_end) (all (λ y. ltb y.kind kinds_end) l) t) in
    rw (ne_eqb x.kind kind (λ e. omega arith)) (keep-none l kind (second-of (ltb x.kind kinds_end) (all (λ y. ltb y.kind kinds_end) l) t) h)

kinds-listed : T (all (λ x. ltb x.kind kinds_end) all_forms)
unfolding all forms all_forms
kinds-listed = tt

no-forms : (kind : ℕ) → kinds_end ≤ kind → forms_for kind ≡ []
unfolding forms_for
no-forms kind h = keep-none all_forms kind kinds-listed h

-- A kind past the last owns nothing.
pub no-owner : (kind class : ℕ) → kinds_end ≤ kind → may_own kind class ≡ false
unfolding may_own has in_forms
no-owner kind class h = rw (no-forms kind h) refl

-- A kind past the last holds nothing.
pub no-holder : (kind kid : ℕ) → kinds_end ≤ kind → may_hold kind kid ≡ false
unfolding may_hold has in_forms
no-holder kind kid h = rw (no-forms kind h) refl

-- so the sets are empty there
bits_none : (p : List ℕ → Bool) (l : List (List ℕ)) → ((g : List ℕ) → p g ≡ false) → bits p l ≡ 0
unfolding bits
bits_none p [] h = refl
bits_none p (g ∷ l) h = rw (h g, bits_none p l h) refl

some-none : (p : ℕ → Bool) → ((x : ℕ) → p x ≡ false) → (l : List ℕ) → some p l ≡ false
unfolding some
some-none p h [] = refl
some-none p h (x ∷ l) = rw (h x, some-none p h l) refl

-- A kind past the last has no marks.
pub no-marks : (kind : ℕ) → kinds_end ≤ kind → mark_set kind ≡ 0
unfolding mark_set
no-marks kind h = bits_none (some (may_own kind)) groups (some-none (may_own kind) (λ c. no-owner kind c h))

-- A kind past the last has no children.
pub no_parts : (kind : ℕ) → kinds_end ≤ kind → part_set kind ≡ 0
unfolding part_set
no_parts kind h = bits_none (some (may_hold kind)) categories (some-none (may_hold kind) (λ c. no-holder kind c h))

group-none : (l : List (List ℕ)) (n x : ℕ) → T (all (under n) l) → n ≤ x → bits (λ g. has g x) l ≡ 0
unfolding all bits
group-none [] n x t h = refl
group-none (g ∷ l) n x t h =
    rw (has-none g n x (first-of (under n g) (all (under n) l) t) h, group-none l n x (second-of (under n g) (all (under n) l) t) h) refl

-- A class past the last is in no group.
pub no-group : (class : ℕ) → classes_end ≤ class → group_set class ≡ 0
unfolding group_set all groups
no-group class h = group-none groups classes_end class tt h

-- A kind past the last is in no group.
pub no-category : (kid : ℕ) → kinds_end ≤ kid → category_set kid ≡ 0
unfolding category_set all categories count span
no-category kid h = group-none categories kinds_end kid tt h
