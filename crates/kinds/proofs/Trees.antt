-- Whether every node of a tree spells the rule of its kind, as a test that antt computes; with it the draft of document 01's listing.
-- Assumes nothing.
use Rattle.std.specs.Prelude.{Bool, true, ◌&&◌, List, [], ◌∷◌, ◌≡◌, refl, ℕ, T}
use Rattle.std.proofs.Common.{arith}
use Rattle.text.proofs.Table.{first-of, second-of}
use Rattle.own.specs.Tree.{Tok, Items, none, mark, sub, Node, node, roots, Each, partner, canonical, turned, Rec, tokens, records}
use Rattle.own.specs.Law.{Ownership, sorts, Keeps}
use Rattle.own.specs.Kinds as kind
use Rattle.own.specs.Arms as arm
use Rattle.lexer.specs.Classes as t
use Rattle.kinds.specs.Spelled.{Spelled}
use Rattle.kinds.specs.Ownership.{Right}
use Rattle.kinds.proofs.Ownership.{law-3}
use Rattle.kinds.specs.SpelledTest.{spelled}
use Rattle.kinds.proofs.SpelledTest.{spelled-sound}

-- Every node beneath spells the rule of its kind.
unfoldable pub all_spelled : Items → Bool
all_spelled none = true
all_spelled (mark u r) = all_spelled r
all_spelled (sub k l h js r) = spelled k l h (sorts js) && (all_spelled js && all_spelled r)

-- Where the test passes each node keeps its rule.
pub all-spelled : (is : Items) → T (all_spelled is) → Each (Keeps Spelled) is
unfolding all_spelled
all-spelled none p = tt
all-spelled (mark u r) p = all-spelled r p
all-spelled (sub k l h js r) p =
    let a = spelled k l h (sorts js) in
    let b = all_spelled js in
    let c = all_spelled r in
    let q = second-of a (b && c) p in
    (spelled-sound k l h (sorts js) (first-of a (b && c) p), all-spelled js (first-of b c q), all-spelled r (second-of b c q))

abbrev tk : ℕ → ℕ → ℕ → Tok
tk c s e = record { class = c; start = s; stop = e }

abbrev rc : ℕ → ℕ → ℕ → ℕ → ℕ → ℕ → Rec
rc k s e l h n = record { kind = k; start = s; stop = e; low = l; high = h; size = n }

-- One token as a record of its own.
abbrev leaf : ℕ → Tok → Items → Items
leaf k u r = sub k 0 0 (mark u none) r

-- An arm: its word, the fat arrow, a decimal and a comma, from a place on.
abbrev armed : ℕ → Tok → Tok → Tok → Tok → Items → Items
armed low word arrow digits comma r = sub kind.BuiltinArm low 0 (mark word (mark arrow (leaf kind.Decimal digits (mark comma none)))) r

-- `fn f(){match b{true=>1,false=>2,}}`, the draft of the listing.
abbrev pub draft : List Node
draft =
    node kind.Function 0 0
    (mark (tk t.Fn 0 2) (leaf kind.Name (tk t.Ident 3 4) (mark (tk t.LParen 4 5) (mark (tk t.RParen 5 6)
    (sub kind.Block 1 0 (mark (tk t.LBrace 6 7)
    (sub kind.Match 0 0 (mark (tk t.Match 7 12) (leaf kind.Variable (tk t.Ident 13 14) (mark (tk t.LBrace 14 15)
    (armed arm.True (tk t.true 15 19) (tk t.FatArrow 19 21) (tk t.DecLiteral 21 22) (tk t.Comma 22 23)
    (armed arm.False (tk t.false 23 28) (tk t.FatArrow 28 30) (tk t.DecLiteral 30 31) (tk t.Comma 31 32)
    (mark (tk t.RBrace 32 33) none))))))
    (mark (tk t.RBrace 33 34) none))) none)))))
    ∷ []

-- Its records are the nine lines of document 01's listing.
pub its-records : records draft
    ≡ rc kind.Function 0 34 0 0 9
    ∷ rc kind.Name 3 4 0 0 1
    ∷ rc kind.Block 6 34 1 0 7
    ∷ rc kind.Match 7 33 0 0 6
    ∷ rc kind.Variable 13 14 0 0 1
    ∷ rc kind.BuiltinArm 23 32 arm.False 0 2
    ∷ rc kind.Decimal 30 31 0 0 1
    ∷ rc kind.BuiltinArm 15 23 arm.True 0 2
    ∷ rc kind.Decimal 21 22 0 0 1
    ∷ []
unfolding partner canonical turned
its-records = refl

-- It is right, so law 3 holds of it.
its-right : Right draft
unfolding all_spelled spelled
its-right = record { ordered = omega arith; spelled = all-spelled (roots draft) tt }

-- Law 3, of the listing.
pub its-law : Ownership Spelled (tokens draft) (records draft)
its-law = law-3 draft its-right
