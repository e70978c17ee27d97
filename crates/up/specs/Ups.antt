-- The way up of the tree (document 02, order 7): "how many records back its parent begins, 0 for the top", for each record in the order handed over, so
-- that it is right also under arms that were exchanged. proofs/Parents.antt says that these are the ways up that are found through sizes.
-- Assumes nothing: these are definitions.
use Rattle.std.specs.Prelude.{List, [], ◌∷◌, ◌++◌, ℕ, suc, ◌+◌, length}
use Rattle.own.specs.Tree.{Items, none, mark, sub, Node, roots, turned, arrange}

-- Nodes side by side under one, each given by the ways up of all beneath it: the ways up of all, where the first is the d-th record behind the one above.
abbrev pub under : ℕ → List (List ℕ) → List ℕ
under d [] = []
under d (us ∷ more) = d ∷ (us ++ under (d + suc (length us)) more)

-- Of each node right beneath, in the order of the text: the ways up of all beneath it, in the order handed over.
abbrev pub beneath : Items → List (List ℕ)
beneath none = []
beneath (mark t r) = beneath r
beneath (sub k l h js r) = under 1 (arrange (turned k js) (beneath js)) ∷ beneath r

-- Trees side by side with nothing above them: "0 for the top".
abbrev pub tops : List (List ℕ) → List ℕ
tops [] = []
tops (us ∷ more) = 0 ∷ (us ++ tops more)

-- The way up of each record of trees side by side;
abbrev pub ups : List Node → List ℕ
ups ns = tops (beneath (roots ns))

-- and of a file, whose first record is the parent of all of them.
abbrev pub file_ups : List Node → List ℕ
file_ups ns = 0 ∷ under 1 (beneath (roots ns))
