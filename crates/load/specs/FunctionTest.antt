-- Whether records form a whole function or program, as a test that antt computes.
-- Assumes nothing.
use Rattle.std.specs.Prelude.{Bool, ◌&&◌, ◌||◌, not, List, map, ℕ, suc, eqb, ltb, leb, length, get_or}
use Rattle.text.specs.Lists.{all, some, count}
use Rattle.own.specs.Tree.{Rec, reversed}
use Rattle.own.specs.Flat.{blank, children}
use Rattle.own.specs.Kinds as kind
use Rattle.kinds.specs.Derive.{spells}
use Rattle.kinds.specs.Fields.{holds}
use Rattle.kinds.specs.Rules.{Form}
use Rattle.kinds.specs.Decide.{forms_for}
use Rattle.load.specs.Bare.{bare, bare_shape}
use Rattle.load.specs.Function.{alone, sizes, is_top}

unfoldable pub fits : ℕ → ℕ → List Rec → Form → Bool
fits low high cs f = holds f.fields low high (map bare cs) && spells (bare_shape f.shape) (map bare cs)

unfoldable pub inside : Rec → Rec → Bool
inside r c = leb r.start c.start && leb c.stop r.stop

-- Start before end, but in a program.
unfoldable pub placed : Rec → Bool
placed r = eqb r.kind kind.Program || ltb r.start r.stop

unfoldable pub right : Rec → List Rec → Bool
right r cs =
    some (fits r.low r.high cs) (forms_for r.kind)
    && ((not (eqb r.kind kind.Match) || not (reversed (map alone cs))) && (eqb r.size (suc (sizes cs)) && (placed r && all (inside r) cs)))

unfoldable pub is_whole : List Rec → Bool
is_whole rs = is_top (get_or rs 0 blank) && (eqb (get_or rs 0 blank).size (length rs) && all (λ j. right (get_or rs j blank) (children rs j)) (count (length rs) 0))
