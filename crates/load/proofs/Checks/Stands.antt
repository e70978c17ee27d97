-- What the code tests of each record follows where the records form a whole, and the test is that.
-- Assumes nothing.
use Rattle.std.specs.Prelude.{◌&&◌, List, ◌↔◌, ◌≡◌, ℕ, suc, ◌+◌, ◌<◌, T, ltb, leb, length, get_or}
use Rattle.text.specs.Lists.{all}
use Rattle.text.proofs.Exactly.{both, less, no_more}
use Rattle.own.specs.Tree.{Rec}
use Rattle.own.specs.Flat.{blank, children}
use Rattle.own.proofs.Lists.{all-exactly}
use Rattle.load.specs.Function.{sizes, is_top, Whole}
use Rattle.load.specs.FunctionTest.{right}
use Rattle.load.proofs.FunctionTest.{right-exactly}
use Rattle.load.specs.Checks.Parts.{each-room, each-some}
use Rattle.load.specs.Checks.Stands.{Stands, stands}

-- The test passes exactly where the record stands there.
pub stands-exactly : (rs : List Rec) (j : ℕ) → T (stands rs j) ↔ Stands rs j
unfolding stands
stands-exactly rs j =
    let r = get_or rs j blank in
    let cs = children rs j in
    let some = all (λ c. ltb 0 c.size) cs in
    let e =
    both (leb (j + r.size) (length rs)) (some && right r cs) (no_more (j + r.size) (length rs))
    (both some (right r cs) (all-exactly (λ c. ltb 0 c.size) (λ c. less 0 c.size) cs) (right-exactly r cs)) in
    (λ t. let (m, (s, h)) = e.0 t in record { room = m; some = s; right = h }, λ s. e.1 (s.room, (s.some, s.right)))

-- Where records form a whole each stands there,
each_stands : (rs : List Rec) → Whole rs → (j : ℕ) → j < length rs → Stands rs j
each_stands rs o j h =
    let adds : (i : ℕ) → i < length rs → (get_or rs i blank).size ≡ suc (sizes (children rs i)) = λ i l. (o.each i l).adds in
    record { room = each-room rs adds o.counts_all j h; some = each-some rs adds j; right = o.each j h }

-- so that to test this of each is to test that they do.
pub stands-each : (rs : List Rec) → Whole rs ↔ (T (is_top (get_or rs 0 blank)) × ((get_or rs 0 blank).size ≡ length rs) × ((j : ℕ) → j < length rs → Stands rs j))
stands-each rs = (λ o. (o.top, o.counts_all, each_stands rs o), λ (t, w, f). record { top = t; counts_all = w; each = λ j h. (f j h).right })
