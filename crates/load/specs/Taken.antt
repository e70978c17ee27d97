-- When a listing is taken (document 01, "The listing program"; document 02, orders 1, 7 and 9), as one statement; that it is accepted exactly then stands in
-- proofs/Laws.antt.
-- Assumes nothing: this is a definition.
use Rattle.std.specs.Prelude.{List, ◌≡◌, ℕ, ◌*◌, ◌≤◌, length}
use Rattle.text.specs.Widths.{rec_wide}
use Rattle.own.specs.Tree.{Rec}
use Rattle.load.specs.Form.{Form}
use Rattle.load.specs.Function.{Whole}
use Rattle.load.specs.Promised.{Lists}

-- A listing of n records that form a whole function or program, for which there is room.
pub record Taken (text : List ℕ) (room n : ℕ) : Type 0 where
  pub form : Form
  pub its : List Rec
  pub lists : Lists form text its
  pub whole : Whole its
  pub fits : rec_wide * length its ≤ room
  pub number : n ≡ length its
