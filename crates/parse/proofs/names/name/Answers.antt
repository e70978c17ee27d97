-- A name is a record of its own, or the table has nothing for the token.
-- Assumes nothing.
use Rattle.std.proofs.Common.{sym, ◌∙◌}
use Rattle.parse.proofs.names.Rows.{no-name, a-name, named-pos, flat-name}
use Rattle.parse.proofs.names.Steps.{refuses-near, child-near}
use Rattle.parse.proofs.names.name.Goals as goal

pub returns-then-not-is_name : goal.returns-then-not-is_name
returns-then-not-is_name c = refuses-near c.requires (no-name c.args.sort _ (sym c.is_name.ensures ∙ c.if-not-is_name.true))

pub returns : goal.returns
returns c =
    let e = sym c.is_name.ensures ∙ c.if-not-is_name.false in
    child-near c.requires (named-pos c.args.sort _ e) c.advance-a.ensures c.name-b.ensures.put c.name-b.ensures.value (flat-name c.args.sort) (a-name c.args.sort _ e)
