-- What the lexer refuses is refused; else the tokens that it found are parsed.
-- Assumes nothing.
use Rattle.std.specs.Prelude.{refl, length}
use Rattle.std.proofs.Common.{sym, ap, ◌∙◌}
use Rattle.std.proofs.lemmas.Result.{err_from_is_err_and}
use Rattle.text.specs.Refusals.{refused_by}
use Rattle.lexer.specs.Limits.{large_limits}
use Rattle.parse.specs.Entry.{entry_of}
use Rattle.reader.specs.Read.{meant}
use Rattle.reader.proofs.Laws as law
use Rattle.reader.proofs.read_front.Goals as goal

pub invariant_of-lexed-clause-held : goal.invariant_of-lexed-clause-held
invariant_of-lexed-clause-held c =
    law.tokens-held large_limits c.args.draft.now _ c.args.tokens.now c.in_ok-count.count (sym c.in_ok-count.ensures.result_value) (c.in_ok-count.ensures.held.holds _ _ refl)

pub returns-in_err-count-clause-answer : goal.returns-in_err-count-clause-answer
returns-in_err-count-clause-answer c =
    let p = err_from_is_err_and c.from_residual.result c.from_residual.ensures.1 in
    ap meant p.1 ∙ ap refused_by p.2
    ∙ sym (law.lexer-refused (entry_of c.args.what) large_limits c.args.draft.now (length c.args.tokens.now) (length c.args.tree.now) (sym c.in_err-count.ensures.result_value))
