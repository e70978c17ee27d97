-- The parser's answer is the definition's, and its records are given their ways up.
-- Assumes nothing.
use Rattle.std.specs.Prelude.{refl, length}
use Rattle.std.proofs.Common.{sym, ap, ◌∙◌}
use Rattle.std.proofs.lemmas.Result.{err_from_is_err_and}
use Rattle.text.specs.Refusals.{refused_by}
use Rattle.parse.specs.Entry.{entry_of}
use Rattle.reader.specs.Read.{meant}
use Rattle.reader.proofs.Laws as law
use Rattle.reader.proofs.parsed.Goals as goal

pub returns : goal.returns
returns c =
    let en = entry_of c.args.what in
    let x = c.args.lexed.now in
    let room = length c.args.tree.now in
    let its = c.in_ok-records.ensures.answer ∙ law.parsed-answer en x room in
    record {
      answer = its;
      tree = record { holds = λ n m e. c.way_up.ensures ∙ law.parsed-raised en x room c.args.tree.now (sym its) (c.in_ok-records.ensures.held.holds _ _ refl) };
    }

pub returns-in_err-records-clause-answer : goal.returns-in_err-records-clause-answer
returns-in_err-records-clause-answer c =
    let p = err_from_is_err_and c.from_residual.result c.from_residual.ensures.1 in
    ap meant p.1 ∙ ap refused_by p.2 ∙ c.in_err-records.ensures.answer ∙ law.parsed-answer (entry_of c.args.what) c.args.lexed.now (length c.args.tree.now)
