-- What the lexer refuses is refused; else the tokens are found again at the starts, and their records are given their ways up.
-- Assumes nothing.
use Rattle.std.specs.Prelude.{refl, length}
use Rattle.std.proofs.Common.{sym, ap, ◌∙◌}
use Rattle.std.proofs.lemmas.Result.{err_from_is_err_and}
use Rattle.text.specs.Refusals.{refused_by}
use Rattle.parse.specs.Entry.{entry_of}
use Rattle.reader.specs.Read.{meant}
use Rattle.reader.proofs.LeanLaws as law
use Rattle.reader.proofs.lean.read_front.Goals as goal

pub returns : goal.returns
returns c =
    let en = entry_of c.args.what in
    let d = c.args.draft.now in
    let old = c.args.starts.now in
    let room = length c.args.tree.now in
    let lexed = sym c.in_ok-tokens.ensures.result_value in
    let held = c.in_ok-tokens.ensures.held.holds _ _ refl in
    let its = c.in_ok-records.ensures.answer ∙ law.parsed-answer en d old _ room c.in_ok-tokens.tokens lexed held in
    record {
      answer = its;
      starts = record { holds = λ n m e. held };
      tree = record { holds = λ n m e. c.way_up.ensures ∙ law.parsed-raised en d old _ room c.in_ok-tokens.tokens lexed held c.args.tree.now (sym its) (c.in_ok-records.ensures.held.holds _ _ refl) };
    }

pub returns-in_err-tokens-clause-answer : goal.returns-in_err-tokens-clause-answer
returns-in_err-tokens-clause-answer c =
    let p = err_from_is_err_and c.from_residual.result c.from_residual.ensures.1 in
    ap meant p.1 ∙ ap refused_by p.2
    ∙ sym (law.starts-refused (entry_of c.args.what) c.args.draft.now (length c.args.starts.now) (length c.args.tree.now) (sym c.in_err-tokens.ensures.result_value))

pub returns-in_err-records-clause-answer : goal.returns-in_err-records-clause-answer
returns-in_err-records-clause-answer c =
    let p = err_from_is_err_and c.from_residual-in_err-records.result c.from_residual-in_err-records.ensures.1 in
    let lexed = sym c.in_ok-tokens.ensures.result_value in
    let held = c.in_ok-tokens.ensures.held.holds _ _ refl in
    ap meant p.1 ∙ ap refused_by p.2 ∙ c.in_err-records.ensures.answer
    ∙ law.parsed-answer (entry_of c.args.what) c.args.draft.now c.args.starts.now _ (length c.args.tree.now) c.in_ok-tokens.tokens lexed held
