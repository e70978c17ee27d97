-- What the lexer refuses is refused; else its tokens are listed.
-- Assumes nothing.
use Rattle.std.specs.Prelude.{◌*◌, length}
use Rattle.std.proofs.Common.{refl, sym}
use Rattle.text.specs.Widths.{rec_wide}
use Rattle.lexer.specs.Limits.{small_limits}
use Rattle.lexer.specs.declared.Limits.TheVariants.{Small}
use Rattle.grammar.specs.Entry.{whole_file}
use Rattle.reader.specs.Listed.{records_most}
use Rattle.reader.proofs.Laws.{tokens-held, lexer-refused}
use Rattle.reader.proofs.LineLaws.{same_is}
use Rattle.reader.proofs.BothLimits.{place-fits}
use Rattle.reader.proofs.EntryLaws.{refused-listing}
use Rattle.reader.proofs.entry.list_lexed.Goals as goal

pub invariant_of-list_counted-clause-held : goal.invariant_of-list_counted-clause-held
invariant_of-list_counted-clause-held c =
    tokens-held small_limits c.args.draft.now _ c.args.tokens.now c.in-Ok.count (sym c.in-Ok.ensures.result_value) (c.in-Ok.ensures.held.holds _ _ refl)

pub refusal-requires : goal.refusal-requires
refusal-requires c =
    let tw = length c.args.tokens.now in
    place-fits whole_file Small c.args.draft.now tw (rec_wide * records_most) _ (sym (lexer-refused whole_file small_limits c.args.draft.now tw _ (sym c.in-Err.ensures.result_value)))

pub returns-in-Err : goal.returns-in-Err
returns-in-Err c =
    let tw = length c.args.tokens.now in
    same_is (length c.args.out.now) (refused-listing whole_file small_limits c.args.draft.now tw _ _ _ (lexer-refused whole_file small_limits c.args.draft.now tw _ (sym c.in-Err.ensures.result_value))) c.refusal.ensures
