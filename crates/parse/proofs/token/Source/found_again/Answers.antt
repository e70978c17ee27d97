-- A token's class and end are found again from its start; past the last one all are 0.
-- Assumes nothing.
use Rattle.std.proofs.Common.{◌≡◌, ◌+◌, ◌-◌, ◌*◌, ◌/◌, ◌%◌, ◌^◌, ◌∙◌, length, sym, refl, arith, ltb-false, ltb-true}
use Rattle.text.specs.Part.{part_of}
use Rattle.lexer.specs.Class as lexed
use Rattle.lexer.specs.Starts.{token_at}
use Rattle.lexer.proofs.FoundSteps.{its-start, its-end}
use Rattle.parse.proofs.token.Tokens.{token-in, token-out, at-start}
use Rattle.parse.proofs.token.Source.found_again.Goals as goal

pub returns-in_default : goal.returns-in_default
returns-in_default c =
    let s = c.args.self.now in
    let past = ltb-false (c.args.at - length s.rows.now) (length s.starts.now) (sym c.in_default.ensures.lookup.0) in
    token-out s c.args.at (omega (arith, past, s.counted, c.requires))

pub returns : goal.returns
returns c =
    let a = c.args in
    let s = a.self.now in
    let i = c.in-Some.field-0.now in
    let t = token_at s.draft.now i in
    let k = lexed.class_of t.kind (part_of s.draft.now t.start t.end) in
    let h = ltb-true (a.at - length s.rows.now) (length s.starts.now) (sym c.in-Some.ensures.lookup.0) in
    let g = token-in s a.at k (omega (arith, h, s.counted, c.requires)) (at-start s a.at c.requires h c.in-Some.ensures.lookup.1) refl in
    let e : c.class_and_end.result ≡ k * 2 ^ 32 + t.end = c.class_and_end.ensures in
    let u : c.class_and_end.result / 2 ^ 32 ≡ k = omega (arith, e, its-end s.draft.now i) in
    let v : c.class_and_end.result % 2 ^ 32 ≡ t.end = omega (arith, e, its-end s.draft.now i) in
    record { class_is = u ∙ g.class_is; start_is = its-start s.draft.now i ∙ g.start_is; stop_is = v ∙ g.stop_is }
