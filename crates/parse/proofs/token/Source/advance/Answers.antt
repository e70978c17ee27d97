-- The state moves one token on and keeps its records and its refusal.
-- Assumes nothing.
use Rattle.std.proofs.Common.{sym, refl, ◌∙◌}
use Rattle.parse.specs.Contract.{text}
use Rattle.parse.proofs.Rule.Amid.{class-at}
use Rattle.parse.proofs.token.Tokens.{next-in}
use Rattle.parse.proofs.token.Source.advance.Goals as goal

pub returns : goal.returns
returns c =
    let a = c.args in
    let x = text a.self.now in
    let i = c.after-at.result in
    let g = c.token-t.ensures in
    record {
      ahead = λ h. next-in a.self.now a.st.at i c.after-at.ensures h;
      class_is = g.class_is ∙ sym (class-at x.ts i);
      start_is = g.start_is;
      stop_is = g.stop_is;
      end_is = refl;
      out_is = refl;
      kept_is = refl;
    }
