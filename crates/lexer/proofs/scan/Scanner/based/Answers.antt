-- The class of the byte behind the prefix decides.
-- Assumes nothing.
use Rattle.std.proofs.Common.{◌≤◌, sym, ◌∙◌, ap, rules}
use Rattle.text.proofs.Same.{differ}
use Rattle.lexer.specs.Bytes.{byte_class}
use Rattle.lexer.specs.Bytes as byte
use Rattle.lexer.specs.declared.Step.TheVariants.{Token}
use Rattle.lexer.proofs.ByteClasses.{class-in, class-not}
use Rattle.lexer.proofs.scan.Scanner.based.Goals as goal

pub returns-then-not-contains : goal.returns-then-not-contains
returns-then-not-contains c =
    let q = c.of.ensures ∙ ap byte_class c.peek.ensures in
    let n = class-not byte.BinaryDigit c.args.most _ _ q (λ a b. search (rules, c.if-not-contains.ensures, c.if-not-contains.true, c.new.ensures)) in
    c.decimal.ensures ∙ sym (c.requires.others (λ y. differ (sym n ∙ y)))

pub returns : goal.returns
returns c =
    let q = c.of.ensures ∙ ap byte_class c.peek.ensures in
    let l : byte.BinaryDigit ≤ c.of.result = search (rules, c.if-not-contains.ensures, c.if-not-contains.false, c.new.ensures) in
    let m : c.of.result ≤ c.args.most = search (rules, c.if-not-contains.ensures, c.if-not-contains.false, c.new.ensures) in
    ap (Token c.args.kind) c.run_end.ensures ∙ sym (c.requires.digits (class-in byte.BinaryDigit _ _ _ q l m))
