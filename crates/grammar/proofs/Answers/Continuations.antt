-- Tokens can be continued to a well-shaped draft exactly when their classes can be to the yield of a shape tree: row 8 speaks of drafts, `shape_of`
-- of classes, and both say the same.
-- Assumes nothing.
use mathlib.Core.List.Memᴰ
use mathlib.Core.List.{List, [], ◌∷◌, ◌++◌, map, Memᴰ}
use Rattle.std.specs.Prelude.{◌≡◌, refl, ℕ, suc, ◌≤◌, ◌<◌, length}
use Rattle.std.proofs.Math.Path.{sym, ap₂, subst}
use Rattle.std.proofs.Common.{ap, ◌∙◌, arith, take-append-drop}
use Rattle.std.proofs.Math.ListN.{take, drop}
use Rattle.std.proofs.Math.Seq.{take-append_seam}
use Rattle.std.proofs.lemmas.List.{take-map}
use Rattle.own.specs.Tree.{classes_of}
use Rattle.theory.specs.Ebnf.{FirstWrong}
use Rattle.lexer.specs.Lexemes.{Token, tokens, lexemes}
use Rattle.lexer.specs.Limits.{Limits}
use Rattle.lexer.specs.Class.{class_of}
use Rattle.lexer.specs.ClassTexts.{AllGiven, continued_with}
use Rattle.lexer.proofs.ClassDrafts.{continued}
use Rattle.text.specs.Part.{part_of}
use Rattle.lexer.specs.Texts.{text_in, class_in}
use Rattle.kinds.specs.Class as kinds
use Rattle.grammar.specs.Entry.{Entry, start_ex}
use Rattle.grammar.specs.Shapes.Shapes.{shapes}
use Rattle.grammar.specs.Shapes.WellShaped.{WellShaped}
use Rattle.grammar.proofs.Shapes.TokenClasses.{well-shaped-given}
use Rattle.grammar.specs.Answers.Answer.{toks_of, start_of}
use Rattle.grammar.proofs.Answers.TokensInOrder.{classes-length}
use Rattle.grammar.specs.Answers.Outcome.{Within, spelled, Continued, Misshapen}

-- the classes of a draft's tokens
abbrev classes : List ℕ → List Token → List ℕ
classes draft ts = classes_of (toks_of draft ts)

-- they are those of the tokens' kinds and texts
abbrev class_of_pair : ℕ × List ℕ → ℕ
class_of_pair s = class_of s.0 s.1

classes-spelled : (draft : List ℕ) (ts : List Token) → classes draft ts ≡ map class_of_pair (spelled draft ts)
unfolding toks_of classes_of kinds.class_of
classes-spelled draft [] = refl
classes-spelled draft (t ∷ ts) = ap (λ l. kinds.class_of draft t.kind t.start t.end ∷ l) (classes-spelled draft ts)

classes-in : (draft : List ℕ) (ts : List Token) → map (class_in draft) ts ≡ classes draft ts
unfolding toks_of classes_of kinds.class_of text_in class_in
classes-in draft [] = refl
classes-in draft (t ∷ ts) = ap (λ l. kinds.class_of draft t.kind t.start t.end ∷ l) (classes-in draft ts)

module _ (en : Entry) (draft : List ℕ) (ts : List Token) (lexes : lexemes draft ≡ tokens ts) (k : ℕ) where
  abbrev front : List Token
  front = take k ts

  these-are : take k (spelled draft ts) ≡ spelled draft front
  these-are = take-map (λ t. (t.kind, part_of draft t.start t.end)) k ts

  classes-are : take k (classes draft ts) ≡ classes draft front
  classes-are =
      ap (take k) (classes-spelled draft ts) ∙ take-map class_of_pair k (spelled draft ts) ∙ ap (map class_of_pair) these-are ∙ sym (classes-spelled draft front)

  -- a draft that begins with these tokens has their classes first
  pub as-classes : Continued en (take k (spelled draft ts)) → (more : List ℕ) × WellShaped en (take k (classes draft ts) ++ more)
  as-classes c =
      let n = length (take k (spelled draft ts)) in
      let cs = classes c.draft c.its_tokens in
      let e : take n cs ≡ take k (classes draft ts) =
      ap (take n) (classes-spelled c.draft c.its_tokens) ∙ take-map class_of_pair n (spelled c.draft c.its_tokens) ∙ ap (map class_of_pair) c.begins
      ∙ sym (ap (take k) (classes-spelled draft ts) ∙ take-map class_of_pair k (spelled draft ts)) in
      (drop n cs, subst (WellShaped en) (sym (take-append-drop n cs) ∙ ap (λ l. l ++ drop n cs) e) c.well_shaped)

  -- and a draft is written for these tokens and any classes behind them
  pub as-draft : (more : List ℕ) → WellShaped en (take k (classes draft ts) ++ more) → Continued en (take k (spelled draft ts))
  unfolding text_in
  as-draft more w =
      let given : AllGiven more = λ c m. well-shaped-given en (take k (classes draft ts) ++ more) w c (later m) in
      let all : lexemes draft ≡ tokens (front ++ drop k ts) = lexes ∙ sym (ap tokens (take-append-drop k ts)) in
      let d = continued draft front (drop k ts) all more given in
      record {
        draft = continued_with draft front more;
        its_tokens = d.0;
        lexes = d.1;
        begins =
            ap₂ (λ l s. take (length l) s) these-are d.2 ∙ take-append_seam (spelled draft front) _ ∙ sym these-are;
        well_shaped =
            subst (WellShaped en) (ap (λ l. l ++ more) (classes-are ∙ sym (classes-in draft front)) ∙ sym d.3 ∙ classes-in (continued_with draft front more) d.0) w;
      }
    where
      later : {c : ℕ} → Memᴰ c more → Memᴰ c (take k (classes draft ts) ++ more)
      later m = Memᴰ.append_right (take k (classes draft ts)) m

-- Row 8 of the draft's tokens is that of their classes.
module _ (en : Entry) (l : Limits) (draft : List ℕ) (tw : ℕ) (ts : List Token) (w : Within l draft tw ts) where
  pub misshapen-at : (k : ℕ) → FirstWrong shapes (start_ex en) (classes draft ts) k → Misshapen en l draft tw (start_of draft ts k)
  misshapen-at k f =
      let n = classes-length draft ts in
      let h = f.within in
      let b = f.before in
      record {
        its_tokens = ts;
        within = w;
        at = k;
        there = omega arith;
        place = refl;
        before = as-draft en draft ts w.lexes k b.0 b.1;
        further = λ i c. let m = as-classes en draft ts w.lexes (suc k) c in f.further (omega arith) m.0 m.1;
        ended = λ e. f.ended (omega arith);
      }

  pub first-wrong-at : (k : ℕ) → k ≤ length ts → Continued en (take k (spelled draft ts)) → (k < length ts → Continued en (take (suc k) (spelled draft ts)) → ⊥)
      → (k ≡ length ts → WellShaped en (classes draft ts) → ⊥) → FirstWrong shapes (start_ex en) (classes draft ts) k
  first-wrong-at k h b f e =
      let n = classes-length draft ts in
      record {
        within = omega arith;
        before = as-classes en draft ts w.lexes k b;
        further = λ i more v. f (omega arith) (as-draft en draft ts w.lexes (suc k) more v);
        ended = λ i. e (omega arith);
      }
