-- The classes that tokens have, with the kind and a text of each: so that each name of Classes.antt is held beside the text that it stands for,
-- and that a draft can be written for every list of classes.
-- Assumes nothing.
use Rattle.std.specs.Prelude.{Bool, cond, ◌&&◌, not, ℕ, T, eqb, leb}
use mathlib.Core.List.{List, [], ◌∷◌, ◌++◌, map, Memᴰ}
use Prim.Native.String.{String}
use Rattle.text.specs.Ascii.{ascii}
use Rattle.text.specs.Lists.{has}
use Rattle.lexer.specs.Class.{class_of}
use Rattle.lexer.specs.Classes as t
use Rattle.lexer.specs.Lexemes.{Token}
use Rattle.lexer.specs.Texts.{Piece, spaced, respaced, joined}

-- A class, its tokens' kind, and a text that has it.
pub record Sample : Type 0 where
  pub class : ℕ
  pub kind : ℕ
  pub text : String

-- the class is the kind
abbrev pub kind : ℕ → String → Sample
kind c s = record { class = c; kind = c; text = s }

-- the class is that of one word: a name, a macro, a boolean
abbrev pub name : ℕ → String → Sample
name c s = record { class = c; kind = t.Ident; text = s }

abbrev pub macro : ℕ → String → Sample
macro c s = record { class = c; kind = t.Macro; text = s }

abbrev pub boolean : ℕ → String → Sample
boolean c s = record { class = c; kind = t.Bool; text = s }

-- The words that the rules name, the macros and the booleans have this one text (`named-class`); of the other classes it is a text.
unfoldable pub samples : List Sample
samples =
    kind t.Ident "x"
    ∷ kind t.Pub "pub"
    ∷ kind t.Use "use"
    ∷ kind t.As "as"
    ∷ kind t.Fn "fn"
    ∷ kind t.Let "let"
    ∷ kind t.«Type» "type"
    ∷ kind t.Mod "mod"
    ∷ kind t.Const "const"
    ∷ kind t.Match "match"
    ∷ kind t.Enum "enum"
    ∷ kind t.Crate "crate"
    ∷ kind t.Arrow "->"
    ∷ kind t.DoubleColon "::"
    ∷ kind t.Colon ":"
    ∷ kind t.Semi ";"
    ∷ kind t.Comma ","
    ∷ kind t.Eq "="
    ∷ kind t.FatArrow "=>"
    ∷ kind t.LParen "("
    ∷ kind t.RParen ")"
    ∷ kind t.LBracket "["
    ∷ kind t.RBracket "]"
    ∷ kind t.LBrace "{"
    ∷ kind t.RBrace "}"
    ∷ kind t.LAngle "<"
    ∷ kind t.RAngle ">"
    ∷ kind t.DecLiteral "2"
    ∷ kind t.HexLiteral "0x2"
    ∷ kind t.BinLiteral "0b1"
    ∷ kind t.Jet "jet::x"
    ∷ kind t.Witness "witness::x"
    ∷ kind t.Param "param::x"
    ∷ name t.Left "Left"
    ∷ name t.Right "Right"
    ∷ name t.Some "Some"
    ∷ name t.None "None"
    ∷ name t.Either "Either"
    ∷ name t.Option "Option"
    ∷ name t.List "List"
    ∷ name t.unwrap_left "unwrap_left"
    ∷ name t.unwrap_right "unwrap_right"
    ∷ name t.array_fold "array_fold"
    ∷ name t.for_while "for_while"
    ∷ name t.is_none "is_none"
    ∷ name t.unwrap "unwrap"
    ∷ name t.assert "assert"
    ∷ name t.panic "panic"
    ∷ name t.into "into"
    ∷ name t.fold "fold"
    ∷ name t.dbg "dbg"
    ∷ name t.raw_hash "raw_hash"
    ∷ macro t.assert! "assert!"
    ∷ macro t.panic! "panic!"
    ∷ macro t.dbg! "dbg!"
    ∷ macro t.list! "list!"
    ∷ boolean t.false "false"
    ∷ boolean t.true "true"
    ∷ name t.bool "bool"
    ∷ name t.u1 "u1"
    ∷ name t.u2 "u2"
    ∷ name t.u4 "u4"
    ∷ name t.u8 "u8"
    ∷ name t.u16 "u16"
    ∷ name t.u32 "u32"
    ∷ name t.u64 "u64"
    ∷ name t.u128 "u128"
    ∷ name t.u256 "u256"
    ∷ name t.Ctx8 "Ctx8"
    ∷ name t.Pubkey "Pubkey"
    ∷ name t.Message "Message"
    ∷ name t.Message64 "Message64"
    ∷ name t.Signature "Signature"
    ∷ name t.Scalar "Scalar"
    ∷ name t.Fe "Fe"
    ∷ name t.Ge "Ge"
    ∷ name t.Gej "Gej"
    ∷ name t.Point "Point"
    ∷ name t.Height "Height"
    ∷ name t.Time "Time"
    ∷ name t.Distance "Distance"
    ∷ name t.Duration "Duration"
    ∷ name t.Lock "Lock"
    ∷ name t.Outpoint "Outpoint"
    ∷ name t.Confidential1 "Confidential1"
    ∷ name t.ExplicitAsset "ExplicitAsset"
    ∷ name t.Asset1 "Asset1"
    ∷ name t.ExplicitAmount "ExplicitAmount"
    ∷ name t.Amount1 "Amount1"
    ∷ name t.ExplicitNonce "ExplicitNonce"
    ∷ name t.Nonce "Nonce"
    ∷ name t.TokenAmount1 "TokenAmount1"
    ∷ []

-- The kinds whose words have classes of their own.
abbrev pub word_kinds : List ℕ
word_kinds = t.Bool ∷ t.Ident ∷ t.Macro ∷ []

-- Numbers up to the last class that no token has: `simc` is refused, each boolean and each macro has a class of its own, and `match` is always the
-- keyword.
unfoldable pub never_given : List ℕ
never_given = t.Simc ∷ t.Bool ∷ t.Macro ∷ class_of t.Ident (ascii "match") ∷ []

-- The classes of tokens.
unfoldable pub given : ℕ → Bool
given c = leb t.Pub c && leb c t.last && not (has never_given c)

-- each of them is one
abbrev pub AllGiven : List ℕ → Type 0
AllGiven cs = (c : ℕ) → Memᴰ c cs → T (given c)

-- the sample of a class, a plain name where there is none
unfoldable pub sample_in : List Sample → ℕ → Sample
sample_in [] c = kind t.Ident "x"
sample_in (s ∷ ss) c = cond (eqb s.class c) s (sample_in ss c)

abbrev pub sample_of : ℕ → Sample
sample_of = sample_in samples

-- its text, and then a space
abbrev pub sampled : ℕ → Piece
sampled c = spaced (sample_of c).kind (ascii (sample_of c).text)

-- A draft with a token of each of these classes, in this order,
unfoldable pub draft_of : List ℕ → List ℕ
draft_of cs = joined (map sampled cs)

-- and one that begins with these tokens of another draft and goes on with tokens of these classes.
unfoldable pub continued_with : List ℕ → List Token → List ℕ → List ℕ
continued_with draft ts cs = joined (map (respaced draft) ts ++ map sampled cs)
