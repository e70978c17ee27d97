-- Token classes (document 01, "Lexemes"): a token's class is its kind, 1 to 36 in the order of `Token`, except that the words which
-- the rules name, the macros and the two booleans each have a class of their own, from 37 on.
-- With them the sets of names that rules speak of.
-- Assumes nothing.
use Rattle.std.specs.Prelude.{[], ◌∷◌, ◌++◌, ℕ}
use mathlib.Core.List as list

-- ---- keywords

abbrev pub Pub : ℕ
Pub = 1

abbrev pub Use : ℕ
Use = 2

abbrev pub As : ℕ
As = 3

abbrev pub Fn : ℕ
Fn = 4

abbrev pub Let : ℕ
Let = 5

abbrev pub «Type» : ℕ
«Type» = 6

abbrev pub Mod : ℕ
Mod = 7

abbrev pub Const : ℕ
Const = 8

abbrev pub Match : ℕ
Match = 9

abbrev pub Enum : ℕ
Enum = 10

abbrev pub Crate : ℕ
Crate = 11

abbrev pub Simc : ℕ
Simc = 12

-- ---- control symbols

abbrev pub Arrow : ℕ
Arrow = 13

abbrev pub DoubleColon : ℕ
DoubleColon = 14

abbrev pub Colon : ℕ
Colon = 15

abbrev pub Semi : ℕ
Semi = 16

abbrev pub Comma : ℕ
Comma = 17

abbrev pub Eq : ℕ
Eq = 18

abbrev pub FatArrow : ℕ
FatArrow = 19

abbrev pub LParen : ℕ
LParen = 20

abbrev pub RParen : ℕ
RParen = 21

abbrev pub LBracket : ℕ
LBracket = 22

abbrev pub RBracket : ℕ
RBracket = 23

abbrev pub LBrace : ℕ
LBrace = 24

abbrev pub RBrace : ℕ
RBrace = 25

abbrev pub LAngle : ℕ
LAngle = 26

abbrev pub RAngle : ℕ
RAngle = 27

-- ---- numbers, booleans, names, jets, witnesses, parameters, macros; Bool and Macro are kinds and no classes: each of their words has its own, below

abbrev pub DecLiteral : ℕ
DecLiteral = 28

abbrev pub HexLiteral : ℕ
HexLiteral = 29

abbrev pub BinLiteral : ℕ
BinLiteral = 30

abbrev pub Bool : ℕ
Bool = 31

abbrev pub Ident : ℕ
Ident = 32

abbrev pub Jet : ℕ
Jet = 33

abbrev pub Witness : ℕ
Witness = 34

abbrev pub Param : ℕ
Param = 35

abbrev pub Macro : ℕ
Macro = 36

-- The words that the rules speak of have the classes from here on, in the order of RULE_WORDS: names first.
abbrev pub words : ℕ
words = 37

abbrev pub Left : ℕ
Left = 37

abbrev pub Right : ℕ
Right = 38

abbrev pub Some : ℕ
Some = 39

abbrev pub None : ℕ
None = 40

abbrev pub Either : ℕ
Either = 41

abbrev pub Option : ℕ
Option = 42

abbrev pub List : ℕ
List = 43

-- ---- the words of FUNCTION_RESERVED; `match` is a keyword, so class 52 never occurs

abbrev pub unwrap_left : ℕ
unwrap_left = 44

abbrev pub unwrap_right : ℕ
unwrap_right = 45

abbrev pub array_fold : ℕ
array_fold = 46

abbrev pub for_while : ℕ
for_while = 47

abbrev pub is_none : ℕ
is_none = 48

abbrev pub unwrap : ℕ
unwrap = 49

abbrev pub assert : ℕ
assert = 50

abbrev pub panic : ℕ
panic = 51

abbrev pub into : ℕ
into = 53

abbrev pub fold : ℕ
fold = 54

abbrev pub dbg : ℕ
dbg = 55

abbrev pub raw_hash : ℕ
raw_hash = 56

-- ---- macros

abbrev pub assert! : ℕ
assert! = 57

abbrev pub panic! : ℕ
panic! = 58

abbrev pub dbg! : ℕ
dbg! = 59

abbrev pub list! : ℕ
list! = 60

-- ---- booleans

abbrev pub false : ℕ
false = 61

abbrev pub true : ℕ
true = 62

-- ---- the names of types: `bool`, the unsigned types, the built-in aliases

abbrev pub bool : ℕ
bool = 63

abbrev pub u1 : ℕ
u1 = 64

abbrev pub u2 : ℕ
u2 = 65

abbrev pub u4 : ℕ
u4 = 66

abbrev pub u8 : ℕ
u8 = 67

abbrev pub u16 : ℕ
u16 = 68

abbrev pub u32 : ℕ
u32 = 69

abbrev pub u64 : ℕ
u64 = 70

abbrev pub u128 : ℕ
u128 = 71

abbrev pub u256 : ℕ
u256 = 72

abbrev pub Ctx8 : ℕ
Ctx8 = 73

abbrev pub Pubkey : ℕ
Pubkey = 74

abbrev pub Message : ℕ
Message = 75

abbrev pub Message64 : ℕ
Message64 = 76

abbrev pub Signature : ℕ
Signature = 77

abbrev pub Scalar : ℕ
Scalar = 78

abbrev pub Fe : ℕ
Fe = 79

abbrev pub Ge : ℕ
Ge = 80

abbrev pub Gej : ℕ
Gej = 81

abbrev pub Point : ℕ
Point = 82

abbrev pub Height : ℕ
Height = 83

abbrev pub Time : ℕ
Time = 84

abbrev pub Distance : ℕ
Distance = 85

abbrev pub Duration : ℕ
Duration = 86

abbrev pub Lock : ℕ
Lock = 87

abbrev pub Outpoint : ℕ
Outpoint = 88

abbrev pub Confidential1 : ℕ
Confidential1 = 89

abbrev pub ExplicitAsset : ℕ
ExplicitAsset = 90

abbrev pub Asset1 : ℕ
Asset1 = 91

abbrev pub ExplicitAmount : ℕ
ExplicitAmount = 92

abbrev pub Amount1 : ℕ
Amount1 = 93

abbrev pub ExplicitNonce : ℕ
ExplicitNonce = 94

abbrev pub Nonce : ℕ
Nonce = 95

abbrev pub TokenAmount1 : ℕ
TokenAmount1 = 96

-- "`u1` to `u256`" and the built-in aliases, each in their order
abbrev pub unsigned_types : list.List ℕ
unsigned_types = u1 ∷ u2 ∷ u4 ∷ u8 ∷ u16 ∷ u32 ∷ u64 ∷ u128 ∷ u256 ∷ []

abbrev pub builtin_types : list.List ℕ
builtin_types = Ctx8 ∷ Pubkey ∷ Message ∷ Message64 ∷ Signature ∷ Scalar ∷ Fe ∷ Ge ∷ Gej ∷ Point ∷ Height ∷ Time ∷ Distance ∷ Duration ∷ Lock ∷ Outpoint ∷ Confidential1 ∷ ExplicitAsset ∷ Asset1 ∷ ExplicitAmount ∷ Amount1 ∷ ExplicitNonce ∷ Nonce ∷ TokenAmount1 ∷ []

abbrev pub type_names : list.List ℕ
type_names = bool ∷ unsigned_types ++ builtin_types

-- the last class
abbrev pub last : ℕ
last = TokenAmount1

-- "A function name is any not in `FUNCTION_RESERVED`": the classes of names that are not,
abbrev pub function_names : list.List ℕ
function_names = Ident ∷ Left ∷ Right ∷ Some ∷ None ∷ Either ∷ Option ∷ List ∷ type_names

-- and those of names that are.
abbrev pub reserved : list.List ℕ
reserved = unwrap_left ∷ unwrap_right ∷ array_fold ∷ for_while ∷ is_none ∷ unwrap ∷ assert ∷ panic ∷ into ∷ fold ∷ dbg ∷ raw_hash ∷ []

-- "An identifier is any name token".
abbrev pub identifiers : list.List ℕ
identifiers = function_names ++ reserved

-- "A type's own name may not be in `ALIAS_RESERVED`" (document 02, order 3): the classes of names that are not,
abbrev pub alias_names : list.List ℕ
alias_names = Ident ∷ Left ∷ Right ∷ Some ∷ None ∷ reserved

-- and those of names that are.
abbrev pub alias_reserved : list.List ℕ
alias_reserved = Either ∷ Option ∷ List ∷ type_names
