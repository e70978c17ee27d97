-- Made by tools/grammar.py from Shapes.antt: do not edit; `tools/grammar.py --check` says whether it is up to date.
-- The nonterminals of Tables.antt by name: each number with what it stands for.
-- Assumes nothing.
use Rattle.std.specs.Prelude.{ℕ}

-- function
abbrev pub n-function : ℕ
n-function = 0

-- optional Pub
abbrev pub n-function-optional-Pub : ℕ
n-function-optional-Pub = 1

-- function_name
abbrev pub n-function_name : ℕ
n-function_name = 2

-- list of parameter
abbrev pub n-list-parameter : ℕ
n-list-parameter = 3

-- optional (Arrow type)
abbrev pub n-function-optional-Arrow : ℕ
n-function-optional-Arrow = 4

-- block
abbrev pub n-block : ℕ
n-block = 5

-- parameter
abbrev pub n-parameter : ℕ
n-parameter = 6

-- what follows an item of: list of parameter
abbrev pub n-tail-parameter : ℕ
n-tail-parameter = 7

-- type
abbrev pub n-type : ℕ
n-type = 8

-- elements
abbrev pub n-elements : ℕ
n-elements = 9

-- identifier
abbrev pub n-identifier : ℕ
n-identifier = 10

-- optional (LAngle type Comma type RAngle)
abbrev pub n-either_type-optional-LAngle : ℕ
n-either_type-optional-LAngle = 11

-- optional (LAngle type RAngle)
abbrev pub n-option_type-optional-LAngle : ℕ
n-option_type-optional-LAngle = 12

-- optional (LAngle type Comma DecLiteral RAngle)
abbrev pub n-list_type-optional-LAngle : ℕ
n-list_type-optional-LAngle = 13

-- named_type
abbrev pub n-named_type : ℕ
n-named_type = 14

-- list of type
abbrev pub n-list-type : ℕ
n-list-type = 15

-- assignment
abbrev pub n-assignment : ℕ
n-assignment = 16

-- expression
abbrev pub n-expression : ℕ
n-expression = 17

-- optional (Semi elements)
abbrev pub n-elements-optional-Semi : ℕ
n-elements-optional-Semi = 18

-- what follows an item of: list of type
abbrev pub n-tail-type : ℕ
n-tail-type = 19

-- pattern
abbrev pub n-pattern : ℕ
n-pattern = 20

-- single
abbrev pub n-single : ℕ
n-single = 21

-- list of pattern
abbrev pub n-list-pattern : ℕ
n-list-pattern = 22

-- literal
abbrev pub n-literal : ℕ
n-literal = 23

-- list of expression
abbrev pub n-list-expression : ℕ
n-list-expression = 24

-- any number of arm
abbrev pub n-many-arm : ℕ
n-many-arm = 25

-- assert! | panic! | dbg! | Jet
abbrev pub n-simple_call-word : ℕ
n-simple_call-word = 26

-- arguments
abbrev pub n-arguments : ℕ
n-arguments = 27

-- unwrap | Ident | Left | Right | Some | Either | Option | List | bool | u1 | u2 | u4 | u8 | u16 | u32 | u64 | u128 | u256 | Ctx8 | Pubkey | Message | Message64 | Signature | Scalar | Fe | Ge | Gej | Point | Height | Time | Distance | Duration | Lock | Outpoint | Confidential1 | ExplicitAsset | Asset1 | ExplicitAmount | Amount1 | ExplicitNonce | Nonce | TokenAmount1
abbrev pub n-named-word : ℕ
n-named-word = 28

-- optional (arguments | DoubleColon path)
abbrev pub n-named-optional : ℕ
n-named-optional = 29

-- None | into | assert | panic | dbg
abbrev pub n-bare-word : ℕ
n-bare-word = 30

-- optional (DoubleColon path)
abbrev pub n-bare-optional-DoubleColon : ℕ
n-bare-optional-DoubleColon = 31

-- unwrap_left | unwrap_right | is_none | raw_hash
abbrev pub n-typed-word : ℕ
n-typed-word = 32

-- optional (DoubleColon (LAngle type RAngle arguments | path))
abbrev pub n-typed-optional-DoubleColon : ℕ
n-typed-optional-DoubleColon = 33

-- fold | array_fold
abbrev pub n-folding-word : ℕ
n-folding-word = 34

-- optional (DoubleColon (LAngle function_name Comma DecLiteral RAngle arguments | path))
abbrev pub n-folding-optional-DoubleColon : ℕ
n-folding-optional-DoubleColon = 35

-- optional (DoubleColon (LAngle function_name RAngle arguments | path))
abbrev pub n-for_while-optional-DoubleColon : ℕ
n-for_while-optional-DoubleColon = 36

-- what follows an item of: list of pattern
abbrev pub n-tail-pattern : ℕ
n-tail-pattern = 37

-- what follows an item of: list of expression
abbrev pub n-tail-expression : ℕ
n-tail-expression = 38

-- arm
abbrev pub n-arm : ℕ
n-arm = 39

-- path
abbrev pub n-path : ℕ
n-path = 40

-- LAngle type RAngle arguments | path
abbrev pub n-typed-optional-DoubleColon-choice : ℕ
n-typed-optional-DoubleColon-choice = 41

-- LAngle function_name Comma DecLiteral RAngle arguments | path
abbrev pub n-folding-optional-DoubleColon-choice : ℕ
n-folding-optional-DoubleColon-choice = 42

-- LAngle function_name RAngle arguments | path
abbrev pub n-for_while-optional-DoubleColon-choice : ℕ
n-for_while-optional-DoubleColon-choice = 43

-- head
abbrev pub n-head : ℕ
n-head = 44

-- block optional Comma | single Comma
abbrev pub n-arm-choice : ℕ
n-arm-choice = 45

-- any number of (DoubleColon identifier)
abbrev pub n-path-many-DoubleColon : ℕ
n-path-many-DoubleColon = 46

-- optional arguments
abbrev pub n-path-optional : ℕ
n-path-optional = 47

-- optional head_path
abbrev pub n-head-optional : ℕ
n-head-optional = 48

-- Left | Right | Some
abbrev pub n-head-word : ℕ
n-head-word = 49

-- LParen pair RParen | head_path
abbrev pub n-head-choice : ℕ
n-head-choice = 50

-- other_name
abbrev pub n-other_name : ℕ
n-other_name = 51

-- head_path
abbrev pub n-head_path : ℕ
n-head_path = 52

-- optional Comma
abbrev pub n-arm-choice-optional-Comma : ℕ
n-arm-choice-optional-Comma = 53

-- pair
abbrev pub n-pair : ℕ
n-pair = 54

-- optional (LParen pair what follows an item of: list of pair RParen)
abbrev pub n-head_path-optional-LParen : ℕ
n-head_path-optional-LParen = 55

-- what follows an item of: list of pair
abbrev pub n-tail-pair : ℕ
n-tail-pair = 56

-- list of pair
abbrev pub n-list-pair : ℕ
n-list-pair = 57

-- file
abbrev pub n-file : ℕ
n-file = 58

-- type_item
abbrev pub n-type_item : ℕ
n-type_item = 59

-- alias_name
abbrev pub n-alias_name : ℕ
n-alias_name = 60
