-- The words that the rules single out, as lists of byte strings in the order of the Rust, and which word of a list a part of a draft is.
-- Assumes nothing.
use Rattle.std.specs.Prelude.{cond, List, [], ◌∷◌, ◌++◌, map, ℕ, ◌+◌, Option, Some, None}
use Rattle.text.specs.Ascii.{ascii}
use Rattle.text.specs.Same.{same}
use Rattle.words.specs.declared.Table.{Table}
use Rattle.words.specs.declared.Table.TheVariants.{FunctionReserved, Keywords, Macros, ModuleReserved, RuleWords}

-- src/str.rs, `FUNCTION_RESERVED`
unfoldable pub FUNCTION_RESERVED : List (List ℕ)
FUNCTION_RESERVED =
    map ascii
    ("unwrap_left" ∷ "unwrap_right" ∷ "array_fold" ∷ "for_while" ∷ "is_none" ∷ "unwrap" ∷ "assert" ∷ "panic" ∷ "match" ∷ "into" ∷ "fold" ∷ "dbg" ∷ "raw_hash" ∷ [])

-- src/lexer.rs, `KEYWORDS`
unfoldable pub KEYWORDS : List (List ℕ)
KEYWORDS =
    map ascii
    ("pub" ∷ "use" ∷ "as" ∷ "fn" ∷ "let" ∷ "type" ∷ "mod" ∷ "const" ∷ "match" ∷ "enum" ∷ "crate" ∷ "simc" ∷ "true" ∷ "false" ∷ [])

unfoldable pub MACROS : List (List ℕ)
MACROS = map ascii ("assert!" ∷ "panic!" ∷ "dbg!" ∷ "list!" ∷ [])

-- src/str.rs, `MODULE_RESERVED`: what `::` and a name follow in one token
unfoldable pub MODULE_RESERVED : List (List ℕ)
MODULE_RESERVED = map ascii ("jet" ∷ "witness" ∷ "param" ∷ [])

-- the other names that a rule of "Well-shaped drafts" singles out
unfoldable pub RULE_NAMES : List (List ℕ)
RULE_NAMES = map ascii ("Left" ∷ "Right" ∷ "Some" ∷ "None" ∷ "Either" ∷ "Option" ∷ "List" ∷ [])

unfoldable pub BOOLEANS : List (List ℕ)
BOOLEANS = map ascii ("false" ∷ "true" ∷ [])

-- src/types/inner.rs, `UIntType`
unfoldable pub UINT_TYPES : List (List ℕ)
UINT_TYPES = map ascii ("u1" ∷ "u2" ∷ "u4" ∷ "u8" ∷ "u16" ∷ "u32" ∷ "u64" ∷ "u128" ∷ "u256" ∷ [])

-- src/types/aliased.rs, `BuiltinAlias`
unfoldable pub BUILTIN_ALIASES : List (List ℕ)
BUILTIN_ALIASES =
    map ascii
    ("Ctx8" ∷ "Pubkey" ∷ "Message" ∷ "Message64" ∷ "Signature" ∷ "Scalar" ∷ "Fe" ∷ "Ge" ∷ "Gej" ∷ "Point" ∷ "Height" ∷ "Time" ∷ "Distance" ∷ "Duration" ∷ "Lock" ∷ "Outpoint" ∷ "Confidential1" ∷ "ExplicitAsset" ∷ "Asset1" ∷ "ExplicitAmount" ∷ "Amount1" ∷ "ExplicitNonce" ∷ "Nonce" ∷ "TokenAmount1" ∷ [])

unfoldable pub BOOL : List (List ℕ)
BOOL = map ascii ("bool" ∷ [])

-- the names of types: the Boolean type, the unsigned ones, the built-in aliases
unfoldable pub TYPE_NAMES : List (List ℕ)
TYPE_NAMES = BOOL ++ UINT_TYPES ++ BUILTIN_ALIASES

-- every name, macro and boolean that a rule tells from others
unfoldable pub RULE_WORDS : List (List ℕ)
RULE_WORDS = RULE_NAMES ++ FUNCTION_RESERVED ++ MACROS ++ BOOLEANS ++ TYPE_NAMES

-- src/str.rs, `ALIAS_RESERVED`: what no type item is named
unfoldable pub ALIAS_RESERVED : List (List ℕ)
ALIAS_RESERVED =
    map ascii ("Either" ∷ "Option" ∷ "bool" ∷ "List" ∷ "u128" ∷ "u256" ∷ "u16" ∷ "u32" ∷ "u64" ∷ "u1" ∷ "u2" ∷ "u4" ∷ "u8" ∷ [])
    ++ map ascii
    ("Ctx8" ∷ "Pubkey" ∷ "Message64" ∷ "Message" ∷ "Signature" ∷ "Scalar" ∷ "Fe" ∷ "Gej" ∷ "Ge" ∷ "Point" ∷ "Height" ∷ "Time" ∷ "Distance" ∷ "Duration" ∷ "Lock" ∷ "Outpoint" ∷ "Confidential1" ∷ "ExplicitAsset" ∷ "Asset1" ∷ "ExplicitAmount" ∷ "Amount1" ∷ "ExplicitNonce" ∷ "Nonce" ∷ "TokenAmount1" ∷ [])

-- the words of each table
unfoldable pub words_of : Table → List (List ℕ)
words_of FunctionReserved = FUNCTION_RESERVED
words_of Keywords = KEYWORDS
words_of Macros = MACROS
words_of ModuleReserved = MODULE_RESERVED
words_of RuleWords = RULE_WORDS

-- the first word of the list that p is, counted from k, and None if it is none; counted from 0
unfoldable pub find : List ℕ → ℕ → List (List ℕ) → Option ℕ
find p k [] = None
find p k (w ∷ ws) = cond (same p w) (Some k) (find p (k + 1) ws)

unfoldable pub word_of : List (List ℕ) → List ℕ → Option ℕ
word_of ws p = find p 0 ws
