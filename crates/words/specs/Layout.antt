-- How the words of Words.antt lie in the constants of the crate. Only the crate's own proofs need it. Made by tools/words.py.
-- Assumes nothing.
use Rattle.std.specs.Prelude.{List, ◌++◌, ℕ, ◌+◌, ◌*◌, ◌-◌, ◌%◌, length, get_or}
use Rattle.text.specs.Ascii.{ascii}
use Rattle.words.specs.Words.{RULE_WORDS, KEYWORDS, MODULE_RESERVED}

-- the entries: every word of every table, a table within another once
unfoldable pub entries : List (List ℕ)
entries = RULE_WORDS ++ KEYWORDS ++ MODULE_RESERVED

-- the bytes that hold every entry
unfoldable pub letters : List ℕ
letters = ascii "ExplicitAmountConfidential1ExplicitAssetExplicitNonceunwrap_rightTokenAmount1unwrap_leftarray_foldfor_whileMessage64Signatureraw_hashDistanceDurationOutpointis_noneassert!witnessEitherOptionpanic!PubkeyScalarHeightAsset1Rightmatchlist!falsePointconstcrateparamLeftSomeNoneListintodbg!trueboolu128u256Ctx8TimeLocktypeenumsimcu16u32u64Gejpubuseletmodjetu4u8Fefn"

-- the slot of a word, by the multipliers of its first, second and last byte
unfoldable pub slot_of : List ℕ → List ℕ → ℕ
slot_of m w = (length w + get_or m 0 0 * get_or w 0 0 + get_or m 1 0 * get_or w 1 0 + get_or m 2 0 * get_or w (length w - 1) 0) % 256
