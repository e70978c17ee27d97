-- Each table's rule, computed over all of its words.
-- Assumes nothing.
use Rattle.std.proofs.Common.{refl}
use Rattle.text.specs.Ascii.{ascii, ascii_from}
use Rattle.words.specs.Words.{words_of, FUNCTION_RESERVED, KEYWORDS, MACROS, MODULE_RESERVED, RULE_NAMES, BOOLEANS, RULE_WORDS, UINT_TYPES, BUILTIN_ALIASES, BOOL, TYPE_NAMES}
use Rattle.words.specs.Layout.{entries, slot_of}
use Rattle.words.specs.Lies.{listed}
use Rattle.words.proofs.Laws.{found}
use Rattle.words.proofs.Table.words.Goals as goal

pub returns-in-FunctionReserved : goal.returns-in-FunctionReserved
unfolding words_of listed entries slot_of FUNCTION_RESERVED KEYWORDS MACROS MODULE_RESERVED RULE_NAMES BOOLEANS RULE_WORDS UINT_TYPES BUILTIN_ALIASES BOOL TYPE_NAMES ascii ascii_from
returns-in-FunctionReserved c = (found _ tt, rw c.in-FunctionReserved.is refl)

pub returns-in-Keywords : goal.returns-in-Keywords
unfolding words_of listed entries slot_of FUNCTION_RESERVED KEYWORDS MACROS MODULE_RESERVED RULE_NAMES BOOLEANS RULE_WORDS UINT_TYPES BUILTIN_ALIASES BOOL TYPE_NAMES ascii ascii_from
returns-in-Keywords c = (found _ tt, rw c.in-Keywords.is refl)

pub returns-in-Macros : goal.returns-in-Macros
unfolding words_of listed entries slot_of FUNCTION_RESERVED KEYWORDS MACROS MODULE_RESERVED RULE_NAMES BOOLEANS RULE_WORDS UINT_TYPES BUILTIN_ALIASES BOOL TYPE_NAMES ascii ascii_from
returns-in-Macros c = (found _ tt, rw c.in-Macros.is refl)

pub returns-in-ModuleReserved : goal.returns-in-ModuleReserved
unfolding words_of listed entries slot_of FUNCTION_RESERVED KEYWORDS MACROS MODULE_RESERVED RULE_NAMES BOOLEANS RULE_WORDS UINT_TYPES BUILTIN_ALIASES BOOL TYPE_NAMES ascii ascii_from
returns-in-ModuleReserved c = (found _ tt, rw c.in-ModuleReserved.is refl)

pub returns-in-RuleWords : goal.returns-in-RuleWords
unfolding words_of listed entries slot_of FUNCTION_RESERVED KEYWORDS MACROS MODULE_RESERVED RULE_NAMES BOOLEANS RULE_WORDS UINT_TYPES BUILTIN_ALIASES BOOL TYPE_NAMES ascii ascii_from
returns-in-RuleWords c = (found _ tt, rw c.in-RuleWords.is refl)
