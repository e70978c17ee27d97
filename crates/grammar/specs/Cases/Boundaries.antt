-- Drafts at the limits, of bytes and tokens by small figures, and in the order of refusals; array lengths around the largest 64-bit number; and the drafts of
-- document 01's "Drafts with known results" that are not marked, but for `0x_1` (lexer's Samples.antt): what the definitions make of each is computed. Refusals
-- are in the paper's figures, so that the names for them are tested too.
-- Assumes nothing.
use Rattle.std.specs.Prelude.{List, [], ◌∷◌, ◌++◌, map, ◌≡◌, refl, ℕ, zero, suc}
use Rattle.text.specs.Ascii.{ascii, ascii_from}
use Rattle.lexer.specs.Limits.{limits_of, small_limits}
use Rattle.grammar.specs.Entry.{single_function}
use Rattle.grammar.specs.Cases.Cases.{Result, refused_with, records, buffers, Case, defined, roomy, whole, braced, in_braces}

-- `fn f(){}`, eight bytes, six tokens, three records: within so many bytes, tokens, words of the token buffer and of the tree buffer.
abbrev pub small : ℕ → ℕ → ℕ → ℕ → Result → Case
small b t tw rw r = record { entry = single_function; limits = limits_of b t; token_space = tw; tree_space = rw; draft = braced ""; result = r }

-- so many times the bytes
unfoldable times : ℕ → List ℕ → List ℕ
times zero s = []
times (suc n) s = s ++ times n s

unfoldable cases : List Case
cases =
    -- each limit met, and passed by one
    small 8 6 18 21 (records 3)
    ∷ small 7 6 18 21 (refused_with 1 7)
    ∷ small 8 5 18 21 (refused_with 6 7)
    ∷ small 8 6 17 21 (refused_with 6 7)
    ∷ small 8 6 18 20 (refused_with 15 0)
    ∷ roomy (times 48 (ascii "(")) (refused_with 8 0)
    ∷ roomy (times 49 (ascii "(")) (refused_with 7 48)
    ∷ roomy (times 8 (ascii "match ")) (refused_with 8 0)
    ∷ roomy (times 9 (ascii "match ")) (refused_with 7 48)
    -- refusals 2 to 5 and 21, of which the earliest wins
    ∷ roomy (102 ∷ 128 ∷ 35 ∷ []) (refused_with 2 1)
    ∷ roomy (47 ∷ 47 ∷ 128 ∷ 10 ∷ 35 ∷ []) (refused_with 21 2)
    ∷ roomy (47 ∷ 42 ∷ 128 ∷ []) (refused_with 4 0)
    ∷ whole "fn # simc" (refused_with 3 3)
    ∷ whole "/*/**/" (refused_with 4 0)
    ∷ whole "fn simc #" (refused_with 5 3)
    -- 1 before 3, 3 before 6, 6 before 7, 7 before 8, 8 before 11, 9 before 15
    ∷ record { entry = single_function; limits = limits_of 3 9; token_space = 0; tree_space = 0; draft = ascii "####"; result = refused_with 1 3 }
    ∷ record { entry = single_function; limits = limits_of 99 9; token_space = 0; tree_space = 0; draft = ascii "fn #"; result = refused_with 3 3 }
    ∷ record { entry = single_function; limits = limits_of 99 8; token_space = 99; tree_space = 0; draft = times 9 (ascii "match "); result = refused_with 6 48 }
    ∷ in_braces "match x{} 1" (refused_with 8 17)
    ∷ record { entry = single_function; limits = small_limits; token_space = 99; tree_space = 0; draft = braced "fold::<g,3>(x)"; result = refused_with 9 16 }
    -- of 9 to 14 the earliest place; for 19 see below
    ∷ in_braces "fold::<g,3>(match x{})" (refused_with 9 16)
    ∷ in_braces "match fold::<g,3>(x){}" (refused_with 11 7)
    ∷ in_braces "match x{A::B=>1,None=>2,}" (refused_with 12 7)
    -- a bound of a type
    ∷ in_braces "let x:List<u8,3>=1;" (refused_with 9 21)
    -- a length over the largest 64-bit number, by value and not by digits; as a bound or a size such a number keeps 9 and 10
    ∷ in_braces "let x:[u8;18446744073709551616]=1;" (refused_with 19 17)
    ∷ in_braces "let x:[u8;0018_446_744_073_709_551_616_]=1;" (refused_with 19 17)
    ∷ in_braces "let x:List<u8,18446744073709551616>=1;" (refused_with 9 21)
    ∷ in_braces "fold::<g,18446744073709551616>(x)" (refused_with 9 16)
    ∷ in_braces "array_fold::<g,18446744073709551616>(x)" (refused_with 10 22)
    -- 19 among 9 to 14 by earliest place, after 8 and before 15
    ∷ in_braces "let x:[List<u8,3>;18446744073709551616]=1;" (refused_with 9 22)
    ∷ in_braces "let x:List<[u8;18446744073709551616],3>=1;" (refused_with 19 22)
    ∷ in_braces "let x:[u8;18446744073709551616]=match x{};" (refused_with 19 17)
    ∷ in_braces "match <[u8;18446744073709551616]>::into(x){}" (refused_with 11 7)
    ∷ in_braces "let x:[u8;18446744073709551616]=1" (refused_with 8 40)
    ∷ record { entry = single_function; limits = small_limits; token_space = 99; tree_space = 0; draft = braced "let x:[u8;18446744073709551616]=1;"; result = refused_with 19 17 }
    -- accepted
    ∷ in_braces "let x:List<u8,2>=1;" (records 8)
    ∷ in_braces "let x:[u8;0]=1;" (records 8)
    ∷ in_braces "let x:[u8;18446744073709551615]=1;" (records 8)
    ∷ in_braces "let x:[u8;0018_446_744_073_709_551_615_]=1;" (records 8)
    ∷ in_braces "A::B()" (records 6)
    ∷ in_braces "fold::<g,2>(x)" (records 7)
    ∷ in_braces "array_fold::<g,1>(x)" (records 7)
    -- every word of both buffers
    ∷ small 8 6 20 23
    (buffers (4 ∷ 0 ∷ 2 ∷ 32 ∷ 3 ∷ 4 ∷ 20 ∷ 4 ∷ 5 ∷ 21 ∷ 5 ∷ 6 ∷ 24 ∷ 6 ∷ 7 ∷ 25 ∷ 7 ∷ 8 ∷ 0 ∷ 0 ∷ [])
    (1 ∷ 0 ∷ 8 ∷ 0 ∷ 0 ∷ 3 ∷ 0 ∷ 2 ∷ 3 ∷ 4 ∷ 0 ∷ 0 ∷ 1 ∷ 1 ∷ 18 ∷ 6 ∷ 8 ∷ 0 ∷ 0 ∷ 1 ∷ 2 ∷ 0 ∷ 0 ∷ []))
    ∷ []

-- What the definitions make of them is this.
cases-agree : map defined cases ≡ map (λ k. k.result) cases
unfolding cases defined times ascii ascii_from
cases-agree = refl
