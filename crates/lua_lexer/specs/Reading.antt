-- Reading from left to right, as lists: what each private reader answers. That this is the relation of
-- Spelling and Faults is proved.
use Rattle.std.specs.Prelude.{◌≡◌, ℕ, zero, suc, ◌+◌, ◌-◌, ◌*◌, ◌<◌, ◌≤◌, ◌^◌, Bool, ◌&&◌, ◌||◌, not, List, [], ◌∷◌, length, take, drop, Option, Some, None, Result, Ok, Err, unwrap_or, nat_lt, nat_le, ◌==◌, if◌then◌else◌}
use Rattle.std.specs.List.{list_all, flat_map}
use Rattle.lua_names.specs.Keywords.{keyword_of}
use Rattle.lua_lexer.specs.declared.class.Class.{Class}
use Rattle.lua_lexer.specs.declared.class.Class.TheVariants as classes
use Rattle.lua_lexer.specs.declared.stop.Cause.{Cause}
use Rattle.lua_lexer.specs.declared.stop.Cause.TheVariants as causes
use Rattle.lua_lexer.specs.declared.stop.Stop.{Stop}
use Rattle.lua_lexer.specs.declared.stop.Stop.TheVariants as stops
use Rattle.lua_lexer.specs.declared.escape.Meaning.{Meaning}
use Rattle.lua_lexer.specs.declared.escape.Meaning.TheVariants as meanings
use Rattle.lua_lexer.specs.declared.element.Lexeme.{Lexeme}
use Rattle.lua_lexer.specs.declared.element.Lexeme.TheVariants as lexemes
use Rattle.lua_lexer.specs.declared.fault.LexFault.{LexFault}
use Rattle.lua_lexer.specs.declared.fault.LexFault.TheVariants as faults
use Rattle.lua_lexer.specs.declared.token.Token.{Token}
use Rattle.lua_lexer.specs.declared.token.TokenKind.{TokenKind}
use Rattle.lua_lexer.specs.declared.token.TokenKind.TheVariants as kinds
use Rattle.lua_names.specs.declared.keyword.Keyword.{Keyword}
use Rattle.lua_lexer.specs.declared.vocabulary.Symbol.{Symbol}
use Rattle.lua_lexer.specs.declared.vocabulary.Symbol.TheVariants as symbols
use Rattle.lua_names.specs.Names.{is_digit, is_name_start, is_name_byte}
use Rattle.lua_lexer.specs.Alphabet.{is_space, is_line_break, is_numeral_byte, digit_of, is_hexadecimal, is_quote, value, begins_with}
use Rattle.lua_lexer.specs.QuotedText.{letter_value, utf8, ends_line}
use Rattle.lua_lexer.specs.LongBracket.{without_break, long_text}
use Rattle.lua_lexer.specs.declared.numeral.TheConstants.{GREATEST}
use Rattle.lua_lexer.specs.declared.lexer.TheConstants.{LONGEST}

-- ---- what a reader answers

-- a value, or a fault and how many bytes are left at its place
abbrev pub Outcome : Type 0 → Type 0
Outcome A = Result A (Cause × ℕ)

abbrev pub then_with : {A B : Type 0} → Outcome A → (A → Outcome B) → Outcome B
then_with (Ok x) f = f x
then_with (Err e) f = Err e

-- What a function returned, seen by view, is what reading gives, unless memory ran out.
abbrev pub Stops : {Y : Type 0} → Stop → Outcome Y → Type 0
Stops stops.NoMemory read = Unit {0}
Stops (stops.At cause left) read = read ≡ Err (cause, left)

abbrev pub Gives : {X Y : Type 0} → (X → Y) → Result X Stop → Outcome Y → Type 0
Gives view (Ok x) read = read ≡ Ok (view x)
Gives view (Err e) read = Stops e read

abbrev pub stop_at : Cause × ℕ → Stop
stop_at fault = stops.At fault.0 fault.1

-- the same of readers that take no memory
abbrev pub Meets : {X Y E F : Type 0} → (X → Y) → (E → F) → Result X E → Result Y F → Type 0
Meets view seen (Ok x) read = read ≡ Ok (view x)
Meets view seen (Err e) read = read ≡ Err (seen e)

-- ---- runs

abbrev pub holds : Class → ℕ → Bool
holds classes.Space b = is_space b
holds classes.Digit b = is_digit b
holds classes.Hexadecimal b = is_hexadecimal b
holds classes.Name b = is_name_byte b
holds classes.Numeral b = is_numeral_byte b
holds classes.Equals b = b == 61
holds classes.Line b = not (is_line_break b)

-- the longest front whose bytes pass a test, and what follows it
abbrev pub run : (ℕ → Bool) → List ℕ → List ℕ
run test [] = []
run test (b ∷ bs) = if test b then b ∷ run test bs else []

abbrev pub after_run : (ℕ → Bool) → List ℕ → List ℕ
after_run test [] = []
after_run test (b ∷ bs) = if test b then after_run test bs else b ∷ bs

-- ---- words and symbols

abbrev pub first_of : {A : Type 0} → Option A → Option A → Option A
first_of (Some x) other = Some x
first_of None other = other

abbrev pub with_rest : {A : Type 0} → Option A → List ℕ → Option (A × List ℕ)
with_rest None rest = None
with_rest (Some x) rest = Some (x, rest)

abbrev pub word_kind : Option Keyword → List ℕ → TokenKind
word_kind (Some keyword) word = kinds.Keyword keyword
word_kind None word = kinds.Name word

unfoldable pub word_at : List ℕ → TokenKind × List ℕ
word_at bytes = (word_kind (keyword_of (run is_name_byte bytes)) (run is_name_byte bytes), after_run is_name_byte bytes)

unfoldable pub pair_of : ℕ → ℕ → Option Symbol
pair_of a b =
    if a == 60 then (if b == 60 then Some symbols.ShiftLeft else (if b == 61 then Some symbols.LessEqual else None))
    else (if a == 62 then (if b == 62 then Some symbols.ShiftRight else (if b == 61 then Some symbols.GreaterEqual else None))
    else (if a == 47 then (if b == 47 then Some symbols.DoubleSlash else None)
    else (if a == 61 then (if b == 61 then Some symbols.Equal else None)
    else (if a == 126 then (if b == 61 then Some symbols.NotEqual else None)
    else (if a == 58 then (if b == 58 then Some symbols.DoubleColon else None)
    else (if a == 46 then (if b == 46 then Some symbols.Concat else None)
    else None))))))

abbrev pub symbol_among : List (ℕ × Symbol) → ℕ → Option Symbol
symbol_among [] b = None
symbol_among (entry ∷ entries) b = if b == entry.0 then Some entry.1 else symbol_among entries b

abbrev pub singles : List (ℕ × Symbol)
singles = (43, symbols.Plus) ∷ (45, symbols.Minus) ∷ (42, symbols.Star) ∷ (47, symbols.Slash) ∷ (37, symbols.Percent) ∷ (94, symbols.Caret) ∷ (35, symbols.Hash) ∷ (38, symbols.Amp) ∷ (126, symbols.Tilde) ∷ (124, symbols.Bar) ∷ (60, symbols.Less) ∷ (62, symbols.Greater) ∷ (61, symbols.Assign) ∷ (40, symbols.OpenParen) ∷ (41, symbols.CloseParen) ∷ (123, symbols.OpenBrace) ∷ (125, symbols.CloseBrace) ∷ (91, symbols.OpenBracket) ∷ (93, symbols.CloseBracket) ∷ (59, symbols.Semicolon) ∷ (58, symbols.Colon) ∷ (44, symbols.Comma) ∷ (46, symbols.Dot) ∷ []

unfoldable pub single_of : ℕ → Option Symbol
single_of b = symbol_among singles b

abbrev pub single_at : List ℕ → Option (Symbol × List ℕ)
single_at [] = None
single_at (a ∷ rest) = with_rest (single_of a) rest

abbrev pub pair_at : List ℕ → Option (Symbol × List ℕ)
pair_at [] = None
pair_at (a ∷ []) = None
pair_at (a ∷ b ∷ rest) = with_rest (pair_of a b) rest

abbrev pub dots_at : List ℕ → Option (Symbol × List ℕ)
dots_at [] = None
dots_at (a ∷ []) = None
dots_at (a ∷ b ∷ []) = None
dots_at (a ∷ b ∷ c ∷ rest) = if (a == 46 && b == 46) && c == 46 then Some (symbols.Dots, rest) else None

unfoldable pub symbol_at : List ℕ → Option (Symbol × List ℕ)
symbol_at bytes = first_of (dots_at bytes) (first_of (pair_at bytes) (single_at bytes))

-- ---- numerals

-- whether the bytes are `0x` or `0X` and hexadecimal digits, and the digits
abbrev pub hexadecimal_digits : List ℕ → Option (List ℕ)
hexadecimal_digits [] = None
hexadecimal_digits (z ∷ []) = None
hexadecimal_digits (z ∷ x ∷ []) = None
hexadecimal_digits (z ∷ x ∷ d ∷ ds) =
    if z == 48 && (x == 120 || x == 88) && list_all is_hexadecimal (d ∷ ds) then Some (d ∷ ds) else None

abbrev pub within : ℕ → ℕ → Option ℕ
within limit n = if nat_le n limit then Some n else None

abbrev pub greatest : ℕ
greatest = GREATEST

abbrev pub or_cause : {A : Type 0} → Option A → Cause × ℕ → Outcome A
or_cause None cause = Err cause
or_cause (Some x) cause = Ok x

abbrev pub integer_by : Option (List ℕ) → List ℕ → ℕ → Outcome ℕ
integer_by (Some digits) bytes left = or_cause (within greatest (value 16 digits)) (causes.NumberTooLarge, left)
integer_by None bytes left =
    if list_all is_digit bytes then or_cause (within greatest (value 10 bytes)) (causes.NumberTooLarge, left)
    else Err (causes.BadNumeral, left)

abbrev pub integer_of : List ℕ → ℕ → Outcome ℕ
integer_of bytes left = integer_by (hexadecimal_digits bytes) bytes left

unfoldable pub numeral_at : List ℕ → Outcome (ℕ × List ℕ)
numeral_at bytes = then_with (integer_of (run is_numeral_byte bytes) (length bytes)) (λ n. Ok (n, after_run is_numeral_byte bytes))

-- ---- long brackets and comments

-- the number of `=` at the front, if this byte follows them, and what follows it
abbrev pub level_after : ℕ → List ℕ → ℕ → Option (ℕ × List ℕ)
level_after last [] level = None
level_after last (b ∷ bs) level = if b == last then Some (level, bs) else None

unfoldable pub level_at : ℕ → List ℕ → Option (ℕ × List ℕ)
level_at last bytes = level_after last (after_run (λ b. b == 61) bytes) (length (run (λ b. b == 61) bytes))

-- the level of the long bracket that opens at the front, and what follows its opening
unfoldable pub opened : List ℕ → Option (ℕ × List ℕ)
opened [] = None
opened (b ∷ bs) = if b == 91 then level_at 91 bs else None

abbrev pub same_level : ℕ → Option (ℕ × List ℕ) → Option (List ℕ)
same_level wanted None = None
same_level wanted (Some found) = if found.0 == wanted then Some found.1 else None

-- what follows the close of this level at the front
unfoldable pub closed_at : ℕ → List ℕ → Option (List ℕ)
closed_at wanted [] = None
closed_at wanted (b ∷ bs) = if b == 93 then same_level wanted (level_at 93 bs) else None

abbrev pub longer : ℕ → Option (List ℕ × List ℕ) → Option (List ℕ × List ℕ)
longer b None = None
longer b (Some found) = Some (b ∷ found.0, found.1)

abbrev pub body_or : ℕ → Option (List ℕ) → Option (List ℕ × List ℕ) → Option (List ℕ × List ℕ)
body_or b (Some rest) later = Some ([], rest)
body_or b None later = longer b later

-- what stands before the first close of this level, and what follows it
unfoldable pub close_at : ℕ → List ℕ → Option (List ℕ × List ℕ)
close_at level [] = None
close_at level (b ∷ bs) = body_or b (closed_at level (b ∷ bs)) (close_at level bs)

abbrev pub body_after : Option (ℕ × List ℕ) → Option (List ℕ × List ℕ)
body_after None = None
body_after (Some opening) = close_at opening.0 opening.1

-- at `[` before `[` or `=`; left bytes are left there
abbrev pub bracket_by : Option (ℕ × List ℕ) → ℕ → Outcome (List ℕ × List ℕ)
bracket_by None left = Err (causes.BadByte, left)
bracket_by (Some opening) left = then_with (or_cause (close_at opening.0 opening.1) (causes.OpenBracket, left)) (λ found. Ok (long_text found.0, found.1))

unfoldable pub bracket_at : List ℕ → Outcome (List ℕ × List ℕ)
bracket_at bytes = bracket_by (opened bytes) (length bytes)

abbrev pub comment_by : Option (ℕ × List ℕ) → List ℕ → ℕ → Outcome (List ℕ)
comment_by None rest left = Ok (after_run (λ b. not (is_line_break b)) rest)
comment_by (Some opening) rest left = then_with (or_cause (close_at opening.0 opening.1) (causes.OpenBracket, left)) (λ found. Ok found.1)

-- at `--`
unfoldable pub comment_at : List ℕ → Outcome (List ℕ)
comment_at bytes = comment_by (opened (drop 2 bytes)) (drop 2 bytes) (length bytes)

-- ---- escapes: what they stand for, or the bytes from that one on at which reading fails

abbrev pub Escape : Type 0
Escape = Result (Meaning × List ℕ) (List ℕ)

abbrev pub meaning_bytes : Meaning → List ℕ
meaning_bytes meanings.Nothing = []
meaning_bytes (meanings.Byte b) = b ∷ []
meaning_bytes (meanings.Code n) = utf8 n

-- a number that has a UTF-8 form
abbrev pub IsMeaning : Meaning → Type 0
IsMeaning (meanings.Code n) = n < 2 ^ 31
IsMeaning _ = Unit {0}

abbrev pub low_digit : ℕ → Option ℕ → List ℕ → List ℕ → Escape
low_digit high None failed rest = Err failed
low_digit high (Some low) failed rest = Ok (meanings.Byte (high * 16 + low), rest)

abbrev pub low_at : ℕ → List ℕ → Escape
low_at high [] = Err []
low_at high (b ∷ bs) = low_digit high (digit_of b) (b ∷ bs) bs

abbrev pub high_digit : Option ℕ → List ℕ → List ℕ → Escape
high_digit None failed rest = Err failed
high_digit (Some high) failed rest = low_at high rest

unfoldable pub hexadecimal_at : List ℕ → Escape
hexadecimal_at [] = Err []
hexadecimal_at (b ∷ bs) = high_digit (digit_of b) (b ∷ bs) bs

abbrev pub decimal_by : Option ℕ → List ℕ → List ℕ → Escape
decimal_by None failed rest = Err failed
decimal_by (Some n) failed rest = Ok (meanings.Byte n, rest)

unfoldable pub decimal_at : List ℕ → Escape
decimal_at bytes = let digits = run is_digit (take 3 bytes) in decimal_by (within 255 (value 10 digits)) (drop 2 bytes) (drop (length digits) bytes)

-- the digits that are left of `\u{..}`, and `}`
abbrev pub code_end : ℕ → List ℕ → Escape
code_end n [] = Err []
code_end n (b ∷ bs) = if b == 125 then Ok (meanings.Code n, bs) else Err (b ∷ bs)

unfoldable pub code_at : ℕ → List ℕ → Escape
code_at n [] = Err []
code_at n (b ∷ bs) =
    if is_hexadecimal b then (let m = n * 16 + unwrap_or (digit_of b) 0 in if nat_lt m 0x80000000 then code_at m bs else Err (b ∷ bs))
    else code_end n (b ∷ bs)

abbrev pub first_code : List ℕ → Escape
first_code [] = Err []
first_code (b ∷ bs) = if is_hexadecimal b then code_at (unwrap_or (digit_of b) 0) bs else Err (b ∷ bs)

unfoldable pub unicode_at : List ℕ → Escape
unicode_at [] = Err []
unicode_at (b ∷ bs) = if b == 123 then first_code bs else Err (b ∷ bs)

abbrev pub letter_by : Option ℕ → List ℕ → List ℕ → Escape
letter_by None failed rest = Err failed
letter_by (Some n) failed rest = Ok (meanings.Byte n, rest)

abbrev pub escape_z : ℕ → List ℕ → Escape
escape_z b bs = if b == 122 then Ok (meanings.Nothing, after_run is_space bs) else letter_by (letter_value b) (b ∷ bs) bs

abbrev pub escape_u : ℕ → List ℕ → Escape
escape_u b bs = if b == 117 then unicode_at bs else escape_z b bs

abbrev pub escape_x : ℕ → List ℕ → Escape
escape_x b bs = if b == 120 then hexadecimal_at bs else escape_u b bs

abbrev pub escape_digit : ℕ → List ℕ → Escape
escape_digit b bs = if is_digit b then decimal_at (b ∷ bs) else escape_x b bs

-- behind the `\`
unfoldable pub escape_at : List ℕ → Escape
escape_at [] = Err []
escape_at (b ∷ bs) = if is_line_break b then Ok (meanings.Byte 10, without_break (b ∷ bs)) else escape_digit b bs

-- ---- items in turn

abbrev pub ahead : {V : Type 0} → V → Outcome (List V × List ℕ) → Outcome (List V × List ℕ)
ahead v (Ok x) = Ok (v ∷ x.0, x.1)
ahead v (Err e) = Err e

abbrev pub items_after : {V : Type 0} → (List ℕ → Outcome (List V × List ℕ)) → Option V → List ℕ → Outcome (List V × List ℕ)
items_after others None rest = Ok ([], rest)
items_after others (Some v) rest = ahead v (others rest)

abbrev pub items_by : {V : Type 0} → (List ℕ → Outcome (List V × List ℕ)) → Outcome (Option V × List ℕ) → Outcome (List V × List ℕ)
items_by others (Err e) = Err e
items_by others (Ok x) = items_after others x.0 x.1

-- One item after another, as item_at finds them, up to where it finds none; at most so many.
unfoldable pub items_for : {V : Type 0} → (List ℕ → Outcome (Option V × List ℕ)) → ℕ → List ℕ → Outcome (List V × List ℕ)
items_for item_at zero bytes = Ok ([], bytes)
items_for item_at (suc n) bytes = items_by (λ rest. items_for item_at n rest) (item_at bytes)

-- There are no more items than bytes.
unfoldable pub items : {V : Type 0} → (List ℕ → Outcome (Option V × List ℕ)) → List ℕ → Outcome (List V × List ℕ)
items item_at bytes = items_for item_at (suc (length bytes)) bytes

-- ---- quoted texts

-- The fault of an escape: where it fails at the end of the line or the text, the text is open.
abbrev pub escape_fault : ℕ → ℕ → List ℕ → Cause × ℕ
escape_fault opening left failed = if ends_line failed then (causes.OpenString, opening) else (causes.BadEscape, left)

abbrev pub piece_by : ℕ → ℕ → Escape → Outcome (Option Meaning × List ℕ)
piece_by opening left (Ok x) = Ok (Some x.0, x.1)
piece_by opening left (Err failed) = Err (escape_fault opening left failed)

-- the piece at the front, or none at the closing quote; so many bytes are left at the opening quote
unfoldable pub piece_at : ℕ → ℕ → List ℕ → Outcome (Option Meaning × List ℕ)
piece_at quote opening [] = Err (causes.OpenString, opening)
piece_at quote opening (b ∷ bs) =
    if b == quote then Ok (None, bs)
    else (if b == 92 then piece_by opening (suc (length bs)) (escape_at bs)
    else (if is_line_break b then Err (causes.OpenString, opening)
    else Ok (Some (meanings.Byte b), bs)))

-- behind the opening quote
unfoldable pub pieces_at : ℕ → ℕ → List ℕ → Outcome (List ℕ × List ℕ)
pieces_at quote opening bytes = then_with (items (piece_at quote opening) bytes) (λ x. Ok (flat_map meaning_bytes x.0, x.1))

abbrev pub quoted_at : List ℕ → Outcome (List ℕ × List ℕ)
quoted_at [] = Err (causes.OpenString, 0)
quoted_at (quote ∷ bytes) = pieces_at quote (suc (length bytes)) bytes

-- ---- gaps and tokens

abbrev pub begins_bracket : List ℕ → Bool
begins_bracket rest = begins_with (λ b. b == 91 || b == 61) rest

-- what the first two bytes announce
unfoldable pub lexeme_of : ℕ → List ℕ → Lexeme
lexeme_of b rest =
    if is_space b then lexemes.Space
    else (if is_name_start b then lexemes.Word
    else (if is_digit b then lexemes.Numeral
    else (if is_quote b then lexemes.Quoted
    else (if b == 46 && begins_with is_digit rest then lexemes.Numeral
    else (if b == 45 && begins_with (λ c. c == 45) rest then lexemes.Comment
    else (if b == 91 && begins_bracket rest then lexemes.Bracket
    else lexemes.Symbol))))))

abbrev pub Read : Type 0
Read = Outcome (Option TokenKind × List ℕ)

abbrev pub symbol_by : Option (Symbol × List ℕ) → ℕ → Read
symbol_by None left = Err (causes.BadByte, left)
symbol_by (Some x) left = Ok (Some (kinds.Symbol x.0), x.1)

abbrev pub lexeme_at : Lexeme → ℕ → List ℕ → Read
lexeme_at lexemes.Space b rest = Ok (None, rest)
lexeme_at lexemes.Comment b rest = then_with (comment_at (b ∷ rest)) (λ after. Ok (None, after))
lexeme_at lexemes.Word b rest = Ok (Some (word_at (b ∷ rest)).0, (word_at (b ∷ rest)).1)
lexeme_at lexemes.Numeral b rest = then_with (numeral_at (b ∷ rest)) (λ x. Ok (Some (kinds.Int x.0), x.1))
lexeme_at lexemes.Quoted b rest = then_with (quoted_at (b ∷ rest)) (λ x. Ok (Some (kinds.Text x.0), x.1))
lexeme_at lexemes.Bracket b rest = then_with (bracket_at (b ∷ rest)) (λ x. Ok (Some (kinds.Text x.0), x.1))
lexeme_at lexemes.Symbol b rest = symbol_by (symbol_at (b ∷ rest)) (suc (length rest))

-- the gap or token at the front, nothing where no byte is left
unfoldable pub element_at : List ℕ → Read
element_at [] = Ok (None, [])
element_at (b ∷ rest) = lexeme_at (lexeme_of b rest) b rest

-- the same as an item: what it is, and how many bytes it takes
abbrev pub sized : List ℕ → Read → Outcome (Option (Option TokenKind × ℕ) × List ℕ)
sized bytes (Ok x) = Ok (Some (x.0, length bytes - length x.1), x.1)
sized bytes (Err e) = Err e

unfoldable pub item_at : List ℕ → Outcome (Option (Option TokenKind × ℕ) × List ℕ)
item_at [] = Ok (None, [])
item_at (b ∷ rest) = sized (b ∷ rest) (element_at (b ∷ rest))

abbrev pub placed : ℕ → List (Option TokenKind × ℕ) → List Token
placed place [] = record { place = place; kind = kinds.End } ∷ []
placed place ((None, taken) ∷ others) = placed (place + taken) others
placed place ((Some kind, taken) ∷ others) = record { place = place; kind = kind } ∷ placed (place + taken) others

unfoldable pub tokens_at : List ℕ → Outcome (List Token)
tokens_at text = then_with (items item_at text) (λ x. Ok (placed 0 x.0))

-- ---- the public faults

abbrev pub fault_at : Cause → ℕ → LexFault
fault_at causes.BadByte place = faults.BadByte place
fault_at causes.OpenString place = faults.OpenString place
fault_at causes.OpenBracket place = faults.OpenBracket place
fault_at causes.BadEscape place = faults.BadEscape place
fault_at causes.BadNumeral place = faults.BadNumeral place
fault_at causes.NumberTooLarge place = faults.NumberTooLarge place

abbrev pub fault_of : ℕ → Stop → LexFault
fault_of length stops.NoMemory = faults.NoMemory
fault_of length (stops.At cause left) = fault_at cause (length - left)

-- the place of a fault lies within so many bytes
abbrev pub LiesWithin : ℕ → Stop → Type 0
LiesWithin length stops.NoMemory = Unit {0}
LiesWithin length (stops.At cause left) = left ≤ length

abbrev pub placed_faults : List ℕ → Outcome (List Token) → Result (List Token) LexFault
placed_faults text (Ok tokens) = Ok tokens
placed_faults text (Err e) = Err (fault_at e.0 (length text - e.1))

-- the tokens of a text, or its fault
unfoldable pub lex : List ℕ → Result (List Token) LexFault
lex text = if nat_lt LONGEST (length text) then Err (faults.TooLong (length text)) else placed_faults text (tokens_at text)
