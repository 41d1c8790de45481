-- The keywords (Lua 5.4 manual, section 3.1).
use Rattle.std.specs.Prelude.{ℕ, Bool, List, [], ◌∷◌, Option, is_some, find, codes}
use Rattle.std.specs.Str.{bytes_eq}
use Rattle.lua_names.specs.declared.keyword.Keyword.{Keyword}
use Rattle.lua_names.specs.declared.keyword.Keyword.TheVariants.{And, Break, Do, Else, Elseif, End, False, For, Function, Goto, If, In, Local, Nil, Not, Or, Repeat, Return, Then, True, Until, While}

-- how a keyword is spelled
abbrev pub keyword_bytes : Keyword → List ℕ
keyword_bytes And = codes "and"
keyword_bytes Break = codes "break"
keyword_bytes Do = codes "do"
keyword_bytes Else = codes "else"
keyword_bytes Elseif = codes "elseif"
keyword_bytes End = codes "end"
keyword_bytes False = codes "false"
keyword_bytes For = codes "for"
keyword_bytes Function = codes "function"
keyword_bytes Goto = codes "goto"
keyword_bytes If = codes "if"
keyword_bytes In = codes "in"
keyword_bytes Local = codes "local"
keyword_bytes Nil = codes "nil"
keyword_bytes Not = codes "not"
keyword_bytes Or = codes "or"
keyword_bytes Repeat = codes "repeat"
keyword_bytes Return = codes "return"
keyword_bytes Then = codes "then"
keyword_bytes True = codes "true"
keyword_bytes Until = codes "until"
keyword_bytes While = codes "while"

abbrev pub all_keywords : List Keyword
all_keywords =
    And ∷ Break ∷ Do ∷ Else ∷ Elseif ∷ End ∷ False ∷ For ∷ Function ∷ Goto ∷ If ∷ In
    ∷ Local ∷ Nil ∷ Not ∷ Or ∷ Repeat ∷ Return ∷ Then ∷ True ∷ Until ∷ While ∷ []

-- the keyword that the bytes spell, if they spell one
unfoldable pub keyword_of : List ℕ → Option Keyword
keyword_of bytes = find (λ keyword. bytes_eq bytes (keyword_bytes keyword)) all_keywords

abbrev pub is_keyword : List ℕ → Bool
is_keyword bytes = is_some (keyword_of bytes)
