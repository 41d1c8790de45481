-- A text has one outcome at most, and it has one.
use Rattle.std.proofs.Common.{◌≡◌, ◌≢◌, ◌⊎◌, inl, inr, ℕ, List, Result, Ok, Err, refl, sym, ap, subst, ◌∙◌}
use Rattle.lua_lexer.specs.declared.fault.LexFault.{LexFault}
use Rattle.lua_lexer.specs.declared.fault.LexFault.TheVariants as lex
use Rattle.lua_lexer.specs.declared.token.Token.{Token}
use Rattle.lua_lexer.specs.Faults.{HasFault as HasLexFault}
use Rattle.lua_lexer.specs.Spelling.{Spells}
use Rattle.lua_lexer.proofs.Lexing.{spells_ends}
use Rattle.lua_lexer.proofs.Whole as lists
use Rattle.lua_syntax.specs.declared.fault.SyntaxFault.{SyntaxFault}
use Rattle.lua_syntax.specs.declared.fault.SyntaxFault.TheVariants as syntax
use Rattle.lua_syntax.specs.declared.tree.LuaChunk.{LuaChunk}
use Rattle.lua_syntax.specs.Chunks.{Derives}
use Rattle.lua_syntax.specs.Faults.{HasFault as HasSyntaxFault}
use Rattle.lua_syntax.proofs.Faulty as faulty
use Rattle.lua_syntax.proofs.TakenChunks.{one_tree}
use Rattle.lua_value.specs.Pairs.{Pairs}
use Rattle.lua_eval.specs.declared.fault.EvalFault.{EvalFault}
use Rattle.lua_eval.specs.declared.fault.EvalFault.TheVariants as eval
use Rattle.lua_eval.specs.Finding.{IsFaultOf}
use Rattle.lua_eval.specs.Values.{value_of}
use Rattle.lua_eval.proofs.Faults.{definite-chunk}
use Rattle.lua_text.specs.declared.fault.EvalFailed.{EvalFailed}
use Rattle.lua_text.specs.declared.fault.EvalFailed.TheVariants.{Lex, Syntax, Eval}
use Rattle.lua_text.specs.Outcomes.{HasOutcome, IsOfText, evaluated, faulty as fails, underived, unspelled}

abbrev Outcome : Type 0
Outcome = Result Pairs EvalFailed

-- what an evaluated chunk leaves of a text
abbrev told : Result Pairs EvalFault → Outcome
told (Ok globals) = Ok globals
told (Err fault) = Err (Eval fault)

-- the outcome of a text that spells tokens of a chunk is what the chunk comes to
of_chunk : (text : List ℕ) (tokens : List Token) (chunk : LuaChunk) (outcome : Outcome) → Spells text tokens → Derives tokens chunk → HasOutcome text outcome → told (value_of chunk) ≡ outcome
of_chunk text tokens chunk outcome spells derives (evaluated others other globals spelled derived e) =
    let derived_too : Derives tokens other = subst (λ (l : List Token). Derives l other) (lists.one_list text others tokens spelled spells) derived in
    let same : chunk ≡ other = one_tree tokens chunk other derives.0 derived_too.0 in
    ap told (ap value_of same ∙ e)
of_chunk text tokens chunk outcome spells derives (fails others other fault spelled derived e) =
    let derived_too : Derives tokens other = subst (λ (l : List Token). Derives l other) (lists.one_list text others tokens spelled spells) derived in
    let same : chunk ≡ other = one_tree tokens chunk other derives.0 derived_too.0 in
    ap told (ap value_of same ∙ e)
of_chunk text tokens chunk outcome spells derives (underived others fault spelled wrong) =
    absurd (faulty.not_both tokens chunk fault derives (subst (λ (l : List Token). HasSyntaxFault l fault) (lists.one_list text others tokens spelled spells) wrong))
of_chunk text tokens chunk outcome spells derives (unspelled fault wrong) = absurd (lists.not_both text tokens fault spells wrong)

-- that of a text that spells tokens of no chunk is their fault
of_tokens : (text : List ℕ) (tokens : List Token) (fault : SyntaxFault) (outcome : Outcome) → Spells text tokens → HasSyntaxFault tokens fault → HasOutcome text outcome → Err (Syntax fault) ≡ outcome
of_tokens text tokens fault outcome spells wrong (evaluated others other globals spelled derived e) =
    absurd (faulty.not_both tokens other fault (subst (λ (l : List Token). Derives l other) (lists.one_list text others tokens spelled spells) derived) wrong)
of_tokens text tokens fault outcome spells wrong (fails others other found spelled derived e) =
    absurd (faulty.not_both tokens other fault (subst (λ (l : List Token). Derives l other) (lists.one_list text others tokens spelled spells) derived) wrong)
of_tokens text tokens fault outcome spells wrong (underived others found spelled is) =
    let same : fault ≡ found =
    faulty.one_fault tokens fault found wrong (subst (λ (l : List Token). HasSyntaxFault l found) (lists.one_list text others tokens spelled spells) is) in
    ap (λ (f : SyntaxFault). Err (Syntax f)) same
of_tokens text tokens fault outcome spells wrong (unspelled found is) = absurd (lists.not_both text tokens found spells is)

-- that of a text that spells no tokens is its fault
of_text : (text : List ℕ) (fault : LexFault) (outcome : Outcome) → HasLexFault text fault → HasOutcome text outcome → Err (Lex fault) ≡ outcome
of_text text fault outcome wrong (evaluated tokens chunk globals spelled derived e) = absurd (lists.not_both text tokens fault spelled wrong)
of_text text fault outcome wrong (fails tokens chunk found spelled derived e) = absurd (lists.not_both text tokens fault spelled wrong)
of_text text fault outcome wrong (underived tokens found spelled is) = absurd (lists.not_both text tokens fault spelled wrong)
of_text text fault outcome wrong (unspelled found is) = ap (λ (f : LexFault). Err (Lex f)) (lists.one_fault text fault found wrong is)

-- a text has one outcome at most
pub one_outcome : (text : List ℕ) (one other : Outcome) → HasOutcome text one → HasOutcome text other → one ≡ other
one_outcome text one other (evaluated tokens chunk globals spells derives e) is = sym (ap told e) ∙ of_chunk text tokens chunk other spells derives is
one_outcome text one other (fails tokens chunk fault spells derives e) is = sym (ap told e) ∙ of_chunk text tokens chunk other spells derives is
one_outcome text one other (underived tokens fault spells wrong) is = of_tokens text tokens fault other spells wrong is
one_outcome text one other (unspelled fault wrong) is = of_text text fault other wrong is

-- ---- faults that are no want of memory

-- that of a text with no tokens
pub unspelled_outcome : (text : List ℕ) (fault : LexFault) (failed : EvalFailed) → (fault ≡ lex.NoMemory) ⊎ HasLexFault text fault → (failed ≡ Lex fault) × (fault ≢ lex.NoMemory) → HasOutcome text (Err failed)
unspelled_outcome text fault failed (inl no_memory) is = absurd (is.1 no_memory)
unspelled_outcome text fault failed (inr wrong) is = rw is.0 (unspelled fault wrong)

-- that of tokens that derive no chunk
pub underived_outcome : (text : List ℕ) (tokens : List Token) (fault : SyntaxFault) (failed : EvalFailed) → Spells text tokens → (fault ≡ syntax.NoMemory) ⊎ HasSyntaxFault tokens fault → (failed ≡ Syntax fault) × (fault ≢ syntax.NoMemory) → HasOutcome text (Err failed)
underived_outcome text tokens fault failed spells (inl no_memory) is = absurd (is.1 no_memory)
underived_outcome text tokens fault failed spells (inr wrong) is = rw is.0 (underived tokens fault spells wrong)

-- that of a chunk
pub faulty_outcome : (text : List ℕ) (tokens : List Token) (chunk : LuaChunk) (fault : EvalFault) (failed : EvalFailed) → Spells text tokens → Derives tokens chunk → IsFaultOf (value_of chunk) fault → (failed ≡ Eval fault) × (fault ≢ eval.NoMemory) → HasOutcome text (Err failed)
faulty_outcome text tokens chunk fault failed spells derives (inl no_memory) is = absurd (is.1 no_memory)
faulty_outcome text tokens chunk fault failed spells derives (inr e) is = rw is.0 (fails tokens chunk fault spells derives e)

-- ---- there is one

-- what the chunk comes to
chunk_outcome : (text : List ℕ) (tokens : List Token) (chunk : LuaChunk) → Spells text tokens → Derives tokens chunk → (outcome : Outcome) × HasOutcome text outcome
chunk_outcome text tokens chunk spells derives = by_value (value_of chunk) refl
  where
    by_value : (value : Result Pairs EvalFault) → value_of chunk ≡ value → (outcome : Outcome) × HasOutcome text outcome
    by_value (Ok globals) e = (Ok globals, evaluated tokens chunk globals spells derives e)
    by_value (Err fault) e = (Err (Eval fault), fails tokens chunk fault spells derives e)

tokens_outcome : (text : List ℕ) (tokens : List Token) → Spells text tokens → (outcome : Outcome) × HasOutcome text outcome
tokens_outcome text tokens spells = elim (faulty.some tokens (spells_ends text tokens spells)) [
  | inl found ↦ chunk_outcome text tokens found.0 spells found.1
  | inr found ↦ (Err (Syntax found.0), underived tokens found.0 spells found.1)
]

-- every text has an outcome
pub some_outcome : (text : List ℕ) → (outcome : Outcome) × HasOutcome text outcome
some_outcome text = elim (lists.either text) [
  | inl found ↦ tokens_outcome text found.0 found.1
  | inr found ↦ (Err (Lex found.0), unspelled found.0 found.1)
]

-- ---- faults

-- a fault among outcomes is the text's
abbrev IsOwn : Outcome → Type 0
IsOwn (Ok globals) = Unit {0}
IsOwn (Err fault) = IsOfText fault

own_outcome : (text : List ℕ) (outcome : Outcome) → HasOutcome text outcome → IsOwn outcome
own_outcome text outcome (evaluated tokens chunk globals spells derives e) = tt
own_outcome text outcome (fails tokens chunk fault spells derives e) = λ same. definite-chunk chunk (e ∙ ap (λ (f : EvalFault). Err f) same)
own_outcome text outcome (underived tokens fault spells wrong) = λ same. subst (HasSyntaxFault tokens) same wrong
own_outcome text outcome (unspelled fault wrong) = λ same. subst (HasLexFault text) same wrong

pub own_fault : (text : List ℕ) (fault : EvalFailed) → HasOutcome text (Err fault) → IsOfText fault
own_fault text fault is = own_outcome text (Err fault) is
