-- Each global has a name that was assigned.
use Rattle.std.proofs.Common.{◌≡◌, inl, inr, ℕ, is_some, List, [], ◌∷◌, Option, Some, None, Ok, refl, subst}
use Rattle.std.specs.Ordering.{is_eq}
use Rattle.lua_syntax.specs.declared.tree.LuaChunk.{LuaChunk}
use Rattle.lua_syntax.specs.declared.tree.Named.{Named}
use Rattle.lua_syntax.specs.declared.tree.Statement.{Statement}
use Rattle.lua_syntax.specs.declared.tree.Statement.TheVariants as statements
use Rattle.lua_syntax.specs.Trees.{Trees, trees}
use Rattle.lua_value.specs.declared.key.Key.{Key}
use Rattle.lua_value.specs.declared.key.Key.TheVariants.{Text}
use Rattle.lua_value.specs.Key.{key_cmp}
use Rattle.lua_value.specs.Pairs.{Datum, Pairs, nil, truth_value, int_value, text_value, table_value, no_pairs, with_pair, put}
use Rattle.lua_value.proofs.Puts.{by_order}
use Rattle.lua_scope.specs.Globals.{without, with_global}
use Rattle.lua_scope.specs.Locals.{latest}
use Rattle.lua_eval.specs.Laws.{EachKey, IsOneOf, IsAssigned}
use Rattle.lua_eval.specs.Names.{paired, twice}
use Rattle.lua_eval.specs.Values.{State, assign, assigned, assign_all, summed, with_locals, values_in, run_statement, run, start, value_of}
use Rattle.lua_eval.proofs.Kept.{by_test}
use Rattle.lua_eval.proofs.Runs.{last-state}
use Rattle.lua_eval.proofs.Sums.{and_then-ok}

-- ---- one global

put-keyed : (P : List ℕ → Type 0) (name : List ℕ) (value : Datum) (ps : Pairs) → P name → EachKey P ps → EachKey P (put (Text name) value ps)
put-keyed P name value no_pairs h each = ((name, refl, h), tt)
put-keyed P name value (with_pair first old rest) h each =
    by_order (EachKey P) (key_cmp (Text name) first) _ _ _
    (λ _. ((name, refl, h), each))
    (λ _. ((name, refl, h), each.1))
    (λ _. (each.0, put-keyed P name value rest h each.1))

without-keyed : (P : List ℕ → Type 0) (key : Key) (ps : Pairs) → EachKey P ps → EachKey P (without key ps)
without-keyed P key no_pairs each = tt
without-keyed P key (with_pair first old rest) each = by_test (EachKey P) (is_eq (key_cmp key first)) _ _ each.1 (each.0, without-keyed P key rest each.1)

with_global-keyed : (P : List ℕ → Type 0) (name : List ℕ) (value : Datum) (ps : Pairs) → P name → EachKey P ps → EachKey P (with_global name value ps)
with_global-keyed P name nil ps h each = without-keyed P (Text name) ps each
with_global-keyed P name (truth_value b) ps h each = put-keyed P name (truth_value b) ps h each
with_global-keyed P name (int_value n) ps h each = put-keyed P name (int_value n) ps h each
with_global-keyed P name (text_value bytes) ps h each = put-keyed P name (text_value bytes) ps h each
with_global-keyed P name (table_value inner) ps h each = put-keyed P name (table_value inner) ps h each

-- ---- states

assigned-keyed : (P : List ℕ → Type 0) (name : List ℕ) (value : Datum) (state : State) → P name → EachKey P state.globals → EachKey P (assigned name value state).globals
assigned-keyed P name value state h each =
    by_test (λ (next : State). EachKey P next.globals) (is_some (latest name state.locals)) _ _ each (with_global-keyed P name value state.globals h each)

assign_all-keyed : (P : List ℕ → Type 0) (names : List Named) (values : List Datum) (state : State) → ((name : List ℕ) → IsOneOf names name → P name) → EachKey P state.globals → EachKey P (assign_all (paired names values) state).globals
assign_all-keyed P [] values state h each = each
assign_all-keyed P (named ∷ names) [] state h each =
    assign_all-keyed P names [] (assigned named.name nil state) (λ name is. h name (inr is)) (assigned-keyed P named.name nil state (h named.name (inl refl)) each)
assign_all-keyed P (named ∷ names) (value ∷ values) state h each =
    assign_all-keyed P names values (assigned named.name value state) (λ name is. h name (inr is)) (assigned-keyed P named.name value state (h named.name (inl refl)) each)

assign-keyed : (P : List ℕ → Type 0) (place : Option ℕ) (names : List Named) (values : Trees) (state next : State) → ((name : List ℕ) → IsOneOf names name → P name) → EachKey P state.globals → assign place names values state ≡ Ok next → EachKey P next.globals
assign-keyed P (Some place) names values state next h each e = absurd (cc)
assign-keyed P None names values state next h each e =
    let first = and_then-ok (values_in state values) _ next e in
    let same : assign_all (paired names first.0.0) (summed state first.0.1) ≡ next = cc in
    subst (λ (one : State). EachKey P one.globals) same (assign_all-keyed P names first.0.0 (summed state first.0.1) h each)

run-keyed : (P : List ℕ → Type 0) (all : List Statement) (state last : State) → ((name : List ℕ) → IsAssigned all name → P name) → EachKey P state.globals → run all state ≡ Ok last → EachKey P last.globals
run-keyed P [] state last h each e = let same : state ≡ last = cc in subst (λ (one : State). EachKey P one.globals) same each
run-keyed P (statements.Assign names values ∷ rest) state last h each e =
    let first = and_then-ok (assign (twice [] names) names (trees values) state) (run rest) last e in
    run-keyed P rest first.0 last (λ name is. h name (inr is)) (assign-keyed P (twice [] names) names (trees values) state first.0 (λ name is. h name (inl is)) each first.1) first.2
run-keyed P (statements.Local names values ∷ rest) state last h each e =
    let first = and_then-ok (run_statement (statements.Local names values) state) (run rest) last e in
    let found = and_then-ok (values_in state (trees values)) _ first.0 first.1 in
    let same : with_locals (summed state found.0.1) (paired names found.0.0) ≡ first.0 = cc in
    run-keyed P rest first.0 last h (subst (λ (one : State). EachKey P one.globals) same each) first.2

-- ---- chunks

pub globals-keyed : (chunk : LuaChunk) (globals : Pairs) → value_of chunk ≡ Ok globals → EachKey (IsAssigned chunk.statements) globals
globals-keyed chunk globals e =
    let last = last-state chunk globals e in
    subst (EachKey (IsAssigned chunk.statements)) last.2 (run-keyed (IsAssigned chunk.statements) chunk.statements start last.0 (λ name is. is) tt last.1)
