-- What statements leave of a state that is kept, and runs in two parts.
use Rattle.std.proofs.Common.{◌≡◌, ℕ, ◌≤◌, List, [], ◌∷◌, ◌++◌, Option, Some, None, Result, Ok, Err, refl, sym, ap, ◌∙◌, subst, arith}
use Rattle.std.specs.List.{AllByRecursion}
use Rattle.lua_syntax.specs.declared.tree.LuaChunk.{LuaChunk}
use Rattle.lua_syntax.specs.declared.tree.Named.{Named}
use Rattle.lua_syntax.specs.declared.tree.Statement.{Statement}
use Rattle.lua_syntax.specs.declared.tree.Statement.TheVariants as statements
use Rattle.lua_syntax.specs.Trees.{Trees, trees}
use Rattle.lua_value.specs.Depth.{value_depth, depth}
use Rattle.lua_value.specs.Ordered.{IsServed, IsOrdered}
use Rattle.lua_value.specs.Pairs.{Datum, Pairs}
use Rattle.lua_eval.specs.declared.fault.EvalFault.{EvalFault}
use Rattle.lua_eval.specs.declared.weight.TheConstants.{HEAVIEST, DEEPEST}
use Rattle.lua_eval.specs.Finding.{AreIntegersAmong}
use Rattle.lua_eval.specs.Joins.{and_then}
use Rattle.lua_eval.specs.Laws.{IsServedStatement, IsServedChunk, values_weight, IsKeptValue, IsKept}
use Rattle.lua_eval.specs.Names.{given, paired, twice}
use Rattle.lua_eval.specs.Values.{State, assign, assign_all, summed, with_locals, values_in, run_statement, run, start, value_of}
use Rattle.lua_eval.proofs.Kept.{given-served, assign_all-kept, assign_all-sum, paired-kept, appended-kept}
use Rattle.lua_eval.proofs.Served.{find_all-served}
use Rattle.lua_eval.proofs.Sums.{and_then-ok, find_all-within}

-- ---- kept states

start-kept : IsKept start
start-kept = record { locals = tt; ordered = tt; shallow = omega arith; weighed = omega arith; light = omega arith }

both-kept : (values : List Datum) → AllByRecursion IsServed values → AllByRecursion (λ value. value_depth value ≤ DEEPEST) values → AllByRecursion IsKeptValue values
both-kept [] served shallow = tt
both-kept (value ∷ values) served shallow = ((served.0, shallow.0), both-kept values served.1 shallow.1)

-- the values that a kept state gives
found-kept : (values : Trees) (state : State) (found : List Datum × ℕ) → AreIntegersAmong values → IsKept state → values_in state values ≡ Ok found → AllByRecursion IsKeptValue found.0
found-kept values state found integers kept e =
    both-kept found.0
    (find_all-served (given state.locals state.globals) (given-served state.locals state.globals kept.locals kept.ordered) values state.sum found integers e)
    (find_all-within (given state.locals state.globals) values state.sum found e).2

assign-kept : (place : Option ℕ) (names : List Named) (values : Trees) (state next : State) → AreIntegersAmong values → IsKept state → assign place names values state ≡ Ok next → IsKept next
assign-kept (Some place) names values state next integers kept e = absurd (cc)
assign-kept None names values state next integers kept e =
    let first = and_then-ok (values_in state values) _ next e in
    let found = first.0 in
    let last = assign_all (paired names found.0) (summed state found.1) in
    let same : last ≡ next = cc in
    let all_kept = found-kept values state found integers kept first.1 in
    let within = find_all-within (given state.locals state.globals) values state.sum found first.1 in
    let after = assign_all-kept names found.0 state.sum (summed state found.1) all_kept (kept.locals, (kept.ordered, kept.shallow, kept.weighed)) in
    let of_sum : last.sum ≡ found.1 = assign_all-sum (paired names found.0) (summed state found.1) in
    subst IsKept same (record { locals = after.0; ordered = after.1.0; shallow = after.1.1; weighed = omega (arith, after.1.2, within.0, of_sum); light = omega (arith, of_sum, within.1 kept.light) })

local-kept : (names : List Named) (values : Trees) (state next : State) (found : List Datum × ℕ) → AreIntegersAmong values → IsKept state → values_in state values ≡ Ok found → with_locals (summed state found.1) (paired names found.0) ≡ next → IsKept next
local-kept names values state next found integers kept is same =
    let all_kept = found-kept values state found integers kept is in
    let within = find_all-within (given state.locals state.globals) values state.sum found is in
    subst IsKept same (record { locals = appended-kept state.locals (paired names found.0) kept.locals (paired-kept names found.0 all_kept); ordered = kept.ordered; shallow = kept.shallow; weighed = omega (arith, kept.weighed, within.0); light = within.1 kept.light })

statement-kept : (statement : Statement) (state next : State) → IsServedStatement statement → IsKept state → run_statement statement state ≡ Ok next → IsKept next
statement-kept (statements.Assign names values) state next integers kept e = assign-kept (twice [] names) names (trees values) state next integers kept e
statement-kept (statements.Local names values) state next integers kept e =
    let first = and_then-ok (values_in state (trees values)) _ next e in
    let same : with_locals (summed state first.0.1) (paired names first.0.0) ≡ next = cc in
    local-kept names (trees values) state next first.0 integers kept first.1 same

run-kept : (all : List Statement) (state last : State) → AllByRecursion IsServedStatement all → IsKept state → run all state ≡ Ok last → IsKept last
run-kept [] state last integers kept e = let same : state ≡ last = cc in subst IsKept same kept
run-kept (statement ∷ rest) state last integers kept e =
    let first = and_then-ok (run_statement statement state) (run rest) last e in
    run-kept rest first.0 last integers.1 (statement-kept statement state first.0 integers.0 kept first.1) first.2

-- ---- two parts

-- one step after two is two after one
and_then-twice : {A B C : Type 0} (r : Result A EvalFault) (next : A → Result B EvalFault) (last : B → Result C EvalFault) → and_then (and_then r next) last ≡ and_then r (λ a. and_then (next a) last)
and_then-twice (Ok a) next last = refl
and_then-twice (Err fault) next last = refl

run-append : (first second : List Statement) (state : State) → run (first ++ second) state ≡ and_then (run first state) (run second)
run-append [] second state = refl
run-append (statement ∷ rest) second state =
    ap (and_then (run_statement statement state)) (λ i next. run-append rest second next i) ∙ sym (and_then-twice (run_statement statement state) (run rest) (run second))

-- ---- chunks

-- the state that a chunk's globals are those of
pub last-state : (chunk : LuaChunk) (globals : Pairs) → value_of chunk ≡ Ok globals → (last : State) × (run chunk.statements start ≡ Ok last) × (last.globals ≡ globals)
last-state chunk globals e =
    let ran = and_then-ok (run chunk.statements start) (λ state. Ok state.globals) globals e in
    let same : ran.0.globals ≡ globals = cc in
    (ran.0, ran.1, same)

pub globals-kept : (chunk : LuaChunk) (globals : Pairs) → IsServedChunk chunk → value_of chunk ≡ Ok globals → IsOrdered globals × (depth globals ≤ DEEPEST) × (values_weight globals ≤ HEAVIEST)
globals-kept chunk globals integers e =
    let last = last-state chunk globals e in
    let kept = run-kept chunk.statements start last.0 integers start-kept last.1 in
    subst (λ ps. IsOrdered ps × (depth ps ≤ DEEPEST) × (values_weight ps ≤ HEAVIEST)) last.2 (kept.ordered, kept.shallow, omega (arith, kept.weighed, kept.light))

pub value_of-append : (chunk : LuaChunk) (first second : List Statement) → chunk.statements ≡ first ++ second → value_of chunk ≡ and_then (run first start) (λ state. and_then (run second state) (λ last. Ok last.globals))
value_of-append chunk first second e =
    ap (λ all. and_then (run all start) (λ last. Ok last.globals)) e ∙ ap (λ ran. and_then ran (λ last. Ok last.globals)) (run-append first second start) ∙ and_then-twice (run first start) (run second) (λ last. Ok last.globals)
