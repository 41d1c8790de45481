use Rattle.std.proofs.Common.{◌++◌, ◌∷◌, [], ℕ, List, ap, sym, ◌∙◌, arith, map, take}
use Rattle.std.proofs.lemmas.List.{map-append}
use Rattle.std.specs.Borrow.{Bor}
use Rattle.build_plan.specs.Entries.{bytes_of}
use Rattle.lua_value.specs.declared.key.Key.{Key}
use Rattle.lua_value.specs.Pairs.{Datum, Pairs, listed}
use Rattle.lua_value.specs.View.{datum}
use Rattle.rockspec.proofs.Texts.{texts_next, texts_all}
use Rattle.rockspec.proofs.fields.texts_of.Goals as goal

-- what references to texts point to
now_of : List (Bor (List ℕ)) → List (List ℕ)
now_of texts = map (λ text. text.now) texts

-- the texts up to a place
up_to : ℕ → Pairs → List (List ℕ)
up_to at ps = map (λ (pair : Key × Datum). bytes_of pair.1) (take at (listed ps))

pub loop-at-preserved : goal.loop-at-preserved
loop-at-preserved c =
    let ps = c.args.list.now in
    let at = c.loop-at.at in
    let text = c.bytes_of.result in
    let value = datum c.entry_at.result.1.now in
    ap (map (λ (text : Bor (List ℕ)). text.now)) c.in_ok-push.ensures.items
    ∙ map-append (λ (text : Bor (List ℕ)). text.now) c.loop-at.texts.items (text ∷ [])
    ∙ ap (λ (texts : List (List ℕ)). texts ++ text.now ∷ []) c.loop-at.invariant
    ∙ ap (λ (bytes : List ℕ). map (λ (pair : Key × Datum). bytes_of pair.1) (take at (listed ps)) ++ bytes ∷ []) c.bytes_of.ensures
    ∙ sym (texts_next ps at c.entry_at.result.0.now value c.entry_at.ensures.entry)

pub returns : goal.returns
returns c = c.loop-at.invariant ∙ texts_all c.args.list.now c.loop-at.at (omega (arith, c.len-at-end.ensures, c.loop-at-test.false))
