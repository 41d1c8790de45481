-- How many brackets are open behind the parts of a list.
use Rattle.std.proofs.Common.{◌≡◌, ℕ, ◌+◌, ◌<◌, ◌≤◌, List, [], ◌∷◌, ◌++◌, refl, sym, ap, subst, ◌∙◌, append_assoc, arith}
use Rattle.std.specs.Prelude.{IsTrue}
use Rattle.lua_lexer.specs.declared.token.Token.{Token}
use Rattle.lua_syntax.specs.declared.tree.Named.{Named}
use Rattle.lua_syntax.specs.Brackets.{is_opening, open_after, open_behind, IsLow, IsShallow, Keeps}
use Rattle.lua_syntax.specs.Grammar.{IsNames, one_name, more_names}
use Rattle.lua_syntax.specs.Reading.{HeadsName}

pub open_behind-append : (depth : ℕ) (a b : List Token) → open_behind depth (a ++ b) ≡ open_behind (open_behind depth a) b
open_behind-append depth [] b = refl
open_behind-append depth (token ∷ a) b = open_behind-append (open_after depth token.kind) a b

pub low-append : (depth : ℕ) (a b : List Token) → IsLow depth a → IsLow (open_behind depth a) b → IsLow depth (a ++ b)
low-append depth [] b low more = more
low-append depth (token ∷ a) b low more = (low.0, low-append (open_after depth token.kind) a b low.1 more)

low_front : (depth : ℕ) (a b : List Token) → IsLow depth (a ++ b) → IsLow depth a
low_front depth [] b low = tt
low_front depth (token ∷ a) b low = (low.0, low_front (open_after depth token.kind) a b low.1)

pub low_open : (depth : ℕ) (a : List Token) → depth ≤ 100 → IsLow depth a → open_behind depth a ≤ 100
low_open depth [] most low = most
low_open depth (token ∷ a) most low = low_open (open_after depth token.kind) a low.0 low.1

pub low_shallow : (tokens : List Token) → IsLow 0 tokens → IsShallow tokens
low_shallow tokens low front rest cut =
    low_open 0 front (omega arith) (low_front 0 front rest (subst (λ (l : List Token). IsLow 0 l) cut low))

-- ---- parts that close what they open

pub keeps_none : (depth : ℕ) (tokens : List Token) → Keeps depth tokens tokens
keeps_none depth tokens = record { front = []; cut = refl; low = tt; level = refl }

pub keeps_then : (depth : ℕ) (tokens mid rest : List Token) → Keeps depth tokens mid → Keeps depth mid rest → Keeps depth tokens rest
keeps_then depth tokens mid rest one other = record {
  front = one.front ++ other.front;
  cut = one.cut ∙ ap (λ (l : List Token). one.front ++ l) other.cut ∙ sym (append_assoc one.front other.front rest);
  low = low-append depth one.front other.front one.low (subst (λ (d : ℕ). IsLow d other.front) (sym one.level) other.low);
  level = open_behind-append depth one.front other.front ∙ ap (λ (d : ℕ). open_behind d other.front) one.level ∙ other.level;
}

-- a token that is no bracket
pub keeps_token : (depth : ℕ) (tokens : List Token) (token : Token) (rest : List Token) → depth ≤ 100 → tokens ≡ token ∷ rest
    → open_after depth token.kind ≡ depth → Keeps depth tokens rest
keeps_token depth tokens token rest most cut same = record {
  front = token ∷ [];
  cut = cut;
  low = (subst (λ (d : ℕ). d ≤ 100) (sym same) most, tt);
  level = same;
}

pub keeps_name : (depth : ℕ) (tokens : List Token) (named : Named) (rest : List Token) → depth ≤ 100 → HeadsName tokens named rest → Keeps depth tokens rest
keeps_name depth tokens named rest most h = keeps_token depth tokens h.token rest most h.cut (ap (open_after depth) h.is.0)

-- an opening bracket, what stands in it, and a closing one
pub keeps_bracket : (depth : ℕ) (opening : Token) (tokens mid : List Token) (closing : Token) (rest : List Token) → depth < 100
    → IsTrue (is_opening opening.kind) → Keeps (depth + 1) tokens mid → mid ≡ closing ∷ rest → open_after (depth + 1) closing.kind ≡ depth
    → Keeps depth (opening ∷ tokens) rest
keeps_bracket depth opening tokens mid closing rest below opens inside cut closes =
    let up : open_after depth opening.kind ≡ depth + 1 = grind arith in
    let inner : List Token = inside.front ++ closing ∷ [] in
    let level : open_behind (depth + 1) inner ≡ depth = open_behind-append (depth + 1) inside.front (closing ∷ []) ∙ ap (λ (d : ℕ). open_after d closing.kind) inside.level ∙ closes in
    let low : IsLow (depth + 1) inner = low-append (depth + 1) inside.front (closing ∷ []) inside.low
    (subst (λ (d : ℕ). IsLow d (closing ∷ [])) (sym inside.level) (subst (λ (d : ℕ). d ≤ 100) (sym closes) (omega arith), tt)) in
    record {
      front = opening ∷ inner;
      cut = ap (λ (l : List Token). opening ∷ l) (inside.cut ∙ ap (λ (l : List Token). inside.front ++ l) cut ∙ sym (append_assoc inside.front (closing ∷ []) rest));
      low = (subst (λ (d : ℕ). d ≤ 100) (sym up) (omega arith), subst (λ (d : ℕ). IsLow d inner) (sym up) low);
      level = ap (λ (d : ℕ). open_behind d inner) up ∙ level;
    }

-- names and commas
pub names_low : (depth : ℕ) (tokens : List Token) (names : List Named) → depth ≤ 100 → IsNames tokens names → IsLow depth tokens × (open_behind depth tokens ≡ depth)
names_low depth tokens names most (one_name token bytes is) =
    let same : open_after depth token.kind ≡ depth = ap (open_after depth) is.0 in
    ((subst (λ (d : ℕ). d ≤ 100) (sym same) most, tt), same)
names_low depth tokens names most (more_names token comma bytes {tokens = more} {others} is separates then') =
    let same : open_after depth token.kind ≡ depth = ap (open_after depth) is.0 in
    let kept : open_after depth comma.kind ≡ depth = ap (open_after depth) separates in
    let both : open_after (open_after depth token.kind) comma.kind ≡ depth = ap (λ (d : ℕ). open_after d comma.kind) same ∙ kept in
    let rest = names_low depth more others most then' in (
      (
        subst (λ (d : ℕ). d ≤ 100) (sym same) most,
        (subst (λ (d : ℕ). d ≤ 100) (sym both) most, subst (λ (d : ℕ). IsLow d more) (sym both) rest.0),
      ),
      ap (λ (d : ℕ). open_behind d more) both ∙ rest.1,
    )
