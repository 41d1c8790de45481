-- Texts behind a name, constraint by constraint.
use Rattle.std.proofs.Common.{◌≡◌, ℕ, suc, ◌+◌, ◌<◌, ◌≤◌, List, [], ◌∷◌, ◌++◌, length, sym, ap, subst, ◌∙◌, true, Bool, arith, append_assoc, length-append, inl, inr}
use Rattle.std.specs.Prelude.{◌⊎◌}
use Rattle.std.proofs.lemmas.List.{append-nil}
use Rattle.rocks_version.specs.Texts.{body, has_form, has_revision, is_version, is_version_byte}
use Rattle.rocks_constraint.specs.declared.constraint.Constraint.{Constraint}
use Rattle.rocks_constraint.specs.declared.constraint.TheConstants.{MOST_CONSTRAINTS}
use Rattle.rocks_constraint.specs.declared.fault.DependencyFault.{DependencyFault}
use Rattle.rocks_constraint.specs.declared.fault.DependencyFault.TheVariants.{BadDependency}
use Rattle.rocks_constraint.specs.declared.reader.Wrong.{Wrong}
use Rattle.rocks_constraint.specs.declared.reader.Wrong.TheVariants as wrongs
use Rattle.rocks_constraint.specs.Alphabet.{may_part, is_operator_byte, is_blank, IsCut}
use Rattle.rocks_constraint.specs.Faults.{fault_at, HasWrongTail, here, later, IsNoConstraint, no_constraint, too_many}
use Rattle.rocks_constraint.specs.Grammar.{IsConstraintAt, IsTail, ended, goes_on}

pub cut_length : (test : ℕ → Bool) (text run rest : List ℕ) → IsCut test text run rest → length text ≡ length run + length rest
cut_length test text run rest cut = ap length cut.whole ∙ length-append run rest

one_longer : (cs more : List Constraint) (c : Constraint) → more ≡ cs ++ c ∷ [] → length more ≡ suc (length cs)
one_longer cs more c e = let size = length-append cs (c ∷ []) in let all = ap length e in omega arith

-- what the text reads as is, behind the constraints so far, what the whole reads as
abbrev pub Reads : (whole text : List ℕ) → List Constraint → Type 0
Reads whole text cs = (more : List Constraint) → IsTail (length cs) text more → IsTail 0 whole (cs ++ more)

-- the text's first wrong part is that of the whole
abbrev pub Fails : ℕ → List ℕ → ℕ → List ℕ → List Constraint → Type 0
Fails start whole place text cs = (fault : DependencyFault) → HasWrongTail (length cs) place text fault → HasWrongTail 0 start whole fault

-- the constraints so far are all
pub tail_ended : (whole text gap behind : List ℕ) (cs : List Constraint) → IsCut (may_part (length cs)) text gap behind → length behind ≡ 0 → Reads whole text cs → IsTail 0 whole cs
tail_ended whole text gap [] cs cut none reads =
    let same : gap ≡ text = sym (cut.whole ∙ append-nil gap) in
    subst (λ (l : List Constraint). IsTail 0 whole l) (append-nil cs)
    (reads [] (ended (length cs) text (subst (λ (g : List ℕ). IsCut (may_part (length cs)) text g []) same cut)))
tail_ended whole text gap (b ∷ behind) cs cut none reads = absurd (omega arith)

-- what stands behind the gap is one too many, or no constraint
module _ (start place : ℕ) (whole text gap behind : List ℕ) (cs : List Constraint) (cut : IsCut (may_part (length cs)) text gap behind) (some : 0 < length behind)
    (fails : Fails start whole place text cs) where
  pub tail_full : length cs ≡ MOST_CONSTRAINTS → HasWrongTail 0 start whole (BadDependency (place + length gap))
  tail_full full =
      let all : DependencyFault = BadDependency (place + length gap) in
      fails all (here (length cs) place text gap behind all cut (too_many (length cs) (place + length gap) behind full some))

  pub tail_wrong : (wrong : Wrong) → length cs < MOST_CONSTRAINTS → (wrong ≡ wrongs.NoMemory) ⊎ IsNoConstraint (place + length gap) behind (fault_at wrong)
      → (wrong ≡ wrongs.NoMemory) ⊎ HasWrongTail 0 start whole (fault_at wrong)
  tail_wrong wrong few cases =
      elim cases [
        | inl memory ↦ inl memory
        | inr bad ↦ inr (fails (fault_at wrong) (here (length cs) place text gap behind (fault_at wrong) cut (no_constraint (length cs) (place + length gap) behind (fault_at wrong) few some bad)))
      ]

-- a version is not empty, so a constraint isn't
version_some : (version : List ℕ) → is_version version ≡ true → 0 < length version
unfolding is_version has_form body has_revision
version_some [] h = cc
version_some (b ∷ bs) h = omega arith

pub constraint_shorter : (text : List ℕ) (c : Constraint) (rest : List ℕ) → IsConstraintAt text c rest → length rest < length text
constraint_shorter text c rest one =
    let first = cut_length is_operator_byte text one.operator_run one.behind one.cut_operator in
    let second = cut_length is_blank one.behind one.blanks one.from_version one.cut_blanks in
    let third = cut_length is_version_byte one.from_version c.version rest one.cut_version in
    let some = version_some c.version one.version in
    omega arith

-- a constraint more
module _ (whole text gap behind rest : List ℕ) (cs after : List Constraint) (c : Constraint) (few : length cs < MOST_CONSTRAINTS)
    (cut : IsCut (may_part (length cs)) text gap behind) (one : IsConstraintAt behind c rest) (is_after : after ≡ cs ++ c ∷ []) where
  pub reads_more : Reads whole text cs → Reads whole rest after
  reads_more reads more tail =
      let next : IsTail (suc (length cs)) rest more = subst (λ (n : ℕ). IsTail n rest more) (one_longer cs after c is_after) tail in
      subst (λ (l : List Constraint). IsTail 0 whole l) (sym (append_assoc cs (c ∷ []) more) ∙ ap (λ (l : List Constraint). l ++ more) (sym is_after))
      (reads (c ∷ more) (goes_on (length cs) text gap behind rest c more few cut one next))

  pub fails_more : (start place next : ℕ) → next + length rest ≡ place + length text
      → Fails start whole place text cs → Fails start whole next rest after
  fails_more start place next same fails fault wrong =
      let tail : HasWrongTail (suc (length cs)) next rest fault = subst (λ (n : ℕ). HasWrongTail n next rest fault) (one_longer cs after c is_after) wrong in
      fails fault (later (length cs) place next text gap behind rest c fault few cut one same tail)

  pub few_more : length after ≤ MOST_CONSTRAINTS
  few_more = let size = one_longer cs after c is_after in omega arith
