-- The trees of expressions, case by case.
use Rattle.std.proofs.Common.{◌≡◌, ◌⊎◌, inl, inr, ℕ, Bool, List, [], ◌∷◌, map, Option, Some, None, refl, sym, ap, ◌∙◌}
use Rattle.lua_syntax.specs.declared.tree.Expr.{Expr}
use Rattle.lua_syntax.specs.declared.tree.ExprKind.{ExprKind}
use Rattle.lua_syntax.specs.declared.tree.ExprKind.TheOpen as layers
use Rattle.lua_syntax.specs.declared.tree.ExprKind.TheVariants as exprs
use Rattle.lua_syntax.specs.declared.tree.ExprKind.TheVariants.{rolls-Nil, rolls-Bool, rolls-Int, rolls-Text, rolls-Name, rolls-Index, rolls-Concat, rolls-Table}
use Rattle.lua_syntax.specs.declared.tree.ExprKind.TheFolds.{fold-ExprKind, fold-Suffix, fold-FieldKey, fold-roll-ExprKind, fold_out-Expr, fold-roll-FieldKey, fold_out-Suffix, fold_out-Field}
use Rattle.lua_syntax.specs.declared.tree.FieldKey.{FieldKey}
use Rattle.lua_syntax.specs.declared.tree.FieldKey.TheVariants as field_keys
use Rattle.lua_syntax.specs.declared.tree.FieldKey.TheVariants.{rolls-Position, rolls-Given}
use Rattle.lua_syntax.specs.declared.tree.Suffix.{Suffix}
use Rattle.lua_syntax.specs.declared.tree.Field.{Field}
use Rattle.lua_syntax.specs.Trees.{Tree, Fields, Suffixes, nil, truth, int, text, name, index, concat, table, with_position, with_key, no_fields, no_suffixes, with_suffix, with_tree, kind_step, key_step, expr_step, field_step, suffix_step, with_field, stacked, trees_of, tree, suffixes, trees, field, fields}

abbrev of_kind : ExprKind → ℕ → Tree
of_kind = fold-ExprKind (ℕ → Tree) (Option Tree) Tree (Fields → Fields) (Suffixes → Suffixes) kind_step key_step expr_step field_step suffix_step

abbrev of_key : FieldKey → Option Tree
of_key = fold-FieldKey (ℕ → Tree) (Option Tree) Tree (Fields → Fields) (Suffixes → Suffixes) kind_step key_step expr_step field_step suffix_step

abbrev of_suffix : Suffix → Suffixes → Suffixes
of_suffix = fold-Suffix (ℕ → Tree) (Option Tree) Tree (Fields → Fields) (Suffixes → Suffixes) kind_step key_step expr_step field_step suffix_step

-- ---- members of lists

of_suffix-tree : (s : Suffix) → of_suffix s ≡ with_suffix s.place (tree s.key)
of_suffix-tree = fold_out-Suffix (ℕ → Tree) (Option Tree) Tree (Fields → Fields) (Suffixes → Suffixes) kind_step key_step expr_step field_step suffix_step

of_suffixes : (ss : List Suffix) → stacked no_suffixes (map of_suffix ss) ≡ suffixes ss
of_suffixes [] = refl
of_suffixes (s ∷ ss) = ap (λ f. f (stacked no_suffixes (map of_suffix ss))) (of_suffix-tree s) ∙ ap (with_suffix s.place (tree s.key)) (of_suffixes ss)

of_operands : (es : List Expr) → trees_of (map tree es) ≡ trees es
of_operands [] = refl
of_operands (e ∷ es) = ap (with_tree (tree e)) (of_operands es)

of_fields : (fs : List Field) → stacked no_fields (map field fs) ≡ fields fs
of_fields [] = refl
of_fields (f ∷ fs) = ap (field f) (of_fields fs)

-- ---- expressions

-- the tree of an expression is that of its kind, at its place
of_kind-tree : (e : Expr) → tree e ≡ of_kind e.kind e.place
of_kind-tree = fold_out-Expr (ℕ → Tree) (Option Tree) Tree (Fields → Fields) (Suffixes → Suffixes) kind_step key_step expr_step field_step suffix_step

pub tree-nil : (e : Expr) → e.kind ≡ exprs.Nil → tree e ≡ nil e.place
tree-nil e is =
    of_kind-tree e ∙ ap (λ k. of_kind k e.place) (is ∙ sym (rolls-Nil))
    ∙ ap (λ f. f e.place) (fold-roll-ExprKind (ℕ → Tree) (Option Tree) Tree (Fields → Fields) (Suffixes → Suffixes) kind_step key_step expr_step field_step suffix_step (layers.Nil))

pub tree-truth : (e : Expr) (b : Bool) → e.kind ≡ exprs.Bool b → tree e ≡ truth e.place b
tree-truth e b is =
    of_kind-tree e ∙ ap (λ k. of_kind k e.place) (is ∙ sym (rolls-Bool b))
    ∙ ap (λ f. f e.place) (fold-roll-ExprKind (ℕ → Tree) (Option Tree) Tree (Fields → Fields) (Suffixes → Suffixes) kind_step key_step expr_step field_step suffix_step (layers.Bool b))

pub tree-int : (e : Expr) (n : ℕ) → e.kind ≡ exprs.Int n → tree e ≡ int e.place n
tree-int e n is =
    of_kind-tree e ∙ ap (λ k. of_kind k e.place) (is ∙ sym (rolls-Int n))
    ∙ ap (λ f. f e.place) (fold-roll-ExprKind (ℕ → Tree) (Option Tree) Tree (Fields → Fields) (Suffixes → Suffixes) kind_step key_step expr_step field_step suffix_step (layers.Int n))

pub tree-text : (e : Expr) (bytes : List ℕ) → e.kind ≡ exprs.Text bytes → tree e ≡ text e.place bytes
tree-text e bytes is =
    of_kind-tree e ∙ ap (λ k. of_kind k e.place) (is ∙ sym (rolls-Text bytes))
    ∙ ap (λ f. f e.place) (fold-roll-ExprKind (ℕ → Tree) (Option Tree) Tree (Fields → Fields) (Suffixes → Suffixes) kind_step key_step expr_step field_step suffix_step (layers.Text bytes))

pub tree-name : (e : Expr) (bytes : List ℕ) → e.kind ≡ exprs.Name bytes → tree e ≡ name e.place bytes
tree-name e bytes is =
    of_kind-tree e ∙ ap (λ k. of_kind k e.place) (is ∙ sym (rolls-Name bytes))
    ∙ ap (λ f. f e.place) (fold-roll-ExprKind (ℕ → Tree) (Option Tree) Tree (Fields → Fields) (Suffixes → Suffixes) kind_step key_step expr_step field_step suffix_step (layers.Name bytes))

pub tree-index : (e : Expr) (base : Expr) (ss : List Suffix) → e.kind ≡ exprs.Index base ss → tree e ≡ index e.place (tree base) (suffixes ss)
tree-index e base ss is =
    of_kind-tree e ∙ ap (λ k. of_kind k e.place) (is ∙ sym (rolls-Index base ss))
    ∙ ap (λ f. f e.place) (fold-roll-ExprKind (ℕ → Tree) (Option Tree) Tree (Fields → Fields) (Suffixes → Suffixes) kind_step key_step expr_step field_step suffix_step (layers.Index base ss)) ∙ ap (index e.place (tree base)) (of_suffixes ss)

pub tree-concat : (e : Expr) (operands : List Expr) (operators : List ℕ) → e.kind ≡ exprs.Concat operands operators → tree e ≡ concat e.place (trees operands) operators
tree-concat e operands operators is =
    of_kind-tree e ∙ ap (λ k. of_kind k e.place) (is ∙ sym (rolls-Concat operands operators))
    ∙ ap (λ f. f e.place) (fold-roll-ExprKind (ℕ → Tree) (Option Tree) Tree (Fields → Fields) (Suffixes → Suffixes) kind_step key_step expr_step field_step suffix_step (layers.Concat operands operators)) ∙ ap (λ ts. concat e.place ts operators) (of_operands operands)

pub tree-table : (e : Expr) (fs : List Field) → e.kind ≡ exprs.Table fs → tree e ≡ table e.place (fields fs)
tree-table e fs is =
    of_kind-tree e ∙ ap (λ k. of_kind k e.place) (is ∙ sym (rolls-Table fs))
    ∙ ap (λ f. f e.place) (fold-roll-ExprKind (ℕ → Tree) (Option Tree) Tree (Fields → Fields) (Suffixes → Suffixes) kind_step key_step expr_step field_step suffix_step (layers.Table fs)) ∙ ap (table e.place) (of_fields fs)

-- ---- fields

of_field : (f : Field) → field f ≡ with_field f.place (of_key f.key) (tree f.value)
of_field = fold_out-Field (ℕ → Tree) (Option Tree) Tree (Fields → Fields) (Suffixes → Suffixes) kind_step key_step expr_step field_step suffix_step

pub field-position : (f : Field) (others : Fields) → f.key ≡ field_keys.Position → field f others ≡ with_position f.place (tree f.value) others
field-position f others is =
    ap (λ g. g others) (of_field f) ∙ ap (λ k. with_field f.place (of_key k) (tree f.value) others) (is ∙ sym rolls-Position)
    ∙ ap (λ k. with_field f.place k (tree f.value) others) (fold-roll-FieldKey (ℕ → Tree) (Option Tree) Tree (Fields → Fields) (Suffixes → Suffixes) kind_step key_step expr_step field_step suffix_step layers.Position)

pub field-key : (f : Field) (others : Fields) (key : Expr) → f.key ≡ field_keys.Given key → field f others ≡ with_key f.place (tree key) (tree f.value) others
field-key f others key is =
    ap (λ g. g others) (of_field f) ∙ ap (λ k. with_field f.place (of_key k) (tree f.value) others) (is ∙ sym (rolls-Given key))
    ∙ ap (λ k. with_field f.place k (tree f.value) others) (fold-roll-FieldKey (ℕ → Tree) (Option Tree) Tree (Fields → Fields) (Suffixes → Suffixes) kind_step key_step expr_step field_step suffix_step (layers.Given key))

-- a field has a value alone, or a key too
pub field-cases : (f : Field) → ((others : Fields) → field f others ≡ with_position f.place (tree f.value) others) ⊎ ((key : Tree) × ((others : Fields) → field f others ≡ with_key f.place key (tree f.value) others))
field-cases f = by_key (of_key f.key) (of_field f)
  where
    by_key : (k : Option Tree) → field f ≡ with_field f.place k (tree f.value) → ((others : Fields) → field f others ≡ with_position f.place (tree f.value) others) ⊎ ((key : Tree) × ((others : Fields) → field f others ≡ with_key f.place key (tree f.value) others))
    by_key None e = inl (λ others. ap (λ g. g others) e)
    by_key (Some key) e = inr (key, λ others. ap (λ g. g others) e)
