-- Expressions as plain trees: what a definition by cases goes through.
use Rattle.std.specs.Prelude.{ℕ, Bool, List, [], ◌∷◌, Option, Some, None}
use Rattle.lua_syntax.specs.declared.tree.Expr.{Expr}
use Rattle.lua_syntax.specs.declared.tree.ExprKind.TheOpen.{ExprKind-F, FieldKey-F, Expr-F, Field-F, Suffix-F}
use Rattle.lua_syntax.specs.declared.tree.ExprKind.TheFolds.{fold-Expr, fold-Field}
use Rattle.lua_syntax.specs.declared.tree.Field.{Field}
use Rattle.lua_syntax.specs.declared.tree.Suffix.{Suffix}

mutual
  -- an expression; the number in front is its place
  pub data Tree : Type 0 where
    nil : ℕ → Tree
    truth : ℕ → Bool → Tree
    int : ℕ → ℕ → Tree
    text : ℕ → List ℕ → Tree
    name : ℕ → List ℕ → Tree
    index : ℕ → Tree → Suffixes → Tree
    concat : ℕ → Trees → List ℕ → Tree
    table : ℕ → Fields → Tree

  -- the places and the keys of suffixes
  pub data Suffixes : Type 0 where
    no_suffixes : Suffixes
    with_suffix : ℕ → Tree → Suffixes → Suffixes

  -- the operands of a concatenation
  pub data Trees : Type 0 where
    no_trees : Trees
    with_tree : Tree → Trees → Trees

  -- the fields of a table, each with its place: a value alone, or a key and a value
  pub data Fields : Type 0 where
    no_fields : Fields
    with_position : ℕ → Tree → Fields → Fields
    with_key : ℕ → Tree → Tree → Fields → Fields

-- one list from what each of its members puts in front of the others
abbrev pub stacked : {A : Type 0} → A → List (A → A) → A
stacked none [] = none
stacked none (member ∷ rest) = member (stacked none rest)

abbrev pub trees_of : List Tree → Trees
trees_of [] = no_trees
trees_of (tree ∷ rest) = with_tree tree (trees_of rest)

-- ---- one node, with the tree of each child in its place

abbrev pub kind_step : ExprKind-F (ℕ → Tree) (Option Tree) Tree (Fields → Fields) (Suffixes → Suffixes) → ℕ → Tree
kind_step ExprKind-F.Nil place = nil place
kind_step (ExprKind-F.Bool b) place = truth place b
kind_step (ExprKind-F.Int n) place = int place n
kind_step (ExprKind-F.Text bytes) place = text place bytes
kind_step (ExprKind-F.Name bytes) place = name place bytes
kind_step (ExprKind-F.Index base suffixes) place = index place base (stacked no_suffixes suffixes)
kind_step (ExprKind-F.Concat operands operators) place = concat place (trees_of operands) operators
kind_step (ExprKind-F.Table fields) place = table place (stacked no_fields fields)

abbrev pub expr_step : Expr-F (ℕ → Tree) (Option Tree) Tree (Fields → Fields) (Suffixes → Suffixes) → Tree
expr_step e = e.kind e.place

abbrev pub suffix_step : Suffix-F (ℕ → Tree) (Option Tree) Tree (Fields → Fields) (Suffixes → Suffixes) → Suffixes → Suffixes
suffix_step s = with_suffix s.place s.key

abbrev pub key_step : FieldKey-F (ℕ → Tree) (Option Tree) Tree (Fields → Fields) (Suffixes → Suffixes) → Option Tree
key_step FieldKey-F.Position = None
key_step (FieldKey-F.Given key) = Some key

abbrev pub with_field : ℕ → Option Tree → Tree → Fields → Fields
with_field place None value = with_position place value
with_field place (Some key) value = with_key place key value

abbrev pub field_step : Field-F (ℕ → Tree) (Option Tree) Tree (Fields → Fields) (Suffixes → Suffixes) → Fields → Fields
field_step f = with_field f.place f.key f.value

-- ---- what expressions are seen as

-- the tree of an expression
abbrev pub tree : Expr → Tree
tree = fold-Expr (ℕ → Tree) (Option Tree) Tree (Fields → Fields) (Suffixes → Suffixes) kind_step key_step expr_step field_step suffix_step

-- those of suffixes
abbrev pub suffixes : List Suffix → Suffixes
suffixes [] = no_suffixes
suffixes (suffix ∷ rest) = with_suffix suffix.place (tree suffix.key) (suffixes rest)

-- those of operands
abbrev pub trees : List Expr → Trees
trees [] = no_trees
trees (operand ∷ rest) = with_tree (tree operand) (trees rest)

-- that of a field, before the others
abbrev pub field : Field → Fields → Fields
field = fold-Field (ℕ → Tree) (Option Tree) Tree (Fields → Fields) (Suffixes → Suffixes) kind_step key_step expr_step field_step suffix_step

-- those of fields
abbrev pub fields : List Field → Fields
fields [] = no_fields
fields (one ∷ rest) = field one (fields rest)
