-- The tree of an expression in memory, by the expression's form.
use Rattle.std.proofs.Common.{◌≡◌, ◌∙◌, ℕ, Bool, List, sym, ap}
use Rattle.std.specs.Prelude.{Box, Vec}
use Rattle.std.specs.Global.{Global}
use Rattle.lutree.specs.declared.expr.Prefix.{Prefix}
use Rattle.lutree.specs.declared.expr.Infix.{Infix}
use Rattle.lutree.specs.declared.expr.Pattern.{Pattern}
use Rattle.lutree.specs.declared.expr.Condition.{Condition}
use Rattle.lutree.specs.declared.expr.Label.{Label}
use Rattle.lutree.specs.declared.expr.Expr.{Expr}
use Rattle.lutree.specs.declared.expr.Expr.TheVariants as variant
use Rattle.lutree.specs.declared.expr.Expr.TheOpen.{Expr-F}
use Rattle.lutree.specs.declared.expr.Expr.TheFolds.{fold-roll-Expr}
use Rattle.lutree.specs.Tree.{Tree, view, views, trees_of, view_step}
use Rattle.lutree.specs.Tree as tree

pub viewed-Number : (n : ℕ) → view (variant.Number n) ≡ tree.number n
viewed-Number n = ap view (sym (variant.rolls-Number n)) ∙ fold-roll-Expr Tree view_step (Expr-F.Number n)

pub viewed-Truth : (b : Bool) → view (variant.Truth b) ≡ tree.truth b
viewed-Truth b = ap view (sym (variant.rolls-Truth b)) ∙ fold-roll-Expr Tree view_step (Expr-F.Truth b)

pub viewed-Label : (x : Label) → view (variant.Label x) ≡ tree.label x
viewed-Label x = ap view (sym (variant.rolls-Label x)) ∙ fold-roll-Expr Tree view_step (Expr-F.Label x)

pub viewed-Variable : (x : List ℕ) → view (variant.Variable x) ≡ tree.variable x
viewed-Variable x = ap view (sym (variant.rolls-Variable x)) ∙ fold-roll-Expr Tree view_step (Expr-F.Variable x)

pub viewed-Unary : (op : Prefix) (a : Box Expr Global) → view (variant.Unary op a) ≡ tree.unary op (view a.value)
viewed-Unary op a = ap view (sym (variant.rolls-Unary op a)) ∙ fold-roll-Expr Tree view_step (Expr-F.Unary op a)

pub viewed-Binary : (op : Infix) (a b : Box Expr Global) → view (variant.Binary op a b) ≡ tree.binary op (view a.value) (view b.value)
viewed-Binary op a b = ap view (sym (variant.rolls-Binary op a b)) ∙ fold-roll-Expr Tree view_step (Expr-F.Binary op a b)

pub viewed-If : (c a b : Box Expr Global) → view (variant.If c a b) ≡ tree.choice (view c.value) (view a.value) (view b.value)
viewed-If c a b = ap view (sym (variant.rolls-If c a b)) ∙ fold-roll-Expr Tree view_step (Expr-F.If c a b)

pub viewed-When : (a : Box Expr Global) (c : Condition) → view (variant.When a c) ≡ tree.when (view a.value) c
viewed-When a c = ap view (sym (variant.rolls-When a c)) ∙ fold-roll-Expr Tree view_step (Expr-F.When a c)

pub viewed-Current : (x : List ℕ) → view (variant.Current x) ≡ tree.current x
viewed-Current x = ap view (sym (variant.rolls-Current x)) ∙ fold-roll-Expr Tree view_step (Expr-F.Current x)

pub viewed-Merge : (c : List ℕ) (ps : Box (List Pattern) Global) (branches : Vec Expr Global) → view (variant.Merge c ps branches) ≡ tree.merge c ps.value (trees_of (views branches.items))
viewed-Merge c ps branches = ap view (sym (variant.rolls-Merge c ps branches)) ∙ fold-roll-Expr Tree view_step (Expr-F.Merge c ps branches)

pub viewed-Call : (f : List ℕ) (arguments : Vec Expr Global) → view (variant.Call f arguments) ≡ tree.call f (trees_of (views arguments.items))
viewed-Call f arguments = ap view (sym (variant.rolls-Call f arguments)) ∙ fold-roll-Expr Tree view_step (Expr-F.Call f arguments)
