-- The operands of a call, one after another.
use Rattle.std.proofs.Common.{◌≡◌, ◌++◌, [], ◌∷◌, ℕ, List, refl, ap, sym, ◌∙◌, codes, arith, cond, Bool}
use Rattle.std.specs.List.{flat_map}
use Rattle.std.proofs.lemmas.Bool.{le-leb}
use Rattle.lutree.specs.declared.expr.Expr.{Expr}
use Rattle.lutree.specs.Tree.{view, views, trees_of}
use Rattle.lusyn_grammar.specs.Grammar.{Written, paren, level_of}
use Rattle.lusyn_grammar.specs.Printing.{written, writtens, placed}
use Rattle.lusyn_printer.specs.Canonical.{joined, expression, operands, further}

-- no parentheses stand where every level may
pub placed_anywhere : (c : Written) → placed 0 c ≡ c
placed_anywhere c = ap (λ (b : Bool). cond b c (paren c)) (le-leb 0 (level_of c) (omega arith))

abbrev pub operand : Expr → List ℕ
operand e = expression (written (view e))

further_each : (es : List Expr) → flat_map (λ e. codes ", " ++ operand e) es ≡ further (writtens (trees_of (views es)))
further_each [] = refl
further_each (e ∷ es) =
    ap (λ (text : List ℕ). codes ", " ++ operand e ++ text) (further_each es)
    ∙ ap (λ (c : Written). codes ", " ++ expression c ++ further (writtens (trees_of (views es)))) (sym (placed_anywhere (written (view e))))

pub operands_each : (es : List Expr) → joined (codes ", ") operand es ≡ operands (writtens (trees_of (views es)))
operands_each [] = refl
operands_each (e ∷ es) =
    ap (λ (text : List ℕ). operand e ++ text) (further_each es)
    ∙ ap (λ (c : Written). expression c ++ further (writtens (trees_of (views es)))) (sym (placed_anywhere (written (view e))))
