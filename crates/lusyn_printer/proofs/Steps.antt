-- What is written of an expression of each form, part by part.
use Rattle.std.proofs.Common.{◌≡◌, ◌++◌, ℕ, List, map, Result, Ok, Err, IfOk, refl, ap, sym, ◌∙◌, append_assoc, codes, cond}
use Rattle.std.specs.Result.{is_ok}
use Rattle.std.specs.Prelude.{Box, Vec}
use Rattle.std.specs.Global.{Global}
use Rattle.lutree.specs.declared.expr.Expr.{Expr}
use Rattle.lutree.specs.declared.expr.Expr.TheVariants as variant
use Rattle.lutree.specs.declared.expr.Prefix.{Prefix}
use Rattle.lutree.specs.declared.expr.Infix.{Infix}
use Rattle.lutree.specs.declared.expr.Pattern.{Pattern}
use Rattle.lutree.specs.declared.expr.Pattern.TheVariants as patterns
use Rattle.lutree.specs.declared.expr.Condition.{Condition}
use Rattle.lutree.specs.Tree.{Tree, view, views, trees_of}
use Rattle.lutree.specs.Tree as t
use Rattle.lutree.proofs.Views.{viewed-Unary, viewed-Binary, viewed-If, viewed-When, viewed-Merge, viewed-Call}
use Rattle.lusyn_grammar.specs.Tokens.{text_of, prefix_token, infix_token, left, right}
use Rattle.lusyn_grammar.specs.Printing.{written, writtens, placed, bare_pattern}
use Rattle.lusyn_printer.specs.Canonical.{expression, operands, branches, pattern_text, when_text}
use Rattle.lusyn_printer.proofs.Operands.{operand, placed_anywhere}

-- one part behind another
pub joint : (old mid new first second : List ℕ) → mid ≡ old ++ first → new ≡ mid ++ second → new ≡ old ++ (first ++ second)
joint old mid new first second e h = h ∙ ap (λ (text : List ℕ). text ++ second) e ∙ append_assoc old first second

-- the last part behind those before it
pub grown : {A E : Type 0} (answer : Result A E) (old mid new first last all : List ℕ) → mid ≡ old ++ first → all ≡ first ++ last → IfOk answer (λ _. new ≡ mid ++ last)
    → IfOk answer (λ _. new ≡ old ++ all)
grown (Ok x) old mid new first last all e h k = joint old mid new first last e k ∙ ap (λ (text : List ℕ). old ++ text) (sym h)
grown (Err x) old mid new first last all e h k = tt

-- the same where the text stays if there is no memory for the last part
pub ended : {A E : Type 0} (answer : Result A E) (old mid new first last all : List ℕ) → mid ≡ old ++ first → all ≡ first ++ last → new ≡ cond (is_ok answer) (mid ++ last) mid
    → IfOk answer (λ _. new ≡ old ++ all)
ended (Ok x) old mid new first last all e h k = joint old mid new first last e k ∙ ap (λ (text : List ℕ). old ++ text) (sym h)
ended (Err x) old mid new first last all e h k = tt

-- six parts, the last behind those before it
pub six_grown : {A E : Type 0} (answer : Result A E) (old a b c d e new first second third fourth fifth last all : List ℕ)
    → a ≡ old ++ first → b ≡ a ++ second → c ≡ b ++ third → d ≡ c ++ fourth → e ≡ d ++ fifth → all ≡ first ++ second ++ third ++ fourth ++ fifth ++ last
    → IfOk answer (λ _. new ≡ e ++ last) → IfOk answer (λ _. new ≡ old ++ all)
six_grown answer old a b c d e new first second third fourth fifth last all e1 e2 e3 e4 e5 reported h =
    let two = joint old a b first second e1 e2 in
    let three = joint old b c (first ++ second) third two e3 in
    let four = joint old c d (first ++ second ++ third) fourth three e4 in
    grown answer old e new (first ++ second ++ third ++ fourth ++ fifth) last all (joint old d e (first ++ second ++ third ++ fourth) fifth four e5) reported h

-- what an expression is written as, where its form is known
seen : (e : Expr) (form : Expr) (tree : Tree) → e ≡ form → view form ≡ tree → expression (written (view e)) ≡ expression (written tree)
seen e form tree is viewed = ap operand is ∙ ap (λ (a : Tree). expression (written a)) viewed

-- an operand in a place that asks for this level
abbrev at : ℕ → Expr → List ℕ
at least x = expression (placed least (written (view x)))

pub unary_text : (op : Prefix) (a : Box Expr Global) (e x : Expr) → e ≡ variant.Unary op a → x ≡ a.value → operand e ≡ (text_of (prefix_token op) ++ codes " ") ++ at 8 x
unary_text op a e x is there =
    seen e _ (t.unary op (view a.value)) is (viewed-Unary op a)
    ∙ ap (λ (y : Expr). (text_of (prefix_token op) ++ codes " ") ++ at 8 y) (sym there)

around : (first space sign last : List ℕ) → first ++ space ++ sign ++ space ++ last ≡ (first ++ (space ++ sign ++ space)) ++ last
around first space sign last = simp append_assoc

pub binary_text : (op : Infix) (a b : Box Expr Global) (e x y : Expr) (l r : ℕ) → e ≡ variant.Binary op a b → l ≡ left op → r ≡ right op → x ≡ a.value → y ≡ b.value
    → operand e ≡ (at l x ++ (codes " " ++ text_of (infix_token op) ++ codes " ")) ++ at r y
binary_text op a b e x y l r is l_is r_is there beside =
    let between = codes " " ++ text_of (infix_token op) ++ codes " " in
    seen e _ (t.binary op (view a.value) (view b.value)) is (viewed-Binary op a b)
    ∙ around (at (left op) a.value) (codes " ") (text_of (infix_token op)) (at (right op) b.value)
    ∙ ap (λ (n : ℕ). (at n a.value ++ between) ++ at (right op) b.value) (sym l_is)
    ∙ ap (λ (n : ℕ). (at l a.value ++ between) ++ at n b.value) (sym r_is)
    ∙ ap (λ (z : Expr). (at l z ++ between) ++ at r b.value) (sym there)
    ∙ ap (λ (z : Expr). (at l x ++ between) ++ at r z) (sym beside)

at_any : (x : Expr) → at 0 x ≡ operand x
at_any x = ap expression (placed_anywhere (written (view x)))

pub choice_text : (a b c : Box Expr Global) (e x y z : Expr) → e ≡ variant.If a b c → x ≡ a.value → y ≡ b.value → z ≡ c.value
    → operand e ≡ ((((codes "if " ++ operand x) ++ codes " then ") ++ operand y) ++ codes " else ") ++ operand z
choice_text a b c e x y z is first second third =
    seen e _ (t.choice (view a.value) (view b.value) (view c.value)) is (viewed-If a b c)
    ∙ ap (λ (text : List ℕ). codes "if " ++ text ++ codes " then " ++ at 0 b.value ++ codes " else " ++ at 0 c.value) (at_any a.value ∙ ap operand (sym first))
    ∙ ap (λ (text : List ℕ). codes "if " ++ operand x ++ codes " then " ++ text ++ codes " else " ++ at 0 c.value) (at_any b.value ∙ ap operand (sym second))
    ∙ ap (λ (text : List ℕ). codes "if " ++ operand x ++ codes " then " ++ operand y ++ codes " else " ++ text) (at_any c.value ∙ ap operand (sym third))

pattern_bare : (p : Pattern) (x : List ℕ) → pattern_text (bare_pattern p) x ≡ pattern_text p x
pattern_bare (patterns.Truth b) x = refl
pattern_bare (patterns.Label l) x = refl

pub when_written : (a : Box Expr Global) (c : Condition) (e x : Expr) → e ≡ variant.When a c → x ≡ a.value → operand e ≡ at 9 x ++ when_text c
when_written a c e x is there =
    seen e _ (t.when (view a.value) c) is (viewed-When a c)
    ∙ ap (λ (text : List ℕ). at 9 a.value ++ (codes " when " ++ text)) (pattern_bare c.pattern c.variable)
    ∙ ap (λ (y : Expr). at 9 y ++ when_text c) (sym there)

pub merge_text : (x : List ℕ) (ps : Box (List Pattern) Global) (vs : Vec Expr Global) (e : Expr) (labels : List Pattern) (values : List Expr)
    → e ≡ variant.Merge x ps vs → labels ≡ ps.value → values ≡ vs.items → operand e ≡ (codes "merge " ++ x) ++ branches (writtens (trees_of (views values))) (map bare_pattern labels)
merge_text x ps vs e labels values is reported given =
    seen e _ (t.merge x ps.value (trees_of (views vs.items))) is (viewed-Merge x ps vs)
    ∙ ap (λ (qs : List Pattern). codes "merge " ++ x ++ branches (writtens (trees_of (views vs.items))) (map bare_pattern qs)) (sym reported)
    ∙ ap (λ (us : List Expr). codes "merge " ++ x ++ branches (writtens (trees_of (views us))) (map bare_pattern labels)) (sym given)

pub call_text : (f : List ℕ) (vs : Vec Expr Global) (e : Expr) (values : List Expr) → e ≡ variant.Call f vs → values ≡ vs.items
    → operand e ≡ ((f ++ codes "(") ++ operands (writtens (trees_of (views values)))) ++ codes ")"
call_text f vs e values is given =
    seen e _ (t.call f (trees_of (views vs.items))) is (viewed-Call f vs)
    ∙ ap (λ (us : List Expr). f ++ codes "(" ++ operands (writtens (trees_of (views us))) ++ codes ")") (sym given)
