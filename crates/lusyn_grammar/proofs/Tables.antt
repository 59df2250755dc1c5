-- What the proofs use of the table of levels, and of the spelling of keywords and signs.
use Rattle.std.proofs.Common.{◌≡◌, ◌≤◌, ◌<◌, ◌⊎◌, Option, Some, None, List, ◌∷◌, [], refl, ap, sym, ◌∙◌, inl, inr, arith, true, subst}
use Rattle.std.proofs.lemmas.Slice.Eq.{bytes_eq-Decides}
use Rattle.lutree.specs.declared.expr.UnaryOperator.TheVariants as u
use Rattle.lutree.specs.declared.expr.BinaryOperator.TheVariants as b
use Rattle.lutree.specs.declared.expr.Prefix.{Prefix}
use Rattle.lutree.specs.declared.expr.Prefix.TheVariants as p
use Rattle.lutree.specs.declared.expr.Infix.{Infix}
use Rattle.lutree.specs.declared.expr.Infix.TheVariants as i
use Rattle.lusyn_grammar.specs.declared.token.Fixed.{Fixed}
use Rattle.lusyn_grammar.specs.declared.token.Fixed.TheVariants as f
use Rattle.lusyn_grammar.specs.Tokens.{Tok, identifier, number, fixed, text_of, keywords, keyword_among}
use Rattle.lusyn_grammar.specs.Tokens.{infix_token, prefix_token, infix_of, prefix_of, Rule, arrow, impl, disj, conj, comp, sum, term, rule, level_by, left_by, right_by, level, left, right}
use Rattle.lusyn_grammar.specs.Reading.{operator, clock, next, of_infix, tail, same}

-- no two keywords or signs are spelled alike
abbrev every : List Fixed
every =
    f.Open ∷ f.Close ∷ f.OpenBrace ∷ f.CloseBrace ∷ f.Comma ∷ f.Semicolon ∷ f.Colon ∷ f.Equal ∷ f.Unequal ∷ f.Less ∷ f.LessEqual ∷ f.Greater ∷ f.GreaterEqual ∷ f.Plus ∷ f.Minus ∷ f.Star ∷ f.Arrow ∷ f.Implies ∷ keywords

named-text_of : (g : Fixed) → keyword_among every (text_of g) ≡ Some g
named-text_of f.Node = refl
named-text_of _ = refl

pub same-refl : (g : Fixed) → same g g ≡ true
same-refl g = (bytes_eq-Decides (text_of g) (text_of g)).1 refl

pub same-is : (g h : Fixed) → same g h ≡ true → g ≡ h
same-is g h e =
    let texts : text_of g ≡ text_of h = (bytes_eq-Decides (text_of g) (text_of h)).0 e in
    let found : Some g ≡ Some h = sym (named-text_of g) ∙ ap (keyword_among every) texts ∙ named-text_of h in
    cc

-- Levels go by the rules of the operators.

level_low_by : (r : Rule) → 1 ≤ level_by r
level_low_by arrow = omega arith
level_low_by _ = omega arith

pub level_low : (op : Infix) → 1 ≤ level op
level_low op = level_low_by (rule op)

level_high_by : (r : Rule) → level_by r ≤ 7
level_high_by arrow = omega arith
level_high_by _ = omega arith

pub level_high : (op : Infix) → level op ≤ 7
level_high op = level_high_by (rule op)

left_high_by : (r : Rule) → left_by r ≤ 7
left_high_by arrow = omega arith
left_high_by _ = omega arith

pub left_high : (op : Infix) → left op ≤ 7
left_high op = left_high_by (rule op)

right_high_by : (r : Rule) → right_by r ≤ 8
right_high_by arrow = omega arith
right_high_by _ = omega arith

pub right_high : (op : Infix) → right op ≤ 8
right_high op = right_high_by (rule op)

left_bound_by : (r : Rule) → level_by r ≤ left_by r
left_bound_by arrow = omega arith
left_bound_by _ = omega arith

pub left_bound : (op : Infix) → level op ≤ left op
left_bound op = left_bound_by (rule op)

right_bound_by : (r : Rule) → (level_by r ≤ right_by r) ⊎ (level_by r ≤ 1)
right_bound_by arrow = inr (omega arith)
right_bound_by _ = inl (omega arith)

-- only the right operand of `->` and `fby` may bind less tightly than the operator
pub right_bound : (op : Infix) → (level op ≤ right op) ⊎ (level op ≤ 1)
right_bound op = right_bound_by (rule op)

-- An operator after a whole expression doesn't go on with the expression's right operand.

after_arrow : (r : Rule) → left_by r ≤ 1 → level_by r < 0
after_arrow arrow h = absurd (omega arith)
after_arrow impl h = absurd (omega arith)
after_arrow disj h = absurd (omega arith)
after_arrow conj h = absurd (omega arith)
after_arrow comp h = absurd (omega arith)
after_arrow sum h = absurd (omega arith)
after_arrow term h = absurd (omega arith)

after_impl : (r : Rule) → left_by r ≤ 2 → level_by r < 2
after_impl arrow h = omega arith
after_impl impl h = absurd (omega arith)
after_impl disj h = absurd (omega arith)
after_impl conj h = absurd (omega arith)
after_impl comp h = absurd (omega arith)
after_impl sum h = absurd (omega arith)
after_impl term h = absurd (omega arith)

after_disj : (r : Rule) → left_by r ≤ 3 → level_by r < 4
after_disj arrow h = omega arith
after_disj impl h = omega arith
after_disj disj h = omega arith
after_disj conj h = absurd (omega arith)
after_disj comp h = absurd (omega arith)
after_disj sum h = absurd (omega arith)
after_disj term h = absurd (omega arith)

after_conj : (r : Rule) → left_by r ≤ 4 → level_by r < 5
after_conj arrow h = omega arith
after_conj impl h = omega arith
after_conj disj h = omega arith
after_conj conj h = omega arith
after_conj comp h = absurd (omega arith)
after_conj sum h = absurd (omega arith)
after_conj term h = absurd (omega arith)

after_comp : (r : Rule) → left_by r ≤ 5 → level_by r < 6
after_comp arrow h = omega arith
after_comp impl h = omega arith
after_comp disj h = omega arith
after_comp conj h = omega arith
after_comp comp h = absurd (omega arith)
after_comp sum h = absurd (omega arith)
after_comp term h = absurd (omega arith)

after_sum : (r : Rule) → left_by r ≤ 6 → level_by r < 7
after_sum arrow h = omega arith
after_sum impl h = omega arith
after_sum disj h = omega arith
after_sum conj h = omega arith
after_sum comp h = omega arith
after_sum sum h = omega arith
after_sum term h = absurd (omega arith)

after_term : (r : Rule) → left_by r ≤ 7 → level_by r < 8
after_term arrow h = omega arith
after_term impl h = omega arith
after_term disj h = omega arith
after_term conj h = omega arith
after_term comp h = omega arith
after_term sum h = omega arith
after_term term h = omega arith

after_by : (one r : Rule) → left_by r ≤ level_by one → level_by r < right_by one
after_by arrow r h = after_arrow r h
after_by impl r h = after_impl r h
after_by disj r h = after_disj r h
after_by conj r h = after_conj r h
after_by comp r h = after_comp r h
after_by sum r h = after_sum r h
after_by term r h = after_term r h

pub operator_after : (one op : Infix) → left op ≤ level one → level op < right one
operator_after one op h = after_by (rule one) (rule op) h

pub next-operator_token : (op : Infix) (rest : List Tok) → next (fixed (infix_token op) ∷ rest) ≡ operator op
next-operator_token i.Arrow rest = refl
next-operator_token (i.Data b.Add) rest = refl
next-operator_token _ rest = refl

pub prefix_of-token : (op : Prefix) → prefix_of (prefix_token op) ≡ Some op
prefix_of-token p.Pre = refl
prefix_of-token (p.Data u.Not) = refl
prefix_of-token _ = refl

-- a token is that of the operator that it is
abbrev IsTokenOf : Fixed → Option Infix → Type 0
IsTokenOf g None = g ≡ g
IsTokenOf g (Some op) = infix_token op ≡ g

infix_back : (g : Fixed) → IsTokenOf g (infix_of g)
infix_back f.Arrow = refl
infix_back _ = refl

infix_of-is : (g : Fixed) (op : Infix) → infix_of g ≡ Some op → infix_token op ≡ g
infix_of-is g op e = subst (IsTokenOf g) e (infix_back g)

of_infix-is : (o : Option Infix) (op : Infix) → of_infix o ≡ operator op → o ≡ Some op
of_infix-is None op e = absurd cc
of_infix-is (Some p) op e = let h : p ≡ op = cc in ap (λ (q : Infix). Some q) h

infix_next : (g : Fixed) (rest : List Tok) (op : Infix) → of_infix (infix_of g) ≡ operator op → fixed (infix_token op) ∷ rest ≡ fixed g ∷ rest
infix_next g rest op e = ap (λ (h : Fixed). fixed h ∷ rest) (infix_of-is g op (of_infix-is (infix_of g) op e))

pub next-is_operator : (ts : List Tok) (op : Infix) → next ts ≡ operator op → fixed (infix_token op) ∷ tail ts ≡ ts
next-is_operator [] op e = absurd cc
next-is_operator (identifier x ∷ rest) op e = absurd cc
next-is_operator (number n ∷ rest) op e = absurd cc
next-is_operator (fixed f.When ∷ rest) op e = absurd cc
next-is_operator (fixed f.Open ∷ rest) op e = absurd cc
next-is_operator (fixed g ∷ rest) op e = infix_next g rest op e

pub next-is_clock : (ts : List Tok) → next ts ≡ clock → fixed f.When ∷ tail ts ≡ ts
next-is_clock [] e = absurd cc
next-is_clock (identifier x ∷ rest) e = absurd cc
next-is_clock (number n ∷ rest) e = absurd cc
next-is_clock (fixed f.When ∷ rest) e = refl
next-is_clock (fixed _ ∷ rest) e = absurd cc

abbrev IsPrefixTokenOf : Fixed → Option Prefix → Type 0
IsPrefixTokenOf g None = g ≡ g
IsPrefixTokenOf g (Some op) = prefix_token op ≡ g

prefix_back : (g : Fixed) → IsPrefixTokenOf g (prefix_of g)
prefix_back f.Pre = refl
prefix_back _ = refl

pub prefix_of-is : (g : Fixed) (op : Prefix) → prefix_of g ≡ Some op → prefix_token op ≡ g
prefix_of-is g op e = subst (IsPrefixTokenOf g) e (prefix_back g)
