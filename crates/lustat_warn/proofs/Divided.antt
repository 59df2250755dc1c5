-- Divisions in the branches of an `if`, and divisions at all.
use Rattle.std.proofs.Common.{◌≡◌, ◌∙◌, Bool, true, false, ◌||◌, refl, sym, ap, true≢false}
use Rattle.std.specs.Prelude.{Box}
use Rattle.std.specs.Global.{Global}
use Rattle.lutree.specs.declared.expr.Expr.{Expr}
use Rattle.lutree.specs.declared.expr.Expr.TheVariants as variant
use Rattle.lutree.specs.Tree.{Tree, Trees, view}
use Rattle.lutree.specs.Tree as tree
use Rattle.lutree.proofs.Views.{viewed-If}
use Rattle.lustat_warn.specs.Dividing.{is_dividing, is_dividing_choice, has_division, has_dividing_branch, some_in_all, is_division}
use Rattle.lustat_warn.specs.Scans.{divides_within}

-- of two tests one holds, and each entails another
or_weaker : (p q r s : Bool) → (p ≡ true → r ≡ true) → (q ≡ true → s ≡ true) → (p || q) ≡ true → (r || s) ≡ true
or_weaker true q r s f g h = ap (λ x. x || s) (f refl)
or_weaker false q true s f g h = refl
or_weaker false q false s f g h = g h

or_left : (p q : Bool) → p ≡ true → (p || q) ≡ true
or_left p q h = ap (λ x. x || q) h

or_right : (p q : Bool) → q ≡ true → (p || q) ≡ true
or_right true q h = refl
or_right false q h = h

same_true : (p : Bool) → (p || p) ≡ true → p ≡ true
same_true true h = refl
same_true false h = h

-- where an `if` has a division in a branch, there is a division
mutual
  divided : (e : Tree) → has_dividing_branch e ≡ true → has_division e ≡ true
  divided (tree.number n) h = h
  divided (tree.truth b) h = h
  divided (tree.label l) h = h
  divided (tree.variable x) h = h
  divided (tree.unary op a) h = divided a h
  divided (tree.binary op a b) h =
      or_right (is_dividing op) (has_division a || has_division b) (or_weaker (has_dividing_branch a) (has_dividing_branch b) (has_division a) (has_division b) (divided a) (divided b) h)
  divided (tree.choice c a b) h =
      let inside : (has_dividing_branch c || (has_dividing_branch a || has_dividing_branch b)) ≡ true → (has_division c || (has_division a || has_division b)) ≡ true =
      or_weaker (has_dividing_branch c) (has_dividing_branch a || has_dividing_branch b) (has_division c) (has_division a || has_division b) (divided c)
      (or_weaker (has_dividing_branch a) (has_dividing_branch b) (has_division a) (has_division b) (divided a) (divided b)) in
      same_true (has_division c || (has_division a || has_division b))
      (or_weaker (has_division a || has_division b) (has_dividing_branch c || (has_dividing_branch a || has_dividing_branch b)) (has_division c || (has_division a || has_division b)) (has_division c || (has_division a || has_division b))
      (or_right (has_division c) (has_division a || has_division b)) inside h)
  divided (tree.when a c) h = divided a h
  divided (tree.current x) h = h
  divided (tree.merge c ps all) h = divided_all all h
  divided (tree.call f all) h = divided_all all h

  divided_all : (all : Trees) → some_in_all is_dividing_choice all ≡ true → some_in_all is_division all ≡ true
  divided_all tree.none h = h
  divided_all (tree.more a all) h = or_weaker (has_dividing_branch a) (some_in_all is_dividing_choice all) (has_division a) (some_in_all is_division all) (divided a) (divided_all all) h

-- so an `if` without a division in a branch has one only in its condition
none_in_branch : (c a b x y : Bool) → (x ≡ true → a ≡ true) → (y ≡ true → b ≡ true) → c ≡ false → a ≡ false → b ≡ ((a || b) || (c || (x || y)))
none_in_branch true a b x y f g c_false a_false = absurd (true≢false c_false)
none_in_branch false true b x y f g c_false a_false = absurd (true≢false a_false)
none_in_branch false false true x y f g c_false a_false = refl
none_in_branch false false false true y f g c_false a_false = absurd (true≢false (sym (f refl)))
none_in_branch false false false false true f g c_false a_false = absurd (true≢false (sym (g refl)))
none_in_branch false false false false false f g c_false a_false = refl

any_in_branch : (c a b : Bool) → c ≡ false → a ≡ false → b ≡ (c || (a || b))
any_in_branch true a b c_false a_false = absurd (true≢false c_false)
any_in_branch false true b c_false a_false = absurd (true≢false a_false)
any_in_branch false false b c_false a_false = refl

choice_divides : (everywhere : Bool) (c a b : Tree) → divides_within everywhere c ≡ false → has_division a ≡ false → has_division b ≡ divides_within everywhere (tree.choice c a b)
choice_divides true c a b c_false a_false = any_in_branch (has_division c) (has_division a) (has_division b) c_false a_false
choice_divides false c a b c_false a_false = none_in_branch (has_dividing_branch c) (has_division a) (has_division b) (has_dividing_branch a) (has_dividing_branch b) (divided a) (divided b) c_false a_false

-- the second branch of an `if` decides where its condition and its first branch have none
pub second_branch : (everywhere : Bool) (e : Expr) (c a b : Box Expr Global) (x y r : Bool) → e ≡ variant.If c a b
    → x ≡ divides_within everywhere (view c.value) → x ≡ false → y ≡ has_division (view a.value) → y ≡ false → r ≡ has_division (view b.value)
    → r ≡ divides_within everywhere (view e)
second_branch everywhere e c a b x y r is in_condition x_false in_first y_false in_second =
    in_second ∙ choice_divides everywhere (view c.value) (view a.value) (view b.value) (sym in_condition ∙ x_false) (sym in_first ∙ y_false)
    ∙ sym (ap (λ t. divides_within everywhere t) (ap view is ∙ viewed-If c a b))
