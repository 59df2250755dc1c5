-- A higher assignment of classes has more needs unmet.
use Rattle.std.proofs.Common.{ℕ, Bool, true, false, ◌||◌, List, Option, Some, None, IsTrue, IsFalse, refl, sym, ◌∙◌, true≢false}
use Rattle.std.specs.Prelude.{IfSome, slice_index_or}
use Rattle.lutree.specs.declared.expr.Condition.{Condition}
use Rattle.lutree.specs.declared.expr.Prefix.TheVariants.{Data as Data1, Pre}
use Rattle.lutree.specs.declared.expr.Infix.TheVariants.{Data as Data2, Arrow, FollowedBy}
use Rattle.lutree.specs.Tree.{Tree, Trees, DeclarationTree, EquationTree, NodeTree}
use Rattle.lutree.specs.Tree as tree
use Rattle.lustat_rules.specs.Scope.{declarations_of}
use Rattle.lustat_rules.specs.Clocks.{clocks_in}
use Rattle.lustat_rules.specs.Classes.{Classes, is_one, IsZero, NeedsMet, AllReady, IsHeld, SamplersAreZero, IsLeast, Meets, HasClasses}

or_map : (a b c d : Bool) → (IsTrue a → IsTrue c) → (IsTrue b → IsTrue d) → IsTrue (a || b) → IsTrue (c || d)
or_map a b true d f g h = refl
or_map true b false d f g h = absurd (true≢false (sym (f refl)))
or_map false b false d f g h = g h

-- what implies a false test is false
below_false : (a b : Bool) → (IsTrue a → IsTrue b) → IsFalse b → IsFalse a
below_false false b f h = refl
below_false true b f h = absurd (true≢false (sym (f refl) ∙ h))

module _ (a b : Classes) (up : (x : List ℕ) → IsTrue (a x) → IsTrue (b x)) where
  pub is_one_grows : (e : Tree) → IsTrue (is_one a e) → IsTrue (is_one b e)
  is_one_grows (tree.number n) h = h
  is_one_grows (tree.truth t) h = h
  is_one_grows (tree.label l) h = h
  is_one_grows (tree.variable x) h = up x h
  is_one_grows (tree.unary (Data1 op) e) h = is_one_grows e h
  is_one_grows (tree.unary Pre e) h = h
  is_one_grows (tree.binary (Data2 op) d e) h = or_map (is_one a d) (is_one a e) _ _ (is_one_grows d) (is_one_grows e) h
  is_one_grows (tree.binary Arrow d e) h = is_one_grows d h
  is_one_grows (tree.binary FollowedBy d e) h = is_one_grows d h
  is_one_grows (tree.choice c d e) h =
      or_map (is_one a c) (is_one a d || is_one a e) _ _ (is_one_grows c) (or_map (is_one a d) (is_one a e) _ _ (is_one_grows d) (is_one_grows e)) h
  is_one_grows (tree.when e c) h = is_one_grows e h
  is_one_grows (tree.current x) h = h
  is_one_grows (tree.merge c ps all) h = h
  is_one_grows (tree.call f all) h = h

  zero_falls : (e : Tree) → IsZero b e → IsZero a e
  zero_falls e h = below_false (is_one a e) (is_one b e) (is_one_grows e) h

  name_falls : (x : List ℕ) → IsFalse (b x) → IsFalse (a x)
  name_falls x h = below_false (a x) (b x) (up x) h

  mutual
    pub needs_fall : (e : Tree) → NeedsMet b e → NeedsMet a e
    needs_fall (tree.number n) h = tt
    needs_fall (tree.truth t) h = tt
    needs_fall (tree.label l) h = tt
    needs_fall (tree.variable x) h = tt
    needs_fall (tree.unary (Data1 op) e) h = needs_fall e h
    needs_fall (tree.unary Pre e) h = (zero_falls e h.0, needs_fall e h.1)
    needs_fall (tree.binary (Data2 op) d e) h = (needs_fall d h.0, needs_fall e h.1)
    needs_fall (tree.binary Arrow d e) h = (needs_fall d h.0, needs_fall e h.1)
    needs_fall (tree.binary FollowedBy d e) h = (needs_fall d h.0, zero_falls e h.1, needs_fall e h.2)
    needs_fall (tree.choice c d e) h = (needs_fall c h.0, needs_fall d h.1, needs_fall e h.2)
    needs_fall (tree.when e c) h = needs_fall e h
    needs_fall (tree.current x) h = name_falls x h
    needs_fall (tree.merge c ps all) h = all_fall all h
    needs_fall (tree.call f all) h = all_fall all h

    all_fall : (all : Trees) → AllReady b all → AllReady a all
    all_fall tree.none h = tt
    all_fall (tree.more e all) h = (zero_falls e h.0, needs_fall e h.1, all_fall all h.2)

  clock_falls : (k : Option Condition) → IfSome k (λ c. IsFalse (b c.variable)) → IfSome k (λ c. IsFalse (a c.variable))
  clock_falls None h = h
  clock_falls (Some c) h = name_falls c.variable h

  pub held_falls : (n : NodeTree) (d : DeclarationTree) → IsHeld b n d → IsHeld a n d
  held_falls n d h =
      record {
        input = λ i. name_falls d.name (h.input i);
        output = λ o. name_falls d.name (h.output o);
        clock = clock_falls d.clock h.clock;
      }

  pub samplers_fall : (q : EquationTree) → SamplersAreZero b q → SamplersAreZero a q
  samplers_fall q h = λ k x l. name_falls (slice_index_or (clocks_in q.right) k x) (h k x l)

-- the least assignment meets all rules where some assignment does
pub least_meets : (n : NodeTree) (a : Classes) → IsLeast a n → HasClasses n → Meets a n
least_meets n a least has =
    let b = has.0 in
    let up = least.least b has.1.raised in
    record {
      raised = least.raised;
      needs = λ k q l. needs_fall a b up (slice_index_or n.equations k q).right (has.1.needs k q l);
      held = λ k d l. held_falls a b up n (slice_index_or (declarations_of n) k d) (has.1.held k d l);
      sampled = λ k q l. samplers_fall a b up (slice_index_or n.equations k q) (has.1.sampled k q l);
    }
