-- No program is both small and large.
use Rattle.std.proofs.Common.{◌≤◌, List, [], ◌∷◌, length, inl, inr, arith}
use Rattle.lubase.specs.Limits.{most_names}
use Rattle.lutree.specs.Tree.{TypeTree, ProgramTree}
use Rattle.lusyn_grammar.specs.Grammar.{Each}
use Rattle.lusyn.specs.Texts.{IsSmall, HasLongType, IsLarge}

not_long : (types : List TypeTree) → Each (λ x. length x.names ≤ most_names) types → HasLongType types → ⊥
not_long [] short long = long
not_long (x ∷ xs) short (inl long) = absurd (omega (arith, short.0, long))
not_long (x ∷ xs) short (inr long) = not_long xs short.1 long

pub not_large : (p : ProgramTree) → IsSmall p → IsLarge p → ⊥
not_large p small (inl many) = absurd (omega (arith, small.0, many))
not_large p small (inr (inl many)) = absurd (omega (arith, small.1.0, many))
not_large p small (inr (inr long)) = not_long p.types small.1.1 long
