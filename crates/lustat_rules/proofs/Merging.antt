-- What a merge is where its names are known, its variable may be merged on and it is whole.
use Rattle.std.proofs.Common.{◌≡◌, ℕ, true, false, List, [], ◌∷◌, Option, Some, None, length, refl, sym, subst}
use Rattle.std.specs.Prelude.{All}
use Rattle.std.proofs.lemmas.Option.{same_Some}
use Rattle.lutree.specs.declared.expr.Label.{Label}
use Rattle.lutree.specs.declared.expr.Pattern.{Pattern}
use Rattle.lutree.specs.declared.expr.Pattern.TheVariants as patterns
use Rattle.lutree.specs.declared.program.Kind.{Kind}
use Rattle.lutree.specs.declared.program.Kind.TheVariants.{Int, Bool as Truths, Enum}
use Rattle.lutree.specs.Tree.{NodeTree, ProgramTree}
use Rattle.lustat_rules.specs.Scope.{kind_of}
use Rattle.lustat_rules.specs.Naming.{IsEnumeration, LabelKnown, PatternKnown, PartKnown}
use Rattle.lustat_rules.specs.Typing.{AreNames, IsSign, PatternsAre, IsWholeMerge}
use Rattle.lustat_rules.specs.Clocks.{pattern_kind, CanMerge, NamesClocks}
use Rattle.lustat_rules.specs.Parts as part

-- a merge is on a bool, with `true` and `false`, or on a variable of an enumeration, with all its names
pub data MergeIs (n : NodeTree) (c : List ℕ) (ps : List Pattern) : Type 0 where
  truths : kind_of n c ≡ Some Truths → ps ≡ patterns.Truth true ∷ patterns.Truth false ∷ [] → MergeIs n c ps
  names : (place size : ℕ) → kind_of n c ≡ Some (Enum place size) → AreNames (Enum place size) size ps → MergeIs n c ps

-- a name that is known is of an enumeration
label_kind : (p : ProgramTree) (l : Label) → LabelKnown p l → l.kind ≡ Truths → ⊥
label_kind p l known e = (subst (λ (k : Kind). IsEnumeration p k known.0) e known.1)

is_sign : (p : ProgramTree) (x : Pattern) → PatternKnown p x → pattern_kind x ≡ Truths → IsSign x
is_sign p (patterns.Truth b) known e = tt
is_sign p (patterns.Label l) known e = absurd (label_kind p l known e)

merge_by : (p : ProgramTree) (n : NodeTree) (c : List ℕ) (ps : List Pattern) (kind : Option Kind) → kind_of n c ≡ kind → All (PatternKnown p) ps
    → PatternsAre kind ps → CanMerge kind → All (λ x. kind ≡ Some (pattern_kind x)) ps → MergeIs n c ps
merge_by p n c ps None at known are can typed = absurd can
merge_by p n c ps (Some Int) at known are can typed = absurd can
merge_by p n c ps (Some Truths) at known are can typed =
    MergeIs.truths at (are (λ k x lt. is_sign p _ (known k x lt) (sym (same_Some Truths _ (typed k x lt)))))
merge_by p n c ps (Some (Enum place size)) at known are can typed = MergeIs.names place size at are

pub merge_is : (p : ProgramTree) (n : NodeTree) (c : List ℕ) (ps : List Pattern) (count : ℕ) → PartKnown p (part.merge c ps count) → IsWholeMerge n (part.merge c ps count)
    → NamesClocks n (part.merge c ps count) → (length ps ≡ count) × MergeIs n c ps
merge_is p n c ps count known is_whole clocks = (is_whole.0, merge_by p n c ps (kind_of n c) refl known is_whole.1 clocks.0 clocks.1)
