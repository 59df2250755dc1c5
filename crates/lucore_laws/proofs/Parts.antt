-- What the rules give of the parts of an expression that speak of enumerations and of clocks.
use Rattle.std.proofs.Common.{◌≡◌, ◌≢◌, ℕ, zero, suc, ◌+◌, ◌<◌, true, false, List, [], ◌∷◌, length, map, Option, Some, None, refl, sym, ap, ◌∙◌, subst, arith}
use Rattle.std.specs.Prelude.{slice_get, option_map, All, Contains}
use Rattle.std.specs.List.{range_with_len}
use Rattle.std.proofs.lemmas.Option.{slice_get_within, same_Some}
use Rattle.lutree.specs.declared.expr.Label.{Label}
use Rattle.lutree.specs.declared.expr.Pattern.{Pattern}
use Rattle.lutree.specs.declared.expr.Pattern.TheVariants as patterns
use Rattle.lutree.specs.declared.expr.Condition.{Condition}
use Rattle.lutree.specs.declared.program.Kind.{Kind}
use Rattle.lutree.specs.declared.program.Kind.TheVariants.{Int as Ints, Bool as Truths, Enum}
use Rattle.lutree.specs.Tree.{Tree, Trees, list_of, NodeTree, ProgramTree}
use Rattle.lutree.specs.Tree as tree
use Rattle.luflow.specs.declared.data.Datum.{Datum}
use Rattle.luflow.specs.declared.data.Datum.TheVariants.{Name, Nil}
use Rattle.luflow.specs.Sound.{IsConstantOf, clock_values}
use Rattle.luflow.proofs.Patterns.{some_values}
use Rattle.lusource.specs.Source.{pattern_value}
use Rattle.lustat_rules.specs.Scope.{kind_of}
use Rattle.lustat_rules.specs.Parts.{Part, EachPart, EachPartOf}
use Rattle.lustat_rules.specs.Parts as part
use Rattle.lustat_rules.specs.Naming.{IsEnumeration, LabelKnown, PatternKnown, PartKnown}
use Rattle.lustat_rules.specs.Typing.{IsNumbered, AreNames, IsSign, PatternsAre, IsWholeMerge}
use Rattle.lustat_rules.specs.Clocks.{pattern_kind, IsTypedClock, CanMerge, NamesClocks}
use Rattle.lucore_laws.proofs.Names.{all_at}
use Rattle.lucore_laws.proofs.Fitting.{IsSampled, label_is, condition_pattern}

-- the clock of a merge's branch
abbrev pub branch_clock : List ℕ → Pattern → Condition
branch_clock c p = record { variable = c; pattern = p }

-- a merge has a branch for each value of its variable's type, and these are values of that type
pub record IsGoodMerge (n : NodeTree) (c : List ℕ) (ps : List Pattern) : Type 0 where
  pub kind : Kind
  pub typed : kind_of n c ≡ Some kind
  pub values : map pattern_value ps ≡ clock_values kind
  pub sampled : All (λ p. IsSampled n (branch_clock c p)) ps

abbrev pub IsGoodPart : NodeTree → Part → Type 0
IsGoodPart n (part.label l) = IsConstantOf l.kind (Name l.number)
IsGoodPart n (part.clock c) = IsSampled n c
IsGoodPart n (part.merge c ps count) = IsGoodMerge n c ps

-- names that are numbered from r on are these values
named : (kind : Kind) (ps : List Pattern) (r : ℕ) → ((k : ℕ) (x : Pattern) → slice_get ps k ≡ Some x → IsNumbered kind (r + k) x) → map pattern_value ps ≡ map Name (range_with_len r (length ps))
named kind [] r each = refl
named kind (patterns.Truth b ∷ ps) r each = absurd (each 0 (patterns.Truth b) refl)
named kind (patterns.Label l ∷ ps) r each =
    let z : r + 0 ≡ r = omega arith in
    let here : l.number ≡ r = (each 0 (patterns.Label l) refl).1 ∙ z in
    ap (λ i. Name i ∷ map pattern_value ps) here
    ∙ ap (λ ds. Name r ∷ ds) (named kind ps (r + 1) (λ k x e. let y : r + suc k ≡ r + 1 + k = omega arith in subst (λ i. IsNumbered kind i x) y (each (suc k) x e)))

-- a pattern that is known and has the type of truth values is one
no_label : (p : ProgramTree) (kind : Kind) (l : Label) → kind ≡ Truths → (t : _) → IsEnumeration p kind t → ⊥
no_label p Ints l e t is = is
no_label p Truths l e t is = is
no_label p (Enum place size) l e t is = cc

is_sign : (p : ProgramTree) (x : Pattern) → PatternKnown p x → Truths ≡ pattern_kind x → IsSign x
is_sign p (patterns.Truth b) known e = tt
is_sign p (patterns.Label l) known e = no_label p l.kind l (sym e) known.0 known.1

module _ (p : ProgramTree) (n : NodeTree) where
  all_sampled : (c : List ℕ) (ps : List Pattern) → All (PatternKnown p) ps → All (λ x. IsTypedClock n (branch_clock c x)) ps → All (λ x. IsSampled n (branch_clock c x)) ps
  all_sampled c ps known typed i d lt = (typed i d lt, condition_pattern p _ (known i d lt))

  good_merge : (c : List ℕ) (ps : List Pattern) (o : Option Kind) → kind_of n c ≡ o → All (PatternKnown p) ps → PatternsAre o ps → CanMerge o → All (λ x. IsTypedClock n (branch_clock c x)) ps → IsGoodMerge n c ps
  good_merge c ps None is known whole can typed = absurd can
  good_merge c ps (Some Ints) is known whole can typed = absurd can
  good_merge c ps (Some Truths) is known whole can typed =
      let signs : All IsSign ps = λ i d lt. is_sign p _ (known i d lt) (same_Some Truths _ (sym is ∙ typed i d lt)) in
      record { kind = Truths; typed = is; values = ap (map pattern_value) (whole signs); sampled = all_sampled c ps known typed }
  good_merge c ps (Some (Enum place size)) is known whole can typed =
      let kind = Enum place size in
      record {
        kind = kind;
        typed = is;
        values =
            named kind ps 0 (λ k x e. let z : k ≡ 0 + k = omega arith in subst (λ i. IsNumbered kind i x) z (whole.each k x e))
            ∙ ap (λ size. map Name (range_with_len 0 size)) whole.count;
        sampled = all_sampled c ps known typed;
      }

  good_part : (x : Part) → PartKnown p x → IsWholeMerge n x → NamesClocks n x → IsGoodPart n x
  good_part (part.label l) known whole clocks = ((label_is p l known).0, λ no. cc)
  good_part (part.clock c) known whole clocks = (clocks, condition_pattern p c.pattern known)
  good_part (part.merge c ps count) known whole clocks = good_merge c ps (kind_of n c) refl known whole.1 clocks.0 clocks.1

  mutual
    pub good_parts : (e : Tree) → EachPart (PartKnown p) e → EachPart (IsWholeMerge n) e → EachPart (NamesClocks n) e → EachPart (IsGoodPart n) e
    good_parts (tree.number a) known whole clocks = tt
    good_parts (tree.truth b) known whole clocks = tt
    good_parts (tree.label l) known whole clocks = good_part (part.label l) known whole clocks
    good_parts (tree.variable x) known whole clocks = tt
    good_parts (tree.unary op a) known whole clocks = good_parts a known whole clocks
    good_parts (tree.binary op a b) known whole clocks = (good_parts a known.0 whole.0 clocks.0, good_parts b known.1 whole.1 clocks.1)
    good_parts (tree.choice c a b) known whole clocks =
        (good_parts c known.0 whole.0 clocks.0, good_parts a known.1 whole.1 clocks.1, good_parts b known.2 whole.2 clocks.2)
    good_parts (tree.when a c) known whole clocks = (good_parts a known.0 whole.0 clocks.0, good_part (part.clock c) known.1 whole.1 clocks.1)
    good_parts (tree.current x) known whole clocks = tt
    good_parts (tree.merge c ps all) known whole clocks =
        (good_part (part.merge c ps (length (list_of all))) known.0 whole.0 clocks.0, all_good_parts all known.1 whole.1 clocks.1)
    good_parts (tree.call f all) known whole clocks = all_good_parts all known whole clocks

    all_good_parts : (all : Trees) → EachPartOf (PartKnown p) all → EachPartOf (IsWholeMerge n) all → EachPartOf (NamesClocks n) all → EachPartOf (IsGoodPart n) all
    all_good_parts tree.none known whole clocks = tt
    all_good_parts (tree.more a all) known whole clocks = (good_parts a known.0 whole.0 clocks.0, all_good_parts all known.1 whole.1 clocks.1)
