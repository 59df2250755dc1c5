-- What each form of an expression gives at four instants where a stream that it looks at breaks;
-- worked out by hand from what the language says of the forms.
use Rattle.std.specs.Prelude.{◌≡◌, ℕ, List, [], ◌∷◌, map, negsuc, codes, Option, None, if◌then◌else◌, true}
use Rattle.std.specs.Prelude.{false}
use Rattle.std.specs.Str.{bytes_eq}
use Rattle.lutree.specs.declared.expr.UnaryOperator.TheVariants.{Minus}
use Rattle.lutree.specs.declared.expr.BinaryOperator.TheVariants.{Subtract}
use Rattle.lutree.specs.declared.expr.Prefix.TheVariants.{Data as Data1, Pre}
use Rattle.lutree.specs.declared.expr.Infix.TheVariants.{Data as Data2, Arrow, FollowedBy}
use Rattle.lutree.specs.declared.expr.Pattern.TheVariants as patterns
use Rattle.lutree.specs.declared.expr.Condition.{Condition}
use Rattle.lutree.specs.Tree.{Tree, NodeTree, program_of}
use Rattle.lutree.specs.Tree as tree
use Rattle.luflow.specs.declared.data.Datum.TheVariants.{Int}
use Rattle.luflow.specs.declared.data.Status.TheVariants.{Present}
use Rattle.luflow.specs.Streams.{Mark, Known, Broken, base_clock}
use Rattle.luflow.specs.Messages.{marks}
use Rattle.luflow.specs.Vectors.{known}
use Rattle.luflow.specs.FormVectors.{four_instants, none, nil, streams}
use Rattle.lusource.specs.Source.{Named, condition, value}
use Rattle.lusource.specs.Vectors.{merge_of}

-- The streams, by names:
-- whole 1 2 3 4; breaking 5 broken 7 8; c true false true true; lost true broken true true;
-- where c is true, slow 1 - 3 4 and cut 1 - broken 4; where it is false, other - 6 - -;
-- late nil 1 2 3; spent broken 2 3 4; idle false false broken true.
abbrev pub named : Named
named name =
    if bytes_eq name (codes "whole") then streams 0
    else if bytes_eq name (codes "breaking") then streams 1
    else if bytes_eq name (codes "c") then streams 2
    else if bytes_eq name (codes "lost") then streams 3
    else if bytes_eq name (codes "slow") then streams 4
    else if bytes_eq name (codes "cut") then streams 5
    else if bytes_eq name (codes "other") then streams 6
    else if bytes_eq name (codes "late") then streams 7
    else if bytes_eq name (codes "spent") then streams 8
    else streams 9

abbrev pub nameless : NodeTree
nameless = record { name = codes "main"; inputs = []; outputs = []; locals = []; equations = [] }

-- the marks of an expression on a clock, at four instants
abbrev pub gives : Option Condition → Tree → List Mark
gives k e =
    marks (value (program_of (nameless ∷ [])) nameless (base_clock four_instants) named (λ i. named) e k 0) 4

-- on the base clock, where c is true, where it is false, and where `lost` and `idle` are true
abbrev pub on_base : Tree → List Mark
on_base = gives None

abbrev pub on_clock : Tree → List Mark
on_clock = gives (condition (codes "c") (patterns.Truth true))

abbrev pub off_clock : Tree → List Mark
off_clock = gives (condition (codes "c") (patterns.Truth false))

abbrev pub on_lost : Tree → List Mark
on_lost = gives (condition (codes "lost") (patterns.Truth true))

abbrev pub on_idle : Tree → List Mark
on_idle = gives (condition (codes "idle") (patterns.Truth true))

abbrev pub whole : Tree
whole = tree.variable (codes "whole")

abbrev pub breaking : Tree
breaking = tree.variable (codes "breaking")

abbrev pub c : Tree
c = tree.variable (codes "c")

abbrev pub lost : Tree
lost = tree.variable (codes "lost")

abbrev pub slow : Tree
slow = tree.variable (codes "slow")

abbrev pub cut : Tree
cut = tree.variable (codes "cut")

abbrev pub other : Tree
other = tree.variable (codes "other")

abbrev pub late : Tree
late = tree.variable (codes "late")

abbrev pub spent : Tree
spent = tree.variable (codes "spent")

abbrev pub pre : Tree → Tree
pre = tree.unary Pre

abbrev pub arrow : Tree → Tree → Tree
arrow = tree.binary Arrow

abbrev pub follows : Tree → Tree → Tree
follows = tree.binary FollowedBy

abbrev pub minus : Tree → Tree → Tree
minus = tree.binary (Data2 Subtract)

abbrev pub merge_c : Tree → Tree → Tree
merge_c = merge_of (codes "c")

abbrev pub when_in : List ℕ → Tree → Tree
when_in x e = tree.when e (record { variable = x; pattern = patterns.Truth true })

abbrev pub unless_c : Tree → Tree
unless_c e = tree.when e (record { variable = codes "c"; pattern = patterns.Truth false })

pub record PastIs : Type 0 where
  -- `pre` looks at its clock's instants, not at this one, and never recovers from a break before
  pub previous : on_base (pre whole) ≡ nil ∷ map known (1 ∷ 2 ∷ 3 ∷ [])
  pub previous_broken : on_base (pre breaking) ≡ nil ∷ known 5 ∷ Broken ∷ Broken ∷ []
  pub previous_slow : on_clock (pre slow) ≡ nil ∷ none ∷ known 1 ∷ known 3 ∷ []
  pub previous_cut : on_clock (pre cut) ≡ nil ∷ none ∷ known 1 ∷ Broken ∷ []
  pub previous_spent : on_base (pre spent) ≡ nil ∷ Broken ∷ Broken ∷ Broken ∷ []
  pub previous_lost : on_lost (pre whole) ≡ nil ∷ Broken ∷ known 2 ∷ known 3 ∷ []
  -- `current` looks at this instant too, holds over absent ones, and never recovers from a break
  pub held : on_base (tree.current (codes "slow")) ≡ map known (1 ∷ 1 ∷ 3 ∷ 4 ∷ [])
  pub held_cut : on_base (tree.current (codes "cut")) ≡ known 1 ∷ known 1 ∷ Broken ∷ Broken ∷ []
  pub held_other : on_base (tree.current (codes "other")) ≡ nil ∷ map known (6 ∷ 6 ∷ 6 ∷ [])
  pub held_spent : on_base (tree.current (codes "spent")) ≡ Broken ∷ Broken ∷ Broken ∷ Broken ∷ []

pub record ArrowsAre : Type 0 where
  -- the left one at the first instant of the clock, the right one at all later ones
  pub left_first : on_base (arrow breaking whole) ≡ known 5 ∷ Broken ∷ known 3 ∷ known 4 ∷ []
  pub right_after : on_base (arrow whole breaking) ≡ known 1 ∷ Broken ∷ known 7 ∷ known 8 ∷ []
  pub on_slow : on_clock (arrow late slow) ≡ nil ∷ none ∷ known 3 ∷ known 4 ∷ []
  pub first_of_slow : off_clock (arrow other whole) ≡ none ∷ known 6 ∷ none ∷ none ∷ []
  -- both sides are looked at, at the first instant too
  pub right_broken : on_base (arrow whole spent) ≡ Broken ∷ known 2 ∷ known 3 ∷ known 4 ∷ []
  pub left_broken : on_base (arrow spent whole) ≡ Broken ∷ known 2 ∷ known 3 ∷ known 4 ∷ []
  -- broken for good where the clock broke, whether it was true before that or not
  pub after_lost : on_lost (arrow whole whole) ≡ known 1 ∷ Broken ∷ Broken ∷ Broken ∷ []
  pub after_idle : on_idle (arrow whole whole) ≡ none ∷ none ∷ Broken ∷ Broken ∷ []
  -- a nil on the side that isn't taken is no matter
  pub nil_right : on_base (arrow whole late) ≡ map known (1 ∷ 1 ∷ 2 ∷ 3 ∷ [])
  pub nil_left : on_base (arrow late whole) ≡ nil ∷ map known (2 ∷ 3 ∷ 4 ∷ [])
  -- `fby` doesn't look at its right side at this instant, and never recovers from a break before
  pub followed : on_base (follows (tree.number 9) breaking) ≡
      known 9 ∷ known 5 ∷ Broken ∷ Broken ∷ []
  pub followed_cut : on_clock (follows (tree.number 9) cut) ≡ known 9 ∷ none ∷ known 1 ∷ Broken ∷ []
  pub followed_left : on_base (follows breaking whole) ≡ known 5 ∷ Broken ∷ known 2 ∷ known 3 ∷ []
  pub followed_lost : on_lost (follows whole whole) ≡ known 1 ∷ Broken ∷ Broken ∷ Broken ∷ []

pub record ChoicesAre : Type 0 where
  -- `if`: the first where the condition is true, and broken or nil where one of the three is
  pub choice : on_base (tree.choice c whole late) ≡ nil ∷ known 1 ∷ known 3 ∷ known 4 ∷ []
  pub choice_turned : on_base (tree.choice c late whole) ≡ nil ∷ known 2 ∷ known 2 ∷ known 3 ∷ []
  pub not_taken_broken : on_base (tree.choice c breaking whole) ≡
      known 5 ∷ Broken ∷ known 7 ∷ known 8 ∷ []
  pub other_not_taken_broken : on_base (tree.choice c whole spent) ≡
      Broken ∷ known 2 ∷ known 3 ∷ known 4 ∷ []
  pub condition_broken : on_base (tree.choice lost whole whole) ≡
      known 1 ∷ Broken ∷ known 3 ∷ known 4 ∷ []
  -- `merge`: the first where the clock is true, the second where it is false; it looks at that alone
  pub merged : on_base (merge_c slow other) ≡ map known (1 ∷ 6 ∷ 3 ∷ 4 ∷ [])
  pub merged_whole : on_base (merge_c whole late) ≡ map known (1 ∷ 1 ∷ 3 ∷ 4 ∷ [])
  pub merged_turned : on_base (merge_c late whole) ≡ nil ∷ map known (2 ∷ 2 ∷ 3 ∷ [])
  pub merged_cut : on_base (merge_c cut other) ≡ known 1 ∷ known 6 ∷ Broken ∷ known 4 ∷ []
  pub not_taken_is_no_matter : on_base (merge_c breaking whole) ≡
      known 5 ∷ known 2 ∷ known 7 ∷ known 8 ∷ []
  pub clock_broken : on_base (merge_of (codes "lost") whole whole) ≡
      known 1 ∷ Broken ∷ known 3 ∷ known 4 ∷ []
  -- the branches are on the clock and on its other sign
  pub constants : on_base (merge_c (tree.number 9) (tree.number 8)) ≡ map known (9 ∷ 8 ∷ 9 ∷ 9 ∷ [])
  pub delays : on_base (merge_c (pre whole) (pre whole)) ≡ nil ∷ map known (1 ∷ 2 ∷ 3 ∷ [])
  pub starts : on_base (merge_c (arrow whole late) (arrow whole late)) ≡
      map known (1 ∷ 2 ∷ 2 ∷ 3 ∷ [])

pub record OthersAre : Type 0 where
  -- absent where the clock is false, even if the operand breaks there, and broken where the clock is
  pub sample : on_clock (when_in (codes "c") whole) ≡ known 1 ∷ none ∷ known 3 ∷ known 4 ∷ []
  pub sample_of_breaking : on_clock (when_in (codes "c") breaking) ≡
      known 5 ∷ none ∷ known 7 ∷ known 8 ∷ []
  pub sample_elsewhere : off_clock (unless_c breaking) ≡ none ∷ Broken ∷ none ∷ none ∷ []
  pub sample_by_lost : on_lost (when_in (codes "lost") whole) ≡
      known 1 ∷ Broken ∷ known 3 ∷ known 4 ∷ []
  pub constant_by_lost : on_lost (tree.number 9) ≡ known 9 ∷ Broken ∷ known 9 ∷ known 9 ∷ []
  -- an operator is broken where an operand is, and goes on after it; the right operand is taken away
  pub difference : on_base (minus breaking whole) ≡ known 4 ∷ Broken ∷ known 4 ∷ known 4 ∷ []
  pub difference_by_spent : on_base (minus whole spent) ≡ Broken ∷ map known (0 ∷ 0 ∷ 0 ∷ [])
  pub difference_of_late : on_base (minus whole late) ≡ nil ∷ map known (1 ∷ 1 ∷ 1 ∷ [])
  pub minus_of_spent : on_base (tree.unary (Data1 Minus) spent) ≡
      Broken ∷ map (λ n. Known (Present (Int n))) (negsuc 1 ∷ negsuc 2 ∷ negsuc 3 ∷ [])

pub record StreamVectors : Type 0 where
  pub past : PastIs
  pub arrows : ArrowsAre
  pub choices : ChoicesAre
  pub others : OthersAre
