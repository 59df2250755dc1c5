-- What the walk of an expression leaves behind.
use Rattle.std.specs.Prelude.{true, ◌≡◌, ℕ, List, ◌++◌, length, map, Option, Some, slice_get, unwrap_or, Vec}
use Rattle.std.specs.Global.{Global}
use Rattle.lutree.specs.declared.expr.Infix.{Infix}
use Rattle.lutree.specs.declared.expr.Infix.TheVariants.{Data, Arrow as Starts, FollowedBy}
use Rattle.lutree.specs.declared.expr.Prefix.{Prefix}
use Rattle.lutree.specs.declared.expr.Prefix.TheVariants.{Data as Data1, Pre as Before}
use Rattle.lutree.specs.declared.expr.Pattern.{Pattern}
use Rattle.lutree.specs.declared.expr.Pattern.TheVariants as patterns
use Rattle.lutree.specs.declared.program.Kind.{Kind}
use Rattle.lutree.specs.declared.program.Kind.TheVariants.{Int as Ints}
use Rattle.luflow.specs.declared.form.Clock.{Clock}
use Rattle.luflow.specs.declared.form.Clock.TheVariants.{Base}
use Rattle.luflow.specs.declared.data.Datum.TheVariants.{Nil}
use Rattle.luflow.specs.declared.form.Form.{Form}
use Rattle.luflow.specs.declared.form.Form.TheVariants.{Constant, Unary, Binary, Pre, Arrow}
use Rattle.luflow.specs.declared.form.Flow.{Flow}
use Rattle.lustat_rules.specs.Typing.{agreed, single_kind, double_kind}
use Rattle.lucore_laws.specs.Layout.{Root as LaidRoot, Walking, leaf, after}
use Rattle.lucore_laws.specs.Layout.Root.{own, at}
use Rattle.lucore_build.specs.declared.root.Root.{Root}
use Rattle.lucore_build.specs.declared.root.Root.TheVariants.{Own, At}
use Rattle.lucore_build.specs.declared.operand.Operand.{Operand}

-- a root as the layout has it
abbrev pub root_view : Root → LaidRoot
root_view (Own flow) = own flow
root_view (At i) = at i

-- A walk put its inner flows behind those before, and this is its root.
pub record IsWalked (walking : Walking) (old new : List Flow) (found : LaidRoot) : Type 0 where
  pub flows : new ≡ old ++ (walking (length old)).inner
  pub root : found ≡ (walking (length old)).root

-- the flow of an operator on a clock: its type is int where it has none
abbrev pub flow_on : Clock → Option Kind → Form → Flow
flow_on clock kind form = record { form = form; clock = clock; kind = unwrap_or kind Ints }

-- an operator before its operand
abbrev pub prefix_form : Prefix → ℕ → Form
prefix_form (Data1 op) x = Unary op x
prefix_form Before x = Pre x

abbrev pub prefix_kind : Prefix → Option Kind → Option Kind
prefix_kind (Data1 op) kind = agreed (Some (single_kind op)) kind
prefix_kind Before kind = kind

-- an operator between its operands, and what it makes behind them: `a fby b` is `a -> pre b`
abbrev pub infix_kind : Infix → Option Kind → Option Kind → Option Kind
infix_kind (Data op) a b = double_kind op a b
infix_kind Starts a b = agreed a b
infix_kind FollowedBy a b = agreed a b

abbrev pub infix_walk : Clock → Infix → Operand → Operand → Walking
infix_walk k (Data op) x y = leaf (flow_on k (double_kind op x.kind y.kind) (Binary op x.place y.place))
infix_walk k Starts x y = leaf (flow_on k (agreed x.kind y.kind) (Arrow x.place y.place))
infix_walk k FollowedBy x y = after (leaf (flow_on k y.kind (Pre y.place)))
    (λ z. leaf (flow_on k (agreed x.kind y.kind) (Arrow x.place z)))

-- the types of the arguments of a call
abbrev pub kinds_of : List Operand → List (Option Kind)
kinds_of = map (λ x. x.kind)

-- the pattern of branch i of a merge
abbrev pub pattern_at : List Pattern → ℕ → Pattern
pattern_at ps i = unwrap_or (slice_get ps i) (patterns.Truth true)

-- lists without where they lie in memory
abbrev pub plain : List (Vec Flow Global) → List (List Flow)
plain = map (λ v. v.items)

-- what holds the place of a variable's flow until that is known
abbrev pub vacant : Flow
vacant = record { form = Constant Nil; clock = Base; kind = Ints }
