-- Faults, in the words of the language, apart from how values are worked out.
use Rattle.std.specs.Prelude.{◌≡◌, ℕ, Some, true}
use Rattle.lutree.specs.declared.expr.UnaryOperator.{UnaryOperator}
use Rattle.lutree.specs.declared.expr.BinaryOperator.{BinaryOperator}
use Rattle.luflow.specs.declared.data.Datum.{Datum}
use Rattle.luflow.specs.declared.data.Status.TheVariants.{Present}
use Rattle.luflow.specs.declared.form.Form.{Form}
use Rattle.luflow.specs.declared.form.Form.TheVariants.{Unary, Binary}
use Rattle.luflow.specs.declared.form.Flow.{Flow}
use Rattle.luflow.specs.declared.form.FaultKind.{FaultKind}
use Rattle.luflow.specs.Program.{FlatView, InputsView, flow_at}
use Rattle.luflow.specs.Operators.{IsFaultOf, IsFaultOfOne}
use Rattle.luflow.specs.Streams.{Known, Streams, clock_at}

-- an operator at operands that are present and not nil, whose result there is none
pub data IsFaultOn (σ : Streams) (t : ℕ) : Form → FaultKind → Type 0 where
  OnBinary : (op : BinaryOperator) (a b : ℕ) (x y : Datum) (kind : FaultKind) → σ a t ≡ Known (Present x)
      → σ b t ≡ Known (Present y) → IsFaultOf op x y kind → IsFaultOn σ t (Binary op a b) kind
  OnUnary : (op : UnaryOperator) (a : ℕ) (x : Datum) (kind : FaultKind) → σ a t ≡ Known (Present x)
      → IsFaultOfOne op x kind → IsFaultOn σ t (Unary op a) kind

-- flow i, whose clock is true, is such an operator at t
pub record IsFault (flat : FlatView) (inputs : InputsView) (σ : Streams) (i t : ℕ)
    (kind : FaultKind) : Type 0 where
  pub flow : Flow
  pub there : flow_at flat i ≡ Some flow
  pub clock : clock_at inputs σ flow.clock t ≡ Some true
  pub fault : IsFaultOn σ t flow.form kind
