-- The operators of Lustre on whole streams. Each result is absent where the clock is false, and broken where
-- the clock or a stream that it looks at is.
use Rattle.std.specs.Prelude.{suc, List, map}
use Rattle.lutree.specs.declared.expr.UnaryOperator.{UnaryOperator}
use Rattle.lutree.specs.declared.expr.BinaryOperator.{BinaryOperator}
use Rattle.luflow.specs.declared.data.Datum.{Datum}
use Rattle.luflow.specs.declared.form.Outcome.TheVariants.{Gives}
use Rattle.luflow.specs.Operators.{single_of, double_of, choice_of}
use Rattle.luflow.specs.Streams.{Stream, Ticks, datum_of, ticked, before}
use Rattle.luflow.specs.Values.{gives, on_one, on_two, on_three, arrow_of, merge_of, under}

-- a constant: its datum at each instant of the clock
abbrev pub constant_stream : Datum → Ticks → Stream
constant_stream d k t = under (k t) (Gives d)

-- a data operator with one operand, applied at each instant
abbrev pub unary_stream : UnaryOperator → Ticks → Stream → Stream
unary_stream op k a t = under (k t) (on_one (single_of op) (datum_of (a t)))

-- a data operator with two operands, applied at each instant
abbrev pub binary_stream : BinaryOperator → Ticks → Stream → Stream → Stream
binary_stream op k a b t = under (k t) (on_two (double_of op) (datum_of (a t)) (datum_of (b t)))

-- `if c then a else b`
abbrev pub choice_stream : Ticks → Stream → Stream → Stream → Stream
choice_stream k c a b t = under (k t) (on_three choice_of (datum_of (c t)) (datum_of (a t)) (datum_of (b t)))

-- `pre a`: the last datum before, and nil at first
abbrev pub pre_stream : Ticks → Stream → Stream
pre_stream k a t = under (k t) (gives (before a t))

-- `a -> b`: a at the first instant of the clock, b afterwards
abbrev pub arrow_stream : Ticks → Stream → Stream → Stream
arrow_stream k a b t = under (k t) (on_two (arrow_of (ticked k t)) (datum_of (a t)) (datum_of (b t)))

-- `a when c`: a, at the ticks of the clock c
abbrev pub when_stream : Ticks → Stream → Stream
when_stream k a t = under (k t) (gives (datum_of (a t)))

-- `current a`: the last datum up to now, and nil before the first
abbrev pub current_stream : Ticks → Stream → Stream
current_stream k a t = under (k t) (gives (before a (suc t)))

-- `merge`: at each instant the branch of the value that c has
abbrev pub merge_stream : Ticks → Stream → List Stream → Stream
merge_stream k c branches t = under (k t) (merge_of (datum_of (c t)) (map (λ s. datum_of (s t)) branches))
