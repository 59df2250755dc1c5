-- What words stand for.
use Rattle.std.specs.Prelude.{ℕ, Bool, true, false, not, ℤ, pos, negsuc}
use Rattle.lutree.specs.declared.program.Kind.{Kind}
use Rattle.lutree.specs.declared.program.Kind.TheVariants.{Int as Ints, Bool as Truths, Enum}
use Rattle.luflow.specs.declared.data.Datum.{Datum}
use Rattle.luflow.specs.declared.data.Datum.TheVariants.{Int, Bool as Truth, Name}
use Rattle.luflow.specs.Operators.{is_zero}

-- the datum of a type that a word stands for
abbrev pub datum_at : Kind → ℤ → Datum
datum_at Ints z = Int z
datum_at Truths z = Truth (not (is_zero z))
datum_at (Enum p n) (pos k) = Name k
datum_at (Enum p n) (negsuc k) = Name 0

abbrev pub once : Bool → ℕ
once true = 1
once false = 0
