-- The flows that the flow of a data operator reads.
use Rattle.std.specs.Prelude.{ℕ, Option, Some, None, option_and_then, List, slice_get}
use Rattle.luflow.specs.declared.form.Form.{Form}
use Rattle.luflow.specs.declared.form.Form.TheVariants.{Input, Constant, Copied, Unary, Binary, If, Pre}
use Rattle.luflow.specs.declared.form.Form.TheVariants.{Arrow, When, Current, Merge}
use Rattle.luflow.specs.declared.form.Flow.{Flow}
use Rattle.lueval.specs.declared.faults.Reads.{Reads}

-- the places of one operand, or of two
abbrev pub one : ℕ → Reads
one a = record { left = a; right = None }

abbrev pub two : ℕ → ℕ → Reads
two a b = record { left = a; right = Some b }

-- what a form reads, if it is a data operator
abbrev pub form_reads : Form → Option Reads
form_reads (Input r) = None
form_reads (Constant d) = None
form_reads (Copied a) = None
form_reads (Unary op a) = Some (one a)
form_reads (Binary op a b) = Some (two a b)
form_reads (If c a b) = None
form_reads (Pre a) = None
form_reads (Arrow a b) = None
form_reads (When a) = None
form_reads (Current a) = None
form_reads (Merge c xs) = None

-- what the flow at a place reads, if it is a data operator
abbrev pub reads_at : List Flow → ℕ → Option Reads
reads_at flows x = option_and_then (λ (flow : Flow). form_reads flow.form) (slice_get flows x)
