-- The line that reports why a call stops.
use Rattle.std.specs.Prelude.{ℕ, ◌+◌, Bool, not, nat_eq, List, ◌++◌, take, drop, codes}
use Rattle.std.specs.List.{prefix_len}
use Rattle.std.specs.Fmt.{decimal}
use Rattle.luflow.specs.Operators.{kind_text}
use Rattle.lusyn.specs.Lines.{line_of as syntax_line}
use Rattle.lustat_rules.specs.Lines.{line_of as rule_line}
use Rattle.lucore.specs.Lines.{line_of as flat_line}
use Rattle.luplace_file.specs.Lines.{line_of as place_line}
use Rattle.lutab.specs.Lines.{line_of as table_line}
use Rattle.lusdist_shell.specs.Lines.{line_of as schedule_line}
use Rattle.lusdist_call.specs.Mistakes.{line_of as mistake_line}
use Rattle.lusdist_call.specs.declared.call_error.CallError.{CallError}
use Rattle.lusdist_call.specs.declared.call_error.CallError.TheVariants.{CannotRead, CannotWrite, NotAscii}
use Rattle.lusdist_call.specs.declared.call_error.CallError.TheVariants.{Syntax, Rules, Flat, Place, Table}
use Rattle.lusdist_call.specs.declared.call_error.CallError.TheVariants.{Schedule, Fault, LinkLost, NoThread}
use Rattle.lusdist_call.specs.declared.call_error.CallError.TheVariants.{OutOfMemory, Mistaken}

-- a code and a name, and what there is to report; without the line feed that ends the line
abbrev pub line_of : CallError → List ℕ
line_of (CannotRead path) = codes "F01 CannotRead " ++ path
line_of (CannotWrite path) = codes "F02 CannotWrite " ++ path
line_of NotAscii = codes "E03 NotAscii"
line_of (Syntax refusal) = syntax_line refusal
line_of (Rules refusal) = rule_line refusal
line_of (Flat refusal) = flat_line refusal
line_of (Place refusal) = place_line refusal
line_of (Table refusal) = table_line refusal
line_of (Schedule refusal) = schedule_line refusal
line_of (Fault variable instant kind) =
    codes "R1 Fault " ++ (variable ++ (codes " " ++ (decimal instant ++ (codes " " ++ kind_text kind))))
line_of OutOfMemory = codes "R2 OutOfMemory"
line_of LinkLost = codes "R3 LinkLost"
line_of NoThread = codes "R4 NoThread"
line_of (Mistaken mistake) = mistake_line mistake

-- WORDS

-- a byte that isn't the blank, which is 32
abbrev pub is_inside_word : ℕ → Bool
is_inside_word b = not (nat_eq b 32)

-- the first two words of a line: the code and the name
abbrev pub named : List ℕ → List ℕ
named line =
    let first = prefix_len is_inside_word line in
    take (first + 1 + prefix_len is_inside_word (drop (first + 1) line)) line
