-- What the reader answers, against the plain data that it stands for.
use Rattle.std.specs.Prelude.{◌≡◌, Result, Ok, Err}
use Rattle.lutree.specs.declared.program.Program.{Program}
use Rattle.lutree.specs.Tree.{ProgramTree, program_view}
use Rattle.lusyn_grammar.specs.declared.error.LexError.{LexError}
use Rattle.lusyn_grammar.specs.declared.error.LexError.TheVariants as l
use Rattle.lusyn_parser.specs.declared.error.ParseError.{ParseError}
use Rattle.lusyn_parser.specs.declared.error.ParseError.TheVariants as p
use Rattle.lusyn.specs.declared.error.SynError.{SynError}
use Rattle.lusyn.specs.declared.error.SynError.TheVariants as e

-- this tree is answered, unless memory ran out
abbrev pub IsAnswered : Result Program SynError → ProgramTree → Type 0
IsAnswered (Ok found) tree = tree ≡ program_view found
IsAnswered (Err e.OutOfMemory) tree = Unit {0}
IsAnswered (Err _) tree = ⊥

-- it is refused so, unless memory ran out
abbrev pub Refuses : Result Program SynError → SynError → Type 0
Refuses (Ok found) error = ⊥
Refuses (Err e.OutOfMemory) error = Unit {0}
Refuses (Err reported) error = reported ≡ error

-- a refusal stays as the lexer reports it
abbrev pub refusal : LexError → SynError
refusal l.TooLong = e.TooLong
refusal l.NotAscii = e.NotAscii
refusal (l.NoToken byte) = e.Syntax byte
refusal (l.NumberTooLarge byte) = e.NumberTooLarge byte
refusal (l.LongRun byte) = e.LongRun byte
refusal l.OutOfMemory = e.OutOfMemory

-- and as the parser reports it
abbrev pub syntax_refusal : ParseError → SynError
syntax_refusal (p.Syntax byte) = e.Syntax byte
syntax_refusal p.OutOfMemory = e.OutOfMemory
