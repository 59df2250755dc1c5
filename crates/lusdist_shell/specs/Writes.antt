-- What contracts see of a write.
use Rattle.std.specs.Prelude.{string_bytes}
use Rattle.lusdist_shell.specs.declared.dumps.Dump.{Dump}
use Rattle.lusdist_shell.specs.Dumps.{Written}

abbrev pub written_of : Dump → Written
written_of dump = record { path = string_bytes dump.path; bytes = string_bytes dump.text; whole = dump.whole }
