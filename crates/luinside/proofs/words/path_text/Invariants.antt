use Rattle.std.proofs.Common.{◌≡◌, [], drop, string_bytes}
use Rattle.std.specs.Prelude.{IsUtf8}
use Rattle.lutree.specs.Tree.{program_view}
use Rattle.luinside.specs.Words.{path_text}
use Rattle.luinside.proofs.words.path_text.Given as goal

abbrev pub invariant-loop-number : goal.invariant-loop-number
invariant-loop-number l = (path_text (program_view l.catalog) l.name (drop l.number-index l.path) (string_bytes l.text) ≡ path_text (program_view l.catalog) l.fn.main l.path []) × IsUtf8 l.name
