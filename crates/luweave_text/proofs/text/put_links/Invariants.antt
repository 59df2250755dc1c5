use Rattle.std.proofs.Common.{◌≡◌, ◌++◌, string_bytes}
use Rattle.luweave_text.specs.WorldText.{links_text}
use Rattle.luweave_text.proofs.text.put_links.Given as goal

abbrev pub invariant-loop-number : goal.invariant-loop-number
invariant-loop-number l = string_bytes l.text ≡ string_bytes l.initial.text ++ links_text l.world l.number
