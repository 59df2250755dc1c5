use Rattle.std.proofs.Common.{◌≡◌, ◌++◌, take, string_bytes}
use Rattle.luweave_text.specs.WorldText.{statuses_text}
use Rattle.luweave_text.proofs.text.put_statuses.Given as goal

abbrev pub invariant-loop-status : goal.invariant-loop-status
invariant-loop-status l = string_bytes l.text ≡ string_bytes l.initial.text ++ statuses_text l.names (take l.status-index l.statuses)
