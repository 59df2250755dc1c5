use Rattle.std.proofs.Common.{◌≡◌, ◌++◌, take, string_bytes}
use Rattle.luweave_text.specs.WorldText.{messages_text}
use Rattle.luweave_text.proofs.text.put_messages.Given as goal

abbrev pub invariant-loop-message : goal.invariant-loop-message
invariant-loop-message l = string_bytes l.text ≡ string_bytes l.initial.text ++ messages_text l.names (take l.message-index l.messages)
