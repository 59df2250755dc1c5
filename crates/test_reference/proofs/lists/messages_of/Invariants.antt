use Rattle.std.proofs.Common.{◌≡◌, ◌≤◌, ◌++◌, map, drop}
use Rattle.luflow.specs.Messages.{messages}
use Rattle.test_reference.specs.AsMark.{as_mark}
use Rattle.test_reference.proofs.lists.messages_of.Given as goal

abbrev pub invariant-loop-mark : goal.invariant-loop-mark
invariant-loop-mark l = record {
  whole : l.list.items ++ messages l.no (map as_mark (drop l.mark-index l.marks)) ≡ messages 0 (map as_mark l.marks);
  few : l.no ≤ l.mark-index;
}
