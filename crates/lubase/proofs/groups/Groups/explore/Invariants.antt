use Rattle.lubase.specs.Search.{Has, Keeps}
use Rattle.lubase.specs.Grouped.{frames_left}
use Rattle.lubase.specs.States.{IsGroups}
use Rattle.lubase.proofs.groups.Groups.explore.Given as goal

abbrev pub invariant-loop-frame : goal.invariant-loop-frame
invariant-loop-frame l =
    record {
      sound : IsGroups l.graph l.self;
      kept : Keeps l.fn.self.entered.items l.self.entered.items;
      started : Has l.self.entered.items l.start;
    }

abbrev pub decreases-loop-frame : goal.decreases-loop-frame
decreases-loop-frame l = frames_left l.self.entered.items l.self.frames.items
