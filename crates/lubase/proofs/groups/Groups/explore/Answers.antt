use Rattle.std.proofs.Common.{◌≡◌, ◌<◌, ◌++◌, [], ◌∷◌, true, false, length, set, sym, subst, arith}
use Rattle.lubase.specs.Search.{Has, Lacks}
use Rattle.lubase.specs.Grouped.{IsGrouping}
use Rattle.lubase.proofs.Marks.{has_same, has_kept}
use Rattle.lubase.proofs.Stepping.{read_mark}
use Rattle.lubase.proofs.Grouping.{frame_of, pushed}
use Rattle.lubase.proofs.Going.{none_stacked, same_parts}
use Rattle.lubase.proofs.groups.Groups.explore.Goals as goal

pub loop-frame-init : goal.loop-frame-init
loop-frame-init c =
    let g = c.args.graph.now in
    let me = c.args.self.now in
    let entered = me.entered.items in
    let left = me.left.items in
    let looped = me.looped.items in
    let places = me.places.items in
    let stack = me.stack.items in
    let bounds = me.bounds.items in
    let frames = me.frames.items in
    let v = c.args.start in
    let s : IsGrouping g entered left looped places stack bounds frames = c.requires.sound in
    let in_marks : v < length entered = omega (arith, c.requires.start, s.marking.entered_long) in
    let empty : length stack ≡ 0 = none_stacked g entered left looped places stack bounds [] (subst (IsGrouping g entered left looped places stack bounds) c.requires.empty s) in
    let fresh : Lacks entered v = read_mark entered v c.index.result.now false in_marks c.index.ensures c.if-index.false in
    let done = pushed g entered left looped places stack bounds frames v s c.requires.start fresh (λ i lt. absurd (omega (arith, lt, empty))) in
    let e = c.in_ok-enter.ensures in
    record {
      sound = same_parts g (set entered v true) c.enter.new.self.entered.items left c.enter.new.self.left.items looped c.enter.new.self.looped.items
          (set places v (length stack)) c.enter.new.self.places.items (stack ++ v ∷ []) c.enter.new.self.stack.items (bounds ++ length stack ∷ []) c.enter.new.self.bounds.items
          (frames ++ frame_of (length stack) 0 ∷ []) c.enter.new.self.frames.items e.entered e.left e.looped e.places e.stack e.bounds e.frames done;
      kept = λ u has. subst (λ xs. Has xs u) (sym e.entered) (has_kept entered v u in_marks has);
      started = subst (λ xs. Has xs v) (sym e.entered) (has_same entered v in_marks);
    }
