use Rattle.std.proofs.Common.{◌+◌, ◌%◌, [], ◌∷◌, ◌++◌, append_assoc, take, drop, ap, sym, ◌∙◌, arith}
use Rattle.std.specs.Prelude.{slice_get}
use Rattle.std.proofs.Math.Nat.{mod-lt}
use Rattle.lulink.specs.Insides.{given_list}
use Rattle.lulink.proofs.Parts.{take_next, at_drop, not_past}
use Rattle.lulink.proofs.Slots.{first_is}
use Rattle.lulink.proofs.Runs.{full_at_hand, emptied_more}
use Rattle.lulink.proofs.take_side.TakeSide.empty.Goals as goal

pub empty_slot-requires-clause-table : goal.empty_slot-requires-clause-table
empty_slot-requires-clause-table c = c.loop-i.invariant.1.0 ∙ c.requires.side.table

pub empty_slot-requires-clause-slot : goal.empty_slot-requires-clause-slot
empty_slot-requires-clause-slot c =
    let i = c.requires.side in
    let slots = i.ring.slots in
    let here = c.loop-i.invariant.1.1 in
    let bound = mod-lt (c.args.self.now.count + c.loop-i.i) i.ring.room in
    omega arith

pub empty_slot-requires-clause-held : goal.empty_slot-requires-clause-held
empty_slot-requires-clause-held c =
    let held = c.requires.held in
    (slice_get (given_list c.args.ring.now.shared.key) (c.args.self.now.count + c.loop-i.i), full_at_hand _ _ _ c.requires.side c.loop-i.i c.loop-i.self c.loop-i.invariant.1 (omega arith))

pub unreachable-requires : goal.unreachable-requires
unreachable-requires c =
    let i = c.requires.side in
    let held = c.requires.held in
    let put = i.put in
    let listed = i.listed in
    not_past (given_list c.args.ring.now.shared.key) (c.args.self.now.count + c.loop-i.i) (omega arith)
    (first_is _ _ _ _ (sym (full_at_hand _ _ _ i c.loop-i.i c.loop-i.self c.loop-i.invariant.1 (omega arith)) ∙ c.empty_slot.ensures.found) ∙ c.in-None.is)

pub loop-i-preserved : goal.loop-i-preserved
loop-i-preserved c =
    let i = c.requires.side in
    let held = c.requires.held in
    let f = c.empty_slot.ensures in
    let list = given_list c.args.ring.now.shared.key in
    let first = c.args.self.now.count in
    let here = first_is _ _ _ _ (sym (full_at_hand _ _ _ i c.loop-i.i c.loop-i.self c.loop-i.invariant.1 (omega arith)) ∙ f.found) ∙ c.in-Some.is in (
      omega arith,
      emptied_more _ _ _ i c.loop-i.i c.loop-i.self c.loop-i.invariant.1 (omega arith) c.empty_slot.new.self f.seat f.slots (f.slot ∙ ap (λ m. (c.loop-i.self.slot + 1) % m) i.ring.slots) f.same.0 f.same.1 f.same.2,
      c.push_reserved.ensures.items ∙ ap (λ l. l ++ c.in-Some.msg ∷ []) c.loop-i.invariant.2 ∙ append_assoc c.args.into.now.items (take c.loop-i.i (drop first list)) (c.in-Some.msg ∷ [])
          ∙ ap (λ l. c.args.into.now.items ++ l) (sym (take_next (drop first list) c.loop-i.i c.in-Some.msg (at_drop first list c.loop-i.i ∙ here))),
      c.push_reserved.ensures.capacity ∙ c.loop-i.invariant.3,
    )
