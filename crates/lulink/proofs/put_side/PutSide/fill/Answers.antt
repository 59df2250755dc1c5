use Rattle.std.proofs.Common.{◌≡◌, ◌+◌, ◌%◌, None, length, ap, ◌∙◌, subst, arith}
use Rattle.std.proofs.Math.Nat.{mod-lt}
use Rattle.std.proofs.lemmas.Option.{slice_get-get_or}
use Rattle.lulink.specs.Insides.{HasFilled}
use Rattle.lulink.proofs.Runs.{filled_none, free_at_hand, filled_more}
use Rattle.lulink.proofs.put_side.PutSide.fill.Goals as goal

pub loop-i-init : goal.loop-i-init
loop-i-init c = (omega arith, filled_none _ _ _ c.requires.side)

pub fill_slot-requires-clause-table : goal.fill_slot-requires-clause-table
fill_slot-requires-clause-table c = c.loop-i.invariant.1.0 ∙ c.requires.side.table

pub fill_slot-requires-clause-slot : goal.fill_slot-requires-clause-slot
fill_slot-requires-clause-slot c =
    let i = c.requires.side in
    let slots = i.ring.slots in
    let here = c.loop-i.invariant.1.1 in
    let bound = mod-lt (c.args.self.now.count + c.loop-i.i) i.ring.room in
    omega arith

pub fill_slot-requires-clause-held : goal.fill_slot-requires-clause-held
fill_slot-requires-clause-held c =
    let held = c.requires.held in
    (None, free_at_hand _ _ _ c.requires.side c.loop-i.i c.loop-i.self c.loop-i.invariant.1 (omega arith))

pub loop-i-preserved : goal.loop-i-preserved
loop-i-preserved c =
    let held = c.requires.held in
    let slots = c.requires.side.ring.slots in
    let f = c.fill_slot.ensures in (
      omega arith,
      filled_more _ _ _ c.requires.side c.loop-i.i c.loop-i.self c.loop-i.invariant.1 (omega arith) c.fill_slot.new.self _
          (c.requires.next c.loop-i.i _ (slice_get-get_or c.args.msgs.now c.loop-i.i _ c.loop-i-test.true)) f.seat f.slots (f.slot ∙ ap (λ m. (c.loop-i.self.slot + 1) % m) slots) f.same.0 f.same.1 f.same.2,
    )

pub returns : goal.returns
returns c =
    let all : c.loop-i.i ≡ length c.args.msgs.now = omega arith in
    subst (λ n. HasFilled c.args.ring.now.shared.key c.args.self.now n c.loop-i.self) all c.loop-i.invariant.1
