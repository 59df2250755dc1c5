use Rattle.std.proofs.Common.{◌≡◌, ◌+◌, ◌%◌, sym, refl, ap, ◌∙◌, arith}
use Rattle.std.specs.Prelude.{slice_get}
use native.Mathlib.Nat.{mod-add-mod}
use Rattle.lulink.specs.declared.take_side.TakeSide.{TakeSide}
use Rattle.lulink.specs.Insides.{given_list, HasEmptied}
use Rattle.lulink.proofs.Slots.{first_is}
use Rattle.lulink.proofs.Runs.{turned_to, emptied_none, full_at_hand, emptied_one, stores_head, stored_head}
use Rattle.lulink.proofs.take_side.TakeSide.take.Goals as goal
use Rattle.lulink.proofs.take_side.TakeSide.take.Goals.{After-turn}

pub exchange-found-requires : goal.exchange-found-requires
exchange-found-requires c =
    let i = c.requires.side in
    (i.table, (slice_get (given_list c.args.ring.now.shared.key) (c.args.self.now.count + 0), full_at_hand _ _ c.args.self.now i 0 c.args.self.now (emptied_none _ _ _ i) c.requires.held))

-- before the store
abbrev free : After-turn → TakeSide
free c = record { seat = c.turn.new.self; count = c.args.self.now.count; slot = (c.args.self.now.slot + 1) % c.args.ring.now.shared.key.capacity; word = c.args.self.now.word; held = c.args.self.now.held }

emptied : (c : After-turn) → HasEmptied c.args.ring.now.shared.key c.args.self.now 1 (free c)
emptied c =
    let me = turned_to c.args.self.now.seat.me c.exchange-found.new.seat.me c.turn.new.self.me _ _ c.exchange-found.ensures.3 c.turn.ensures.2 in
    emptied_one _ _ _ c.requires.side c.turn.new.self c.requires.held (c.turn.ensures.0 ∙ c.exchange-found.ensures.0) me

pub store-requires : goal.store-requires
store-requires c =
    let i = c.requires.side in
    let words = i.ring.words in
    let held = c.requires.held in
    (c.turn.ensures.0 ∙ c.exchange-found.ensures.0 ∙ i.table, omega arith, stores_head _ _ _ i 1 _ _ (emptied (goal.at.store-requires c).After-turn) (omega arith) (omega arith))

pub returns-clause-side : goal.returns-clause-side
returns-clause-side c =
    let i = c.requires.side in
    let held = c.requires.held in
    let place = c.next_slot-self.ensures ∙ (λ j. (i.slot j + 1) % (c.slot_count-room.ensures ∙ i.ring.slots) j) ∙ mod-add-mod c.args.self.now.count c.args.ring.now.shared.key.capacity 1 in
    let t = free (goal.at.returns-clause-side c).After-turn in
    (stored_head _ _ _ i 1 _ t _ (emptied (goal.at.returns-clause-side c).After-turn) (omega arith) (omega arith) c.store.ensures.0 c.store.ensures.2 refl place refl refl).0

pub returns-clause-next : goal.returns-clause-next
returns-clause-next c =
    let here : c.args.self.now.count + 0 ≡ c.args.self.now.count = omega arith in
    first_is _ _ _ _ (sym c.exchange-found.ensures.2 ∙ full_at_hand _ _ c.args.self.now c.requires.side 0 c.args.self.now (emptied_none _ _ _ c.requires.side) c.requires.held) ∙ ap (slice_get (given_list c.args.ring.now.shared.key)) here
