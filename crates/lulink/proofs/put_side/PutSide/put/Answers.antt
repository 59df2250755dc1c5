use Rattle.std.proofs.Common.{◌+◌, ◌%◌, None, refl, ◌∙◌, arith}
use Rattle.std.proofs.lemmas.Option.{slice_get_within}
use native.Mathlib.Nat.{mod-add-mod}
use Rattle.lulink.specs.declared.put_side.PutSide.{PutSide}
use Rattle.lulink.specs.Insides.{given_list, HasFilled}
use Rattle.lulink.proofs.Runs.{turned_to, filled_none, free_at_hand, filled_one, stores_tail, stored_tail}
use Rattle.lulink.proofs.put_side.PutSide.put.Goals as goal
use Rattle.lulink.proofs.put_side.PutSide.put.Goals.{After-turn}

pub exchange-requires : goal.exchange-requires
exchange-requires c =
    let i = c.requires.side in
    (i.table, (None, free_at_hand _ _ c.args.self.now i 0 c.args.self.now (filled_none _ _ _ i) c.requires.held))

-- before the store
abbrev full : After-turn → PutSide
full c = record { seat = c.turn.new.self; count = c.args.self.now.count; slot = (c.args.self.now.slot + 1) % c.args.ring.now.shared.key.capacity; word = c.args.self.now.word; held = c.args.self.now.held }

filled : (c : After-turn) → HasFilled c.args.ring.now.shared.key c.args.self.now 1 (full c)
filled c =
    let me = turned_to c.args.self.now.seat.me c.exchange.new.seat.me c.turn.new.self.me _ _ c.exchange.ensures.3 c.turn.ensures.2 in
    filled_one _ _ _ c.requires.side c.turn.new.self c.args.msg c.requires.held c.requires.next (c.turn.ensures.0 ∙ c.exchange.ensures.0) me

pub store-requires : goal.store-requires
store-requires c =
    let i = c.requires.side in
    let words = i.ring.words in
    let held = c.requires.held in
    let within = slice_get_within (given_list c.args.ring.now.shared.key) c.args.self.now.count c.args.msg c.requires.next in
    (c.turn.ensures.0 ∙ c.exchange.ensures.0 ∙ i.table, omega arith, stores_tail _ _ _ i 1 _ _ (filled (goal.at.store-requires c).After-turn) (omega arith) (omega arith) (omega arith))

pub returns-clause-side : goal.returns-clause-side
returns-clause-side c =
    let i = c.requires.side in
    let held = c.requires.held in
    let within = slice_get_within (given_list c.args.ring.now.shared.key) c.args.self.now.count c.args.msg c.requires.next in
    let place = c.next_slot-self.ensures ∙ (λ j. (i.slot j + 1) % (c.slot_count-room.ensures ∙ i.ring.slots) j) ∙ mod-add-mod c.args.self.now.count c.args.ring.now.shared.key.capacity 1 in
    let t = full (goal.at.returns-clause-side c).After-turn in
    (stored_tail _ _ _ i 1 _ t _ (filled (goal.at.returns-clause-side c).After-turn) (omega arith) (omega arith) (omega arith) c.store.ensures.0 c.store.ensures.2 refl place refl refl).0
