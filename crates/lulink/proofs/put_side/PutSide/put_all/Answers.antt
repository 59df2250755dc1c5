use Rattle.std.proofs.Common.{◌≡◌, ◌+◌, ◌-◌, length, ap, ◌∙◌, arith}
use Rattle.lulink.specs.declared.put_side.PutSide.{PutSide}
use Rattle.lulink.specs.Insides.{IsPutSide}
use Rattle.lulink.proofs.Runs.{all_within, stores_tail, stored_tail}
use Rattle.lulink.proofs.put_side.PutSide.put_all.Goals as goal
use Rattle.lulink.proofs.put_side.PutSide.put_all.Goals.{After-store}

pub store-requires : goal.store-requires
store-requires c =
    let i = c.requires.side in
    let words = i.ring.words in
    let held = c.requires.held in
    let within = all_within _ _ _ i.begins c.requires.next in
    let has = c.fill.ensures in
    (has.0 ∙ i.table, omega arith, stores_tail _ _ _ i (length c.args.msgs.now) _ _ has (omega arith) held within)

abbrev after : After-store → PutSide
after c = record { seat = c.store.new.seat; count = c.fill.new.self.count + length c.args.msgs.now; slot = c.fill.new.self.slot; word = c.fill.new.self.word; held = c.fill.new.self.held - length c.args.msgs.now }

stored : (c : After-store) → IsPutSide c.args.ring.now.shared.table_id c.args.ring.now.shared.key (after c) × (c.store.new.seat.me.0.seen ≡ c.args.self.now.seat.me.0.seen)
stored c =
    let i = c.requires.side in
    let held = c.requires.held in
    let has = c.fill.ensures in
    let count : c.fill.new.self.count ≡ c.args.self.now.count = has.3 in
    stored_tail _ _ _ i (length c.args.msgs.now) _ c.fill.new.self (after c) has (omega arith) held (all_within _ _ _ i.begins c.requires.next) c.store.ensures.0 c.store.ensures.2
    (ap (λ n. n + length c.args.msgs.now) has.3) has.1 has.4 (ap (λ n. n - length c.args.msgs.now) has.5)

pub returns-clause-side : goal.returns-clause-side
returns-clause-side c = (stored (goal.at.returns-clause-side c).After-store).0

pub returns-clause-seen : goal.returns-clause-seen
returns-clause-seen c = (stored (goal.at.returns-clause-seen c).After-store).1
