use Rattle.std.proofs.Common.{◌≡◌, ◌+◌, ◌-◌, ap, ◌∙◌, arith}
use Rattle.lulink.specs.declared.take_side.TakeSide.{TakeSide}
use Rattle.lulink.specs.Insides.{IsTakeSide}
use Rattle.lulink.proofs.Runs.{stores_head, stored_head}
use Rattle.lulink.proofs.take_side.TakeSide.take_all.Goals as goal
use Rattle.lulink.proofs.take_side.TakeSide.take_all.Goals.{After-store}

pub store-requires : goal.store-requires
store-requires c =
    let i = c.requires.side in
    let words = i.ring.words in
    let has = c.empty.ensures.side in
    let count : c.empty.new.self.count ≡ c.args.self.now.count = has.3 in
    (has.0 ∙ i.table, omega arith, stores_head _ _ _ i c.args.there _ _ has (omega arith) c.requires.held)

abbrev after : After-store → TakeSide
after c = record { seat = c.store.new.seat; count = c.empty.new.self.count + c.args.there; slot = c.empty.new.self.slot; word = c.empty.new.self.word; held = c.empty.new.self.held - c.args.there }

stored : (c : After-store) → IsTakeSide c.args.ring.now.shared.table_id c.args.ring.now.shared.key (after c) × (c.store.new.seat.me.0.seen ≡ c.args.self.now.seat.me.0.seen)
stored c =
    let has = c.empty.ensures.side in
    let count : c.empty.new.self.count ≡ c.args.self.now.count = has.3 in
    stored_head _ _ _ c.requires.side c.args.there _ c.empty.new.self (after c) has (omega arith) c.requires.held c.store.ensures.0 c.store.ensures.2 (ap (λ n. n + c.args.there) has.3) has.1 has.4 (ap (λ n. n - c.args.there) has.5)

pub returns-clause-side : goal.returns-clause-side
returns-clause-side c = (stored (goal.at.returns-clause-side c).After-store).0

pub returns-clause-seen : goal.returns-clause-seen
returns-clause-seen c = (stored (goal.at.returns-clause-seen c).After-store).1
