use Rattle.std.proofs.Common.{◌≡◌, [], ℕ, List, Vec, Global, sym, subst, arith}
use Rattle.luflow.specs.Rank.{row}
use Rattle.lucore_laws.proofs.Reading.{lists_of, empty_more}
use Rattle.lucore_laws.proofs.readers.Readers.none.Goals as goal

pub loop-room-preserved : goal.loop-room-preserved
loop-room-preserved c =
    let lists = c.loop-room.lists.items in
    let v = c.in_ok-with_capacity.field-0 in
    record {
      long = omega (arith, c.in_ok-push.ensures.len, c.loop-room.invariant.long, c.push.new.self.ok.0, c.loop-room.lists.ok.0);
      empty = subst (λ xs. (x : ℕ) → row (lists_of xs) x ≡ []) (sym {A = List (Vec ℕ Global)} c.in_ok-push.ensures.items) (empty_more lists v c.in_ok-with_capacity.ensures.items c.loop-room.invariant.empty);
    }
