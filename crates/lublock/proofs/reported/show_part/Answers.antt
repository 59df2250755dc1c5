use Rattle.std.proofs.Common.{◌≡◌, ℕ, Bool, false, Some}
use Rattle.std.specs.Prelude.{slice_get}
use Rattle.lublock.specs.Shown.{StaysNear, StaysNearIn}
use Rattle.lublock.proofs.Showing.{ok_weaker, stays_in}
use Rattle.lublock.proofs.reported.show_part.Goals as goal

pub returns-clause-near : goal.returns-clause-near
returns-clause-near c =
    let flat = c.args.flat.now in
    let t = c.args.t in
    let len = c.args.len in
    let board = c.args.board.now in
    let needs = c.args.needs.now in
    let old = c.args.columns.now.items in
    let new = c.show_flows.new.columns.items in
    ok_weaker (λ (none : Bool). none ≡ false → StaysNear flat t len board (λ (v : ℕ). (k : ℕ) × (slice_get needs k ≡ Some v)) old new)
    (λ (none : Bool). none ≡ false → StaysNearIn flat t len board needs old new) c.show_flows.result (λ none h e. stays_in flat t len board needs old new (h e)) c.show_flows.ensures.near
