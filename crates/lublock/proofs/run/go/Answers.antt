use Rattle.std.proofs.Common.{◌≡◌, ℕ, Some}
use Rattle.std.specs.Prelude.{slice_get}
use Rattle.luflow.specs.Streams.{Streams}
use Rattle.luflow.specs.Solution.{IsSolution}
use Rattle.lublock.specs.Shown.{IsRightBlock}
use Rattle.lublock.proofs.Running.{all_near, ready_stands, stands_on}
use Rattle.lublock.proofs.run.go.Goals as goal

pub returns-clause-stands : goal.returns-clause-stands
returns-clause-stands c = λ e stands.
    let flat = c.args.flat.now in
    let inputs = c.args.inputs.now in
    let right : IsRightBlock flat inputs c.args.t c.args.len c.work.new.self = λ σ sol. c.work.ensures.right c.if-work.false σ c.requires.fit sol (ready_stands flat inputs σ c.args.t c.args.len c.args.board.now (stands.ready σ sol)) in
    let solved = λ (σ : Streams) (sol : IsSolution flat inputs σ). c.work.ensures.solved c.if-work.false σ (ready_stands flat inputs σ c.args.t c.args.len c.args.board.now (stands.ready σ sol)) in
    stands_on flat inputs c.args.t c.args.len c.args.board.now c.work.new.self c.renew.new.self c.args.columns.now.items c.show_flows.new.columns.items c.clear_others.new.columns.items stands right solved c.renew.ensures (all_near flat inputs c.args.t c.args.len c.work.new.self (λ (v : ℕ). (k : ℕ) × (slice_get c.args.needs.now k ≡ Some v)) c.args.columns.now.items c.show_flows.new.columns.items c.requires.fit c.requires.within (c.in_ok-show_flows.ensures.near c.if-branch.false) right stands.near) c.clear_others.ensures.kept
