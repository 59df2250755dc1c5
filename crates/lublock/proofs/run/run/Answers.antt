use Rattle.std.proofs.Common.{rules, ◌≡◌, ◌∙◌, ℕ, length, subst, arith}
use Rattle.lublock.specs.Shown.{AllNear, IsSoundTo}
use Rattle.lublock.proofs.Running.{board_len, stands_first}
use Rattle.lublock.proofs.run.run.Goals as goal

pub loop-t-init : goal.loop-t-init
loop-t-init c = record {
  whole = search rules;
  within = omega arith;
  flows = board_len c.in_ok-board.board (length c.flows.result.now) c.in_ok-board.ensures ∙ (search rules);
  len = search rules;
  stands = stands_first c.args.flat.now c.args.inputs.now (length c.flows.result.now) c.in_ok-board.board c.in_ok-columns.columns.items c.in_ok-board.ensures c.in_ok-columns.ensures.empty;
}

pub returns : goal.returns
returns c =
    let inv = c.loop-t.invariant in
    let all : c.loop-t.t ≡ c.args.inputs.now.instants = (let a = inv.within in let b = inv.whole in omega arith) in
    record {
      near = subst (λ (n : ℕ). AllNear c.args.flat.now c.args.inputs.now n c.loop-t.columns.items) all inv.stands.near;
      sound = λ σ sol. subst (λ (n : ℕ). IsSoundTo c.args.flat.now σ n) all (inv.stands.sound σ sol);
      len = inv.len;
    }
