use Rattle.std.proofs.Common.{rules, ◌∙◌, refl, arith}
use Rattle.lublock.proofs.board.put_all.Goals as goal

pub loop-m-init : goal.loop-m-init
loop-m-init c = record { len = refl; kept = λ n l. refl }

pub loop-m-preserved : goal.loop-m-preserved
loop-m-preserved c = record {
  len = search rules;
  kept = λ n l. c.put.ensures.put.others n (λ e. absurd (omega (arith, e, l))) ∙ c.loop-m.invariant.kept n l;
}
