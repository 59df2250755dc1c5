use Rattle.std.proofs.Common.{ℕ, subst, sym}
use Rattle.luflow.specs.declared.form.Clock.{Clock}
use Rattle.luflow.specs.declared.form.Clock.TheVariants.{On}
use Rattle.lublock_kernels.specs.Machine.{IsCount}
use Rattle.lublock_kernels.proofs.Steps.{weaker_some}
use Rattle.lublock.proofs.board.ticks_on.Goals as goal

pub returns-in-On : goal.returns-in-On
returns-in-On c =
    weaker_some (λ n. (len : ℕ) → IsCount c.args.flat.now len c.args.rows.now c.args.spans.now (On c.in-On.c c.in-On.datum) n) (λ n. IsCount c.args.flat.now c.args.len c.args.rows.now c.args.spans.now c.args.clock n) c.hits_on.result
    (λ n h. subst (λ (k : Clock). IsCount c.args.flat.now c.args.len c.args.rows.now c.args.spans.now k n) (sym c.in-On.is) (h c.args.len)) c.hits_on.ensures
