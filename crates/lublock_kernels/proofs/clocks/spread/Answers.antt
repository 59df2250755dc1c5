use Rattle.std.proofs.Common.{◌+◌, ◌≡◌, ◌≤◌, sym, arith, ap, subst, ℕ, true, refl}
use Rattle.lublock_kernels.specs.Words.{once}
use Rattle.lublock_kernels.specs.Rows.{IsPut, word_in}
use Rattle.lublock_kernels.proofs.Counting.{Spreading, spreading_more}
use Rattle.lublock_kernels.proofs.clocks.spread.Goals as goal

pub loop-m-init : goal.loop-m-init
loop-m-init c = record {
  count = refl;
  few = omega arith;
  len = refl;
  kept = λ n l. refl;
  words = λ n l. absurd (omega arith);
  stays = λ n l e. refl;
}

pub loop-m-preserved : goal.loop-m-preserved
loop-m-preserved c =
    let u = c.args.kind in
    let d = c.args.datum in
    let b = c.has_hit-hit.result in
    let more : c.loop-m.hits + c.once.result ≡ c.loop-m.hits + once b = ap (λ (n : ℕ). c.loop-m.hits + n) c.once.ensures in
    let few : c.loop-m.hits + once b ≤ c.args.limit = subst (λ (n : ℕ). n ≤ c.args.limit) more c.if-limit-more.false in
    let put = λ (e : b ≡ true). subst (λ (n : ℕ). IsPut c.loop-m.row c.loop-m.m (word_in c.args.x.now n) c.carry_if.new.row) more (c.carry_if.ensures.hit e) in
    let next = spreading_more u d c.loop-m.m c.args.limit c.args.to c.loop-m.hits c.args.c.now c.args.x.now c.args.row.now c.loop-m.row c.carry_if.new.row b c.loop-m.invariant (sym c.has_hit-hit.ensures) few c.carry_if.ensures.len put c.carry_if.ensures.beside in
    subst (λ (n : ℕ). Spreading u d (c.loop-m.m + 1) c.args.limit c.args.to n c.args.c.now c.args.x.now c.args.row.now c.carry_if.new.row) (sym more) next
