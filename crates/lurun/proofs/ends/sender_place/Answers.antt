use Rattle.std.proofs.Common.{◌≡◌, ◌∙◌, ◌+◌, ◌-◌, ◌<◌, ◌≤◌, ◌/◌, inl, inr, ℕ, length, Some, ap, sym, arith}
use Rattle.std.proofs.lemmas.Bool.{cases_lt}
use Rattle.lulink.specs.Views.{SenderView}
use Rattle.lurun.proofs.Lists.{got_at}
use Rattle.lurun.proofs.Places.{before, same_place}
use Rattle.lurun.proofs.ends.sender_place.Goals as goal

abbrev link : SenderView → ℕ
link t = t.link

middle_less : (low high n : ℕ) → low < high → high ≤ n → low + (high - low) / 2 < n
middle_less low high n lt le = omega (arith, lt, le)

pub returns-then-here-link-clause-found : goal.returns-then-here-link-clause-found
returns-then-here-link-clause-found c = λ inc k t e l.
    (let ts = c.args.txs.now.items in
    let m = c.loop-low.low + (c.loop-low.high - c.loop-low.low) / 2 in
    let here = got_at ts m c.index.result.now (middle_less c.loop-low.low c.loop-low.high (length ts) c.loop-low-test.true c.loop-low.invariant.high) c.index.ensures in
    ap Some (same_place link ts inc m k c.index.result.now t here e (sym c.link-here.ensures ∙ c.if-here-link.true ∙ sym l)))

pub loop-low-preserved-then-here-link-2 : goal.loop-low-preserved-then-here-link-2
loop-low-preserved-then-here-link-2 c =
    let ts = c.args.txs.now.items in
    let m = c.loop-low.low + (c.loop-low.high - c.loop-low.low) / 2 in
    let here = got_at ts m c.index.result.now (middle_less c.loop-low.low c.loop-low.high (length ts) c.loop-low-test.true c.loop-low.invariant.high) c.index.ensures in
    record {
      high = c.loop-low.invariant.high;
      between = λ inc k t e l.
          (let a = c.link-here.ensures in
          let b = c.if-here-link-2.true in
          let more = before link ts inc m k c.index.result.now t here e (omega (arith, a, b, l)) in
          (omega (arith, more), (c.loop-low.invariant.between inc k t e l).1));
    }

pub loop-low-preserved : goal.loop-low-preserved
loop-low-preserved c =
    let ts = c.args.txs.now.items in
    let m = c.loop-low.low + (c.loop-low.high - c.loop-low.low) / 2 in
    let lt = c.loop-low-test.true in
    let le = c.loop-low.invariant.high in
    let here = got_at ts m c.index.result.now (middle_less c.loop-low.low c.loop-low.high (length ts) lt le) c.index.ensures in
    record {
      high = omega (arith, lt, le);
      between = λ inc k t e l.
          (let a = c.link-here.ensures in
          let b = c.if-here-link-2.false in
          let ne : c.args.link < c.link-here.result = strict c.args.link c.link-here.result b c.if-here-link.false in
          ((c.loop-low.invariant.between inc k t e l).0, before link ts inc k m t c.index.result.now e here (omega (arith, a, ne, l))));
    }
  where
    strict : (x y : ℕ) → x ≤ y → (y ≡ x → ⊥) → x < y
    strict x y le ne = elim (cases_lt x y) [ inl lt ↦ lt | inr ge ↦ absurd (ne (omega (arith, le, ge))) ]
