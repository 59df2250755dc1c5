use Rattle.std.proofs.Common.{rules, ◌≡◌, ◌<◌, ◌≤◌, ◌+◌, length, set, Bool, true, false, subst, sym, ◌∙◌, SFits, to_z, of_z, w64, refl, arith}
use Rattle.std.proofs.lemmas.Int.{to_z-of_z}
use Rattle.std.specs.Prelude.{ℤ}
use Rattle.lublock_kernels.specs.Rows.{IsFilled, Keeps}
use Rattle.lublock_kernels.proofs.Filling.{filled_more, keeps_more}
use Rattle.lublock_kernels.proofs.rows.fill.Goals as goal
use Rattle.lublock_kernels.proofs.rows.fill.Goals.{then-fault, else-fault}

pub loop-m-init : goal.loop-m-init
loop-m-init g c = record {
  len = refl;
  kept = λ n l. refl;
  filled = λ e m l lt. absurd (omega (arith, l, lt));
}

pub loop-m-preserved : goal.loop-m-preserved
loop-m-preserved g c =
    let fits : SFits w64 c.word-found.result.0 = search rules in
    let same : to_z w64 (of_z w64 c.word-found.result.0) ≡ c.word-found.result.0 = grind (rules, to_z-of_z) in
    let from : c.args.from ≤ c.loop-m.m = search rules in
    record {
      len = search rules;
      kept = subst (λ (z : ℤ). Keeps c.args.from c.args.row.now (set c.loop-m.row (c.loop-m.m + 1) z)) (sym same) (keeps_more c.args.row.now c.loop-m.row c.args.from c.loop-m.m c.word-found.result.0 from c.loop-m.invariant.kept);
      filled = λ e.
          let before : c.loop-m.fault ≡ false = elim c.if-fault.branch [
            | then-fault w ↦ absurd (let f : true ≡ false = sym w.if-fault.true ∙ sym w.fault-is ∙ e in cc)
            | else-fault w ↦ w.if-fault.false
          ] in
          let now : c.word-found.result.1 ≡ false = elim c.if-fault.branch [
            | then-fault w ↦ absurd (let f : true ≡ false = sym w.if-fault.true ∙ sym w.fault-is ∙ e in cc)
            | else-fault w ↦ sym w.fault-is ∙ e
          ] in
          let room : c.loop-m.m + 1 < length c.loop-m.row = search rules in
          let more = filled_more (λ m r. g.F.Fn.post c.args.word (m, tt) r) c.loop-m.row c.args.from c.loop-m.m c.word-found.result.0 room (c.loop-m.invariant.filled before) (subst (λ (b : Bool). g.F.Fn.post c.args.word (c.loop-m.m, tt) (c.word-found.result.0, b)) now c.word-found.ensures) in
          subst (λ (z : ℤ). IsFilled (λ m r. g.F.Fn.post c.args.word (m, tt) r) c.args.from (c.loop-m.m + 1) (set c.loop-m.row (c.loop-m.m + 1) z)) (sym same) more;
    }
