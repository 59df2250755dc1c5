use Rattle.std.proofs.Common.{rules, ◌≡◌, ◌∙◌, ◌+◌, ◌-◌, ℕ, List, Bool, false, length, subst, sym, ap, arith}
use Rattle.std.specs.Prelude.{slice_get, Some}
use Rattle.luflow.specs.declared.data.Status.{Status}
use Rattle.luflow.specs.declared.form.Clock.{Clock}
use Rattle.lublock.specs.Shown.{IsAdded, IsShown, first_of, slow_at}
use Rattle.lublock.proofs.Showing.{ok_weaker}
use Rattle.lublock.proofs.show.push_block.Goals as goal

pub returns-then-len-before : goal.returns-then-len-before
returns-then-len-before c =
    let flat = c.args.flat.now in
    let old = c.args.column.now.items in
    let new = c.push_slow.new.column.items in
    let of = c.in-Some.of.now in
    let t = c.args.t in
    let before = t - c.first_of.result in
    let there : slice_get c.args.columns.now c.in-On.c ≡ Some of = c.in-Some.ensures in
    let at : c.args.first + length old ≡ t = search rules in
    let early = c.first_of.ensures.before in
    let whole : c.first_of.result + before ≡ t = omega (arith, early) in
    let begins : first_of flat c.in-On.c t + before ≡ t = ap (λ (k : ℕ). k + before) (sym c.first_of.ensures.first) ∙ whole in
    let long : length of.items ≡ before + c.args.len = search rules in
    ok_weaker (λ (none : Bool). none ≡ false → IsAdded old new c.args.len (slow_at c.args.kind c.args.row.now c.as_slice.result.now c.in-On.value before))
    (λ (none : Bool). none ≡ false → IsShown flat c.args.columns.now c.args.first c.args.kind c.args.row.now c.args.clock t c.args.len old new) c.push_slow.result
    (λ none h e.
    subst (λ (k : Clock). IsShown flat c.args.columns.now c.args.first c.args.kind c.args.row.now k t c.args.len old new) (sym c.in-On.is)
    (at, of, there, before, begins, long, subst (λ (xs : List Status). IsAdded old new c.args.len (slow_at c.args.kind c.args.row.now xs c.in-On.value before)) c.as_slice.ensures.value (h e)))
    c.push_slow.ensures
