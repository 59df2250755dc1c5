use Rattle.std.proofs.Common.{◌≡◌, ℕ, Bool, List, Vec, Global, Result, Ok, Err, IfOk, length, refl, sym, subst}
use Rattle.luworld.specs.Needs.{PlanView}
use Rattle.lusite.specs.KeptFlows.{AreKept, AreMarks}
use Rattle.lusite.proofs.KeptFlows.{kept, kept_are}
use Rattle.lusite.proofs.kept.kept_of.Goals as goal

given : {E : Type 0} (plan : PlanView) (s : ℕ) (xs : List ℕ) → AreKept plan s xs → (result : Result (Vec ℕ Global) E) → IfOk result (λ v. v.items ≡ xs) → IfOk result (λ v. AreKept plan s v.items)
given plan s xs are (Ok v) e = subst (AreKept plan s) (sym e) are
given plan s xs are (Err x) e = e

pub returns : goal.returns
returns c =
    let p = c.args.program.now in
    let site_flows = c.code.result.0.now in
    let marks = c.as_slice.result.now in
    let n = length site_flows in
    let marked = subst (λ (xs : List Bool). AreMarks site_flows xs n) (sym c.as_slice.ensures.value) c.in_ok-marks.ensures in
    given p.plan p.site (kept p c.requires c.code.result.1.now c.code.result.2.now site_flows c.code.ensures marks n refl marked) (kept_are p c.requires c.code.result.1.now c.code.result.2.now site_flows c.code.ensures marks n refl marked) c.marked.result c.marked.ensures
