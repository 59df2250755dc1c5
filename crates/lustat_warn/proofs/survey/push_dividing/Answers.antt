use Rattle.std.proofs.Common.{◌≡◌, ◌∙◌, ◌≤◌, IsTrue, length, refl, sym, arith}
use Rattle.std.proofs.lemmas.Option.{slice_get_read}
use Rattle.lustat_warn.specs.declared.warning.WarningKind.TheVariants.{DividingBranch}
use Rattle.lustat_warn.specs.Warnings.{DividingIn}
use Rattle.lustat_warn.proofs.Adding.{adds_same, adds_more, adds_all}
use Rattle.lustat_warn.proofs.Parts.{warning_of, dividing_ascend}
use Rattle.lustat_warn.proofs.survey.push_dividing.Goals as goal

pub loop-j-preserved : goal.loop-j-preserved
loop-j-preserved c =
    let qs = c.args.equations.now in
    let j = c.loop-j.j in
    let q = c.index-equations-j.result in
    let F = DividingIn c.args.place in
    let here = slice_get_read qs (length qs) j q refl c.loop-j-test.true c.index-equations-j.is in
    let told = adds_same (λ w. (w ≡ warning_of DividingBranch c.args.place j q.byte) × IsTrue c.has_dividing_branch.result) (F j q) c.loop-j.found.items c.push_if.new.found.items
    (λ w h. record { is = h.0; divides = sym c.has_dividing_branch.ensures ∙ h.1 }) (λ w h. (h.is, c.has_dividing_branch.ensures ∙ h.divides)) c.in_ok-push_if.ensures in
    adds_more qs F j q c.args.found.now.items c.loop-j.found.items c.push_if.new.found.items (dividing_ascend c.args.place) here c.loop-j.invariant told

pub returns : goal.returns
returns c =
    let qs = c.args.equations.now in
    let end : length qs ≤ c.loop-j.j = (let e = c.loop-j-test.false in omega (arith, e)) in
    adds_all qs (DividingIn c.args.place) c.loop-j.j c.args.found.now.items c.loop-j.found.items end c.loop-j.invariant
