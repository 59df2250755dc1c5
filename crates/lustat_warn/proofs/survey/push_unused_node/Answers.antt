use Rattle.std.proofs.Common.{◌≡◌, IsTrue}
use Rattle.std.proofs.lemmas.Result.{IfOk-weaker}
use Rattle.lustat_warn.specs.declared.warning.Warning.{Warning}
use Rattle.lustat_warn.specs.declared.warning.WarningKind.TheVariants.{UnusedNode}
use Rattle.lustat_warn.specs.Warnings.{UnusedNodeAt}
use Rattle.lustat_warn.specs.Scans.{Adds}
use Rattle.lustat_warn.proofs.Adding.{adds_same}
use Rattle.lustat_warn.proofs.Parts.{warning_of}
use Rattle.lustat_warn.proofs.survey.push_unused_node.Goals as goal

pub returns : goal.returns
returns c =
    let a = c.args.found.now.items in
    let b = c.push_if.new.found.items in
    let n = c.args.node.now in
    let S : Warning → Type 0 = λ w. (w ≡ warning_of UnusedNode c.args.place 0 n.byte) × IsTrue c.is_unused.result in
    let T : Warning → Type 0 = UnusedNodeAt c.args.called.now c.args.main.now c.args.place n in
    IfOk-weaker c.push_if.result (λ _. Adds S a b) (λ _. Adds T a b)
    (λ _ h. adds_same S T a b (λ w s. let u = c.is_unused.ensures.0 s.1 in record { is = s.0; other = u.0; uncalled = u.1 }) (λ w t. (t.is, c.is_unused.ensures.1 (t.other, t.uncalled))) h)
    c.push_if.ensures
