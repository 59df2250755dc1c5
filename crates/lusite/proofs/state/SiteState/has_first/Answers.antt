use Rattle.std.proofs.Common.{Bool, true, sym, ap, ◌∙◌, arith}
use Rattle.std.specs.Prelude.{nat_lt, is_some}
use Rattle.lusite.specs.Machine.{in_cell}
use Rattle.lusite.proofs.Reported.{lt-false}
use Rattle.lusite.proofs.state.SiteState.has_first.Goals as goal

pub returns-then-is_open : goal.returns-then-is_open
returns-then-is_open c =
    let site_flow = c.args.site_flow.now in
    let early = c.args.early in
    c.is_left.ensures
    ∙ ap (nat_lt 0) (ap (in_cell true site_flow.own early site_flow.outs) c.is_some.ensures ∙ ap (λ (b : Bool). in_cell b site_flow.own early site_flow.outs (is_some site_flow.from)) (sym (sym c.is_open.ensures ∙ c.if-is_open.true)))

pub returns : goal.returns
returns c =
    let site_flow = c.args.site_flow.now in
    let early = c.args.early in
    sym (lt-false 0 0 (omega arith))
    ∙ ap (nat_lt 0) (ap (λ (b : Bool). in_cell b site_flow.own early site_flow.outs (is_some site_flow.from)) (sym (sym c.is_open.ensures ∙ c.if-is_open.false)))
