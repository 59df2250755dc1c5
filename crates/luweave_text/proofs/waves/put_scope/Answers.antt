use Rattle.std.proofs.Common.{◌∙◌, ◌++◌, ℕ, List, ap, append_assoc, string_bytes}
use Rattle.std.proofs.lemmas.Result.{IfOk-weaker}
use Rattle.luchart.specs.Signals.{signals_view}
use Rattle.luweave_text.specs.WorldText.{site_name}
use Rattle.luweave_text.specs.Waves.{scope_end, scope_opening, site_flows}
use Rattle.luweave_text.proofs.waves.put_scope.Goals as goal

pub returns : goal.returns
returns c =
    let plan = c.args.plan.now in
    let text = string_bytes c.args.text.now in
    let name = c.site_name.ensures ∙ ap (λ (ns : List (List ℕ)). site_name ns c.args.site) c.sites.ensures in
    let opening = scope_opening (site_name plan.names c.args.site) in
    let flows = site_flows plan (signals_view c.args.signals.now) c.args.site in
    let opened = c.in_ok-put_scope_opening.ensures ∙ ap (λ (n : List ℕ). text ++ scope_opening n) name in
    let filled = c.in_ok-put_site_flows.ensures ∙ ap (λ (xs : List ℕ). xs ++ flows) opened in
    IfOk-weaker c.put_scope_end.result _ _
    (λ u ended. ended ∙ ap (λ (xs : List ℕ). xs ++ scope_end) filled ∙ append_assoc (text ++ opening) flows scope_end ∙ append_assoc text opening (flows ++ scope_end))
    c.put_scope_end.ensures
