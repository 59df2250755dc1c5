use Rattle.std.proofs.Common.{ℕ, get_or, refl, ap, ◌∙◌}
use Rattle.serde_json.specs.Data.{Data, string}
use Rattle.serde_json.specs.View.{view}
use Rattle.luplace_report.specs.Names.{site_name}
use Rattle.luplace_report.proofs.Ranges.{taken_more, all_taken}
use Rattle.luplace_report.proofs.json.site_array.Goals as goal

pub loop-site-preserved : goal.loop-site-preserved
loop-site-preserved c =
    let reported : ℕ → Data = λ s. string (site_name c.args.names.now s) in
    let sites = c.args.sites.now in
    let k = c.loop-site.site-index in
    taken_more view reported sites k 0 (get_or sites k 0) c.loop-site.values.items c.push.new.self.items c.in_ok-try_from_str.field-0
    c.loop-site-test.true refl c.loop-site.invariant c.in_ok-push.ensures.items (c.in_ok-try_from_str.ensures ∙ ap string c.site_name.ensures)

pub returns : goal.returns
returns c =
    let reported : ℕ → Data = λ s. string (site_name c.args.names.now s) in
    all_taken reported c.args.sites.now c.loop-site.site-index c.loop-site.values c.loop-site.invariant c.loop-site-test.false
