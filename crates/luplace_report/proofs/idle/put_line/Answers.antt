use Rattle.std.proofs.Common.{◌≡◌, ◌++◌, List, ℕ, ap, ◌∙◌, string_bytes}
use Rattle.std.specs.Prelude.{codes}
use Rattle.luplace_report.specs.Names.{site_name}
use Rattle.luplace_report.proofs.Added.{adds_after}
use Rattle.luplace_report.proofs.idle.put_line.Goals as goal

pub returns : goal.returns
returns c =
    let path = c.args.path.now in
    let name = site_name c.args.plan.now.names c.args.site in
    let says = codes ": W05 IdleSite: No variable stands at the site `" in
    let named : c.site_name.result.now ≡ name = c.site_name.ensures ∙ ap (λ (ns : List (List ℕ)). site_name ns c.args.site) c.sites.ensures in
    let put_name = c.in_ok-push_str-3.ensures.bytes ∙ ap (λ (n : List ℕ). string_bytes c.push_str-2.new.self ++ n) named in
    adds_after c.put_end.result c.args.text.now c.push_str.new.self c.put_end.new.text path (says ++ (name ++ codes "`.\n")) c.in_ok-push_str.ensures.bytes
    (adds_after c.put_end.result c.push_str.new.self c.push_str-2.new.self c.put_end.new.text says (name ++ codes "`.\n") c.in_ok-push_str-2.ensures.bytes
    (adds_after c.put_end.result c.push_str-2.new.self c.push_str-3.new.self c.put_end.new.text name (codes "`.\n") put_name c.put_end.ensures))
