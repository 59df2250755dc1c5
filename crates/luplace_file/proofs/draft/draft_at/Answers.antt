use Rattle.std.proofs.Common.{rules, ◌≡◌, ◌∙◌, Ok, Err, sym, ap, subst}
use Rattle.std.specs.Prelude.{codes}
use Rattle.toml.specs.Data.{get_member}
use Rattle.toml.specs.View.{table_view}
use Rattle.luplace_file.specs.Answers.{Gives, or_bad_key}
use Rattle.luplace_file.specs.Keys.{sites_in, default_in, capacity_in, place_in}
use Rattle.luplace_file.specs.Draft.{draft_at}
use Rattle.luplace_file.proofs.Walks.{Fails, fails_here, fails_later}
use Rattle.luplace_file.proofs.draft.draft_at.Goals as goal

pub returns-in_err-default : goal.returns-in_err-default
unfolding draft_at
returns-in_err-default c =
    let keys = table_view c.args.table.now in
    let e = c.in_err-default.field-0.0 in
    let sites : or_bad_key (sites_in (get_member (codes "sites") keys)) ≡ Ok c.in_ok-sites.sites = ap (λ v. or_bad_key (sites_in v)) (sym c.value_at.ensures) ∙ c.in_ok-sites.ensures in
    let default : Fails (default_in c.args.version (get_member (codes "default") keys)) e =
    subst (λ v. Fails (default_in c.args.version v) e) c.value_at-2.ensures c.in_err-default.ensures in
    let failed : Fails (draft_at c.args.version keys) e = fails_later (sites_in (get_member (codes "sites") keys)) _ c.in_ok-sites.sites e sites (fails_here (default_in c.args.version (get_member (codes "default") keys)) _ e default) in
    let is : c.from_residual-in_err-default.result ≡ Err e = search rules in
    subst (λ r. Gives (or_bad_key (draft_at c.args.version keys)) r) (sym is) failed

pub returns-in_err-place : goal.returns-in_err-place
unfolding draft_at
returns-in_err-place c =
    let keys = table_view c.args.table.now in
    let e = c.in_err-place.field-0.0 in
    let sites : or_bad_key (sites_in (get_member (codes "sites") keys)) ≡ Ok c.in_ok-sites.sites = ap (λ v. or_bad_key (sites_in v)) (sym c.value_at.ensures) ∙ c.in_ok-sites.ensures in
    let default : or_bad_key (default_in c.args.version (get_member (codes "default") keys)) ≡ Ok c.in_ok-default.default = ap (λ v. or_bad_key (default_in c.args.version v)) (sym c.value_at-2.ensures) ∙ c.in_ok-default.ensures in
    let capacity : or_bad_key (capacity_in (get_member (codes "capacity") keys)) ≡ Ok c.in_ok-capacity.capacity = ap (λ v. or_bad_key (capacity_in v)) (sym c.value_at-3.ensures) ∙ c.in_ok-capacity.ensures in
    let place : Fails (place_in c.args.version (get_member (codes "place") keys)) e =
    subst (λ v. Fails (place_in c.args.version v) e) c.value_at-4.ensures c.in_err-place.ensures in
    let failed : Fails (draft_at c.args.version keys) e =
    fails_later (sites_in (get_member (codes "sites") keys)) _ c.in_ok-sites.sites e sites
    (fails_later (default_in c.args.version (get_member (codes "default") keys)) _ c.in_ok-default.default e default
    (fails_later (capacity_in (get_member (codes "capacity") keys)) _ c.in_ok-capacity.capacity e capacity
    (fails_here (place_in c.args.version (get_member (codes "place") keys)) _ e place))) in
    let is : c.from_residual-in_err-place.result ≡ Err e = search rules in
    subst (λ r. Gives (or_bad_key (draft_at c.args.version keys)) r) (sym is) failed
