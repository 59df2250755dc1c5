use Rattle.std.proofs.Common.{[], sym, ap, ◌∙◌, subst, Some, append-nil, string_bytes}
use Rattle.luworld.specs.Systems.{done, next_item}
use Rattle.luworld.specs.Jobs.{system_of}
use Rattle.lusite.specs.Machine.{IsAtInstant}
use Rattle.lusite.specs.Sites.{SiteView}
use Rattle.luweave_text.specs.Waits.{stand_line}
use Rattle.luweave_text.proofs.Lines.{no_item, some_item}
use Rattle.luweave_text.proofs.waits.put_line.Goals as goal

pub returns-else-goes_on : goal.returns-else-goes_on
returns-else-goes_on c =
    let w = c.args.world.now in
    let s = c.args.site in
    let t = c.instant-instant.result in
    let next = next_item (system_of w.job) w.dones s in
    let none = no_item next (sym (c.goes_on.ensures w.job s (done w.dones s) c.next-next.ensures) ∙ c.if-goes_on.false) in (
      [],
      record {
        instant = t;
        at = subst (λ (v : SiteView). IsAtInstant v.job v.site v.done t) c.site.ensures c.instant-instant.ensures;
        line_is = sym (ap (stand_line w s t) none);
      },
      sym (append-nil (string_bytes c.args.text.now)),
    )

pub returns-in_ok-put_open : goal.returns-in_ok-put_open
returns-in_ok-put_open c =
    let w = c.args.world.now in
    let s = c.args.site in
    let t = c.instant-instant.result in
    let next = next_item (system_of w.job) w.dones s in
    let (item, there) = some_item next (sym (c.goes_on.ensures w.job s (done w.dones s) c.next-next.ensures) ∙ c.if-goes_on.true) in (
      stand_line w s t (Some item),
      record {
        instant = t;
        at = subst (λ (v : SiteView). IsAtInstant v.job v.site v.done t) c.site.ensures c.instant-instant.ensures;
        line_is = ap (stand_line w s t) (sym there);
      },
      c.in_ok-put_open.ensures item there,
    )
