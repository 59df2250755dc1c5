use Rattle.std.proofs.Common.{string_bytes}
use Rattle.lustats.specs.Text.{site_line}
use Rattle.lustats.proofs.Adding.{line_more}
use Rattle.lustats.proofs.text.put_sites.Goals as goal

pub loop-site-preserved : goal.loop-site-preserved
loop-site-preserved c =
    line_more (site_line c.args.plan.now c.args.counts.now) c.loop-site.site (string_bytes c.args.text.now) (string_bytes c.loop-site.text) (string_bytes c.put_site.new.text) c.loop-site.invariant c.in_ok-put_site.ensures
