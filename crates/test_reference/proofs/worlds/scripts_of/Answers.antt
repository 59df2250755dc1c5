use Rattle.std.proofs.Common.{map, ◌∙◌, ap}
use Rattle.luworld.specs.Jobs.{script, streams_of}
use Rattle.test_reference.specs.AsItem.{as_item}
use Rattle.test_reference.proofs.Ranges.{map_pushed}
use Rattle.test_reference.proofs.AllScripts.{scripts_are}
use Rattle.test_reference.proofs.worlds.scripts_of.Goals as goal

pub loop-site-preserved : goal.loop-site-preserved
loop-site-preserved c =
    map_pushed (map as_item) (script c.args.job.now (streams_of c.args.job.now)) c.loop-site.scripts.items c.push.new.self.items c.new.result c.loop-site.site c.in_ok-push.ensures.items c.loop-site.invariant (ap (map as_item) c.new.ensures ∙ c.in_ok-script.ensures)

pub returns : goal.returns
returns c = scripts_are c.args.job.now c.sites_of-site-end.result c.loop-site.site c.loop-site.scripts.items c.sites_of-site-end.ensures.run c.sites_of-site-end.ensures.sites c.loop-site-test.false c.loop-site.auto.site-end c.loop-site.invariant
