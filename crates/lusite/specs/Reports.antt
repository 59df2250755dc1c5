-- What contracts see of what a site leaves.
use Rattle.lusite.specs.Sites.{SiteView}
use Rattle.lusite.specs.declared.report.Gone.{Gone}
use Rattle.lusite.specs.declared.report.Gone.TheVariants.{ByItem, InWhole}

-- the site, however it has gone
abbrev pub site_gone : Gone → SiteView
site_gone (ByItem site) = site
site_gone (InWhole site) = site
