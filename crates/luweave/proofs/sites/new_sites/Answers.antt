use Rattle.std.proofs.Common.{◌∷◌, [], ap, length, length-append, arith}
use Rattle.luweave.proofs.NewSites.{one_more}
use Rattle.luweave.proofs.sites.new_sites.Goals as goal

pub loop-site-preserved : goal.loop-site-preserved
loop-site-preserved c =
    let p = c.push_reserved.ensures in
    let n = length-append c.loop-site.sites.items (c.in_ok-new.new ∷ []) in
    let e = ap length p.items in
    record {
      len = let b = c.loop-site.invariant.len in omega (arith, e, n, b);
      each = one_more c.args.job.now c.loop-site.sites.items c.push_reserved.new.self.items c.loop-site.site c.in_ok-new.new p.items c.loop-site.invariant.len
          (record { job_is = c.in_ok-new.ensures.job; site_is = c.in_ok-new.ensures.site; done_is = c.in_ok-new.ensures.done })
          c.loop-site.invariant.each;
      room = let a = p.capacity in let b = c.loop-site.invariant.room in omega (arith, a, b);
    }
