use Rattle.std.proofs.Common.{rules}
use Rattle.lublock_site.proofs.Writing.{filled_none, filled_more}
use Rattle.lublock_site.proofs.steps.fill_run.Goals as goal

pub loop-k-init : goal.loop-k-init
loop-k-init c = record {
  filled = filled_none c.args.kind c.args.row.now c.args.tick c.args.number _ c.clear.ensures.items;
  long = search rules;
  room = search rules;
}

pub loop-k-preserved : goal.loop-k-preserved
loop-k-preserved c =
    let inv = c.loop-k.invariant in
    record {
      filled = filled_more c.args.kind c.args.row.now c.args.tick c.args.number c.loop-k.run.items c.push_reserved.new.self.items c.in-Some.msg c.loop-k.k inv.long c.push_reserved.ensures.items c.in-Some.ensures inv.filled;
      long = search rules;
      room = search rules;
    }
