use Rattle.std.proofs.Common.{rules, ◌≡◌, ℕ, ◌+◌, ◌≤◌, List, subst, ◌∙◌, arith}
use Rattle.luflow.specs.Program.{FlatView, flows_of}
use Rattle.luworld.specs.Jobs.{streams_of}
use Rattle.lublock.specs.Boards.{IsAfter}
use Rattle.lublock.specs.Shown.{AreKept, StaysNearIn}
use Rattle.lublock.proofs.Showing.{kept_near}
use Rattle.lublock_site.specs.Blocks.{AreAllSure}
use Rattle.lublock_site.specs.Going.{part_in}
use Rattle.lublock_site.proofs.Behind.{block_right, next_stands, next_ends, next_past}
use Rattle.lublock_site.proofs.Closed.{none_sure}
use Rattle.lublock_site.proofs.Moving.{solved}
use Rattle.lublock_site.proofs.site.RowSite.end_block.Goals as goal

pub returns-clause-going : goal.returns-clause-going
returns-clause-going c =
    let x = c.args.self.now in
    let job = x.job.value in
    let flat_is : c.deref-flat.result.now ≡ job.plan.flat = c.deref-flat.ensures ∙ c.requires.frame.code.flat in
    let going = c.requires in
    let whole = c.is_whole.ensures c.if-not-is_whole.false in
    let within : x.t + x.len ≤ job.inputs.instants = let w = going.within in let all = going.frame.instants in omega (arith, w, all) in
    let all : AreAllSure (flows_of job.plan.flat) x.frame.code.marks.own.items x.frame.code.marks.taken.items x.sure.items = subst (λ (f : FlatView). AreAllSure (flows_of f) x.frame.code.marks.own.items x.frame.code.marks.taken.items x.sure.items) going.frame.code.flat whole.sure in
    let after : IsAfter job.plan.flat x.board c.renew.new.self = subst (λ (f : FlatView). IsAfter f x.board c.renew.new.self) flat_is c.renew.ensures in
    let right = block_right job x.site x.frame going.frame x.t x.len within x.board x.sure.items going.sheet all in
    let shown : StaysNearIn job.plan.flat x.t x.len x.board x.frame.code.needs.items x.columns.items c.show_part.new.columns.items =
    subst (λ (f : FlatView). StaysNearIn f x.t x.len x.board x.frame.code.needs.items x.columns.items c.show_part.new.columns.items) flat_is
    (subst (λ (needs : List ℕ). StaysNearIn c.deref-flat.result.now x.t x.len x.board needs x.columns.items c.show_part.new.columns.items) c.as_slice-needs.ensures.value (c.in-Ok-false.ensures.near (search rules))) in
    let near = shown.near (part_in x.frame) job.inputs (streams_of job) going.frame.run.fit (solved job going.frame.run) within going.frame.code.needs right going.past.near in
    let kept : AreKept job.plan.flat c.show_part.new.columns.items c.clear_others.new.columns.items = subst (λ (f : FlatView). AreKept f c.show_part.new.columns.items c.clear_others.new.columns.items) flat_is c.clear_others.ensures.kept in
    record {
      frame = going.frame;
      within = c.next_len-self.ensures;
      sheet = record {
        stands = next_stands job x.site x.frame going.frame x.t x.len within x.board x.sure.items going.sheet all c.next_len-self.result c.renew.new.self after;
        sure = none_sure job.plan.flat x.frame.code.marks.own.items x.frame.code.marks.taken.items c.renew.new.self.spans.items c.clear.new.marks.items c.clear.ensures;
      };
      ends = next_ends job x.site x.frame going.frame x.t x.len within x.board x.sure.items going.sheet all x.sources.items c.begin_sources.new.sources.items x.outlets.items c.begin_outlets.new.outlets.items going.ends whole.brought whole.sent c.begin_sources.ensures c.begin_outlets.ensures;
      past = next_past job x.site x.frame going.frame x.t x.len within x.board x.sure.items going.sheet all x.columns.items c.clear_others.new.columns.items going.past
          (kept_near job.plan.flat (streams_of job) x.t (x.t + x.len) c.show_part.new.columns.items c.clear_others.new.columns.items near kept);
    }
