-- Behind a block of a site: what it was, and where the next one begins.
use Rattle.std.proofs.Common.{◌≡◌, ◌≢◌, ℕ, ◌+◌, ◌-◌, ◌≤◌, inl, inr, Bool, true, false, List, Some, sym, subst, ◌∙◌, ap, arith}
use Rattle.std.proofs.lemmas.Bool.{cases_lt}
use Rattle.std.proofs.lemmas.Option.{slice_get_within}
use Rattle.luflow.specs.declared.form.Form.{Form}
use Rattle.luflow.specs.declared.form.Flow.{Flow}
use Rattle.luflow.specs.Program.{flow_at, flows_of}
use Rattle.luflow.specs.Streams.{Broken}
use Rattle.luflow.specs.Messages.{presents}
use Rattle.luflow.proofs.Solutions.{some_at}
use Rattle.luworld.specs.Jobs.{JobView, streams_of}
use Rattle.lublock_kernels.specs.Blocks.{Block, SolvesAt, datum_at}
use Rattle.lublock_kernels.specs.Parts.{Part, IsRightIn, IsSolvedIn, knows}
use Rattle.lublock_kernels.specs.Machine.{block_of, ticks_of, upto_of, known_of, taken_of, IsDone, ClosesAt}
use Rattle.lublock_kernels.specs.Wholes.{IsWholeAt}
use Rattle.lublock_kernels.proofs.Rights.{goes_out, known_own}
use Rattle.lublock_kernels.proofs.Wholes.{whole_right_in, whole_solved_in, next_begins}
use Rattle.lublock.specs.declared.board.Board.{Board}
use Rattle.lublock.specs.Boards.{StandsOn, IsAfter}
use Rattle.lublock.specs.Shown.{Column, AreNear}
use Rattle.lublock_site.specs.Stations.{Brings, Sends}
use Rattle.lublock_site.specs.Going.{part_in, IsFrame, IsKnown, IsSheet, AreEnds, IsPast}
use Rattle.lublock_site.specs.Blocks.{AreAllSure, HaveBrought, HaveSent, AreSourcesBegun, AreOutletsBegun}
use Rattle.lublock_site.specs.declared.sources.Source.{Source}
use Rattle.lublock_site.specs.declared.outlets.Outlet.{Outlet}
use Rattle.lublock_site.specs.declared.site.Frame.{Frame}
use Rattle.lublock_site.proofs.Moving.{is_flat, solved}

module _ (job : JobView) (site : ℕ) (frame : Frame) (is : IsFrame job site frame) (t len : ℕ) (within : t + len ≤ job.inputs.instants) (board : Board) (sure : List Bool) (sheet : IsSheet job frame t len board sure) (all : AreAllSure (flows_of job.plan.flat) frame.code.marks.own.items frame.code.marks.taken.items sure) where
  abbrev part : Part
  part = part_in frame

  abbrev now : Block
  now = block_of board.rows.items board.spans.items

  complete : (i : ℕ) (flow : Flow) → flow_at job.plan.flat i ≡ Some flow → knows part i ≡ true → IsWholeAt board.spans.items i
  complete i flow there known = (sheet.sure.settled i (all i (slice_get_within job.plan.flat.flows i flow there) known)).whole

  closes : (i : ℕ) → part.own i ≡ true → ClosesAt job.plan.flat board.rows.items board.spans.items i
  closes i own supposed flow there = absurd (let e : true ≡ false = sym supposed ∙ (sheet.sure.settled i (all i (slice_get_within job.plan.flat.flows i flow there) (known_own part i own))).found in cc)

  pub block_right : IsRightIn part job.plan.flat job.inputs (streams_of job) t len now
  block_right = whole_right_in part job.plan.flat job.inputs (streams_of job) t len board.rows.items board.spans.items (is_flat job is.run) is.run.fit (solved job is.run) within is.code.marks.part complete closes sheet.stands.stands

  block_solved : IsSolvedIn part job.plan.flat job.inputs (streams_of job) t len now
  block_solved = whole_solved_in part job.plan.flat job.inputs (streams_of job) t len board.rows.items board.spans.items complete closes sheet.stands.stands

  -- a flow was present once more for each of its ticks
  present_after : (i : ℕ) → IsKnown job frame i → presents (streams_of job i) (t + len) ≡ presents (streams_of job i) t + ticks_of board.spans.items i
  present_after i known =
      let f = some_at job.plan.flat.flows i known.there in
      (goes_out part job.plan.flat job.inputs (streams_of job) t len now (is_flat job is.run) is.run.fit (solved job is.run) within sheet.stands.stands.begins is.code.marks.part block_right i f.0 f.1 known.known).after

  -- the next block's rows stand
  pub next_stands : (len' : ℕ) (next : Board) → IsAfter job.plan.flat board next → StandsOn part job.plan.flat job.inputs (streams_of job) (t + len) len' next
  next_stands len' next after =
      let marked : (i : ℕ) → part.taken i ≡ true → taken_of next.spans.items i ≡ true = λ i taken. after.taken i ∙ sheet.stands.marked i taken in
      record {
        marked = marked;
        stands = record {
          begins = next_begins part job.plan.flat job.inputs (streams_of job) t len now (block_of next.rows.items next.spans.items) block_right (record { first = λ r known. after.first r; was = λ r known. after.was r });
          done = λ i n flow there own none l.
              let a = after.upto i n flow there l in
              let was = subst (λ (f : Form). SolvesAt job.plan.flat job.inputs t now i flow f n) a.0.1 (block_solved.forms i flow there own n a.1) in
              subst (λ (f : Form). IsDone job.plan.flat job.inputs (t + len) (block_of next.rows.items next.spans.items) (upto_of next.spans.items) (known_of next.spans.items) i flow f n) (sym a.0.1) (ap (datum_at flow.kind) (after.beside i n) ∙ was, tt);
          came = λ i n flow there taken l. absurd (let none = after.none i (marked i taken) in omega (arith, none, l));
          counts = λ i flow there on. absurd (let e : true ≡ false = sym on ∙ after.known i in cc);
        };
      }

  -- the ends go on with the next block
  next_source : (x y : Source) → IsKnown job frame x.flow → y ≡ record x { got = 0 } → x.got ≡ ticks_of board.spans.items x.flow → Brings job t x → Brings job (t + len) y
  next_source x y known e got brings = subst (Brings job (t + len)) (sym e) (record {
    ticks = λ unclosed.
        let b = brings.ticks unclosed in
        record {
          job_is = b.job_is;
          listed = b.listed;
          flow_is = b.flow_is;
          count = let c = b.count in let p = present_after x.flow known in omega (arith, c, p, got);
        };
  })

  next_outlet : (x y : Outlet) → IsKnown job frame x.flow → y ≡ record x { sent = 0 } → x.sent ≡ ticks_of board.spans.items x.flow → Sends job.plan.flat job t x → Sends job.plan.flat job (t + len) y
  next_outlet x y known e sent sends = subst (Sends job.plan.flat job (t + len)) (sym e) (record {
    never = sends.never;
    number = sends.number;
    ticks = λ unclosed.
        let b = sends.ticks unclosed in
        record {
          job_is = b.job_is;
          listed = b.listed;
          flow_is = b.flow_is;
          count = let c = b.count in let p = present_after x.flow known in omega (arith, c, p, sent);
        };
  })

  pub next_ends : (sources sources' : List Source) (outlets outlets' : List Outlet) → AreEnds job frame t sources outlets → HaveBrought board.spans.items sources → HaveSent board.spans.items outlets → AreSourcesBegun sources sources' → AreOutletsBegun outlets outlets' → AreEnds job frame (t + len) sources' outlets'
  next_ends sources sources' outlets outlets' ends brought sent begun begun' = record {
    sources = λ k y there. let x = begun k y there in next_source x.0 y (ends.taken k x.0 x.1) x.2 (brought k x.0 x.1) (ends.sources k x.0 x.1);
    outlets = λ k y there. let x = begun' k y there in next_outlet x.0 y (ends.sent k x.0 x.1) x.2 (sent k x.0 x.1) (ends.outlets k x.0 x.1);
    taken = λ k y there. let x = begun k y there in subst (λ (s : Source). IsKnown job frame s.flow) (sym x.2) (ends.taken k x.0 x.1);
    sent = λ k y there. let x = begun' k y there in subst (λ (o : Outlet). IsKnown job frame o.flow) (sym x.2) (ends.sent k x.0 x.1);
  }

  -- no flow is broken in the block either
  pub next_past : (columns columns' : List Column) → IsPast job frame t columns → AreNear job.plan.flat (streams_of job) (t + len) columns' → IsPast job frame (t + len) columns'
  next_past columns columns' past near = record {
    near = near;
    sound = λ i u known l. elim (cases_lt u t) [
      | inl h ↦ past.sound i u known h
      | inr h ↦
          let f = some_at job.plan.flat.flows i known.there in
          let e : t + (u - t) ≡ u = omega arith in
          subst (λ (k : ℕ). streams_of job i k ≢ Broken) e (block_right.at i (u - t) f.0 f.1 known.known (omega arith)).sound
    ];
  }
