-- A site in rows stays one, whatever it does in a step.
use Rattle.std.proofs.Common.{◌≡◌, ℕ, ◌+◌, ◌≤◌, Bool, true, false, List, set, Some, sym, subst, ◌∙◌, arith}
use Rattle.std.specs.Prelude.{slice_get, Vec}
use Rattle.std.specs.declared.alloc.Global.{Global}
use Rattle.luflow.specs.declared.message.Msg.{Msg}
use Rattle.std.proofs.lemmas.Option.{same_Some, slice_get_within}
use Rattle.luflow.specs.declared.form.Flow.{Flow}
use Rattle.luflow.specs.Program.{FlatView, flow_at}
use Rattle.luflow.specs.Streams.{before}
use Rattle.luflow.specs.Solution.{IsSolution}
use Rattle.luflow.specs.Flats.{IsFlat}
use Rattle.luflow.proofs.Solutions.{IsSolution-solution, some_at}
use Rattle.luworld.specs.Jobs.{JobView, IsJobView, streams_of}
use Rattle.lublock_kernels.specs.Parts.{Part, IsRightIn, GoesOut, knows}
use Rattle.lublock_kernels.specs.Machine.{block_of, upto_of, known_of, supposed_of, ClosesAt}
use Rattle.lublock_kernels.proofs.Rights.{goes_out}
use Rattle.lublock_kernels.proofs.Wholes.{whole_right_in, sub_stands}
use Rattle.lublock_kernels.proofs.Steps.{get_other, get_same, same_place}
use Rattle.lublock.specs.declared.board.Board.{Board}
use Rattle.lublock.specs.Boards.{StandsStill}
use Rattle.lublock_plan.specs.declared.cycle.Cycle.{Cycle}
use Rattle.luworld.specs.declared.turn.Turn.{Turn}
use Rattle.luworld.specs.declared.turn.Turn.TheVariants.{Moved, Blocked, Over}
use Rattle.luworld.specs.Turns.{IfGoes, is_over}
use Rattle.lublock_site.specs.Marks.{marked}
use Rattle.lublock_site.specs.Sure.{sure_part, AreSure}
use Rattle.lublock_site.specs.Stations.{Brings, BringsTicks, Sends, HasBrought, HasSent, IsLater, MayClose, MaySend}
use Rattle.lublock_site.specs.Going.{part_in, IsFrame, IsKnown, IsSheet, AreEnds, IsGoing}
use Rattle.lublock_site.specs.declared.sources.Source.{Source}
use Rattle.lublock_site.specs.declared.outlets.Outlet.{Outlet}
use Rattle.lublock_site.specs.declared.site.Frame.{Frame}
use Rattle.lublock_site.specs.declared.site.RowSite.{RowSite}
use Rattle.lublock_site.proofs.Closed.{and_left, and_right, sure_still, sure_is, knows_sure}

-- the rows stand still
pub sheet_still : (job : JobView) (frame : Frame) (t len : ℕ) (a b : Board) (sure : List Bool) → StandsStill job.plan.flat job.inputs t len a b → IsSheet job frame t len a sure → IsSheet job frame t len b sure
sheet_still job frame t len a b sure still sheet = record {
  stands = still.still (part_in frame) (streams_of job) sheet.stands;
  sure = sure_still job.plan.flat frame.code.marks.own.items frame.code.marks.taken.items a.spans.items b.spans.items sure still.kept sheet.sure;
}

pub going_run : (x : RowSite) (run : Vec Msg Global) → IsGoing x → IsGoing (record x { run = run })
going_run x run going = record { frame = going.frame; within = going.within; sheet = going.sheet; ends = going.ends; past = going.past }

pub going_still : (x : RowSite) (b : Board) → IsGoing x → StandsStill x.job.value.plan.flat x.job.value.inputs x.t x.len x.board b → IsGoing (record x { board = b })
going_still x b going still = record {
  frame = going.frame;
  within = going.within;
  sheet = sheet_still x.job.value x.frame x.t x.len x.board b x.sure.items still going.sheet;
  ends = going.ends;
  past = going.past;
}

-- the run's solution, and what it rests on
pub is_flat : (job : JobView) → IsJobView job → IsFlat job.plan.flat
is_flat job run = run.plan_is.flat_is

pub solved : (job : JobView) → IsJobView job → IsSolution job.plan.flat job.inputs (streams_of job)
solved job run = IsSolution-solution job.plan.flat job.inputs (is_flat job run).ordered

-- what is sure is right, and goes out as messages
module _ (job : JobView) (site : ℕ) (frame : Frame) (is : IsFrame job site frame) (t len : ℕ) (within : t + len ≤ job.inputs.instants) (board : Board) (sure : List Bool) (sheet : IsSheet job frame t len board sure) where
  abbrev sub : Part
  sub = sure_part frame.code.marks.own.items frame.code.marks.taken.items sure

  sub_closes : (i : ℕ) → sub.own i ≡ true → ClosesAt job.plan.flat board.rows.items board.spans.items i
  sub_closes i own supposed = absurd (let e : true ≡ false = sym supposed ∙ (sheet.sure.settled i (and_right (marked frame.code.marks.own.items i) (marked sure i) own)).found in cc)

  pub sub_right : IsRightIn sub job.plan.flat job.inputs (streams_of job) t len (block_of board.rows.items board.spans.items)
  sub_right =
      whole_right_in sub job.plan.flat job.inputs (streams_of job) t len board.rows.items board.spans.items (is_flat job is.run) is.run.fit (solved job is.run) within sheet.sure.closed
      (λ i flow there known. (sheet.sure.settled i (sure_is frame.code.marks.own.items frame.code.marks.taken.items sure i known)).whole)
      sub_closes
      (sub_stands sub (part_in frame) (record { own = λ i h. and_left (marked frame.code.marks.own.items i) (marked sure i) h; taken = λ i h. and_left (marked frame.code.marks.taken.items i) (marked sure i) h })
      job.plan.flat job.inputs (streams_of job) t len (block_of board.rows.items board.spans.items) (upto_of board.spans.items) (known_of board.spans.items) (supposed_of board.spans.items) sheet.stands.stands)

  pub sure_goes_out : (i : ℕ) (flow : Flow) → flow_at job.plan.flat i ≡ Some flow → knows (part_in frame) i ≡ true → marked sure i ≡ true → GoesOut job.plan.flat job.inputs (streams_of job) t len (block_of board.rows.items board.spans.items) i flow
  sure_goes_out i flow there known is_sure =
      let here : knows sub i ≡ true = knows_sure frame.code.marks.own.items frame.code.marks.taken.items sure i known is_sure in
      let begins = (sub_stands sub (part_in frame) (record { own = λ i h. and_left (marked frame.code.marks.own.items i) (marked sure i) h; taken = λ i h. and_left (marked frame.code.marks.taken.items i) (marked sure i) h })
      job.plan.flat job.inputs (streams_of job) t len (block_of board.rows.items board.spans.items) (upto_of board.spans.items) (known_of board.spans.items) (supposed_of board.spans.items) sheet.stands.stands).begins in
      goes_out sub job.plan.flat job.inputs (streams_of job) t len (block_of board.rows.items board.spans.items) (is_flat job is.run) is.run.fit (solved job is.run) within begins sheet.sure.closed sub_right i flow there here

-- the messages of an end whose flow is sure may be put
pub may_send : (x : RowSite) → IsGoing x → (k : ℕ) (o : Outlet) → slice_get x.outlets.items k ≡ Some o → o.closed ≡ false → marked x.sure.items o.flow ≡ true → MaySend x.job.value.plan.flat x.board.rows.items x.board.spans.items o
may_send x going k o there unclosed is_sure =
    let job = x.job.value in
    let f = some_at job.plan.flat.flows o.flow (going.ends.sent k o there).there in
    let all = going.frame.instants in
    let within : x.t + x.len ≤ job.inputs.instants = let w = going.within in omega (arith, w, all) in
    record {
      job = job;
      first = x.t;
      len = x.len;
      flow = f.0;
      there = f.1;
      goes = sure_goes_out job x.site x.frame going.frame x.t x.len within x.board x.sure.items going.sheet o.flow f.0 f.1 (going.ends.sent k o there).known is_sure;
      sends = going.ends.outlets k o there;
      unclosed = unclosed;
    }

module _ (X : Type 0) (P : X → Type 0) where
  -- one of a list is another now
  pub all_set : (xs : List X) (k : ℕ) (x y : X) → slice_get xs k ≡ Some x → P y → ((j : ℕ) (z : X) → slice_get xs j ≡ Some z → P z) → (j : ℕ) (z : X) → slice_get (set xs k y) j ≡ Some z → P z
  all_set xs k x y there new old j z = same_place (λ (j : ℕ). slice_get (set xs k y) j ≡ Some z → P z) k j
      (λ is. subst P (same_Some y z (sym (get_same xs k y (slice_get_within xs k x there)) ∙ is)) new)
      (λ ne is. old j z (sym (get_other xs k j y ne) ∙ is))

-- an end has put messages
pub ends_sent : (job : JobView) (frame : Frame) (t : ℕ) (sources : List Source) (outlets : List Outlet) (k : ℕ) (x y : Outlet) → slice_get outlets k ≡ Some x → HasSent job.plan.flat x y → AreEnds job frame t sources outlets → AreEnds job frame t sources (set outlets k y)
ends_sent job frame t sources outlets k x y there sent ends = record {
  sources = ends.sources;
  outlets = all_set Outlet (λ (o : Outlet). Sends job.plan.flat job t o) outlets k x y there (sent.sends job t (ends.outlets k x there)) ends.outlets;
  taken = ends.taken;
  sent = all_set Outlet (λ (o : Outlet). IsKnown job frame o.flow) outlets k x y there (subst (IsKnown job frame) (sym sent.flow) (ends.sent k x there)) ends.sent;
}

pub going_sent : (x : RowSite) (outlets : Vec Outlet Global) (k : ℕ) (o p : Outlet) → IsGoing x → slice_get x.outlets.items k ≡ Some o → outlets.items ≡ set x.outlets.items k p → HasSent x.job.value.plan.flat o p → IsGoing (record x { outlets = outlets })
going_sent x outlets k o p going there are sent = record {
  frame = going.frame;
  within = going.within;
  sheet = going.sheet;
  ends = subst (λ (xs : List Outlet). AreEnds x.job.value x.frame x.t x.sources.items xs) (sym are) (ends_sent x.job.value x.frame x.t x.sources.items x.outlets.items k o p there sent going.ends);
  past = going.past;
}

-- an end has taken messages
pub ends_brought : (job : JobView) (frame : Frame) (t : ℕ) (flat : FlatView) (a b : Board) (sources : List Source) (outlets : List Outlet) (k : ℕ) (x y : Source) → slice_get sources k ≡ Some x → HasBrought flat x.flow a x b y → AreEnds job frame t sources outlets → AreEnds job frame t (set sources k y) outlets
ends_brought job frame t flat a b sources outlets k x y there brought ends = record {
  sources = all_set Source (λ (s : Source). Brings job t s) sources k x y there
      (record { ticks = λ unclosed. subst (λ (i : ℕ). BringsTicks job t i y.got y.rx) (sym brought.flow) (brought.brings job t ((ends.sources k x there).ticks (sym brought.closed ∙ unclosed))) }) ends.sources;
  outlets = ends.outlets;
  taken = all_set Source (λ (s : Source). IsKnown job frame s.flow) sources k x y there (subst (IsKnown job frame) (sym brought.flow) (ends.taken k x there)) ends.taken;
  sent = ends.sent;
}

pub going_brought : (x : RowSite) (board : Board) (sources : Vec Source Global) (k : ℕ) (s s' : Source) → IsGoing x → slice_get x.sources.items k ≡ Some s → s.closed ≡ false → upto_of x.board.spans.items s.flow ≡ s.got → marked x.frame.code.marks.own.items s.flow ≡ false
    → sources.items ≡ set x.sources.items k s' → HasBrought x.job.value.plan.flat s.flow x.board s board s' → IsGoing (record x { board = board; sources = sources })
going_brought x board sources k s s' going there unclosed even free are brought =
    let job = x.job.value in
    record {
      frame = going.frame;
      within = going.within;
      sheet = record {
        stands = brought.stands job (part_in x.frame) x.t x.len free even ((going.ends.sources k s there).ticks unclosed) going.sheet.stands;
        sure = sure_still job.plan.flat x.frame.code.marks.own.items x.frame.code.marks.taken.items x.board.spans.items board.spans.items x.sure.items brought.kept going.sheet.sure;
      };
      ends = subst (λ (xs : List Source). AreEnds job x.frame x.t xs x.outlets.items) (sym are) (ends_brought job x.frame x.t job.plan.flat x.board board x.sources.items x.outlets.items k s s' there brought going.ends);
      past = going.past;
    }

-- an end has come to the close, or has brought as much
pub going_later : (x : RowSite) (sources : Vec Source Global) (k : ℕ) (s s' : Source) → IsGoing x → slice_get x.sources.items k ≡ Some s → sources.items ≡ set x.sources.items k s' → IsLater s s' → IsGoing (record x { sources = sources })
going_later x sources k s s' going there are later = record {
  frame = going.frame;
  within = going.within;
  sheet = going.sheet;
  past = going.past;
  ends = subst (λ (xs : List Source). AreEnds x.job.value x.frame x.t xs x.outlets.items) (sym are) (record {
    sources = all_set Source (λ (o : Source). Brings x.job.value x.t o) x.sources.items k s s' there (later.brings x.job.value x.t (going.ends.sources k s there)) going.ends.sources;
    outlets = going.ends.outlets;
    taken = all_set Source (λ (o : Source). IsKnown x.job.value x.frame o.flow) x.sources.items k s s' there (subst (IsKnown x.job.value x.frame) (sym later.flow) (going.ends.taken k s there)) going.ends.taken;
    sent = going.ends.sent;
  });
}

-- behind the last instant the close of an end may be put
pub may_end : (x : RowSite) → IsGoing x → (k : ℕ) (o : Outlet) → slice_get x.outlets.items k ≡ Some o → x.t ≡ x.frame.instants → o.sent ≡ 0 → o.closed ≡ false → MayClose x.job.value.plan.flat o
may_end x going k o there all none unclosed =
    let job = x.job.value in
    let known = going.ends.sent k o there in
    let f = some_at job.plan.flat.flows o.flow known.there in
    let last = going.sheet.stands.stands.begins o.flow f.0 f.1 known.known in
    let t_is : x.t ≡ job.inputs.instants = all ∙ going.frame.instants in
    record {
      job = job;
      last = last.datum;
      known = subst (λ (t : ℕ). before (streams_of job o.flow) t ≡ Some last.datum) t_is last.last;
      sends = subst (λ (t : ℕ). Sends job.plan.flat job t o) t_is (going.ends.outlets k o there);
      none = none;
      unclosed = unclosed;
    }

-- what is done leads on
pub goes_map : (r : Turn) (P Q : Type 0) → (P → Q) → IfGoes r P → IfGoes r Q
goes_map Moved P Q f h = f h
goes_map Blocked P Q f h = f h
goes_map Over P Q f h = tt

pub going_cycle : (x : RowSite) (b : Board) (cycles : Vec Cycle Global) → IsGoing x → StandsStill x.job.value.plan.flat x.job.value.inputs x.t x.len x.board b → IsGoing (record x { board = b; cycles = cycles })
going_cycle x b cycles going still = record {
  frame = going.frame;
  within = going.within;
  sheet = sheet_still x.job.value x.frame x.t x.len x.board b x.sure.items still going.sheet;
  ends = going.ends;
  past = going.past;
}

pub going_sure : (x : RowSite) (b : Board) (sure : Vec Bool Global) → IsGoing x → StandsStill x.job.value.plan.flat x.job.value.inputs x.t x.len x.board b → AreSure x.job.value.plan.flat x.frame.code.marks.own.items x.frame.code.marks.taken.items b.spans.items sure.items → IsGoing (record x { board = b; sure = sure })
going_sure x b sure going still are = record {
  frame = going.frame;
  within = going.within;
  sheet = record { stands = still.still (part_in x.frame) (streams_of x.job.value) going.sheet.stands; sure = are };
  ends = going.ends;
  past = going.past;
}

-- what isn't over is done, or nothing was done yet
pub goes_on : (r : Turn) (P : Type 0) → is_over r ≡ false → IfGoes r P → P
goes_on Moved P e h = h
goes_on Blocked P e h = h
goes_on Over P e h = absurd (let f : true ≡ false = e in cc)
