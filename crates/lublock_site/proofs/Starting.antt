-- A site before its first block.
use Rattle.std.proofs.Common.{◌≡◌, ℕ, zero, suc, ◌+◌, ◌<◌, ◌≤◌, Bool, true, false, List, [], ◌∷◌, length, replicate, map, Some, refl, sym, subst, ◌∙◌, ap, arith}
use Rattle.std.specs.Prelude.{All, slice_get, ◌||◌}
use Rattle.luflow.specs.declared.data.Datum.TheVariants.{Nil}
use Rattle.luflow.specs.Program.{FlatView, InputsView}
use Rattle.luflow.specs.Streams.{Streams}
use Rattle.luflow.proofs.Solutions.{all_at}
use Rattle.luworld.specs.Jobs.{JobView, carried, streams_of}
use Rattle.lulink.specs.Views.{IsUnusedReceiver, IsUnusedSender, ReceiverView, SenderView}
use Rattle.lublock_kernels.specs.declared.span.Span.{Span}
use Rattle.lublock_kernels.specs.Parts.{IsNeverNil}
use Rattle.lublock_kernels.specs.Machine.{taken_of, upto_of, was_of, known_of}
use Rattle.lublock.specs.declared.board.Board.{Board}
use Rattle.lublock.specs.Boards.{StandsOn}
use Rattle.lublock.specs.Shown.{Column}
use Rattle.lublock.proofs.Showing.{empty_near}
use Rattle.lublock_site.specs.Codes.{IsMarkedLink, IsSentLink}
use Rattle.lublock_site.specs.Marks.{marked, marked_part}
use Rattle.lublock_site.specs.Stations.{Brings, BringsTicks, Sends, SendsTicks}
use Rattle.lublock_site.specs.Going.{AreEnds, IsFrame, IsGoing, IsKnown, IsPast, IsSheet}
use Rattle.lublock_site.specs.Starts.{AreFirstOutlets, AreFirstSources, IsFirstBoard, first_span}
use Rattle.lublock_site.specs.declared.code_links.SiteLink.{SiteLink}
use Rattle.lublock_site.specs.declared.outlets.Outlet.{Outlet}
use Rattle.lublock_site.specs.declared.site.Frame.{Frame}
use Rattle.lublock_site.specs.declared.site.RowSite.{RowSite}
use Rattle.lublock_site.specs.declared.sources.Source.{Source}
use Rattle.lublock_site.proofs.Closed.{none_sure}

-- an unused receiving end has brought nothing of the block from instant 0 on, and a sending end has sent nothing
brings_none : (job : JobView) (taken : List Bool) (link : SiteLink) (r : ReceiverView) → IsMarkedLink job.plan taken link → r.link ≡ link.link → IsUnusedReceiver job r → BringsTicks job 0 link.flow 0 r
brings_none job taken link r is at unused = record {
  job_is = unused.job_is;
  listed = subst (λ (l : ℕ). l < length job.plan.links) (sym at) is.listed;
  flow_is = ap (carried job.plan) at ∙ is.flow_is;
  count = ap length unused.unused;
}

sends_none : (job : JobView) (own : List Bool) (link : SiteLink) (s : SenderView) → IsMarkedLink job.plan own link → s.link ≡ link.link → IsUnusedSender job s → SendsTicks job 0 link.flow 0 s
sends_none job own link s is at unused = record {
  job_is = unused.job_is;
  listed = subst (λ (l : ℕ). l < length job.plan.links) (sym at) is.listed;
  flow_is = ap (carried job.plan) at ∙ is.flow_is;
  count = ap length unused.unused;
}

-- before the first block no flow has a word, has ticked or is counted, and those that are taken are marked
first_upto : (taken : List Bool) (r : ℕ) → upto_of (map first_span taken) r ≡ 0
first_upto [] r = refl
first_upto (b ∷ taken) zero = refl
first_upto (b ∷ taken) (suc r) = first_upto taken r

first_known : (taken : List Bool) (r : ℕ) → known_of (map first_span taken) r ≡ false
first_known [] r = refl
first_known (b ∷ taken) zero = refl
first_known (b ∷ taken) (suc r) = first_known taken r

first_was : (taken : List Bool) (r : ℕ) → was_of (map first_span taken) r ≡ false
first_was [] r = refl
first_was (b ∷ taken) zero = refl
first_was (b ∷ taken) (suc r) = first_was taken r

first_taken : (taken : List Bool) (r : ℕ) → taken_of (map first_span taken) r ≡ marked taken r
first_taken [] r = refl
first_taken (b ∷ taken) zero = refl
first_taken (b ∷ taken) (suc r) = first_taken taken r

-- nothing is marked in a list of false marks
pub none_marked : (n i : ℕ) → marked (replicate n false) i ≡ false
none_marked zero i = refl
none_marked (suc n) zero = refl
none_marked (suc n) (suc i) = none_marked n i

-- a board before the first block stands for the part of these marks, whatever its rows hold
pub first_stands : (own taken : List Bool) (flat : FlatView) (inputs : InputsView) (σ : Streams) (len : ℕ) (board : Board) → IsFirstBoard taken board → StandsOn (marked_part own taken) flat inputs σ 0 len board
first_stands own taken flat inputs σ len board is = record {
  marked = λ i mark. ap (λ (spans : List Span). taken_of spans i) is ∙ first_taken taken i ∙ mark;
  stands = record {
    begins = λ r flow there known. record {
      datum = Nil;
      last = refl;
      holds = λ ne. absurd (ne refl);
      ticks = ap (λ (w : Bool). Some w) (sym (ap (λ (spans : List Span). was_of spans r) is ∙ first_was taken r));
    };
    came = λ i n flow there mark l. absurd (let none : upto_of board.spans.items i ≡ 0 = ap (λ (spans : List Span). upto_of spans i) is ∙ first_upto taken i in omega (arith, none, l));
    done = λ i n flow there mark now l. absurd (let none : upto_of board.spans.items i ≡ 0 = ap (λ (spans : List Span). upto_of spans i) is ∙ first_upto taken i in omega (arith, none, l));
    counts = λ i flow there on. absurd (let e : true ≡ false = sym on ∙ ap (λ (spans : List Span). known_of spans i) is ∙ first_known taken i in cc);
  };
}

-- the rows stand in the first block, and nothing is sure
pub first_sheet : (job : JobView) (frame : Frame) (len : ℕ) (board : Board) (sure : List Bool) → IsFirstBoard frame.code.marks.taken.items board → ((i : ℕ) → marked sure i ≡ false) → IsSheet job frame 0 len board sure
first_sheet job frame len board sure is none = record {
  stands = first_stands frame.code.marks.own.items frame.code.marks.taken.items job.plan.flat job.inputs (streams_of job) len board is;
  sure = none_sure job.plan.flat frame.code.marks.own.items frame.code.marks.taken.items board.spans.items sure none;
}

-- a marked flow is known
own_known : (x y : Bool) → x ≡ true → x || y ≡ true
own_known true y h = refl
own_known false y h = absurd (let e : false ≡ true = h in cc)

taken_known : (x y : Bool) → y ≡ true → x || y ≡ true
taken_known true y h = refl
taken_known false y h = h

-- unused ends have passed no tick of the first block, and their flows are known
module _ (job : JobView) (frame : Frame) (into out : List SiteLink) (rxs : List ReceiverView) (txs : List SenderView) (sources : List Source) (outlets : List Outlet) (into_is : All (IsMarkedLink job.plan frame.code.marks.taken.items) into) (out_is : All (IsSentLink job.plan frame.code.marks.own.items) out) (receivers : (k : ℕ) (r : ReceiverView) → slice_get rxs k ≡ Some r → IsUnusedReceiver job r)
    (senders : (k : ℕ) (s : SenderView) → slice_get txs k ≡ Some s → IsUnusedSender job s) (are : AreFirstSources into rxs sources) (are_out : AreFirstOutlets out txs outlets)
  where
    link_into : (k : ℕ) (link : SiteLink) → slice_get into k ≡ Some link → IsMarkedLink job.plan frame.code.marks.taken.items link
    link_into k link there = all_at (IsMarkedLink job.plan frame.code.marks.taken.items) into k link into_is there

    link_out : (k : ℕ) (link : SiteLink) → slice_get out k ≡ Some link → IsSentLink job.plan frame.code.marks.own.items link
    link_out k link there = all_at (IsSentLink job.plan frame.code.marks.own.items) out k link out_is there

    first_brings : (k : ℕ) (x : Source) → slice_get sources k ≡ Some x → Brings job 0 x
    first_brings k x there =
        let (link, link_there, r, r_there, is) = are k x there in
        let none = brings_none job frame.code.marks.taken.items link r (link_into k link link_there) is.link_is (receivers k r r_there) in
        record {
          ticks = λ open'.
              subst (λ (e : ReceiverView). BringsTicks job 0 x.flow x.got e) (sym is.rx_is)
              (subst (λ (n : ℕ). BringsTicks job 0 x.flow n r) (sym is.none) (subst (λ (i : ℕ). BringsTicks job 0 i 0 r) (sym is.flow_is) none));
        }

    first_sends : (k : ℕ) (x : Outlet) → slice_get outlets k ≡ Some x → Sends job.plan.flat job 0 x
    first_sends k x there =
        let (link, link_there, s, s_there, is) = are_out k x there in
        let sent = link_out k link link_there in
        let unused = senders k s s_there in
        let none = sends_none job frame.code.marks.own.items link s sent.own_is is.link_is unused in
        record {
          never = subst (λ (i : ℕ). IsNeverNil job.plan.flat i) (sym is.flow_is) sent.never;
          ticks = λ open'.
              subst (λ (e : SenderView). SendsTicks job 0 x.flow x.sent e) (sym is.tx_is)
              (subst (λ (n : ℕ). SendsTicks job 0 x.flow n s) (sym is.none) (subst (λ (i : ℕ). SendsTicks job 0 i 0 s) (sym is.flow_is) none));
          number = λ open'. is.first ∙ sym (ap length unused.unused) ∙ ap (λ (e : SenderView). length e.put) (sym is.tx_is);
        }

    pub first_ends : AreEnds job frame 0 sources outlets
    first_ends = record {
      sources = first_brings;
      outlets = first_sends;
      taken = λ k x there.
          let (link, link_there, r, r_there, is) = are k x there in
          let l = link_into k link link_there in
          subst (IsKnown job frame) (sym is.flow_is) (record { there = l.there; known = taken_known (marked frame.code.marks.own.items link.flow) (marked frame.code.marks.taken.items link.flow) l.is_marked });
      sent = λ k x there.
          let (link, link_there, s, s_there, is) = are_out k x there in
          let l = (link_out k link link_there).own_is in
          subst (IsKnown job frame) (sym is.flow_is) (record { there = l.there; known = own_known (marked frame.code.marks.own.items link.flow) (marked frame.code.marks.taken.items link.flow) l.is_marked });
    }

-- nothing lies before instant 0
pub first_past : (job : JobView) (frame : Frame) (columns : List Column) → All (λ (column : Column). column.items ≡ []) columns → IsPast job frame 0 columns
first_past job frame columns empty = record {
  near = empty_near job.plan.flat (streams_of job) 0 columns empty;
  sound = λ i u known l. absurd (omega (arith, l));
}

-- a site that has these parts before its first block goes on from there
pub first_going : (x : RowSite) (job : JobView) (site : ℕ) → x.job.value ≡ job → x.site ≡ site → x.t ≡ 0 → 0 + x.len ≤ x.frame.instants → IsFrame job site x.frame → IsFirstBoard x.frame.code.marks.taken.items x.board → ((i : ℕ) → marked x.sure.items i ≡ false) → AreEnds job x.frame 0 x.sources.items x.outlets.items
    → All (λ (column : Column). column.items ≡ []) x.columns.items → IsGoing x
first_going x job site job_is site_is t_is few frame board none ends empty =
    let j = sym job_is in record {
      frame = subst (λ (r : JobView). IsFrame r x.site x.frame) j (subst (λ (s : ℕ). IsFrame job s x.frame) (sym site_is) frame);
      within = omega (arith, t_is, few);
      sheet = subst (λ (t : ℕ). IsSheet x.job.value x.frame t x.len x.board x.sure.items) (sym t_is) (first_sheet x.job.value x.frame x.len x.board x.sure.items board none);
      ends = subst (λ (t : ℕ). AreEnds x.job.value x.frame t x.sources.items x.outlets.items) (sym t_is) (subst (λ (r : JobView). AreEnds r x.frame 0 x.sources.items x.outlets.items) j ends);
      past = subst (λ (t : ℕ). IsPast x.job.value x.frame t x.columns.items) (sym t_is) (first_past x.job.value x.frame x.columns.items empty);
    }
