-- A message that was taken is a word, and a word is the message that may be put.
use Rattle.std.proofs.Common.{◌≡◌, ℕ, ◌+◌, ◌<◌, false, inl, List, length, Some, ℤ, refl, sym, subst, ◌∙◌, ap, arith, length-append}
use Rattle.std.specs.Prelude.{slice_get, Vec}
use Rattle.std.specs.declared.alloc.Global.{Global}
use Rattle.luflow.specs.declared.message.Msg.{Msg}
use Rattle.luflow.specs.declared.message.Body.TheVariants.{Close}
use Rattle.luflow.specs.Program.{FlatView}
use Rattle.luflow.specs.Messages.{presents, marks, messages}
use Rattle.luworld.specs.Jobs.{JobView, carried, streams_of}
use Rattle.luworld.proofs.Messages.{close_at}
use Rattle.lulink.specs.Lists.{list_of}
use Rattle.lulink.specs.Views.{SenderView, ReceiverView, HasTakenAll, HasTakenNothing, HasPutAll, HasPutNothing, AreNextToTake, AreNextToPut, IsNextToPut}
use Rattle.lublock_kernels.specs.declared.span.Span.{Span}
use Rattle.lublock_kernels.specs.Parts.{IsNeverNil, message_at}
use Rattle.lublock_kernels.specs.Machine.{upto_of}
use Rattle.lublock.specs.declared.board.Board.{Board}
use Rattle.luworld.specs.declared.turn.Turn.{Turn}
use Rattle.luworld.specs.declared.turn.Turn.TheVariants.{Moved, Blocked, Over}
use Rattle.luworld.specs.Turns.{IfGoes}
use Rattle.lublock_site.specs.declared.sources.Source.{Source}
use Rattle.lublock_site.specs.declared.outlets.Outlet.{Outlet}
use Rattle.lublock_site.specs.Steps.{AreComing, HasTakenMessages}
use Rattle.lublock_site.specs.Stations.{BringsTicks, SendsTicks, HasBrought, HasSent, MaySend, MayClose, AreMessagesOut}
use Rattle.lublock_site.proofs.Links.{carries, list_is}

-- what holds anyway holds of a try
pub goes : (r : Turn) (P : Type 0) → P → IfGoes r P
goes Moved P p = p
goes Blocked P p = p
goes Over P p = tt

-- a look that took nothing changes nothing of what was brought
pub brings_still : (job : JobView) (t i n : ℕ) (r r' : ReceiverView) → HasTakenNothing r r' → BringsTicks job t i n r → BringsTicks job t i n r'
brings_still job t i n r r' has brings = record {
  job_is = has.0 ∙ brings.job_is;
  listed = subst (λ (l : ℕ). l < length job.plan.links) (sym has.1) brings.listed;
  flow_is = ap (carried job.plan) has.1 ∙ brings.flow_is;
  count = ap length has.2 ∙ brings.count;
}

pub brought_none : (flat : FlatView) (i : ℕ) (board : Board) (x x' : Source) → x'.flow ≡ x.flow → x'.closed ≡ x.closed → x'.got ≡ x.got → HasTakenNothing x.rx x'.rx → HasBrought flat i board x board x'
brought_none flat i board x x' flow closed got has = record {
  flow = flow;
  closed = closed;
  even = λ e. e ∙ sym got;
  brings = λ job t brings. subst (λ (n : ℕ). BringsTicks job t i n x'.rx) (sym got) (brings_still job t i x.got x.rx x'.rx has brings);
  stands = λ job part t len free even brings stands. stands;
  kept = λ r h. h;
  flows = refl;
}

pub brought_more : (flat : FlatView) (i : ℕ) (a : Board) (x : Source) (b : Board) (y : Source) (c : Board) (z : Source) → HasBrought flat i a x b y → HasBrought flat i b y c z → HasBrought flat i a x c z
brought_more flat i a x b y c z f g = record {
  flow = g.flow ∙ f.flow;
  closed = g.closed ∙ f.closed;
  even = λ e. g.even (f.even e);
  brings = λ job t h. g.brings job t (f.brings job t h);
  stands = λ job part t len free even brings stands. g.stands job part t len free (f.even even) (f.brings job t brings) (f.stands job part t len free even brings stands);
  kept = λ r h. g.kept r (f.kept r h);
  flows = g.flows ∙ f.flows;
}

module _ (flat : FlatView) (i : ℕ) (old new : Board) (x x' : Source) (msgs : List Msg) (n : ℕ) (long : length msgs ≡ n) (next : AreNextToTake x.rx msgs) (has : HasTakenAll msgs x.rx x'.rx) (words : HasTakenMessages flat i msgs old new) (flow : x'.flow ≡ x.flow) (closed : x'.closed ≡ x.closed) (got : x'.got ≡ x.got + n) where
  coming : (job : JobView) (t : ℕ) → upto_of old.spans.items i ≡ x.got → BringsTicks job t i x.got x.rx → AreComing job.inputs (streams_of job) i (presents (streams_of job i) t + upto_of old.spans.items i) msgs
  coming job t even brings k m d there body =
      let here : slice_get (list_of job x.rx.link) (length x.rx.taken + k) ≡ Some m = subst (λ (j : JobView). slice_get (list_of j x.rx.link) (length x.rx.taken + k) ≡ Some m) brings.job_is (next k m there) in
      let found = (carries job x.rx.link brings.listed).into (length x.rx.taken + k) d m here body in
      let p : length x.rx.taken + k ≡ (presents (streams_of job i) t + upto_of old.spans.items i) + k = let c = brings.count in omega (arith, c, even) in
      subst (λ (q : ℕ). message_at job.inputs (streams_of job) i q ≡ Some d) p
      (subst (λ (f : ℕ). message_at job.inputs (streams_of job) f (length x.rx.taken + k) ≡ Some d) brings.flow_is found)

  more : length x'.rx.taken ≡ length x.rx.taken + n
  more = ap length has.2 ∙ length-append x.rx.taken msgs ∙ ap (λ (m : ℕ). length x.rx.taken + m) long

  pub brought_run : HasBrought flat i old x new x'
  brought_run = record {
    flow = flow;
    closed = closed;
    even = λ e. (let c = words.count in omega (arith, e, c, got, long));
    brings = λ job t brings. record {
      job_is = has.0 ∙ brings.job_is;
      listed = subst (λ (l : ℕ). l < length job.plan.links) (sym has.1) brings.listed;
      flow_is = ap (carried job.plan) has.1 ∙ brings.flow_is;
      count = let a = more in let b = brings.count in omega (arith, a, b, got);
    };
    stands = λ job part t len free even brings stands. words.stands part job.inputs (streams_of job) t len free (coming job t even brings) stands;
    kept = words.kept;
    flows = words.flows;
  }

-- the messages of an end's next ticks are the next of its link
pub may_put : (flat : FlatView) (rows : List (Vec ℤ Global)) (spans : List Span) (x : Outlet) (msgs : List Msg) → MaySend flat rows spans x → AreMessagesOut flat rows spans x msgs → AreNextToPut x.tx msgs
may_put flat rows spans x msgs may are k m there =
    let of = are k m there in
    let d = of.0 in
    let job = may.job in
    let sends = may.sends.ticks may.unclosed in
    let number = may.sends.number may.unclosed in
    let found = of.2 job.inputs (streams_of job) may.first may.len may.flow may.there may.goes (inl may.sends.never) in
    let p : presents (streams_of job x.flow) may.first + (x.sent + k) ≡ x.number + k = let c = sends.count in omega (arith, c, number) in
    let here : message_at job.inputs (streams_of job) x.flow (x.number + k) ≡ Some d = subst (λ (n : ℕ). message_at job.inputs (streams_of job) x.flow n ≡ Some d) p found in
    let out = (carries job x.tx.link sends.listed).out (x.number + k) d (subst (λ (f : ℕ). message_at job.inputs (streams_of job) f (x.number + k) ≡ Some d) (sym sends.flow_is) here) in
    subst (λ (j : JobView). slice_get (list_of j x.tx.link) (length x.tx.put + k) ≡ Some m) (sym sends.job_is)
    (subst (λ (n : ℕ). slice_get (list_of job x.tx.link) (n + k) ≡ Some m) number (out ∙ ap (λ (y : Msg). Some y) (sym of.1)))

-- nothing was put
pub sends_still : (job : JobView) (t i n : ℕ) (s s' : SenderView) → HasPutNothing s s' → SendsTicks job t i n s → SendsTicks job t i n s'
sends_still job t i n s s' has sends = record {
  job_is = has.0 ∙ sends.job_is;
  listed = subst (λ (l : ℕ). l < length job.plan.links) (sym has.1) sends.listed;
  flow_is = ap (carried job.plan) has.1 ∙ sends.flow_is;
  count = ap length has.2 ∙ sends.count;
}

pub sent_none : (flat : FlatView) (x x' : Outlet) → x'.flow ≡ x.flow → x'.sent ≡ x.sent → x'.number ≡ x.number → x'.closed ≡ x.closed → HasPutNothing x.tx x'.tx → HasSent flat x x'
sent_none flat x x' flow sent number closed has = record {
  flow = flow;
  sends = λ job t h. record {
    never = subst (λ (i : ℕ). IsNeverNil flat i) (sym flow) h.never;
    ticks = λ unclosed. subst (λ (i : ℕ). SendsTicks job t i x'.sent x'.tx) (sym flow) (subst (λ (n : ℕ). SendsTicks job t x.flow n x'.tx) (sym sent) (sends_still job t x.flow x.sent x.tx x'.tx has (h.ticks (sym closed ∙ unclosed))));
    number = λ unclosed. number ∙ h.number (sym closed ∙ unclosed) ∙ sym (ap length has.2);
  };
}

pub sent_more : (flat : FlatView) (x y z : Outlet) → HasSent flat x y → HasSent flat y z → HasSent flat x z
sent_more flat x y z f g = record { flow = g.flow ∙ f.flow; sends = λ job t h. g.sends job t (f.sends job t h) }

-- so many messages were put
pub sent_run : (flat : FlatView) (x x' : Outlet) (msgs : List Msg) (n : ℕ) → length msgs ≡ n → x.closed ≡ false → x'.flow ≡ x.flow → x'.sent ≡ x.sent + n → x'.number ≡ x.number + n → x'.closed ≡ x.closed → HasPutAll msgs x.tx x'.tx → HasSent flat x x'
sent_run flat x x' msgs n long unclosed flow sent number closed has =
    let more : length x'.tx.put ≡ length x.tx.put + n = ap length has.2 ∙ length-append x.tx.put msgs ∙ ap (λ (m : ℕ). length x.tx.put + m) long in
    record {
      flow = flow;
      sends = λ job t h.
          let s = h.ticks unclosed in
          record {
            never = subst (λ (i : ℕ). IsNeverNil flat i) (sym flow) h.never;
            ticks = λ now. subst (λ (i : ℕ). SendsTicks job t i x'.sent x'.tx) (sym flow) (record {
              job_is = has.0 ∙ s.job_is;
              listed = subst (λ (l : ℕ). l < length job.plan.links) (sym has.1) s.listed;
              flow_is = ap (carried job.plan) has.1 ∙ s.flow_is;
              count = let c = s.count in omega (arith, more, c, sent);
            });
            number = λ now. (let m = h.number unclosed in omega (arith, more, m, number));
          };
    }

-- behind the last instant the close is the next message
pub may_close : (flat : FlatView) (x : Outlet) → MayClose flat x → IsNextToPut x.tx (record { no = x.number; body = Close })
may_close flat x may =
    let job = may.job in
    let sends = may.sends.ticks may.unclosed in
    let number = may.sends.number may.unclosed in
    let σ = streams_of job in
    let all : length x.tx.put ≡ presents (σ x.flow) job.inputs.instants = let c = sends.count in let n = may.none in omega (arith, c, n) in
    let here = close_at (σ x.flow) job.inputs.instants may.last may.known in
    let k : presents (σ x.flow) job.inputs.instants ≡ x.number = sym all ∙ sym number in
    let close : slice_get (messages 0 (marks (σ x.flow) job.inputs.instants)) x.number ≡ Some (record { no = x.number; body = Close }) =
    subst (λ (n : ℕ). slice_get (messages 0 (marks (σ x.flow) job.inputs.instants)) n ≡ Some (record { no = n; body = Close })) k here in
    let listed : slice_get (list_of job x.tx.link) x.number ≡ Some (record { no = x.number; body = Close }) =
    ap (λ (xs : List Msg). slice_get xs x.number) (list_is job x.tx.link sends.listed ∙ ap (λ (i : ℕ). messages 0 (marks (σ i) job.inputs.instants)) sends.flow_is) ∙ close in
    subst (λ (j : JobView). slice_get (list_of j x.tx.link) (length x.tx.put) ≡ Some (record { no = x.number; body = Close })) (sym sends.job_is)
    (subst (λ (m : ℕ). slice_get (list_of job x.tx.link) m ≡ Some (record { no = x.number; body = Close })) number listed)

-- an end that went on, of the same flow
pub brought_on : (flat : FlatView) (a : Board) (x : Source) (b : Board) (y : Source) (c : Board) (z : Source) → HasBrought flat x.flow a x b y → HasBrought flat y.flow b y c z → HasBrought flat x.flow a x c z
brought_on flat a x b y c z f g = brought_more flat x.flow a x b y c z f (subst (λ (i : ℕ). HasBrought flat i b y c z) f.flow g)
