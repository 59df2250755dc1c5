-- What is done of a block stays where the block goes on.
use Rattle.std.proofs.Common.{◌≡◌, ℕ, zero, suc, ◌+◌, ◌<◌, ◌≤◌, inl, inr, Bool, true, false, cond, Some, ℤ, refl, sym, subst, ◌∙◌, ap, ap₂, arith}
use Rattle.std.specs.Prelude.{◌||◌, nat_lt, slice_get}
use Rattle.std.proofs.lemmas.Bool.{cases_lt}
use Rattle.luflow.specs.declared.data.Datum.{Datum}
use Rattle.lutree.specs.declared.program.Kind.{Kind}
use Rattle.luflow.specs.declared.form.Clock.{Clock}
use Rattle.luflow.specs.declared.form.Clock.TheVariants.{Base, On}
use Rattle.luflow.specs.declared.form.Form.{Form}
use Rattle.luflow.specs.declared.form.Form.TheVariants.{Input, Constant, Copied, Unary, Binary, If, Pre, Arrow, When, Current, Merge}
use Rattle.luflow.specs.declared.form.Flow.{Flow}
use Rattle.luflow.specs.declared.form.Outcome.TheVariants.{Gives}
use Rattle.luflow.specs.Program.{FlatView, InputsView, flow_at}
use Rattle.luflow.specs.Operators.{is_zero, single_of, double_of}
use Rattle.luflow.specs.Streams.{Streams, is_value}
use Rattle.luflow.specs.Values.{branch_of}
use Rattle.lublock_kernels.specs.Blocks.{Block, datum_at, once, hits, Counts, Holds}
use Rattle.lublock_kernels.specs.Parts.{Part, BeginsIn, ComesAt}
use Rattle.lublock_kernels.specs.Machine.{IsDone, ReachesClock, Stands, Grows}

pub hits_same : (b b' : Block) (u : Kind) (c : ℕ) (d : Datum) (n : ℕ) → ((m : ℕ) → m ≤ n → b'.word c m ≡ b.word c m) → hits b' u c d n ≡ hits b u c d n
hits_same b b' u c d zero same = refl
hits_same b b' u c d (suc n) same = ap₂ (λ (k : ℕ) (z : ℤ). k + once (is_value d (datum_at u z))) (hits_same b b' u c d n (λ m l. same m (omega arith))) (same (suc n) (omega arith))

module _ (flat : FlatView) (inputs : InputsView) (t : ℕ) (b b' : Block) (upto upto' : ℕ → ℕ) (known known' : ℕ → Bool) (grows : Grows b b' upto upto' known known') where
  same : (r n : ℕ) → n < upto r → b'.word r (suc n) ≡ b.word r (suc n)
  same r n l = grows.words r (suc n) (omega arith)

  far : (r n : ℕ) → n < upto r → n < upto' r
  far r n l = let m = grows.more r in omega (arith, m)

  far_le : (r n : ℕ) → n ≤ upto r → n ≤ upto' r
  far_le r n l = let m = grows.more r in omega (arith, m)

  counted : (u : Kind) (c : ℕ) (d : Datum) (n : ℕ) → n ≤ upto c → hits b' u c d n ≡ hits b u c d n
  counted u c d n l = hits_same b b' u c d n (λ m k. grows.words c m (omega arith))

  clocked : (c : ℕ) (d : Datum) → ReachesClock b upto known (On c d) → ReachesClock b' upto' known' (On c d)
  clocked c d h = (grows.still c h.0, subst (λ (n : ℕ). n ≤ upto' c) (sym (grows.ticks c h.0)) (far_le c (b.ticks c) h.1))

  done_merge : (i c : ℕ) (xs : Rattle.std.specs.Prelude.List ℕ) (flow : Flow) (n : ℕ) → b'.word i (suc n) ≡ b.word i (suc n) → IsDone flat inputs t b upto known i flow (Merge c xs) n → IsDone flat inputs t b' upto' known' i flow (Merge c xs) n
  done_merge i c xs flow n own h =
      let w = same c n h.1.0 in
      let before = λ (d : Datum) (u : Kind). counted u c d n (let k = h.1.0 in omega (arith, k)) in
      let moved = λ (u : Kind). ap (λ (z : ℤ). hits b' u c (datum_at u z) n) w ∙ before (datum_at u (b.word c (suc n))) u in
      let branch = λ (u : Kind) (k : ℕ) (e : branch_of (datum_at u (b'.word c (suc n))) ≡ Some k). sym (ap (λ (z : ℤ). branch_of (datum_at u z)) w) ∙ e in (
        λ u k x is e there.
            let near = h.1.1 u k x is (branch u k e) there in
            own ∙ h.0 u k x is (branch u k e) there ∙ sym (same x (hits b u c (datum_at u (b.word c (suc n))) n) near) ∙ ap (λ (m : ℕ). b'.word x (suc m)) (sym (moved u)),
        (far c n h.1.0, λ u k x is e there. far x (hits b' u c (datum_at u (b'.word c (suc n))) n) (subst (λ (m : ℕ). m < upto x) (sym (moved u)) (h.1.1 u k x is (branch u k e) there))),
      )

  done_when : (i a : ℕ) (flow : Flow) (n : ℕ) → b'.word i (suc n) ≡ b.word i (suc n) → IsDone flat inputs t b upto known i flow (When a) n → IsDone flat inputs t b' upto' known' i flow (When a) n
  done_when i a flow n own h = (
    λ c d u m clock is lm on at.
        let r = h.1 c d clock in
        let few : m < b.ticks c = subst (λ (k : ℕ). m < k) (grows.ticks c r.0) lm in
        let near : m < upto c = let q = r.1 in omega (arith, q, few) in
        let on' : is_value d (datum_at u (b.word c (suc m))) ≡ true = sym (ap (λ (z : ℤ). is_value d (datum_at u z)) (same c m near)) ∙ on in
        let at' : hits b u c d m ≡ n = sym (counted u c d m (omega (arith, near))) ∙ at in
        own ∙ h.0 c d u m clock is few on' at' ∙ sym (same a m (let q = r.2 in omega (arith, q, few))),
    λ c d clock.
        let r = h.1 c d clock in
        let k = clocked c d (r.0, r.1) in
        (k.0, k.1, subst (λ (m : ℕ). m ≤ upto' a) (sym (grows.ticks c r.0)) (far_le a (b.ticks c) r.2)),
  )

  done_current : (i a : ℕ) (flow : Flow) (n : ℕ) → b'.word i (suc n) ≡ b.word i (suc n) → IsDone flat inputs t b upto known i flow (Current a) n → IsDone flat inputs t b' upto' known' i flow (Current a) n
  done_current i a flow n own h =
      let moved = λ (c : ℕ) (d : Datum) (u : Kind) (near : n < upto c). counted u c d (suc n) (omega (arith, near)) in (
        λ c d u clock is.
            let r = h.1 c d u clock is in
            own ∙ h.0 c d u clock is ∙ sym (grows.words a (hits b u c d (suc n)) r.1) ∙ ap (b'.word a) (sym (moved c d u r.0)),
        λ c d u clock is.
            let r = h.1 c d u clock is in
            (far c n r.0, subst (λ (m : ℕ). m ≤ upto' a) (sym (moved c d u r.0)) (far_le a (hits b u c d (suc n)) r.1)),
      )

  pub done_still : (i : ℕ) (flow : Flow) (form : Form) (n : ℕ) → b'.word i (suc n) ≡ b.word i (suc n) → IsDone flat inputs t b upto known i flow form n → IsDone flat inputs t b' upto' known' i flow form n
  done_still i flow (Input c) n own h = (h.0 ∙ ap (λ (z : ℤ). Some (datum_at flow.kind z)) (sym own), tt)
  done_still i flow (Constant d) n own h = (ap (datum_at flow.kind) own ∙ h.0, tt)
  done_still i flow (Copied a) n own h = (own ∙ h.0 ∙ sym (same a n h.1), far a n h.1)
  done_still i flow (Unary op a) n own h = (ap (λ (z : ℤ). single_of op (datum_at flow.kind z)) (same a n h.1) ∙ h.0 ∙ ap (λ (z : ℤ). Gives (datum_at flow.kind z)) (sym own), far a n h.1)
  done_still i flow (Binary op x y) n own h = (
    λ u is. ap₂ (λ (p q : ℤ). double_of op (datum_at u p) (datum_at u q)) (same x n h.1.0) (same y n h.1.1) ∙ h.0 u is ∙ ap (λ (z : ℤ). Gives (datum_at flow.kind z)) (sym own),
    (far x n h.1.0, far y n h.1.1),
  )
  done_still i flow (If c x y) n own h = (
    own ∙ h.0 ∙ ap (λ (z : ℤ). cond (is_zero z) (b.word y (suc n)) (b.word x (suc n))) (sym (same c n h.1.0))
        ∙ ap₂ (λ (p q : ℤ). cond (is_zero (b'.word c (suc n))) p q) (sym (same y n h.1.2)) (sym (same x n h.1.1)),
    (far c n h.1.0, far x n h.1.1, far y n h.1.2),
  )
  done_still i flow (Pre a) n own h = (own ∙ h.0 ∙ sym (grows.words a n h.1), far_le a n h.1)
  done_still i flow (Arrow x y) n own h = (
    own ∙ h.0 ∙ ap (λ (w : Bool). cond (w || nat_lt 0 n) (b.word y (suc n)) (b.word x (suc n))) (sym (grows.was i))
        ∙ ap₂ (λ (p q : ℤ). cond (b'.was i || nat_lt 0 n) p q) (sym (same y n h.1.1)) (sym (same x n h.1.0)),
    (far x n h.1.0, far y n h.1.1),
  )
  done_still i flow (When a) n own h = done_when i a flow n own h
  done_still i flow (Current a) n own h = done_current i a flow n own h
  done_still i flow (Merge c xs) n own h = done_merge i c xs flow n own h

  counts_still : (len i : ℕ) (k : Clock) → known i ≡ true → Counts flat len b i k × ReachesClock b upto known k → Counts flat len b' i k × ReachesClock b' upto' known' k
  counts_still len i Base is h = (grows.ticks i is ∙ h.0, tt)
  counts_still len i (On c d) is h = (
    λ u there. grows.ticks i is ∙ h.0 u there ∙ sym (counted u c d (b.ticks c) h.1.1) ∙ ap (hits b' u c d) (sym (grows.ticks c h.1.0)),
    clocked c d h.1,
  )

  begins_still : (part : Part) (σ : Streams) → BeginsIn part flat inputs σ t b → BeginsIn part flat inputs σ t b'
  begins_still part σ begins r flow there here =
      let h = begins r flow there here in
      record {
        datum = h.datum;
        last = h.last;
        holds = subst (λ (z : ℤ). Holds flow.kind z h.datum) (sym (grows.words r 0 (omega arith))) h.holds;
        ticks = h.ticks ∙ ap (λ (w : Bool). Some w) (sym (grows.was r));
      }

  -- what came is there
  came_still : (σ : Streams) (i n : ℕ) (flow : Flow) → n < upto i → ComesAt inputs σ t b i flow n → ComesAt inputs σ t b' i flow n
  came_still σ i n flow l h = (h.0, h.1, subst (λ (z : ℤ). Holds flow.kind z h.0) (sym (same i n l)) h.2)

  by_known : (len i : ℕ) (k : Clock) (p : Bool) → known i ≡ p → (known i ≡ true → Counts flat len b i k × ReachesClock b upto known k) → (known i ≡ false → Counts flat len b' i k × ReachesClock b' upto' known' k) → Counts flat len b' i k × ReachesClock b' upto' known' k
  by_known len i k true e was new = counts_still len i k e (was e)
  by_known len i k false e was new = new e

  -- a block that went on stands as before, with what is new
  pub stands_more : (supposed supposed' : ℕ → Bool) → ((r : ℕ) → supposed' r ≡ false → supposed r ≡ false) → (part : Part) (σ : Streams) (len : ℕ) → Stands part flat inputs σ t len b upto known supposed
      → ((i n : ℕ) (flow : Flow) → flow_at flat i ≡ Some flow → part.own i ≡ true → supposed' i ≡ false → upto i ≤ n → n < upto' i → IsDone flat inputs t b' upto' known' i flow flow.form n)
      → ((i n : ℕ) (flow : Flow) → flow_at flat i ≡ Some flow → part.taken i ≡ true → upto i ≤ n → n < upto' i → ComesAt inputs σ t b' i flow n)
      → ((i : ℕ) (flow : Flow) → flow_at flat i ≡ Some flow → known i ≡ false → known' i ≡ true → Counts flat len b' i flow.clock × ReachesClock b' upto' known' flow.clock)
      → Stands part flat inputs σ t len b' upto' known' supposed'
  stands_more supposed supposed' still part σ len stands new_done new_came new_counts = record {
    begins = begins_still part σ stands.begins;
    done = λ i n flow there own now l. elim (cases_lt n (upto i)) [
      | inl h ↦ done_still i flow flow.form n (same i n h) (stands.done i n flow there own (still i now) h)
      | inr h ↦ new_done i n flow there own now h l
    ];
    came = λ i n flow there taken l. elim (cases_lt n (upto i)) [
      | inl h ↦ came_still σ i n flow h (stands.came i n flow there taken h)
      | inr h ↦ new_came i n flow there taken h l
    ];
    counts = λ i flow there is. by_known len i flow.clock (known i) refl (stands.counts i flow there) (λ off. new_counts i flow there off is);
  }
