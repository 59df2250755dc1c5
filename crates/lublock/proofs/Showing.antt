-- What columns say of a solution.
use Rattle.std.proofs.Common.{◌≡◌, ◌≢◌, ℕ, zero, suc, ◌+◌, ◌-◌, ◌<◌, ◌≤◌, inl, inr, Bool, true, false, cond, List, [], ◌∷◌, ◌++◌, length, length-append, set, Option, Some, ℤ, refl, sym, subst, ◌∙◌, ap, ap₂, arith}
use Rattle.std.specs.Prelude.{slice_get, if◌then◌else◌, IfOk, Ok, Err, All}
use mir.Val.{bool_byte}
use Rattle.std.specs.declared.result.Result.{Result}
use Rattle.std.proofs.lemmas.Bool.{cases_lt, lt-ltb}
use Rattle.std.proofs.lemmas.Option.{slice_get_within, slice_get-get_or, same_Some}
use Rattle.lutree.specs.declared.program.Kind.{Kind}
use Rattle.luflow.specs.declared.data.Datum.{Datum}
use Rattle.luflow.specs.declared.data.Datum.TheVariants.{Nil}
use Rattle.luflow.specs.declared.data.Status.{Status}
use Rattle.luflow.specs.declared.data.Status.TheVariants.{Absent, Present}
use Rattle.luflow.specs.declared.form.Clock.{Clock}
use Rattle.luflow.specs.declared.form.Clock.TheVariants.{Base, On}
use Rattle.luflow.specs.declared.form.Flow.{Flow}
use Rattle.luflow.specs.Program.{FlatView, InputsView, flow_at}
use Rattle.luflow.specs.Streams.{Mark, Known, Broken, Streams, is_value, truth_in, clock_at, ticked}
use Rattle.luflow.specs.Solution.{IsSolution}
use Rattle.luflow.specs.Sound.{IsFit, IsTidyMark, ClockFits}
use Rattle.luflow.specs.Flats.{IsFlat}
use Rattle.luflow.proofs.Solutions.{all_at}
use Rattle.luflow.proofs.TidyStreams.{tidy}
use Rattle.lueval_lines.specs.Frames.{has_value}
use Rattle.lueval_lines.proofs.Spans.{slice_get_front, slice_get_last}
use Rattle.lublock_kernels.specs.Blocks.{datum_at, Holds, once, once_true, since}
use Rattle.lublock_kernels.specs.Rows.{word_in}
use Rattle.lublock_kernels.specs.Machine.{row_of}
use Rattle.lublock.specs.Shown.{Column, IsAdded, present_at, status_in, seen_in, slow_at, first_of, IsShown, IsNear, AreNear, AreKept, IsRightFlow, StaysNear, StaysNearIn}
use Rattle.lublock_kernels.proofs.Steps.{get_other, get_same, len_set, same_place}
use Rattle.lublock.specs.declared.board.Board.{Board}

pub ok_weaker : {X E : Type 0} (P Q : X → Type 0) (r : Result X E) → ((x : X) → P x → Q x) → IfOk r P → IfOk r Q
ok_weaker P Q (Ok x) f h = f x h
ok_weaker P Q (Err e) f h = tt

-- nothing was put, and one status more
pub added_none : (old : List Status) (status : ℕ → Status) → IsAdded old old 0 status
added_none old status = record {
  long = omega arith;
  kept = λ m l. refl;
  added = λ n l. absurd (omega (arith, l));
}

pub added_more : (old mid new : List Status) (n : ℕ) (status : ℕ → Status) → IsAdded old mid n status → new ≡ mid ++ status n ∷ [] → IsAdded old new (n + 1) status
added_more old mid new n status h is =
    let x = status n in
    let long = h.long in
    let more = ap length is in
    let both = length-append mid (x ∷ []) in
    let front : (m : ℕ) → m < length mid → slice_get new m ≡ slice_get mid m = λ m l. ap (λ (xs : List Status). slice_get xs m) is ∙ slice_get_front mid (x ∷ []) m l in
    record {
      long = omega (arith, more, both, long);
      kept = λ m l. front m (omega (arith, l, long)) ∙ h.kept m l;
      added = λ k l. elim (cases_lt k n) [
        | inl low ↦ front (length old + k) (omega (arith, low, long)) ∙ h.added k low
        | inr high ↦
            let e : k ≡ n = omega (arith, high, l) in
            ap (λ (xs : List Status). slice_get xs (length old + k)) is
            ∙ slice_get_last mid x (length old + k) (omega (arith, long, e))
            ∙ ap (λ (j : ℕ). Some (status j)) (sym e)
      ];
    }

-- one instant more: how often a variable had a value, and what the flow has
byte_once : (b : Bool) → bool_byte b ≡ once b
byte_once true = refl
byte_once false = refl

pub byte_small : (b : Bool) → bool_byte b ≤ 1
byte_small true = omega arith
byte_small false = omega arith

pub seen_more : (of : List Status) (d : Datum) (t n tick : ℕ) (on : Bool) → tick ≡ seen_in of d t n → on ≡ has_value d (status_in of (t + n)) → tick + bool_byte on ≡ seen_in of d t (n + 1)
seen_more of d t n tick on count is =
    let next : suc n ≡ n + 1 = omega arith in
    ap₂ (λ (a b : ℕ). a + b) count (byte_once on ∙ ap once is) ∙ ap (seen_in of d t) next

if_cond : (b : Bool) (x y : Status) → (if b then x else y) ≡ cond b x y
if_cond true x y = refl
if_cond false x y = refl

pub slow_more : (kind : Kind) (row : List ℤ) (of : List Status) (d : Datum) (t n tick : ℕ) (on : Bool) → tick ≡ seen_in of d t n → on ≡ has_value d (status_in of (t + n)) → (if on then present_at kind row tick else Absent) ≡ slow_at kind row of d t n
slow_more kind row of d t n tick on count is =
    if_cond on (present_at kind row tick) Absent ∙ ap₂ (λ (b : Bool) (k : ℕ). cond b (present_at kind row k) Absent) is count

-- near a mark that isn't nil is what it is
truth_near : (e : Bool) (u : Kind) (w q : Option Bool) (d : Datum) (m : Mark) (s : Status) → IsTidyMark u e w q m → e ≡ false → IsNear m s → truth_in d m ≡ Some (has_value d s)
truth_near e u w q d m Absent tidy none near = ap (truth_in d) near
truth_near e u w q d m (Present y) tidy none near =
    let x = near.0 in
    let of = subst (λ (n : Mark). IsTidyMark u e w q n) near.1 tidy in
    let sure : x ≢ Nil = λ nil. (let one : e ≡ true = (of.2 nil).0 in let clash : false ≡ true = sym none ∙ one in cc) in
    ap (truth_in d) near.1 ∙ ap (λ (z : Datum). Some (is_value d z)) (near.2 sure)

-- what a flow of class false has
pub exact_near : (u : Kind) (e : Bool) (w q : Option Bool) (m : Mark) (s : Status) → IsTidyMark u e w q m → e ≡ false → IsNear m s → m ≡ Known s
exact_near u e w q m Absent tidy none near = near
exact_near u e w q m (Present y) tidy none near =
    let x = near.0 in
    let of = subst (λ (n : Mark). IsTidyMark u e w q n) near.1 tidy in
    let sure : x ≢ Nil = λ nil. (let one : e ≡ true = (of.2 nil).0 in let clash : false ≡ true = sym none ∙ one in cc) in
    near.1 ∙ ap (λ (z : Datum). Known (Present z)) (near.2 sure)

-- a flow that isn't broken, where its clock is true, and where it is false
near_on : (u : Kind) (e : Bool) (w q : Option Bool) (m : Mark) (z : ℤ) → IsTidyMark u e w q m → m ≢ Broken → q ≡ Some true → ((d : Datum) → m ≡ Known (Present d) → Holds u z d) → IsNear m (Present (datum_at u z))
near_on u e w q Broken z tidy sound on held = absurd (sound refl)
near_on u e w q (Known Absent) z tidy sound on held = let f : Some true ≡ Some false = sym on ∙ tidy in absurd cc
near_on u e w q (Known (Present d)) z tidy sound on held = (d, refl, held d refl)

near_off : (u : Kind) (e : Bool) (w q : Option Bool) (m : Mark) → IsTidyMark u e w q m → m ≢ Broken → q ≡ Some false → IsNear m Absent
near_off u e w q Broken tidy sound off = absurd (sound refl)
near_off u e w q (Known Absent) tidy sound off = refl
near_off u e w q (Known (Present d)) tidy sound off = let f : Some false ≡ Some true = sym off ∙ tidy.0 in absurd cc

near_slow : (p : Bool) (q : Option Bool) (m : Mark) (s : Status) → q ≡ Some p → (q ≡ Some true → IsNear m s) → (q ≡ Some false → IsNear m Absent) → IsNear m (cond p s Absent)
near_slow true q m s e on off = on e
near_slow false q m s e on off = off e

-- a column with no status has none
no_status : (column : Column) (m : ℕ) (s : Status) → column.items ≡ [] → slice_get column.items m ≡ Some s → ⊥
no_status column m s empty at = let none : List Status = [] in let f : slice_get none m ≡ Some s = ap (λ (xs : List Status). slice_get xs m) (sym empty) ∙ at in cc

-- columns without statuses are near
pub empty_near : (flat : FlatView) (σ : Streams) (t : ℕ) (columns : List Column) → All (λ (column : Column). column.items ≡ []) columns → AreNear flat σ t columns
empty_near flat σ t columns empty = record {
  near = λ v x there m s at. absurd (no_status x m s (all_at (λ (column : Column). column.items ≡ []) columns v x empty there) at);
}

-- what is kept stays near, from whichever instant on the others begin
pub kept_near : (flat : FlatView) (σ : Streams) (t u : ℕ) (old new : List Column) → AreNear flat σ t old → AreKept flat old new → AreNear flat σ u new
kept_near flat σ t u old new near kept = record {
  near = λ v x there m s at. elim (kept v x there) [
    | inl h ↦ subst (λ (k : ℕ). IsNear (σ v (k + m)) s) (h.0 t ∙ sym (h.0 u)) (near.near v x h.1 m s at)
    | inr empty ↦ absurd (no_status x m s empty at)
  ];
}

-- main variables are put out one after another
module _ (flat : FlatView) (t len : ℕ) (board : Board) (shown : ℕ → Type 0) where
  pub stays_same : (columns : List Column) → StaysNear flat t len board shown columns columns
  stays_same columns = record { near = λ inputs σ fit sol within right near. near }

  pub stays_more : (v : ℕ) (old mid new : List Column) → shown v → StaysNear flat t len board shown old mid → StaysNear flat t len board (λ r. r ≡ v) mid new → StaysNear flat t len board shown old new
  stays_more v old mid new there f g = record {
    near = λ inputs σ fit sol within right near.
        g.near inputs σ fit sol within (λ r e. subst (IsRightFlow flat inputs σ t len board) (sym e) (right v there)) (f.near inputs σ fit sol within right near);
  }

-- what a part knows is right where it is
pub stays_in : (flat : FlatView) (t len : ℕ) (board : Board) (needs : List ℕ) (old new : List Column) → StaysNear flat t len board (λ v. (k : ℕ) × (slice_get needs k ≡ Some v)) old new → StaysNearIn flat t len board needs old new
stays_in flat t len board needs old new stays = record {
  near = λ part inputs σ fit sol within known right.
      stays.near inputs σ fit sol within (λ v is n flow there l. right.at v n flow there (known is.0 v is.1) l);
}

module _ (flat : FlatView) (inputs : InputsView) (σ : Streams) (t len : ℕ) (board : Board) (v : ℕ) (is_flat : IsFlat flat) (fit : IsFit flat inputs) (sol : IsSolution flat inputs σ) (within : t + len ≤ inputs.instants) (right : IsRightFlow flat inputs σ t len board v) where
  mark : (r n : ℕ) (flow : Flow) → flow_at flat r ≡ Some flow → n < len → IsTidyMark flow.kind (is_flat.sound.class r) (ticked (clock_at inputs σ flow.clock) (t + n)) (clock_at inputs σ flow.clock (t + n)) (σ r (t + n))
  mark r n flow is l = tidy flat inputs σ is_flat.ordered is_flat.sound fit sol r (t + n) (slice_get_within flat.flows r flow is) (omega (arith, within)) flow is

  on_at : (n : ℕ) (flow : Flow) → flow_at flat v ≡ Some flow → n < len → clock_at inputs σ flow.clock (t + n) ≡ Some true → IsNear (σ v (t + n)) (present_at flow.kind (row_of board.rows.items v) (since (clock_at inputs σ flow.clock) t n))
  on_at n flow there l on =
      near_on flow.kind (is_flat.sound.class v) (ticked (clock_at inputs σ flow.clock) (t + n)) (clock_at inputs σ flow.clock (t + n)) (σ v (t + n)) (word_in (row_of board.rows.items v) (suc (since (clock_at inputs σ flow.clock) t n)))
      (mark v n flow there l) (right n flow there l).sound on (right n flow there l).holds

  off_at : (n : ℕ) (flow : Flow) → flow_at flat v ≡ Some flow → n < len → clock_at inputs σ flow.clock (t + n) ≡ Some false → IsNear (σ v (t + n)) Absent
  off_at n flow there l off =
      near_off flow.kind (is_flat.sound.class v) (ticked (clock_at inputs σ flow.clock) (t + n)) (clock_at inputs σ flow.clock (t + n)) (σ v (t + n)) (mark v n flow there l) (right n flow there l).sound off

  base_on : (n : ℕ) → n < len → clock_at inputs σ Base (t + n) ≡ Some true
  base_on n l = ap (λ (b : Bool). Some b) (lt-ltb (t + n) inputs.instants (omega (arith, within)))

  base_count : (n : ℕ) → n ≤ len → since (clock_at inputs σ Base) t n ≡ n
  base_count zero l = refl
  base_count (suc n) l =
      let one : once_true (clock_at inputs σ Base (t + n)) ≡ 1 = ap once_true (base_on n (omega arith)) in
      let e : n + 1 ≡ suc n = omega arith in
      ap₂ (λ (x y : ℕ). x + y) (base_count n (omega arith)) one ∙ e

  show_base : (n : ℕ) (flow : Flow) → flow_at flat v ≡ Some flow → flow.clock ≡ Base → n < len → IsNear (σ v (t + n)) (present_at flow.kind (row_of board.rows.items v) n)
  show_base n flow there clock l =
      let count : since (clock_at inputs σ flow.clock) t n ≡ n = ap (λ (k : Clock). since (clock_at inputs σ k) t n) clock ∙ base_count n (omega arith) in
      subst (λ (m : ℕ). IsNear (σ v (t + n)) (present_at flow.kind (row_of board.rows.items v) m)) count (on_at n flow there l (ap (λ (k : Clock). clock_at inputs σ k (t + n)) clock ∙ base_on n l))

  module _ (c : ℕ) (d : Datum) (flow : Flow) (there : flow_at flat v ≡ Some flow) (clock : flow.clock ≡ On c d) (of : List Status) (s b : ℕ) (begins : s + b ≡ t) (near : (m : ℕ) (status : Status) → slice_get of m ≡ Some status → IsNear (σ c (s + m)) status) (long : length of ≡ b + len) where
    tick_at : (n : ℕ) → n < len → clock_at inputs σ (On c d) (t + n) ≡ Some (has_value d (status_in of (b + n)))
    tick_at n l =
        let fits : ClockFits flat is_flat.sound.class (On c d) = subst (ClockFits flat is_flat.sound.class) clock (is_flat.sound.clocks v flow there) in
        let flow_c : Flow = record { form = fits.3.form; clock = fits.0; kind = fits.1 } in
        truth_near (is_flat.sound.class c) fits.1 (ticked (clock_at inputs σ fits.0) (t + n)) (clock_at inputs σ fits.0 (t + n)) d (σ c (t + n)) (status_in of (b + n)) (mark c n flow_c fits.3.there l) fits.4
        (subst (λ (k : ℕ). IsNear (σ c k) (status_in of (b + n))) (let e : s + (b + n) ≡ t + n = omega (arith, begins) in e) (near (b + n) (status_in of (b + n)) (slice_get-get_or of (b + n) Absent (omega (arith, long)))))

    count_at : (n : ℕ) → n ≤ len → since (clock_at inputs σ (On c d)) t n ≡ seen_in of d b n
    count_at zero l = refl
    count_at (suc n) l = ap₂ (λ (x y : ℕ). x + y) (count_at n (omega arith)) (ap once_true (tick_at n (omega arith)))

    show_slow : (n : ℕ) → n < len → IsNear (σ v (t + n)) (slow_at flow.kind (row_of board.rows.items v) of d b n)
    show_slow n l =
        let own : clock_at inputs σ flow.clock (t + n) ≡ clock_at inputs σ (On c d) (t + n) = ap (λ (k : Clock). clock_at inputs σ k (t + n)) clock in
        let count : since (clock_at inputs σ flow.clock) t n ≡ seen_in of d b n = ap (λ (k : Clock). since (clock_at inputs σ k) t n) clock ∙ count_at n (omega arith) in
        near_slow (has_value d (status_in of (b + n))) (clock_at inputs σ (On c d) (t + n)) (σ v (t + n)) (present_at flow.kind (row_of board.rows.items v) (seen_in of d b n)) (tick_at n l)
        (λ on. subst (λ (m : ℕ). IsNear (σ v (t + n)) (present_at flow.kind (row_of board.rows.items v) m)) count (on_at n flow there l (own ∙ on)))
        (λ off. off_at n flow there l (own ∙ off))

  -- statuses at a column's end
  added_near : (first : ℕ) (old new : List Status) (f : ℕ → Status) → first + length old ≡ t → IsAdded old new len f → ((m : ℕ) (s : Status) → slice_get old m ≡ Some s → IsNear (σ v (first + m)) s) → ((n : ℕ) → n < len → IsNear (σ v (t + n)) (f n)) → (m : ℕ) (s : Status) → slice_get new m ≡ Some s → IsNear (σ v (first + m)) s
  added_near first old new f at added before now m s is = elim (cases_lt m (length old)) [
    | inl h ↦ before m s (sym (added.kept m h) ∙ is)
    | inr h ↦
        let l : m < length new = slice_get_within new m s is in
        let n = m - length old in
        let e : t + n ≡ first + m = omega (arith, at) in
        let f' : length old + n ≡ m = omega arith in
        let ln : n < len = let g = added.long in omega (arith, g, l, at) in
        let same : f n ≡ s = same_Some (f n) s (sym (added.added n ln) ∙ ap (slice_get new) f' ∙ is) in
        subst (λ (k : ℕ). IsNear (σ v k) s) e (subst (λ (x : Status). IsNear (σ v (t + n)) x) same (now n ln))
  ]

  shown_by : (columns : List Column) (flow : Flow) (k : Clock) (old new : List Status) → AreNear flat σ t columns → flow_at flat v ≡ Some flow → flow.clock ≡ k → ((m : ℕ) (s : Status) → slice_get old m ≡ Some s → IsNear (σ v (first_of flat v t + m)) s) → IsShown flat columns (first_of flat v t) flow.kind (row_of board.rows.items v) k t len old new → (m : ℕ) (s : Status) → slice_get new m ≡ Some s → IsNear (σ v (first_of flat v t + m)) s
  shown_by columns flow Base old new near there clock before shown = added_near (first_of flat v t) old new (present_at flow.kind (row_of board.rows.items v)) shown.0 shown.1 before (λ n l. show_base n flow there clock l)
  shown_by columns flow (On c d) old new near there clock before shown =
      added_near (first_of flat v t) old new (slow_at flow.kind (row_of board.rows.items v) shown.1.items d shown.3) shown.0 shown.6 before
      (show_slow c d flow there clock shown.1.items (first_of flat c t) shown.3 shown.4 (λ m s. near.near c shown.1 shown.2 m s) shown.5)

  -- a column that was taken out and put back with what its flow has in the block
  pub shown_more : (columns : List Column) (flow : Flow) (old dest new : Column) → v < length columns → slice_get columns v ≡ Some old → dest.items ≡ [] → flow_at flat v ≡ Some flow → AreNear flat σ t columns → IsShown flat (set columns v dest) (first_of flat v t) flow.kind (row_of board.rows.items v) flow.clock t len old.items new.items → AreNear flat σ t (set (set columns v dest) v new)
  shown_more columns flow old dest new inside was empty there near shown =
      let taken : AreNear flat σ t (set columns v dest) = record {
        near = λ r x is m s at.
            same_place (λ (r : ℕ). (x : Column) → slice_get (set columns v dest) r ≡ Some x → slice_get x.items m ≡ Some s → IsNear (σ r (first_of flat r t + m)) s) v r
            (λ x is at. absurd (no_status x m s (let e : x ≡ dest = same_Some x dest (sym is ∙ get_same columns v dest inside) in ap (λ (y : Column). y.items) e ∙ empty) at))
            (λ ne x is at. near.near r x (sym (get_other columns v r dest ne) ∙ is) m s at) x is at;
      } in
      record {
        near = λ r x is m s at.
            same_place (λ (r : ℕ). (x : Column) → slice_get (set (set columns v dest) v new) r ≡ Some x → slice_get x.items m ≡ Some s → IsNear (σ r (first_of flat r t + m)) s) v r
            (λ x is at.
            let e : new ≡ x = same_Some new x (sym (get_same (set columns v dest) v new (let k = len_set columns v dest in omega (arith, k, inside))) ∙ is) in
            shown_by (set columns v dest) flow flow.clock old.items new.items taken there refl (λ m s at. near.near v old was m s at) shown m s (ap (λ (y : Column). slice_get y.items m) e ∙ at))
            (λ ne x is at. taken.near r x (sym (get_other (set columns v dest) v r new ne) ∙ is) m s at) x is at;
      }
