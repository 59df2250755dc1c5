-- The logs of a site's outputs.
use Rattle.std.proofs.Common.{◌≡◌, ◌≢◌, ℕ, ◌+◌, ◌<◌, ◌≤◌, ◌⊎◌, inl, inr, Bool, true, false, List, [], ◌∷◌, ◌++◌, length, map, set, Some, refl, sym, ap, ap₂, ◌∙◌, subst, arith, nat_eq}
use Rattle.std.specs.Prelude.{slice_get, slice_index, ◌&&◌, ◌||◌, ◌==◌, not, nat_lt, is_some}
use Rattle.std.specs.List.{range_with_len}
use Rattle.std.proofs.lemmas.List.{length-map, map-append}
use Rattle.std.proofs.lemmas.List.FromFn.{length-range_with_len}
use Rattle.std.proofs.lemmas.Option.{slice_get_within, same_Some}
use Rattle.std.proofs.lemmas.Bool.{cases_lt, cases_eq, false≢true, lt-ltb, ltb-true, eqb-true}
use Rattle.luworld.proofs.Rounds.{range_more}
use Rattle.luworld.proofs.Outlines.{bool_cases}
use Rattle.luflow.specs.declared.data.Status.{Status}
use Rattle.luflow.specs.declared.data.Status.TheVariants.{Absent}
use Rattle.luflow.specs.Streams.{Mark, Known}
use Rattle.luflow.specs.Program.{flows_of}
use Rattle.luflow.specs.Messages.{marks}
use Rattle.luworld.specs.Needs.{PlanView, stands, home}
use Rattle.luworld.specs.Jobs.{JobView, streams_of, knows, IsJob, link_into}
use Rattle.lusite.specs.Logs.{logs_of, IsLoggedAt, is_noted, passed_to}
use Rattle.lusite_program.specs.Logs.{LogView, add_if, IsRow, IsLogged, is_wanted, IsNoted}
use Rattle.luworld.specs.WorldViews.{IsFirst}
use Rattle.lusite.specs.Machine.{Stands, is_faulted, shown_of, pasts_of}
use Rattle.lusite.specs.declared.state.SiteState.{SiteState}
use Rattle.lusite_program.specs.declared.program.Part.{Part}
use Rattle.lusite_program.proofs.Written.{slice_get-set_same, slice_get-set_other}
use Rattle.lusite.proofs.SiteStates.{Going, no_step, part_here, here_in, place_in_job, flow_same}
use Rattle.lusite_program.proofs.SiteFlows.{both}
use Rattle.luflow.specs.Variables.{is_output_of}

pub lt-false : (m n : ℕ) → n ≤ m → nat_lt m n ≡ false
lt-false m n le = elim (bool_cases (nat_lt m n)) [ inl e ↦ let h = ltb-true m n e in absurd (omega arith) | inr e ↦ e ]

pub marks_more : (s : ℕ → Mark) (t : ℕ) → marks s (t + 1) ≡ marks s t ++ s t ∷ []
marks_more s t =
    let z : 0 + t ≡ t = omega arith in
    ap (map s) (range_more 0 t) ∙ map-append s (range_with_len 0 t) ((0 + t) ∷ []) ∙ ap (λ u. marks s t ++ s u ∷ []) z

pub first_len : (job : JobView) (i : ℕ) (xs : List Status) (m : ℕ) → IsFirst job i xs m → length xs ≡ m
first_len job i xs m e = sym (length-map xs Known) ∙ ap length e ∙ length-map (range_with_len 0 m) (streams_of job i) ∙ length-range_with_len 0 m

pub and_parts : (a b : Bool) → (a && b) ≡ true → (a ≡ true) × (b ≡ true)
and_parts true b h = (refl, h)
and_parts false b h = absurd (false≢true h)

and_no : (b : Bool) → add_if (b && false) ≡ 0
and_no true = refl
and_no false = refl

-- one flow further
module _ (job : JobView) (s : ℕ) (ok : IsJob job) (logs logs' : List LogView) (t p : ℕ) (lp : p < length job.plan.flat.order) (logged : IsLogged job s logs t p) where
  abbrev here : ℕ
  here = slice_index job.plan.flat.order p

  -- the log of the flow at hand has t statuses
  row_here : t < job.inputs.instants → is_wanted job s here ≡ true → IsRow job here logs t
  row_here lt wanted =
      let z : add_if (nat_lt t job.inputs.instants && nat_lt p p) ≡ 0 = ap₂ (λ a b. add_if (a && b)) (lt-ltb t job.inputs.instants lt) (lt-false p p (omega arith)) in
      subst (IsRow job here logs) (let e : t + add_if (nat_lt t job.inputs.instants && nat_lt p p) ≡ t = omega (arith, z) in e) (logged p lp wanted)

  pub room_here : t < job.inputs.instants → is_wanted job s here ≡ true → (here < length logs) × ((x : LogView) → slice_get logs here ≡ Some x → length x.items < x.room)
  room_here lt wanted =
      let r = row_here lt wanted in (
        slice_get_within logs here r.row r.there,
        λ x e. subst (λ (y : LogView). length y.items < y.room) (same_Some r.row x (sym r.there ∙ e)) (let a = first_len job here r.row.items t r.known in let b = r.room in omega (arith, a, b, lt)),
      )

  ne_here : (q : ℕ) → q < length job.plan.flat.order → q ≢ p → slice_index job.plan.flat.order q ≢ here
  ne_here q lq ne e = ne (ok.is_plan.ordered.once q p lq lp e)

  same_count : (q : ℕ) → q ≢ p → nat_lt q p ≡ nat_lt q (p + 1)
  same_count q ne = elim (cases_lt q p) [
    | inl l ↦ lt-ltb q p l ∙ sym (lt-ltb q (p + 1) (omega arith))
    | inr g ↦ lt-false q p g ∙ sym (lt-false q (p + 1) (omega (arith, g, ne)))
  ]

  row_same : (q : ℕ) → q ≢ p → IsRow job (slice_index job.plan.flat.order q) logs' (t + add_if (nat_lt t job.inputs.instants && nat_lt q p)) → IsRow job (slice_index job.plan.flat.order q) logs' (t + add_if (nat_lt t job.inputs.instants && nat_lt q (p + 1)))
  row_same q ne r = subst (IsRow job (slice_index job.plan.flat.order q) logs') (ap (λ b. t + add_if (nat_lt t job.inputs.instants && b)) (same_count q ne)) r

  -- where nothing is noted
  pub logged_left : (t < job.inputs.instants → is_wanted job s here ≡ true → ⊥) → logs' ≡ logs → IsLogged job s logs' t (p + 1)
  logged_left unwanted e q lq wanted = elim (cases_eq q p) [
    | inr ne ↦ row_same q ne (subst (λ (ls : List LogView). IsRow job (slice_index job.plan.flat.order q) ls (t + add_if (nat_lt t job.inputs.instants && nat_lt q p))) (sym e) (logged q lq wanted))
    | inl same ↦ elim (cases_lt t job.inputs.instants) [
      | inl lt ↦ absurd (unwanted lt (subst (λ (k : ℕ). is_wanted job s (slice_index job.plan.flat.order k) ≡ true) same wanted))
      | inr ge ↦
          let late = lt-false t job.inputs.instants ge in
          let z = ap (λ b. t + add_if (b && nat_lt q p)) late ∙ sym (ap (λ b. t + add_if (b && nat_lt q (p + 1))) late) in
          subst (IsRow job (slice_index job.plan.flat.order q) logs') z (subst (λ (ls : List LogView). IsRow job (slice_index job.plan.flat.order q) ls (t + add_if (nat_lt t job.inputs.instants && nat_lt q p))) (sym e) (logged q lq wanted))
    ]
  ]

  -- where the status of the flow at hand is noted
  pub logged_noted : (status : Status) → t < job.inputs.instants → is_wanted job s here ≡ true → streams_of job here t ≡ Known status → ((x : LogView) → slice_get logs here ≡ Some x → IsNoted logs here x status logs') → IsLogged job s logs' t (p + 1)
  logged_noted status lt wanted is noted q lq wanted' =
      let r = row_here lt wanted in
      let n = noted r.row r.there in
      elim (cases_eq q p) [
        | inr ne ↦
            let old = logged q lq wanted' in
            row_same q ne (record {
              row = old.row;
              there = ap (λ ls. slice_get ls (slice_index job.plan.flat.order q)) n.is ∙ slice_get-set_other logs here (slice_index job.plan.flat.order q) n.row (ne_here q lq ne) ∙ old.there;
              known = old.known;
              room = old.room;
            })
        | inl same ↦
            let one : add_if (nat_lt t job.inputs.instants && nat_lt p (p + 1)) ≡ 1 = ap₂ (λ a b. add_if (a && b)) (lt-ltb t job.inputs.instants lt) (lt-ltb p (p + 1) (omega arith)) in
            let new : IsRow job here logs' (t + 1) = record {
              row = n.row;
              there = ap (λ ls. slice_get ls here) n.is ∙ slice_get-set_same logs here n.row (slice_get_within logs here r.row r.there);
              known = ap (map Known) n.items ∙ map-append Known r.row.items (status ∷ []) ∙ ap₂ (λ (xs : List Mark) (m : Mark). xs ++ m ∷ []) r.known (sym is) ∙ sym (marks_more (streams_of job here) t);
              room = let a = n.capacity in let b = r.room in omega (arith, a, b);
            } in
            subst (λ (k : ℕ). IsRow job (slice_index job.plan.flat.order k) logs' (t + add_if (nat_lt t job.inputs.instants && nat_lt k (p + 1)))) (sym same) (subst (λ (k : ℕ). IsRow job here logs' (t + k)) (sym one) new)
      ]

-- past the last instant it doesn't matter how far
pub logged_late : (job : JobView) (s : ℕ) (logs : List LogView) (t e e' : ℕ) → job.inputs.instants ≤ t → IsLogged job s logs t e → IsLogged job s logs t e'
logged_late job s logs t e e' ge logged q lq wanted =
    let late = lt-false t job.inputs.instants ge in
    let z = ap (λ b. t + add_if (b && nat_lt q e)) late ∙ sym (ap (λ b. t + add_if (b && nat_lt q e')) late) in
    subst (IsRow job (slice_index job.plan.flat.order q) logs) z (logged q lq wanted)

-- to the next instant
pub logged_tick : (job : JobView) (s : ℕ) (logs : List LogView) (t p : ℕ) → p ≡ length job.plan.flat.order → t < job.inputs.instants → IsLogged job s logs t p → IsLogged job s logs (t + 1) 0
logged_tick job s logs t p end lt logged q lq wanted =
    let one : add_if (nat_lt t job.inputs.instants && nat_lt q p) ≡ 1 = ap₂ (λ a b. add_if (a && b)) (lt-ltb t job.inputs.instants lt) (lt-ltb q p (omega arith)) in
    let none : add_if (nat_lt (t + 1) job.inputs.instants && nat_lt q 0) ≡ 0 = ap (λ b. add_if (nat_lt (t + 1) job.inputs.instants && b)) (lt-false q 0 (omega arith)) ∙ and_no (nat_lt (t + 1) job.inputs.instants) in
    subst (IsRow job (slice_index job.plan.flat.order q) logs) (let e : t + add_if (nat_lt t job.inputs.instants && nat_lt q p) ≡ t + 1 + add_if (nat_lt (t + 1) job.inputs.instants && nat_lt q 0) = omega (arith, one, none) in e) (logged q lq wanted)

pub logged_new : (job : JobView) (s : ℕ) (logs : List LogView) → ((q : ℕ) → q < length job.plan.flat.order → slice_index job.plan.flat.order q < flows_of job.plan.flat) → ((i : ℕ) → i < flows_of job.plan.flat → is_wanted job s i ≡ true → (y : LogView) × (slice_get logs i ≡ Some y) × (y.items ≡ []) × (job.inputs.instants ≤ y.room)) → IsLogged job s logs 0 0
logged_new job s logs inside each q lq wanted =
    let i = slice_index job.plan.flat.order q in
    let n = each i (inside q lq) wanted in
    let none : add_if (nat_lt 0 job.inputs.instants && nat_lt q 0) ≡ 0 = ap (λ b. add_if (nat_lt 0 job.inputs.instants && b)) (lt-false q 0 (omega arith)) ∙ and_no (nat_lt 0 job.inputs.instants) in
    let new : IsRow job i logs 0 = record { row = n.0; there = n.1; known = ap (map Known) n.2; room = n.3 } in
    subst (IsRow job i logs) (let e : 0 ≡ 0 + add_if (nat_lt 0 job.inputs.instants && nat_lt q 0) = omega (arith, none) in e) new

-- a flow that a site reports is one that it knows
pub wanted_known : (job : JobView) (s i : ℕ) → IsJob job → i < flows_of job.plan.flat → is_wanted job s i ≡ true → stands job.plan i s ≡ true
wanted_known job s i ok li wanted =
    subst (λ (h : ℕ). stands job.plan i h ≡ true) (eqb-true (home job.plan i) s (and_parts (nat_eq (home job.plan i) s) (is_output_of job.plan.flat i) wanted).0) (ok.is_plan.stands_home i li)

-- for the state
passed_some : (a : SiteState) → Going a → 0 < a.step → passed_to a ≡ a.place.value + 1
passed_some a g l = ap₂ (λ x y. a.place.value + add_if (x && not y)) (lt-ltb 0 a.step l) g.goes

passed_none : (a : SiteState) → a.step ≡ 0 → passed_to a ≡ a.place.value
passed_none a e = let z = ap (λ j. a.place.value + add_if (nat_lt 0 j && not (is_faulted a))) e in z ∙ (let w : a.place.value + 0 ≡ a.place.value = omega arith in w)

-- what the machine asks of the flow at hand is whether it is to be reported
noted_is : (a : SiteState) → Going a → a.place.value < length a.program.plan.flat.order → is_noted a (slice_index a.program.plan.flat.order a.place.value) ≡ (nat_lt a.instant a.inputs.job.inputs.instants && is_wanted a.inputs.job a.inputs.site (slice_index a.inputs.job.plan.flat.order a.place.value))
noted_is a g lp =
    let i = slice_index a.inputs.job.plan.flat.order a.place.value in
    ap (is_noted a) (flow_same a g.set)
    ∙ ap (λ (x : Part). nat_lt a.instant a.inputs.job.inputs.instants && x.reported) (part_here a i g.set (here_in a g.set (place_in_job a g.set lp)))

module _ (a : SiteState) (g : Going a) (lp : a.place.value < length a.program.plan.flat.order) (logged : IsLoggedAt a) where
  abbrev i : ℕ
  i = slice_index a.program.plan.flat.order a.place.value

  at_place : a.step ≡ 0 → IsLogged a.inputs.job a.inputs.site (logs_of a) a.instant a.place.value
  at_place z = subst (λ (e : ℕ). IsLogged a.inputs.job a.inputs.site (logs_of a) a.instant e) (passed_none a z) logged

  noted_parts : is_noted a i ≡ true → (a.instant < a.inputs.job.inputs.instants) × (is_wanted a.inputs.job a.inputs.site (slice_index a.inputs.job.plan.flat.order a.place.value) ≡ true)
  noted_parts on =
      let n = and_parts (nat_lt a.instant a.inputs.job.inputs.instants) (is_wanted a.inputs.job a.inputs.site (slice_index a.inputs.job.plan.flat.order a.place.value)) (sym (noted_is a g lp) ∙ on) in
      (ltb-true a.instant a.inputs.job.inputs.instants n.0, n.1)

  pub note_room : a.step ≡ 0 → is_noted a i ≡ true → (i < length (logs_of a)) × ((x : LogView) → slice_get (logs_of a) i ≡ Some x → length x.items < x.room)
  note_room z on =
      let w = noted_parts on in
      subst (λ (k : ℕ). (k < length (logs_of a)) × ((x : LogView) → slice_get (logs_of a) k ≡ Some x → length x.items < x.room)) (sym (flow_same a g.set))
      (room_here a.inputs.job a.inputs.site g.set.is_job (logs_of a) (logs_of a) a.instant a.place.value (place_in_job a g.set lp) (at_place z) w.0 w.1)

  -- the flow at hand is passed: its status is noted, or it isn't wanted
  pub note_here : (status : Status) (logs' : List LogView) → a.step ≡ 0 → (is_noted a i ≡ false → logs' ≡ (logs_of a)) → (is_noted a i ≡ true → streams_of a.inputs.job (slice_index a.inputs.job.plan.flat.order a.place.value) a.instant ≡ Known status) → (is_noted a i ≡ true → (x : LogView) → slice_get (logs_of a) i ≡ Some x → IsNoted (logs_of a) i x status logs') → IsLogged a.inputs.job a.inputs.site logs' a.instant (a.place.value + 1)
  note_here status logs' z left is noted =
      let lp' = place_in_job a g.set lp in
      elim (bool_cases (is_noted a i)) [
        | inr off ↦ logged_left a.inputs.job a.inputs.site g.set.is_job (logs_of a) logs' a.instant a.place.value lp' (at_place z)
            (λ lt wanted. false≢true (sym off ∙ noted_is a g lp ∙ both (nat_lt a.instant a.inputs.job.inputs.instants) (is_wanted a.inputs.job a.inputs.site (slice_index a.inputs.job.plan.flat.order a.place.value)) (lt-ltb a.instant a.inputs.job.inputs.instants lt) wanted)) (left off)
        | inl on ↦
            let w = noted_parts on in
            logged_noted a.inputs.job a.inputs.site g.set.is_job (logs_of a) logs' a.instant a.place.value lp' (at_place z) status w.0 w.1 (is on)
            (subst (λ (k : ℕ). (x : LogView) → slice_get (logs_of a) k ≡ Some x → IsNoted (logs_of a) k x status logs') (flow_same a g.set) (noted on))
      ]

  same_absent : (xs : List Status) (k : ℕ) (status : Status) → k < length xs → slice_get (set xs k Absent) k ≡ Some status → status ≡ Absent
  same_absent xs k status l e = sym (same_Some Absent status (sym (slice_get-set_same xs k Absent l) ∙ e))

  -- from one flow to the next
  pub note_pass : (now' : List Status) (logs' : List LogView) (faulted : Bool) → Stands a.inputs.job a.inputs.site now' (pasts_of a) a.instant (a.place.value + 1) 0 faulted → (a.step ≡ 0 → now' ≡ set (shown_of a) i Absent) → (0 < a.step → logs' ≡ (logs_of a)) → (a.step ≡ 0 → is_noted a i ≡ false → logs' ≡ (logs_of a)) → (a.step ≡ 0 → is_noted a i ≡ true → (x : LogView) → slice_get (logs_of a) i ≡ Some x → IsNoted (logs_of a) i x Absent logs') → IsLogged a.inputs.job a.inputs.site logs' a.instant (a.place.value + 1)
  note_pass now' logs' faulted st cleared kept left noted = elim (cases_lt 0 a.step) [
    | inl some ↦
        subst (λ (ls : List LogView). IsLogged a.inputs.job a.inputs.site ls a.instant (a.place.value + 1)) (sym (kept some))
        (subst (λ (e : ℕ). IsLogged a.inputs.job a.inputs.site (logs_of a) a.instant e) (passed_some a g some) logged)
    | inr none ↦
        let z : a.step ≡ 0 = omega arith in
        let job = a.inputs.job in
        let lp' = place_in_job a g.set lp in
        let k = slice_index job.plan.flat.order a.place.value in
        note_here Absent logs' z (left z) (λ on.
        let w = noted_parts on in
        let own = wanted_known job a.inputs.site k g.set.is_job (here_in a g.set lp') w.1 in
        let sh = st.shown w.0 a.place.value (omega arith) (known_of_own job a.inputs.site k own) in
        let len = here_in a g.set lp' in
        let e : sh.status ≡ Absent = same_absent (shown_of a) k sh.status (let n = g.stands.now_len in omega (arith, len, n)) (ap (λ xs. slice_get xs k) (sym (cleared z ∙ ap (λ j. set (shown_of a) j Absent) (flow_same a g.set))) ∙ sh.there) in
        sh.is ∙ ap Known e) (noted z)
  ]
    where
      known_of_own : (job : JobView) (s k : ℕ) → stands job.plan k s ≡ true → knows job.plan s k ≡ true
      known_of_own job s k own = ap (λ b. b || is_some (link_into job.plan s k)) own

pub note_tick : (a : SiteState) → Going a → a.place.value ≡ length a.program.plan.flat.order → a.instant < a.inputs.job.inputs.instants → IsLoggedAt a → IsLogged a.inputs.job a.inputs.site (logs_of a) (a.instant + 1) 0
note_tick a g end lt logged =
    let z = no_step a g (end ∙ ap (λ (q : PlanView). length q.flat.order) g.set.plan_is) in
    logged_tick a.inputs.job a.inputs.site (logs_of a) a.instant a.place.value (end ∙ ap (λ (q : PlanView). length q.flat.order) g.set.plan_is) lt (subst (λ (e : ℕ). IsLogged a.inputs.job a.inputs.site (logs_of a) a.instant e) (passed_none a z) logged)

-- a message that is passed changes no log
pub note_step : (a : SiteState) → Going a → IsLoggedAt a → (0 < a.step) ⊎ (a.inputs.job.inputs.instants ≤ a.instant) → IsLogged a.inputs.job a.inputs.site (logs_of a) a.instant (a.place.value + add_if (nat_lt 0 (a.step + 1) && not (is_faulted a)))
note_step a g logged (inl some) =
    let e : passed_to a ≡ a.place.value + add_if (nat_lt 0 (a.step + 1) && not (is_faulted a)) = ap (λ b. a.place.value + add_if (b && not (is_faulted a))) (lt-ltb 0 a.step some ∙ sym (lt-ltb 0 (a.step + 1) (omega arith))) in
    subst (λ (k : ℕ). IsLogged a.inputs.job a.inputs.site (logs_of a) a.instant k) e logged
note_step a g logged (inr late) = logged_late a.inputs.job a.inputs.site (logs_of a) a.instant (passed_to a) (a.place.value + add_if (nat_lt 0 (a.step + 1) && not (is_faulted a))) late logged

-- whether an absent status is to be reported
eq_zero : (n : ℕ) → 0 < n → (n == 0) ≡ false
eq_zero n l = elim (bool_cases (n == 0)) [ inl e ↦ let h = eqb-true n 0 e in absurd (omega arith) | inr e ↦ e ]

pub absent_no : (n : ℕ) (b r : Bool) → r ≡ ((n == 0) && b) → 0 < n → r ≡ false
absent_no n b r e l = e ∙ ap (λ x. x && b) (eq_zero n l)

pub absent_is : (n : ℕ) (b r : Bool) → r ≡ ((n == 0) && b) → n ≡ 0 → r ≡ b
absent_is n b r e z = e ∙ ap (λ j. (j == 0) && b) z

pub absent_yes : (n : ℕ) (b r : Bool) → r ≡ ((n == 0) && b) → r ≡ true → (n ≡ 0) × (b ≡ true)
absent_yes n b r e on = let p = and_parts (n == 0) b (sym e ∙ on) in (eqb-true n 0 p.0, p.1)

-- past a flow nothing of the next one is passed
pub none_yet : (job : JobView) (s : ℕ) (logs : List LogView) (t p : ℕ) (b : Bool) → IsLogged job s logs t p → IsLogged job s logs t (p + add_if (nat_lt 0 0 && b))
none_yet job s logs t p b h = let e : p ≡ p + 0 = omega arith in subst (λ (k : ℕ). IsLogged job s logs t k) e h

-- how far the outputs are passed after one item of a flow
step_one : (a : SiteState) → Going a → a.place.value + 1 ≡ a.place.value + add_if (nat_lt 0 1 && not (is_faulted a))
step_one a g = ap (λ b. a.place.value + add_if (nat_lt 0 1 && not b)) (sym g.goes)

pub noted_step : (a : SiteState) (logs : List LogView) → Going a → IsLogged a.inputs.job a.inputs.site logs a.instant (a.place.value + 1) → IsLogged a.inputs.job a.inputs.site logs a.instant (a.place.value + add_if (nat_lt 0 1 && not (is_faulted a)))
noted_step a logs g h = subst (λ (k : ℕ). IsLogged a.inputs.job a.inputs.site logs a.instant k) (step_one a g) h

-- a flow that was taken is not reported
pub note_given : (a : SiteState) → Going a → IsLoggedAt a → a.step ≡ 0 → a.place.value < length a.inputs.job.plan.flat.order → stands a.inputs.job.plan (slice_index a.inputs.job.plan.flat.order a.place.value) a.inputs.site ≡ false → IsLogged a.inputs.job a.inputs.site (logs_of a) a.instant (a.place.value + add_if (nat_lt 0 1 && not (is_faulted a)))
note_given a g logged z lp other =
    let job = a.inputs.job in
    let i = slice_index job.plan.flat.order a.place.value in
    let h = subst (λ (e : ℕ). IsLogged job a.inputs.site (logs_of a) a.instant e) (passed_none a z) logged in
    noted_step a (logs_of a) g (logged_left job a.inputs.site g.set.is_job (logs_of a) (logs_of a) a.instant a.place.value lp h (λ _ wanted. false≢true (sym other ∙ wanted_known job a.inputs.site i g.set.is_job (here_in a g.set lp) wanted)) refl)

-- a computation that faults passes nothing
pub note_fault : (a : SiteState) → IsLoggedAt a → a.step ≡ 0 → IsLogged a.inputs.job a.inputs.site (logs_of a) a.instant (a.place.value + add_if (nat_lt 0 1 && not true))
note_fault a logged z = let e : passed_to a ≡ a.place.value + add_if (nat_lt 0 1 && not true) = passed_none a z ∙ (let w : a.place.value ≡ a.place.value + 0 = omega arith in w) in subst (λ (k : ℕ). IsLogged a.inputs.job a.inputs.site (logs_of a) a.instant k) e logged
