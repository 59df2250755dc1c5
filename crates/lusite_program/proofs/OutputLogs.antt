-- The logs of the outputs, by the numbers of their flows.
use Rattle.std.proofs.Common.{◌≡◌, ℕ, zero, suc, ◌+◌, ◌<◌, ◌≤◌, Bool, true, false, cond, List, [], ◌∷◌, ◌++◌, length, map, replicate, filter, Option, Some, None, refl, sym, ap, ◌∙◌, subst, arith, inl, inr}
use Rattle.std.specs.Prelude.{slice_get, unwrap_or}
use Rattle.std.specs.List.{range_with_len}
use Rattle.std.specs.Option.{option_map}
use Rattle.std.proofs.lemmas.Bool.{cases_lt}
use Rattle.std.proofs.lemmas.List.{length-map, length-replicate}
use Rattle.std.proofs.lemmas.Option.{same_Some, slice_get-map, slice_get_past, slice_get_within, get_or_from_slice_get}
use Rattle.luflow.specs.Program.{flows_of, IsOrdered}
use Rattle.luflow.specs.Variables.{is_output_of}
use Rattle.luflow.proofs.Solutions.{some_at}
use Rattle.luworld.specs.Needs.{PlanView}
use Rattle.luworld.specs.Jobs.{outputs_of}
use Rattle.luworld.proofs.Cursor.{slice_get-append_left, slice_get-append_right}
use Rattle.lusite_program.specs.declared.program.Part.{Part}
use Rattle.lusite_program.specs.Programs.{SiteProgramView, places_of, Reports, AreReported}
use Rattle.lusite_program.specs.Logs.{Log, LogView, log_view, no_log, logs_in, log_in, row_items, view_items, IsDrawn}
use Rattle.lusite_program.proofs.SiteFlows.{part_there}
use Rattle.lusite_program.proofs.Ranks.{places_once, places_in}
use Rattle.lusite_program.proofs.Spread.{put_same}

-- the log of a flow, by its number and by its place
pub logs_row : (p : SiteProgramView) (all : List Log) → IsOrdered p.plan.flat → length all ≡ length (places_of p.plan p.site) → (k i : ℕ) → slice_get (places_of p.plan p.site) k ≡ Some i → slice_get (logs_in p all) i ≡ slice_get (map log_view all) k
logs_row p all ordered len k i e =
    let ps = places_of p.plan p.site in
    let n = length-replicate (flows_of p.plan.flat) no_log in
    let m = length-map all log_view in
    let l = places_in p ordered k (slice_get_within ps k i e) in
    let same = get_or_from_slice_get ps k i 0 e in
    put_same (replicate (flows_of p.plan.flat) no_log) ps (map log_view all) k i (places_once p ordered) (m ∙ len) (omega (arith, l, same, n)) e

-- what is reported of an output
pub reported_there : (plan : PlanView) (s : ℕ) (reported : List (Option ℕ)) (k i : ℕ) → AreReported plan s reported → slice_get (outputs_of plan) k ≡ Some i → Reports plan s i (unwrap_or (slice_get reported k) None)
reported_there plan s reported k i are there =
    let l = slice_get_within (outputs_of plan) k i there in
    let o = some_at reported k (let n = are.len in omega (arith, l, n)) in
    subst (λ (x : Option (Option ℕ)). Reports plan s i (unwrap_or x None)) (sym o.1) (are.each k i o.0 there o.1)

pub reported_beyond : (plan : PlanView) (s : ℕ) (reported : List (Option ℕ)) (k : ℕ) → AreReported plan s reported → slice_get (outputs_of plan) k ≡ None → unwrap_or (slice_get reported k) None ≡ None
reported_beyond plan s reported k are none = elim (cases_lt k (length reported)) [
  | inl l ↦
      let i = some_at (outputs_of plan) k (let n = are.len in omega (arith, l, n)) in
      let e = sym none ∙ i.1 in
      absurd cc
  | inr ge ↦ ap (λ (x : Option (Option ℕ)). unwrap_or x None) (slice_get_past reported k ge)
]

-- what is left of a range stands in order
module _ (p : ℕ → Bool) where
  from : (a n k i : ℕ) → slice_get (filter p (range_with_len a n)) k ≡ Some i → a ≤ i
  from a zero k i e = absurd cc
  from a (suc n) k i e = go (p a) k e (from (a + 1) n)
    where
      go : (b : Bool) (k : ℕ) → slice_get (cond b (a ∷ filter p (range_with_len (a + 1) n)) (filter p (range_with_len (a + 1) n))) k ≡ Some i → ((k i : ℕ) → slice_get (filter p (range_with_len (a + 1) n)) k ≡ Some i → a + 1 ≤ i) → a ≤ i
      go true zero is rest = let same : Some a ≡ Some i = is in let x : a ≡ i = cc in omega (arith, x)
      go true (suc k) is rest = let l = rest k i is in omega (arith, l)
      go false k is rest = let l = rest k i is in omega (arith, l)

  up : (a n j k x y : ℕ) → j < k → slice_get (filter p (range_with_len a n)) j ≡ Some x → slice_get (filter p (range_with_len a n)) k ≡ Some y → x < y
  up a zero j k x y l ex ey = absurd cc
  up a (suc n) j k x y l ex ey = go (p a) j k l ex ey (from (a + 1) n) (up (a + 1) n)
    where
      go : (b : Bool) (j k : ℕ) → j < k → slice_get (cond b (a ∷ filter p (range_with_len (a + 1) n)) (filter p (range_with_len (a + 1) n))) j ≡ Some x → slice_get (cond b (a ∷ filter p (range_with_len (a + 1) n)) (filter p (range_with_len (a + 1) n))) k ≡ Some y
          → ((k i : ℕ) → slice_get (filter p (range_with_len (a + 1) n)) k ≡ Some i → a + 1 ≤ i) → ((j k x y : ℕ) → j < k → slice_get (filter p (range_with_len (a + 1) n)) j ≡ Some x → slice_get (filter p (range_with_len (a + 1) n)) k ≡ Some y → x < y) → x < y
      go true zero zero l ex ey low rest = absurd (omega (arith, l))
      go true zero (suc k) l ex ey low rest = let same : Some a ≡ Some x = ex in let z : a ≡ x = cc in let w = low k y ey in omega (arith, z, w)
      go true (suc j) zero l ex ey low rest = absurd (omega (arith, l))
      go true (suc j) (suc k) l ex ey low rest = rest j k x y (omega (arith, l)) ex ey
      go false j k l ex ey low rest = rest j k x y l ex ey

-- an output of a greater number is another flow
pub output_after : (plan : PlanView) (j k x y : ℕ) → j < k → slice_get (outputs_of plan) j ≡ Some x → slice_get (outputs_of plan) k ≡ Some y → y ≡ x → ⊥
output_after plan j k x y l ex ey same = let up_to = up (is_output_of plan.flat) 0 _ j k x y l ex ey in omega (arith, same, up_to)

-- what a log has, by its view
pub view_row : (xs : List Log) (k : ℕ) → view_items (slice_get (map log_view xs) k) ≡ row_items (slice_get xs k)
view_row xs k = ap view_items (slice_get-map log_view xs k) ∙ go (slice_get xs k)
  where
    go : (o : Option Log) → view_items (option_map log_view o) ≡ row_items o
    go None = refl
    go (Some x) = refl

-- what is reported of an output, by what the site's program says of it
module _ (p : SiteProgramView) (inside : (i : ℕ) (k : ℕ) → slice_get (outputs_of p.plan) k ≡ Some i → i < flows_of p.plan.flat) where
  reported_no : (logs : List LogView) (k : ℕ) (o : Option ℕ) → slice_get (outputs_of p.plan) k ≡ o → ((i : ℕ) → o ≡ Some i → Reports p.plan p.site i None) → log_in p logs o ≡ []
  reported_no logs k None there h = refl
  reported_no logs k (Some i) there h = ap (λ (b : Bool). cond b (view_items (slice_get logs i)) []) (ap (λ (x : Part). x.reported) (part_there p i (inside i k there)) ∙ h i refl)

  pub unreported : (logs : List LogView) (k : ℕ) → ((i : ℕ) → slice_get (outputs_of p.plan) k ≡ Some i → Reports p.plan p.site i None) → log_in p logs (slice_get (outputs_of p.plan) k) ≡ []
  unreported logs k h = reported_no logs k (slice_get (outputs_of p.plan) k) refl h

  pub reported : (logs : List LogView) (k i r : ℕ) → slice_get (outputs_of p.plan) k ≡ Some i → Reports p.plan p.site i (Some r) → log_in p logs (slice_get (outputs_of p.plan) k) ≡ view_items (slice_get logs i)
  reported logs k i r there h =
      ap (log_in p logs) there
      ∙ ap (λ (b : Bool). cond b (view_items (slice_get logs i)) []) (ap (λ (x : Part). x.reported) (part_there p i (inside i k there)) ∙ h.0)

-- the logs moved out so far, and those left
module _ (p : SiteProgramView) (all : List Log) where
  abbrev pub AreDrawn : List Log → ℕ → Type 0
  AreDrawn rows k = (j : ℕ) → j < k → row_items (slice_get rows j) ≡ log_in p (logs_in p all) (slice_get (outputs_of p.plan) j)

  abbrev pub AreLeft : List Log → ℕ → Type 0
  AreLeft logs k = (j i r : ℕ) → k ≤ j → slice_get (outputs_of p.plan) j ≡ Some i → slice_get (places_of p.plan p.site) r ≡ Some i → slice_get logs r ≡ slice_get all r

  module _ (inside : (i : ℕ) (k : ℕ) → slice_get (outputs_of p.plan) k ≡ Some i → i < flows_of p.plan.flat) (row_log : (r i : ℕ) → slice_get (places_of p.plan p.site) r ≡ Some i → slice_get (logs_in p all) i ≡ slice_get (map log_view all) r) where
    here : (logs : List Log) (row : Log) (k i : ℕ) (o : Option ℕ) → slice_get (outputs_of p.plan) k ≡ Some i → AreLeft logs k → Reports p.plan p.site i o → IsDrawn o logs row → row.items ≡ log_in p (logs_in p all) (slice_get (outputs_of p.plan) k)
    here logs row k i None is left reports drawn =
        drawn ∙ sym (unreported p inside (logs_in p all) k (λ j e. subst (λ (x : ℕ). Reports p.plan p.site x None) (same_Some i j (sym is ∙ e)) reports))
    here logs row k i (Some r) is left reports drawn =
        drawn
        ∙ ap row_items (left k i r (omega arith) is reports.1)
        ∙ sym (view_row all r)
        ∙ ap view_items (sym (row_log r i reports.1))
        ∙ sym (reported p inside (logs_in p all) k i r is reports)

    -- one output more is moved out
    pub one_drawn : (logs rows rows' : List Log) (row : Log) (k i : ℕ) (o : Option ℕ) → slice_get (outputs_of p.plan) k ≡ Some i → AreDrawn rows k → AreLeft logs k → length rows ≡ k → rows' ≡ rows ++ row ∷ [] → Reports p.plan p.site i o → IsDrawn o logs row → AreDrawn rows' (k + 1)
    one_drawn logs rows rows' row k i o is drawn left len more reports has j l =
        elim (cases_lt j k) [
          | inl lt ↦ ap (λ (xs : List Log). row_items (slice_get xs j)) more ∙ ap row_items (slice_get-append_left rows (row ∷ []) j (omega (arith, lt, len))) ∙ drawn j lt
          | inr ge ↦
              let same : j ≡ k = omega (arith, l, ge) in
              let z : j ≡ length rows + 0 = omega (arith, same, len) in
              ap (λ (xs : List Log). row_items (slice_get xs j)) more
              ∙ ap (λ (n : ℕ). row_items (slice_get (rows ++ row ∷ []) n)) z
              ∙ ap row_items (slice_get-append_right rows (row ∷ []) 0)
              ∙ here logs row k i o is left reports has
              ∙ ap (λ (n : ℕ). log_in p (logs_in p all) (slice_get (outputs_of p.plan) n)) (sym same)
        ]

  -- no other output's log is touched
  pub others_left : (logs logs' : List Log) (k i : ℕ) (o : Option ℕ) → slice_get (outputs_of p.plan) k ≡ Some i → AreLeft logs k → Reports p.plan p.site i o → ((j : ℕ) → (o ≡ Some j → ⊥) → slice_get logs' j ≡ slice_get logs j) → AreLeft logs' (k + 1)
  others_left logs logs' k i None is left reports others j x r l at place = others r (λ e. absurd cc) ∙ left j x r (omega (arith, l)) at place
  others_left logs logs' k i (Some q) is left reports others j x r l at place =
      others r (λ e.
      let same : q ≡ r = same_Some q r e in
      let there : i ≡ x = same_Some i x (sym reports.1 ∙ ap (slice_get (places_of p.plan p.site)) same ∙ place) in
      output_after p.plan k j i x (omega (arith, l)) is at (sym there))
      ∙ left j x r (omega (arith, l)) at place

  pub all_drawn : (rows : List Log) (k : ℕ) → AreDrawn rows k → length rows ≡ k → length (outputs_of p.plan) ≤ k → (j : ℕ) → row_items (slice_get rows j) ≡ log_in p (logs_in p all) (slice_get (outputs_of p.plan) j)
  all_drawn rows k drawn len over j =
      elim (cases_lt j k) [
        | inl lt ↦ drawn j lt
        | inr ge ↦ ap row_items (slice_get_past rows j (omega (arith, ge, len))) ∙ ap (log_in p (logs_in p all)) (sym (slice_get_past (outputs_of p.plan) j (omega (arith, ge, over))))
      ]
