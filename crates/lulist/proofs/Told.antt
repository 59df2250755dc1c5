-- What a station that has ended leaves.
use Rattle.std.proofs.Common.{◌≡◌, ℕ, ◌<◌, Bool, true, false, cond, List, [], ◌∷◌, ◌++◌, length, map, get_or, Option, Some, None, refl, sym, subst, ap, ◌∙◌, arith}
use Rattle.std.specs.Prelude.{slice_get, slice_index, ◌||◌, ◌&&◌, ◌==◌, is_some}
use Rattle.std.specs.Option.{option_map}
use Rattle.std.proofs.lemmas.Bool.{eq-eqb, ne_eqb, eqb-true, false≢true}
use Rattle.std.proofs.lemmas.List.{length-map}
use Rattle.std.proofs.lemmas.List.Quantifiers.{position-Some}
use Rattle.std.proofs.lemmas.Option.{same_Some, slice_get-get_or, slice_get-map, slice_get_within}
use Rattle.luflow.specs.declared.data.Status.{Status}
use Rattle.luflow.specs.Program.{flows_of}
use Rattle.luflow.specs.Streams.{Known, is_broken}
use Rattle.luflow.specs.Messages.{marks}
use Rattle.luflow.specs.Variables.{is_output_of}
use Rattle.luflow.proofs.Solutions.{some_at}
use Rattle.luworld.specs.declared.link.Link.{Link}
use Rattle.luworld.specs.declared.turn.Turn.{Turn}
use Rattle.luworld.specs.declared.turn.Turn.TheVariants.{Moved, Blocked, Over}
use Rattle.luworld.specs.Needs.{PlanView, home, stands}
use Rattle.luworld.specs.Jobs.{IsCoherent, is_into, link_into, outputs_of, streams_of}
use Rattle.luworld.specs.Sites.{AreWholeOutputs, IsSiteOfJob, IsSoundAt}
use Rattle.luworld.specs.Turns.{IfGoes, is_over}
use Rattle.luworld.specs.WorldViews.{IsWhole}
use Rattle.luworld.proofs.Fitting.{fits}
use Rattle.luplace.specs.SiteInputsViews.{SiteInputsView}
use Rattle.lusite_program.specs.Logs.{Log, LogView, log_view}
use Rattle.lusite_program.proofs.Sifted.{sifted_in}
use Rattle.lulist.specs.declared.site.ListSite.{ListSite}
use Rattle.lulist.specs.Rows.{IsNumbered, reported_number}
use Rattle.lulist.specs.Stations.{AreOutputRows, IsOutputRow}
use Rattle.lulist.specs.Lists.{IsListing}
use Rattle.lueval_lines.proofs.Elements.{push_each}

and_both : (a b : Bool) → (a && b) ≡ true → (a ≡ true) × (b ≡ true)
and_both true b h = (refl, h)
and_both false b h = absurd (false≢true h)

module _ (x : ListSite) (going : IsListing x) (late : x.t ≡ x.inputs.job.inputs.instants) where
  abbrev plan : PlanView
  plan = x.inputs.job.plan

  abbrev s : ℕ
  s = x.inputs.site

  abbrev numbers : List ℕ
  numbers = x.flows.numbers.items

  fitting : IsCoherent plan
  fitting = fits plan going.frame.run.plan_is

  -- a flow that a link brings has a number
  link_number : (i l : ℕ) → link_into plan s i ≡ Some l → IsNumbered x.flows.places.items numbers i
  link_number i l e =
      let none : Link = record { flow = 0; from = 0; to = 0 } in
      let link = get_or plan.links l none in
      let w = position-Some (is_into s i) plan.links l none e in
      let both = and_both (link.flow == i) (link.to == s) w.1 in
      subst (IsNumbered x.flows.places.items numbers) (eqb-true link.flow i both.0)
      (going.frame.flows.brought l link (slice_get-get_or plan.links l none w.0) (eqb-true link.to s both.1))

  linked_number : (i : ℕ) (o : Option ℕ) → link_into plan s i ≡ o → is_some o ≡ true → IsNumbered x.flows.places.items numbers i
  linked_number i None e h = absurd (false≢true h)
  linked_number i (Some l) e h = link_number i l e

  -- and so does every flow that the site knows
  known_number : (i : ℕ) → i < flows_of plan.flat → (b : Bool) → stands plan i s ≡ b → (b || is_some (link_into plan s i)) ≡ true → IsNumbered x.flows.places.items numbers i
  known_number i inside true is h = going.frame.flows.all i inside is
  known_number i inside false is h = linked_number i (link_into plan s i) refl h

  pub sound_at : IsSoundAt x.inputs.job s
  sound_at i t known inside l =
      let status = going.sound (slice_index numbers i) i (known_number i inside (stands plan i s) refl known) t (omega (arith, l, late)) in
      ap is_broken status.1

  -- a log is its output's whole stream
  whole_log : (n k i : ℕ) (row : Log) → slice_get x.noted.items n ≡ Some k → slice_get x.flows.places.items k ≡ Some i → slice_get x.logs.items n ≡ Some row → IsWhole x.inputs.job i row.items
  whole_log n k i row noted place there =
      let w = going.logs n k i noted place in
      let same : w.0 ≡ log_view row = same_Some w.0 (log_view row) (sym w.1 ∙ slice_get-map log_view x.logs.items n ∙ ap (option_map log_view) there) in
      ap (λ (v : LogView). map Known v.items) (sym same) ∙ w.2.known ∙ ap (marks (streams_of x.inputs.job i)) late

  output_inside : (m i : ℕ) → slice_get (outputs_of plan) m ≡ Some i → i < flows_of plan.flat
  output_inside m i there =
      let w = (sifted_in (is_output_of plan.flat) 0 (length plan.flat.variables) m i there).1 in
      let first = fitting.variables_first in
      omega (arith, w, first)

  -- a flow whose home the site is has a number
  home_number : (m i : ℕ) → slice_get (outputs_of plan) m ≡ Some i → home plan i ≡ s → IsNumbered x.flows.places.items numbers i
  home_number m i there at =
      let inside = output_inside m i there in
      going.frame.flows.all i inside (subst (λ (h : ℕ). stands plan i h ≡ true) at (fitting.stands_home i inside))

  reported_at : (m i : ℕ) → slice_get (outputs_of plan) m ≡ Some i → slice_get x.flows.reported.items m ≡ Some (reported_number plan s numbers i)
  reported_at m i there =
      ap (λ (os : List (Option ℕ)). slice_get os m) going.frame.flows.reported
      ∙ slice_get-map (reported_number plan s numbers) (outputs_of plan) m
      ∙ ap (option_map (reported_number plan s numbers)) there

  reported_here : (i : ℕ) → home plan i ≡ s → reported_number plan s numbers i ≡ Some (slice_index numbers i)
  reported_here i at = ap (λ (b : Bool). cond b (Some (slice_index numbers i)) None) (eq-eqb (home plan i) s at)

  reported_nowhere : (i : ℕ) → (home plan i ≡ s → ⊥) → reported_number plan s numbers i ≡ None
  reported_nowhere i away = ap (λ (b : Bool). cond b (Some (slice_index numbers i)) None) (ne_eqb (home plan i) s away)

  module _ (rows : List Log) (are : AreOutputRows x.flows.reported.items x.noted.items x.logs.items rows) where
    abbrev items : Log → List Status
    items row = row.items

    -- the row of an output
    row_at : (m i : ℕ) (xs : List Status) → slice_get (outputs_of plan) m ≡ Some i → slice_get (map items rows) m ≡ Some xs → (o : Option ℕ) → reported_number plan s numbers i ≡ o → (row : Log) × (row.items ≡ xs) × IsOutputRow x.noted.items x.logs.items o row
    row_at m i xs there at o is =
        let l = slice_get_within (map items rows) m xs at in
        let n = length-map rows items in
        let row = some_at rows m (omega (arith, l, n)) in (
          row.0,
          same_Some row.0.items xs (sym (slice_get-map items rows m ∙ ap (option_map items) row.1) ∙ at),
          are.each m o row.0 (reported_at m i there ∙ ap Some is) row.1,
        )

    pub whole_outputs : AreWholeOutputs x.inputs.job s (map items rows)
    whole_outputs = record {
      len = length-map rows items ∙ are.len ∙ ap length going.frame.flows.reported ∙ length-map (outputs_of plan) (reported_number plan s numbers);
      own = λ m i xs there at here.
          let row = row_at m i xs there at (Some (slice_index numbers i)) (reported_here i here) in
          subst (IsWhole x.inputs.job i) row.1 (whole_log row.2.0 (slice_index numbers i) i row.0 row.2.1 (home_number m i there here) row.2.2);
      elsewhere = λ m i xs there at away.
          let row = row_at m i xs there at None (reported_nowhere i away) in
          sym row.1 ∙ row.2;
    }

-- a site that went on is one of the same run
pub same_at : (a b : SiteInputsView) → b ≡ a → IsSiteOfJob (record { job = a.job; site = a.site }) → IsSiteOfJob (record { job = b.job; site = b.site })
same_at a b same at = subst (λ (i : SiteInputsView). IsSiteOfJob (record { job = i.job; site = i.site })) (sym same) at

-- ROWS, ONE BY ONE

abbrev pub EachRow : List (Option ℕ) → List ℕ → List Log → List Log → Type 0
EachRow reported noted logs rows = (m : ℕ) (o : Option ℕ) (row : Log) → slice_get reported m ≡ Some o → slice_get rows m ≡ Some row → IsOutputRow noted logs o row

pub row_more : (reported : List (Option ℕ)) (noted : List ℕ) (logs rows : List Log) (m : ℕ) (o : Option ℕ) (row : Log) → length rows ≡ m → slice_get reported m ≡ Some o → IsOutputRow noted logs o row → EachRow reported noted logs rows → EachRow reported noted logs (rows ++ row ∷ [])
row_more reported noted logs rows m o row len at is h j p y found there =
    push_each (λ (n : ℕ) (r : Log). (q : Option ℕ) → slice_get reported n ≡ Some q → IsOutputRow noted logs q r) rows row (λ n r e q g. h n q r g e)
    (λ q g. let same : o ≡ q = same_Some o q (sym at ∙ ap (slice_get reported) (sym len) ∙ g) in subst (λ (z : Option ℕ). IsOutputRow noted logs z row) same is)
    j y there p found

-- a turn that isn't over goes on
pub goes_on : (r : Turn) (P : Type 0) → is_over r ≡ false → IfGoes r P → P
goes_on Moved P e h = h
goes_on Blocked P e h = h
goes_on Over P e h = cc
