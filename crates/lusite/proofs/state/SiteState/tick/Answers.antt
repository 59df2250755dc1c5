use Rattle.std.proofs.Common.{◌≡◌, ℕ, ◌+◌, ◌<◌, List, length, Some, refl, ap, sym, subst, ◌∙◌, slice_get, arith}
use Rattle.std.specs.Prelude.{not, slice_index, All}
use Rattle.std.proofs.lemmas.Option.{slice_get-get_or}
use Rattle.luflow.specs.declared.data.Status.{Status}
use Rattle.luworld.specs.Jobs.{streams_of, items_before}
use Rattle.lueval_lines.specs.declared.past.Past.{Past}
use Rattle.lueval_lines.specs.declared.cell.Cell.{Cell}
use Rattle.lusite.specs.Machine.{Stands, is_faulted, shown_of, pasts_of, kept_in}
use Rattle.lusite.specs.Logs.{logs_of}
use Rattle.lusite_program.specs.Logs.{IsLogged}
use Rattle.lusite_program.specs.Programs.{places_of}
use Rattle.lusite.proofs.SiteStates.{going_state}
use Rattle.lusite.proofs.Held.{aged_pasts}
use Rattle.lusite.proofs.Moves.{tick_next, tick_done, logged_first}
use Rattle.lusite.proofs.Rows.{shown_row, past_row, later_row, later_len, few_rows, all_few}
use Rattle.lusite.proofs.Reported.{note_tick, none_yet}
use Rattle.lusite.proofs.state.SiteState.tick.Goals as goal

pub age-requires-clause-rising : goal.age-requires-clause-rising
age-requires-clause-rising c =
    subst (λ (xs : List ℕ). (j k : ℕ) → j < k → k < length xs → slice_index xs j < slice_index xs k) (sym c.deref.ensures.value) c.requires.going.in_order.set.kept_are.rising

pub age-requires-clause-inside : goal.age-requires-clause-inside
age-requires-clause-inside c =
    let set = c.requires.going.in_order.set in
    let n = ap (λ (xs : List Cell). length xs) c.deref-2.ensures.value ∙ set.shown_fit in
    subst (λ (m : ℕ). All (λ k. k < m) c.deref.result.now) (sym n) (subst (All (λ k. k < length (places_of c.args.self.now.program.plan c.args.self.now.program.site))) (sym c.deref.ensures.value) set.kept_are.inside)

pub age-requires-clause-lasts_len : goal.age-requires-clause-lasts_len
age-requires-clause-lasts_len c =
    let r = c.requires.going.in_order.set in
    ap (λ (xs : List Cell). length xs) c.deref-2.ensures.value ∙ r.shown_fit ∙ sym r.lasts_fit

pub age-requires-clause-counts_len : goal.age-requires-clause-counts_len
age-requires-clause-counts_len c =
    let r = c.requires.going.in_order.set in
    ap (λ (xs : List Cell). length xs) c.deref-2.ensures.value ∙ r.shown_fit ∙ sym r.lasts_fit ∙ r.pasts_fit

pub age-requires-clause-counts : goal.age-requires-clause-counts
age-requires-clause-counts c = few_rows c.args.self.now c.requires.going.in_order.set c.args.self.now.instant c.requires.going.in_order.stands.counts

pub returns-clause-done : goal.returns-clause-done
returns-clause-done c =
    let a = c.args.self.now in
    let g = going_state a c.requires.going in
    ap (λ p. items_before a.inputs.job (streams_of a.inputs.job) a.inputs.site (a.instant + 1) p 0) (c.of.ensures ∙ c.rank-rank.ensures) ∙ tick_done a g c.requires.last c.requires.early

pub returns-clause-goes_on : goal.returns-clause-goes_on
returns-clause-goes_on c =
    let a = c.args.self.now in
    let set = c.requires.going.in_order.set in
    let g = going_state a c.requires.going in
    let lasts = c.age.new.lasts.items in
    let counts = c.age.new.counts.items in
    let places = places_of a.program.plan a.program.site in
    let pasts = kept_in a.program lasts counts in
    let each = λ (j k : ℕ) (x : Status) (y : Past) (ej : slice_get a.kept.items j ≡ Some k) (lk : k < length places) (ex : slice_get (shown_of a) (slice_index places k) ≡ Some x) (ey : slice_get (pasts_of a) (slice_index places k) ≡ Some y).
    let here = slice_get-get_or places k 0 lk in
    later_row a set lasts counts k (slice_index places k) _ here
    (aged_pasts a.shown.items a.lasts.items lasts a.counts.items counts k x y
    (λ u v eu ev. c.age.ensures.lasts j k u v (ap (λ (xs : List ℕ). slice_get xs j) c.deref.ensures.value ∙ ej) (ap (λ (xs : List Cell). slice_get xs k) c.deref-2.ensures.value ∙ eu) ev)
    (λ u n eu en. c.age.ensures.counted j k u n (ap (λ (xs : List ℕ). slice_get xs j) c.deref.ensures.value ∙ ej) (ap (λ (xs : List Cell). slice_get xs k) c.deref-2.ensures.value ∙ eu) en)
    (sym (shown_row a set k (slice_index places k) here) ∙ ex) (sym (past_row a set k (slice_index places k) here) ∙ ey)) in
    let r = tick_next a g c.requires.last c.requires.early pasts (later_len a set lasts counts) each (all_few a set (a.instant + 1) lasts counts c.age.ensures.counts) in
    let n = note_tick a g c.requires.last c.requires.early c.requires.going.in_order.logged in
    record {
      same = record { program_is = refl; inputs_is = refl };
      in_order = record {
        set = record {
          is_job = set.is_job;
          plan_is = set.plan_is;
          site_is = set.site_is;
          rank_is = c.of.ensures ∙ c.rank-rank.ensures;
          kept_are = set.kept_are;
          shown_fit = set.shown_fit;
          lasts_fit = c.age.ensures.lasts_len ∙ set.lasts_fit;
          pasts_fit = c.age.ensures.lasts_len ∙ set.pasts_fit ∙ sym c.age.ensures.counts_len;
          logs_fit = set.logs_fit;
          row_in = omega arith;
        };
        stands = subst (λ (p : ℕ). Stands a.inputs.job a.inputs.site (shown_of a) pasts (a.instant + 1) p 0 (is_faulted a)) (sym (c.of.ensures ∙ c.rank-rank.ensures)) r.0;
        logged = none_yet a.inputs.job a.inputs.site (logs_of a) (a.instant + 1) c.of.result.value (not (is_faulted a))
            (subst (λ (p : ℕ). IsLogged a.inputs.job a.inputs.site (logs_of a) (a.instant + 1) p) (sym (c.of.ensures ∙ c.rank-rank.ensures)) (logged_first a g c.requires.last c.requires.early (logs_of a) n));
      };
      fault = refl;
    }
