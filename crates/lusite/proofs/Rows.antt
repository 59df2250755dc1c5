-- What a site's machine holds, by the numbers of its flows and by the places of all.
use Rattle.std.proofs.Common.{◌≡◌, ℕ, ◌<◌, ◌≤◌, List, length, map, replicate, set, get_or, Option, Some, sym, ap, ◌∙◌, subst, arith}
use Rattle.std.specs.Prelude.{slice_get, slice_index, unwrap_or, All, vec_capacity}
use Rattle.std.specs.Option.{option_map}
use Rattle.std.proofs.lemmas.List.{length-map, length-replicate}
use Rattle.std.proofs.lemmas.Option.{same_Some, slice_get-get_or, slice_get-map, get_or_from_slice_get, slice_get_within}
use Rattle.luflow.specs.declared.data.Datum.TheVariants.{Nil}
use Rattle.luflow.specs.declared.data.Status.{Status}
use Rattle.luflow.specs.declared.data.Status.TheVariants.{Absent, Present}
use Rattle.luflow.specs.declared.message.Body.{Body}
use Rattle.luflow.specs.declared.message.Body.TheVariants.{Value, Close}
use Rattle.luflow.specs.Program.{flows_of}
use Rattle.luflow.proofs.Solutions.{some_at}
use Rattle.lueval_lines.specs.declared.past.Past.{Past}
use Rattle.lueval_lines.specs.declared.cell.Cell.{Cell}
use Rattle.lueval_lines.specs.declared.cell.Cell.TheVariants as cells
use Rattle.lueval_lines.specs.Cells.{status_of, statuses}
use Rattle.lueval_lines.specs.Frames.{datum_in, datum_there}
use Rattle.lusite.specs.declared.state.SiteState.{SiteState}
use Rattle.lusite_program.specs.Spread.{put_at}
use Rattle.lusite_program.specs.Programs.{places_of}
use Rattle.lusite.specs.Logs.{logs_of}
use Rattle.lusite_program.specs.Logs.{Log, LogView, log_view, no_log, logs_in, IsNoted}
use Rattle.lusite.specs.Machine.{IsSet, past_of, pasts_in, shown_in, kept_in, shown_of, pasts_of, count_kept, datum_shown, with_body}
use Rattle.lusite.proofs.Held.{pasts_len, count_same, counts_few, counts_all}
use Rattle.lusite.proofs.Moves.{ordered_here}
use Rattle.lusite_program.proofs.OutputLogs.{logs_row}
use Rattle.lusite_program.proofs.Ranks.{places_once, places_in, place_here}
use Rattle.lusite_program.proofs.Spread.{AreOnce, put_len, put_has, put_same, put_set, spread_all}

-- what is left as it was is shown as it was
pub left_same : (a : SiteState) (xs : List Cell) → statuses xs ≡ statuses a.shown.items → shown_in a.program xs ≡ shown_of a
left_same a xs e = ap (λ ys. put_at (replicate (flows_of a.program.plan.flat) Absent) (places_of a.program.plan a.program.site) ys) e

module _ (a : SiteState) (set_up : IsSet a) where
  abbrev rows : List ℕ
  rows = places_of a.program.plan a.program.site

  abbrev flows : ℕ
  flows = flows_of a.program.plan.flat

  once : AreOnce rows
  once = places_once a.program (ordered_here a set_up)

  inside : (k i : ℕ) → slice_get rows k ≡ Some i → i < flows
  inside k i e =
      let l = slice_get_within rows k i e in
      let w = places_in a.program (ordered_here a set_up) k l in
      let same = get_or_from_slice_get rows k i 0 e in
      omega (arith, w, same)

  pasts_rows : length (pasts_in a.lasts.items a.counts.items) ≡ length rows
  pasts_rows = pasts_len a.lasts.items a.counts.items set_up.pasts_fit ∙ set_up.lasts_fit

  shown_rows : length (statuses a.shown.items) ≡ length rows
  shown_rows = length-map a.shown.items status_of ∙ set_up.shown_fit

  -- what is shown of a flow, and what is kept of it
  pub shown_row : (k i : ℕ) → slice_get rows k ≡ Some i → slice_get (shown_of a) i ≡ slice_get (statuses a.shown.items) k
  shown_row k i e =
      let n = length-replicate flows Absent in
      let l = inside k i e in
      put_same (replicate flows Absent) rows (statuses a.shown.items) k i once shown_rows (omega (arith, l, n)) e

  pub past_row : (k i : ℕ) → slice_get rows k ≡ Some i → slice_get (pasts_of a) i ≡ slice_get (pasts_in a.lasts.items a.counts.items) k
  past_row k i e =
      let n = length-replicate flows (past_of cells.Absent 0) in
      let l = inside k i e in
      put_same (replicate flows (past_of cells.Absent 0)) rows (pasts_in a.lasts.items a.counts.items) k i once pasts_rows (omega (arith, l, n)) e

  -- the same of what is kept one instant later
  pub later_row : (lasts : List Cell) (counts : List ℕ) (k i : ℕ) (y : Past) → slice_get rows k ≡ Some i → slice_get (pasts_in lasts counts) k ≡ Some y → slice_get (kept_in a.program lasts counts) i ≡ Some y
  later_row lasts counts k i y e ey =
      let n = length-replicate flows (past_of cells.Absent 0) in
      let l = inside k i e in
      put_has (replicate flows (past_of cells.Absent 0)) rows (pasts_in lasts counts) k i y once (omega (arith, l, n)) e ey

  pub later_len : (lasts : List Cell) (counts : List ℕ) → length (kept_in a.program lasts counts) ≡ length (pasts_of a)
  later_len lasts counts =
      let base = replicate flows (past_of cells.Absent 0) in
      put_len base rows (pasts_in lasts counts) ∙ sym (put_len base rows (pasts_in a.lasts.items a.counts.items))

  -- no flow was present more often than there were instants
  pub few_rows : (t : ℕ) → All (λ (y : Past). y.count ≤ t) (pasts_of a) → All (λ n. n ≤ t) a.counts.items
  few_rows t h = counts_few t a.lasts.items a.counts.items set_up.pasts_fit (λ k d l.
      let y = some_at (pasts_in a.lasts.items a.counts.items) k l in
      let i = some_at rows k (let n = pasts_rows in omega (arith, l, n)) in
      let there = past_row k i.0 i.1 ∙ y.1 in
      let low : (get_or (pasts_of a) i.0 y.0).count ≤ t = h i.0 y.0 (slice_get_within (pasts_of a) i.0 y.0 there) in
      let one : get_or (pasts_of a) i.0 y.0 ≡ y.0 = get_or_from_slice_get (pasts_of a) i.0 y.0 y.0 there in
      let two : get_or (pasts_in a.lasts.items a.counts.items) k d ≡ y.0 = get_or_from_slice_get (pasts_in a.lasts.items a.counts.items) k y.0 d y.1 in
      subst (λ (p : Past). p.count ≤ t) (one ∙ sym two) low)

  pub all_few : (t : ℕ) (lasts : List Cell) (counts : List ℕ) → All (λ n. n ≤ t) counts → All (λ (y : Past). y.count ≤ t) (kept_in a.program lasts counts)
  all_few t lasts counts h = spread_all (λ (y : Past). y.count ≤ t) flows (past_of cells.Absent 0) rows (pasts_in lasts counts) (omega arith) (counts_all t lasts counts h)

  -- the log of a flow
  logs_rows : length (map log_view a.logs.items) ≡ length rows
  logs_rows = length-map a.logs.items log_view ∙ set_up.logs_fit

  pub log_row : (k i : ℕ) → slice_get rows k ≡ Some i → slice_get (logs_of a) i ≡ slice_get (map log_view a.logs.items) k
  log_row k i e = logs_row a.program a.logs.items (ordered_here a set_up) set_up.logs_fit k i e

  -- the flow at hand
  module _ (l : a.row < length rows) where
    abbrev i : ℕ
    i = slice_index a.program.plan.flat.order a.place.value

    pub row_here : slice_get rows a.row ≡ Some i
    row_here = slice_get-get_or rows (a.row) 0 l ∙ ap Some (place_here a.program a.row a.place.value set_up.rank_is)

    pub count_row : count_kept (pasts_of a) i ≡ unwrap_or (slice_get a.counts.items a.row) 0
    count_row =
        ap (λ (o : Option Past). unwrap_or (option_map (λ (x : Past). x.count) o) 0) (past_row a.row i row_here)
        ∙ count_same a.lasts.items a.counts.items set_up.pasts_fit a.row

    pub datum_row : datum_shown (shown_of a) i ≡ unwrap_or (datum_in (statuses a.shown.items) a.row) Nil
    datum_row = ap (λ (o : Option Status). unwrap_or (datum_there o) Nil) (shown_row a.row i row_here)

    -- it is shown anew
    pub shown_set : (xs : List Cell) (s : Status) → statuses xs ≡ set (statuses a.shown.items) a.row s → shown_in a.program xs ≡ set (shown_of a) i s
    shown_set xs s e =
        ap (λ ys. put_at (replicate flows Absent) rows ys) e
        ∙ put_set (replicate flows Absent) rows (statuses a.shown.items) a.row i s once shown_rows row_here

    pub shown_body : (xs : List Cell) (b : Body) → statuses xs ≡ with_body (statuses a.shown.items) a.row b → shown_in a.program xs ≡ with_body (shown_of a) i b
    shown_body xs (Value d) e = shown_set xs (Present d) e
    shown_body xs Close e = ap (λ ys. put_at (replicate flows Absent) rows ys) e

    log_there : (y : Log) → slice_get a.logs.items a.row ≡ Some y → slice_get (logs_of a) i ≡ Some (log_view y)
    log_there y e = log_row a.row i row_here ∙ slice_get-map log_view a.logs.items a.row ∙ ap (option_map log_view) e

    -- its log has room for one status more
    pub log_room : ((x : LogView) → slice_get (logs_of a) i ≡ Some x → length x.items < x.room) → (y : Log) → slice_get a.logs.items a.row ≡ Some y → length y.items < vec_capacity y
    log_room room y e = room (log_view y) (log_there y e)

    pub log_within : a.row < length a.logs.items
    log_within = omega (arith, l, set_up.logs_fit)

    -- a status that is noted at its number is noted at its place
    pub log_noted : (logs' : List Log) (s : Status) → ((y : Log) → slice_get a.logs.items a.row ≡ Some y → IsNoted (map log_view a.logs.items) a.row (log_view y) s (map log_view logs')) → (x : LogView) → slice_get (logs_of a) i ≡ Some x → IsNoted (logs_of a) i x s (logs_in a.program logs')
    log_noted logs' s noted x ex =
        let y = some_at a.logs.items a.row log_within in
        let n = noted y.0 y.1 in
        subst (λ (v : LogView). IsNoted (logs_of a) i v s (logs_in a.program logs')) (same_Some (log_view y.0) x (sym (log_there y.0 y.1) ∙ ex)) (record {
          row = n.row;
          is = ap (λ ys. put_at (replicate flows no_log) rows ys) n.is ∙ put_set (replicate flows no_log) rows (map log_view a.logs.items) a.row i n.row once logs_rows row_here;
          items = n.items;
          capacity = n.capacity;
        })
