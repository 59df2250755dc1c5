-- What the steps at the ends of links change.
use Rattle.std.proofs.Common.{◌≡◌, ℕ, ◌+◌, ◌<◌, true, false, List, set, Some, None, refl, sym, subst, ap, ◌∙◌}
use Rattle.std.specs.Prelude.{slice_get, unwrap_or, Vec}
use Rattle.std.specs.declared.alloc.Global.{Global}
use Rattle.std.proofs.lemmas.Option.{same_Some}
use Rattle.luflow.specs.declared.data.Datum.{Datum}
use Rattle.luflow.specs.declared.data.Status.TheVariants.{Absent, Present}
use Rattle.luflow.specs.declared.message.Msg.{Msg}
use Rattle.luflow.specs.declared.message.Body.TheVariants as bodies
use Rattle.luflow.specs.Streams.{Known}
use Rattle.luworld.specs.Jobs.{JobView, streams_of}
use Rattle.lulink.specs.Views.{IsNextToPut}
use Rattle.lueval_lines.specs.declared.cell.Cell.{Cell}
use Rattle.lueval_lines.specs.declared.cell.Cell.TheVariants as cells
use Rattle.lueval_lines.specs.Cells.{clock_of, held, statuses, status_of}
use Rattle.lueval_lines.specs.Frames.{clock_in}
use Rattle.lueval_lines.specs.declared.ordered.OrderedLine.{OrderedLine}
use Rattle.lulist.specs.declared.ends.Came.TheVariants.{Value, Nothing}
use Rattle.lulist.specs.declared.ends.Source.{Source}
use Rattle.lulist.specs.declared.ends.Outlet.{Outlet}
use Rattle.lulist.specs.declared.site.ListSite.{ListSite}
use Rattle.luworld.specs.declared.turn.Turn.TheVariants.{Moved, Blocked}
use Rattle.lulist.specs.Steps.{HasComeTo, HasGoneFrom}
use Rattle.lulist.specs.Lists.{Brings, IsListing, IsOutlet, IsSource, Sends, Shows}
use Rattle.lulist.proofs.Moving.{is, absent_is, clock_is, each_set, going_at, going_sources, going_outlets, going_late}
use Rattle.lulist.proofs.Passing.{taken_is, brings_more, brings_absent, brings_still, may_put, may_close, sends_more, sends_absent, sends_still}

held_status : (c : Cell) (d : Datum) → held c ≡ Some d → status_of c ≡ Present d
held_status cells.Absent d e = cc
held_status cells.Nil d e = ap Present (same_Some _ d e)
held_status (cells.Truth b) d e = ap Present (same_Some _ d e)
held_status (cells.Number n) d e = ap Present (same_Some _ d e)
held_status (cells.Name k) d e = ap Present (same_Some _ d e)

held_none : (c : Cell) → held c ≡ None → status_of c ≡ Absent
held_none cells.Absent e = refl
held_none cells.Nil e = cc
held_none (cells.Truth b) e = cc
held_none (cells.Number n) e = cc
held_none (cells.Name k) e = cc

-- TAKES

-- a receiving end that has taken nothing
pub source_still : (job : JobView) (places : List ℕ) (x y : Source) (next : ℕ) → IsSource job places x → HasComeTo next Nothing x y → IsSource job places y
source_still job places x y next is h unclosed =
    let b = is (sym h.closed ∙ unclosed) in
    subst (λ (k : ℕ). Brings job places k y.done y.rx) (sym h.row) (subst (λ (t : ℕ). Brings job places x.row t y.rx) (sym h.done) (brings_still job places x.row x.done x.rx y.rx h.brought b))

pub going_none : (x : ListSite) (e next : ℕ) (s y : Source) (sources' : Vec Source Global) → IsListing x → slice_get x.sources.items e ≡ Some s → sources'.items ≡ set x.sources.items e y → HasComeTo next Nothing s y → IsListing (record x { sources = sources' })
going_none x e next s y sources' going there new h = going_sources x sources' going (λ n source at.
    each_set (IsSource x.inputs.job x.flows.places.items) x.sources.items e y going.sources (source_still x.inputs.job x.flows.places.items s y next (going.sources e s there) h) n source (ap (λ (xs : List Source). slice_get xs n) (sym new) ∙ at))

module _ (x : ListSite) (going : IsListing x) (early : x.t < x.inputs.job.inputs.instants) (row : OrderedLine) (here : slice_get x.flows.lines.rows.items x.at ≡ Some row) (e : ℕ) (s : Source) (there : slice_get x.sources.items e ≡ Some s) (at : s.row ≡ x.at) (done : s.done ≡ x.t) (unclosed : s.closed ≡ false) where
  abbrev job : JobView
  job = x.inputs.job

  brings : Brings job x.flows.places.items x.at x.t s.rx
  brings = subst (λ (t : ℕ). Brings job x.flows.places.items x.at t s.rx) done (subst (λ (k : ℕ). Brings job x.flows.places.items k s.done s.rx) at (going.sources e s there unclosed))

  -- the flow at hand is absent
  pub going_skipped : (shown' : Vec Cell Global) (sources' : Vec Source Global) → false ≡ unwrap_or (clock_in (statuses x.shown.items) (clock_of row.line.clock)) false → shown'.items ≡ set x.shown.items x.at cells.Absent → sources'.items ≡ set x.sources.items e (record s { done = x.t + 1 }) → IsListing (record x { shown = shown'; sources = sources'; at = x.at + 1 })
  going_skipped shown' sources' off shown_is sources_are =
      let w = is x going early row here in
      let absent = absent_is x going early row here off in
      let y : Source = record s { done = x.t + 1 } in
      going_at x going early row here cells.Absent (λ i place. let same : w.place ≡ i = same_Some w.place i (sym w.here ∙ place) in ap (λ (j : ℕ). streams_of job j x.t) (sym same) ∙ absent) shown' sources' shown_is
      (λ n source found. each_set (IsSource job x.flows.places.items) x.sources.items e y going.sources
      (λ _. subst (λ (k : ℕ). Brings job x.flows.places.items k (x.t + 1) s.rx) (sym at) (brings_absent job x.flows.places.items x.at w.place x.t s.rx w.here absent brings))
      n source (ap (λ (xs : List Source). slice_get xs n) (sym sources_are) ∙ found))

  -- its message was taken
  pub going_taken : (shown' : Vec Cell Global) (sources' : Vec Source Global) (y : Source) (d : Datum) (cell : Cell) → true ≡ unwrap_or (clock_in (statuses x.shown.items) (clock_of row.line.clock)) false → held cell ≡ Some d → HasComeTo (x.t + 1) (Value d) s y → shown'.items ≡ set x.shown.items x.at cell → sources'.items ≡ set x.sources.items e y → IsListing (record x { shown = shown'; sources = sources'; at = x.at + 1 })
  going_taken shown' sources' y d cell on holds h shown_is sources_are =
      let w = is x going early row here in
      let clock = clock_is x going early row here true on in
      let came = h.brought in
      let sound = going.sound x.at w.place w.here in
      let mark = taken_is job going.frame.run x.flows.places.items x.at x.t early s.rx brings w.place w.here sound w.flow w.there clock came.0 d came.1 came.3 in
      let more = brings_more job going.frame.run x.flows.places.items x.at x.t early s.rx brings w.place w.here sound w.flow w.there clock came.0 d came.1 came.3 y.rx came.2 in
      let shows : Shows job x.t w.place cell = mark ∙ ap Known (sym (held_status cell d holds)) in
      going_at x going early row here cell (λ i place. let same : w.place ≡ i = same_Some w.place i (sym w.here ∙ place) in ap (λ (j : ℕ). streams_of job j x.t) (sym same) ∙ shows) shown' sources' shown_is
      (λ n source found. each_set (IsSource job x.flows.places.items) x.sources.items e y going.sources
      (λ _. subst (λ (k : ℕ). Brings job x.flows.places.items k y.done y.rx) (sym (h.row ∙ at)) (subst (λ (t : ℕ). Brings job x.flows.places.items x.at t y.rx) (sym h.done) more))
      n source (ap (λ (xs : List Source). slice_get xs n) (sym sources_are) ∙ found))

-- an end that is closed
pub going_closed : (x : ListSite) (e : ℕ) (y : Source) (sources' : Vec Source Global) (at' : ℕ) → IsListing x → x.t ≡ x.inputs.job.inputs.instants → y.closed ≡ true → sources'.items ≡ set x.sources.items e y → IsListing (record x { sources = sources'; at = at' })
going_closed x e y sources' at' going late closed new = going_late x sources' at' going late (λ n source found.
    each_set (IsSource x.inputs.job x.flows.places.items) x.sources.items e y going.sources (λ unclosed. let f : true ≡ false = sym closed ∙ unclosed in absurd cc) n source (ap (λ (xs : List Source). slice_get xs n) (sym new) ∙ found))

-- PUTS

module _ (x : ListSite) (going : IsListing x) (e : ℕ) (s : Outlet) (there : slice_get x.outlets.items e ≡ Some s) (done : s.done ≡ x.t) (unclosed : s.closed ≡ false) where
  sends : Sends x.inputs.job x.flows.places.items s.row x.t s.number s.tx
  sends = subst (λ (t : ℕ). Sends x.inputs.job x.flows.places.items s.row t s.number s.tx) done (going.outlets e s there unclosed)

  each : (outlets' : Vec Outlet Global) (y : Outlet) → outlets'.items ≡ set x.outlets.items e y → IsOutlet x.inputs.job x.flows.places.items y → (n : ℕ) (outlet : Outlet) → slice_get outlets'.items n ≡ Some outlet → IsOutlet x.inputs.job x.flows.places.items outlet
  each outlets' y new is n outlet found = each_set (IsOutlet x.inputs.job x.flows.places.items) x.outlets.items e y going.outlets is n outlet (ap (λ (xs : List Outlet). slice_get xs n) (sym new) ∙ found)

  -- nothing was put
  pub going_unsent : (outlets' : Vec Outlet Global) (y : Outlet) (next : ℕ) (m : Msg) → outlets'.items ≡ set x.outlets.items e y → HasGoneFrom next Blocked m s y → IsListing (record x { outlets = outlets' })
  going_unsent outlets' y next m new h = going_outlets x outlets' x.out going (each outlets' y new (λ open'.
      subst (λ (k : ℕ). Sends x.inputs.job x.flows.places.items k y.done y.number y.tx) (sym h.row)
      (subst (λ (t : ℕ). Sends x.inputs.job x.flows.places.items s.row t y.number y.tx) (sym (h.sent.0 ∙ done))
      (subst (λ (n : ℕ). Sends x.inputs.job x.flows.places.items s.row x.t n y.tx) (sym h.sent.1)
      (sends_still x.inputs.job x.flows.places.items s.row x.t s.number s.tx y.tx h.gone sends)))))

  -- the close was put
  pub going_shut : (outlets' : Vec Outlet Global) (y : Outlet) (out' : ℕ) → outlets'.items ≡ set x.outlets.items e y → y.closed ≡ true → IsListing (record x { outlets = outlets'; out = out' })
  going_shut outlets' y out' new closed = going_outlets x outlets' out' going (each outlets' y new (λ open'. let f : true ≡ false = sym closed ∙ open' in absurd cc))

  place_of : (i : ℕ) × (slice_get x.flows.places.items s.row ≡ Some i)
  place_of = (_, sends.flow_is)

  pub close_next : x.t ≡ x.inputs.job.inputs.instants → IsNextToPut s.tx (record { no = s.number; body = bodies.Close })
  close_next late =
      let i = place_of in
      may_close x.inputs.job x.flows.places.items s.row x.t s.number s.tx late sends i.0 i.1 (going.sound s.row i.0 i.1)

  module _ (early : x.t < x.inputs.job.inputs.instants) (behind : s.row < x.at) (cell : Cell) (shows : slice_get x.shown.items s.row ≡ Some cell) where
    mark : streams_of x.inputs.job place_of.0 x.t ≡ Known (status_of cell)
    mark =
        let w = going.shown early s.row place_of.0 behind place_of.1 in
        let same : w.0 ≡ cell = same_Some w.0 cell (sym w.1 ∙ shows) in
        w.2 ∙ ap (λ (z : Cell). Known (status_of z)) same

    -- the flow is absent
    pub going_passed : (outlets' : Vec Outlet Global) (out' : ℕ) → held cell ≡ None → outlets'.items ≡ set x.outlets.items e (record s { done = x.t + 1 }) → IsListing (record x { outlets = outlets'; out = out' })
    going_passed outlets' out' none new = going_outlets x outlets' out' going (each outlets' (record s { done = x.t + 1 }) new (λ open'.
        sends_absent x.inputs.job x.flows.places.items s.row x.t s.number s.tx sends place_of.0 place_of.1 (mark ∙ ap Known (held_none cell none))))

    pub value_next : (d : Datum) → held cell ≡ Some d → IsNextToPut s.tx (record { no = s.number; body = bodies.Value d })
    value_next d holds = may_put x.inputs.job x.flows.places.items s.row x.t s.number s.tx early sends place_of.0 place_of.1 (going.sound s.row place_of.0 place_of.1) d (mark ∙ ap Known (held_status cell d holds))

    -- its value was put
    pub going_sent : (outlets' : Vec Outlet Global) (y : Outlet) (out' : ℕ) (m : Msg) (d : Datum) → held cell ≡ Some d → outlets'.items ≡ set x.outlets.items e y → HasGoneFrom (x.t + 1) Moved m s y → IsListing (record x { outlets = outlets'; out = out' })
    going_sent outlets' y out' m d holds new h = going_outlets x outlets' out' going (each outlets' y new (λ open'.
        subst (λ (k : ℕ). Sends x.inputs.job x.flows.places.items k y.done y.number y.tx) (sym h.row)
        (subst (λ (t : ℕ). Sends x.inputs.job x.flows.places.items s.row t y.number y.tx) (sym h.sent.0)
        (sends_more x.inputs.job x.flows.places.items s.row x.t s.number y.number s.tx y.tx sends place_of.0 place_of.1 m d (mark ∙ ap Known (held_status cell d holds)) h.sent.1 h.gone))))
