-- The stations that were made with the ends of the first sites, and the ends that are left.
use Rattle.std.proofs.Common.{◌≡◌, ℕ, suc, ◌+◌, List, [], ◌∷◌, ◌++◌, length, length-append, Some, sym, ap, ◌∙◌, subst, refl, arith}
use Rattle.std.specs.Prelude.{slice_get}
use Rattle.atomic_table.specs.Seated.{TableId}
use Rattle.luworld.specs.Needs.{sites_of}
use Rattle.luworld.specs.Jobs.{JobView}
use Rattle.lulink.specs.Views.{SenderView, ReceiverView}
use Rattle.lurun.specs.declared.engine.Engine.{Engine}
use Rattle.lurun.specs.declared.opening.Ends.{Ends}
use Rattle.lurun.specs.Ends.{AreEndsOf, AreUnusedEnds}
use Rattle.lurun.specs.Making.{IsEnds, AreAllEnds}
use Rattle.lurun.specs.Stations.{StationView, IsStationOf, AreStations}
use Rattle.lurun.proofs.Lists.{pushed_at}
use Rattle.lurun.proofs.OpenedEnds.{unused_ends}

-- a new station, by these rings
pub record IsLinkedStation (job : JobView) (engine : Engine) (rings : List TableId) (s : ℕ) (x : StationView) : Type 0 where
  pub station : IsStationOf job engine s x
  pub linked : AreEndsOf rings job.plan.capacity x.txs x.rxs

pub record AreMade (job : JobView) (engine : Engine) (stations : List StationView) (left : List Ends) : Type 0 where
  pub rings : List TableId
  pub made : (s : ℕ) (x : StationView) → slice_get stations s ≡ Some x → IsLinkedStation job engine rings s x
  pub others : (k : ℕ) (b : Ends) → slice_get left k ≡ Some b
      → IsEnds job rings (length job.plan.links) (length stations + k) b

abbrev pub station_with : JobView → Engine → ℕ → Ends → StationView
station_with job engine s b = record { job = job; site = s; engine = engine; txs = b.txs.items; rxs = b.rxs.items }

module _ (job : JobView) (engine : Engine) where
  pub none_made : (stations : List StationView) (left all : List Ends) → stations ≡ [] → left ≡ all → AreAllEnds job (length job.plan.links) all → AreMade job engine stations left
  none_made stations left all none same are = record {
    rings = are.rings;
    made = λ s x e. (let z = ap (λ xs. slice_get xs s) (sym none) ∙ e in absurd cc);
    others = λ k b e.
        (let is = are.each k b (ap (λ xs. slice_get xs k) (sym same) ∙ e) in
        let z : k ≡ length stations + k = (let y = ap length none in omega (arith, y)) in
        subst (λ (m : ℕ). IsEnds job are.rings (length job.plan.links) m b) z is);
  }

  -- the ends of the next site are its unused ends
  pub next_ends : (stations : List StationView) (left rest : List Ends) (b : Ends) (s : ℕ) → left ≡ b ∷ rest → s ≡ length stations → AreMade job engine stations left → AreUnusedEnds job s b.txs.items b.rxs.items
  next_ends stations left rest b s e n are =
      let is = are.others 0 b (ap (λ xs. slice_get xs 0) e) in
      let z : length stations + 0 ≡ s = omega (arith, n) in
      unused_ends job are.rings s b (subst (λ (m : ℕ). IsEnds job are.rings (length job.plan.links) m b) z is)

  -- one station more
  pub one_made : (stations more : List StationView) (left rest : List Ends) (b : Ends) (x : StationView) (s : ℕ) → left ≡ b ∷ rest → s ≡ length stations → x ≡ station_with job engine s b → more ≡ stations ++ x ∷ [] → AreMade job engine stations left → AreMade job engine more rest
  one_made stations more left rest b x s e n is p are =
      let rings = are.rings in
      let first = are.others 0 b (ap (λ xs. slice_get xs 0) e) in
      let z : length stations + 0 ≡ length stations = omega arith in
      let here : IsLinkedStation job engine rings (length stations) (station_with job engine s b) = record {
        station = record {
          job_is = refl;
          site_is = n;
          engine_is = refl;
          ends = unused_ends job rings (length stations) b (subst (λ (m : ℕ). IsEnds job rings (length job.plan.links) m b) z first);
        };
        linked = first.linked;
      } in
      record {
        rings = rings;
        made = λ k y at. pushed_at (IsLinkedStation job engine rings) stations x (subst (IsLinkedStation job engine rings (length stations)) (sym is) here) are.made k y (ap (λ xs. slice_get xs k) (sym p) ∙ at);
        others = λ k y at.
            (let further : length stations + suc k ≡ length more + k = (let m = ap length p ∙ length-append stations (x ∷ []) in omega (arith, m)) in
            subst (λ (m : ℕ). IsEnds job rings (length job.plan.links) m y) further (are.others (suc k) y (ap (λ xs. slice_get xs (suc k)) e ∙ at)));
      }

pub made_stations : (job : JobView) (engine : Engine) (stations : List StationView) (left : List Ends) → length stations ≡ sites_of job.plan → AreMade job engine stations left → AreStations job engine stations
made_stations job engine stations left len are = record {
  len = len;
  each = λ s x e. (are.made s x e).station;
  linked = record { rings = are.rings; each = λ s x e. (are.made s x e).linked };
}
