-- The meaning of an open list, in which a copy has the very stream of what it copies.
use Rattle.std.proofs.Common.{◌≡◌, ℕ, ◌+◌, List, map, Some, refl, sym, ap, ◌∙◌, subst, arith}
use Rattle.std.specs.Prelude.{slice_get, slice_index}
use Rattle.std.proofs.lemmas.Simd.{map-map}
use Rattle.luflow.specs.declared.form.Clock.{Clock}
use Rattle.luflow.specs.declared.form.Clock.TheVariants.{Base, On}
use Rattle.luflow.specs.declared.form.Form.{Form}
use Rattle.luflow.specs.declared.form.Form.TheVariants.{Input, Constant, Copied, Unary, Binary, If, Pre, Arrow, When, Current, Merge}
use Rattle.luflow.specs.declared.form.Flow.{Flow}
use Rattle.luflow.specs.Streams.{Broken, Stream, Streams, Ticks}
use Rattle.lusource.specs.StreamOperators.{merge_stream}
use Rattle.lucore_laws.specs.Layout.{Root, moved_form, moved_clock, moved}
use Rattle.lucore_laws.specs.Layout.Root.{own, at}
pub use Rattle.lucore_laws.specs.Open.{Model, clock_ticks, form_stream, flow_stream}
use Rattle.lucore_laws.proofs.Each.{Each, each_unmap, each_map, each_shift, each_unshift, each_at, each_all}

pub nothing : Stream
nothing t = Broken

abbrev pub FlowHolds : Ticks → Model → ℕ → Flow → Type 0
FlowHolds base m x f = m.on x ≡ flow_stream base m f

abbrev pub Hold : Ticks → Model → ℕ → List Flow → Type 0
Hold base m s flows = Each (FlowHolds base m) s flows

abbrev pub Solves : Ticks → Model → List Flow → Type 0
Solves base m flows = (x : ℕ) (f : Flow) → slice_get flows x ≡ Some f → FlowHolds base m x f

pub solves_hold : (base : Ticks) (m : Model) (flows : List Flow) → Solves base m flows → Hold base m 0 flows
solves_hold base m flows h = each_all (FlowHolds base m) 0 flows (λ j f e. let z : j ≡ 0 + j = omega arith in subst (λ n. FlowHolds base m n f) z (h j f e))

pub hold_solves : (base : Ticks) (m : Model) (flows : List Flow) → Hold base m 0 flows → Solves base m flows
hold_solves base m flows h j f e = let z : 0 + j ≡ j = omega arith in subst (λ n. FlowHolds base m n f) z (each_at (FlowHolds base m) 0 flows j f h e)

-- what the j-th variable on a left side has, by the root of the right side
abbrev pub root_stream : Ticks → Model → Root → ℕ → Stream
root_stream base m (own f) j = flow_stream base m f
root_stream base m (at a) j = m.on (a + j)

-- the streams of an instance at place b
abbrev pub moved_model : Model → ℕ → List ℕ → Model
moved_model m b arguments = record { on = λ x. m.on (b + x); given = λ r. m.on (slice_index arguments r) }

clock_moved : (base : Ticks) (τ : Streams) (b : ℕ) (k c : Clock) → clock_ticks base τ (moved_clock b k c) ≡ clock_ticks (clock_ticks base τ k) (λ x. τ (b + x)) c
clock_moved base τ b k Base = refl
clock_moved base τ b k (On c d) = refl

form_moved : (m : Model) (b : ℕ) (arguments : List ℕ) (k : Ticks) (f : Form) → form_stream m k (moved_form b arguments f) ≡ form_stream (moved_model m b arguments) k f
form_moved m b arguments k (Input r) = refl
form_moved m b arguments k (Constant d) = refl
form_moved m b arguments k (Copied a) = refl
form_moved m b arguments k (Unary op x) = refl
form_moved m b arguments k (Binary op x y) = refl
form_moved m b arguments k (If c x y) = refl
form_moved m b arguments k (Pre x) = refl
form_moved m b arguments k (Arrow x y) = refl
form_moved m b arguments k (When x) = refl
form_moved m b arguments k (Current x) = refl
form_moved m b arguments k (Merge c xs) = ap (merge_stream k (m.on (b + c))) (map-map m.on (λ x. b + x) xs)

-- a moved flow asks at b + x what the flow asks at x
pub flow_moved : (base : Ticks) (m : Model) (b : ℕ) (k : Clock) (arguments : List ℕ) (f : Flow) → flow_stream base m (moved b k arguments f) ≡ flow_stream (clock_ticks base m.on k) (moved_model m b arguments) f
flow_moved base m b k arguments f =
    ap (λ c. form_stream m c (moved_form b arguments f.form)) (clock_moved base m.on b k f.clock)
    ∙ form_moved m b arguments (clock_ticks (clock_ticks base m.on k) (λ x. m.on (b + x)) f.clock) f.form

-- an instance that holds is a solution of the node's list
pub instance_solves : (base : Ticks) (m : Model) (b : ℕ) (k : Clock) (arguments : List ℕ) (flows : List Flow) → Hold base m b (map (moved b k arguments) flows) → Solves (clock_ticks base m.on k) (moved_model m b arguments) flows
instance_solves base m b k arguments flows h x f e =
    let z : b + 0 ≡ b = omega arith in
    let h' = each_shift (λ j g. FlowHolds base m j (moved b k arguments g)) b 0 flows (subst (λ n. Each (λ j g. FlowHolds base m j (moved b k arguments g)) n flows) (sym z) (each_unmap (FlowHolds base m) (moved b k arguments) b flows h)) in
    let y : 0 + x ≡ x = omega arith in
    subst (λ n. m.on (b + n) ≡ flow_stream base m (moved b k arguments f)) y (each_at (λ j g. FlowHolds base m (b + j) (moved b k arguments g)) 0 flows x f h' e) ∙ flow_moved base m b k arguments f

-- and the other way round
pub solved_instance : (base : Ticks) (m : Model) (b : ℕ) (k : Clock) (arguments : List ℕ) (flows : List Flow) → Solves (clock_ticks base m.on k) (moved_model m b arguments) flows → Hold base m b (map (moved b k arguments) flows)
solved_instance base m b k arguments flows h =
    let z : b + 0 ≡ b = omega arith in
    let each = each_all (λ j g. FlowHolds base m (b + j) (moved b k arguments g)) 0 flows (λ j g e.
    let y : j ≡ 0 + j = omega arith in
    subst (λ n. m.on (b + n) ≡ flow_stream base m (moved b k arguments g)) y (h j g e ∙ sym (flow_moved base m b k arguments g))) in
    each_map (FlowHolds base m) (moved b k arguments) b flows (subst (λ n. Each (λ j g. FlowHolds base m j (moved b k arguments g)) n flows) z (each_unshift (λ j g. FlowHolds base m j (moved b k arguments g)) b 0 flows each))
