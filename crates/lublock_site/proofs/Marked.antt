-- What is known of all places.
use Rattle.std.proofs.Common.{◌≡◌, ℕ, zero, suc, ◌+◌, ◌<◌, inl, inr, Bool, true, List, [], ◌∷◌, Some, sym, subst, arith}
use Rattle.std.specs.Prelude.{All, slice_get}
use Rattle.std.proofs.lemmas.Bool.{cases_lt}
use Rattle.std.proofs.lemmas.Option.{get_or_from_slice_get}
use Rattle.luflow.specs.declared.form.Clock.{Clock}
use Rattle.luflow.specs.declared.form.Clock.TheVariants.{Base, On}
use Rattle.luflow.specs.declared.form.Form.{Form}
use Rattle.luflow.specs.declared.form.Form.TheVariants.{Input, Constant, Copied, Unary, Binary, If, Pre, Arrow, When, Current, Merge}
use Rattle.luflow.specs.declared.form.Flow.{Flow}
use Rattle.luflow.specs.Program.{FlatView, flow_at, places, clock_reads}
use Rattle.luflow.proofs.Solutions.{some_at}
use Rattle.lublock_kernels.specs.Parts.{Part, IsPart, knows}
use Rattle.lublock_site.specs.Marks.{PlacesKnown, ClockKnown}

all_none : (P : ℕ → Type 0) → All P []
all_none P = λ k d l. absurd (omega arith)

all_more : (P : ℕ → Type 0) (a : ℕ) (rs : List ℕ) → P a → All P rs → All P (a ∷ rs)
all_more P a rs h t zero d l = h
all_more P a rs h t (suc k) d l = t k d (omega arith)

all_each : (P : ℕ → Type 0) (rs : List ℕ) → ((k x : ℕ) → slice_get rs k ≡ Some x → P x) → All P rs
all_each P rs h = λ k d l. let s = some_at rs k l in subst P (sym (get_or_from_slice_get rs k s.0 d s.1)) (h k s.0 s.1)

module _ (known : ℕ → Bool) where
  abbrev Known : ℕ → Type 0
  Known r = known r ≡ true

  one : (a : ℕ) → Known a → All Known (a ∷ [])
  one a h = all_more Known a [] h (all_none Known)

  two : (a b : ℕ) → Known a → Known b → All Known (a ∷ b ∷ [])
  two a b h g = all_more Known a (b ∷ []) h (one b g)

  pub places_known : (form : Form) → PlacesKnown known form → All Known (places form)
  places_known (Input c) h = all_none Known
  places_known (Constant d) h = all_none Known
  places_known (Copied a) h = one a h
  places_known (Unary op a) h = one a h
  places_known (Binary op a b) h = two a b h.0 h.1
  places_known (If c a b) h = all_more Known c (a ∷ b ∷ []) h.0 (two a b h.1 h.2)
  places_known (Pre a) h = one a h
  places_known (Arrow a b) h = two a b h.0 h.1
  places_known (When a) h = one a h
  places_known (Current a) h = one a h
  places_known (Merge c xs) h = all_more Known c xs h.0 (all_each Known xs h.1)

  pub clock_known : (clock : Clock) → ClockKnown known clock → All Known (clock_reads clock)
  clock_known Base h = all_none Known
  clock_known (On c d) h = one c h

pub part_of_marks : (flat : FlatView) (part : Part) → ((i : ℕ) (flow : Flow) → flow_at flat i ≡ Some flow → part.own i ≡ true → PlacesKnown (knows part) flow.form)
    → ((i : ℕ) (flow : Flow) → flow_at flat i ≡ Some flow → knows part i ≡ true → ClockKnown (knows part) flow.clock) → IsPart flat part
part_of_marks flat part forms clocks = record {
  operands = λ i flow there own. places_known (knows part) flow.form (forms i flow there own);
  clocks = λ i flow there known. clock_known (knows part) flow.clock (clocks i flow there known);
}

-- one place more
pub up_to : (P : ℕ → Type 0) (i : ℕ) → ((j : ℕ) → j < i → P j) → P i → (j : ℕ) → j < i + 1 → P j
up_to P i below here j l = elim (cases_lt j i) [
  | inl h ↦ below j h
  | inr h ↦ let e : i ≡ j = omega arith in subst P e here
]
