-- The flows of which a site keeps the past.
use Rattle.std.proofs.Common.{◌≡◌, ℕ, inl, inr, Bool, true, false, List, [], ◌∷◌, length, map, filter, set, Some, refl, sym, ap, ap₂, ◌∙◌, arith}
use Rattle.std.specs.Prelude.{slice_get, slice_index, unwrap_or, ◌||◌, is_some}
use Rattle.std.specs.List.{range_with_len}
use Rattle.std.proofs.lemmas.Bool.{cases_eq}
use Rattle.std.proofs.lemmas.List.{length-map}
use Rattle.std.proofs.lemmas.Option.{same_Some, slice_get-get_or, slice_get_within, get_or_from_slice_get}
use Rattle.luflow.specs.declared.form.Flow.{Flow}
use Rattle.luflow.specs.declared.form.Form.{Form}
use Rattle.luflow.specs.declared.form.Form.TheVariants.{Input, Constant, Copied, Unary, Binary, If, Pre, Arrow, When, Current, Merge}
use Rattle.luflow.specs.Program.{flow_at, IsOrdered}
use Rattle.luflow.proofs.Solutions.{some_at}
use Rattle.luworld.specs.Jobs.{knows, link_into, sends}
use Rattle.lueval_lines.specs.Cells.{looks_back}
use Rattle.lueval_lines.specs.declared.operation.Operation.{Operation}
use Rattle.lueval_lines.specs.declared.operation.Operation.TheVariants as operation
use Rattle.lueval_lines.specs.declared.operation.Apply.TheVariants as apply
use Rattle.lueval_lines.specs.declared.operation.Choose.TheVariants as choose
use Rattle.lueval_lines.specs.Moving.{moved_form}
use Rattle.lueval_lines.specs.Operations.{form_of}
use Rattle.lusite_program.specs.declared.program.SiteFlow.{SiteFlow}
use Rattle.lusite_program.specs.Programs.{SiteProgramView, ranks_of, places_of, AreSiteFlows, IsSiteFlow}
use Rattle.lusite_program.proofs.Ranks.{place_here, places_has}
use Rattle.lusite_program.proofs.Sifted.{sifted_in, sifted_has, rising}
use Rattle.lusite_program.proofs.Written.{slice_get-set_same, slice_get-set_other}
use Rattle.lusite.specs.KeptFlows.{IsKept, Looked, Sent, AreKept, AreMarks, is_marked}

-- what is marked stays so
pub set_true : (marks : List Bool) (k j : ℕ) → slice_get marks j ≡ Some true → slice_get (set marks k true) j ≡ Some true
set_true marks k j e = elim (cases_eq j k) [
  | inl same ↦ ap (slice_get (set marks k true)) same ∙ slice_get-set_same marks k true (let l = slice_get_within marks j true e in omega (arith, l, same))
  | inr ne ↦ slice_get-set_other marks k j true ne ∙ e
]

-- what a form looks back at is known without the branches of merges
pub back_same : (i : ℕ) (old new : List ℕ) (op : Operation) → looks_back i (form_of old op) ≡ looks_back i (form_of new op)
back_same i old new (operation.Number n) = refl
back_same i old new (operation.Show op) = refl
back_same i old new (operation.Apply (apply.Double op a b)) = refl
back_same i old new (operation.Apply (apply.Single op a)) = refl
back_same i old new (operation.Apply (apply.Choose (choose.If c a b))) = refl
back_same i old new (operation.Apply (apply.Choose (choose.Arrow a b))) = refl
back_same i old new (operation.Apply (apply.Choose (choose.Merge count c first))) = refl

-- and by numbers as by places
back_moved : (put : ℕ → ℕ) (i : ℕ) (form : Form) → looks_back (put i) (moved_form put form) ≡ map put (looks_back i form)
back_moved put i (Input c) = refl
back_moved put i (Constant d) = refl
back_moved put i (Copied a) = refl
back_moved put i (Unary op a) = refl
back_moved put i (Binary op a b) = refl
back_moved put i (If c a b) = refl
back_moved put i (Pre a) = refl
back_moved put i (Arrow a b) = refl
back_moved put i (When a) = refl
back_moved put i (Current a) = refl
back_moved put i (Merge c xs) = refl

module _ (p : SiteProgramView) (ordered : IsOrdered p.plan.flat) (branches links : List ℕ) (site_flows : List SiteFlow) (are : AreSiteFlows p.plan p.site branches links site_flows) (marks : List Bool) (n : ℕ) (whole : n ≡ length site_flows) (marked : AreMarks site_flows marks n) where
  abbrev places : List ℕ
  places = places_of p.plan p.site

  abbrev pub kept : List ℕ
  kept = filter (is_marked marks) (range_with_len 0 (length marks))

  rows : length marks ≡ length places
  rows = marked.len ∙ are.len ∙ sym (length-map (ranks_of p.plan p.site) (slice_index p.plan.flat.order))

  -- the flow of a number
  row : (k i : ℕ) → slice_get places k ≡ Some i → (x : SiteFlow) × (r : ℕ) × (slice_get site_flows k ≡ Some x) × (slice_index p.plan.flat.order r ≡ i) × IsSiteFlow p.plan p.site branches links r x
  row k i e =
      let l = slice_get_within places k i e in
      let m = length-map (ranks_of p.plan p.site) (slice_index p.plan.flat.order) in
      let r = some_at (ranks_of p.plan p.site) k (omega (arith, l, m)) in
      let len = are.len in
      let x = some_at site_flows k (omega (arith, l, m, len)) in
      let here = place_here p k r.0 (sym (ap (λ o. unwrap_or o (length p.plan.flat.order)) r.1)) in
      (x.0, r.0, x.1, sym here ∙ get_or_from_slice_get places k i 0 e, are.each k r.0 x.0 r.1 x.1)

  -- each flow of which something is kept is marked
  marked_there : (k i : ℕ) → slice_get places k ≡ Some i → IsKept p.plan p.site i → slice_get marks k ≡ Some true
  marked_there k i e (Sent l) =
      let w = row k i e in
      let outs : w.0.outs ≡ length (sends p.plan p.site i) = w.4.outs ∙ ap (λ j. length (sends p.plan p.site j)) w.3 in
      let lk = slice_get_within site_flows k w.0 w.2 in
      marked.sent k w.0 (omega (arith, lk, whole)) w.2 (omega (arith, l, outs))
  marked_there k i e (Looked j flow own there back) =
      let known : knows p.plan p.site j ≡ true = ap (λ b. b || is_some (link_into p.plan p.site j)) own in
      let h = places_has p ordered j (slice_get_within p.plan.flat.flows j flow there) known in
      let w = row h.0 j (slice_get-get_or places h.0 0 h.1 ∙ ap Some h.2) in
      let is = w.4 in
      let put = slice_index is.numbers in
      let same : is.flow ≡ flow = same_Some is.flow flow (sym is.there ∙ ap (flow_at p.plan.flat) w.3 ∙ there) in
      let number : put i ≡ k = get_or_from_slice_get is.numbers i k 0 (is.numbered k i e) in
      let looks : looks_back w.0.line.place (form_of [] w.0.line.operation) ≡ k ∷ [] =
      back_same w.0.line.place [] branches w.0.line.operation
      ∙ ap₂ looks_back (is.place ∙ ap put w.3) (is.form ∙ ap (λ (x : Flow). moved_form put x.form) same)
      ∙ back_moved put j flow.form
      ∙ ap (map put) back
      ∙ ap (λ m. m ∷ []) number in
      let lj = slice_get_within site_flows h.0 w.0 w.2 in
      let lk = slice_get_within places k i e in
      marked.looked h.0 k w.0 (omega (arith, lj, whole)) w.2 looks (omega (arith, lk, rows))

  pub kept_are : AreKept p.plan p.site kept
  kept_are = record {
    rising = λ j k l lk.
        let x = some_at kept j (omega (arith, l, lk)) in
        let y = some_at kept k lk in
        let ex = get_or_from_slice_get kept j x.0 0 x.1 in
        let ey = get_or_from_slice_get kept k y.0 0 y.1 in
        let less = rising (is_marked marks) 0 (length marks) j k x.0 y.0 l x.1 y.1 in
        omega (arith, ex, ey, less);
    inside = λ j d l.
        let x = some_at kept j l in
        let ex = get_or_from_slice_get kept j x.0 d x.1 in
        let high = (sifted_in (is_marked marks) 0 (length marks) j x.0 x.1).1 in
        omega (arith, ex, high, rows);
    all = λ k i e keeps.
        let lk = slice_get_within places k i e in
        sifted_has (is_marked marks) 0 (length marks) k (omega arith) (omega (arith, lk, rows)) (ap (λ o. unwrap_or o false) (marked_there k i e keeps));
  }
