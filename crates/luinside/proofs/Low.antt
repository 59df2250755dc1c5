-- There is room for the variables of the listed instances.
use Rattle.std.proofs.Common.{◌≡◌, ◌≤◌, ℕ, zero, suc, ◌+◌, List, [], ◌∷◌, ◌++◌, Option, Some, None, refl, ap, arith, subst}
use Rattle.std.specs.Prelude.{slice_get, slice_index, All}
use Rattle.std.proofs.lemmas.List.Elements.{All-append, All-cons, All-nil}
use Rattle.std.proofs.lemmas.Option.{slice_get_within, get_or_from_slice_get}
use Rattle.lutree.specs.Tree.{ProgramTree}
use Rattle.lucore_laws.specs.Sizes.{size_at}
use Rattle.lusource.specs.Source.{Path}
use Rattle.luinside.specs.declared.starts.CallStart.{CallStart}
use Rattle.luinside.specs.declared.listing.Instance.{Instance}
use Rattle.luinside.specs.Starts.{starts_in, AreBounds}
use Rattle.luinside.specs.Listing.{each_call, of_node, all_from}
use Rattle.luinside.specs.Listed.{IsLow}
use Rattle.luinside.proofs.Going.{inner_of, call_fits}

module _ (p : ProgramTree) (counts : List ℕ) (bounds : AreBounds p counts) where
  low_here : (path : Path) (i s : ℕ) → s + slice_index counts i ≤ 4096 → IsLow p (record { path = path; node = i; start = s })
  low_here path i s small node there = let b = bounds i node there (omega (arith, small)) in omega (arith, b, small)

  low_each : (inner : ℕ → CallStart → List Instance) (k : ℕ) (cs : List CallStart) → ((m : ℕ) (c : CallStart) → slice_get cs m ≡ Some c → All (IsLow p) (inner (k + m) c)) → All (IsLow p) (each_call inner k cs)
  low_each inner k [] h = All-nil (IsLow p)
  low_each inner k (c ∷ cs) h =
      let z : k + 0 ≡ k = omega arith in
      All-append (IsLow p) (inner k c) (each_call inner (suc k) cs) (subst (λ n. All (IsLow p) (inner n c)) z (h 0 c refl))
      (low_each inner (suc k) cs (λ m d e. let y : k + suc m ≡ suc k + m = omega arith in subst (λ n. All (IsLow p) (inner n d)) y (h (suc m) d e)))

  low_node : (o : Option ℕ) (inner : ℕ → List Instance) → ((j : ℕ) → o ≡ Some j → All (IsLow p) (inner j)) → All (IsLow p) (of_node o inner)
  low_node None inner h = All-nil (IsLow p)
  low_node (Some j) inner h = h j refl

  pub all_low : (d : ℕ) (path : Path) (i s : ℕ) → s + slice_index counts i ≤ 4096 → All (IsLow p) (all_from p counts d path i s)
  all_low zero path i s small = All-cons (IsLow p) (record { path = path; node = i; start = s }) [] (low_here path i s small) (All-nil (IsLow p))
  all_low (suc d) path i s small =
      let cs = starts_in p counts (slice_get p.nodes i) in
      let inner = inner_of p counts d path s in
      All-cons (IsLow p) (record { path = path; node = i; start = s }) (each_call inner 0 cs) (low_here path i s small)
      (low_each inner 0 cs (λ m c e.
      let fits = call_fits p counts i s cs m c refl bounds small (slice_get_within cs m c e) in
      let same = get_or_from_slice_get cs m c c e in
      let at = ap (λ (c : CallStart). c.at) same in
      let size = ap (λ (c : CallStart). size_at counts c.node) same in
      let small' : s + c.at + size_at counts c.node ≤ 4096 = omega (arith, fits, at, size) in
      low_node c.node (λ j. all_from p counts d (path ++ (0 + m) ∷ []) j (s + c.at)) (λ j is.
      let here = ap (size_at counts) is in all_low d (path ++ (0 + m) ∷ []) j (s + c.at) (omega (arith, small', here)))))
