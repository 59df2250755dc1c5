-- A frame goes on after a look along its vertex's list.
use Rattle.std.proofs.Common.{◌≡◌, ◌<◌, ◌≤◌, ◌⊎◌, inl, inr, ℕ, zero, suc, List, [], ◌∷◌, ◌++◌, Bool, length, get_or, refl, sym, ◌∙◌, ap, subst, arith, Contains}
use Rattle.std.proofs.lemmas.List.{get_or_default}
use Rattle.std.proofs.lemmas.Option.{none-some}
use Rattle.lubase.specs.declared.groups.Frame.{Frame}
use Rattle.lubase.specs.Graph.{Graph, row_of, PointsTo, Reaches, one, more, MarksCycles}
use Rattle.lubase.specs.Search.{Has}
use Rattle.lubase.specs.Grouped.{IsRising, IsLow, IsLooked, IsSettled, IsGrouping}
use Rattle.lubase.proofs.Pushed.{each_last}
use Rattle.lubase.proofs.Marks.{has_or_lacks}
use Rattle.lubase.proofs.Stepping.{points_to}
use Rattle.lubase.proofs.Grouping.{at, frame_of, to_frame, bounds_below, cut_down}

module _ (g : Graph) (entered left looped : List Bool) (places stack bounds : List ℕ) (frames : List Frame) where
  lead_by : (f : Frame) (low : ℕ) → IsGrouping g entered left looped places stack bounds (frames ++ f ∷ []) → IsLow entered left places (row_of g (at stack f.place)) f.place low →
      (low ≡ f.place) ⊎ ((low < length stack) × PointsTo g (at stack f.place) (at stack low))
  lead_by f low s found =
      let row = row_of g (at stack f.place) in
      elim found [
        | inl e ↦ inl e
        | inr back ↦
            let there = s.standing.found (get_or row back.0 0) back.3 back.4 in
            let edge : PointsTo g (at stack f.place) (get_or row back.0 0) = points_to g (at stack f.place) row back.0 refl back.1 (omega (arith, back.2, s.marking.entered_long)) in
            inr (omega (arith, there.0, back.5), subst (PointsTo g (at stack f.place)) (sym there.1 ∙ ap (at stack) back.5) edge)
      ]

  settled_by : (f : Frame) (cut : List ℕ) (low next : ℕ) → IsGrouping g entered left looped places stack bounds (frames ++ f ∷ []) → ((b : ℕ) → Contains cut b → b ≤ low) →
      IsLooked entered left places (row_of g (at stack f.place)) f.next next low →
      (k : ℕ) → f.next ≤ k → k < next → k < length (row_of g (at stack f.place)) → IsSettled g left stack cut f.place (get_or (row_of g (at stack f.place)) k 0)
  settled_by f cut low next s below looked k start lt within inside =
      let w : ℕ = get_or (row_of g (at stack f.place)) k 0 in
      let seen = looked k start lt (omega (arith, inside, s.marking.entered_long)) in
      elim (has_or_lacks left w) [
        | inl has ↦ inl has
        | inr lacks ↦
            let there = s.standing.found w seen.0 lacks in
            inr (get_or places w 0, there.0, there.1, λ b has le. omega (arith, below b has, seen.1 lacks))
      ]

  -- all on the stack reach what the last frame's vertex points to
  pub reach_all : (f : Frame) (v : ℕ) → IsGrouping g entered left looped places stack bounds (frames ++ f ∷ []) → PointsTo g (at stack f.place) v →
      (i : ℕ) → i < length stack → Reaches g (at stack i) v
  reach_all f v s edge i lt =
      elim (to_frame g entered left looped places stack bounds frames f s (bounds_below g entered left looped places stack bounds frames f s.framed) i lt) [
        | inl e ↦ one (at stack i) v (subst (λ p. PointsTo g (at stack p) v) (sym e) edge)
        | inr way ↦ more (at stack i) (at stack f.place) v way edge
      ]

  -- where there is no frame, nothing is on the stack
  pub none_stacked : IsGrouping g entered left looped places stack bounds [] → length stack ≡ 0
  none_stacked s = elim (some_or_none (length stack)) [ inl e ↦ e | inr lt ↦ let found = s.framed.bounded 0 (s.standing.begun lt) in absurd (none-some found.1 found.2) ] where
    some_or_none : (n : ℕ) → (n ≡ 0) ⊎ (0 < n)
    some_or_none zero = inl refl
    some_or_none (suc n) = inr (omega arith)

  -- then the marks are those of the vertices that reach themselves
  pub marks_of : IsGrouping g entered left looped places stack bounds [] → ((v : ℕ) → v < length g → Has entered v) → MarksCycles g looped
  marks_of s all v lt = (
    s.marking.cyclic v,
    λ cycle. elim (has_or_lacks looped v) [
      | inl has ↦ has
      | inr flat ↦ elim (has_or_lacks left v) [
        | inl gone ↦ absurd (s.marking.straight v gone flat cycle)
        | inr lacks ↦ absurd (omega (arith, (s.standing.found v (all v lt) lacks).0, none_stacked s))
      ]
    ],
  )

pub gone_on : (g : Graph) (entered left looped : List Bool) (places stack bounds : List ℕ) (frames : List Frame) (f : Frame) (cut : List ℕ) (low next : ℕ) →
    IsGrouping g entered left looped places stack bounds (frames ++ f ∷ []) → IsRising cut → ((b : ℕ) → Contains cut b → Contains bounds b) → ((b : ℕ) → Contains cut b → b ≤ low) →
    ((b : ℕ) → Contains bounds b → b ≤ low → Contains cut b) → low ≤ f.place →
    (row : List ℕ) (E L : List Bool) (P : List ℕ) → row ≡ row_of g (at stack f.place) → E ≡ entered → L ≡ left → P ≡ places →
    IsLow E L P row f.place low → IsLooked E L P row f.next next low → IsGrouping g entered left looped places stack cut (frames ++ frame_of f.place next ∷ [])
gone_on g entered left looped places stack bounds frames f cut low next s rising fewer below kept least row E L P e1 e2 e3 e4 is_low is_looked =
    let low_there : IsLow entered left places (row_of g (at stack f.place)) f.place low =
    subst (λ r. IsLow entered left places r f.place low) e1 (subst (λ x. IsLow x left places row f.place low) e2 (subst (λ x. IsLow E x places row f.place low) e3 (subst (λ x. IsLow E L x row f.place low) e4 is_low))) in
    let looked : IsLooked entered left places (row_of g (at stack f.place)) f.next next low =
    subst (λ r. IsLooked entered left places r f.next next low) e1 (subst (λ x. IsLooked x left places row f.next next low) e2 (subst (λ x. IsLooked E x places row f.next next low) e3 (subst (λ x. IsLooked E L x row f.next next low) e4 is_looked))) in
    cut_down g entered left looped places stack bounds frames f cut low next s rising fewer below kept least
    (lead_by g entered left looped places stack bounds frames f low s low_there)
    (settled_by g entered left looped places stack bounds frames f cut low next s below looked)

-- the vertex at the last frame's place
pub at_frame : (g : Graph) (entered left looped : List Bool) (places stack bounds : List ℕ) (frames : List Frame) (f : Frame) (u : ℕ) →
    IsGrouping g entered left looped places stack bounds (frames ++ f ∷ []) → u ≡ get_or stack f.place u → u ≡ at stack f.place
at_frame g entered left looped places stack bounds frames f u s e = e ∙ get_or_default stack f.place u 0 (each_last (λ x. x.place < length stack) frames f s.framed.inside)

-- equal parts
pub same_parts : (g : Graph) (e1 e2 l1 l2 c1 c2 : List Bool) (p1 p2 s1 s2 b1 b2 : List ℕ) (f1 f2 : List Frame) →
    e2 ≡ e1 → l2 ≡ l1 → c2 ≡ c1 → p2 ≡ p1 → s2 ≡ s1 → b2 ≡ b1 → f2 ≡ f1 → IsGrouping g e1 l1 c1 p1 s1 b1 f1 → IsGrouping g e2 l2 c2 p2 s2 b2 f2
same_parts g e1 e2 l1 l2 c1 c2 p1 p2 s1 s2 b1 b2 f1 f2 a b c d e f h s =
    subst (λ x. IsGrouping g x l2 c2 p2 s2 b2 f2) (sym a) (subst (λ x. IsGrouping g e1 x c2 p2 s2 b2 f2) (sym b) (subst (λ x. IsGrouping g e1 l1 x p2 s2 b2 f2) (sym c)
    (subst (λ x. IsGrouping g e1 l1 c1 x s2 b2 f2) (sym d) (subst (λ x. IsGrouping g e1 l1 c1 p1 x b2 f2) (sym e) (subst (λ x. IsGrouping g e1 l1 c1 p1 s1 x f2) (sym f)
    (subst (IsGrouping g e1 l1 c1 p1 s1 b1) (sym h) s))))))
