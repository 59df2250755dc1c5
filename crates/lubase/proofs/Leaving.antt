-- The last group is left.
use Rattle.std.proofs.Common.{◌≡◌, ◌<◌, ◌≤◌, ◌+◌, ◌⊎◌, inl, inr, ℕ, List, [], ◌∷◌, ◌++◌, Bool, Some, length, get_or, take, sym, ◌∙◌, ap, subst, arith, Contains}
use Rattle.std.specs.List.{slice_get}
use Rattle.std.proofs.lemmas.List.{get_or_default, length-take, get_or-take}
use Rattle.std.proofs.lemmas.List.Elements.{Contains-push, Contains-append_left, Contains-push_cases}
use Rattle.lubase.specs.declared.groups.Frame.{Frame}
use Rattle.lubase.specs.Graph.{Graph, row_of, PointsTo, Reaches, one, more}
use Rattle.lubase.specs.Search.{Has, Lacks}
use Rattle.lubase.specs.Grouped.{SameGroup, IsSettled, IsSettledTo, HasFrame, IsMarking, IsStack, IsGrouping, IsLeft, IsFlagged}
use Rattle.lubase.proofs.Pushed.{at_push, at_left, each_last, pairs_front, pairs_last}
use Rattle.lubase.proofs.Marks.{same_or_not, below_or_not, has_or_lacks, has_not_lacks}
use Rattle.lubase.proofs.Either.{joined}
use Rattle.lubase.proofs.Bounds.{rising_front, last_above, none_above}
use Rattle.lubase.proofs.Grouping.{at}

-- where all that a vertex points to is left, and what is left points to what is left, so is all that it reaches
reach_left : (g : Graph) (left : List Bool) → ((v w : ℕ) → Has left v → PointsTo g v w → Has left w) →
    (u w : ℕ) → Reaches g u w → ((x : ℕ) → PointsTo g u x → Has left x) → Has left w
reach_left g left closed u w (one _ _ edge) first = first w edge
reach_left g left closed u w (more _ v _ way edge) first = closed v w (reach_left g left closed u v way first) edge

module _ (g : Graph) (entered left looped now_left now_looped : List Bool) (places stack bounds : List ℕ) (frames : List Frame) (f : Frame)
    (s : IsGrouping g entered left looped places stack (bounds ++ f.place ∷ []) (frames ++ f ∷ []))
    (all : f.next ≡ length (row_of g (get_or stack f.place 0)))
    (goes : IsLeft left now_left stack f.place (length stack)) (flagged : IsFlagged g looped now_looped stack f.place (length stack))
  where
    inside : f.place < length stack
    inside = each_last (λ x. x.place < length stack) frames f s.framed.inside

    lower_frame : (i : ℕ) (x : Frame) → slice_get frames i ≡ Some x → x.place < f.place
    lower_frame = pairs_last (λ x y. x.place < y.place) frames f s.framed.rise

    tops : (b : ℕ) → Contains (bounds ++ f.place ∷ []) b → b ≤ f.place
    tops = none_above bounds f.place s.standing.rising

    -- all edges of the group's vertices are settled
    settled : (j : ℕ) → f.place ≤ j → j < length stack → IsSettledTo g left stack (bounds ++ f.place ∷ []) j (length (row_of g (at stack j)))
    settled j le lt =
        elim (s.framed.finished j lt) [
          | inr done ↦ done
          | inl found ↦ elim (at_push frames f found.0 found.1 found.2) [
            | inl h ↦ absurd (omega (arith, lower_frame found.0 found.1 h, found.3, le))
            | inr h ↦
                let e : f.place ≡ j = ap (λ (x : Frame). x.place) h.1 ∙ found.3 in
                let last = each_last (λ x. IsSettledTo g left stack (bounds ++ f.place ∷ []) x.place x.next) frames f s.framed.looked in
                subst (λ p. IsSettledTo g left stack (bounds ++ f.place ∷ []) p (length (row_of g (at stack p)))) e (subst (IsSettledTo g left stack (bounds ++ f.place ∷ []) f.place) all last)
          ]
        ]

    -- they lead to what is left, or into the group
    leads : (j : ℕ) → f.place ≤ j → j < length stack → (w : ℕ) → PointsTo g (at stack j) w → Has left w ⊎ ((p : ℕ) × (f.place ≤ p) × (p < length stack) × (at stack p ≡ w))
    leads j le lt w edge =
        let row = row_of g (at stack j) in
        let k = edge.listed.0 in
        let e : get_or row k 0 ≡ w = get_or_default row k 0 w edge.listed.1 ∙ edge.listed.2 in
        elim (settled j le lt k edge.listed.1 edge.listed.1 (omega (arith, e, edge.inside))) [
          | inl has ↦ inl (subst (Has left) e has)
          | inr on ↦ inr (on.0, on.3 f.place (Contains-push bounds f.place) le, on.1, on.2 ∙ e)
        ]

    still_lacks : (u : ℕ) → Lacks now_left u → Lacks left u
    still_lacks u lacks = elim (has_or_lacks left u) [ inl has ↦ absurd (has_not_lacks now_left u (goes.kept u has) lacks) | inr h ↦ h ]

    still_straight : (u : ℕ) → Lacks now_looped u → Lacks looped u
    still_straight u lacks = elim (has_or_lacks looped u) [ inl has ↦ absurd (has_not_lacks now_looped u (flagged.kept u has) lacks) | inr h ↦ h ]

    -- the group's vertices reach each other
    to_first : (j : ℕ) → f.place < j → j < length stack → Reaches g (at stack j) (at stack f.place)
    to_first j less lt = s.standing.back f.place j less lt (λ b there le. tops b there)

    comes_back : (j : ℕ) → f.place ≤ j → j < length stack → f.place + 1 < length stack → Reaches g (at stack j) (at stack j)
    comes_back j le lt many =
        elim (same_or_not j f.place) [
          | inl e ↦
              let away : Reaches g (at stack f.place) (at stack (f.place + 1)) = s.standing.forward f.place (f.place + 1) (omega arith) many in
              let home : Reaches g (at stack (f.place + 1)) (at stack f.place) = to_first (f.place + 1) (omega arith) many in
              subst (λ p. Reaches g (at stack p) (at stack p)) (sym e) (joined g (at stack f.place) (at stack (f.place + 1)) (at stack f.place) away home)
          | inr ne ↦
              let above : f.place < j = omega (arith, le, ne) in
              joined g (at stack j) (at stack f.place) (at stack j) (to_first j above lt) (s.standing.forward f.place j above lt)
        ]

    cyclic_now : (v : ℕ) → Has now_looped v → Reaches g v v
    cyclic_now v has =
        elim (flagged.only v has) [
          | inl old ↦ s.marking.cyclic v old
          | inr there ↦ elim there.4 [
            | inl many ↦ subst (λ u. Reaches g u u) there.3 (comes_back there.0 there.1 there.2 many)
            | inr itself ↦ one v v (record { listed = itself; inside = subst (λ u. u < length g) there.3 ((s.standing.stands there.0 there.2).inside) })
          ]
        ]

    straight_at : (j : ℕ) → f.place ≤ j → j < length stack → Lacks now_looped (at stack j) → Reaches g (at stack j) (at stack j) → ⊥
    straight_at j le lt lacks cycle =
        let not_many : ¬ (f.place + 1 < length stack) = λ many. has_not_lacks now_looped (at stack j) (flagged.within j le lt (inl many)) lacks in
        let first : (x : ℕ) → PointsTo g (at stack j) x → Has left x = λ x edge.
        elim (leads j le lt x edge) [
          | inl has ↦ has
          | inr on ↦
              let same : on.0 ≡ j = omega (arith, on.1, on.2, le, lt, not_many) in
              let itself : Contains (row_of g (at stack j)) (at stack j) = subst (Contains (row_of g (at stack j))) (sym on.3 ∙ ap (at stack) same) edge.listed in
              absurd (has_not_lacks now_looped (at stack j) (flagged.within j le lt (inr itself)) lacks)
        ] in
        has_not_lacks left (at stack j) (reach_left g left s.marking.closed (at stack j) (at stack j) cycle first) ((s.standing.stands j lt).stays)

    marking_now : IsMarking g entered now_left now_looped places
    marking_now =
        let m = s.marking in
        record {
          entered_long = m.entered_long;
          left_long = goes.long ∙ m.left_long;
          looped_long = flagged.long ∙ m.looped_long;
          places_long = m.places_long;
          sooner = λ v has. elim (goes.only v has) [ inl old ↦ m.sooner v old | inr there ↦ subst (Has entered) there.3 ((s.standing.stands there.0 there.2).marked) ];
          closed = λ v w has edge. elim (goes.only v has) [
            | inl old ↦ goes.kept w (m.closed v w old edge)
            | inr there ↦ elim (leads there.0 there.1 there.2 w (subst (λ u. PointsTo g u w) (sym there.3) edge)) [
              | inl old ↦ goes.kept w old
              | inr on ↦ subst (Has now_left) on.3 (goes.within on.0 on.1 on.2)
            ]
          ];
          cyclic = cyclic_now;
          straight = λ v has lacks cycle. elim (goes.only v has) [
            | inl old ↦ m.straight v old (still_straight v lacks) cycle
            | inr there ↦ straight_at there.0 there.1 there.2 (subst (Lacks now_looped) (sym there.3) lacks) (subst (λ u. Reaches g u u) (sym there.3) cycle)
          ];
        }

    is_kept : (j : ℕ) → j < f.place → at (take f.place stack) j ≡ at stack j
    is_kept j lt = get_or-take f.place stack j 0 lt

    below : (j : ℕ) → j < length (take f.place stack) → j < f.place
    below j lt = omega (arith, lt, length-take f.place stack)

    not_left : (j : ℕ) → j < f.place → Lacks now_left (at stack j)
    not_left j lt =
        let here = s.standing.stands j (omega (arith, lt, inside)) in
        elim (has_or_lacks now_left (at stack j)) [
          | inr lacks ↦ lacks
          | inl has ↦ elim (goes.only (at stack j) has) [
            | inl old ↦ absurd (has_not_lacks left (at stack j) old here.stays)
            | inr there ↦ absurd (omega (arith, lt, there.1, here.placed, (s.standing.stands there.0 there.2).placed, ap (λ u. get_or places u 0) there.3))
          ]
        ]

    narrower : (i j : ℕ) → j < f.place → SameGroup bounds i j → SameGroup (bounds ++ f.place ∷ []) i j
    narrower i j lt same b there le = elim (Contains-push_cases bounds f.place b there) [ inl h ↦ same b h le | inr h ↦ absurd (omega (arith, h, le, lt)) ]

    standing_now : IsStack g entered now_left places (take f.place stack) bounds
    standing_now =
        let st = s.standing in
        record {
          stands = λ j lt.
              let less = below j lt in
              let e = is_kept j less in
              let old = st.stands j (omega (arith, less, inside)) in
              record {
                inside = subst (λ u. u < length g) (sym e) old.inside;
                marked = subst (Has entered) (sym e) old.marked;
                stays = subst (Lacks now_left) (sym e) (not_left j less);
                placed = subst (λ u. get_or places u 0 ≡ j) (sym e) old.placed;
              };
          found = λ u has lacks.
              let old = st.found u has (still_lacks u lacks) in
              let p : ℕ = get_or places u 0 in
              elim (below_or_not p f.place) [
                | inl less ↦ (omega (arith, less, inside, length-take f.place stack), is_kept p less ∙ old.1)
                | inr above ↦ absurd (has_not_lacks now_left u (subst (Has now_left) old.1 (goes.within p above old.0)) lacks)
              ];
          forward = λ i j less lt.
              let high = below j lt in
              let low : i < f.place = omega (arith, less, high) in
              subst (λ u. Reaches g u (at (take f.place stack) j)) (sym (is_kept i low)) (subst (Reaches g (at stack i)) (sym (is_kept j high)) (st.forward i j less (omega (arith, high, inside))));
          back = λ i j less lt same.
              let high = below j lt in
              let low : i < f.place = omega (arith, less, high) in
              subst (λ u. Reaches g u (at (take f.place stack) i)) (sym (is_kept j high)) (subst (Reaches g (at stack j)) (sym (is_kept i low)) (st.back i j less (omega (arith, high, inside)) (narrower i j high same)));
          rising = rising_front bounds f.place st.rising;
          begun = λ lt. elim (Contains-push_cases bounds f.place 0 (st.begun (omega (arith, inside)))) [ inl h ↦ h | inr h ↦ absurd (omega (arith, h, below 0 lt)) ];
        }

    shorter : (j w : ℕ) → j < f.place → IsSettled g left stack (bounds ++ f.place ∷ []) j w → IsSettled g now_left (take f.place stack) bounds j w
    shorter j w lt old low =
        elim (old low) [
          | inl has ↦ inl (goes.kept w has)
          | inr on ↦ elim (below_or_not on.0 f.place) [
            | inl less ↦ inr (on.0, omega (arith, less, inside, length-take f.place stack), is_kept on.0 less ∙ on.2, λ b there le. on.3 b (Contains-append_left bounds (f.place ∷ []) b there) le)
            | inr above ↦ inl (subst (Has now_left) on.2 (goes.within on.0 above on.1))
          ]
        ]

    shorter_to : (j m : ℕ) → j < f.place → IsSettledTo g left stack (bounds ++ f.place ∷ []) j m → IsSettledTo g now_left (take f.place stack) bounds j m
    shorter_to j m lt old =
        let P : ℕ → Type 0 = λ u. (k : ℕ) → k < m → k < length (row_of g u) → IsSettled g now_left (take f.place stack) bounds j (get_or (row_of g u) k 0) in
        subst P (sym (is_kept j lt)) (λ k less within. shorter j (get_or (row_of g (at stack j)) k 0) lt (old k less within))

    lower_has : (j : ℕ) → j < f.place → HasFrame (frames ++ f ∷ []) j → HasFrame frames j
    lower_has j lt found =
        elim (at_push frames f found.0 found.1 found.2) [
          | inl h ↦ (found.0, found.1, h, found.3)
          | inr h ↦ absurd (omega (arith, lt, ap (λ (x : Frame). x.place) h.1, found.3))
        ]

    pub group_left : IsGrouping g entered now_left now_looped places (take f.place stack) bounds frames
    group_left =
        let fr = s.framed in
        record {
          marking = marking_now;
          standing = standing_now;
          framed = record {
            inside = λ i x e. omega (arith, lower_frame i x e, inside, length-take f.place stack);
            rise = pairs_front (λ x y. x.place < y.place) frames f fr.rise;
            bounded = λ b there. lower_has b (last_above bounds f.place b s.standing.rising there) (fr.bounded b (Contains-append_left bounds (f.place ∷ []) b there));
            looked = λ i x e. shorter_to x.place x.next (lower_frame i x e) (fr.looked i x (at_left frames (f ∷ []) i x e));
            finished = λ j lt.
                let less = below j lt in
                elim (fr.finished j (omega (arith, less, inside))) [
                  | inl found ↦ inl (lower_has j less found)
                  | inr done ↦ inr (subst (λ u. IsSettledTo g now_left (take f.place stack) bounds j (length (row_of g u))) (sym (is_kept j less)) (shorter_to j (length (row_of g (at stack j))) less done))
                ];
          };
        }
