-- The steps of a search for vertices that reach themselves.
use Rattle.std.proofs.Common.{◌≡◌, ◌≢◌, ◌<◌, ◌≤◌, ◌⊎◌, inl, inr, ℕ, List, [], ◌∷◌, ◌++◌, Bool, true, length, get_or, set, refl, sym, ◌∙◌, ap, subst, arith, Contains, length-append, length-set, get_or-set_same, get_or-set_other}
use Rattle.std.proofs.lemmas.List.{get_or_push}
use Rattle.std.proofs.lemmas.List.Elements.{Contains-push, Contains-append_left, Contains-push_cases}
use Rattle.std.proofs.Math.ListN.{get_or-append}
use Rattle.lubase.specs.declared.groups.Frame.{Frame}
use Rattle.lubase.specs.Graph.{Graph, row_of, PointsTo, Reaches, one}
use Rattle.lubase.specs.Search.{Has, Lacks}
use Rattle.lubase.specs.Grouped.{IsRising, SameGroup, IsSettled, IsSettledTo, HasFrame, Stands, AreFrames, IsGrouping}
use Rattle.lubase.proofs.Pushed.{at_push, at_left, at_last, each_push, each_front, each_last, pairs_push, pairs_front, pairs_last}
use Rattle.lubase.proofs.Marks.{same_or_not, below_or_not, has_or_lacks, has_not_lacks, has_same, has_kept, has_cases}
use Rattle.lubase.proofs.Either.{joined}
use Rattle.lubase.proofs.Bounds.{rising_push}

abbrev pub frame_of : ℕ → ℕ → Frame
frame_of p k = record { place = p; next = k }

-- the vertex at a place of the stack
abbrev pub at : List ℕ → ℕ → ℕ
at stack j = get_or stack j 0

module _ (g : Graph) (entered left looped : List Bool) (places stack bounds : List ℕ) (frames : List Frame) where
  -- THE GROUPS FROM A PLACE ON ARE JOINED, AND THE LAST FRAME GOES ON

  -- within the last frame's group all lead back to its vertex, and it leads to all of them
  pub to_frame : (f : Frame) → IsGrouping g entered left looped places stack bounds (frames ++ f ∷ []) → ((b : ℕ) → Contains bounds b → b ≤ f.place) →
      (j : ℕ) → j < length stack → (j ≡ f.place) ⊎ Reaches g (at stack j) (at stack f.place)
  to_frame f s tops j lt =
      let inside : f.place < length stack = each_last (λ h. h.place < length stack) frames f s.framed.inside in
      elim (same_or_not j f.place) [
        | inl e ↦ inl e
        | inr ne ↦ elim (below_or_not j f.place) [
          | inl less ↦ inr (s.standing.forward j f.place less inside)
          | inr above ↦ inr (s.standing.back f.place j (omega (arith, ne, above)) lt (λ b there le. tops b there))
        ]
      ]

  -- all bounds are frames' places, so none is above the last frame's
  pub bounds_below : (f : Frame) → AreFrames g left stack bounds (frames ++ f ∷ []) → (b : ℕ) → Contains bounds b → b ≤ f.place
  bounds_below f s b there =
      let found = s.bounded b there in
      elim (at_push frames f found.0 found.1 found.2) [
        | inl h ↦ omega (arith, found.3, pairs_last (λ a c. a.place < c.place) frames f s.rise found.0 found.1 h)
        | inr h ↦ omega (arith, found.3, ap (λ (x : Frame). x.place) h.1)
      ]

  module _ (f : Frame) (cut : List ℕ) (low next : ℕ)
      (s : IsGrouping g entered left looped places stack bounds (frames ++ f ∷ []))
      (rising : IsRising cut) (fewer : (b : ℕ) → Contains cut b → Contains bounds b) (below : (b : ℕ) → Contains cut b → b ≤ low)
      (kept : (b : ℕ) → Contains bounds b → b ≤ low → Contains cut b)
      (least : low ≤ f.place)
      (lead : (low ≡ f.place) ⊎ ((low < length stack) × PointsTo g (at stack f.place) (at stack low)))
      (looked : (k : ℕ) → f.next ≤ k → k < next → k < length (row_of g (at stack f.place)) → IsSettled g left stack cut f.place (get_or (row_of g (at stack f.place)) k 0))
    where
      tops : (b : ℕ) → Contains bounds b → b ≤ f.place
      tops = bounds_below f s.framed

      inside : f.place < length stack
      inside = each_last (λ h. h.place < length stack) frames f s.framed.inside

      looser : (p j : ℕ) → SameGroup bounds p j → SameGroup cut p j
      looser p j same b there le = same b (fewer b there) le

      settled_looser : (j w : ℕ) → IsSettled g left stack bounds j w → IsSettled g left stack cut j w
      settled_looser j w settled lt = elim (settled lt) [ inl has ↦ inl has | inr on ↦ inr (on.0, on.1, on.2, looser on.0 j on.3) ]

      settled_to_looser : (j n : ℕ) → IsSettledTo g left stack bounds j n → IsSettledTo g left stack cut j n
      settled_to_looser j n settled k lt within = settled_looser j (get_or (row_of g (at stack j)) k 0) (settled k lt within)

      -- from the last frame's vertex to each at a place from `low` on, or before it in the same group
      from_low : (i : ℕ) → i < length stack → SameGroup bounds i low ⊎ (low ≤ i) → (i ≡ f.place) ⊎ Reaches g (at stack f.place) (at stack i)
      from_low i lt same =
          elim (same_or_not i f.place) [
            | inl e ↦ inl e
            | inr ne ↦ elim (below_or_not f.place i) [
              | inl above ↦ inr (s.standing.forward f.place i above lt)
              | inr under ↦
                  let less : i < f.place = omega (arith, under, ne) in
                  elim lead [
                    | inl e ↦ inr (elim same [
                      | inl group ↦ s.standing.back i f.place less inside (subst (SameGroup bounds i) e group)
                      | inr high ↦ absurd (omega (arith, high, e, less))
                    ])
                    | inr edge ↦
                        let first : Reaches g (at stack f.place) (at stack low) = one (at stack f.place) (at stack low) edge.1 in
                        inr (elim (same_or_not i low) [
                          | inl e ↦ subst (λ p. Reaches g (at stack f.place) (at stack p)) (sym e) first
                          | inr other ↦ elim (below_or_not low i) [
                            | inl higher ↦ joined g (at stack f.place) (at stack low) (at stack i) first (s.standing.forward low i higher lt)
                            | inr lower ↦ joined g (at stack f.place) (at stack low) (at stack i) first
                                (s.standing.back i low (omega (arith, lower, other)) edge.0
                                (elim same [ inl group ↦ group | inr high ↦ absurd (omega (arith, high, lower, other)) ]))
                          ]
                        ])
                  ]
            ]
          ]

      back_now : (i j : ℕ) → i < j → j < length stack → SameGroup cut i j → Reaches g (at stack j) (at stack i)
      back_now i j less lt same =
          elim (below_or_not low j) [
            | inr under ↦ s.standing.back i j less lt (λ b there le. same b (kept b there (omega (arith, le, under))) le)
            | inl above ↦
                let group : SameGroup bounds i low ⊎ (low ≤ i) = inl (λ b there le. same b (kept b there le) (omega (arith, le, above))) in
                let start = to_frame f s tops j lt in
                let rest = from_low i (omega (arith, less, lt)) group in
                elim start [
                  | inl e ↦ elim rest [
                    | inl e' ↦ absurd (omega (arith, e, e', less))
                    | inr way ↦ subst (λ p. Reaches g (at stack p) (at stack i)) (sym e) way
                  ]
                  | inr first ↦ elim rest [
                    | inl e' ↦ subst (λ p. Reaches g (at stack j) (at stack p)) (sym e') first
                    | inr way ↦ joined g (at stack j) (at stack f.place) (at stack i) first way
                  ]
                ]
          ]

      pub cut_down : IsGrouping g entered left looped places stack cut (frames ++ frame_of f.place next ∷ [])
      cut_down =
          let h : Frame = frame_of f.place next in
          let fr = s.framed in
          record {
            marking = s.marking;
            standing = record {
              stands = s.standing.stands;
              found = s.standing.found;
              forward = s.standing.forward;
              back = back_now;
              rising = rising;
              begun = λ lt. kept 0 (s.standing.begun lt) (omega arith);
            };
            framed = record {
              inside = each_push (λ x. x.place < length stack) frames h (each_front (λ x. x.place < length stack) frames f fr.inside) inside;
              rise = pairs_push (λ x y. x.place < y.place) frames h (pairs_front (λ x y. x.place < y.place) frames f fr.rise) (pairs_last (λ x y. x.place < y.place) frames f fr.rise);
              bounded = λ b there. moved b (fr.bounded b (fewer b there));
              looked = each_push (λ x. IsSettledTo g left stack cut x.place x.next) frames h
                  (λ i x e. settled_to_looser x.place x.next (fr.looked i x (at_left frames (f ∷ []) i x e)))
                  (λ k lt within. elim (below_or_not k f.next) [
                    | inl before ↦ settled_looser f.place (get_or (row_of g (at stack f.place)) k 0) (each_last (λ x. IsSettledTo g left stack bounds x.place x.next) frames f fr.looked k before within)
                    | inr after ↦ looked k after lt within
                  ]);
              finished = λ j lt. elim (fr.finished j lt) [ inl has ↦ inl (moved j has) | inr all ↦ inr (settled_to_looser j (length (row_of g (at stack j))) all) ];
            };
          }
        where
          moved : (b : ℕ) → HasFrame (frames ++ f ∷ []) b → HasFrame (frames ++ frame_of f.place next ∷ []) b
          moved b found =
              elim (at_push frames f found.0 found.1 found.2) [
                | inl there ↦ (found.0, found.1, at_left frames (frame_of f.place next ∷ []) found.0 found.1 there, found.3)
                | inr there ↦ (length frames, frame_of f.place next, at_last frames (frame_of f.place next), ap (λ (x : Frame). x.place) there.1 ∙ found.3)
              ]

module _ (g : Graph) (entered left looped : List Bool) (places stack bounds : List ℕ) (frames : List Frame) where
  -- A VERTEX IS ENTERED

  module _ (v : ℕ) (s : IsGrouping g entered left looped places stack bounds frames) (within : v < length g) (fresh : Lacks entered v)
      (reach : (i : ℕ) → i < length stack → Reaches g (at stack i) v)
    where
      is_old : (j : ℕ) → j < length stack → at (stack ++ v ∷ []) j ≡ at stack j
      is_old j lt = get_or-append stack (v ∷ []) 0 j lt

      is_new : (j : ℕ) → j ≡ length stack → at (stack ++ v ∷ []) j ≡ v
      is_new j e = get_or_push stack v 0 j (sym e)

      old_or_new : (j : ℕ) → j < length (stack ++ v ∷ []) → (j < length stack) ⊎ (j ≡ length stack)
      old_or_new j lt = elim (same_or_not j (length stack)) [ inl e ↦ inr e | inr ne ↦ inl (omega (arith, lt, ne, length-append stack (v ∷ []))) ]

      differs : (j : ℕ) → j < length stack → at stack j ≢ v
      differs j lt e = has_not_lacks entered v (subst (Has entered) e ((s.standing.stands j lt).marked)) fresh

      in_entered : v < length entered
      in_entered = omega (arith, within, s.marking.entered_long)

      in_places : v < length places
      in_places = omega (arith, within, s.marking.places_long)

      not_left : Lacks left v
      not_left = elim (has_or_lacks left v) [ inl has ↦ absurd (has_not_lacks entered v (s.marking.sooner v has) fresh) | inr lacks ↦ lacks ]

      wider : (j w : ℕ) → j < length stack → IsSettled g left stack bounds j w → IsSettled g left (stack ++ v ∷ []) (bounds ++ length stack ∷ []) j w
      wider j w lt settled low =
          elim (settled low) [
            | inl has ↦ inl has
            | inr on ↦ inr (
              on.0,
              omega (arith, on.1, length-append stack (v ∷ [])),
              is_old on.0 on.1 ∙ on.2,
              λ b there le. elim (Contains-push_cases bounds (length stack) b there) [ inl h ↦ on.3 b h le | inr h ↦ absurd (omega (arith, h, le, lt)) ],
            )
          ]

      wider_to : (j m : ℕ) → j < length stack → IsSettledTo g left stack bounds j m → IsSettledTo g left (stack ++ v ∷ []) (bounds ++ length stack ∷ []) j m
      wider_to j m lt settled =
          let P : ℕ → Type 0 = λ u. (k : ℕ) → k < m → k < length (row_of g u) → IsSettled g left (stack ++ v ∷ []) (bounds ++ length stack ∷ []) j (get_or (row_of g u) k 0) in
          subst P (sym (is_old j lt)) (λ k less inside. wider j (get_or (row_of g (at stack j)) k 0) lt (settled k less inside))

      stands_now : (j : ℕ) → j < length (stack ++ v ∷ []) → Stands g (set entered v true) left (set places v (length stack)) (stack ++ v ∷ []) j
      stands_now j lt =
          elim (old_or_new j lt) [
            | inl less ↦
                let e = is_old j less in
                let old = s.standing.stands j less in
                record {
                  inside = subst (λ u. u < length g) (sym e) old.inside;
                  marked = subst (Has (set entered v true)) (sym e) (has_kept entered v (at stack j) in_entered old.marked);
                  stays = subst (Lacks left) (sym e) old.stays;
                  placed = subst (λ u. get_or (set places v (length stack)) u 0 ≡ j) (sym e) (get_or-set_other places v (at stack j) (length stack) 0 (differs j less) ∙ old.placed);
                }
            | inr same ↦
                let e = is_new j same in
                record {
                  inside = subst (λ u. u < length g) (sym e) within;
                  marked = subst (Has (set entered v true)) (sym e) (has_same entered v in_entered);
                  stays = subst (Lacks left) (sym e) not_left;
                  placed = subst (λ u. get_or (set places v (length stack)) u 0 ≡ j) (sym e) (get_or-set_same places v (length stack) 0 in_places ∙ sym same);
                }
          ]

      found_now : (u : ℕ) → Has (set entered v true) u → Lacks left u →
          (get_or (set places v (length stack)) u 0 < length (stack ++ v ∷ [])) × (at (stack ++ v ∷ []) (get_or (set places v (length stack)) u 0) ≡ u)
      found_now u has lacks =
          let P : ℕ → Type 0 = λ p. (p < length (stack ++ v ∷ [])) × (at (stack ++ v ∷ []) p ≡ u) in
          elim (has_cases entered v u has) [
            | inl e ↦
                let there : get_or (set places v (length stack)) u 0 ≡ length stack = ap (λ w. get_or (set places v (length stack)) w 0) e ∙ get_or-set_same places v (length stack) 0 in_places in
                subst P (sym there) (omega (arith, length-append stack (v ∷ [])), is_new (length stack) refl ∙ sym e)
            | inr h ↦
                let ne : u ≢ v = λ e. has_not_lacks entered v (subst (Has entered) e h) fresh in
                let old = s.standing.found u h lacks in
                subst P (sym (get_or-set_other places v u (length stack) 0 ne)) (omega (arith, old.0, length-append stack (v ∷ [])), is_old (get_or places u 0) old.0 ∙ old.1)
          ]

      forward_now : (i j : ℕ) → i < j → j < length (stack ++ v ∷ []) → Reaches g (at (stack ++ v ∷ []) i) (at (stack ++ v ∷ []) j)
      forward_now i j less lt =
          let low : i < length stack = omega (arith, less, lt, length-append stack (v ∷ [])) in
          subst (λ u. Reaches g u (at (stack ++ v ∷ []) j)) (sym (is_old i low))
          (elim (old_or_new j lt) [
            | inl old ↦ subst (Reaches g (at stack i)) (sym (is_old j old)) (s.standing.forward i j less old)
            | inr new ↦ subst (Reaches g (at stack i)) (sym (is_new j new)) (reach i low)
          ])

      back_then : (i j : ℕ) → i < j → j < length (stack ++ v ∷ []) → SameGroup (bounds ++ length stack ∷ []) i j → Reaches g (at (stack ++ v ∷ []) j) (at (stack ++ v ∷ []) i)
      back_then i j less lt same =
          elim (old_or_new j lt) [
            | inl old ↦
                let low : i < length stack = omega (arith, less, old) in
                subst (λ u. Reaches g u (at (stack ++ v ∷ []) i)) (sym (is_old j old)) (subst (Reaches g (at stack j)) (sym (is_old i low))
                (s.standing.back i j less old (λ b there le. same b (Contains-append_left bounds (length stack ∷ []) b there) le)))
            | inr new ↦ absurd (omega (arith, less, new, same (length stack) (Contains-push bounds (length stack)) (omega (arith, new))))
          ]

      bound_low : (b : ℕ) → Contains bounds b → b < length stack
      bound_low b there = let found = s.framed.bounded b there in omega (arith, found.3, s.framed.inside found.0 found.1 found.2)

      pub pushed : IsGrouping g (set entered v true) left looped (set places v (length stack)) (stack ++ v ∷ []) (bounds ++ length stack ∷ []) (frames ++ frame_of (length stack) 0 ∷ [])
      pushed =
          let h : Frame = frame_of (length stack) 0 in
          let m = s.marking in
          let fr = s.framed in
          record {
            marking = record {
              entered_long = length-set entered v true ∙ m.entered_long;
              left_long = m.left_long;
              looped_long = m.looped_long;
              places_long = length-set places v (length stack) ∙ m.places_long;
              sooner = λ u has. has_kept entered v u in_entered (m.sooner u has);
              closed = m.closed;
              cyclic = m.cyclic;
              straight = m.straight;
            };
            standing = record {
              stands = stands_now;
              found = found_now;
              forward = forward_now;
              back = back_then;
              rising = rising_push bounds (length stack) s.standing.rising bound_low;
              begun = λ lt. elim (below_or_not 0 (length stack)) [
                | inl some ↦ Contains-append_left bounds (length stack ∷ []) 0 (s.standing.begun some)
                | inr none ↦ let zero_long : length stack ≡ 0 = omega (arith, none) in subst (Contains (bounds ++ length stack ∷ [])) zero_long (Contains-push bounds (length stack))
              ];
            };
            framed = record {
              inside = each_push (λ x. x.place < length (stack ++ v ∷ [])) frames h (λ i x e. omega (arith, fr.inside i x e, length-append stack (v ∷ []))) (omega (arith, length-append stack (v ∷ [])));
              rise = pairs_push (λ x y. x.place < y.place) frames h fr.rise (λ i x e. fr.inside i x e);
              bounded = λ b there. elim (Contains-push_cases bounds (length stack) b there) [
                | inl old ↦ let found = fr.bounded b old in (found.0, found.1, at_left frames (h ∷ []) found.0 found.1 found.2, found.3)
                | inr new ↦ (length frames, h, at_last frames h, new)
              ];
              looked = each_push (λ x. IsSettledTo g left (stack ++ v ∷ []) (bounds ++ length stack ∷ []) x.place x.next) frames h
                  (λ i x e. wider_to x.place x.next (fr.inside i x e) (fr.looked i x e))
                  (λ k less inside. absurd (omega (arith, less)));
              finished = λ j lt. elim (old_or_new j lt) [
                | inl old ↦ elim (fr.finished j old) [
                  | inl found ↦ inl (found.0, found.1, at_left frames (h ∷ []) found.0 found.1 found.2, found.3)
                  | inr all ↦ inr (subst (λ u. IsSettledTo g left (stack ++ v ∷ []) (bounds ++ length stack ∷ []) j (length (row_of g u))) (sym (is_old j old)) (wider_to j (length (row_of g (at stack j))) old all))
                ]
                | inr new ↦ inl (length frames, h, at_last frames h, sym new)
              ];
            };
          }

  -- THE LAST FRAME IS DONE, AND ITS GROUP BEGINS BEFORE IT

  pub dropped : (f : Frame) → IsGrouping g entered left looped places stack bounds (frames ++ f ∷ []) → f.next ≡ length (row_of g (at stack f.place)) → ¬ Contains bounds f.place →
      IsGrouping g entered left looped places stack bounds frames
  dropped f s all none =
      let fr = s.framed in
      record {
        marking = s.marking;
        standing = s.standing;
        framed = record {
          inside = each_front (λ x. x.place < length stack) frames f fr.inside;
          rise = pairs_front (λ x y. x.place < y.place) frames f fr.rise;
          bounded = λ b there.
              let found = fr.bounded b there in
              elim (at_push frames f found.0 found.1 found.2) [
                | inl h ↦ (found.0, found.1, h, found.3)
                | inr h ↦ absurd (none (subst (Contains bounds) (sym found.3 ∙ sym (ap (λ (x : Frame). x.place) h.1)) there))
              ];
          looked = each_front (λ x. IsSettledTo g left stack bounds x.place x.next) frames f fr.looked;
          finished = λ j lt. elim (fr.finished j lt) [
            | inr done ↦ inr done
            | inl found ↦ elim (at_push frames f found.0 found.1 found.2) [
              | inl h ↦ inl (found.0, found.1, h, found.3)
              | inr h ↦
                  let e : f.place ≡ j = ap (λ (x : Frame). x.place) h.1 ∙ found.3 in
                  let last = each_last (λ x. IsSettledTo g left stack bounds x.place x.next) frames f fr.looked in
                  inr (subst (λ p. IsSettledTo g left stack bounds p (length (row_of g (at stack p)))) e (subst (IsSettledTo g left stack bounds f.place) all last))
            ]
          ];
        };
      }
