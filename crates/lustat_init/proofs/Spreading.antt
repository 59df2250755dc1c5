-- Which links there are.
use Rattle.std.proofs.Common.{◌≡◌, ◌⊎◌, inl, inr, ◌∙◌, ◌+◌, ℕ, zero, suc, List, [], ◌∷◌, ◌++◌, Option, Some, None, refl, sym, ap, subst, arith, Contains}
use Rattle.std.specs.Prelude.{slice_get}
use Rattle.std.proofs.lemmas.List.Elements.{Contains-append_left, Contains-append_right, Contains-append_cases, Contains-push, Contains-push_cases}
use Rattle.lutree.specs.declared.expr.Prefix.TheVariants.{Data as Data1, Pre}
use Rattle.lutree.specs.declared.expr.Infix.TheVariants.{Data as Data2, Arrow, FollowedBy}
use Rattle.lutree.specs.Tree.{Tree, EquationTree, NodeTree}
use Rattle.lutree.specs.Tree as tree
use Rattle.lubase.specs.declared.link.Link.{Link}
use Rattle.lubase.specs.Reach.{link}
use Rattle.lustat_init.specs.Assigned.{place_of}
use Rattle.lustat_init.specs.Sources.{class_sources}
use Rattle.lustat_init.specs.Linked.{read_link, write_link, reads_in, writes_in, links_in}

pub nothing : {X : Type 0} (x : X) → Contains [] x → ⊥
nothing x h = omega (arith, h.1)

only : {X : Type 0} (y x : X) → Contains (y ∷ []) x → y ≡ x
only y x h = elim (Contains-push_cases [] y x h) [ inl none ↦ absurd (nothing x none) | inr e ↦ e ]

module _ (n : NodeTree) (w : ℕ) where
  -- READS

  abbrev pub IsRead : Tree → ℕ → ℕ → Type 0
  IsRead e u v = (w ≡ v) × ((x : List ℕ) × Contains (class_sources e) x × (place_of n x ≡ Some u))

  one_read : (x : List ℕ) (o : Option ℕ) (u v : ℕ) → place_of n x ≡ o → Contains (read_link o w) (link u v) → IsRead (tree.variable x) u v
  one_read x None u v e h = absurd (nothing (link u v) h)
  one_read x (Some p) u v e h =
      let same = only (link p w) (link u v) h in
      (ap (λ (l : Link). l.to) same, (x, Contains-push [] x, e ∙ ap (λ (l : Link). Some l.from) same))

  read_left : (d e : Tree) (ys : List (List ℕ)) (u v : ℕ) → IsRead d u v → (w ≡ v) × ((x : List ℕ) × Contains (class_sources d ++ ys) x × (place_of n x ≡ Some u))
  read_left d e ys u v h = (h.0, (h.1.0, Contains-append_left (class_sources d) ys h.1.0 h.1.1, h.1.2))

  widen_right : (xs ys : List (List ℕ)) (u v : ℕ) → (w ≡ v) × ((x : List ℕ) × Contains ys x × (place_of n x ≡ Some u)) → (w ≡ v) × ((x : List ℕ) × Contains (xs ++ ys) x × (place_of n x ≡ Some u))
  widen_right xs ys u v h = (h.0, (h.1.0, Contains-append_right xs ys h.1.0 h.1.1, h.1.2))

  pub reads_there : (e : Tree) (u v : ℕ) → Contains (reads_in n w e) (link u v) → IsRead e u v
  reads_there (tree.number a) u v h = absurd (nothing (link u v) h)
  reads_there (tree.truth b) u v h = absurd (nothing (link u v) h)
  reads_there (tree.label l) u v h = absurd (nothing (link u v) h)
  reads_there (tree.variable x) u v h = one_read x (place_of n x) u v refl h
  reads_there (tree.unary (Data1 op) e) u v h = reads_there e u v h
  reads_there (tree.unary Pre e) u v h = absurd (nothing (link u v) h)
  reads_there (tree.binary (Data2 op) d e) u v h =
      elim (Contains-append_cases (reads_in n w d) (reads_in n w e) (link u v) h) [
        | inl x ↦ read_left d e (class_sources e) u v (reads_there d u v x)
        | inr x ↦ widen_right (class_sources d) (class_sources e) u v (reads_there e u v x)
      ]
  reads_there (tree.binary Arrow d e) u v h = reads_there d u v h
  reads_there (tree.binary FollowedBy d e) u v h = reads_there d u v h
  reads_there (tree.choice c d e) u v h =
      elim (Contains-append_cases (reads_in n w c) (reads_in n w d ++ reads_in n w e) (link u v) h) [
        | inl x ↦ read_left c d (class_sources d ++ class_sources e) u v (reads_there c u v x)
        | inr y ↦ widen_right (class_sources c) (class_sources d ++ class_sources e) u v (
            elim (Contains-append_cases (reads_in n w d) (reads_in n w e) (link u v) y) [
              | inl x ↦ read_left d e (class_sources e) u v (reads_there d u v x)
              | inr x ↦ widen_right (class_sources d) (class_sources e) u v (reads_there e u v x)
            ]
            )
      ]
  reads_there (tree.when e c) u v h = reads_there e u v h
  reads_there (tree.current x) u v h = absurd (nothing (link u v) h)
  reads_there (tree.merge c ps all) u v h = absurd (nothing (link u v) h)
  reads_there (tree.call f all) u v h = absurd (nothing (link u v) h)

  pub reads_back : (e : Tree) (x : List ℕ) (u : ℕ) → Contains (class_sources e) x → place_of n x ≡ Some u → Contains (reads_in n w e) (link u w)
  reads_back (tree.number a) x u h at = absurd (nothing x h)
  reads_back (tree.truth b) x u h at = absurd (nothing x h)
  reads_back (tree.label l) x u h at = absurd (nothing x h)
  reads_back (tree.variable y) x u h at =
      subst (λ o. Contains (read_link o w) (link u w)) (sym (ap (place_of n) (only y x h) ∙ at)) (Contains-push [] (link u w))
  reads_back (tree.unary (Data1 op) e) x u h at = reads_back e x u h at
  reads_back (tree.unary Pre e) x u h at = absurd (nothing x h)
  reads_back (tree.binary (Data2 op) d e) x u h at =
      elim (Contains-append_cases (class_sources d) (class_sources e) x h) [
        | inl y ↦ Contains-append_left (reads_in n w d) (reads_in n w e) (link u w) (reads_back d x u y at)
        | inr y ↦ Contains-append_right (reads_in n w d) (reads_in n w e) (link u w) (reads_back e x u y at)
      ]
  reads_back (tree.binary Arrow d e) x u h at = reads_back d x u h at
  reads_back (tree.binary FollowedBy d e) x u h at = reads_back d x u h at
  reads_back (tree.choice c d e) x u h at =
      elim (Contains-append_cases (class_sources c) (class_sources d ++ class_sources e) x h) [
        | inl y ↦ Contains-append_left (reads_in n w c) (reads_in n w d ++ reads_in n w e) (link u w) (reads_back c x u y at)
        | inr z ↦ Contains-append_right (reads_in n w c) (reads_in n w d ++ reads_in n w e) (link u w) (
            elim (Contains-append_cases (class_sources d) (class_sources e) x z) [
              | inl y ↦ Contains-append_left (reads_in n w d) (reads_in n w e) (link u w) (reads_back d x u y at)
              | inr y ↦ Contains-append_right (reads_in n w d) (reads_in n w e) (link u w) (reads_back e x u y at)
            ]
            )
      ]
  reads_back (tree.when e c) x u h at = reads_back e x u h at
  reads_back (tree.current y) x u h at = absurd (nothing x h)
  reads_back (tree.merge c ps all) x u h at = absurd (nothing x h)
  reads_back (tree.call f all) x u h at = absurd (nothing x h)

  -- WRITES

  abbrev pub IsWritten : List (List ℕ) → ℕ → ℕ → Type 0
  IsWritten xs u v = (w ≡ u) × ((x : List ℕ) × Contains xs x × (place_of n x ≡ Some v))

  one_write : (x : List ℕ) (o : Option ℕ) (u v : ℕ) → place_of n x ≡ o → Contains (write_link w o) (link u v) → (w ≡ u) × (place_of n x ≡ Some v)
  one_write x None u v e h = absurd (nothing (link u v) h)
  one_write x (Some p) u v e h =
      let same = only (link w p) (link u v) h in
      (ap (λ (l : Link). l.from) same, e ∙ ap (λ (l : Link). Some l.to) same)

  pub writes_there : (xs : List (List ℕ)) (u v : ℕ) → Contains (writes_in n w xs) (link u v) → IsWritten xs u v
  writes_there [] u v h = absurd (nothing (link u v) h)
  writes_there (x ∷ xs) u v h =
      elim (Contains-append_cases (write_link w (place_of n x)) (writes_in n w xs) (link u v) h) [
        | inl y ↦ let one = one_write x (place_of n x) u v refl y in (one.0, (x, Contains-append_left (x ∷ []) xs x (Contains-push [] x), one.1))
        | inr y ↦ let rest = writes_there xs u v y in (rest.0, (rest.1.0, Contains-append_right (x ∷ []) xs rest.1.0 rest.1.1, rest.1.2))
      ]

  pub writes_back : (xs : List (List ℕ)) (x : List ℕ) (v : ℕ) → Contains xs x → place_of n x ≡ Some v → Contains (writes_in n w xs) (link w v)
  writes_back [] x v h at = absurd (nothing x h)
  writes_back (y ∷ xs) x v h at =
      elim (Contains-append_cases (y ∷ []) xs x h) [
        | inl z ↦
            Contains-append_left (write_link w (place_of n y)) (writes_in n w xs) (link w v)
            (subst (λ o. Contains (write_link w o) (link w v)) (sym (ap (place_of n) (only y x z) ∙ at)) (Contains-push [] (link w v)))
        | inr z ↦ Contains-append_right (write_link w (place_of n y)) (writes_in n w xs) (link w v) (writes_back xs x v z at)
      ]

-- ALL EQUATIONS

abbrev pub IsLinked : NodeTree → ℕ → List EquationTree → ℕ → ℕ → Type 0
IsLinked n w qs u v =
    (i : ℕ) × (q : EquationTree) × (slice_get qs i ≡ Some q) × (IsRead n (w + i) q.right u v ⊎ IsWritten n (w + i) q.left u v)

pub links_there : (n : NodeTree) (w : ℕ) (qs : List EquationTree) (u v : ℕ) → Contains (links_in n w qs) (link u v) → IsLinked n w qs u v
links_there n w [] u v h = absurd (nothing (link u v) h)
links_there n w (q ∷ qs) u v h =
    let here : w ≡ w + 0 = omega arith in
    elim (Contains-append_cases (reads_in n w q.right ++ writes_in n w q.left) (links_in n (w + 1) qs) (link u v) h) [
      | inl front ↦
          elim (Contains-append_cases (reads_in n w q.right) (writes_in n w q.left) (link u v) front) [
            | inl x ↦ (0, q, refl, inl (subst (λ k. IsRead n k q.right u v) here (reads_there n w q.right u v x)))
            | inr x ↦ (0, q, refl, inr (subst (λ k. IsWritten n k q.left u v) here (writes_there n w q.left u v x)))
          ]
      | inr rest ↦
          let l = links_there n (w + 1) qs u v rest in
          let same : w + 1 + l.0 ≡ w + suc l.0 = omega arith in
          (suc l.0, l.1, l.2, elim l.3 [ inl x ↦ inl (subst (λ k. IsRead n k l.1.right u v) same x) | inr x ↦ inr (subst (λ k. IsWritten n k l.1.left u v) same x) ])
    ]

pub links_back : (n : NodeTree) (w : ℕ) (qs : List EquationTree) (i : ℕ) (q : EquationTree) (l : Link) → slice_get qs i ≡ Some q →
    Contains (reads_in n (w + i) q.right) l ⊎ Contains (writes_in n (w + i) q.left) l → Contains (links_in n w qs) l
links_back n w [] i q l at h = absurd (none_some at) where
  none_some : None ≡ Some q → ⊥
  none_some e = cc
links_back n w (r ∷ qs) zero q l at h =
    let same : r ≡ q = some_same r q at in
    let here : w + 0 ≡ w = omega arith in
    Contains-append_left (reads_in n w r.right ++ writes_in n w r.left) (links_in n (w + 1) qs) l (
    elim h [
      | inl x ↦ Contains-append_left (reads_in n w r.right) (writes_in n w r.left) l (subst (λ (s : EquationTree). Contains (reads_in n w s.right) l) (sym same) (subst (λ k. Contains (reads_in n k q.right) l) here x))
      | inr x ↦ Contains-append_right (reads_in n w r.right) (writes_in n w r.left) l (subst (λ (s : EquationTree). Contains (writes_in n w s.left) l) (sym same) (subst (λ k. Contains (writes_in n k q.left) l) here x))
    ]
    ) where
      some_same : (x y : EquationTree) → Some x ≡ Some y → x ≡ y
      some_same x y e = cc
links_back n w (r ∷ qs) (suc i) q l at h =
    let same : w + suc i ≡ w + 1 + i = omega arith in
    Contains-append_right (reads_in n w r.right ++ writes_in n w r.left) (links_in n (w + 1) qs) l
    (links_back n (w + 1) qs i q l at (elim h [ inl x ↦ inl (subst (λ k. Contains (reads_in n k q.right) l) same x) | inr x ↦ inr (subst (λ k. Contains (writes_in n k q.left) l) same x) ]))
