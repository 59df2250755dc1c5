-- The warnings of a worked program.
use Rattle.std.proofs.Common.{◌≡◌, ◌∙◌, ◌<◌, ◌⊎◌, inl, inr, ℕ, zero, suc, true, false, List, [], ◌∷◌, None, Some, refl, sym, ap, subst, arith, true≢false}
use Rattle.std.specs.Prelude.{AllPairs, Contains, codes, slice_get, is_some}
use Rattle.std.specs.Str.{bytes_eq}
use Rattle.std.specs.List.{AllByRecursion}
use Rattle.std.proofs.lemmas.Option.{same_Some}
use Rattle.std.proofs.lemmas.List.Elements.{All-nil, All-contains, All-from_recursion}
use Rattle.std.proofs.lemmas.List.Kept.{AllPairs-cons}
use Rattle.lutree.specs.declared.expr.Expr.{Expr}
use Rattle.lutree.specs.declared.program.Kind.TheVariants.{Int}
use Rattle.lutree.specs.declared.program.Declaration.{Declaration}
use Rattle.lutree.specs.declared.program.Equation.{Equation}
use Rattle.lutree.specs.declared.program.Node.{Node}
use Rattle.lutree.specs.Tree.{Tree, EquationTree, NodeTree, declared, program_of, view, node_view, program_view}
use Rattle.lutree.specs.Tree as tree
use Rattle.lustat_warn.specs.declared.warning.WarningKind.TheVariants.{UnusedNode, UnusedInput, UnusedLocal, DividingBranch}
use Rattle.lustat_warn.specs.declared.warning.Warning.{Warning}
use Rattle.lustat_warn.specs.Dividing.{has_dividing_branch}
use Rattle.lustat_warn.specs.Warnings.{names_read, names_called, part, UnreadIn, DividingIn, InNode, IsWarning, IsBefore}
use Rattle.lustat_warn.specs.Scans.{AreAll}
use Rattle.lustat_warn.specs.Vectors.{x, quotient, on, defines, at_byte, idle, idle_program}
use Rattle.lustat_warn.proofs.Parts.{warning_of}

-- NAMES APART

not_in : (xs : List (List ℕ)) (v : List ℕ) → bytes_eq v v ≡ true → AllByRecursion (λ u. bytes_eq u v ≡ false) xs → ¬ Contains xs v
not_in xs v same others at =
    true≢false (sym same ∙ All-contains (λ u. bytes_eq u v ≡ false) xs v (All-from_recursion (λ u. bytes_eq u v ≡ false) xs others) at)

-- one item of a list
only_item : {A : Type 0} (a b : A) (j : ℕ) → slice_get (a ∷ []) j ≡ Some b → b ≡ a
only_item a b zero at = sym (same_Some a b at)
only_item a b (suc j) at = absurd (true≢false (sym (ap is_some at)))

-- WHAT IS TOLD

abbrev idle_tree : Tree → Tree → NodeTree
idle_tree a b =
    record {
      name = codes "idle";
      inputs = declared (codes "x") Int None ∷ declared (codes "z") Int None ∷ [];
      outputs = declared (codes "o") Int None ∷ [];
      locals = declared (codes "k") Int None ∷ declared (codes "s") Int (Some (on (codes "k"))) ∷ [];
      equations = defines (codes "o") a ∷ defines (codes "s") b ∷ [];
    }

abbrev names : List (List ℕ)
names = codes "x" ∷ codes "x" ∷ codes "x" ∷ codes "y" ∷ codes "x" ∷ codes "k" ∷ []

abbrev whole : List Warning
whole = warning_of UnusedNode 0 0 5 ∷ warning_of UnusedInput 0 1 18 ∷ warning_of UnusedLocal 0 1 58 ∷ warning_of DividingBranch 0 1 83 ∷ []

before_by_part : (v w : Warning) → v.node ≡ w.node → part v.kind < part w.kind → IsBefore v w
before_by_part v w same lt = inr (same, inl lt)

ascend : AllPairs IsBefore whole
ascend =
    let a = warning_of UnusedNode 0 0 5 in
    let b = warning_of UnusedInput 0 1 18 in
    let c = warning_of UnusedLocal 0 1 58 in
    let d = warning_of DividingBranch 0 1 83 in
    let two : AllPairs IsBefore (c ∷ d ∷ []) = AllPairs-cons IsBefore c (d ∷ []) (All-from_recursion (IsBefore c) (d ∷ []) (before_by_part c d refl (omega arith), tt)) (AllPairs-cons IsBefore d [] (All-nil (IsBefore d)) none) in
    let three : AllPairs IsBefore (b ∷ c ∷ d ∷ []) = AllPairs-cons IsBefore b (c ∷ d ∷ []) (All-from_recursion (IsBefore b) (c ∷ d ∷ []) (before_by_part b c refl (omega arith), (before_by_part b d refl (omega arith), tt))) two in
    AllPairs-cons IsBefore a (b ∷ c ∷ d ∷ []) (All-from_recursion (IsBefore a) (b ∷ c ∷ d ∷ []) (before_by_part a b refl (omega arith), (before_by_part a c refl (omega arith), (before_by_part a d refl (omega arith), tt)))) three
  where
    none : AllPairs IsBefore []
    none i j d lt within = absurd (omega arith)

module _ (e f : Expr) (o_is : view e ≡ x) (s_is : view f ≡ tree.choice x quotient x) where
  read_is : names_read (node_view (idle e f)) ≡ names
  read_is = ap (λ t. names_read (idle_tree t (view f))) o_is ∙ ap (λ t. names_read (idle_tree x t)) s_is

  called_is : names_called (program_view (idle_program e f)) ≡ []
  called_is = ap (λ t. names_called (program_of (idle_tree t (view f) ∷ []))) o_is ∙ ap (λ t. names_called (program_of (idle_tree x t ∷ []))) s_is

  unread : (v : List ℕ) → ¬ Contains names v → ¬ Contains (names_read (node_view (idle e f))) v
  unread v none = subst (λ l. ¬ Contains l v) (sym read_is) none

  of_node : IsWarning (idle_program e f) (codes "main") (warning_of UnusedNode 0 0 5)
  of_node = (
    0,
    idle e f,
    refl,
    inl (record {
      is = refl;
      other = λ same. true≢false (ap (λ l. bytes_eq l (codes "idle")) same);
      uncalled = subst (λ l. ¬ Contains l (codes "idle")) (sym called_is) (not_in [] (codes "idle") refl tt);
    }),
  )

  of_input : IsWarning (idle_program e f) (codes "main") (warning_of UnusedInput 0 1 18)
  of_input = (
    0,
    idle e f,
    refl,
    inr (inl (1, at_byte 18 (codes "z") None, refl, record { is = refl; unread = unread (codes "z") (not_in names (codes "z") refl (refl, (refl, (refl, (refl, (refl, (refl, tt))))))) })),
  )

  of_local : IsWarning (idle_program e f) (codes "main") (warning_of UnusedLocal 0 1 58)
  of_local = (
    0,
    idle e f,
    refl,
    inr (inr (inl (1, at_byte 58 (codes "s") (Some (on (codes "k"))), refl, record { is = refl; unread = unread (codes "s") (not_in names (codes "s") refl (refl, (refl, (refl, (refl, (refl, (refl, tt))))))) }))),
  )

  of_equation : IsWarning (idle_program e f) (codes "main") (warning_of DividingBranch 0 1 83)
  of_equation = (0, idle e f, refl, inr (inr (inr (1, record { left = codes "s" ∷ []; right = f; byte = 83 }, refl, record { is = refl; divides = ap has_dividing_branch s_is }))))

  abbrev Is : Warning → Type 0
  Is = IsWarning (idle_program e f) (codes "main")

  -- what is read, and what doesn't divide

  read_where : (v : List ℕ) → Contains names v → Contains (names_read (node_view (idle e f))) v
  read_where v at = subst (λ l. Contains l v) (sym read_is) at

  is_read : (d a : Declaration) → a ≡ d → Contains names a.name → ¬ Contains (names_read (node_view (idle e f))) d.name → ⊥
  is_read d a same at none = none (read_where d.name (subst (λ (b : Declaration). Contains names b.name) same at))

  in_list : (w v : Warning) → w ≡ v → Contains whole v → Contains whole w
  in_list w v same at = subst (Contains whole) (sym same) at

  of_inputs : (w : Warning) (j : ℕ) (d : Declaration) → slice_get (idle e f).inputs j ≡ Some d → UnreadIn (names_read (node_view (idle e f))) UnusedInput 0 j d w → Contains whole w
  of_inputs w zero d at u = let lt : 0 < 6 = omega arith in absurd (is_read d (at_byte 10 (codes "x") None) (same_Some _ _ at) (0, lt, refl) u.unread)
  of_inputs w (suc zero) d at u =
      let lt : 1 < 4 = omega arith in
      in_list w (warning_of UnusedInput 0 1 18) (u.is ∙ ap (λ (b : Declaration). warning_of UnusedInput 0 1 b.byte) (sym (same_Some (at_byte 18 (codes "z") None) d at))) (1, lt, refl)
  of_inputs w (suc (suc j)) d at u = absurd (true≢false (sym (ap is_some at)))

  of_locals : (w : Warning) (j : ℕ) (d : Declaration) → slice_get (idle e f).locals j ≡ Some d → UnreadIn (names_read (node_view (idle e f))) UnusedLocal 0 j d w → Contains whole w
  of_locals w zero d at u = let lt : 5 < 6 = omega arith in absurd (is_read d (at_byte 50 (codes "k") None) (same_Some _ _ at) (5, lt, refl) u.unread)
  of_locals w (suc zero) d at u =
      let lt : 2 < 4 = omega arith in
      in_list w (warning_of UnusedLocal 0 1 58) (u.is ∙ ap (λ (b : Declaration). warning_of UnusedLocal 0 1 b.byte) (sym (same_Some (at_byte 58 (codes "s") (Some (on (codes "k")))) d at))) (2, lt, refl)
  of_locals w (suc (suc j)) d at u = absurd (true≢false (sym (ap is_some at)))

  abbrev first : Equation
  first = record { left = codes "o" ∷ []; right = e; byte = 76 }

  abbrev second : Equation
  second = record { left = codes "s" ∷ []; right = f; byte = 83 }

  of_equations : (w : Warning) (j : ℕ) (q : Equation) → slice_get (idle e f).equations j ≡ Some q → DividingIn 0 j q w → Contains whole w
  of_equations w zero q at u =
      absurd (true≢false (sym u.divides ∙ ap (λ (r : Equation). has_dividing_branch (view r.right)) (sym (same_Some first q at)) ∙ ap has_dividing_branch o_is))
  of_equations w (suc zero) q at u =
      let lt : 3 < 4 = omega arith in
      in_list w (warning_of DividingBranch 0 1 83) (u.is ∙ ap (λ (r : Equation). warning_of DividingBranch 0 1 r.byte) (sym (same_Some second q at))) (3, lt, refl)
  of_equations w (suc (suc j)) q at u = absurd (true≢false (sym (ap is_some at)))

  of_idle : (called : List (List ℕ)) (w : Warning) → InNode called (codes "main") 0 (idle e f) w → Contains whole w
  of_idle called w (inl u) = let lt : 0 < 4 = omega arith in in_list w (warning_of UnusedNode 0 0 5) u.is (0, lt, refl)
  of_idle called w (inr (inl (j, d, at, u))) = of_inputs w j d at u
  of_idle called w (inr (inr (inl (j, d, at, u)))) = of_locals w j d at u
  of_idle called w (inr (inr (inr (j, q, at, u)))) = of_equations w j q at u

  all_listed : (w : Warning) → Is w → Contains whole w
  all_listed w (zero, n, at, h) = of_idle _ w (subst (λ m. InNode (names_called (program_view (idle_program e f))) (codes "main") 0 m w) (only_item (idle e f) n 0 at) h)
  all_listed w (suc i, n, at, h) = absurd (true≢false (sym (ap is_some at)))

  pub told : AreAll Is whole
  told = record {
    only = All-from_recursion Is whole (of_node, (of_input, (of_local, (of_equation, tt))));
    all = all_listed;
    in_order = ascend;
  }

-- WHAT ISN'T

parts_differ : (v w : Warning) (p q : ℕ) → v ≡ w → part v.kind ≡ p → part w.kind ≡ q → (p < q) ⊎ (q < p) → ⊥
parts_differ v w p q same here there (inl lt) = let e = ap (λ (u : Warning). part u.kind) same in omega (arith, e, here, there, lt)
parts_differ v w p q same here there (inr lt) = let e = ap (λ (u : Warning). part u.kind) same in omega (arith, e, here, there, lt)

pub main_is_used : (e f : Expr) → ¬ IsWarning (idle_program e f) (codes "idle") (warning_of UnusedNode 0 0 5)
main_is_used e f (i, n, at, inl u) = u.other (ap (λ (m : Node). m.name) (only_item (idle e f) n i at))
main_is_used e f (i, n, at, inr (inl (j, d, there, u))) = parts_differ _ _ 0 1 u.is refl refl (inl (omega arith))
main_is_used e f (i, n, at, inr (inr (inl (j, d, there, u)))) = parts_differ _ _ 0 2 u.is refl refl (inl (omega arith))
main_is_used e f (i, n, at, inr (inr (inr (j, q, there, u)))) = parts_differ _ _ 0 3 u.is refl refl (inl (omega arith))
