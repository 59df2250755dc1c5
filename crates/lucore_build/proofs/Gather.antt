-- What equations make, one behind the other.
use Rattle.std.proofs.Common.{◌≡◌, ℕ, suc, ◌+◌, ◌<◌, List, [], ◌∷◌, ◌++◌, length, map, take, get_or, replicate, refl, sym, ap, subst, ◌∙◌, arith, append_assoc, length-take}
use Rattle.std.proofs.lemmas.List.{append-nil, length-append, length-replicate, map-append, take_more}
use Rattle.lutree.specs.declared.program.Equation.{Equation}
use Rattle.lutree.specs.Tree.{EquationTree, NodeTree, ProgramTree, equation_view}
use Rattle.luflow.specs.declared.form.Clock.{Clock}
use Rattle.luflow.specs.declared.form.Flow.{Flow}
use Rattle.lusource.specs.Names.{name_at, place_of, variables_of}
use Rattle.lucore_laws.specs.Layout.{Root, clock_place, left_clock, walk_right, inner_flows, inner_owners, variable_count}
use Rattle.lucore_build.specs.Walks.{vacant}
use Rattle.lucore_build.specs.Nodes.{flow_named, flows_named, defined_flows}

-- one more name on a left side
pub named_more : (n : NodeTree) (k : Clock) (r : Root) (j : ℕ) (xs : List (List ℕ)) (x : List ℕ) →
    flows_named n k r j (xs ++ x ∷ []) ≡ flows_named n k r j xs ++ flow_named n k r (j + length xs) x ∷ []
named_more n k r j [] x = let z : j ≡ j + 0 = omega arith in ap (λ i. flow_named n k r i x ∷ []) z
named_more n k r j (y ∷ xs) x =
    let z : suc j + length xs ≡ j + suc (length xs) = omega arith in
    ap (λ l. flow_named n k r j y ∷ l) (named_more n k r (suc j) xs x ∙ ap (λ i. flows_named n k r (suc j) xs ++ flow_named n k r i x ∷ []) z)

pub next_named : (n : NodeTree) (k : Clock) (r : Root) (xs : List (List ℕ)) (i : ℕ) (x y : List ℕ) (f : Flow) (old before after : List Flow) → i < length xs → x ≡ get_or xs i x → y ≡ x → f ≡ flow_named n k r i y →
    before ≡ old ++ flows_named n k r 0 (take i xs) → after ≡ before ++ f ∷ [] → after ≡ old ++ flows_named n k r 0 (take (i + 1) xs)
next_named n k r xs i x y f old before after lt is same e was more =
    let first = flows_named n k r 0 (take i xs) in
    let z : i ≡ 0 + length (take i xs) = omega (arith, length-take i xs) in
    more ∙ ap (λ l. l ++ f ∷ []) was ∙ ap (λ g. (old ++ first) ++ g ∷ []) (e ∙ ap (flow_named n k r i) (same ∙ is) ∙ ap (λ j. flow_named n k r j (get_or xs i x)) z)
    ∙ append_assoc old first (flow_named n k r (0 + length (take i xs)) (get_or xs i x) ∷ [])
    ∙ ap (λ l. old ++ l) (sym (ap (flows_named n k r 0) (take_more xs i x lt) ∙ named_more n k r 0 (take i xs) (get_or xs i x)))

module _ (p : ProgramTree) (l : List (List Flow)) (n : NodeTree) where
  -- how many inner flows an equation has
  abbrev long : EquationTree → ℕ → ℕ
  long q s = length (walk_right p l n q s).inner

  abbrev gather : {A : Type 0} → (EquationTree → ℕ → List A) → List EquationTree → ℕ → List A
  gather f [] s = []
  gather f (q ∷ qs) s = f q s ++ gather f qs (s + long q s)

  gather_more : {A : Type 0} (f : EquationTree → ℕ → List A) (qs : List EquationTree) (q : EquationTree) (s : ℕ) →
      gather f (qs ++ q ∷ []) s ≡ gather f qs s ++ f q (s + length (inner_flows p l n qs s))
  gather_more f [] q s = let z : s ≡ s + 0 = omega arith in append-nil (f q s) ∙ ap (f q) z
  gather_more f (r ∷ qs) q s =
      let t = s + long r s in
      let more = length (inner_flows p l n qs t) in
      let z : t + more ≡ s + (long r s + more) = omega arith in
      ap (λ xs. f r s ++ xs) (gather_more f qs q t ∙ ap (λ i. gather f qs t ++ f q i) (z ∙ ap (λ i. s + i) (sym (length-append (walk_right p l n r s).inner (inner_flows p l n qs t)))))
      ∙ sym (append_assoc (f r s) (gather f qs t) (f q (s + length (inner_flows p l n (r ∷ qs) s))))

  abbrev inner_at : EquationTree → ℕ → List Flow
  inner_at q s = (walk_right p l n q s).inner

  abbrev owners_at : EquationTree → ℕ → List ℕ
  owners_at q s = replicate (long q s) (place_of (variables_of n) (name_at q.left 0))

  abbrev defined_at : EquationTree → ℕ → List Flow
  defined_at q s = flows_named n (clock_place n (left_clock p l n q)) (walk_right p l n q s).root 0 q.left

  inner_is : (qs : List EquationTree) (s : ℕ) → inner_flows p l n qs s ≡ gather inner_at qs s
  inner_is [] s = refl
  inner_is (q ∷ qs) s = ap (λ xs. inner_at q s ++ xs) (inner_is qs (s + long q s))

  owners_is : (qs : List EquationTree) (s : ℕ) → inner_owners p l n qs s ≡ gather owners_at qs s
  owners_is [] s = refl
  owners_is (q ∷ qs) s = ap (λ xs. owners_at q s ++ xs) (owners_is qs (s + long q s))

  defined_is : (qs : List EquationTree) (s : ℕ) → defined_flows p l n qs s ≡ gather defined_at qs s
  defined_is [] s = refl
  defined_is (q ∷ qs) s = ap (λ xs. defined_at q s ++ xs) (defined_is qs (s + long q s))

  inner_more : (qs : List EquationTree) (q : EquationTree) (s : ℕ) → inner_flows p l n (qs ++ q ∷ []) s ≡ inner_flows p l n qs s ++ inner_at q (s + length (inner_flows p l n qs s))
  inner_more qs q s = inner_is (qs ++ q ∷ []) s ∙ gather_more inner_at qs q s ∙ ap (λ xs. xs ++ inner_at q (s + length (inner_flows p l n qs s))) (sym (inner_is qs s))

  owners_more : (qs : List EquationTree) (q : EquationTree) (s : ℕ) → inner_owners p l n (qs ++ q ∷ []) s ≡ inner_owners p l n qs s ++ owners_at q (s + length (inner_flows p l n qs s))
  owners_more qs q s = owners_is (qs ++ q ∷ []) s ∙ gather_more owners_at qs q s ∙ ap (λ xs. xs ++ owners_at q (s + length (inner_flows p l n qs s))) (sym (owners_is qs s))

  defined_more : (qs : List EquationTree) (q : EquationTree) (s : ℕ) → defined_flows p l n (qs ++ q ∷ []) s ≡ defined_flows p l n qs s ++ defined_at q (s + length (inner_flows p l n qs s))
  defined_more qs q s = defined_is (qs ++ q ∷ []) s ∙ gather_more defined_at qs q s ∙ ap (λ xs. xs ++ defined_at q (s + length (inner_flows p l n qs s))) (sym (defined_is qs s))

  -- what some equations made, behind the places of the variables
  pub record Made (qs : List EquationTree) (flows : List Flow) (owners : List ℕ) (defined : List Flow) : Type 0 where
    pub all_flows : flows ≡ replicate (variable_count p l n) vacant ++ inner_flows p l n qs (variable_count p l n)
    pub all_owners : owners ≡ inner_owners p l n qs (variable_count p l n)
    pub all_defined : defined ≡ defined_flows p l n qs (variable_count p l n)

  pub none_made : (flows : List Flow) (owners : List ℕ) (defined : List Flow) → flows ≡ replicate (variable_count p l n) vacant → owners ≡ [] → defined ≡ [] → Made [] flows owners defined
  none_made flows owners defined e f g =
      record { all_flows = e ∙ sym (append-nil (replicate (variable_count p l n) vacant)); all_owners = f; all_defined = g }

  pub one_more : (qs : List EquationTree) (q : EquationTree) (flows flows' : List Flow) (owners owners' : List ℕ) (defined defined' : List Flow) → Made qs flows owners defined →
      flows' ≡ flows ++ inner_at q (length flows) → owners' ≡ owners ++ owners_at q (length flows) → defined' ≡ defined ++ defined_at q (length flows) → Made (qs ++ q ∷ []) flows' owners' defined'
  one_more qs q flows flows' owners owners' defined defined' made e f g =
      let nv = variable_count p l n in
      let holders = replicate nv vacant in
      let inner = inner_flows p l n qs nv in
      let size : length flows ≡ nv + length inner = ap length made.all_flows ∙ length-append holders inner ∙ ap (λ i. i + length inner) (length-replicate nv vacant) in
      record {
        all_flows = e ∙ ap (λ xs. xs ++ inner_at q (length flows)) made.all_flows ∙ ap (λ i. (holders ++ inner) ++ inner_at q i) size
            ∙ append_assoc holders inner (inner_at q (nv + length inner)) ∙ ap (λ xs. holders ++ xs) (sym (inner_more qs q nv));
        all_owners = f ∙ ap (λ xs. xs ++ owners_at q (length flows)) made.all_owners ∙ ap (λ i. inner_owners p l n qs nv ++ owners_at q i) size ∙ sym (owners_more qs q nv);
        all_defined = g ∙ ap (λ xs. xs ++ defined_at q (length flows)) made.all_defined ∙ ap (λ i. defined_flows p l n qs nv ++ defined_at q i) size ∙ sym (defined_more qs q nv);
      }

  -- the next of the equations in memory
  pub next_made : (qs : List Equation) (i : ℕ) (q : Equation) (flows flows' : List Flow) (owners owners' : List ℕ) (defined defined' : List Flow) → i < length qs → q ≡ get_or qs i q →
      Made (map equation_view (take i qs)) flows owners defined →
      flows' ≡ flows ++ inner_at (equation_view q) (length flows) → owners' ≡ owners ++ owners_at (equation_view q) (length flows) → defined' ≡ defined ++ defined_at (equation_view q) (length flows) →
      Made (map equation_view (take (i + 1) qs)) flows' owners' defined'
  next_made qs i q flows flows' owners owners' defined defined' lt is made e f g =
      let same : map equation_view (take (i + 1) qs) ≡ map equation_view (take i qs) ++ equation_view q ∷ [] =
      ap (map equation_view) (take_more qs i q lt) ∙ map-append equation_view (take i qs) (get_or qs i q ∷ []) ∙ ap (λ r. map equation_view (take i qs) ++ equation_view r ∷ []) (sym is) in
      subst (λ rs. Made rs flows' owners' defined') (sym same) (one_more (map equation_view (take i qs)) (equation_view q) flows flows' owners owners' defined defined' made e f g)
