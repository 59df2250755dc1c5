-- Which equation of the main node the occurrences of a list stand in.
use Rattle.std.proofs.Common.{◌≡◌, ℕ, suc, ◌+◌, List, [], ◌∷◌, ◌++◌, length, map, replicate, Option, Some, None, refl, sym, ap, ◌∙◌, subst, arith}
use Rattle.std.specs.Prelude.{slice_get}
use Rattle.std.proofs.lemmas.Option.{same_Some}
use Rattle.lutree.specs.Tree.{EquationTree, NodeTree, ProgramTree}
use Rattle.luflow.specs.declared.form.Flow.{Flow}
use Rattle.lusource.specs.Names.{variables_of}
use Rattle.lucore_laws.specs.Layout.{walk_right, inner_owners, owner_of, node_owners, variable_count}
use Rattle.lucore_laws.specs.Reads.{Position, Path, Occurrence}
use Rattle.lucore_laws.specs.Reads.Occurrence.{variable, operator}
use Rattle.lucore_laws.specs.Owners.{outermost, first_left, owner}
use Rattle.lucore_laws.proofs.Graph.{Every, every_imp, every_join}

-- the equation of the main node in which an occurrence stands; a variable of the main node stands in no text
abbrev pub equation_of : Occurrence → Option ℕ
equation_of (variable [] x) = None
equation_of (variable (t ∷ path) x) = Some (outermost t path)
equation_of (operator path t) = Some (outermost t path)

-- in an instance of a call of the main node all stand in one equation of that
abbrev pub Belongs : Path → Occurrence → Type 0
Belongs [] x = Unit {0}
Belongs (t ∷ path) x = equation_of x ≡ Some (outermost t path)

abbrev pub root_of : ℕ → Position
root_of n = record { equation = n; operands = [] }

-- an occurrence of equation n of an instance
abbrev pub Mine : Path → ℕ → Occurrence → Type 0
Mine path n x = equation_of x ≡ Some (outermost (root_of n) path)

outermost_same : (path : Path) (t : Position) (n : ℕ) → t.equation ≡ n → outermost t path ≡ outermost (root_of n) path
outermost_same [] t n e = e
outermost_same (c ∷ path) t n e = refl

pub mine_operator : (path : Path) (n : ℕ) (t : Position) → t.equation ≡ n → Mine path n (operator path t)
mine_operator path n t e = ap Some (outermost_same path t n e)

pub mine_instance : (path : Path) (n : ℕ) (t : Position) → t.equation ≡ n → (x : Occurrence) → Belongs (t ∷ path) x → Mine path n x
mine_instance path n t e x h = h ∙ ap Some (outermost_same path t n e)

mine_belongs : (path : Path) (n : ℕ) (x : Occurrence) → Mine path n x → Belongs path x
mine_belongs [] n x h = tt
mine_belongs (c ∷ path) n x h = h

variable_belongs : (path : Path) (x : List ℕ) → Belongs path (variable path x)
variable_belongs [] x = tt
variable_belongs (t ∷ path) x = refl

owned : (node : NodeTree) (x : Occurrence) (n : ℕ) → equation_of x ≡ Some n → owner node x ≡ first_left node (slice_get node.equations n)
owned node (variable [] x) n e = cc
owned node (variable (t ∷ path) x) n e = ap (λ n. first_left node (slice_get node.equations n)) (same_Some (outermost t path) n e)
owned node (operator path t) n e = ap (λ n. first_left node (slice_get node.equations n)) (same_Some (outermost t path) n e)

map_joined : (f : Occurrence → ℕ) (xs ys : List Occurrence) → map f (xs ++ ys) ≡ map f xs ++ map f ys
map_joined f [] ys = refl
map_joined f (x ∷ xs) ys = ap (λ l. f x ∷ l) (map_joined f xs ys)

all_owned : (f : Occurrence → ℕ) (v : ℕ) (xs : List Occurrence) → Every (λ x. f x ≡ v) xs → map f xs ≡ replicate (length xs) v
all_owned f v [] h = refl
all_owned f v (x ∷ xs) h = ap (λ n. n ∷ map f xs) h.0 ∙ ap (λ l. v ∷ l) (all_owned f v xs h.1)

module _ (p : ProgramTree) (lists : List (List Flow)) (node : NodeTree) (path : Path) where
  -- the list is that of some equations, one after the other
  abbrev pub Pieces : List EquationTree → ℕ → ℕ → List Occurrence → Type 0
  Pieces [] s n l = l ≡ []
  Pieces (q ∷ qs) s n l =
      (a b : List Occurrence) × (l ≡ a ++ b) × (length a ≡ length (walk_right p lists node q s).inner) × Every (Mine path n) a × Pieces qs (s + length (walk_right p lists node q s).inner) (suc n) b

  pieces_belong : (qs : List EquationTree) (s n : ℕ) (l : List Occurrence) → Pieces qs s n l → Every (Belongs path) l
  pieces_belong [] s n l h = subst (Every (Belongs path)) (sym h) tt
  pieces_belong (q ∷ qs) s n l h =
      subst (Every (Belongs path)) (sym h.2)
      (every_join (Belongs path) h.0 h.1 (every_imp (Mine path n) (Belongs path) h.0 (λ x m. mine_belongs path n x m) h.4) (pieces_belong qs (s + length (walk_right p lists node q s).inner) (suc n) h.1 h.5))

  variables_belong : (xs : List (List ℕ)) → Every (Belongs path) (map (λ x. variable path x) xs)
  variables_belong [] = tt
  variables_belong (x ∷ xs) = (variable_belongs path x, variables_belong xs)

  pub all_belong : (xs : List (List ℕ)) (qs : List EquationTree) (s n : ℕ) (l : List Occurrence) → Pieces qs s n l → Every (Belongs path) (map (λ x. variable path x) xs ++ l)
  all_belong xs qs s n l h = every_join (Belongs path) (map (λ x. variable path x) xs) l (variables_belong xs) (pieces_belong qs s n l h)

module _ (p : ProgramTree) (lists : List (List Flow)) (node : NodeTree) where
  pieces_owned : (qs : List EquationTree) (s n : ℕ) (l : List Occurrence) → ((j : ℕ) (q : EquationTree) → slice_get qs j ≡ Some q → slice_get node.equations (n + j) ≡ Some q) → Pieces p lists node [] qs s n l → map (owner node) l ≡ inner_owners p lists node qs s
  pieces_owned [] s n l there h = ap (map (owner node)) h
  pieces_owned (q ∷ qs) s n l there h =
      let z : n + 0 ≡ n = omega arith in
      let e : slice_get node.equations n ≡ Some q = ap (slice_get node.equations) (sym z) ∙ there 0 q refl in
      let v = first_left node (Some q) in
      let s' = s + length (walk_right p lists node q s).inner in
      let each = every_imp (Mine [] n) (λ x. owner node x ≡ v) h.0 (λ x m. owned node x n m ∙ ap (first_left node) e) h.4 in
      let rest = pieces_owned qs s' (suc n) h.1 (λ j q e. let y : suc n + j ≡ n + suc j = omega arith in ap (slice_get node.equations) y ∙ there (suc j) q e) h.5 in
      ap (map (owner node)) h.2
      ∙ map_joined (owner node) h.0 h.1
      ∙ ap (λ l. l ++ map (owner node) h.1) (all_owned (owner node) v h.0 each ∙ ap (λ k. replicate k v) h.3)
      ∙ ap (λ l. replicate (length (walk_right p lists node q s).inner) v ++ l) rest

  variables_owned : (xs : List (List ℕ)) → map (owner node) (map (λ x. variable [] x) xs) ≡ map (owner_of node node.equations) xs
  variables_owned [] = refl
  variables_owned (x ∷ xs) = ap (λ l. owner_of node node.equations x ∷ l) (variables_owned xs)

  main_owned : (l : List Occurrence) → Pieces p lists node [] node.equations (variable_count p lists node) 0 l → map (owner node) (map (λ x. variable [] x) (variables_of node) ++ l) ≡ node_owners p lists node
  main_owned l h =
      map_joined (owner node) (map (λ x. variable [] x) (variables_of node)) l
      ∙ ap (λ k. k ++ map (owner node) l) (variables_owned (variables_of node))
      ∙ ap (λ k. map (owner_of node node.equations) (variables_of node) ++ k) (pieces_owned node.equations (variable_count p lists node) 0 l (λ j q e. let y : 0 + j ≡ j = omega arith in ap (slice_get node.equations) y ∙ e) h)

  -- the owners of a main node's occurrences are those of its list
  pub all_owners : (path : Path) (l : List Occurrence) → path ≡ [] → Pieces p lists node path node.equations (variable_count p lists node) 0 l → map (owner node) (map (λ x. variable path x) (variables_of node) ++ l) ≡ node_owners p lists node
  all_owners path l e h =
      subst (λ path. Pieces p lists node path node.equations (variable_count p lists node) 0 l → map (owner node) (map (λ x. variable path x) (variables_of node) ++ l) ≡ node_owners p lists node) (sym e) (main_owned l) h
