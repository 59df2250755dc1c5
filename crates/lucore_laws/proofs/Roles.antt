-- The roles of the main variables, by their places.
use Rattle.std.proofs.Common.{◌≡◌, ℕ, zero, suc, Bool, ◌+◌, ◌-◌, ◌<◌, ◌≤◌, ◌⊎◌, inl, inr, ⊎_elim, List, [], ◌∷◌, ◌++◌, length, map, filter, Some, refl, sym, ap, ap₂, ◌∙◌, arith, append-nil}
use Rattle.std.specs.Prelude.{slice_get, option_map}
use Rattle.std.proofs.lemmas.Bool.{cases_lt}
use Rattle.std.proofs.lemmas.List.{length-map}
use Rattle.std.proofs.lemmas.List.Elements.{filter-append}
use Rattle.std.proofs.lemmas.Option.{slice_get-map, same_Some}
use Rattle.lutree.specs.Tree.{DeclarationTree, NodeTree}
use Rattle.luflow.specs.declared.variable.Variable.{Variable}
use Rattle.luflow.specs.declared.variable.Role.{Role}
use Rattle.luflow.specs.declared.variable.Role.TheVariants as role
use Rattle.luflow.specs.Variables.{is_input, inputs_of}
use Rattle.lustat_rules.specs.Scope.{declarations_of}
use Rattle.lucore_laws.specs.Layout.{variables_as, main_variables}
use Rattle.lucore_laws.proofs.Names.{get-front, get-behind, mapped_some}
use Rattle.lucore_laws.proofs.Types.{declared}

abbrev pub variable_of : Role → DeclarationTree → Variable
variable_of r d = record { name = d.name; role = r; kind = d.kind }

role_of : (r : Role) (ds : List DeclarationTree) (v : ℕ) (x : Variable) → slice_get (variables_as r ds) v ≡ Some x → r ≡ x.role
role_of r ds v x e =
    let d = mapped_some (variable_of r) (slice_get ds v) x (sym (slice_get-map (variable_of r) ds v) ∙ e) in
    ap (λ (x : Variable). x.role) d.2

module _ (node : NodeTree) where
  abbrev IsAnInput : ℕ → Role → Type 0
  IsAnInput v r = (v < length node.inputs) × (role.Input ≡ r)

  abbrev IsAnOutput : ℕ → Role → Type 0
  IsAnOutput v r = (j : ℕ) × (j < length node.outputs) × (v ≡ length node.inputs + j) × (role.Output ≡ r)

  -- inputs stand first, and outputs behind them
  role_at : (v : ℕ) (x : Variable) → slice_get (main_variables node) v ≡ Some x → IsAnInput v x.role ⊎ (IsAnOutput v x.role ⊎ (role.Local ≡ x.role))
  role_at v x e =
      let is = variables_as role.Input node.inputs in
      let os = variables_as role.Output node.outputs in
      let ls = variables_as role.Local node.locals in
      let li : length is ≡ length node.inputs = length-map node.inputs (variable_of role.Input) in
      let lo : length os ≡ length node.outputs = length-map node.outputs (variable_of role.Output) in
      let j = v - length is in
      let i = j - length os in
      ⊎_elim
      (λ (lt : v < length is). inl (omega arith, role_of role.Input node.inputs v x (sym (get-front is (os ++ ls) v lt) ∙ e)))
      (λ (ge : length is ≤ v).
      let z : v ≡ length is + j = omega arith in
      let later : slice_get (os ++ ls) j ≡ Some x = sym (get-behind is (os ++ ls) (length is) j refl) ∙ ap (slice_get (main_variables node)) (sym z) ∙ e in
      inr (⊎_elim
      (λ (lt : j < length os). inl (j, omega arith, omega arith, role_of role.Output node.outputs j x (sym (get-front os ls j lt) ∙ later)))
      (λ (ge : length os ≤ j).
      let y : j ≡ length os + i = omega arith in
      inr (role_of role.Local node.locals i x (sym (get-behind os ls (length os) i refl) ∙ ap (slice_get (os ++ ls)) (sym y) ∙ later)))
      (cases_lt j (length os))))
      (cases_lt v (length is))

  pub input_at : (v : ℕ) (x : Variable) → slice_get (main_variables node) v ≡ Some x → x.role ≡ role.Input → v < length node.inputs
  input_at v x e is = go (role_at v x e)
    where
      go : IsAnInput v x.role ⊎ (IsAnOutput v x.role ⊎ (role.Local ≡ x.role)) → v < length node.inputs
      go (inl h) = h.0
      go (inr (inl h)) = let no : role.Output ≡ role.Input = h.3 ∙ is in cc
      go (inr (inr h)) = let no : role.Local ≡ role.Input = h ∙ is in cc

  pub output_at : (v : ℕ) (x : Variable) → slice_get (main_variables node) v ≡ Some x → x.role ≡ role.Output → (j : ℕ) × (j < length node.outputs) × (v ≡ length node.inputs + j)
  output_at v x e is = go (role_at v x e)
    where
      go : IsAnInput v x.role ⊎ (IsAnOutput v x.role ⊎ (role.Local ≡ x.role)) → (j : ℕ) × (j < length node.outputs) × (v ≡ length node.inputs + j)
      go (inl h) = let no : role.Input ≡ role.Output = h.1 ∙ is in cc
      go (inr (inl h)) = (h.0, h.1, h.2)
      go (inr (inr h)) = let no : role.Local ≡ role.Output = h ∙ is in cc

  -- the main variable of an input
  pub input_variable : (r : ℕ) → r < length node.inputs → (x : Variable) × (slice_get (main_variables node) r ≡ Some x) × (x.role ≡ role.Input)
  input_variable r lt =
      let is = variables_as role.Input node.inputs in
      let d = declared node.inputs r lt in
      let l : length is ≡ length node.inputs = length-map node.inputs (variable_of role.Input) in (
        variable_of role.Input d.0,
        get-front is (variables_as role.Output node.outputs ++ variables_as role.Local node.locals) r (omega arith)
            ∙ slice_get-map (variable_of role.Input) node.inputs r
            ∙ ap (option_map (variable_of role.Input)) d.1,
        refl,
      )

  -- the variable of an input
  pub declared_at : (v : ℕ) (lt : v < length node.inputs) → slice_get (main_variables node) v ≡ Some (variable_of role.Input (declared node.inputs v lt).0)
  declared_at v lt =
      let is = variables_as role.Input node.inputs in
      let rest = variables_as role.Output node.outputs ++ variables_as role.Local node.locals in
      let long : length is ≡ length node.inputs = length-map node.inputs (variable_of role.Input) in
      get-front is rest v (omega arith) ∙ slice_get-map (variable_of role.Input) node.inputs v ∙ ap (option_map (variable_of role.Input)) (declared node.inputs v lt).1

-- of variables of one role all are inputs, or none
all_inputs : (ds : List DeclarationTree) → inputs_of (variables_as role.Input ds) ≡ variables_as role.Input ds
all_inputs [] = refl
all_inputs (d ∷ ds) = ap (λ xs. variable_of role.Input d ∷ xs) (all_inputs ds)

no_outputs : (ds : List DeclarationTree) → inputs_of (variables_as role.Output ds) ≡ []
no_outputs [] = refl
no_outputs (d ∷ ds) = no_outputs ds

no_locals : (ds : List DeclarationTree) → inputs_of (variables_as role.Local ds) ≡ []
no_locals [] = refl
no_locals (d ∷ ds) = no_locals ds

-- the inputs are those of the node, and stand first
pub inputs_are : (node : NodeTree) → inputs_of (main_variables node) ≡ variables_as role.Input node.inputs
inputs_are node =
    let p : Variable → Bool = λ x. is_input x.role in
    let os = variables_as role.Output node.outputs in
    let ls = variables_as role.Local node.locals in
    filter-append p (variables_as role.Input node.inputs) (os ++ ls)
    ∙ ap₂ (λ xs ys. xs ++ ys) (all_inputs node.inputs) (filter-append p os ls ∙ ap₂ (λ xs ys. xs ++ ys) (no_outputs node.outputs) (no_locals node.locals))
    ∙ append-nil (variables_as role.Input node.inputs)

-- the declaration of a main variable
abbrev pub IsDeclaredAt : List DeclarationTree → ℕ → Variable → Type 0
IsDeclaredAt ds v x = (d : DeclarationTree) × (slice_get ds v ≡ Some d) × (d.kind ≡ x.kind) × (d.name ≡ x.name)

declared_is : (r : Role) (d : DeclarationTree) (ds : List DeclarationTree) (x : Variable) → slice_get (variable_of r d ∷ []) 0 ≡ Some x → IsDeclaredAt (d ∷ ds) 0 x
declared_is r d ds x e =
    let same = same_Some (variable_of r d) x e in
    (d, refl, ap (λ (x : Variable). x.kind) same, ap (λ (x : Variable). x.name) same)

declared_as : (r : Role) (ds : List DeclarationTree) (vs : List Variable) (es : List DeclarationTree) → ((v : ℕ) (x : Variable) → slice_get vs v ≡ Some x → IsDeclaredAt es v x)
    → (v : ℕ) (x : Variable) → slice_get (variables_as r ds ++ vs) v ≡ Some x → IsDeclaredAt (ds ++ es) v x
declared_as r [] vs es h v x e = h v x e
declared_as r (d ∷ ds) vs es h zero x e = declared_is r d (ds ++ es) x e
declared_as r (d ∷ ds) vs es h (suc v) x e = declared_as r ds vs es h v x e

declared_last : (r : Role) (ds : List DeclarationTree) (v : ℕ) (x : Variable) → slice_get (variables_as r ds) v ≡ Some x → IsDeclaredAt ds v x
declared_last r [] v x e = cc
declared_last r (d ∷ ds) zero x e = declared_is r d ds x e
declared_last r (d ∷ ds) (suc v) x e = declared_last r ds v x e

pub main_declared : (n : NodeTree) (v : ℕ) (x : Variable) → slice_get (main_variables n) v ≡ Some x → IsDeclaredAt (declarations_of n) v x
main_declared n =
    declared_as role.Input n.inputs (variables_as role.Output n.outputs ++ variables_as role.Local n.locals) (n.outputs ++ n.locals)
    (declared_as role.Output n.outputs (variables_as role.Local n.locals) n.locals (declared_last role.Local n.locals))
