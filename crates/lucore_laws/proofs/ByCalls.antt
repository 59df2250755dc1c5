-- Induction along calls: what holds of a name wherever it holds of all names that its node calls, holds of every name.
use Rattle.std.proofs.Common.{◌≡◌, ℕ, zero, suc, ◌<◌, ◌≤◌, Bool, true, false, cond, List, [], ◌∷◌, length, map, Some, refl, sym, ap, ◌∙◌, subst, arith}
use Rattle.std.specs.Prelude.{slice_get, option_map, Contains}
use Rattle.std.specs.Str.{bytes_eq}
use Rattle.std.proofs.lemmas.Option.{slice_get-map}
use Rattle.std.proofs.lemmas.Slice.Eq.{bytes_eq-Decides}
use Rattle.lutree.specs.Tree.{NodeTree, ProgramTree}
use Rattle.lustat_rules.specs.Scope.{node_called}
use Rattle.lustat_rules.specs.Naming.{Calls, Reaches, IsNotRecursive}
use Rattle.lustat_rules.proofs.Calling as calling
use Rattle.lucore_laws.proofs.Names.{contains_get, node_name}

without : List ℕ → List (List ℕ) → List (List ℕ)
without f [] = []
without f (x ∷ xs) = cond (bytes_eq x f) (without f xs) (x ∷ without f xs)

contains_more : (y g : List ℕ) (xs : List (List ℕ)) → Contains xs g → Contains (y ∷ xs) g
contains_more y g xs c = (suc c.0, omega (arith, c.1), c.2)

in_step : (y g f : List ℕ) (ys : List (List ℕ)) (b : Bool) → bytes_eq y f ≡ b → y ≡ g → (¬ (g ≡ f)) → Contains (cond b ys (y ∷ ys)) g
in_step y g f ys true e same out = absurd (out (sym same ∙ (bytes_eq-Decides y f).0 e))
in_step y g f ys false e same out = (0, omega arith, same)

in_later : (y g : List ℕ) (ys : List (List ℕ)) (b : Bool) → Contains ys g → Contains (cond b ys (y ∷ ys)) g
in_later y g ys true c = c
in_later y g ys false c = contains_more y g ys c

in_without : (f g : List ℕ) (xs : List (List ℕ)) → (¬ (g ≡ f)) → Contains xs g → Contains (without f xs) g
unfolding without
in_without f g [] out c = absurd (omega (arith, c.1))
in_without f g (y ∷ xs) out (zero, lt, e) = in_step y g f (without f xs) (bytes_eq y f) refl e out
in_without f g (y ∷ xs) out (suc k, lt, e) = in_later y g (without f xs) (bytes_eq y f) (in_without f g xs out (k, omega (arith, lt), e))

le_step : (y : List ℕ) (ys xs : List (List ℕ)) (b : Bool) → length ys ≤ length xs → length (cond b ys (y ∷ ys)) ≤ suc (length xs)
le_step y ys xs true h = omega arith
le_step y ys xs false h = omega arith

not_longer : (f : List ℕ) (xs : List (List ℕ)) → length (without f xs) ≤ length xs
unfolding without
not_longer f [] = omega arith
not_longer f (y ∷ xs) = le_step y (without f xs) xs (bytes_eq y f) (not_longer f xs)

lt_step : (y f : List ℕ) (ys xs : List (List ℕ)) (b : Bool) → bytes_eq y f ≡ b → y ≡ f → length ys ≤ length xs → length (cond b ys (y ∷ ys)) < suc (length xs)
lt_step y f ys xs true e same h = omega arith
lt_step y f ys xs false e same h = let yes = (bytes_eq-Decides y f).1 same in let no : true ≡ false = sym yes ∙ e in cc

lt_later : (y : List ℕ) (ys xs : List (List ℕ)) (b : Bool) → length ys < length xs → length (cond b ys (y ∷ ys)) < suc (length xs)
lt_later y ys xs true h = omega arith
lt_later y ys xs false h = omega arith

shorter : (f : List ℕ) (xs : List (List ℕ)) → Contains xs f → length (without f xs) < length xs
unfolding without
shorter f [] c = absurd (omega (arith, c.1))
shorter f (y ∷ xs) (zero, lt, e) = lt_step y f (without f xs) xs (bytes_eq y f) refl e (not_longer f xs)
shorter f (y ∷ xs) (suc k, lt, e) = lt_later y (without f xs) xs (bytes_eq y f) (shorter f xs (k, omega (arith, lt), e))

before : (p : ProgramTree) (f g h : List ℕ) → Calls p f g → Reaches p g h → Reaches p f h
before p f g h call (Reaches.one _ _ next) = Reaches.more f g h (Reaches.one f g call) next
before p f g h call (Reaches.more _ m _ way next) = Reaches.more f m h (before p f g m call way) next

caller : (p : ProgramTree) (f g : List ℕ) → Reaches p f g → (n : NodeTree) × (node_called p f ≡ Some n)
caller p f g (Reaches.one _ _ (n, e, has)) = (n, e)
caller p f h (Reaches.more _ g _ way call) = caller p f g way

abbrev names : ProgramTree → List (List ℕ)
names p = map (λ (n : NodeTree). n.name) p.nodes

named : (p : ProgramTree) (f : List ℕ) (n : NodeTree) → node_called p f ≡ Some n → Contains (names p) f
named p f n e =
    let here = calling.place_of p f n e in
    let name = node_name p f n (e) in
    contains_get (names p) f here.place (slice_get-map (λ (n : NodeTree). n.name) p.nodes here.place ∙ ap (option_map (λ (n : NodeTree). n.name)) here.node ∙ ap Some name)

module _ (p : ProgramTree) (sound : (f : List ℕ) → ¬ Reaches p f f) (P : List ℕ → Type 0) (step : (f : List ℕ) → ((g : List ℕ) → Calls p f g → P g) → P f) where
  abbrev IsLeft : List (List ℕ) → List ℕ → Type 0
  IsLeft rem g = (n : NodeTree) → node_called p g ≡ Some n → Contains rem g

  go : (d : ℕ) (rem : List (List ℕ)) (f : List ℕ) → length rem ≤ d → IsLeft rem f → ((g : List ℕ) → Reaches p f g → IsLeft rem g) → P f
  go zero rem f le here there = step f (λ g call. let c = here call.0 call.1 in absurd (omega (arith, c.1)))
  go (suc d) rem f le here there =
      step f (λ g call.
      let c = here call.0 call.1 in
      let s = shorter f rem c in
      let one = Reaches.one f g call in
      go d (without f rem) g (omega arith)
      (λ n e. in_without f g rem (λ same. sound f (subst (Reaches p f) same one)) (there g one n e))
      (λ h way n e. let far = before p f g h call way in in_without f h rem (λ same. sound f (subst (Reaches p f) same far)) (there h far n e)))

  pub by_calls : (f : List ℕ) → P f
  by_calls f = go (length (names p)) (names p) f (omega arith) (λ n e. named p f n e) (λ g way n e. named p g n e)

-- where no node reaches itself, no name does
pub none_reaches : (p : ProgramTree) → ((i : ℕ) (n : NodeTree) → slice_get p.nodes i ≡ Some n → IsNotRecursive p n) → (f : List ℕ) → ¬ Reaches p f f
none_reaches p h f way =
    let n = caller p f f way in
    let here = calling.place_of p f n.0 n.1 in
    let name = node_name p f n.0 (n.1) in
    h here.place n.0 here.node (subst (λ g. Reaches p g g) (sym name) way)
