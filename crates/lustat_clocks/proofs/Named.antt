-- What holds form by form holds of all calls of an expression.
use Rattle.std.proofs.Common.{ℕ, List, [], ◌∷◌, ◌++◌, length, All, Contains}
use Rattle.std.proofs.lemmas.List.Elements.{All-nil, All-cons, All-head, All-append, All-contains, All-weaker, All-contains_itself, Contains-append_left, Contains-append_right}
use Rattle.lutree.specs.Tree.{Tree, Trees, list_of}
use Rattle.lutree.specs.Tree as tree
use Rattle.lustat_rules.specs.Naming.{Call, calls_in, calls_in_all}
use Rattle.lustat_clocks.specs.Named.{EachCall, EachCallOfAll}

pub all_left : {X : Type 0} (P : X → Type 0) (xs ys : List X) → All P (xs ++ ys) → All P xs
all_left P xs ys all = All-weaker (Contains xs) P (λ x h. All-contains P (xs ++ ys) x all (Contains-append_left xs ys x h)) xs (All-contains_itself xs)

pub all_right : {X : Type 0} (P : X → Type 0) (xs ys : List X) → All P (xs ++ ys) → All P ys
all_right P xs ys all = All-weaker (Contains ys) P (λ x h. All-contains P (xs ++ ys) x all (Contains-append_right xs ys x h)) ys (All-contains_itself ys)

pub all_one : {X : Type 0} (P : X → Type 0) (x : X) → P x → All P (x ∷ [])
all_one P x h = All-cons P x [] h (All-nil P)

-- CALLS

abbrev call_of : List ℕ → Trees → Call
call_of f all = record { node = f; arguments = length (list_of all) }

abbrev pub Named : (List ℕ → Type 0) → Call → Type 0
Named P c = P c.node

mutual
  pub calls_listed : (P : List ℕ → Type 0) (e : Tree) → EachCall P e → All (Named P) (calls_in e)
  calls_listed P (tree.number n) h = All-nil (Named P)
  calls_listed P (tree.truth b) h = All-nil (Named P)
  calls_listed P (tree.label l) h = All-nil (Named P)
  calls_listed P (tree.variable x) h = All-nil (Named P)
  calls_listed P (tree.unary op a) h = calls_listed P a h
  calls_listed P (tree.binary op a b) h = All-append (Named P) (calls_in a) (calls_in b) (calls_listed P a h.0) (calls_listed P b h.1)
  calls_listed P (tree.choice c a b) h =
      All-append (Named P) (calls_in c) (calls_in a ++ calls_in b) (calls_listed P c h.0) (All-append (Named P) (calls_in a) (calls_in b) (calls_listed P a h.1) (calls_listed P b h.2))
  calls_listed P (tree.when a c) h = calls_listed P a h
  calls_listed P (tree.current x) h = All-nil (Named P)
  calls_listed P (tree.merge c ps all) h = calls_of_all_listed P all h
  calls_listed P (tree.call f all) h =
      let c : Call = call_of f all in
      All-append (Named P) (calls_in_all all) (c ∷ []) (calls_of_all_listed P all h.0) (all_one (Named P) c h.1)

  pub calls_of_all_listed : (P : List ℕ → Type 0) (es : Trees) → EachCallOfAll P es → All (Named P) (calls_in_all es)
  calls_of_all_listed P tree.none h = All-nil (Named P)
  calls_of_all_listed P (tree.more a es) h = All-append (Named P) (calls_in a) (calls_in_all es) (calls_listed P a h.0) (calls_of_all_listed P es h.1)

mutual
  pub calls_each : (P : List ℕ → Type 0) (e : Tree) → All (Named P) (calls_in e) → EachCall P e
  calls_each P (tree.number n) h = tt
  calls_each P (tree.truth b) h = tt
  calls_each P (tree.label l) h = tt
  calls_each P (tree.variable x) h = tt
  calls_each P (tree.unary op a) h = calls_each P a h
  calls_each P (tree.binary op a b) h = (calls_each P a (all_left (Named P) (calls_in a) (calls_in b) h), calls_each P b (all_right (Named P) (calls_in a) (calls_in b) h))
  calls_each P (tree.choice c a b) h =
      let rest = all_right (Named P) (calls_in c) (calls_in a ++ calls_in b) h in
      (calls_each P c (all_left (Named P) (calls_in c) (calls_in a ++ calls_in b) h), calls_each P a (all_left (Named P) (calls_in a) (calls_in b) rest), calls_each P b (all_right (Named P) (calls_in a) (calls_in b) rest))
  calls_each P (tree.when a c) h = calls_each P a h
  calls_each P (tree.current x) h = tt
  calls_each P (tree.merge c ps all) h = calls_of_all_each P all h
  calls_each P (tree.call f all) h =
      let c : Call = call_of f all in
      (calls_of_all_each P all (all_left (Named P) (calls_in_all all) (c ∷ []) h), All-head (Named P) c [] (all_right (Named P) (calls_in_all all) (c ∷ []) h))

  pub calls_of_all_each : (P : List ℕ → Type 0) (es : Trees) → All (Named P) (calls_in_all es) → EachCallOfAll P es
  calls_of_all_each P tree.none h = tt
  calls_of_all_each P (tree.more a es) h = (calls_each P a (all_left (Named P) (calls_in a) (calls_in_all es) h), calls_of_all_each P es (all_right (Named P) (calls_in a) (calls_in_all es) h))
