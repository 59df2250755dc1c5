-- What holds form by form holds of all names after `current`.
use Rattle.std.proofs.Common.{ℕ, List, [], ◌++◌, All, Contains}
use Rattle.std.proofs.lemmas.List.Elements.{All-nil, All-cons, All-head, All-append, All-contains, All-weaker, All-contains_itself, Contains-append_left, Contains-append_right}
use Rattle.lutree.specs.Tree.{Tree, Trees}
use Rattle.lutree.specs.Tree as tree
use Rattle.lustat_rules.specs.Classes.{currents_in, currents_in_all}
use Rattle.lustat_init.specs.Currents.{EachCurrent, EachCurrentOfAll}

all_left : {X : Type 0} (P : X → Type 0) (xs ys : List X) → All P (xs ++ ys) → All P xs
all_left P xs ys all = All-weaker (Contains xs) P (λ x h. All-contains P (xs ++ ys) x all (Contains-append_left xs ys x h)) xs (All-contains_itself xs)

all_right : {X : Type 0} (P : X → Type 0) (xs ys : List X) → All P (xs ++ ys) → All P ys
all_right P xs ys all = All-weaker (Contains ys) P (λ x h. All-contains P (xs ++ ys) x all (Contains-append_right xs ys x h)) ys (All-contains_itself ys)

mutual
  pub currents_listed : (P : List ℕ → Type 0) (e : Tree) → EachCurrent P e → All P (currents_in e)
  currents_listed P (tree.number n) h = All-nil P
  currents_listed P (tree.truth b) h = All-nil P
  currents_listed P (tree.label l) h = All-nil P
  currents_listed P (tree.variable x) h = All-nil P
  currents_listed P (tree.unary op a) h = currents_listed P a h
  currents_listed P (tree.binary op a b) h = All-append P (currents_in a) (currents_in b) (currents_listed P a h.0) (currents_listed P b h.1)
  currents_listed P (tree.choice c a b) h =
      All-append P (currents_in c) (currents_in a ++ currents_in b) (currents_listed P c h.0) (All-append P (currents_in a) (currents_in b) (currents_listed P a h.1) (currents_listed P b h.2))
  currents_listed P (tree.when a c) h = currents_listed P a h
  currents_listed P (tree.current x) h = All-cons P x [] h (All-nil P)
  currents_listed P (tree.merge c ps all) h = currents_of_all_listed P all h
  currents_listed P (tree.call f all) h = currents_of_all_listed P all h

  pub currents_of_all_listed : (P : List ℕ → Type 0) (es : Trees) → EachCurrentOfAll P es → All P (currents_in_all es)
  currents_of_all_listed P tree.none h = All-nil P
  currents_of_all_listed P (tree.more a es) h = All-append P (currents_in a) (currents_in_all es) (currents_listed P a h.0) (currents_of_all_listed P es h.1)

mutual
  pub currents_each : (P : List ℕ → Type 0) (e : Tree) → All P (currents_in e) → EachCurrent P e
  currents_each P (tree.number n) h = tt
  currents_each P (tree.truth b) h = tt
  currents_each P (tree.label l) h = tt
  currents_each P (tree.variable x) h = tt
  currents_each P (tree.unary op a) h = currents_each P a h
  currents_each P (tree.binary op a b) h = (currents_each P a (all_left P (currents_in a) (currents_in b) h), currents_each P b (all_right P (currents_in a) (currents_in b) h))
  currents_each P (tree.choice c a b) h =
      let rest = all_right P (currents_in c) (currents_in a ++ currents_in b) h in
      (currents_each P c (all_left P (currents_in c) (currents_in a ++ currents_in b) h), currents_each P a (all_left P (currents_in a) (currents_in b) rest), currents_each P b (all_right P (currents_in a) (currents_in b) rest))
  currents_each P (tree.when a c) h = currents_each P a h
  currents_each P (tree.current x) h = All-head P x [] h
  currents_each P (tree.merge c ps all) h = currents_of_all_each P all h
  currents_each P (tree.call f all) h = currents_of_all_each P all h

  pub currents_of_all_each : (P : List ℕ → Type 0) (es : Trees) → All P (currents_in_all es) → EachCurrentOfAll P es
  currents_of_all_each P tree.none h = tt
  currents_of_all_each P (tree.more a es) h = (currents_each P a (all_left P (currents_in a) (currents_in_all es) h), currents_of_all_each P es (all_right P (currents_in a) (currents_in_all es) h))
