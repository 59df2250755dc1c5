-- Words, one behind the other.
use Rattle.std.proofs.Common.{◌≡◌, ◌∙◌, ◌<◌, ◌≤◌, ◌+◌, ◌++◌, ◌∷◌, [], ℕ, zero, suc, List, take, drop, map, length, get_or, Option, Some, None, refl, sym, ap, arith, append_assoc, subst}
use Rattle.std.specs.Prelude.{slice_get, flat_map}
use Rattle.std.proofs.lemmas.Option.{same_Some}
use Rattle.lutree.specs.Tree.{EquationTree, NodeTree, ProgramTree}
use Rattle.luflow.specs.declared.variable.Enum.{Enum}
use Rattle.luflow.specs.declared.variable.Variable.{Variable}
use Rattle.luflow.specs.Program.{InputsView}
use Rattle.lustat_rules.specs.Scope.{node_called}
use Rattle.lustat_rules.specs.Naming.{Call, calls_in}
use Rattle.lusource.specs.Names.{name_at}
use Rattle.lusource.specs.Instances.{called_in}
use Rattle.luinside.specs.Calls.{names_called, calls_of, IsCallAt}
use Rattle.luinside.specs.declared.texts.TextCall.{TextCall}
use Rattle.luinside.specs.Words.{call_text, texts_from, equation_texts, texts_in, path_text, inputs_from, input_text}

-- THE CALL OF A NUMBER

pub name_at_some : (names : List (List ℕ)) (k : ℕ) (x : List ℕ) → slice_get names k ≡ Some x → name_at names k ≡ x
name_at_some [] k x e = cc
name_at_some (y ∷ names) zero x e = same_Some y x e
name_at_some (y ∷ names) (suc k) x e = name_at_some names k x e

-- behind some names
behind : (xs ys : List (List ℕ)) (k : ℕ) → name_at (xs ++ ys) (length xs + k) ≡ name_at ys k
behind [] ys k =
    let z : 0 + k ≡ k = omega arith in
    ap (name_at ys) z
behind (x ∷ xs) ys k =
    let z : length (x ∷ xs) + k ≡ suc (length xs + k) = omega arith in
    ap (name_at (x ∷ (xs ++ ys))) z ∙ behind xs ys k

-- among the names at the front
among : (xs ys : List (List ℕ)) (k : ℕ) → k < length xs → name_at (xs ++ ys) k ≡ name_at xs k
among [] ys k lt = absurd (omega (arith, lt))
among (x ∷ xs) ys zero lt = refl
among (x ∷ xs) ys (suc k) lt = among xs ys k (omega (arith, lt))

length_texts : (v : List ℕ) (n : ℕ) (fs : List (List ℕ)) → length (texts_from v n fs) ≡ length fs
length_texts v n [] = refl
length_texts v n (f ∷ fs) = ap suc (length_texts v (suc n) fs)

text_at : (v : List ℕ) (n : ℕ) (fs : List (List ℕ)) (k : ℕ) (f : List ℕ) → slice_get fs k ≡ Some f → name_at (texts_from v n fs) k ≡ call_text v (n + k) f
text_at v n [] k f e = cc
text_at v n (g ∷ fs) zero f e =
    let z : n ≡ n + 0 = omega arith in
    ap (call_text v n) (same_Some g f e) ∙ ap (λ m. call_text v m f) z
text_at v n (g ∷ fs) (suc k) f e =
    let z : suc n + k ≡ n + suc k = omega arith in
    text_at v (suc n) fs k f e ∙ ap (λ m. call_text v m f) z

there : {A : Type 0} (xs : List A) (k : ℕ) (x : A) → slice_get xs k ≡ Some x → k < length xs
there [] k x e = cc
there (y ∷ xs) zero x e = omega arith
there (y ∷ xs) (suc k) x e = let l = there xs k x e in omega (arith, l)

length_map : {A B : Type 0} (f : A → B) (xs : List A) → length (map f xs) ≡ length xs
length_map f [] = refl
length_map f (x ∷ xs) = ap suc (length_map f xs)

length_append : {A : Type 0} (xs ys : List A) → length (xs ++ ys) ≡ length xs + length ys
length_append [] ys = omega arith
length_append (x ∷ xs) ys = let h = length_append xs ys in omega (arith, h)

count_texts : (q : EquationTree) → length (equation_texts q) ≡ length (calls_in q.right)
count_texts q = length_texts (name_at q.left 0) 1 (names_called (calls_in q.right)) ∙ length_map (λ (c : Call). c.node) (calls_in q.right)

text_among : (qs : List EquationTree) (e : ℕ) (q : EquationTree) (k : ℕ) (f : List ℕ) → slice_get qs e ≡ Some q → slice_get (names_called (calls_in q.right)) k ≡ Some f
    → name_at (flat_map equation_texts qs) (length (calls_of (take e qs)) + k) ≡ call_text (name_at q.left 0) (1 + k) f
text_among [] e q k f at called = cc
text_among (p ∷ qs) zero q k f at called =
    let same = same_Some p q at in
    let none : 0 + k ≡ k = omega arith in
    let named = text_at (name_at q.left 0) 1 (names_called (calls_in q.right)) k f called in
    let lt : k < length (equation_texts q) = let l = there (names_called (calls_in q.right)) k f called in let n = length_texts (name_at q.left 0) 1 (names_called (calls_in q.right)) in omega (arith, l, n) in
    ap (name_at (equation_texts p ++ flat_map equation_texts qs)) none ∙ ap (λ p. name_at (equation_texts p ++ flat_map equation_texts qs) k) same ∙ among (equation_texts q) (flat_map equation_texts qs) k lt ∙ named
text_among (p ∷ qs) (suc e) q k f at called =
    let rest = length (calls_of (take e qs)) in
    let count = length_append (calls_in p.right) (calls_of (take e qs)) in
    let same = count_texts p in
    let z : length (calls_in p.right ++ calls_of (take e qs)) + k ≡ length (equation_texts p) + (rest + k) = omega (arith, count, same) in
    ap (name_at (equation_texts p ++ flat_map equation_texts qs)) z ∙ behind (equation_texts p) (flat_map equation_texts qs) (rest + k) ∙ text_among qs e q k f at called

-- the call that was found
pub text_of_call : (node : NodeTree) (number : ℕ) (call : TextCall) (q : EquationTree) → IsCallAt node number call → slice_get node.equations call.equation ≡ Some q
    → name_at (texts_in (Some node)) number ≡ call_text (name_at q.left 0) (call.number + 1) call.name.now
text_of_call node number call q h at =
    let same = same_Some h.equation q (sym h.is_equation ∙ at) in
    let called = subst (λ (x : EquationTree). slice_get (names_called (calls_in x.right)) call.number ≡ Some call.name.now) same h.called in
    let z : 1 + call.number ≡ call.number + 1 = omega arith in
    ap (name_at (flat_map equation_texts node.equations)) h.before ∙ text_among node.equations call.equation q call.number call.name.now at called ∙ ap (λ n. call_text (name_at q.left 0) n call.name.now) z

-- ALONG A PATH

pub drop_here : {A : Type 0} (xs : List A) (i : ℕ) (x d : A) → i < length xs → x ≡ get_or xs i d → drop i xs ≡ x ∷ drop (i + 1) xs
drop_here [] i x d lt is = absurd (omega (arith, lt))
drop_here (y ∷ xs) zero x d lt is = ap (λ z. z ∷ xs) (sym is)
drop_here (y ∷ xs) (suc i) x d lt is =
    let z : suc (i + 1) ≡ suc i + 1 = omega arith in
    drop_here xs i x d (omega (arith, lt)) is ∙ ap (λ n. x ∷ drop n (y ∷ xs)) z

pub drop_all : {A : Type 0} (xs : List A) (i : ℕ) → length xs ≤ i → drop i xs ≡ []
drop_all [] zero le = refl
drop_all [] (suc i) le = refl
drop_all (x ∷ xs) zero le = absurd (omega (arith, le))
drop_all (x ∷ xs) (suc i) le = drop_all xs i (omega (arith, le))

-- one call further
pub path_kept : (p : ProgramTree) (f g : List ℕ) (path : List ℕ) (i n : ℕ) (text longer whole : List ℕ) (node : NodeTree) → i < length path → n ≡ get_or path i n → node_called p f ≡ Some node
    → g ≡ name_at (called_in (Some node)) n → longer ≡ name_at (texts_in (Some node)) n ++ text → path_text p f (drop i path) text ≡ whole → path_text p g (drop (i + 1) path) longer ≡ whole
path_kept p f g path i n text longer whole node lt is found called told before =
    let rest = drop (i + 1) path in
    let step : path_text p f (drop i path) text ≡ path_text p (name_at (called_in (Some node)) n) rest (name_at (texts_in (Some node)) n ++ text) =
    ap (λ ks. path_text p f ks text) (drop_here path i n n lt is) ∙ ap (λ o. path_text p (name_at (called_in o) n) rest (name_at (texts_in o) n ++ text)) found in
    ap (λ f. path_text p f rest longer) called ∙ ap (path_text p (name_at (called_in (Some node)) n) rest) told ∙ sym step ∙ before

-- INPUTS

pub inputs_kept : (types : List Enum) (inputs : InputsView) (t c : ℕ) (xs : List Variable) (x : Variable) (one two whole : List ℕ) → c < length xs → x ≡ get_or xs c x
    → one ++ inputs_from types inputs t c (drop c xs) ≡ whole → two ≡ one ++ input_text types inputs t c x → two ++ inputs_from types inputs t (c + 1) (drop (c + 1) xs) ≡ whole
inputs_kept types inputs t c xs x one two whole lt is before now =
    let rest = drop (c + 1) xs in
    let z : suc c ≡ c + 1 = omega arith in
    let step : inputs_from types inputs t c (drop c xs) ≡ input_text types inputs t c x ++ inputs_from types inputs t (c + 1) rest =
    ap (inputs_from types inputs t c) (drop_here xs c x x lt is) ∙ ap (λ n. input_text types inputs t c x ++ inputs_from types inputs t n rest) z in
    ap (λ l. l ++ inputs_from types inputs t (c + 1) rest) now ∙ append_assoc one (input_text types inputs t c x) (inputs_from types inputs t (c + 1) rest) ∙ ap (λ l. one ++ l) (sym step) ∙ before
