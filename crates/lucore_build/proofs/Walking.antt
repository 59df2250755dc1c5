-- Walks put one behind the other.
use Rattle.std.proofs.Common.{◌≡◌, ℕ, ◌+◌, List, [], ◌∷◌, ◌++◌, length, refl, sym, ap, ◌∙◌, arith, append_assoc}
use Rattle.std.proofs.lemmas.List.{append-nil, length-append}
use Rattle.luflow.specs.declared.form.Flow.{Flow}
use Rattle.lucore_laws.specs.Layout.{Root, Walking, leaf, after, made, place as place_in, behind, root_flows, root_place}
use Rattle.lucore_laws.specs.Layout.Root.{own}
use Rattle.lucore_build.specs.Walks.{IsWalked}

-- an operand and all that it made, with its place
pub record IsMade (walking : Walking) (old new : List Flow) (x : ℕ) : Type 0 where
  pub flows : new ≡ old ++ made (walking (length old))
  pub place : x ≡ place_in (length old) (walking (length old))

pub settled_is : (w : Walking) (old mid new : List Flow) (r : Root) (x : ℕ) → IsWalked w old mid r → new ≡ mid ++ root_flows r → x ≡ root_place (length mid) r → IsMade w old new x
settled_is w old mid new r x walked more here =
    let s = length old in
    record {
      flows = more ∙ ap (λ m. m ++ root_flows r) walked.flows ∙ append_assoc old (w s).inner (root_flows r) ∙ ap (λ r. old ++ ((w s).inner ++ root_flows r)) walked.root;
      place = here ∙ ap (λ m. root_place (length m) r) walked.flows ∙ ap (λ n. root_place n r) (length-append old (w s).inner) ∙ ap (λ r. root_place (s + length (w s).inner) r) walked.root;
    }

pub after_is : (w : Walking) (rest : ℕ → Walking) (old mid new : List Flow) (x : ℕ) (r : Root) → IsMade w old mid x → IsWalked (rest x) mid new r → IsWalked (after w rest) old new r
after_is w rest old mid new x r m walked =
    let s = length old in
    let long : length mid ≡ behind s (w s) = ap length m.flows ∙ length-append old (made (w s)) in
    let same : rest x (length mid) ≡ rest (place_in s (w s)) (behind s (w s)) = ap (λ y. rest y (length mid)) m.place ∙ ap (λ n. rest (place_in s (w s)) n) long in
    record {
      flows = walked.flows ∙ ap (λ v. mid ++ v.inner) same ∙ ap (λ l. l ++ (rest (place_in s (w s)) (behind s (w s))).inner) m.flows ∙ append_assoc old (made (w s)) (rest (place_in s (w s)) (behind s (w s))).inner;
      root = walked.root ∙ ap (λ v. v.root) same;
    }

pub leaf_is : (f g : Flow) (old : List Flow) → g ≡ f → IsWalked (leaf f) old old (own g)
leaf_is f g old e = record { flows = sym (append-nil old); root = ap own e }

pub leaf_made : (f : Flow) (old : List Flow) → IsMade (leaf f) old (old ++ f ∷ []) (length old)
leaf_made f old = record { flows = refl; place = omega arith }
