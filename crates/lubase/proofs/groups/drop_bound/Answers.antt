use Rattle.std.proofs.Common.{◌≡◌, ◌++◌, ◌∷◌, [], sym, subst, Contains}
use Rattle.std.proofs.lemmas.List.Elements.{Contains-push}
use Rattle.lubase.specs.Grouped.{IsRising}
use Rattle.lubase.proofs.Bounds.{not_there}
use Rattle.lubase.proofs.groups.drop_bound.Goals as goal

pub returns-in_ok-push-clause-none : goal.returns-in_ok-push-clause-none
returns-in_ok-push-clause-none c found =
    let rest = c.pop.new.self.items in
    let e : c.args.bounds.now.items ≡ rest ++ c.in-Some.last ∷ [] = c.in-Some.ensures.items in
    let last : Contains c.args.bounds.now.items c.in-Some.last = subst (λ xs. Contains xs c.in-Some.last) (sym e) (Contains-push rest c.in-Some.last) in
    not_there rest c.in-Some.last c.args.place (subst IsRising e c.requires.rising) c.if-last-place.false (c.requires.below c.in-Some.last last) (subst (λ xs. Contains xs c.args.place) e found)
