use Rattle.std.proofs.Common.{◌≡◌, ◌++◌, ◌∷◌, [], List, Some, map, take, sym, ap, ◌∙◌, append_assoc}
use Rattle.std.specs.Prelude.{slice_get}
use Rattle.std.proofs.lemmas.List.{append-nil}
use Rattle.std.proofs.lemmas.Option.{slice_get-get_or}
use Rattle.lutree.specs.declared.expr.Expr.{Expr}
use Rattle.lusyn_grammar.specs.declared.token.Fixed.TheVariants as f
use Rattle.lusyn_grammar.specs.Tokens.{Tok, identifier, fixed, tok}
use Rattle.luinside.specs.Signs.{begun, branch_signs}
use Rattle.luinside.proofs.Signing.{branches_among, then_pushes, slice_past}
use Rattle.luinside.proofs.signs.push_to_branch.Goals as goal

pub returns-in-Some : goal.returns-in-Some
returns-in-Some c =
    let ps = c.args.patterns.now in
    let n = c.args.number in
    let p = c.in-Some.pattern.now in
    let H = fixed f.Merge ∷ identifier c.args.x.now ∷ [] in
    let M = branches_among ps (take n c.args.branches.now) in
    let found = c.in-Some.ensures.lookup in
    let here : slice_get ps n ≡ Some p = slice_get-get_or ps n p found.3.0 ∙ ap Some (sym found.1) in
    let two : map tok c.push_branches.new.signs.items ≡ map tok c.args.signs.now.items ++ (H ++ M) =
    c.in_ok-push_branches.ensures ∙ ap (λ es. map tok c.push_named.new.signs.items ++ branches_among ps es) c.front_of.ensures ∙ ap (λ (t : List Tok). t ++ M) c.in_ok-push_named.ensures ∙ append_assoc (map tok c.args.signs.now.items) H M in
    then_pushes c.push_pattern.result c.args.signs.now.items c.push_branches.new.signs.items c.push_pattern.new.signs.items (H ++ M) (branch_signs p) (H ++ (M ++ begun (slice_get ps n))) two
    (append_assoc H M (branch_signs p) ∙ ap (λ o. H ++ (M ++ begun o)) (sym here)) c.push_pattern.ensures

pub returns-in-None : goal.returns-in-None
returns-in-None c =
    let ps = c.args.patterns.now in
    let n = c.args.number in
    let old = map tok c.args.signs.now.items in
    let H = fixed f.Merge ∷ identifier c.args.x.now ∷ [] in
    let M = branches_among ps (take n c.args.branches.now) in
    let two : map tok c.push_branches.new.signs.items ≡ old ++ (H ++ M) =
    c.in_ok-push_branches.ensures ∙ ap (λ es. map tok c.push_named.new.signs.items ++ branches_among ps es) c.front_of.ensures ∙ ap (λ (t : List Tok). t ++ M) c.in_ok-push_named.ensures ∙ append_assoc old H M in
    two ∙ ap (λ e. old ++ (H ++ e)) (sym (append-nil M) ∙ ap (λ o. M ++ begun o) (sym (slice_past ps n c.in-None.ensures.lookup.3)))
