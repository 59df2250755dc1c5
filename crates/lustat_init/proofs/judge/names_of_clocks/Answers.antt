use Rattle.std.proofs.Common.{◌≡◌, ◌∙◌, ◌++◌, ◌∷◌, [], List, ℕ, refl, sym, ap}
use Rattle.std.specs.Prelude.{Vec}
use Rattle.std.specs.Borrow.{Bor}
use Rattle.std.specs.Global.{Global}
use Rattle.std.specs.Option.{option_copied, option_to_list}
use Rattle.std.proofs.lemmas.List.{append-nil, map-append}
use Rattle.lutree.specs.declared.program.Declaration.{Declaration}
use Rattle.lustat_rules.specs.Lent.{lent_view}
use Rattle.lustat_init.specs.Judged.{spelled, clock_names_of, clock_names}
use Rattle.lustat_init.proofs.Pushed.{pushed_more, pushed_all}
use Rattle.lustat_init.proofs.judge.names_of_clocks.Goals as goal
use Rattle.lustat_init.proofs.judge.names_of_clocks.Goals.{in-Some+in_ok-push, in_default}

pub loop-d-preserved : goal.loop-d-preserved
loop-d-preserved c =
    let old = c.loop-d.names.items in
    let named : spelled c.match-clock_name.names.items ≡ spelled old ++ clock_names_of c.d-item.result.now.clock = elim c.match-clock_name.branch [
      | in-Some+in_ok-push w ↦
          ap (λ (v : Vec (Bor (List ℕ)) Global). spelled v.items) w.names-is ∙ ap spelled w.in_ok-push.ensures.items ∙ map-append (λ (x : Bor (List ℕ)). x.now) old (w.in-Some.x ∷ [])
          ∙ ap (λ xs. spelled old ++ xs) (sym (ap (λ o. option_to_list (option_copied o)) w.in-Some.is) ∙ c.clock_name.ensures)
      | in_default w ↦
          ap (λ (v : Vec (Bor (List ℕ)) Global). spelled v.items) w.names-is ∙ sym (append-nil (spelled old))
          ∙ ap (λ xs. spelled old ++ xs) (sym (ap (λ o. option_to_list (option_copied o)) w.in_default.is) ∙ c.clock_name.ensures)
    ] in
    pushed_more (λ (d : Bor Declaration). clock_names_of d.now.clock) (λ (ds : List (Bor Declaration)). clock_names (lent_view ds)) (λ _ _. refl) c.args.declarations.now c.loop-d.d-index c.d-item.result
    (spelled old) (spelled c.match-clock_name.names.items) _ c.loop-d-test.true c.d-item.is named c.loop-d.invariant

pub returns : goal.returns
returns c =
    pushed_all (λ (ds : List (Bor Declaration)). clock_names (lent_view ds)) refl c.args.declarations.now c.loop-d.d-index _ _ c.loop-d-test.false c.loop-d.invariant
