-- What a turn changes.
use Rattle.std.proofs.Common.{◌≡◌, ℕ, suc, ◌+◌, List, cond, Some, ap, ◌∙◌, ⊎_elim, get_or-set_other}
use Rattle.luworld.specs.Systems.{Item, System, IsWired, ItemCounts, done, turn, step, reached, next_item, put_count, taken_count, puts, takes}
use Rattle.luworld.specs.declared.turn.Turn.TheVariants.{Moved}
use Rattle.luworld.specs.Laws.{TurnIs}
use Rattle.luworld.proofs.Steps.{moved_item, step_stays, step_moved, cases_moved, done_same, put_exact, take_exact}
use Rattle.luworld.proofs.Jobs.{good_reached, good_step}
use Rattle.luworld.specs.Reach.{IsGood}

module _ (sys : System) (wired : IsWired sys) (world : ItemCounts) (good : IsGood sys world) (site : ℕ) where
  pub turn_of : TurnIs sys world site
  turn_of = record {
    moved = λ e.
        let m = moved_item sys world site e in
        (ap (λ (w : ItemCounts). done w site) (step_moved sys world site e) ∙ done_same sys wired world site m.0 m.1 good.long, (good_step sys wired world good site).inside site);
    others = λ other ne.
        ⊎_elim
        (λ e. ap (λ (w : ItemCounts). done w other) (step_moved sys world site e) ∙ get_or-set_other world site other (suc (done world site)) 0 ne)
        (λ stays. ap (λ (w : ItemCounts). done w other) (step_stays sys world site stays))
        (cases_moved sys world site);
    not_moved = step_stays sys world site;
  }

pub turn_is : (sys : System) → IsWired sys → (schedule : List ℕ) (site : ℕ) → TurnIs sys (reached sys schedule) site
turn_is sys wired schedule site = turn_of sys wired (reached sys schedule) (good_reached sys wired schedule) site

pub step_counts : (sys : System) → IsWired sys → (schedule : List ℕ) (site : ℕ) → turn sys (reached sys schedule) site ≡ Moved
    → (item : Item) × (next_item sys (reached sys schedule) site ≡ Some item)
    × ((link : ℕ) → (put_count sys (step sys (reached sys schedule) site) link ≡ put_count sys (reached sys schedule) link + cond (puts link item) 1 0)
    × (taken_count sys (step sys (reached sys schedule) site) link ≡ taken_count sys (reached sys schedule) link + cond (takes link item) 1 0))
step_counts sys wired schedule site e =
    let w = reached sys schedule in
    let m = moved_item sys w site e in
    let long = (good_reached sys wired schedule).long in (
      m.0,
      m.1,
      λ link. (
        ap (λ (v : ItemCounts). put_count sys v link) (step_moved sys w site e) ∙ put_exact sys wired w site m.0 m.1 long link,
        ap (λ (v : ItemCounts). taken_count sys v link) (step_moved sys w site e) ∙ take_exact sys wired w site m.0 m.1 long link,
      ),
    )
