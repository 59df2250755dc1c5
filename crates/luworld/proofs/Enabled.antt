-- The least site whose turn moves, and the numbers of messages.
use Rattle.std.proofs.Common.{◌≡◌, ◌≢◌, ◌⊎◌, ℕ, zero, suc, ◌<◌, List, length, Option, Some, None, MatchOption, refl, sym, ap, ◌∙◌, subst, arith, inl, inr, ⊎_elim}
use Rattle.std.proofs.lemmas.Bool.{cases_lt}
use Rattle.luworld.specs.Systems.{Puts, Takes, puts, takes, System, IsWired, ItemCounts, done, turn, NoTurnMoves, enabled_below, or_next, reached, IsAllDone}
use Rattle.luworld.specs.declared.turn.Turn.{Turn}
use Rattle.luworld.specs.declared.turn.Turn.TheVariants.{Moved, Blocked, Over}
use Rattle.luworld.specs.Laws.{NumbersAre}
use Rattle.luworld.specs.Outline.{Outline, IsOutline, NoFault, system, script}
use Rattle.luworld.proofs.Counts.{nth, count_after}
use Rattle.luworld.proofs.Steps.{puts_true, takes_true, puts_self, takes_self, moved_item, site_within}
use Rattle.luworld.proofs.Jobs.{good_reached}
use Rattle.luworld.proofs.Ends.{reachable_done}
use Rattle.luworld.specs.Reach.{IsGood}
use Rattle.luworld.proofs.Wired.{wired}
use Rattle.luworld.proofs.Whole.{all_reached}

module _ (sys : System) (world : ItemCounts) where
  abbrev NoneBelow : ℕ → Type 0
  NoneBelow n = (site : ℕ) → site < n → turn sys world site ≢ Moved

  abbrev Least : ℕ → Type 0
  Least site = (turn sys world site ≡ Moved) × NoneBelow site

  more_none : (n : ℕ) → NoneBelow n → turn sys world n ≢ Moved → NoneBelow (suc n)
  more_none n none here site lt =
      ⊎_elim (none site) (λ ge. let e : n ≡ site = omega (arith, ge, lt) in subst (λ (s : ℕ). turn sys world s ≢ Moved) e here) (cases_lt site n)

  pub enabled_is : (n : ℕ) → MatchOption (enabled_below sys world n) (NoneBelow n) Least
  enabled_is zero = λ site lt. absurd (omega (arith, lt))
  enabled_is (suc n) = go (enabled_below sys world n) (turn sys world n) refl (enabled_is n)
    where
      stay : (t : Turn) → turn sys world n ≡ t → t ≢ Moved → NoneBelow n → NoneBelow (suc n)
      stay t e ne none = more_none n none (λ m. ne (sym e ∙ m))

      go : (o : Option ℕ) (t : Turn) → turn sys world n ≡ t → MatchOption o (NoneBelow n) Least → MatchOption (or_next o t n) (NoneBelow (suc n)) Least
      go (Some site) t e least = least
      go None Moved e none = (e, none)
      go None Blocked e none = stay Blocked e (λ m. cc) none
      go None Over e none = stay Over e (λ m. cc) none

  -- the same over all sites
  pub enabled_of : IsWired sys → MatchOption (enabled_below sys world sys.sites) (NoTurnMoves sys world) Least
  enabled_of wired = go (enabled_below sys world sys.sites) (enabled_is sys.sites)
    where
      go : (o : Option ℕ) → MatchOption o (NoneBelow sys.sites) Least → MatchOption o (NoTurnMoves sys world) Least
      go (Some site) least = least
      go None none = λ site e. let m = moved_item sys world site e in none site (site_within sys wired site (done world site) m.0 m.1) e

  pub numbers_are : (link : ℕ) → NumbersAre sys world link
  numbers_are link = record {
    each_put = λ number lt.
        let r = nth (puts link) (sys.script (sys.sender link)) (done world (sys.sender link)) number lt in
        (r.0, r.2, r.3 ∙ ap Some (puts_true link r.1 r.4), r.5);
    puts_in_order = λ place later here lt. count_after (puts link) (sys.script (sys.sender link)) place later (Puts link) here (puts_self link) lt;
    each_take = λ number lt.
        let r = nth (takes link) (sys.script (sys.receiver link)) (done world (sys.receiver link)) number lt in
        (r.0, r.2, r.3 ∙ ap Some (takes_true link r.1 r.4), r.5);
    takes_in_order = λ place later here lt. count_after (takes link) (sys.script (sys.receiver link)) place later (Takes link) here (takes_self link) lt;
  }

module _ (plan : Outline) (ok : IsOutline plan) (fine : NoFault plan) (world : ItemCounts) (good : IsGood (system plan) world) where
  -- where no turn moves, all is done
  pub quiet_done : NoTurnMoves (system plan) world → IsAllDone (system plan) world
  quiet_done quiet site =
      let inside = good.inside site in
      ⊎_elim
      (λ lt. absurd (let l = reachable_done (system plan) (wired plan ok) world quiet site (done world site) (all_reached plan ok fine site (done world site) lt) in omega (arith, l)))
      (λ ge. omega (arith, ge, inside))
      (cases_lt (done world site) (length (script plan site)))

  pub never_stuck_at : IsAllDone (system plan) world ⊎ ((site : ℕ) × (turn (system plan) world site ≡ Moved))
  never_stuck_at = go (enabled_below (system plan) world plan.sites) (enabled_of (system plan) world (wired plan ok))
    where
      go : (o : Option ℕ) → MatchOption o (NoTurnMoves (system plan) world) (Least (system plan) world) → IsAllDone (system plan) world ⊎ ((site : ℕ) × (turn (system plan) world site ≡ Moved))
      go None quiet = inl (quiet_done quiet)
      go (Some site) least = inr (site, least.0)

pub never_stuck : (plan : Outline) → IsOutline plan → NoFault plan → (schedule : List ℕ) → IsAllDone (system plan) (reached (system plan) schedule) ⊎ ((site : ℕ) × (turn (system plan) (reached (system plan) schedule) site ≡ Moved))
never_stuck plan ok fine schedule = never_stuck_at plan ok fine (reached (system plan) schedule) (good_reached (system plan) (wired plan ok) schedule)
