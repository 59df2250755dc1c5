-- Where no turn moves, the done items are the reachable ones.
use Rattle.std.proofs.Common.{◌≡◌, ℕ, ◌+◌, ◌<◌, ◌≤◌, slice_get, Some, sym, ◌∙◌, subst, arith, ext_get_or, ⊎_elim}
use Rattle.std.proofs.lemmas.Bool.{cases_lt}
use Rattle.luworld.specs.Systems.{Item, Compute, Puts, Takes, puts, takes, System, IsWired, puts_before, takes_before, ItemCounts, done, NoTurnMoves}
use Rattle.luworld.specs.Reach.{IsReachable, reach_compute, reach_early_put, reach_late_put, reach_take}
use Rattle.luworld.proofs.Counts.{count_after}
use Rattle.luworld.proofs.Steps.{puts_self, takes_self, MayGo, moved_item, moves_item}
use Rattle.luworld.proofs.Jobs.{takes_there, puts_there, reach_next}
use Rattle.luworld.specs.Reach.{IsGood}

module _ (sys : System) (wired : IsWired sys) (world : ItemCounts) (quiet : NoTurnMoves sys world) where
  -- a place with all before it done is done, where its item may go
  passed : (site place : ℕ) (item : Item) → slice_get (sys.script site) place ≡ Some item → ((before : ℕ) → before < place → before < done world site) → (place ≡ done world site → MayGo sys world item) → place < done world site
  passed site place item here before may =
      ⊎_elim
      (λ lt. lt)
      (λ ge. ⊎_elim
      (λ lt. absurd (let l : done world site < done world site = before (done world site) lt in omega (arith, l)))
      (λ le. let e : place ≡ done world site = omega (arith, ge, le) in
      absurd (quiet site (moves_item sys world site item (subst (λ (n : ℕ). slice_get (sys.script site) n ≡ Some item) e here) (may e))))
      (cases_lt (done world site) place))
      (cases_lt place (done world site))

  pub reachable_done : (site place : ℕ) → IsReachable sys site place → place < done world site
  reachable_done site place (reach_compute flow instant here before) =
      passed site place (Compute flow instant) here (λ b lt. reachable_done site b (before b lt)) (λ e. tt)
  reachable_done site place (reach_early_put link here early before) =
      passed site place (Puts link) here (λ b lt. reachable_done site b (before b lt))
      (λ e. let p = puts_there sys wired world link site (wired.put_by_sender site place link here) in
      let n : puts_before sys link site place < sys.capacity = early in
      let m : puts_before sys link site (done world site) < sys.capacity = subst (λ (n : ℕ). puts_before sys link site n < sys.capacity) e n in
      omega (arith, p, m))
  reachable_done site place (reach_late_put link here earlier there number taken before) =
      passed site place (Puts link) here (λ b lt. reachable_done site b (before b lt))
      (λ e. let p = puts_there sys wired world link site (wired.put_by_sender site place link here) in
      let n : takes_before sys link (sys.receiver link) earlier + sys.capacity ≡ puts_before sys link site (done world site) = subst (λ (n : ℕ). takes_before sys link (sys.receiver link) earlier + sys.capacity ≡ puts_before sys link site n) e number in
      let t = count_after (takes link) (sys.script (sys.receiver link)) earlier (done world (sys.receiver link)) (Takes link) there (takes_self link) (reachable_done (sys.receiver link) earlier taken) in
      omega (arith, p, n, t))
  reachable_done site place (reach_take link here earlier there number put before) =
      passed site place (Takes link) here (λ b lt. reachable_done site b (before b lt))
      (λ e. let p = takes_there sys wired world link site (wired.taken_by_receiver site place link here) in
      let n : puts_before sys link (sys.sender link) earlier ≡ takes_before sys link site (done world site) = subst (λ (n : ℕ). puts_before sys link (sys.sender link) earlier ≡ takes_before sys link site n) e number in
      let t = count_after (puts link) (sys.script (sys.sender link)) earlier (done world (sys.sender link)) (Puts link) there (puts_self link) (reachable_done (sys.sender link) earlier put) in
      omega (arith, p, n, t))

module _ (sys : System) (wired : IsWired sys) where
  -- a world that has done all reachable items can't move
  pub none_moves : (world : ItemCounts) → IsGood sys world → ((site place : ℕ) → IsReachable sys site place → place < done world site) → NoTurnMoves sys world
  none_moves world good all site e =
      let m = moved_item sys world site e in
      let lt : done world site < done world site = all site (done world site) (reach_next sys wired world good site m.0 m.1 m.2) in
      omega (arith, lt)

  no_less : (one other : ItemCounts) → IsGood sys one → NoTurnMoves sys other → (site : ℕ) → done one site ≤ done other site
  no_less one other good quiet site =
      ⊎_elim
      (λ lt. let l : done other site < done other site = reachable_done sys wired other quiet site (done other site) (good.reachable site (done other site) lt) in absurd (omega (arith, l)))
      (λ le. le)
      (cases_lt (done other site) (done one site))

  pub same_end : (one other : ItemCounts) → IsGood sys one → IsGood sys other → NoTurnMoves sys one → NoTurnMoves sys other → one ≡ other
  same_end one other good good' quiet quiet' =
      ext_get_or 0 one other (good.long ∙ sym good'.long)
      (λ site _. omega (arith, no_less one other good quiet' site, no_less other one good' quiet site))
