-- Whether a site's turn would move, by what it offers.
use Rattle.std.proofs.Common.{◌≡◌, ◌≢◌, ◌↔◌, ℕ, ◌<◌, inl, inr, Bool, true, false, List, length, Some, sym, ap, ◌∙◌, arith}
use Rattle.std.specs.Prelude.{slice_get}
use Rattle.std.proofs.lemmas.Bool.{cases_lt, false≢true}
use Rattle.std.proofs.lemmas.List.{length-map}
use Rattle.luworld.specs.declared.turn.Turn.{Turn}
use Rattle.luworld.specs.declared.turn.Turn.TheVariants.{Moved, Blocked, Over}
use Rattle.luworld.specs.Systems.{Compute, Puts, Takes, turn, NoTurnMoves}
use Rattle.luworld.specs.Jobs.{JobView, streams_of, script, system_of, NoFault}
use Rattle.luworld.specs.WorldViews.{WorldView, AllEnded}
use Rattle.luworld.proofs.Outlines.{bool_cases}
use Rattle.luflow.specs.declared.message.Msg.{Msg}
use Rattle.luflow.proofs.Solutions.{some_at}
use Rattle.lusite.specs.declared.next.Next.TheVariants.{Local, Take, Put}
use Rattle.lusite.specs.Machine.{IsNext}
use Rattle.lusite.specs.Sites.{SiteView}
use Rattle.luweave.specs.declared.link_queue.LinkQueue.{LinkQueue}
use Rattle.luweave.specs.Worlds.{IsWorld, IsUnstuck, dones_of, room_in, some_in}
use Rattle.luweave.proofs.Worlds.{turn_over, moved_is, put_blocked, take_blocked, may_put, may_take, no_site}

-- a truth value says whether the turn of site s moves
abbrev pub SaysMoved : JobView → List ℕ → ℕ → Bool → Type 0
SaysMoved job dones s b = (b ≡ true) ↔ (turn (system_of job) dones s ≡ Moved)

blocked_moved : Blocked ≡ Moved → ⊥
blocked_moved e = cc

over_moved : Over ≡ Moved → ⊥
over_moved e = cc

says : (job : JobView) (dones : List ℕ) (s : ℕ) (b : Bool) (stays : Turn) → (stays ≡ Moved → ⊥) → (b ≡ true → turn (system_of job) dones s ≡ Moved) → (b ≡ false → turn (system_of job) dones s ≡ stays) → SaysMoved job dones s b
says job dones s b stays ne on off = (
  on,
  λ e. elim (bool_cases b) [
    | inl holds ↦ holds
    | inr fails ↦ absurd (ne (sym (off fails) ∙ e))
  ],
)

module _ (job : JobView) (sites : List SiteView) (link_queues : List LinkQueue) (capacity s : ℕ) (v : SiteView) (w : IsWorld job sites link_queues capacity) (at : slice_get sites s ≡ Some v) where
  pub local_says : IsNext job s v.done Local → SaysMoved job (dones_of sites) s true
  local_says x =
      says job (dones_of sites) s true Blocked blocked_moved
      (λ _. moved_is job sites link_queues capacity s v w at (Compute x.0 x.1) x.2 tt)
      (λ e. absurd (false≢true (sym e)))

  pub put_says : (l : ℕ) (m : Msg) → IsNext job s v.done (Put l m) → SaysMoved job (dones_of sites) s (room_in link_queues l capacity)
  put_says l m x =
      says job (dones_of sites) s (room_in link_queues l capacity) Blocked blocked_moved
      (λ e. moved_is job sites link_queues capacity s v w at (Puts l) x.0 (may_put job sites link_queues capacity s v w at l m x e))
      (λ e. put_blocked job sites link_queues capacity s v w at l m x e)

  pub take_says : (l : ℕ) → IsNext job s v.done (Take l) → SaysMoved job (dones_of sites) s (some_in link_queues l)
  take_says l x =
      says job (dones_of sites) s (some_in link_queues l) Blocked blocked_moved
      (λ e. moved_is job sites link_queues capacity s v w at (Takes l) x.0 (may_take job sites link_queues capacity s v w at l x e))
      (λ e. take_blocked job sites link_queues capacity s v w at l x e)

  pub over_says : v.done ≡ length (script job (streams_of job) s) → SaysMoved job (dones_of sites) s false
  over_says x =
      says job (dones_of sites) s false Over over_moved
      (λ e. absurd (false≢true e))
      (λ _. turn_over job sites link_queues capacity s v w at x)

-- where no turn moves and no flow breaks, all sites have ended
pub quiet_ended : (job : JobView) (dones : List ℕ) → IsUnstuck job dones → NoTurnMoves (system_of job) dones → NoFault job → AllEnded job dones
quiet_ended job dones unstuck quiet fine = elim (unstuck fine) [ inl all ↦ all | inr moves ↦ absurd (quiet moves.0 moves.1) ]

-- the sites of a world as its view counts them
pub site_within : (job : JobView) (sites : List SiteView) (x : WorldView) (s : ℕ) → record { job = job; dones = dones_of sites } ≡ x → s < length x.dones → s < length sites
site_within job sites x s view lt =
    let n = ap (λ (y : WorldView). length y.dones) view in
    let m = length-map sites (λ (v : SiteView). v.done) in
    omega (arith, n, m, lt)

-- where no turn of a site moves, no turn moves
pub quiet_all : (job : JobView) (sites : List SiteView) (link_queues : List LinkQueue) (capacity : ℕ) → IsWorld job sites link_queues capacity → ((r : ℕ) → r < length sites → turn (system_of job) (dones_of sites) r ≢ Moved) → NoTurnMoves (system_of job) (dones_of sites)
quiet_all job sites link_queues capacity w quiet r moves = elim (cases_lt r (length sites)) [
  | inl lt ↦ quiet r lt moves
  | inr ge ↦ over_moved (sym (no_site job sites link_queues capacity w r ge) ∙ moves)
]

-- the number of a site is its place
pub number_is : (job : JobView) (sites : List SiteView) (link_queues : List LinkQueue) (capacity s n : ℕ) → IsWorld job sites link_queues capacity → s < length sites → ((v : SiteView) → slice_get sites s ≡ Some v → n ≡ v.site) → n ≡ s
number_is job sites link_queues capacity s n w lt h = let v = some_at sites s lt in h v.0 v.1 ∙ (w.sites_are s v.0 v.1).1
