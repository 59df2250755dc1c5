-- Sites that work through scripts and pass messages over bounded links, one turn of one site at a time.
-- Only how many items each site has done is kept: neither a value nor a queue.
use Rattle.std.specs.Prelude.{◌≡◌, ℕ, zero, suc, ◌+◌, ◌≤◌, Bool, true, false, List, [], ◌∷◌, length, get_or}
use Rattle.std.specs.Prelude.{take, set, replicate, nat_eq, nat_lt, slice_get, Option, Some, None, count_by}
use Rattle.luworld.specs.declared.turn.Turn.{Turn}
use Rattle.luworld.specs.declared.turn.Turn.TheVariants.{Moved, Blocked, Over}

-- what a site does next: a computation of a flow at an instant, or a put or a take of a link's next message
pub data Item : Type 0 where
  Compute : (flow instant : ℕ) → Item
  Puts : (link : ℕ) → Item
  Takes : (link : ℕ) → Item

abbrev pub puts : ℕ → Item → Bool
puts link (Compute flow instant) = false
puts link (Puts other) = nat_eq other link
puts link (Takes other) = false

abbrev pub takes : ℕ → Item → Bool
takes link (Compute flow instant) = false
takes link (Puts other) = false
takes link (Takes other) = nat_eq other link

-- the scripts, and the ends of each link; every link has one capacity
pub record System : Type 0 where
  pub sites : ℕ
  pub script : ℕ → List Item
  pub sender : ℕ → ℕ
  pub receiver : ℕ → ℕ
  pub capacity : ℕ

-- each link is put by its sender and taken by its receiver, and there are no sites beyond the count
pub record IsWired (sys : System) : Type 0 where
  pub put_by_sender : (site place link : ℕ) → slice_get (sys.script site) place ≡ Some (Puts link)
      → site ≡ sys.sender link
  pub taken_by_receiver : (site place link : ℕ) → slice_get (sys.script site) place ≡ Some (Takes link)
      → site ≡ sys.receiver link
  pub no_more_sites : (site : ℕ) → sys.sites ≤ site → sys.script site ≡ []

-- how many puts (takes) of a link are before a place of a site's script: the number of the message put
-- (taken) there
abbrev pub puts_before : System → ℕ → ℕ → ℕ → ℕ
puts_before sys link site place = count_by (puts link) (take place (sys.script site))

abbrev pub takes_before : System → ℕ → ℕ → ℕ → ℕ
takes_before sys link site place = count_by (takes link) (take place (sys.script site))

-- a world: how many items of its script each site has done
abbrev pub ItemCounts : Type 0
ItemCounts = List ℕ

abbrev pub done : ItemCounts → ℕ → ℕ
done world site = get_or world site 0

abbrev pub new_world : System → ItemCounts
new_world sys = replicate sys.sites 0

-- how many messages of a link were put, and how many taken
abbrev pub put_count : System → ItemCounts → ℕ → ℕ
put_count sys world link = puts_before sys link (sys.sender link) (done world (sys.sender link))

abbrev pub taken_count : System → ItemCounts → ℕ → ℕ
taken_count sys world link = takes_before sys link (sys.receiver link) (done world (sys.receiver link))

abbrev pub moved_if : Bool → Turn
moved_if true = Moved
moved_if false = Blocked

-- what a turn answers, by the site's next item
abbrev pub turn_at : System → ItemCounts → Option Item → Turn
turn_at sys world None = Over
turn_at sys world (Some (Compute flow instant)) = Moved
turn_at sys world (Some (Puts link)) =
    moved_if (nat_lt (put_count sys world link) (taken_count sys world link + sys.capacity))
turn_at sys world (Some (Takes link)) =
    moved_if (nat_lt (taken_count sys world link) (put_count sys world link))

abbrev pub next_item : System → ItemCounts → ℕ → Option Item
next_item sys world site = slice_get (sys.script site) (done world site)

abbrev pub turn : System → ItemCounts → ℕ → Turn
turn sys world site = turn_at sys world (next_item sys world site)

abbrev pub world_after : Turn → ItemCounts → ℕ → ItemCounts
world_after Moved world site = set world site (suc (done world site))
world_after Blocked world site = world
world_after Over world site = world

-- the world after one turn, and after a schedule
abbrev pub step : System → ItemCounts → ℕ → ItemCounts
step sys world site = world_after (turn sys world site) world site

abbrev pub run : System → ItemCounts → List ℕ → ItemCounts
run sys world [] = world
run sys world (site ∷ sites) = run sys (step sys world site) sites

abbrev pub moves_of : Turn → ℕ
moves_of Moved = 1
moves_of Blocked = 0
moves_of Over = 0

-- how many turns of a schedule move
abbrev pub moves : System → ItemCounts → List ℕ → ℕ
moves sys world [] = 0
moves sys world (site ∷ sites) = moves_of (turn sys world site) + moves sys (step sys world site) sites

-- the world that a schedule makes of a new one
abbrev pub reached : System → List ℕ → ItemCounts
reached sys schedule = run sys (new_world sys) schedule

abbrev pub moved_turns : System → List ℕ → ℕ
moved_turns sys schedule = moves sys (new_world sys) schedule

abbrev pub NoTurnMoves : System → ItemCounts → Type 0
NoTurnMoves sys world = (site : ℕ) → turn sys world site ≡ Moved → ⊥

abbrev pub total_below : (ℕ → ℕ) → ℕ → ℕ
total_below f zero = 0
total_below f (suc n) = total_below f n + f n

-- the number of all items of all scripts
abbrev pub item_count : System → ℕ
item_count sys = total_below (λ site. length (sys.script site)) sys.sites

abbrev pub IsAllDone : System → ItemCounts → Type 0
IsAllDone sys world = (site : ℕ) → done world site ≡ length (sys.script site)

abbrev pub or_next : Option ℕ → Turn → ℕ → Option ℕ
or_next (Some site) answer next = Some site
or_next None Moved next = Some next
or_next None Blocked next = None
or_next None Over next = None

-- the least site below a number whose turn would move
abbrev pub enabled_below : System → ItemCounts → ℕ → Option ℕ
enabled_below sys world zero = None
enabled_below sys world (suc n) = or_next (enabled_below sys world n) (turn sys world n) n
