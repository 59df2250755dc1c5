-- How the scripts come from a plan: flows in order of rank, where they stand, and the links between sites.
use Rattle.std.specs.Prelude.{◌≡◌, ◌≢◌, ℕ, zero, suc, ◌+◌, ◌-◌, ◌<◌, ◌≤◌, Bool, true, false, cond, ◌&&◌, List}
use Rattle.std.specs.Prelude.{[], ◌∷◌, ◌++◌, map, length, nat_eq, nat_lt, nat_le, count_by, filter, flat_map}
use Rattle.std.specs.Prelude.{sum_by}
use Rattle.std.specs.List.{range_with_len, list_any}
use Rattle.luworld.specs.Systems.{Item, Compute, Puts, Takes, takes, System, ItemCounts, done, total_below}

-- What a run is about, without values: `stands` says at which sites a flow is computed, `home` is the one of
-- them that sends it; `present` and `broken` are a flow's clock and whether a fault has reached it, at an
-- instant.
pub record Outline : Type 0 where
  pub sites : ℕ
  pub capacity : ℕ
  pub instants : ℕ
  pub ranked : List ℕ
  pub stands : ℕ → ℕ → Bool
  pub home : ℕ → ℕ
  pub links : ℕ
  pub flow_of : ℕ → ℕ
  pub receiver : ℕ → ℕ
  pub present : ℕ → ℕ → Bool
  pub broken : ℕ → ℕ → Bool

pub record IsOutline (plan : Outline) : Type 0 where
  pub room : 1 ≤ plan.capacity
  pub stands_within : (flow site : ℕ) → plan.stands flow site ≡ true → site < plan.sites
  pub home_within : (flow : ℕ) → plan.home flow < plan.sites
  pub receiver_within : (link : ℕ) → plan.receiver link < plan.sites
  pub receiver_other : (link : ℕ) → link < plan.links → plan.receiver link ≢ plan.home (plan.flow_of link)
  pub ranked_once : (flow : ℕ) → count_by (nat_eq flow) plan.ranked ≤ 1
  pub linked_once : (link : ℕ) → link < plan.links → count_by (nat_eq (plan.flow_of link)) plan.ranked ≡ 1

-- a flow's links, in order of number, which is that of the receiving site
abbrev pub links_of : Outline → ℕ → List ℕ
links_of plan flow = filter (λ link. nat_eq (plan.flow_of link) flow) (range_with_len 0 plan.links)

-- what a site does for one message of a flow on each link: its home puts, a receiver takes
abbrev pub message_items : Outline → ℕ → ℕ → List Item
message_items plan site flow = cond (nat_eq (plan.home flow) site) (map Puts (links_of plan flow))
    (map Takes (filter (λ link. nat_eq (plan.receiver link) site) (links_of plan flow)))

abbrev pub compute_items : Outline → ℕ → ℕ → ℕ → List Item
compute_items plan site flow instant = cond (plan.stands flow site) (Compute flow instant ∷ []) []

-- what a site does for a flow at an instant at which it is present
abbrev pub flow_items : Outline → ℕ → ℕ → ℕ → List Item
flow_items plan site flow instant = compute_items plan site flow instant ++ message_items plan site flow

-- a flow at an instant, or at the close: its items, and whether the site does them
pub record Cell : Type 0 where
  pub shown : Bool
  pub items : List Item

abbrev pub shown_items : Cell → List Item
shown_items cell = cond cell.shown cell.items []

abbrev pub cell_at : Outline → ℕ → ℕ → ℕ → Cell
cell_at plan site instant flow =
    record { shown = plan.present flow instant; items = flow_items plan site flow instant }

abbrev pub close_cell : Outline → ℕ → ℕ → Cell
close_cell plan site flow = record { shown = true; items = message_items plan site flow }

-- instants in order, in each the flows in order of rank; then the closes in order of rank
abbrev pub cells : Outline → ℕ → List Cell
cells plan site = flat_map (λ instant. map (cell_at plan site instant) plan.ranked)
    (range_with_len 0 plan.instants) ++ map (close_cell plan site) plan.ranked

-- the script as it were without a fault
abbrev pub full_script : Outline → ℕ → List Item
full_script plan site = flat_map shown_items (cells plan site)

-- the same by instants, the close as one more
abbrev pub round_cell : Outline → ℕ → ℕ → ℕ → List Item
round_cell plan site instant flow = cond (nat_lt instant plan.instants)
    (shown_items (cell_at plan site instant flow)) (message_items plan site flow)

abbrev pub round : Outline → ℕ → ℕ → List Item
round plan site instant = flat_map (round_cell plan site instant) plan.ranked

-- at how many instants before one a flow is present
abbrev pub shows : Outline → ℕ → ℕ → ℕ
shows plan flow zero = 0
shows plan flow (suc instant) = shows plan flow instant + cond (plan.present flow instant) 1 0

-- how many messages a flow's links carry, from an instant on: its present values before its first broken
-- instant, and the close where there is none
abbrev pub messages_from : Outline → ℕ → ℕ → ℕ → ℕ
messages_from plan flow instant zero = 1
messages_from plan flow instant (suc n) =
    cond (plan.broken flow instant) 0 (cond (plan.present flow instant) 1 0 + messages_from plan flow
    (instant + 1) n)

abbrev pub list_length : Outline → ℕ → ℕ
list_length plan link = messages_from plan (plan.flow_of link) 0 plan.instants

-- whether a script stops after an item: a computation of a broken flow, or a take of a message that never
-- comes
abbrev pub stops : Outline → List Item → Item → Bool
stops plan before (Compute flow instant) = plan.broken flow instant
stops plan before (Puts link) = false
stops plan before (Takes link) = nat_le (list_length plan link) (count_by (takes link) before)

abbrev pub cut : Outline → List Item → List Item → List Item
cut plan before [] = []
cut plan before (item ∷ items) =
    item ∷ cond (stops plan before item) [] (cut plan (before ++ item ∷ []) items)

abbrev pub script : Outline → ℕ → List Item
script plan site = cut plan [] (full_script plan site)

abbrev pub system : Outline → System
system plan = record {
  sites = plan.sites;
  script = script plan;
  sender = λ link. plan.home (plan.flow_of link);
  receiver = plan.receiver;
  capacity = plan.capacity;
}

abbrev pub NoFault : Outline → Type 0
NoFault plan = (flow instant : ℕ) → plan.broken flow instant ≡ false

-- What happens to a flow, over all sites at once: it is computed at its sites, or a message of it passes over
-- a link.
pub data Event : Type 0 where
  Computed : (flow instant : ℕ) → Event
  Passed : (link : ℕ) → Event

-- a site's part in an event
abbrev pub part : Outline → ℕ → Event → List Item
part plan site (Computed flow instant) = compute_items plan site flow instant
part plan site (Passed link) = cond (nat_eq (plan.home (plan.flow_of link)) site) (Puts link ∷ [])
    (cond (nat_eq (plan.receiver link) site) (Takes link ∷ []) [])

abbrev pub message_events : Outline → ℕ → List Event
message_events plan flow = map Passed (links_of plan flow)

abbrev pub events_at : Outline → ℕ → ℕ → List Event
events_at plan instant flow =
    cond (plan.present flow instant) (Computed flow instant ∷ message_events plan flow) []

-- all events of a run without a fault, one flow after the other
abbrev pub events : Outline → List Event
events plan = flat_map (λ instant. flat_map (events_at plan instant) plan.ranked)
    (range_with_len 0 plan.instants) ++ flat_map (message_events plan) plan.ranked

-- how many items the cells have, all of them shown
abbrev pub size : List Cell → ℕ
size cs = sum_by (λ cell. length cell.items) cs

-- the items left after n done ones, if every flow not yet passed were present
abbrev pub left_in : List Cell → ℕ → ℕ
left_in [] n = 0
left_in (cell ∷ cs) n = cond (cell.shown) (cond (nat_lt n (length cell.items))
    ((length cell.items - n) + size cs) (left_in cs (n - length cell.items))) (left_in cs n)

abbrev pub is_break : Outline → Item → Bool
is_break plan (Compute flow instant) = plan.broken flow instant
is_break plan (Puts link) = false
is_break plan (Takes link) = false

-- whether a site that has done n items has done its whole script, which holds a computation that broke
abbrev pub faulted_after : Outline → ℕ → ℕ → Bool
faulted_after plan site n = nat_eq n (length (script plan site)) && list_any (is_break plan)
    (script plan site)

-- the items left of a site that has done n
abbrev pub left_after : Outline → ℕ → ℕ → ℕ
left_after plan site n = cond (faulted_after plan site n) 0 (left_in (cells plan site) n)

abbrev pub has_faulted : Outline → ItemCounts → ℕ → Bool
has_faulted plan world site = faulted_after plan site (done world site)

abbrev pub left_at : Outline → ItemCounts → ℕ → ℕ
left_at plan world site = left_after plan site (done world site)

abbrev pub left : Outline → ItemCounts → ℕ
left plan world = total_below (left_at plan world) plan.sites

-- at how many sites a flow stands
abbrev pub stand_count : Outline → ℕ → ℕ
stand_count plan flow = total_below (λ site. cond (plan.stands flow site) 1 0) plan.sites

-- the present statuses of all flows, each once for each site at which its flow stands
abbrev pub status_count : Outline → ℕ
status_count plan = sum_by (λ instant. sum_by (λ flow. cond (plan.present flow instant)
    (stand_count plan flow) 0) plan.ranked) (range_with_len 0 plan.instants)

-- no item of a script stops it
abbrev pub NoStop : Outline → List Item → List Item → Type 0
NoStop plan before [] = Unit {0}
NoStop plan before (item ∷ items) = (stops plan before item ≡ false) × NoStop plan (before ++ item ∷ []) items

-- a site has ended where it has done its whole script, which holds neither a computation that broke nor a
-- take that can't come
pub record HasEnded (plan : Outline) (world : ItemCounts) (site : ℕ) : Type 0 where
  pub whole : done world site ≡ length (script plan site)
  pub no_stop : NoStop plan [] (script plan site)
