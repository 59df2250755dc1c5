use Rattle.std.proofs.Common.{Bool, true, false, ℕ, sym, subst}
use Rattle.lusite.specs.declared.next.Next.TheVariants.{Local, Take, Put, Ended, Faulted}
use Rattle.luworld.specs.WorldViews.{WorldView}
use Rattle.luweave.specs.Worlds.{dones_of}
use Rattle.luweave.proofs.Worlds.{offer, along, link_queue_order}
use Rattle.luweave.proofs.Moving.{SaysMoved, local_says, put_says, take_says, over_says, site_within}
use Rattle.luweave.proofs.world.World.would_move.Goals as goal

-- what a truth value says of a world's site
abbrev Says : Bool → ℕ → WorldView → Type 0
Says b s x = SaysMoved x.job x.dones s b

pub has_room-requires : goal.has_room-requires
has_room-requires c =
    let a = c.self.inside in
    record { lens = link_queue_order a.first.value.job a.sites.items a.link_queues.items a.capacity c.self.invariant c.in-Put.l }

pub returns-in-Local : goal.returns-in-Local
returns-in-Local c =
    let a = c.self.inside in
    let j = a.first.value.job in
    let o = offer j a.sites.items a.link_queues.items a.capacity c.args.s c.next_of.result (Local) c.self.invariant (site_within j a.sites.items c.args.self.now c.args.s c.self.view_is c.requires) c.next_of.ensures c.in-Local.is in
    along (Says true c.args.s) c.args.self.now (record { job = j; dones = dones_of a.sites.items }) c.self.view_is
    (local_says j a.sites.items a.link_queues.items a.capacity c.args.s o.site c.self.invariant o.there o.next)

pub returns-in-Put : goal.returns-in-Put
returns-in-Put c =
    let a = c.self.inside in
    let j = a.first.value.job in
    let o = offer j a.sites.items a.link_queues.items a.capacity c.args.s c.next_of.result (Put c.in-Put.l c.in-Put.field-1) c.self.invariant (site_within j a.sites.items c.args.self.now c.args.s c.self.view_is c.requires) c.next_of.ensures c.in-Put.is in
    along (Says c.has_room.result c.args.s) c.args.self.now (record { job = j; dones = dones_of a.sites.items }) c.self.view_is
    (subst (SaysMoved j (dones_of a.sites.items) c.args.s) (sym c.has_room.ensures) (put_says j a.sites.items a.link_queues.items a.capacity c.args.s o.site c.self.invariant o.there c.in-Put.l c.in-Put.field-1 o.next))

pub returns-in-Take : goal.returns-in-Take
returns-in-Take c =
    let a = c.self.inside in
    let j = a.first.value.job in
    let o = offer j a.sites.items a.link_queues.items a.capacity c.args.s c.next_of.result (Take c.in-Take.l) c.self.invariant (site_within j a.sites.items c.args.self.now c.args.s c.self.view_is c.requires) c.next_of.ensures c.in-Take.is in
    along (Says c.has_some.result c.args.s) c.args.self.now (record { job = j; dones = dones_of a.sites.items }) c.self.view_is
    (subst (SaysMoved j (dones_of a.sites.items) c.args.s) (sym c.has_some.ensures) (take_says j a.sites.items a.link_queues.items a.capacity c.args.s o.site c.self.invariant o.there c.in-Take.l o.next))

pub returns-in-Ended : goal.returns-in-Ended
returns-in-Ended c =
    let a = c.self.inside in
    let j = a.first.value.job in
    let o = offer j a.sites.items a.link_queues.items a.capacity c.args.s c.next_of.result (Ended) c.self.invariant (site_within j a.sites.items c.args.self.now c.args.s c.self.view_is c.requires) c.next_of.ensures c.in-Ended.is in
    along (Says false c.args.s) c.args.self.now (record { job = j; dones = dones_of a.sites.items }) c.self.view_is
    (over_says j a.sites.items a.link_queues.items a.capacity c.args.s o.site c.self.invariant o.there o.next.0)

pub returns-in-Faulted : goal.returns-in-Faulted
returns-in-Faulted c =
    let a = c.self.inside in
    let j = a.first.value.job in
    let o = offer j a.sites.items a.link_queues.items a.capacity c.args.s c.next_of.result (Faulted) c.self.invariant (site_within j a.sites.items c.args.self.now c.args.s c.self.view_is c.requires) c.next_of.ensures c.in-Faulted.is in
    along (Says false c.args.s) c.args.self.now (record { job = j; dones = dones_of a.sites.items }) c.self.view_is
    (over_says j a.sites.items a.link_queues.items a.capacity c.args.s o.site c.self.invariant o.there o.next.0)
