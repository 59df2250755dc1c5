-- A cycle of the flat list is one of the source.
use Rattle.std.proofs.Common.{◌≡◌, ℕ, zero, suc, ◌+◌, ◌<◌, true, List, [], ◌∷◌, ◌++◌, length, map, get_or, Option, Some, None, refl, sym, ap, ◌∙◌, subst, arith}
use Rattle.std.specs.Prelude.{slice_get, option_map, unwrap_or, Contains}
use Rattle.std.proofs.lemmas.Option.{slice_get-map, same_Some}
use Rattle.lutree.specs.Tree.{NodeTree, ProgramTree}
use Rattle.luflow.specs.declared.form.Clock.{Clock}
use Rattle.luflow.specs.declared.form.Clock.TheVariants.{Base, On}
use Rattle.luflow.specs.declared.form.Form.{Form}
use Rattle.luflow.specs.declared.form.Form.TheVariants.{Input, Constant, Copied, Unary, Binary, If, Pre, Arrow, When, Current, Merge}
use Rattle.luflow.specs.declared.form.Flow.{Flow}
use Rattle.luflow.specs.Program.{FlatView, reads, form_reads, clock_reads}
use Rattle.luflow.specs.Rank.{has, row, reads_of, Chain}
use Rattle.lusource.specs.Names.{variables_of, place_of}
use Rattle.lustat_rules.specs.Scope.{node_called}
use Rattle.lustat_rules.specs.Naming.{Calls, Reaches}
use Rattle.lustat_rules.specs.Accepted.{IsAccepted}
use Rattle.lucore_laws.specs.Layout.{node_owners, list_of, AreLists, IsLaidOut}
use Rattle.lucore_laws.specs.ListLaws.{DefineSomething}
use Rattle.lucore_laws.proofs.Names.{listed}
use Rattle.lucore_laws.proofs.Facts.{Below, NodeFacts, facts, never_round}
use Rattle.lucore_laws.proofs.ByCalls.{by_calls}
use Rattle.lucore_laws.proofs.Orders.{contains_from_has}
use Rattle.lucore_laws.specs.Reads.{Occurrence, Instance, Item, items_of, items_in_node, node_items, main_instance, IsInstance, Leads, if_there}
use Rattle.lucore_laws.specs.Reads.Occurrence.{variable}
use Rattle.lucore_laws.specs.Reads.Item.{reading, calling}
use Rattle.lucore_laws.specs.Owners.{owner, OwnerLaw}
use Rattle.lucore_laws.proofs.Owning.{Belongs}
use Rattle.lucore_laws.specs.CausalityLaws.{HasCycle, HasFlatCycle}
use Rattle.lucore_laws.proofs.Graph.{Every, every_of, every_get, Model, form_targets, clock_targets, targets, Solves}
use Rattle.lucore_laws.proofs.Makes.{Has}
use Rattle.lucore_laws.proofs.Expressions.{ItemHolds, Gives}
use Rattle.lucore_laws.proofs.Nodes.{node_gives}

mapped_in : {V : Type 0} (on : ℕ → V) (xs : List ℕ) (y : ℕ) → Contains xs y → Contains (map on xs) (on y)
mapped_in on [] y c = absurd (omega (arith, c.1))
mapped_in on (x ∷ xs) y (zero, lt, e) = (0, omega arith, ap on e)
mapped_in on (x ∷ xs) y (suc k, lt, e) = let c = mapped_in on xs y (k, omega (arith, lt), e) in (suc c.0, omega (arith, c.1), c.2)

-- the main node's list, read from vertices for its places
module _ {V : Type 0} (on : ℕ → V) where
  abbrev pub outer : Model V
  outer = record { on = on; given = λ r. []; base = [] }

  form_read : (f : Form) → form_targets outer f ≡ map on (form_reads f)
  form_read (Input r) = refl
  form_read (Constant d) = refl
  form_read (Copied a) = refl
  form_read (Unary op a) = refl
  form_read (Binary op a b) = refl
  form_read (If c a b) = refl
  form_read (Pre a) = refl
  form_read (Arrow a b) = refl
  form_read (When a) = refl
  form_read (Current a) = refl
  form_read (Merge c xs) = refl

  clock_read : (k : Clock) → clock_targets outer k ≡ map on (clock_reads k)
  clock_read Base = refl
  clock_read (On c d) = refl

  joined : (xs ys : List ℕ) → map on xs ++ map on ys ≡ map on (xs ++ ys)
  joined [] ys = refl
  joined (x ∷ xs) ys = ap (λ l. on x ∷ l) (joined xs ys)

  pub targets_read : (f : Flow) → targets outer f ≡ map on (reads f)
  targets_read f =
      ap (λ l. l ++ clock_targets outer f.clock) (form_read f.form) ∙ ap (λ l. map on (form_reads f.form) ++ l) (clock_read f.clock) ∙ joined (form_reads f.form) (clock_reads f.clock)

  module _ (G : V → V → Type 0) (flat : FlatView) (solves : Solves G outer flat.flows) where
    read_one : (o : Option Flow) (x y : ℕ) → slice_get flat.flows x ≡ o → has (unwrap_or (option_map reads o) []) y ≡ true → G (on x) (on y)
    read_one None x y e h = cc
    read_one (Some f) x y e h = every_get (G (on x)) (map on (reads f)) (on y) (subst (Every (G (on x))) (targets_read f) (solves x f e)) (mapped_in on (reads f) y (contains_from_has (reads f) y h))

    pub read_there : (x y : ℕ) → has (row (reads_of flat) x) y ≡ true → G (on x) (on y)
    read_there x y h = read_one (slice_get flat.flows x) x y refl (subst (λ o. has (unwrap_or o []) y ≡ true) (slice_get-map reads flat.flows x) h)

    pub chain_there : ((x y z : V) → G x y → G y z → G x z) → (x y : ℕ) → Chain (reads_of flat) x y → G (on x) (on y)
    chain_there through x y (Chain.one _ _ h) = read_there x y h
    chain_there through x z (Chain.more _ y _ way h) = through (on x) (on y) (on z) (chain_there through x y way) (read_there y z h)

-- a list as vertices by place has itself
has_itself : {V : Type 0} (d : V) (l : List V) (s : ℕ) (m : Model V) → ((x : ℕ) → m.on (s + x) ≡ get_or l x d) → Has m s l
has_itself d [] s m h = tt
has_itself d (t ∷ l) s m h =
    let z : s + 0 ≡ s = omega arith in
    (subst (λ n. m.on n ≡ t) z (h 0), has_itself d l (suc s) m (λ x. let z : s + suc x ≡ suc s + x = omega arith in subst (λ n. m.on n ≡ get_or l x d) z (h (suc x))))

module _ (p : ProgramTree) (main : List ℕ) where
  leads_on : (x y z : Occurrence) → Leads p main x y → Leads p main y z → Leads p main x z
  leads_on x y z a (Leads.one _ _ r) = Leads.more x y z a r
  leads_on x y z a (Leads.more _ w _ b r) = Leads.more x w z (leads_on x y w a b) r

  -- all items of an instance are reads, or instances
  item_holds : (a : Instance) → IsInstance p main a → (i : Item) → Contains (items_of p a) i → ItemHolds (Leads p main) (IsInstance p main) i
  item_holds a is (reading x all) c = every_of (Leads p main x) all (λ y among. Leads.one x y (record { instance = a; is_instance = is; all = all; there = c; among = among }))
  item_holds a is (calling b) c = IsInstance.called a b is c

  module _ (lists : List (List Flow)) (are : AreLists p lists) (facts : (f : List ℕ) (n : NodeTree) → node_called p f ≡ Some n → NodeFacts p n) (never : (f : List ℕ) → ¬ Reaches p f f) where
    abbrev GivesAll : List ℕ → Type 0
    GivesAll f = (a : Instance) → a.node ≡ f → IsInstance p main a → Gives (Leads p main) p lists a

    step : (f : List ℕ) → ((g : List ℕ) → Calls p f g → GivesAll g) → GivesAll f
    step f rest a named is n found =
        let found' : node_called p f ≡ Some n = ap (node_called p) (sym named) ∙ found in
        let items : Every (ItemHolds (Leads p main) (IsInstance p main)) (node_items p a n) =
        subst (λ o. Every (ItemHolds (Leads p main) (IsInstance p main)) (items_in_node p a o)) found (every_of (ItemHolds (Leads p main) (IsInstance p main)) (items_of p a) (item_holds a is)) in
        let below : (b : Instance) → Below n b.node → IsInstance p main b → Gives (Leads p main) p lists b = λ b under is'. rest b.node (n, found', under) b refl is' in
        let g = node_gives (Leads p main) leads_on (IsInstance p main) p lists n (facts a.node n found) a (λ f n e. (facts f n e).apart) below items in
        subst (λ L. (l : List Occurrence) × (length l ≡ length L) × Every (Belongs a.path) l × (a.path ≡ [] → map (owner n) l ≡ node_owners p lists n) × ((m : Model Occurrence) → Has m 0 l → m.base ≡ a.clock → ((r : ℕ) → r < length n.inputs → m.given r ≡ if_there (slice_get a.arguments r))
        → Solves (Leads p main) m L × ((x : List ℕ) → place_of (variables_of n) x < length (variables_of n) → m.on (place_of (variables_of n) x) ≡ variable a.path x))) (sym (listed p lists are a.node n found)) g

    pub gives_all : (f : List ℕ) → GivesAll f
    gives_all = by_calls p never GivesAll step

  module _ (flat : FlatView) (accepted : IsAccepted p main) (some : DefineSomething p) (out : IsLaidOut p main flat) where
    given_list : Gives (Leads p main) p out.lists (main_instance main)
    given_list = gives_all out.lists out.are_lists (facts p main accepted some) (never_round p main accepted some) main (main_instance main) refl IsInstance.first

    abbrev occurrences : List Occurrence
    occurrences = (given_list out.node out.is_main).0

    abbrev on : ℕ → Occurrence
    on x = get_or occurrences x (variable [] [])

    cycle_there : (x : ℕ) → Chain (reads_of flat) x x → Leads p main (on x) (on x)
    cycle_there x way =
        let g = given_list out.node out.is_main in
        let r = g.4 (outer on) (has_itself (variable [] []) g.0 0 (outer on) (λ x. let z : 0 + x ≡ x = omega arith in ap on z)) refl (λ r lt. refl) in
        let flows_are : list_of p out.lists main ≡ flat.flows = listed p out.lists out.are_lists main out.node out.is_main ∙ sym out.flows in
        let solves = subst (Solves (Leads p main) (outer on)) flows_are r.0 in
        chain_there on (Leads p main) flat solves leads_on x x way

    pub to_source : HasFlatCycle flat → HasCycle p main
    to_source cycle = (on cycle.0, cycle_there cycle.0 cycle.1)

    owner_at : (f : Occurrence → ℕ) (l : List Occurrence) (d : Occurrence) (x v : ℕ) → slice_get (map f l) x ≡ Some v → f (get_or l x d) ≡ v
    owner_at f [] d x v e = cc
    owner_at f (y ∷ l) d zero v e = same_Some (f y) v e
    owner_at f (y ∷ l) d (suc x) v e = owner_at f l d x v e

    pub owned_there : (x v : ℕ) → Chain (reads_of flat) x x → slice_get flat.owners x ≡ Some v → (o : Occurrence) × Leads p main o o × (owner out.node o ≡ v)
    owned_there x v way e =
        let same : map (owner out.node) occurrences ≡ flat.owners = (given_list out.node out.is_main).3 refl ∙ sym out.owners in
        (on x, cycle_there x way, owner_at (owner out.node) occurrences (variable [] []) x v (ap (λ l. slice_get l x) same ∙ e))

pub owners_own : OwnerLaw
owners_own p main flat node accepted some out found x v way e =
    let same : out.node ≡ node = same_Some out.node node (sym out.is_main ∙ found) in
    subst (λ n. (o : Occurrence) × Leads p main o o × (owner n o ≡ v)) same (owned_there p main flat accepted some out x v way e)
