-- What of a site's part of a plan is worked out before there are inputs.
use Rattle.std.specs.Prelude.{◌≡◌, ℕ, ◌<◌, ◌==◌, Bool, true, false, cond, List, length, map, All, Option}
use Rattle.std.specs.Prelude.{Some, None, is_some, slice_get}
use Rattle.std.specs.Arc.{arc_value}
use Rattle.luflow.specs.Program.{FlatView, flows_of}
use Rattle.luworld.specs.Needs.{PlanView, home, sites_of, stands}
use Rattle.luworld.specs.Jobs.{carried, link_into, outputs_of}
use Rattle.lublock_kernels.specs.Parts.{IsPart, IsNeverNil, knows}
use Rattle.luplace.specs.Classes.{class_in}
use Rattle.lublock_site.specs.Marks.{marked, marked_part}
use Rattle.lublock_site.specs.declared.code.CodeParts.{CodeParts}
use Rattle.lublock_site.specs.declared.code.SiteCode.{SiteCode}
use Rattle.lublock_site.specs.declared.code_links.SiteLink.{SiteLink}

-- the flows that stand at a site are marked, and no others
abbrev pub AreOwnMarks : PlanView → ℕ → List Bool → Type 0
AreOwnMarks plan site own = (i : ℕ) → i < flows_of plan.flat → marked own i ≡ stands plan i site

-- each flow that a link brings to a site is marked
abbrev pub AreTakenMarks : PlanView → ℕ → List Bool → Type 0
AreTakenMarks plan site taken = (i : ℕ) → is_some (link_into plan site i) ≡ true → marked taken i ≡ true

-- these marks are those of a part of the program, with all flows that the site knows
pub record AreSiteMarks (plan : PlanView) (site : ℕ) (own taken : List Bool) : Type 0 where
  pub part : IsPart plan.flat (marked_part own taken)
  pub own_marks : AreOwnMarks plan site own
  pub taken_marks : AreTakenMarks plan site taken

-- flows that may not be nil by these classes are never nil
abbrev pub AreNeverNil : FlatView → List Bool → Type 0
AreNeverNil flat nils = (r : ℕ) → class_in nils r ≡ false → IsNeverNil flat r

-- a link of the plan, and the flow that it carries, which is one of the program's and marked
pub record IsMarkedLink (plan : PlanView) (marks : List Bool) (x : SiteLink) : Type 0 where
  pub listed : x.link < length plan.links
  pub flow_is : carried plan x.link ≡ x.flow
  pub there : x.flow < flows_of plan.flat
  pub is_marked : marked marks x.flow ≡ true

-- a link of an own flow that is never nil
pub record IsSentLink (plan : PlanView) (own : List Bool) (x : SiteLink) : Type 0 where
  pub own_is : IsMarkedLink plan own x
  pub never : IsNeverNil plan.flat x.flow

-- all these variables are computed or taken
abbrev pub AreKnown : List Bool → List Bool → List ℕ → Type 0
AreKnown own taken needs = (k v : ℕ) → slice_get needs k ≡ Some v → knows (marked_part own taken) v ≡ true

-- an output of the main node as a site has it: its variable where the site is its home
abbrev pub output_at : PlanView → ℕ → ℕ → Option ℕ
output_at plan site v = cond (home plan v == site) (Some v) None

-- the outputs of the main node, in order, as a site has them
abbrev pub outputs_at : PlanView → ℕ → List (Option ℕ)
outputs_at plan site = map (output_at plan site) (outputs_of plan)

-- What stays in a run is of the site's part of the plan: its flows are a part of the program, with all that
-- the site knows.
pub record IsCode (plan : PlanView) (site : ℕ) (code : SiteCode) : Type 0 where
  pub inside : site < sites_of plan
  pub flat : arc_value code.flat ≡ plan.flat
  pub marks : AreSiteMarks plan site code.marks.own.items code.marks.taken.items
  pub needs : AreKnown code.marks.own.items code.marks.taken.items code.needs.items

-- all parts of a code are of the site's part of the plan
pub record AreCodeParts (plan : PlanView) (site : ℕ) (parts : CodeParts) : Type 0 where
  pub code : IsCode plan site parts.code
  pub into : All (IsMarkedLink plan parts.code.marks.taken.items) parts.into.items
  pub out : All (IsSentLink plan parts.code.marks.own.items) parts.out.items
  pub outputs : parts.outputs.items ≡ outputs_at plan site
