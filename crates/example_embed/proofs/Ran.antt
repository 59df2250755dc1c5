-- The job that the texts of the design say, and its table.
use Rattle.std.proofs.Common.{◌≡◌, ℕ, List, Option, Some, None, String, Global, codes, string_bytes, refl, subst, ◌∙◌}
use Rattle.std.specs.Prelude.{IfSome}
use Rattle.std.proofs.lemmas.Option.{same_Some}
use Rattle.luworld.specs.Jobs.{JobView}
use Rattle.lusdist_call.specs.Asked.{IsJobFor, IsJobOf}
use Rattle.example_embed.specs.declared.design.TheConstants.{DESIGN, PLACEMENT, TABLE}
use Rattle.example_embed.specs.Texts.{text_of}
use Rattle.example_embed.specs.Ran.{IsRunOfDesign, IsTableOfRun}

abbrev pub IsFound : JobView → Type 0
IsFound job = IsJobFor (λ path given. given ≡ text_of path) (codes "design") (codes "placement") (codes "table") (codes "main") job

-- what stands in the three files is what the texts are
job_of_design : (job : JobView) → IsFound job → IsJobOf DESIGN.now PLACEMENT.now TABLE.now (codes "main") job
job_of_design job found =
    let design : text_of (codes "design") ≡ Some DESIGN.now = refl in
    let placement : text_of (codes "placement") ≡ Some PLACEMENT.now = refl in
    let table : text_of (codes "table") ≡ Some TABLE.now = refl in
    let one : found.program ≡ DESIGN.now = same_Some found.program DESIGN.now (found.program_given ∙ design) in
    let two : found.place ≡ PLACEMENT.now = same_Some found.place PLACEMENT.now (found.place_given ∙ placement) in
    let three : found.table ≡ TABLE.now = same_Some found.table TABLE.now (found.table_given ∙ table) in
    subst (λ (t : List ℕ). IsJobOf DESIGN.now PLACEMENT.now t (codes "main") job) three
    (subst (λ (p : List ℕ). IsJobOf DESIGN.now p found.table (codes "main") job) two
    (subst (λ (d : List ℕ). IsJobOf d found.place found.table (codes "main") job) one found.job_is))

pub run_of : (job : JobView) (o : Option (String Global)) → IsFound job → IfSome o (λ text. IsTableOfRun job (string_bytes text)) → IfSome o (λ text. IsRunOfDesign (string_bytes text))
run_of job (Some text) found table = record { job = job; job_is = job_of_design job found; table_is = table }
run_of job None found table = table
