-- The report has no float, so its text is stated.
use Rattle.std.proofs.Common.{◌≡◌, ℕ, List, length, [], ◌∷◌, map, false, Result, Ok, Err, String, Global, refl, ap, ◌∙◌, string_bytes}
use Rattle.std.specs.Prelude.{IfOk}
use Rattle.std.specs.List.{range_with_len}
use Rattle.std.specs.declared.alloc.AllocError.{AllocError}
use Rattle.serde_json.specs.Data.{Data, string}
use Rattle.serde_json.specs.View.{items_of}
use Rattle.serde_json.specs.Written.{has_float, items_have_float, compact_text}
use Rattle.luflow.specs.Rank.{row}
use Rattle.luworld.specs.declared.link.Link.{Link}
use Rattle.luworld.specs.Needs.{PlanView}
use Rattle.luplace_report.specs.Names.{site_name}
use Rattle.luplace_report.specs.Report.{site_data, flow_data, link_data, report_data}

texts_plain : {A : Type 0} (text : A → List ℕ) (xs : List A) → items_have_float (items_of (map (λ x. string (text x)) xs)) ≡ false
texts_plain text [] = refl
texts_plain text (x ∷ xs) = texts_plain text xs

site_plain : (names : List (List ℕ)) (sites : List ℕ) → has_float (site_data names sites) ≡ false
site_plain names [] = refl
site_plain names (s ∷ []) = refl
site_plain names (s ∷ t ∷ sites) = texts_plain (site_name names) sites

flows_plain : (plan : PlanView) (vs : List ℕ) → items_have_float (items_of (map (flow_data plan) vs)) ≡ false
flows_plain plan [] = refl
flows_plain plan (v ∷ vs) = rw (site_plain plan.names (row plan.placed v)) (flows_plain plan vs)

links_plain : (plan : PlanView) (links : List Link) → items_have_float (items_of (map (link_data plan) links)) ≡ false
links_plain plan [] = refl
links_plain plan (link ∷ links) = links_plain plan links

pub report_plain : (plan : PlanView) → has_float (report_data plan) ≡ false
report_plain plan = rw (flows_plain plan (range_with_len 0 (length plan.flat.variables)), links_plain plan plan.links, texts_plain (λ (x : List ℕ). x) plan.names) refl

pub text_is : (r : Result (String Global) AllocError) (d e : Data) → d ≡ e → has_float e ≡ false → IfOk r (λ s. has_float d ≡ false → string_bytes s ≡ compact_text d) → IfOk r (λ s. string_bytes s ≡ compact_text e)
text_is (Ok s) d e is plain h = h (ap has_float is ∙ plain) ∙ ap compact_text is
text_is (Err x) d e is plain h = tt
