use Rattle.std.proofs.Common.{refl}
use Rattle.std.specs.Fmt.{digits}
use Rattle.serde_json.proofs.OnLiterals.{serde_json_on_literals}
use Rattle.luplace_report.proofs.laws.report_vectors_law.Goals as goal

pub returns : goal.returns
unfolding digits serde_json_on_literals
returns c = record {
  jsons = record { one_site = refl; two_sites = refl; opposite = refl; by_names = refl };
  causes = record { sampled_causes = refl; shared_causes = refl; handed_causes = refl; moded_causes = refl; no_cause = refl };
  tables = record { one_site = refl; two_sites = refl; three_sites = refl; by_names = refl; groups = refl; parted = refl; one_nil = refl; some_nil = refl };
  graphs = record { one_site = refl; two_sites = refl; three_sites = refl; by_names = refl };
}
