use Rattle.luflow.proofs.Faults.{fault_value, fault_value_one, fault_back, fault_back_one}
use Rattle.luflow.proofs.laws.fault_law.Goals as goal

pub returns : goal.returns
returns c = record {
  of_two = λ op x y kind. (fault_back op x y kind, fault_value op x y kind);
  of_one = λ op x kind. (fault_back_one op x kind, fault_value_one op x kind);
}
