-- Lists of values as they lie in memory.
use Rattle.std.specs.Prelude.{List, map}
use Rattle.luflow.specs.declared.data.Datum.{Datum}
use Rattle.luflow.specs.declared.data.Datum.TheVariants.{Int, Bool, Name}
use Rattle.luflow.specs.declared.values.Values.{Values}
use Rattle.luflow.specs.declared.values.Values.TheVariants.{Numbers, Truths, Names, Mixed}

-- the values of such a list, in order
abbrev pub data_in : Values → List Datum
data_in (Numbers numbers) = map Int numbers.items
data_in (Truths truths) = map Bool truths.items
data_in (Names names) = map Name names.items
data_in (Mixed mixed) = mixed.items
