use Rattle.range_prints.proofs.Sums.{print-append, print_bits}
use Rattle.range_prints.specs.AskedLaws.{same_cut}
use Rattle.range_prints.proofs.laws.range_laws.Goals as goal

pub returns : goal.returns
returns c = record { sum = print-append; bits = print_bits; same_cut = same_cut }
