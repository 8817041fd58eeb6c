use Rattle.edit_sums.proofs.Prelude.{counters_decide, high_of-sum_of, sorts_decide, sum_of-append, sum_of-IsSum, sum_of-least, sum_of-same_edits, writers_decide}
use Rattle.edit_sums.proofs.laws.sum_laws.Goals as goal

pub returns : goal.returns
returns c = record { sum = sum_of-IsSum; members = sum_of-same_edits; above = sum_of-least; append = sum_of-append; counters = counters_decide; writers = writers_decide; sorts = sorts_decide; high = high_of-sum_of }
