use Rattle.dropins.proofs.{KindWords.{among_words}, Prelude.{◌∙◌}}
use Rattle.dropins.proofs.dirs.has_kind.Goals as goal

pub returns : goal.returns
returns c = record { test = c.contains.ensures.value ∙ among_words c.args.kind c.args.kinds.now }
