use Rattle.parallel_load.proofs.Prelude.{codes, Decides-eqb, Some, strip_suffix_is, sym, ◌∙◌}
use Rattle.parallel_load.proofs.search_prefixes.type_of.Goals as goal

pub returns-else-contains : goal.returns-else-contains
returns-else-contains c =
    record {
      word = record {
        is = strip_suffix_is Decides-eqb c.args.part.now (codes ".d") (Some c.in_ok-word.word) c.in_ok-word.ensures.cases;
        dotless = sym c.contains.ensures.value ∙ c.if-contains.false;
      };
    }
