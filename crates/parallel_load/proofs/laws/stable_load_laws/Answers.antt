use Rattle.parallel_load.proofs.Prelude.{same_names_keep_the_universe, touched_words_decide, universe_stays, words_keep_visible_names}
use Rattle.parallel_load.proofs.laws.stable_load_laws.Goals as goal

pub returns : goal.returns
returns c = record { visible = words_keep_visible_names; universe = universe_stays; same = same_names_keep_the_universe; words = touched_words_decide }
