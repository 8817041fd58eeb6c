use Rattle.load_path.{proofs.Prelude.{ap, located_sound, path_within, sym, ◌∙◌}, specs.Paths.{path_of}}
use Rattle.load_path.proofs.texts.Parts.of.Goals as goal

pub below-requires : goal.below-requires
below-requires c = record { within = (located_sound c.args.text.now c.in-Some.rank c.in-Some.below.now (sym c.in-Some.ensures.located)).0 }

pub returns-in-Some : goal.returns-in-Some
unfolding path_of
returns-in-Some c = record { parts = c.below.ensures.parts ∙ ap path_within c.in-Some.ensures.located }

pub returns-in-None : goal.returns-in-None
unfolding path_of
returns-in-None c = record { parts = ap path_within c.in-None.ensures.located }
