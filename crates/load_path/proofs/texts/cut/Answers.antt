use Rattle.load_path.proofs.{CutLemmas.{cut_found, cut_none}, Prelude.{sym, take_rest}}
use Rattle.load_path.proofs.texts.cut.Goals as goal

pub returns-in-Some : goal.returns-in-Some
returns-in-Some c = record { parts = rw take_rest (cut_found c.args.bytes.now c.in-Some.at (sym c.in-Some.ensures.position)) }

pub returns-in-None : goal.returns-in-None
returns-in-None c = record { parts = cut_none c.args.bytes.now (sym c.in-None.ensures.position) }
