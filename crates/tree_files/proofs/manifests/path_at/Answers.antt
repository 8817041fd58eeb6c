use Rattle.std.proofs.Common.{sym, ⊎_elim}
use Rattle.load_path.specs.TextLaws.{are_their_texts}
use Rattle.tree_files.proofs.manifests.path_at.Goals as goal

pub returns-in-Ok : goal.returns-in-Ok
returns-in-Ok c = record {
  path = ⊎_elim (λ refused. cc (refused)) (λ read. (are_their_texts.written_back c.args.text.now c.in-Ok.path (sym read)).0) c.in-Ok.ensures.parsed;
}
