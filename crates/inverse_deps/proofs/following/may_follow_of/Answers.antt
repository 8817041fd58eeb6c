use Rattle.inverse_deps.proofs.Prelude.{on_ok_weaker}
use Rattle.inverse_deps.proofs.Pulling.{leading_may}
use Rattle.inverse_deps.proofs.following.may_follow_of.Goals as goal

pub returns : goal.returns
returns c = record {
  may = on_ok_weaker c.add_pulled.result
      (leading_may c.args.names.now c.args.index c.requires.index c.index-names-index.result c.index-names-index.result c.index-names-index.is (c.is_leading.ensures.leading.0 c.if-not-is_leading.false) c.args.before.now
      c.args.deps.now c.clear.new.self.items c.add_pulled.new.indices.items c.clear.ensures.items) c.add_pulled.ensures.added;
}
