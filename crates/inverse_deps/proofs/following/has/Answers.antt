use Rattle.std.proofs.Common.{◌↔◌}
use Rattle.inverse_deps.proofs.{Prelude.{Bool, IsAmong, IsTrue, subst, sym}, Pulling.{found_there}}
use Rattle.inverse_deps.proofs.following.has.Goals as goal

pub returns : goal.returns
returns c = record {
  among = subst (λ (b : Bool). IsTrue b ↔ IsAmong c.args.index c.args.indices.now) (sym c.is_ok.ensures.value)
      (found_there c.args.indices.now c.args.index c.binary_search.result c.requires.ascending c.binary_search.ensures.position);
}
