use Rattle.std.proofs.Common.{◌++◌, ◌≡◌}
use Rattle.join_maps.proofs.Prelude.{ap, AreCopiesJoined, subst, sym, ◌∙◌}
use Rattle.join_maps.proofs.passes.join_copies_in_one.Goals as goal

pub returns : goal.returns
returns g c =
    let was : c.from_vec-ahead.result.items ≡ c.args.pairs.now.items = c.from_vec-ahead.ensures.items ∙ ap (λ v. v.items) c.replace.ensures.value in
    let joined = subst (λ first. AreCopiesJoined g.K.Ord.cmp g.V.Join.below g.V.Join.is_valid g.V.Join.is_single c.pass_copies-outcome.result first c.args.other.now (c.pass_copies-outcome.new.passed.items ++ c.pass_copies-outcome.new.ahead.items)) was c.pass_copies-outcome.ensures.joined in
    record { joined = subst (AreCopiesJoined g.K.Ord.cmp g.V.Join.below g.V.Join.is_valid g.V.Join.is_single c.pass_copies-outcome.result c.args.pairs.now.items c.args.other.now) (sym c.pass_all.ensures.pairs) joined }
