use Rattle.std.proofs.Common.{◌<◌, ◌≡◌}
use Rattle.chunked_pairs.proofs.{Prelude.{arith, get_or, length, subst, sym}, Views.{length_viewed, viewed_get}}
use Rattle.chunked_pairs.proofs.chunks.Chunks.separator.Goals as goal

pub index-requires : goal.index-requires
index-requires g c =
    let lt = subst (λ v. c.args.at < length v.1) (sym c.self.view_is) c.requires.within in
    omega (arith, lt, length_viewed c.self.inside.more.items)

pub returns : goal.returns
returns g c =
    let lt = subst (λ v. c.args.at < length v.1) (sym c.self.view_is) c.requires.within in
    let within : c.args.at < length c.self.inside.more.items = omega (arith, lt, length_viewed c.self.inside.more.items) in
    record { separator = λ d. subst (λ v. c.index.result.now.0 ≡ (get_or v.1 c.args.at d).0) c.self.view_is (viewed_get c.self.inside.more.items c.args.at c.index.result.now d within c.index.ensures) }
