use Rattle.std.proofs.Common.{◌<◌, ◌≡◌}
use Rattle.parallel_load.proofs.{MainIndices.{indexed_length, main_indexed}, Prelude.{[], ap, arith, CachedRows, index_at, IsAt, IsIndexOfMain, length, LoadMap, Name, name_cmp, NameLoad, OfAlias, subst, sym, ℕ, ◌∙◌}}
use Rattle.parallel_load.proofs.loaded.Loaded.main_index_at.Goals as goal

pub main_of-requires : goal.main_of-requires
main_of-requires c =
    let named : length c.self.inside.names.items ≡ length c.args.self.now.names = ap (λ (l : LoadMap). length l.names) c.self.view_is in
    let below : c.args.at < length c.args.self.now.names = c.requires.within in
    let count = indexed_length _ _ _ c.self.invariant.0.are_rows.indexed in
    let same : length c.get.result.now.mains ≡ length c.self.inside.kept.mains = ap (λ (k : CachedRows). length k.mains) c.get.ensures.value in
    record { within = omega (arith, named, below, count, same) }

pub returns : goal.returns
returns c =
    let inside : LoadMap = record {
      viewer = c.self.inside.viewer;
      extra = c.self.inside.extra;
      names = c.self.inside.names.items;
      named = c.self.inside.kept.named.items;
      words = c.self.inside.kept.words;
    } in
    let p : Name × NameLoad = ([], OfAlias []) in
    let m : Name × ℕ = ([], 0) in
    let read : c.main_of.result ≡ index_at c.self.inside.kept.mains c.args.at = c.main_of.ensures.index ∙ ap (λ (k : CachedRows). index_at k.mains c.args.at) c.get.ensures.value in
    record {
      index = λ name here. subst (λ (l : LoadMap). IsIndexOfMain l name c.main_of.result) c.self.view_is
          (subst (λ (i : ℕ). IsIndexOfMain inside name i) (sym read)
          (main_indexed inside c.self.inside.kept.mains c.self.invariant.0.sorted c.self.invariant.0.are_rows.indexed c.self.invariant.0.mains_are name c.args.at
          (subst (λ (l : LoadMap). IsAt name_cmp name l.names c.args.at) (sym c.self.view_is) here) p m));
    }
