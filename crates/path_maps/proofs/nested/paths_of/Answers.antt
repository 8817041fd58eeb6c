use Rattle.path_maps.proofs.{Prelude.{AllKeys, ap, flat_map, in_rank, IsPath, List, nat_cmp, RankMap, ranks_read, ℕ, ◌∙◌}, Readings.{map_readable, part_keys, ranks_zipped}}
use Rattle.path_maps.proofs.nested.paths_of.Goals as goal

pub new-requires : goal.new-requires
new-requires g c =
    record { readable = map_readable nat_cmp (λ p. AllKeys IsPath (in_rank p.0 p.1)) _ _ c.pairs-left.ensures.pairs c.pairs-left.ensures.map (part_keys IsPath in_rank _ c.requires.paths) }

pub returns : goal.returns
returns g c = record {
  entries =
      let held : ℕ → List ℕ → List ℕ → g.row.N-Held.Denot = λ r f. g.N.OtherMap.held (g.F.OtherMap.held (g.R.OtherMap.held c.args.others r) f) in
      ap (λ l. flat_map (λ xs. xs) (flat_map (λ xs. xs) l)) c.new.ensures.left
      ∙ ap (λ (rs : RankMap). flat_map (λ xs. xs) (flat_map (λ xs. xs) (ranks_read held rs))) c.pairs-left.ensures.pairs
      ∙ ranks_zipped held c.args.ranks.now;
}
