use Rattle.std.proofs.Common.{◌∷◌}
use Rattle.path_maps.proofs.{Prelude.{[], AllKeys, ap, bytes_cmp, FolderMap, folders_read, in_folder, in_rank, IsPath, subst, sym, ℕ, ◌∙◌}, Readings.{map_readable, part_keys}}
use Rattle.path_maps.proofs.nested.InRanksReadingPairU8FolderMap.read.Goals as goal

pub new-requires : goal.new-requires
new-requires g c =
    let rank = c.item.inside.key.now in
    let paths = subst (λ (p : ℕ × FolderMap). AllKeys IsPath (in_rank p.0 p.1)) (sym c.item.view_is) c.requires.can in
    record { readable = map_readable bytes_cmp (λ p. AllKeys IsPath (in_folder rank p.0 p.1)) _ _ c.pairs-left.ensures.pairs c.pairs-left.ensures.map (part_keys IsPath (in_folder rank) _ paths) }

pub returns-clause-part : goal.returns-clause-part
returns-clause-part g c =
    ap (λ (p : ℕ × FolderMap). folders_read (λ f. g.N.OtherMap.held (g.F.OtherMap.held (g.R.OtherMap.held c.args.self.now.others p.0) f)) p.0 p.1 ∷ []) (sym c.item.view_is)
    ∙ (λ i. folders_read (λ f. g.N.OtherMap.held (g.F.OtherMap.held (sym c.meet-others.ensures.held i) f)) c.item.inside.key.now (sym c.pairs-left.ensures.pairs i) ∷ [])
    ∙ ap (λ l. l ∷ []) (sym c.new.ensures.left)
