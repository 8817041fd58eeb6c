use Rattle.path_maps.proofs.{Prelude.{AllKeys, ap, flat_map, IsPath, List, listed, Scope, scope_cmp, ScopeMap, scopes_read, ℕ, ◌∙◌}, Readings.{map_readable, scopes_zipped}}
use Rattle.path_maps.proofs.nested.places_of.Goals as goal

pub new-requires : goal.new-requires
new-requires g c =
    record { readable = map_readable scope_cmp (λ p. AllKeys IsPath (listed p.1)) _ _ c.pairs-left.ensures.pairs c.pairs-left.ensures.map c.requires.paths }

pub returns : goal.returns
returns g c = record {
  entries =
      let held : Scope → ℕ → List ℕ → List ℕ → g.row.N-Held.Denot = λ s r f. g.N.OtherMap.held (g.F.OtherMap.held (g.R.OtherMap.held (g.S.OtherMap.held c.args.others s) r) f) in
      ap (flat_map (λ xs. xs)) c.new.ensures.left
      ∙ ap (λ (ss : ScopeMap). flat_map (λ xs. xs) (scopes_read held ss)) c.pairs-left.ensures.pairs
      ∙ scopes_zipped held c.args.scopes.now;
}
