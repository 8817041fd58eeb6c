use Rattle.join_maps.proofs.Prelude.{IsTrue, least_exactly_empty, length, map_itself, refl, subst, sym, ◌∙◌}
use Rattle.chunked_pairs.specs.Chunks.{all_pairs}
use Rattle.join_maps.proofs.meetings.join_runs.Goals as goal

pub returns-then-is_err-clause-refused : goal.returns-then-is_err-clause-refused
returns-then-is_err-clause-refused g c = rw c.spread.ensures.same (record {
  kept = map_itself g.V.Join.below g.met.V.Join.reflexive g.met.V.Join.transitive g.K.Ord.cmp _;
  bounds = λ z. (λ p. p, λ p. p);
  left = λ least.
      let none = (least_exactly_empty g.K.Ord.cmp g.V.Join.below g.met.K.Ord.total g.V.Join.is_valid (all_pairs c.args.other) (length (all_pairs c.args.other)) refl c.requires.other_map.map).1 least in
      let t = subst IsTrue (sym c.is_empty.ensures.empty ∙ c.if-is_empty.false) none in
      cc (t);
})
