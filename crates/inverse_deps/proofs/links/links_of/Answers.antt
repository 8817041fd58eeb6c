use Rattle.std.proofs.Common.{◌≡◌}
use Rattle.inverse_deps.proofs.{Linking.{found_in_more, found_in_none, row_within}, Prelude.{AreFoundIn, arith, Dependency, Global, length, length-map, links_in, subst, sym, Vec, ◌∙◌}}
use Rattle.inverse_deps.proofs.links.links_of.Goals as goal

pub loop-from-init : goal.loop-from-init
loop-from-init c = found_in_none _ _ c.in_ok-links.ensures.links

pub add_transposed-requires : goal.add_transposed-requires
add_transposed-requires c = record {
  within = row_within c.args.rows.now (length c.args.rows.now) c.requires.within c.loop-from.from c.loop-from-test.true c.as_slice.result.now c.index-rows-from.result (c.as_slice.ensures.elements ∙ c.get.ensures.value)
      c.index-rows-from.is (length c.loop-from.links.items)
      (sym (length-map c.loop-from.links.items (λ (neighbors : Vec Dependency Global). neighbors.items)) ∙ c.loop-from.invariant.units);
}

pub loop-from-preserved : goal.loop-from-preserved
loop-from-preserved c =
    found_in_more c.args.rows.now (links_in c.loop-from.links.items) (links_in c.add_transposed.new.links.items) c.loop-from.from c.as_slice.result.now c.index-rows-from.result c.loop-from.invariant c.loop-from-test.true
    (c.as_slice.ensures.elements ∙ c.get.ensures.value) c.index-rows-from.is c.in_ok-add_transposed.ensures.added

pub returns : goal.returns
returns c =
    let done : c.loop-from.from ≡ length c.args.rows.now = omega arith in
    record { links = subst (λ n. AreFoundIn c.args.rows.now n (links_in c.loop-from.links.items)) done c.loop-from.invariant }
