use Rattle.std.proofs.Common.{◌++◌, ◌+◌, ◌∷◌, ◌≡◌}
use Rattle.start_plan.proofs.{bits.named_bits.Goals.{in-Some, in_default}, BitSets.{name_member, name_passed}, Prelude.{[], ap, arith, Bool, Global, length, length-set, set, sym, take, take_more, true, Vec, ◌∙◌}}
use Rattle.start_plan.proofs.bits.named_bits.Goals as goal

pub loop-name-preserved : goal.loop-name-preserved
loop-name-preserved c =
    let load = c.args.graph.now.load in
    let i = c.loop-name.name-index in
    let more : take (i + 1) c.args.names.now ≡ take i c.args.names.now ++ c.name-item.result ∷ [] =
    take_more c.args.names.now i c.name-item.result c.loop-name-test.true ∙ ap (λ x. take i c.args.names.now ++ x ∷ []) (sym c.name-item.is) in
    let names = c.names.ensures.names ∙ ap (λ m. m.names) c.loaded.ensures.load in
    elim c.match-index.branch [
      | in-Some w ↦ (let n = w.in-Some.ensures.index in
          let e : c.match-index.bits.items ≡ set c.loop-name.bits.items w.in-Some.index true = ap (λ (v : Vec Bool Global). v.items) w.bits-is in
          record {
            units = ap length e ∙ length-set c.loop-name.bits.items w.in-Some.index true ∙ c.loop-name.invariant.units;
            bits = name_member load c.names.result.now names c.names.ensures.sorted _ _ c.name-item.result more c.loop-name.bits.items c.loop-name.invariant.bits c.match-index.bits.items
                w.in-Some.index (omega (arith, n.index_is.below, c.loop-name.invariant.units)) n e;
          })
      | in_default w ↦ (let e : c.match-index.bits.items ≡ c.loop-name.bits.items = ap (λ (v : Vec Bool Global). v.items) w.bits-is in
          record {
            units = ap length e ∙ c.loop-name.invariant.units;
            bits = name_passed load c.names.result.now names c.names.ensures.sorted _ _ c.name-item.result more c.loop-name.bits.items c.loop-name.invariant.bits c.match-index.bits.items
                w.in_default.ensures.index e;
          })
    ]
