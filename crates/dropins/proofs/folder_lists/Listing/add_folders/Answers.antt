use Rattle.std.proofs.Common.{◌-◌}
use Rattle.dropins.proofs.{Cuts.{cut_left, cut_taken, prefix_is_name}, Prelude.{ap, arith, eq-eqb, fold, IsName, length, subst, sym, take, with_name, with_prefix, with_template, ◌∙◌}}
use Rattle.dropins.proofs.folder_lists.Listing.add_folders.Goals as goal

pub cut_name-requires : goal.cut_name-requires
cut_name-requires c = record {
  well_formed = subst (λ p. IsName (with_prefix c.args.name.now (take (c.loop-end.end - 1) p))) (sym c.prefix-prefix.ensures.prefix)
      (prefix_is_name c.args.name.now (c.loop-end.end - 1) c.prefix-prefix.ensures.well_formed (omega arith) (omega (arith, c.loop-end.invariant.0, ap length c.prefix-prefix.ensures.prefix)));
}

pub loop-end-preserved-in_ok-add_with_template-2 : goal.loop-end-preserved-in_ok-add_with_template-2
loop-end-preserved-in_ok-add_with_template-2 c = (
  omega arith,
  cut_taken (λ p. with_template (with_prefix c.args.name.now p)) c.loop-end.self.names.items _ c.prefix-prefix.result.now c.loop-end.end _ (omega arith) (eq-eqb _ _ c.if-prefix-end-eq45.true)
      (c.in_ok-add_with_template-2.ensures.added ∙ ap (λ n. fold with_name c.loop-end.self.names.items (with_template n)) c.in_ok-cut_name.ensures.cut)
      c.loop-end.invariant.1,
  c.in_ok-add_with_template-2.ensures.kept,
)

pub loop-end-preserved : goal.loop-end-preserved
loop-end-preserved c = (
  omega arith,
  cut_left (λ p. with_template (with_prefix c.args.name.now p)) c.loop-end.self.names.items c.prefix-prefix.result.now c.loop-end.end _ (omega arith) (grind (arith, c.if-prefix-end-eq45.false)) c.loop-end.invariant.1,
  c.loop-end.invariant.2,
)
