use Rattle.parallel_load.proofs.{Gathering.{own_link_targets}, Prelude.{name_cmp, sorted_from_keys}}
use Rattle.parallel_load.proofs.words.CachedLinkTargets.of.Goals as goal

pub invariant_of-result : goal.invariant_of-result
invariant_of-result c =
    sorted_from_keys name_cmp c.in_ok-names.names.items
    (own_link_targets c.args.view.now c.in_ok-shown.shown.items c.in_ok-names.names.items c.in_ok-shown.ensures.ascending c.in_ok-shown.ensures.shown c.in_ok-names.ensures.words).ascending

pub returns : goal.returns
returns c = record {
  words = own_link_targets c.args.view.now c.in_ok-shown.shown.items c.in_ok-names.names.items c.in_ok-shown.ensures.ascending c.in_ok-shown.ensures.shown c.in_ok-names.ensures.words;
}
