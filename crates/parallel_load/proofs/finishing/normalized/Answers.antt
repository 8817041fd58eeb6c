use Rattle.parallel_load.proofs.{Indexing.{is_ready, normalized_load}, Prelude.{sorted_from}}
use Rattle.parallel_load.proofs.finishing.normalized.Goals as goal

pub load_of-requires : goal.load_of-requires
load_of-requires c =
    let ready = is_ready c.args.found.entries _ _ c.in_ok-names.names.items (sorted_from c.args.found.entries c.requires.ascending) c.requires.whole c.requires.few c.in_ok-pairs.ensures.mains c.in_ok-pairs.ensures.pairs c.in_ok-names.ensures.names in
    record { kept = ready.kept }

pub returns : goal.returns
returns c =
    let ready = is_ready c.args.found.entries _ _ c.in_ok-names.names.items (sorted_from c.args.found.entries c.requires.ascending) c.requires.whole c.requires.few c.in_ok-pairs.ensures.mains c.in_ok-pairs.ensures.pairs c.in_ok-names.ensures.names in
    let made = c.load_of.ensures in
    record { load = normalized_load c.args.found.entries c.in_ok-names.names.items c.args.viewer.now c.args.extra.now c.args.words ready.normalized c.load_of.result made.viewer made.extra made.names made.named made.words }
