use Rattle.std.proofs.Common.{◌≡◌}
use Rattle.delta_pieces.proofs.{HostViews.{newer_is_cut}, Orders.{entries_ascend}, Prelude.{ap, cut, join, None, whole_answer, ◌∙◌}}
use Rattle.std.specs.FinMap as finmap
use Rattle.delta_pieces.proofs.cuts.delta_for.Goals as goal

pub newer_entries-requires : goal.newer_entries-requires
newer_entries-requires c = record {
  sorted = rw c.entries.ensures.entries (entries_ascend c.store.result.now);
  versions_sorted = rw c.versions.ensures.versions (entries_ascend c.args.asked.now);
}

pub returns : goal.returns
returns c =
    let store = c.args.replica.now.store in
    let is : c.from_store.result ≡ cut store c.args.asked.now None =
    c.from_store.ensures.store ∙ c.in_ok-newer.ensures.newer
    ∙ newer_is_cut store c.args.asked.now c.entries.result c.versions.result.now (c.entries.ensures.entries ∙ ap finmap.entries c.store.ensures.store) c.versions.ensures.versions
    in
    record {
      cut = is;
      whole = λ s asked honest. ap (join s) (is ∙ ap (λ ask. cut store ask None) asked) ∙ whole_answer s store honest;
    }
