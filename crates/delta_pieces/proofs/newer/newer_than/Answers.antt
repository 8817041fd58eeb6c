use Rattle.std.proofs.Common.{◌≡◌}
use Rattle.delta_pieces.proofs.Prelude.{ap, digest_of, Entry, is_newer, join, option_copied, option_map, sym, ◌∙◌}
use Rattle.delta_pieces.proofs.{HostViews.{news_is_cut}, Joined.{Compared, failed_zipped, held_version, is_news_zipped, joined_all, joined_none, news, news_of_digest, passed_zipped, sum_at}}
use Rattle.std.specs.FinMap as finmap
use Rattle.delta_pieces.proofs.newer.newer_than.Goals as goal

pub loop-placed-init : goal.loop-placed-init
loop-placed-init c =
    joined_all c.new-newer.result (news c.entries_zipped-both.result) c.new-newer.ensures.empty
    ∙ ap (λ bs. sum_at (news bs)) c.entries_zipped-both.ensures.entries ∙ ap sum_at (news_of_digest c.args.other.now (finmap.entries c.args.store.now))

pub loop-placed-preserved : goal.loop-placed-preserved
loop-placed-preserved c =
    let both : Compared = (c.in-Some.placed, option_copied c.in-Some.held) in
    let recorded : c.is_news.result ≡ is_news_zipped both = c.is_news.ensures.news ∙ ap (λ (e : Entry). is_newer e.version (option_map (λ x. x.now.version) c.in-Some.held)) c.entry.ensures.entry ∙ ap (is_newer both.0.1.version) (held_version c.in-Some.held) in
    failed_zipped c.loop-placed.newer both c.next_entry.new.self c.loop-placed.both c.in-Some.ensures.first _ c.loop-placed.invariant (sym recorded ∙ c.if-is_news.false)

pub loop-placed-preserved-in-Continue-1 : goal.loop-placed-preserved-in-Continue-1
loop-placed-preserved-in-Continue-1 c =
    let both : Compared = (c.in-Some.placed, option_copied c.in-Some.held) in
    let recorded : c.is_news.result ≡ is_news_zipped both = c.is_news.ensures.news ∙ ap (λ (e : Entry). is_newer e.version (option_map (λ x. x.now.version) c.in-Some.held)) c.entry.ensures.entry ∙ ap (is_newer both.0.1.version) (held_version c.in-Some.held) in
    ap (λ s. join s (sum_at (news c.next_entry.new.self))) c.in_ok-join_copy.ensures.ok
    ∙ passed_zipped c.loop-placed.newer both c.next_entry.new.self c.loop-placed.both c.in-Some.ensures.first _ c.loop-placed.invariant (sym recorded ∙ c.if-is_news.true)

pub returns : goal.returns
returns c = record { cut = joined_none c.loop-placed.newer (news c.loop-placed.both) (ap news c.in_default.ensures.first.0) ∙ c.loop-placed.invariant ∙ news_is_cut c.args.store.now (digest_of c.args.other.now) }
