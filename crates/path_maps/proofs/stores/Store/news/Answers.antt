use Rattle.std.proofs.Common.{◌↔◌, ◌≡◌, ◌≢◌}
use Rattle.path_maps.proofs.{News.{news, news_ascend, news_exact, no_news}, Prelude.{IfOk-weaker, IsAmong, IsStrictlySortedBy, join, List, place_cmp, PlaceParts, subst, sym}}
use Rattle.std.specs.FinMap as finmap
use Rattle.path_maps.proofs.stores.Store.news.Goals as goal

pub returns : goal.returns
returns c =
    let all : List PlaceParts = news c.args.self.now c.args.other.now in
    record {
      ascending = IfOk-weaker c.find_news.result (λ places. places.items ≡ all) (λ places. IsStrictlySortedBy place_cmp places.items)
          (λ places e. subst (IsStrictlySortedBy place_cmp) (sym e) (news_ascend c.args.self.now c.args.other.now)) c.find_news.ensures.places;
      exact = IfOk-weaker c.find_news.result (λ places. places.items ≡ all)
          (λ places. (p : PlaceParts) → IsAmong p places.items ↔ (finmap.get (join c.args.self.now c.args.other.now) p ≢ finmap.get c.args.self.now p))
          (λ places e p. subst (λ (ps : List PlaceParts). IsAmong p ps ↔ (finmap.get (join c.args.self.now c.args.other.now) p ≢ finmap.get c.args.self.now p))
          (sym e) (news_exact c.args.self.now c.args.other.now p)) c.find_news.ensures.places;
      without_memory = λ e. c.find_news.ensures.without_memory (no_news c.args.self.now c.args.other.now e);
    }
