use Rattle.name_closure.proofs.{Adding.{added_joins, added_loaded}, Prelude.{AreJoined, AreLoaded, fact_from_collect, IfOk-weaker, IsFromIterResult, keys, keys_of, YieldsList-from_vec}}
use Rattle.name_closure.proofs.rounds.add_loaded.Goals as goal

pub returns-clause-joined : goal.returns-clause-joined
returns-clause-joined g c =
    let made = rw c.in_ok-more.was at (fact_from_collect (λ xs n. IsFromIterResult g.K.Ord.cmp xs n) c.collect.result c.collect.ensures.ran (YieldsList-from_vec c.args.pairs.items (cc) (cc))) in
    IfOk-weaker c.append.result _ (λ _. AreJoined (keys c.args.found.now) (keys_of c.args.pairs.items) (keys c.append.new.self))
    (λ _ put. added_joins g.K.Ord.cmp g.met.K.Ord.total g.met.K.Key.exact c.args.pairs.items c.in_ok-more.more.entries c.args.found.now.entries c.append.new.self.entries made.0 put.0)
    c.append.ensures.inserts_all

pub returns-clause-entries : goal.returns-clause-entries
returns-clause-entries g c =
    let made = rw c.in_ok-more.was at (fact_from_collect (λ xs n. IsFromIterResult g.K.Ord.cmp xs n) c.collect.result c.collect.ensures.ran (YieldsList-from_vec c.args.pairs.items (cc) (cc))) in
    let is_loaded = g.L.Loads.is_loaded c.args.loader.now in
    IfOk-weaker c.append.result _ (λ _. AreLoaded is_loaded c.append.new.self.entries)
    (λ _ put. added_loaded g.K.Ord.cmp g.met.K.Ord.total g.met.K.Key.exact c.args.pairs.items c.in_ok-more.more.entries c.args.found.now.entries c.append.new.self.entries made.0 put.0
    is_loaded made.1 put.1 c.requires.found c.requires.pairs)
    c.append.ensures.inserts_all
