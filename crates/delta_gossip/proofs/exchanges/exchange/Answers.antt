use Rattle.delta_gossip.proofs.{Joins.{join_again, joined_again, joined_within, on_err}, Prelude.{ap, AreBeingJoined, join, join-left, join-right, refl, Replicated, store_below_refl}}
use Rattle.delta_gossip.proofs.exchanges.exchange.Goals as goal

pub returns-in_err-first-clause-err : goal.returns-in_err-first-clause-err
returns-in_err-first-clause-err c =
    on_err {P = AreBeingJoined c.args.a.now c.args.b.now c.merge.new.self c.args.b.now} _
    (record {
      first = record {
        writer = c.in_err-first.ensures.writer;
        kept = c.in_err-first.ensures.kept;
        within = rw c.store.ensures.store at c.in_err-first.ensures.within;
      };
      second = record {
        writer = refl;
        kept = store_below_refl c.args.b.now.store;
        within = join-right c.args.a.now.store c.args.b.now.store;
      };
      again = rw c.store.ensures.store at c.in_err-first.ensures.again;
    })

pub returns-in_err-second-clause-err : goal.returns-in_err-second-clause-err
returns-in_err-second-clause-err c =
    on_err {P = AreBeingJoined c.args.a.now c.args.b.now c.merge.new.self c.merge-2.new.self} _
    (record {
      first = record {
        writer = ap (λ (r : Replicated). r.writer) c.in_ok-first.ensures.ok;
        kept = rw (c.in_ok-first.ensures.ok, c.store.ensures.store) (join-left c.args.a.now.store c.args.b.now.store);
        within = rw (c.in_ok-first.ensures.ok, c.store.ensures.store) (store_below_refl (join c.args.a.now.store c.args.b.now.store));
      };
      second = record {
        writer = c.in_err-second.ensures.writer;
        kept = c.in_err-second.ensures.kept;
        within =
            joined_within c.args.a.now c.args.b.now c.merge.new.self c.merge-2.new.self c.store.result.now c.store-2.result.now
            c.store.ensures.store c.in_ok-first.ensures.ok c.store-2.ensures.store c.in_err-second.ensures.within;
      };
      again =
          joined_again c.args.a.now c.args.b.now c.merge.new.self c.merge-2.new.self c.store.result.now c.store-2.result.now
          c.store.ensures.store c.in_ok-first.ensures.ok c.store-2.ensures.store c.in_err-second.ensures.kept c.in_err-second.ensures.within;
    })

pub returns-clause-ok : goal.returns-clause-ok
returns-clause-ok c = record {
  first = rw (c.in_ok-first.ensures.ok, c.store.ensures.store) refl;
  second = rw (c.in_ok-second.ensures.ok, c.store-2.ensures.store, c.in_ok-first.ensures.ok, c.store.ensures.store, join_again c.args.a.now.store c.args.b.now.store) refl;
  first_changed = c.in_ok-first.ensures.changed;
  second_changed = c.in_ok-second.ensures.changed;
}
