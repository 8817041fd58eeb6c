use Rattle.join_maps.proofs.Prelude.{[]}
use Rattle.chunked_pairs.specs.EditLaws.{length_with}
use Rattle.join_law.specs.OutcomeLaws.{by_outcome, on_err, on_err_weaker, on_ok_weaker}
use Rattle.join_maps.proofs.RunSteps.{edit_between, edit_joined, edit_mapped, IsRunEdit, join_between, known_in_run, put_back, put_same, run_is_map}
use Rattle.join_maps.proofs.merges.join_in_run.Given.{Over}
use Rattle.join_maps.proofs.merges.join_in_run.Goals as goal

pub join_copies-outcome-requires-clause-map : goal.join_copies-outcome-requires-clause-map
join_copies-outcome-requires-clause-map g c = rw c.take-run.ensures.run
    (run_is_map g.K.Ord.cmp g.met.K.Ord.total g.V.Join.is_valid g.V.Join.below g.met.V.Join.reflexive g.met.V.Join.transitive g.V.Join.join g.met.V.Join.joins c.args.chunks.now c.requires.map c.args.at c.requires.within)

pub put-requires : goal.put-requires
put-requires g c = record { within = rw (c.take-run.ensures.left, length_with c.args.chunks.now.0 c.args.chunks.now.1 c.args.at []) c.requires.within }

edit : (g : Over) (c : goal.After-put g) → IsRunEdit g.K.Ord.cmp g.V.Join.is_valid g.V.Join.below c.args.chunks.now c.args.at c.args.pairs.now c.join_copies-outcome.new.pairs.items c.put.new.self
edit g c =
    let joined = rw c.take-run.ensures.run at c.join_copies-outcome.ensures.joined in
    record {
      mapped = c.requires.map;
      within = c.requires.within;
      falls = c.requires.falls;
      room = c.requires.room;
      map = joined.map;
      between = by_outcome c.join_copies-outcome.result
          (join_between g.K.Ord.cmp g.V.Join.below g.met.V.Join.reflexive g.met.V.Join.transitive _ _ _)
          (λ between. between)
          joined.ok joined.refused;
      put_is = put_back c.args.chunks.now c.take-run.new.self c.put.new.self c.args.at c.join_copies-outcome.new.pairs.items c.take-run.ensures.left c.put.ensures.put;
    }

pub returns-clause-chunks : goal.returns-clause-chunks
returns-clause-chunks g c = (edit_mapped g.K.Ord.cmp g.met.K.Ord.total g.V.Join.is_valid g.V.Join.below g.met.V.Join.reflexive g.met.V.Join.transitive g.V.Join.join g.met.V.Join.joins _ _ _ _ _ (edit g c)).chunks

pub returns-clause-joined : goal.returns-clause-joined
returns-clause-joined g c =
    let joined = rw c.take-run.ensures.run at c.join_copies-outcome.ensures.joined in
    record {
      map = (edit_mapped g.K.Ord.cmp g.met.K.Ord.total g.V.Join.is_valid g.V.Join.below g.met.V.Join.reflexive g.met.V.Join.transitive g.V.Join.join g.met.V.Join.joins _ _ _ _ _ (edit g c)).map;
      ok = on_ok_weaker c.join_copies-outcome.result (edit_joined g.K.Ord.cmp g.met.K.Ord.total g.V.Join.is_valid g.V.Join.below g.met.V.Join.reflexive g.met.V.Join.transitive g.V.Join.join g.met.V.Join.joins _ _ _ _ _ (edit g c)) joined.ok;
      refused = on_err c.join_copies-outcome.result (edit_between g.K.Ord.cmp g.met.K.Ord.total g.V.Join.is_valid g.V.Join.below g.met.V.Join.reflexive g.met.V.Join.transitive g.V.Join.join g.met.V.Join.joins _ _ _ _ _ (edit g c));
      single = on_err_weaker c.join_copies-outcome.result (λ same single. put_same _ _ c.args.at _ (edit g c).put_is (same single)) joined.single;
    }

pub returns-clause-known : goal.returns-clause-known
returns-clause-known g c = λ known.
    (rw c.take-run.ensures.run at c.join_copies-outcome.ensures.known)
    (known_in_run g.K.Ord.cmp g.met.K.Ord.total g.V.Join.is_valid g.V.Join.below g.met.V.Join.reflexive g.met.V.Join.transitive g.V.Join.join g.met.V.Join.joins c.args.chunks.now c.requires.map c.args.at c.requires.within c.args.pairs.now c.requires.falls known)
