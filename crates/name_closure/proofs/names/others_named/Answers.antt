use Rattle.std.proofs.Common.{◌<◌, ◌≡◌}
use Rattle.name_closure.proofs.Prelude.{All-append, All-get_or, ap, AreOthers, arith, common_steps, keys_of, length, rules, subst, sym, take}
use Rattle.name_closure.proofs.{Others.{key_at, made_more, others_after, others_of_members, others_of_same}, Rounding.{holds_among, holds_of_part}}
use Rattle.name_closure.proofs.names.others_named.Goals as goal

pub loop-one-preserved : goal.loop-one-preserved
loop-one-preserved g c =
    let loader = c.args.loader.now in
    let part = c.args.part.now in
    let own = keys_of c.args.pairs.now in
    let pair = c.loop-one-item.result in
    let within : c.loop-one.one-index < length part = search rules in
    let is = c.loop-one-item.is in
    let node =
    holds_among (g.L.Loads.is_node loader) (keys_of part) pair.0 c.requires.nodes
    (key_at pair.0 part c.loop-one.one-index pair within (ap (λ (p : g.row.K.Denot × g.row.L-Loaded.Denot). p.0) (sym is))) in
    let loaded =
    subst (λ (p : g.row.K.Denot × g.row.L-Loaded.Denot). g.L.Loads.is_loaded loader p.0 p.1) (sym is)
    (All-get_or (λ (p : g.row.K.Denot × g.row.L-Loaded.Denot). g.L.Loads.is_loaded loader p.0 p.1) part c.loop-one.one-index pair within c.requires.loaded) in
    let added =
    others_of_members own c.loop-one.names.items c.in_ok-more.more.items c.each_once.result.items c.add_others.new.names.items c.each_once.ensures.members c.in_ok-add_others.ensures.added in
    record {
      others =
          subst (λ v. AreOthers own v c.add_others.new.names.items)
          (made_more (λ (p : g.row.K.Denot × g.row.L-Loaded.Denot). g.L.Loads.named loader p.1) part c.loop-one.one-index pair pair c.in_ok-more.more.items within is c.in_ok-more.ensures.named)
          (others_after own _ c.loop-one.names.items c.in_ok-more.more.items c.add_others.new.names.items c.loop-one.invariant.others added);
      apart = λ ascending. c.in_ok-add_others.ensures.apart ascending (c.loop-one.invariant.apart ascending);
      nodes =
          holds_of_part (g.L.Loads.is_node loader) _ c.add_others.new.names.items
          (All-append (g.L.Loads.is_node loader) c.loop-one.names.items c.in_ok-more.more.items c.loop-one.invariant.nodes (c.in_ok-more.ensures.nodes pair.0 node loaded))
          added.origin;
    }

pub returns-clause-others : goal.returns-clause-others
returns-clause-others g c =
    let own = keys_of c.args.pairs.now in
    let all : take c.loop-one.one-index c.args.part.now ≡ c.args.part.now = grind (arith, common_steps) in
    others_of_same own _ c.loop-one.names.items c.each_once-2.result.items c.each_once-2.ensures.members (rw all at c.loop-one.invariant.others)

pub returns-clause-nodes : goal.returns-clause-nodes
returns-clause-nodes g c =
    holds_of_part (g.L.Loads.is_node c.args.loader.now) c.loop-one.names.items c.each_once-2.result.items c.loop-one.invariant.nodes
    (λ n h. (c.each_once-2.ensures.members n).0 h)

pub returns-clause-apart : goal.returns-clause-apart
returns-clause-apart g c = λ ascending n h. c.loop-one.invariant.apart ascending n ((c.each_once-2.ensures.members n).0 h)
