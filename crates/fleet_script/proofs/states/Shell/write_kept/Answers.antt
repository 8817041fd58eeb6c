use Rattle.fleet_script.proofs.{Beginnings.{first_held, none_held, none_there}, Runs.{on_ok, or_then}, Prelude.{ap, kept_in, List, Replicated, slice_get, sym, ◌∙◌}}
use Rattle.fleet_script.proofs.states.Shell.write_kept.Goals as goal

pub returns-in-Some-clause-held : goal.returns-in-Some-clause-held
returns-in-Some-clause-held g c =
    on_ok c.write_kept.result _ _ c.write_kept.ensures.held
    (first_held (kept_in c.args.self.now) c.in-Some.node.now c.store.result.now (g.H.Home.holds c.args.home.now) (g.H.Home.holds c.write_kept.new.home)
    (ap (λ (ns : List Replicated). slice_get ns 0) (sym c.deref.ensures.value) ∙ sym c.in-Some.ensures.value)
    (c.store.ensures.store ∙ ap (λ (r : Replicated). r.store) c.replica.ensures.replica))

pub returns-in-Some-clause-first : goal.returns-in-Some-clause-first
returns-in-Some-clause-first g c =
    or_then c.write_kept.ensures.first
    (first_held (kept_in c.args.self.now) c.in-Some.node.now c.store.result.now (g.H.Home.holds c.args.home.now) (g.H.Home.holds c.write_kept.new.home)
    (ap (λ (ns : List Replicated). slice_get ns 0) (sym c.deref.ensures.value) ∙ sym c.in-Some.ensures.value)
    (c.store.ensures.store ∙ ap (λ (r : Replicated). r.store) c.replica.ensures.replica))

pub returns-in-None-clause-held : goal.returns-in-None-clause-held
returns-in-None-clause-held g c =
    on_ok c.write_kept-in-None.result _ _ c.write_kept-in-None.ensures.held
    (none_held (kept_in c.args.self.now) c.new.result (g.H.Home.holds c.args.home.now) (g.H.Home.holds c.write_kept-in-None.new.home)
    (none_there c.args.self.now.nodes.items (c.in-None.ensures.value ∙ ap (λ (ns : List Replicated). slice_get ns 0) c.deref.ensures.value))
    c.new.ensures.empty)

pub returns-in-None-clause-first : goal.returns-in-None-clause-first
returns-in-None-clause-first g c =
    or_then c.write_kept-in-None.ensures.first
    (none_held (kept_in c.args.self.now) c.new.result (g.H.Home.holds c.args.home.now) (g.H.Home.holds c.write_kept-in-None.new.home)
    (none_there c.args.self.now.nodes.items (c.in-None.ensures.value ∙ ap (λ (ns : List Replicated). slice_get ns 0) c.deref.ensures.value))
    c.new.ensures.empty)
