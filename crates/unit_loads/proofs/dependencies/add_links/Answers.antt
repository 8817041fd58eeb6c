use Rattle.unit_loads.proofs.{Prelude.{[], link_notes, linked_by}, Steps.{link_notes-append, linked_by-append, made_more}}
use Rattle.unit_loads.proofs.dependencies.add_links.Goals as goal

pub loop-link-preserved : goal.loop-link-preserved
loop-link-preserved c =
    let unit = c.args.unit.now in
    let dep = c.args.dep in (
      made_more (linked_by unit) (linked_by-append unit) c.loop-link.yielded c.in-Some.link [] c.loop-link.linked c.add_link.new.names c.loop-link.invariant.0 c.in_ok-add_link.ensures.names,
      made_more (link_notes unit dep) (link_notes-append unit dep) c.loop-link.yielded c.in-Some.link c.args.notes.now c.loop-link.notes c.add_link.new.notes c.loop-link.invariant.1 c.in_ok-add_link.ensures.notes,
    )
