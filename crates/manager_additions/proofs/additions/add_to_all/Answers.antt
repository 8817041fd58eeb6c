use Rattle.manager_additions.proofs.Changed.{changed_step}
use Rattle.manager_additions.specs.Additions.{with_names}
use Rattle.manager_additions.proofs.additions.add_to_all.Goals as goal

pub loop-list-preserved : goal.loop-list-preserved
loop-list-preserved c =
    changed_step (with_names c.args.implied.now) c.args.lists.now c.loop-list.lists c.loop-list.list-index c.list-item.result c.add_implied.new.list c.loop-list-test.true
    c.loop-list.invariant c.in_ok-add_implied.ensures.list
