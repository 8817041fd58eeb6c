use Rattle.lasting_worlds.specs.{LifeEventLaws.{all_asked_for, lives_there}, LifeEvents.{held_by, nodes_of}, Prelude.{sum_of-same_edits}}
use Rattle.lasting_worlds.proofs.laws.lives_are_events.Goals as goal

pub returns : goal.returns
returns c = record {
  held = lives_there;
  puts = λ lives e m. all_asked_for (nodes_of lives) 0 lives e m;
  same = λ one other same. sum_of-same_edits (held_by one) (held_by other) same.0 same.1;
}
