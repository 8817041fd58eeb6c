use Rattle.std.proofs.Common.{take, ◌≡◌}
use Rattle.node_meetings.specs.Meeting.{told_news}
use Rattle.node_meetings.proofs.meeting.told_news.Given as goal

abbrev pub invariant-loop-peer : goal.invariant-loop-peer
invariant-loop-peer l = l.news.items ≡ told_news l.head l.known (take l.peer-index l.told)
