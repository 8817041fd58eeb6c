use Rattle.node_meetings.proofs.Mutual.{meetings_are_mutual}
use Rattle.node_meetings.proofs.laws.meeting_laws.Goals as goal

pub returns : goal.returns
returns c = record { both = meetings_are_mutual }
