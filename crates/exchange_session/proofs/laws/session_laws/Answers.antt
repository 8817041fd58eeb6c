use Rattle.exchange_session.proofs.{Parting.{cuts}, Replying.{openings_stand, quiet_ends, replies_stand}}
use Rattle.exchange_session.proofs.laws.session_laws.Goals as goal

pub returns : goal.returns
returns c = record { cuts = cuts; begins = openings_stand; goes_on = replies_stand; ends = quiet_ends }
