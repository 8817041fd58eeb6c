use Rattle.crowds.proofs.crowding.crowd.Given as goal

-- the blank that was just made
abbrev pub ghosts-crowd_at : goal.ghosts-crowd_at
ghosts-crowd_at g a = record { book = a.blank.book; seats = a.blank.seats; opening = a.blank.opening }
