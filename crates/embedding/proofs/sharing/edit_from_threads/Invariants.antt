use Rattle.embedding.proofs.sharing.edit_from_threads.Given as goal

-- the new blank
abbrev pub ghosts-share_at : goal.ghosts-share_at
ghosts-share_at g a = record { book = a.blank.book; seats = a.blank.seats; opening = a.blank.opening }
