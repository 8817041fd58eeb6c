use Rattle.worked_threads.proofs.nodes.answer_threads.Given as goal

-- the new blank
abbrev pub ghosts-work_threads : goal.ghosts-work_threads
ghosts-work_threads g a = record { book = a.blank.book; seats = a.blank.seats; opening = a.blank.opening }
