use Rattle.worked_threads.proofs.nodes.work_blank.Given as goal

-- the blank itself
abbrev pub ghosts-work_node : goal.ghosts-work_node
ghosts-work_node g a = record { book = a.blank.book; seats = a.blank.seats; opening = a.blank.opening }
