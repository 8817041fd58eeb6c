use Rattle.std.proofs.Common.{[], inl, inr, ⊎_elim}
use Rattle.node_commands.proofs.works.do_work.Goals as goal

pub returns-in-History-clause-crash : goal.returns-in-History-clause-crash
returns-in-History-clause-crash g c honest = ([], λ left is. inl (c.write_history.ensures.crash honest left is))

pub returns-in-History-clause-kept : goal.returns-in-History-clause-kept
returns-in-History-clause-kept g c refused is =
    ⊎_elim (λ spent. inl spent) (λ held. inr (c.write_history.ensures.replica, held)) (c.write_history.ensures.spent refused is)

pub returns-in-Log-clause-crash : goal.returns-in-Log-clause-crash
returns-in-Log-clause-crash g c honest = ([], λ left is. inl (c.write_log.ensures.crash honest left is))

pub returns-in-Log-clause-kept : goal.returns-in-Log-clause-kept
returns-in-Log-clause-kept g c refused is =
    ⊎_elim (λ spent. inl spent) (λ held. inr (c.write_log.ensures.replica, held)) (c.write_log.ensures.spent refused is)

pub returns-in-Peers-clause-crash : goal.returns-in-Peers-clause-crash
returns-in-Peers-clause-crash g c honest = ([], λ left is. inl (c.write_peers.ensures.crash honest left is))

pub returns-in-Peers-clause-kept : goal.returns-in-Peers-clause-kept
returns-in-Peers-clause-kept g c refused is =
    ⊎_elim (λ spent. inl spent) (λ held. inr (c.write_peers.ensures.replica, held)) (c.write_peers.ensures.spent refused is)

pub returns-in-Content-clause-crash : goal.returns-in-Content-clause-crash
returns-in-Content-clause-crash g c honest = ([], λ left is. inl (c.write_content.ensures.crash honest left is))

pub returns-in-Content-clause-kept : goal.returns-in-Content-clause-kept
returns-in-Content-clause-kept g c refused is =
    ⊎_elim (λ spent. inl spent) (λ held. inr (c.write_content.ensures.replica, held)) (c.write_content.ensures.spent refused is)
