-- Codes of what contracts see of a node's parts.
-- Source: this project's own.
use Rattle.logbook.specs.Pages.{Book, book_coded}
use Rattle.shared_node.specs.Prelude.{code_by, Coded, coded_history, coded_replicated, coded_ℕ, coded×, HistoryEvent, List, refl, Replicated, ℕ}
use Rattle.shared_node.specs.{Accounts.{AccountNow}, Blanks.{BlankNow}, Keepers.{KeeperNow}, Posts.{PostNow}, Seats.{SeatNow}}

abbrev pub coded_seat : Coded SeatNow
coded_seat = code_by (List HistoryEvent × (ℕ × ℕ)) (coded× coded_history (coded× coded_ℕ coded_ℕ)) (λ s. (s.seen, (s.calls, s.number))) (λ p. record { seen = p.0; calls = p.1.0; number = p.1.1 }) (λ _. refl)

abbrev pub coded_post : Coded PostNow
coded_post = code_by (List HistoryEvent × List HistoryEvent) (coded× coded_history coded_history) (λ s. (s.shown, s.due)) (λ p. record { shown = p.0; due = p.1 }) (λ _. refl)

abbrev pub coded_account : Coded AccountNow
coded_account = code_by (List HistoryEvent × ℕ) (coded× coded_history coded_ℕ) (λ s. (s.takes, s.seats)) (λ p. record { takes = p.0; seats = p.1 }) (λ _. refl)

abbrev pub coded_keeper : Coded KeeperNow
coded_keeper = code_by (List HistoryEvent × (List HistoryEvent × ℕ)) (coded× coded_history (coded× coded_history coded_ℕ)) (λ s. (s.accepted, (s.shown, s.given))) (λ p. record { accepted = p.0; shown = p.1.0; given = p.1.1 }) (λ _. refl)

abbrev pub coded_blank : Coded BlankNow
coded_blank = code_by (Book × (Replicated × ℕ)) (coded× book_coded (coded× coded_replicated coded_ℕ)) (λ b. (b.book, (b.opening, b.seats))) (λ p. record { book = p.0; opening = p.1.0; seats = p.1.1 }) (λ _. refl)
