use Rattle.std.proofs.Common.{◌++◌, ◌+◌, ◌<◌, ◌∷◌, ◌≡◌, ◌≤◌}
use Rattle.shared_node.proofs.Prelude.{[], ap, arith, counter_of, get_or, get_or_read, HistoryEvent, length, List, rules, slice_index, slice_set, subst, sym, takes_in, takes_of, takes_of-within, ℕ, ◌∙◌}
use Rattle.shared_node.proofs.Counting.{counted}
use Rattle.shared_node.proofs.account.Account.add.Goals as goal

pub invariant_of-self : goal.invariant_of-self
invariant_of-self g c =
    let seat = c.args.seat in
    let old = c.self.inside in
    let taken = c.requires.taken in
    let x : HistoryEvent = taken.0 in
    let h : List HistoryEvent = c.prefix.result in
    let was = c.index_mut.result.now in
    let more : List ℕ = slice_set old.counts.items seat (was + 1) in
    let prefix : h ≡ old.prefix ++ x ∷ [] = c.prefix.ensures.seen ∙ taken.1 ∙ ap (λ (k : List HistoryEvent). k ++ x ∷ []) (sym (ap (λ a. a.takes) c.self.view_is)) in
    let there : seat < length old.counts.items = omega (arith, c.requires.seat, ap (λ a. a.seats) c.self.view_is) in
    let Q : List HistoryEvent → Type 0 = λ k. (s : ℕ) → s < length more → slice_index more s ≡ takes_of s k in
    let counter : c.counter-self-inside.result ≡ counter_of h = search rules in
    let read : was ≡ get_or old.counts.items seat was = search rules in
    let is : was ≡ slice_index old.counts.items seat = get_or_read old.counts.items seat was there read 0 in
    let all : (s : ℕ) → s < length more → slice_index more s ≡ takes_of s (old.prefix ++ x ∷ []) =
    subst (λ (n : ℕ). (s : ℕ) → s < length (slice_set old.counts.items seat (n + 1)) → slice_index (slice_set old.counts.items seat (n + 1)) s ≡ takes_of s (old.prefix ++ x ∷ []))
    (sym is) (counted old.counts.items old.prefix x seat taken.2 there c.self.invariant.1) in
    (counter, subst Q (sym prefix) all)

pub overflow_add-index_mut : goal.overflow_add-index_mut
overflow_add-index_mut g c =
    let seat = c.args.seat in
    let old = c.self.inside in
    let there : seat < length old.counts.items = omega (arith, c.requires.seat, ap (λ a. a.seats) c.self.view_is) in
    let now : slice_index old.counts.items seat ≡ takes_of seat old.prefix = c.self.invariant.1 seat there in
    let within : takes_of seat old.prefix ≤ takes_in old.prefix = takes_of-within g.N.NodeName.opening seat old.prefix c.legal_history.ensures.legal in
    let same : takes_in old.prefix ≡ takes_in c.args.self.now.takes = ap (λ a. takes_in a.takes) c.self.view_is in
    let was = c.index_mut.result.now in
    let read : was ≡ get_or old.counts.items seat was = search rules in
    let is : was ≡ slice_index old.counts.items seat = get_or_read old.counts.items seat was there read 0 in
    omega (arith, c.requires.room)
