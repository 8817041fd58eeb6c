use Rattle.std.proofs.Common.{◌++◌, ◌↔◌, ◌≡◌, ◌≤◌}
use Rattle.start_order.proofs.{Frees.{found, left_of_both}, Prelude.{IsAmong, IsAmong-append_left, IsAmong-append_right, IsLeastIn, List, MatchOption, None, Option, Some, subst, sym, ℕ}}
use Rattle.start_order.proofs.free.Free.take_least.Goals as goal

-- what was found is none, or the least
module _ (whole : List ℕ) (r : Option ℕ) (m : MatchOption r ((v : ℕ) → ¬ IsAmong v whole) (IsLeastIn whole)) where
  none_found : r ≡ None → (v : ℕ) → ¬ IsAmong v whole
  none_found e = let P : Option ℕ → Type 0 = λ o. MatchOption o ((v : ℕ) → ¬ IsAmong v whole) (IsLeastIn whole) in subst P e m

  one_found : (x : ℕ) → r ≡ Some x → IsLeastIn whole x
  one_found x e = let P : Option ℕ → Type 0 = λ o. MatchOption o ((v : ℕ) → ¬ IsAmong v whole) (IsLeastIn whole) in subst P e m

-- the least of both is at most each of them
module _ (first later whole : List ℕ) (x : ℕ) (e : first ++ later ≡ whole) (l : IsLeastIn whole x) where
  below_first : (v : ℕ) → IsAmong v first → x ≤ v
  below_first v h = let P : List ℕ → Type 0 = λ k. IsAmong v k in l.1 v (subst P e (IsAmong-append_left v first later h))

  below_later : (v : ℕ) → IsAmong v later → x ≤ v
  below_later v h = let P : List ℕ → Type 0 = λ k. IsAmong v k in l.1 v (subst P e (IsAmong-append_right v first later h))

pub returns-in_err-least-clause-least : goal.returns-in_err-least-clause-least
returns-in_err-least-clause-least c =
    let m = found _ _ c.args.self.now _ _ c.lesser.result c.self.view_is c.lesser.ensures c.prefix_of.ensures c.first_of.ensures in
    let P : Option ℕ → Type 0 = λ o. MatchOption o ((v : ℕ) → ¬ IsAmong v c.args.self.now) (IsLeastIn c.args.self.now) in
    subst P (sym c.from_residual.ensures) (none_found c.args.self.now c.lesser.result m c.in_err-least.was)

pub returns-in_err-least-clause-rest : goal.returns-in_err-least-clause-rest
returns-in_err-least-clause-rest c =
    let m = found _ _ c.args.self.now _ _ c.lesser.result c.self.view_is c.lesser.ensures c.prefix_of.ensures c.first_of.ensures in
    let P : Option ℕ → Type 0 = λ o. MatchOption o ((v : ℕ) → ¬ IsAmong v c.args.self.now) (λ u. (v : ℕ) → IsAmong v c.args.self.now ↔ (IsAmong v c.args.self.now × ¬ (u ≡ v))) in
    subst P (sym c.from_residual.ensures) (none_found c.args.self.now c.lesser.result m c.in_err-least.was)

pub drop_prefix-requires-clause-least : goal.drop_prefix-requires-clause-least
drop_prefix-requires-clause-least c =
    let m = found _ _ c.args.self.now _ _ c.lesser.result c.self.view_is c.lesser.ensures c.prefix_of.ensures c.first_of.ensures in
    below_first c.self.inside.first.items c.self.inside.later.keys c.args.self.now c.in_ok-least.least c.self.view_is (one_found c.args.self.now c.lesser.result m c.in_ok-least.least c.in_ok-least.was)

pub drop_first-requires : goal.drop_first-requires
drop_first-requires c =
    let m = found _ _ c.args.self.now _ _ c.lesser.result c.self.view_is c.lesser.ensures c.prefix_of.ensures c.first_of.ensures in
    record { least = below_later c.self.inside.first.items c.self.inside.later.keys c.args.self.now c.in_ok-least.least c.self.view_is (one_found c.args.self.now c.lesser.result m c.in_ok-least.least c.in_ok-least.was) }

pub returns-clause-least : goal.returns-clause-least
returns-clause-least c =
    let m = found _ _ c.args.self.now _ _ c.lesser.result c.self.view_is c.lesser.ensures c.prefix_of.ensures c.first_of.ensures in
    one_found c.args.self.now c.lesser.result m c.in_ok-least.least c.in_ok-least.was

pub returns-clause-rest : goal.returns-clause-rest
returns-clause-rest c =
    let first = c.self.inside.first.items in
    let later = c.self.inside.later.keys in
    let P : List ℕ → Type 0 = λ l. (v : ℕ) → IsAmong v (c.drop_prefix.new.nodes.items ++ c.drop_first.new.nodes.keys) ↔ (IsAmong v l × ¬ (c.in_ok-least.least ≡ v)) in
    subst P c.self.view_is (left_of_both first later c.drop_prefix.new.nodes.items c.drop_first.new.nodes.keys c.in_ok-least.least c.drop_prefix.ensures.rest c.drop_first.ensures.rest)
