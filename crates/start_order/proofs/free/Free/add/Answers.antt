use Rattle.std.proofs.Common.{◌++◌, ◌↔◌, ◌≡◌, ◌⊎◌}
use Rattle.start_order.proofs.{Keys.{IsAmong-insert_key}, Prelude.{inl, inr, IsAmong, IsAmong-append_cases, IsAmong-append_left, IsAmong-append_right, List, subst, sym, ℕ}}
use Rattle.start_order.proofs.free.Free.add.Goals as goal

-- a key is inserted after the first ones
put_in : (first old new : List ℕ) (k : ℕ) → ((v : ℕ) → IsAmong v new ↔ (IsAmong v old ⊎ (k ≡ v))) → (v : ℕ) → IsAmong v (first ++ new) ↔ (IsAmong v (first ++ old) ⊎ (k ≡ v))
put_in first old new k h v = (
  λ a. elim (IsAmong-append_cases v first new a) [
    | inl b ↦ inl (IsAmong-append_left v first old b)
    | inr b ↦ elim ((h v).0 b) [ inl d ↦ inl (IsAmong-append_right v first old d) | inr e ↦ inr e ]
  ],
  λ a. elim a [
    | inl b ↦ elim (IsAmong-append_cases v first old b) [ inl d ↦ IsAmong-append_left v first new d | inr d ↦ IsAmong-append_right v first new ((h v).1 (inl d)) ]
    | inr e ↦ IsAmong-append_right v first new ((h v).1 (inr e))
  ],
)

pub returns : goal.returns
returns c =
    let old = c.self.inside.later.keys in
    let P : List ℕ → Type 0 = λ l. (v : ℕ) → IsAmong v l ↔ (IsAmong v old ⊎ (c.args.node ≡ v)) in
    let Q : List ℕ → Type 0 = λ l. (v : ℕ) → IsAmong v (c.self.inside.first.items ++ c.insert.new.self.keys) ↔ (IsAmong v l ⊎ (c.args.node ≡ v)) in
    record { added = subst Q c.self.view_is (put_in c.self.inside.first.items old c.insert.new.self.keys c.args.node (subst P (sym c.in_ok-insert.ensures.keys) (IsAmong-insert_key old c.args.node))) }
