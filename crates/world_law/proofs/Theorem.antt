-- The theorem for complete lists of events.
use Rattle.std.proofs.Common.{◌++◌, ◌↔◌, ◌∷◌, ◌≡◌}
use Rattle.world_law.proofs.Prelude.{[], after, after_keeps, AreSameEdits, AreToldApart, Ask, blank, blank_sound, cond, Cut, EachStoreIsItsSum, EachStoreIsLeast, Edit, EntryMap, Event, false, Give, IfSome, inl, inr, IsAboveEdits, IsAmong, IsSound, IsStoreBelow, List, nat_lt, Node, None, Option, Put, puts_of, refl, SameTookSameStore, slice_get, Some, subst, sum_of-least, sum_of-same_edits, sym, true, ℕ, ◌∙◌}

pub IfSome_from : (o : Option Node) (P : Node → Type 0) → ((n : Node) → o ≡ Some n → P n) → IfSome o P
IfSome_from None P h = tt
IfSome_from (Some n) P h = h n refl

puts_of-append_left : (n : ℕ) (xs ys : List Event) (e : Edit) → IsAmong e (puts_of n xs) → IsAmong e (puts_of n (xs ++ ys))
puts_of-append_left n [] ys e a = absurd a
puts_of-append_left n (Put i f ∷ xs) ys e a =
    elim (nat_lt i n) as (λ b. IsAmong e (cond b (f ∷ puts_of n xs) (puts_of n xs)) → IsAmong e (cond b (f ∷ puts_of n (xs ++ ys)) (puts_of n (xs ++ ys)))) [
      | true ↦ λ h. elim h [ inl same ↦ inl same | inr rest ↦ inr (puts_of-append_left n xs ys e rest) ]
      | false ↦ λ h. puts_of-append_left n xs ys e h
    ] a
puts_of-append_left n (Ask i ∷ xs) ys e a = puts_of-append_left n xs ys e a
puts_of-append_left n (Cut j b places ∷ xs) ys e a = puts_of-append_left n xs ys e a
puts_of-append_left n (Give p k ∷ xs) ys e a = puts_of-append_left n xs ys e a

run_sound : (n : ℕ) (all events : List Event) → AreToldApart (puts_of n all) → ((e : Edit) → IsAmong e (puts_of n events) → IsAmong e (puts_of n all)) → IsSound n (λ e. IsAmong e (puts_of n all)) (after events (blank n))
run_sound n all events apart puts =
    after_keeps n (λ e. IsAmong e (puts_of n all)) apart events (blank n) (blank_sound n (λ e. IsAmong e (puts_of n all))) puts

pub each_store_is_its_sum : (n : ℕ) (events : List Event) → EachStoreIsItsSum n events
each_store_is_its_sum n events apart k =
    IfSome_from _ _ (λ node h. ((run_sound n events events apart (λ e a. a)).nodes k node h).is_sum)

pub each_store_is_least : (n : ℕ) (events : List Event) → EachStoreIsLeast n events
each_store_is_least n events apart k =
    IfSome_from (slice_get (after events (blank n)).nodes k) (λ node. (s : EntryMap) → IsStoreBelow node.store s ↔ IsAboveEdits node.took s)
    (λ node h s. (let P : EntryMap → Type 0 = λ t. IsStoreBelow t s ↔ IsAboveEdits node.took s in
    subst P (sym ((run_sound n events events apart (λ e a. a)).nodes k node h).is_sum) (sum_of-least node.took s)))

pub same_took_same_store : (n : ℕ) (before later : List Event) → SameTookSameStore n before later
same_took_same_store n before later apart k l =
    let early = run_sound n (before ++ later) before apart (puts_of-append_left n before later) in
    let late = run_sound n (before ++ later) (before ++ later) apart (λ e a. a) in
    let one_store : (a b : Node) → slice_get (after before (blank n)).nodes k ≡ Some a → slice_get (after (before ++ later) (blank n)).nodes l ≡ Some b → AreSameEdits a.took b.took → a.store ≡ b.store =
    λ a b ha hb same. (early.nodes k a ha).is_sum ∙ sum_of-same_edits a.took b.took same.0 same.1 ∙ sym (late.nodes l b hb).is_sum
    in
    IfSome_from (slice_get (after before (blank n)).nodes k) (λ a. IfSome (slice_get (after (before ++ later) (blank n)).nodes l) (λ b. AreSameEdits a.took b.took → a.store ≡ b.store))
    (λ a ha. IfSome_from (slice_get (after (before ++ later) (blank n)).nodes l) (λ b. AreSameEdits a.took b.took → a.store ≡ b.store) (λ b hb. one_store a b ha hb))
