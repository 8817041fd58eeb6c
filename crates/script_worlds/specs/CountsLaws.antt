-- The greatest counter of a world grows by at most one when a node puts its next edit, and otherwise stays.
use Rattle.std.proofs.Common.{◌+◌, ◌<◌, ◌∷◌, ◌≡◌, ◌≤◌}
use Rattle.script_worlds.specs.Prelude.{[], ap, AreToldApart, arith, blank_sound, Content, Edit, Event, happens_keeps, high_among-least, high_of, high_of-sum_of, inl, inr, IsAmong, IsSound, length, List, None, Option, PlaceParts, Put, puts_first, puts_of, puts_of-Put, puts_rest, refl, slice_get, Some, subst, suc, took, took_by, world_of, ℕ}
use Rattle.script_worlds.specs.{Counts.{IsCountedTo, IsPutUpTo}, Validity.{IsValid, puts}, Worlds.{blank, happened, held, merged, merged_all, next_edit, ScriptWorld, state}}
use Rattle.world_law.specs.Worlds as worlds

-- What a node took was put.

sound_after : (n : ℕ) (all history : List Event) → AreToldApart (puts_of n all)
    → ((e : Edit) → IsAmong e (puts_of n history) → IsAmong e (puts_of n all))
    → IsSound n (λ e. IsAmong e (puts_of n all)) (world_of n history)
sound_after n all [] told within = blank_sound n (λ e. IsAmong e (puts_of n all))
sound_after n all (event ∷ history) told within =
    happens_keeps n (λ e. IsAmong e (puts_of n all)) told (world_of n history) event
    (sound_after n all history told (λ e a. within e (puts_rest n event history e a)))
    (λ e a. within e (puts_first n event history e a))

took_was_put : (world : ScriptWorld) → IsValid world → (k : ℕ) (e : Edit) → IsAmong e (took (state world) k) → IsAmong e (puts world)
took_was_put world valid k e a = by (slice_get (state world).nodes k) refl a
  where
    by : (o : Option worlds.Node) → slice_get (state world).nodes k ≡ o → IsAmong e (took_by o) → IsAmong e (puts world)
    by None at a = absurd a
    by (Some node) at a = ((sound_after (length world.nodes) world.events world.events valid.told (λ f b. b)).nodes k node at).puts e a

-- no node holds a greater counter than was put
pub counted : (n : ℕ) (world : ScriptWorld) → IsValid world → IsPutUpTo n world → IsCountedTo n world
counted n world valid up = record {
  edits = up;
  stores = λ k.
      let most = high_among-least (took (state world) k) n (λ e a. up e (took_was_put world valid k e a)) in
      omega (arith, high_of-sum_of (took (state world) k));
}

-- One more step.

pub put_blank : IsPutUpTo 0 blank
put_blank e a = absurd a

-- the same edits were put
pub put_same : (n : ℕ) (old new : ScriptWorld) → puts new ≡ puts old → IsPutUpTo n old → IsPutUpTo (suc n) new
put_same n old new same up e a = let most = up e (subst (λ (es : List Edit). IsAmong e es) same a) in omega arith

-- a node put its next edit
pub put_next : (n : ℕ) (world : ScriptWorld) (i : ℕ) (place : PlaceParts) (content : Content) → IsValid world
    → i < length world.nodes → IsPutUpTo n world
    → IsPutUpTo (suc n) (happened world (Put i (next_edit world i place content)))
put_next n world i place content valid lt up f a = by (subst (λ (es : List Edit). IsAmong f es) (puts_of-Put (length world.nodes) world.events i e lt) a)
  where
    e : Edit
    e = next_edit world i place content

    by : IsAmong f (e ∷ puts world) → f.version.counter ≤ suc n
    by (inl same) =
        let most = (counted n world valid up).stores i in
        let counter : high_of (held world i) + 1 ≡ f.version.counter = ap (λ (g : Edit). g.version.counter) same in
        omega arith
    by (inr b) = let most = up f b in omega arith

-- merges put nothing
pub puts_merged_all : (world : ScriptWorld) (pairs : List (ℕ × ℕ)) → puts (merged_all world pairs) ≡ puts world
puts_merged_all world [] = refl
puts_merged_all world (pair ∷ pairs) = puts_merged_all (merged world pair.0 pair.1) pairs
