-- What a node took, defined from the events alone.
-- Source (causal history): Shapiro, Preguica, Baquero, Zawirski 2011.
use Rattle.std.proofs.Common.{◌++◌, ◌<◌, ◌↔◌, ◌∷◌, ◌≡◌}
use Rattle.world_law.specs.Prelude.{[], Edit, edit_of, edits_of, Entry, entry_of, EntryMap, IfSome, IsAmong, IsBelow, IsSome, length, List, Option, PlaceParts, reverse, slice_get, Some, true, ℕ}
use Rattle.world_law.specs.{Cuts.{AreToldApart, is_asked}, declared.events.Event.{Event, TheVariants.{Cut, Give, Put}}, Worlds.{after, Asked, blank, EventWorld, happens, Piece, puts_of, took}}
use Rattle.std.specs.FinMap as finmap

-- a world of n nodes after a history, whose newest event comes first
abbrev pub world_of : ℕ → List Event → EventWorld
world_of n [] = blank n
world_of n (e ∷ es) = happens (world_of n es) e

-- piece p of a history was cut by node j for ask a at the given places, after an earlier history
pub record WasCut (n : ℕ) (history : List Event) (p : ℕ) (earlier : List Event) (j a : ℕ) (places : Option (List PlaceParts)) : Type 0 where
  pub later : List Event
  pub is : history ≡ later ++ Cut j a places ∷ earlier
  pub number : length (world_of n earlier).pieces ≡ p
  pub by_node : IsSome (slice_get (world_of n earlier).nodes j)
  pub for_ask : IsSome (slice_get (world_of n earlier).asks a)

-- ask a was made by node k
abbrev pub IsAskOf : EventWorld → ℕ → ℕ → Type 0
IsAskOf w a k = (ask : Asked) × (slice_get w.asks a ≡ Some ask) × (ask.node ≡ k)

-- after this history node k has taken e
pub data Took (n : ℕ) : List Event → ℕ → Edit → Type 0 where
  -- the node put e
  put : {history : List Event} {k : ℕ} {e : Edit} → k < n → Took n (Put k e ∷ history) k e
  -- e is an entry of a piece that was given to the node
  entry : {history : List Event} {p k : ℕ} {e : Edit} (piece : Piece) → k < n → slice_get (world_of n history).pieces p
      ≡ Some piece → IsAmong e (edits_of piece.entries) → Took n (Give p k ∷ history) k e
  -- the piece was cut for the node's own ask, and the cutting node had taken e before, at one of the places
  whole : {history : List Event} {p k : ℕ} {e : Edit} (earlier : List Event) (j a : ℕ)
      (places : Option (List PlaceParts)) → k < n → WasCut n history p earlier j a places
      → IsAskOf (world_of n earlier) a k →
      is_asked e.place places ≡ true → Took n earlier j e → Took n (Give p k ∷ history) k e
  -- the node took e earlier
  stays : {history : List Event} {k : ℕ} {e : Edit} (event : Event) → Took n history k e → Took n (event ∷ history) k e

-- at each place the greatest of the edits for which T holds, and nothing else
pub record IsSumOf (T : Edit → Type 0) (s : EntryMap) : Type 0 where
  pub above : (e : Edit) → T e → IsBelow (Some (entry_of e)) (finmap.get s e.place)
  pub found : (q : PlaceParts) (x : Entry) → finmap.get s q ≡ Some x → T (edit_of (q, x))

-- each node's store is the sum of what the node took
abbrev pub HoldsTheSum : ℕ → List Event → Type 0
HoldsTheSum n events =
    AreToldApart (puts_of n events) → (k : ℕ) → IfSome (slice_get (after events (blank n)).nodes k) (λ node. IsSumOf (Took n (reverse events) k) node.store)

-- the list and the relation agree on what node k took
abbrev pub TookByEvents : ℕ → List Event → Type 0
TookByEvents n events = (k : ℕ) (e : Edit) → IsAmong e (took (after events (blank n)) k) ↔ Took n (reverse events) k e
