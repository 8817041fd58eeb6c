-- How a world changes, event by event.
use Rattle.std.proofs.Common.{◌++◌, ◌<◌, ◌∷◌, ◌≡◌, ◌≢◌}
use Rattle.world_law.specs.Prelude.{[], ap, arith, cond-true, Edit, edits_of, entry_of, EntryMap, get_from_edits_of, inl, inr, IsAmong, IsAmong-append_cases, IsAmong-append_left, join, length, List, nat_lt, nat_tests, None, Option, PlaceParts, refl, replicate, slice_get, Some, subst, suc, sum_of, sum_of-IsSum, sym, true, zero, ℕ, ◌∙◌}
use Rattle.world_law.specs.{CutLaws.{whole_answer}, Cuts.{AreToldApart, at_places, cut, digest_of}, declared.events.Event.{Event, TheVariants.{Ask, Cut, Give, Put}}, SoundLaws.{blank_sound, happens_keeps, IsSound, puts_first, puts_rest}, Took.{world_of}, Worlds.{AreWithin, Asked, asked_by, changed_at, cut_for, edits_with, EventWorld, given_to, happens, Node, Piece, puts_of, taken, took, took_by, with_new_node}}
use Rattle.std.specs.FinMap as finmap

-- Nodes.

pub length-changed_at : (i : ℕ) (f : Node → Node) (ns : List Node) → length (changed_at i f ns) ≡ length ns
length-changed_at i f [] = refl
length-changed_at zero f (n ∷ ns) = refl
length-changed_at (suc i) f (n ∷ ns) = ap suc (length-changed_at i f ns)

-- the number of nodes never changes
pub node_count : (n : ℕ) (history : List Event) → length (world_of n history).nodes ≡ n
node_count n [] = count n
  where
    count : (m : ℕ) → length {A = Node} (replicate m (record { store = finmap.empty; took = [] })) ≡ m
    count zero = refl
    count (suc m) = ap suc (count m)
node_count n (Put i e ∷ es) = length-changed_at i (taken (sum_of (e ∷ [])) (e ∷ [])) (world_of n es).nodes ∙ node_count n es
node_count n (Ask i ∷ es) = by (slice_get (world_of n es).nodes i) (node_count n es)
  where
    by : (o : Option Node) → length (world_of n es).nodes ≡ n → length (asked_by (world_of n es) i o).nodes ≡ n
    by None h = h
    by (Some node) h = h
node_count n (Cut j a places ∷ es) = by (slice_get (world_of n es).nodes j) (slice_get (world_of n es).asks a) (node_count n es)
  where
    by : (o : Option Node) (q : Option Asked) → length (world_of n es).nodes ≡ n → length (cut_for (world_of n es) places o q).nodes ≡ n
    by None q h = h
    by (Some node) None h = h
    by (Some node) (Some ask) h = h
node_count n (Give p k ∷ es) = by (slice_get (world_of n es).pieces p) (node_count n es)
  where
    by : (o : Option Piece) → length (world_of n es).nodes ≡ n → length (given_to (world_of n es) k o).nodes ≡ n
    by None h = h
    by (Some piece) h = length-changed_at k (taken piece.entries (edits_with piece k)) (world_of n es).nodes ∙ h

there_is : {X : Type 0} (xs : List X) (i : ℕ) → i < length xs → (x : X) × (slice_get xs i ≡ Some x)
there_is [] i lt = absurd (omega arith)
there_is (x ∷ xs) zero lt = (x, refl)
there_is (x ∷ xs) (suc i) lt = there_is xs i (omega arith)

-- every index below that number belongs to a node
pub node_at : (n : ℕ) (history : List Event) (k : ℕ) → k < n → (node : Node) × (slice_get (world_of n history).nodes k ≡ Some node)
node_at n history k lt = there_is (world_of n history).nodes k (omega (arith, node_count n history))

-- One more node.

within_push : {X : Type 0} (xs : List X) (x : X) (i : ℕ) → i < length xs → slice_get (xs ++ x ∷ []) i ≡ slice_get xs i
within_push [] x i lt = absurd (omega arith)
within_push (y ∷ ys) x zero lt = refl
within_push (y ∷ ys) x (suc i) lt = within_push ys x i (omega arith)

changed_at-push : (i : ℕ) (f : Node → Node) (ns : List Node) (m : Node) → i < length ns
    → changed_at i f (ns ++ m ∷ []) ≡ changed_at i f ns ++ m ∷ []
changed_at-push i f [] m lt = absurd (omega arith)
changed_at-push zero f (n ∷ ns) m lt = refl
changed_at-push (suc i) f (n ∷ ns) m lt = ap (λ (ms : List Node). n ∷ ms) (changed_at-push i f ns m (omega arith))

replicate-push : (n : ℕ) (m : Node) → replicate (suc n) m ≡ replicate n m ++ m ∷ []
replicate-push zero m = refl
replicate-push (suc n) m = ap (λ (ms : List Node). m ∷ ms) (replicate-push n m)

-- a node that no event names changes nothing for the others
pub one_node_more : (n : ℕ) (history : List Event) → AreWithin n history → world_of (suc n) history ≡ with_new_node (world_of n history)
one_node_more n [] h = λ i. record { nodes = replicate-push n (record { store = finmap.empty; took = [] }) i; asks = []; pieces = [] }
one_node_more n (Put i e ∷ es) h =
    let w = world_of n es in
    ap (λ (v : EventWorld). happens v (Put i e)) (one_node_more n es h.1)
    ∙ (λ j. record { nodes = changed_at-push i (taken (sum_of (e ∷ [])) (e ∷ [])) w.nodes (record { store = finmap.empty; took = [] }) (omega (arith, node_count n es, h.0)) j; asks = w.asks; pieces = w.pieces })
one_node_more n (Ask i ∷ es) h =
    let w = world_of n es in
    ap (λ (v : EventWorld). happens v (Ask i)) (one_node_more n es h.1)
    ∙ ap (asked_by (with_new_node w) i) (within_push w.nodes _ i (omega (arith, node_count n es, h.0)))
    ∙ by (slice_get w.nodes i)
  where
    by : (o : Option Node) → asked_by (with_new_node (world_of n es)) i o ≡ with_new_node (asked_by (world_of n es) i o)
    by None = refl
    by (Some node) = refl
one_node_more n (Cut j a places ∷ es) h =
    let w = world_of n es in
    ap (λ (v : EventWorld). happens v (Cut j a places)) (one_node_more n es h.1)
    ∙ ap (λ (o : Option Node). cut_for (with_new_node w) places o (slice_get w.asks a)) (within_push w.nodes _ j (omega (arith, node_count n es, h.0)))
    ∙ by (slice_get w.nodes j) (slice_get w.asks a)
  where
    by : (o : Option Node) (q : Option Asked)
        → cut_for (with_new_node (world_of n es)) places o q ≡ with_new_node (cut_for (world_of n es) places o q)
    by None q = refl
    by (Some node) None = refl
    by (Some node) (Some ask) = refl
one_node_more n (Give p k ∷ es) h =
    ap (λ (v : EventWorld). happens v (Give p k)) (one_node_more n es h.1) ∙ by (node_count n es) (slice_get (world_of n es).pieces p)
  where
    by : length (world_of n es).nodes ≡ n → (o : Option Piece)
        → given_to (with_new_node (world_of n es)) k o ≡ with_new_node (given_to (world_of n es) k o)
    by count None = refl
    by count (Some piece) = λ j. record (world_of n es) { nodes = changed_at-push k (taken piece.entries (edits_with piece k)) (world_of n es).nodes (record { store = finmap.empty; took = [] }) (omega (arith, count, h.0)) j }

-- events within n nodes are events within more nodes
pub within_more : (n : ℕ) (history : List Event) → AreWithin n history → AreWithin (suc n) history
within_more n [] h = tt
within_more n (Put i e ∷ es) h = (let lt = h.0 in omega arith, within_more n es h.1)
within_more n (Ask i ∷ es) h = (let lt = h.0 in omega arith, within_more n es h.1)
within_more n (Cut j a places ∷ es) h = (let lt = h.0 in omega arith, within_more n es h.1)
within_more n (Give p k ∷ es) h = (let lt = h.0 in omega arith, within_more n es h.1)

lt_true : (i n : ℕ) → i < n → nat_lt i n ≡ true
lt_true i n lt = grind (arith, nat_tests)

-- and they put the same edits
pub puts_of-one_more : (n : ℕ) (history : List Event) → AreWithin n history → puts_of (suc n) history ≡ puts_of n history
puts_of-one_more n [] h = refl
puts_of-one_more n (Put i e ∷ es) h =
    let lt = h.0 in
    cond-true _ _ _ (lt_true i (suc n) (omega arith)) ∙ ap (λ (fs : List Edit). e ∷ fs) (puts_of-one_more n es h.1) ∙ sym (cond-true _ _ _ (lt_true i n lt))
puts_of-one_more n (Ask i ∷ es) h = puts_of-one_more n es h.1
puts_of-one_more n (Cut j a places ∷ es) h = puts_of-one_more n es h.1
puts_of-one_more n (Give p k ∷ es) h = puts_of-one_more n es h.1

-- the edits that are put, with one more put by a node
pub puts_of-Put : (n : ℕ) (history : List Event) (i : ℕ) (e : Edit) → i < n → puts_of n (Put i e ∷ history) ≡ e ∷ puts_of n history
puts_of-Put n history i e lt = cond-true _ _ _ (lt_true i n lt)

-- What a node took.

module _ (s : EntryMap) (xs : List Edit) where
  took_here : (i : ℕ) (ns : List Node) → i < length ns
      → took_by (slice_get (changed_at i (taken s xs) ns) i) ≡ took_by (slice_get ns i) ++ xs
  took_here i [] lt = absurd (omega arith)
  took_here zero (n ∷ ns) lt = refl
  took_here (suc i) (n ∷ ns) lt = took_here i ns (omega arith)

  took_elsewhere : (i k : ℕ) (ns : List Node) → k ≢ i → took_by (slice_get (changed_at i (taken s xs) ns) k) ≡ took_by (slice_get ns k)
  took_elsewhere i k [] ne = refl
  took_elsewhere zero zero (n ∷ ns) ne = absurd (ne refl)
  took_elsewhere zero (suc k) (n ∷ ns) ne = refl
  took_elsewhere (suc i) zero (n ∷ ns) ne = refl
  took_elsewhere (suc i) (suc k) (n ∷ ns) ne = took_elsewhere i k ns (λ e. ne (ap suc e))

module _ (w : EventWorld) where
  pub took-Put : (i : ℕ) (e : Edit) → i < length w.nodes → took (happens w (Put i e)) i ≡ took w i ++ e ∷ []
  took-Put i e lt = took_here (sum_of (e ∷ [])) (e ∷ []) i w.nodes lt

  pub took-Put_elsewhere : (i : ℕ) (e : Edit) (k : ℕ) → k ≢ i → took (happens w (Put i e)) k ≡ took w k
  took-Put_elsewhere i e k ne = took_elsewhere (sum_of (e ∷ [])) (e ∷ []) i k w.nodes ne

  pub took-Ask : (i k : ℕ) → took (happens w (Ask i)) k ≡ took w k
  took-Ask i k = by (slice_get w.nodes i)
    where
      by : (o : Option Node) → took (asked_by w i o) k ≡ took w k
      by None = refl
      by (Some node) = refl

  pub took-Cut : (j a : ℕ) (places : Option (List PlaceParts)) (k : ℕ) → took (happens w (Cut j a places)) k ≡ took w k
  took-Cut j a places k = by (slice_get w.nodes j) (slice_get w.asks a)
    where
      by : (o : Option Node) (q : Option Asked) → took (cut_for w places o q) k ≡ took w k
      by None q = refl
      by (Some node) None = refl
      by (Some node) (Some ask) = refl

  pub took-Give : (p k : ℕ) (piece : Piece) → slice_get w.pieces p ≡ Some piece → k < length w.nodes
      → took (happens w (Give p k)) k ≡ took w k ++ edits_with piece k
  took-Give p k piece is lt = ap (λ (o : Option Piece). took (given_to w k o) k) is ∙ took_here piece.entries (edits_with piece k) k w.nodes lt

  pub took-Give_elsewhere : (p k l : ℕ) → l ≢ k → took (happens w (Give p k)) l ≡ took w l
  took-Give_elsewhere p k l ne = by (slice_get w.pieces p)
    where
      by : (o : Option Piece) → took (given_to w k o) l ≡ took w l
      by None = refl
      by (Some piece) = took_elsewhere piece.entries (edits_with piece k) k l w.nodes ne

  -- Asks and pieces.

  pub asked_is : (i : ℕ) (node : Node) → slice_get w.nodes i ≡ Some node → happens w (Ask i) ≡ record w { asks = w.asks ++ record { node = i; versions = digest_of node.store } ∷ [] }
  asked_is i node is = ap (asked_by w i) is

  pub cut_is : (j a : ℕ) (places : Option (List PlaceParts)) (node : Node) (ask : Asked)
      → slice_get w.nodes j ≡ Some node → slice_get w.asks a ≡ Some ask
      → happens w (Cut j a places) ≡ record w { pieces = w.pieces ++ record { entries = cut node.store ask.versions places; asker = ask.node; had = at_places places node.took } ∷ [] }
  cut_is j a places node ask at asked = ap (λ (o : Option Node). cut_for w places o (slice_get w.asks a)) at ∙ ap (cut_for w places (Some node)) asked

pub slice_get_last : {X : Type 0} (xs : List X) (x : X) → slice_get (xs ++ x ∷ []) (length xs) ≡ Some x
slice_get_last [] x = refl
slice_get_last (y ∷ xs) x = slice_get_last xs x

pub push_keeps : {X : Type 0} (xs : List X) (y : X) (i : ℕ) (x : X) → slice_get xs i ≡ Some x → slice_get (xs ++ y ∷ []) i ≡ Some x
push_keeps [] y i x h = cc (h)
push_keeps (z ∷ xs) y zero x h = h
push_keeps (z ∷ xs) y (suc i) x h = push_keeps xs y i x h

-- a piece stays after every event
pub piece_stays : (w : EventWorld) (event : Event) (p : ℕ) (piece : Piece) → slice_get w.pieces p ≡ Some piece
    → slice_get (happens w event).pieces p ≡ Some piece
piece_stays w (Put i e) p piece h = h
piece_stays w (Ask i) p piece h = by (slice_get w.nodes i)
  where
    by : (o : Option Node) → slice_get (asked_by w i o).pieces p ≡ Some piece
    by None = h
    by (Some node) = h
piece_stays w (Cut j a places) p piece h = by (slice_get w.nodes j) (slice_get w.asks a)
  where
    by : (o : Option Node) (q : Option Asked) → slice_get (cut_for w places o q).pieces p ≡ Some piece
    by None q = h
    by (Some node) None = h
    by (Some node) (Some ask) = push_keeps w.pieces _ p piece h
piece_stays w (Give q k) p piece h = by (slice_get w.pieces q)
  where
    by : (o : Option Piece) → slice_get (given_to w k o).pieces p ≡ Some piece
    by None = h
    by (Some given) = h

taken_stays : (i k : ℕ) (s : EntryMap) (xs : List Edit) (ns : List Node) (e : Edit)
    → IsAmong e (took_by (slice_get ns k)) → IsAmong e (took_by (slice_get (changed_at i (taken s xs) ns) k))
taken_stays i k s xs [] e h = h
taken_stays zero zero s xs (n ∷ ns) e h = IsAmong-append_left e n.took xs h
taken_stays zero (suc k) s xs (n ∷ ns) e h = h
taken_stays (suc i) zero s xs (n ∷ ns) e h = h
taken_stays (suc i) (suc k) s xs (n ∷ ns) e h = taken_stays i k s xs ns e h

-- what a node took stays taken after every event
pub took_stays : (w : EventWorld) (event : Event) (k : ℕ) (e : Edit) → IsAmong e (took w k) → IsAmong e (took (happens w event) k)
took_stays w (Put i f) k e h = taken_stays i k (sum_of (f ∷ [])) (f ∷ []) w.nodes e h
took_stays w (Ask i) k e h = subst (λ (es : List Edit). IsAmong e es) (sym (took-Ask w i k)) h
took_stays w (Cut j a places) k e h = subst (λ (es : List Edit). IsAmong e es) (sym (took-Cut w j a places k)) h
took_stays w (Give p i) k e h = by (slice_get w.pieces p)
  where
    by : (o : Option Piece) → IsAmong e (took (given_to w i o) k)
    by None = h
    by (Some piece) = taken_stays i k piece.entries (edits_with piece i) w.nodes e h

-- the added node took nothing
pub took-with_new_node : (w : EventWorld) (k : ℕ) → took (with_new_node w) k ≡ took w k
took-with_new_node w k = by w.nodes k
  where
    by : (ns : List Node) (i : ℕ) → took_by (slice_get (ns ++ record { store = finmap.empty; took = [] } ∷ []) i) ≡ took_by (slice_get ns i)
    by [] zero = refl
    by [] (suc i) = refl
    by (n ∷ ns) zero = refl
    by (n ∷ ns) (suc i) = by ns i

-- Worlds whose edits are told apart by their versions.

-- if the edits that are put are told apart, every invariant of the theorem holds
world_sound : (n : ℕ) (all history : List Event) → AreToldApart (puts_of n all)
    → ((e : Edit) → IsAmong e (puts_of n history) → IsAmong e (puts_of n all))
    → IsSound n (λ e. IsAmong e (puts_of n all)) (world_of n history)
world_sound n all [] apart puts = blank_sound n (λ e. IsAmong e (puts_of n all))
world_sound n all (event ∷ history) apart puts =
    happens_keeps n (λ e. IsAmong e (puts_of n all)) apart (world_of n history) event
    (world_sound n all history apart (λ e a. puts e (puts_rest n event history e a)))
    (λ e a. puts e (puts_first n event history e a))

-- each node's store is the sum of what the node took
pub stores_are_sums : (n : ℕ) (history : List Event) → AreToldApart (puts_of n history) → (k : ℕ) (node : Node)
    → slice_get (world_of n history).nodes k ≡ Some node → node.store ≡ sum_of (took (world_of n history) k)
stores_are_sums n history apart k node at =
    ((world_sound n history history apart (λ e a. a)).nodes k node at).is_sum ∙ ap (λ (o : Option Node). sum_of (took_by o)) (sym at)

-- a given piece is joined to the node's store
pub given_is_joined : (n : ℕ) (history : List Event) → AreToldApart (puts_of n history) → (p k : ℕ) (piece : Piece)
    → slice_get (world_of n history).pieces p ≡ Some piece → k < n
    → sum_of (took (world_of n (Give p k ∷ history)) k) ≡ join (sum_of (took (world_of n history) k)) piece.entries
given_is_joined n history apart p k piece is lt =
    let w = world_of n history in
    let node = node_at n history k lt in
    let now : slice_get (world_of n (Give p k ∷ history)).nodes k ≡ Some (taken piece.entries (edits_with piece k) node.0) =
    ap (λ (o : Option Piece). slice_get (given_to w k o).nodes k) is ∙ changed k w.nodes node.0 node.1 in
    sym (stores_are_sums n (Give p k ∷ history) apart k _ now)
    ∙ ap (λ s. join s piece.entries) (stores_are_sums n history apart k node.0 node.1)
  where
    changed : (i : ℕ) (ns : List Node) (m : Node) → slice_get ns i ≡ Some m
        → slice_get (changed_at i (taken piece.entries (edits_with piece k)) ns) i
        ≡ Some (taken piece.entries (edits_with piece k) m)
    changed i [] m h = cc (h)
    changed zero (x ∷ ns) m h = let same : x ≡ m = cc in ap (λ (y : Node). Some (taken piece.entries (edits_with piece k) y)) same
    changed (suc i) (x ∷ ns) m h = changed i ns m h

-- everything that a node holds was put
held_was_put : (n : ℕ) (history : List Event) → AreToldApart (puts_of n history) → (k : ℕ) (node : Node)
    → slice_get (world_of n history).nodes k ≡ Some node → (e : Edit) → IsAmong e (edits_of node.store)
    → IsAmong e (puts_of n history)
held_was_put n history apart k node at e a =
    let sound = (world_sound n history history apart (λ f b. b)).nodes k node at in
    sound.puts e ((sum_of-IsSum node.took).found e.place (entry_of e) (sym (ap (λ (s : EntryMap). finmap.get s e.place) sound.is_sum) ∙ get_from_edits_of e node.store a))

module _ (n : ℕ) (history : List Event) (apart : AreToldApart (puts_of n history)) (j k : ℕ) (from : j < n) (to : k < n) where
  abbrev pub w : EventWorld
  w = world_of n history

  abbrev pub a : ℕ
  a = length (world_of n history).asks

  -- the piece that one node cuts for another node's latest ask
  pub answer_is : (places : Option (List PlaceParts)) →
      (piece : Piece) × (slice_get (world_of n (Cut j a places ∷ Ask k ∷ history)).pieces (length w.pieces)
      ≡ Some piece) × (piece.entries ≡ cut (sum_of (took w j)) (digest_of (sum_of (took w k))) places)
  answer_is places =
      let there = node_at n history j from in
      let here = node_at n history k to in
      let ask : Asked = record { node = k; versions = digest_of here.0.store } in
      let asked : EventWorld = record w { asks = w.asks ++ ask ∷ [] } in
      let piece : Piece = record { entries = cut there.0.store ask.versions places; asker = k; had = at_places places there.0.took } in
      let after_cut : happens (happens w (Ask k)) (Cut j a places) ≡ record asked { pieces = w.pieces ++ piece ∷ [] } =
      ap (λ (v : EventWorld). happens v (Cut j a places)) (asked_is w k here.0 here.1) ∙ cut_is asked j a places there.0 ask there.1 (slice_get_last w.asks ask) in (
        piece,
        ap (λ (v : EventWorld). slice_get v.pieces (length w.pieces)) after_cut ∙ slice_get_last w.pieces piece,
        λ i. cut (stores_are_sums n history apart j there.0 there.1 i) (digest_of (stores_are_sums n history apart k here.0 here.1 i)) places,
      )

  -- a node that is given the full answer to its latest ask holds the join of both stores
  pub merge_is_joined : sum_of (took (world_of n (Give (length w.pieces) k ∷ Cut j a None ∷ Ask k ∷ history)) k)
      ≡ join (sum_of (took w k)) (sum_of (took w j))
  merge_is_joined =
      let there = node_at n history j from in
      let here = node_at n history k to in
      let one = stores_are_sums n history apart k here.0 here.1 in
      let other = stores_are_sums n history apart j there.0 there.1 in
      let answer = answer_is None in
      let both : AreToldApart (edits_of (sum_of (took w k)) ++ edits_of (sum_of (took w j))) = λ e f he hf. apart e f (put e he) (put f hf) in
      given_is_joined n (Cut j a None ∷ Ask k ∷ history) apart (length w.pieces) k answer.0 answer.1 to
      ∙ ap (λ xs. join (sum_of xs) answer.0.entries) (took-Cut (happens w (Ask k)) j a None k ∙ took-Ask w k k)
      ∙ ap (join (sum_of (took w k))) answer.2
      ∙ whole_answer (sum_of (took w k)) (sum_of (took w j)) both
    where
      put : (e : Edit) → IsAmong e (edits_of (sum_of (took w k)) ++ edits_of (sum_of (took w j))) → IsAmong e (puts_of n history)
      put e h = elim (IsAmong-append_cases e (edits_of (sum_of (took w k))) (edits_of (sum_of (took w j))) h) [
        | inl l ↦ let here = node_at n history k to in held_was_put n history apart k here.0 here.1 e (subst (λ (s : EntryMap). IsAmong e (edits_of s)) (sym (stores_are_sums n history apart k here.0 here.1)) l)
        | inr r ↦ let there = node_at n history j from in held_was_put n history apart j there.0 there.1 e (subst (λ (s : EntryMap). IsAmong e (edits_of s)) (sym (stores_are_sums n history apart j there.0 there.1)) r)
      ]
