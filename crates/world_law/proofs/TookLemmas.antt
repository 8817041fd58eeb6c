-- The list of what a node took has the same members as the relation `Took`.
use Rattle.std.proofs.Common.{◌++◌, ◌<◌, ◌==◌, ◌↔◌, ◌∷◌, ◌≡◌, ◌≤◌, ◌⊎◌}
use borrow.Author.Tests.{eq-eqb, eqb-true}
use Rattle.world_law.proofs.Prelude.{[], after, ap, append-nil, append_assoc, arith, Ask, Asked, asked_by, at_places, blank, Bool, changed_at, cond, Cut, cut, cut_for, Edit, edit_of, edits_of, edits_with, Entry, entry, entry_of, EntryMap, Event, EventWorld, false, filter, get-sum_of, Give, given_to, greatest_at-above, greatest_at-found, HoldsTheSum, IfSome, inl, inr, is_asked, IsAmong, IsAmong-append_cases, IsAmong-append_left, IsAmong-append_right, IsAmong_from_filter, IsAskOf, IsBelow, IsSome, IsSumOf, length, List, Node, node_count, None, Option, Piece, piece_stays, PlaceParts, Put, put, refl, replicate, reverse, reverse_onto, slice_get, slice_get_last, Some, stays, subst, suc, sum_of, sym, taken, Took, took, took_by, took_stays, TookByEvents, true, WasCut, whole, world_of, zero, ℕ, ◌∙◌}
use Rattle.world_law.proofs.Theorem.{each_store_is_its_sum, IfSome_from}
use Rattle.std.specs.FinMap as finmap

-- One node changes.

took_cases : (i k : ℕ) (s : EntryMap) (xs : List Edit) (ns : List Node) (e : Edit) → IsAmong e (took_by (slice_get (changed_at i (taken s xs) ns) k)) → IsAmong e (took_by (slice_get ns k)) ⊎ ((i ≡ k) × (k < length ns) × IsAmong e xs)
took_cases i k s xs [] e h = absurd h
took_cases zero zero s xs (n ∷ ns) e h = elim (IsAmong-append_cases e n.took xs h) [ inl l ↦ inl l | inr r ↦ inr (refl, omega arith, r) ]
took_cases zero (suc k) s xs (n ∷ ns) e h = inl h
took_cases (suc i) zero s xs (n ∷ ns) e h = inl h
took_cases (suc i) (suc k) s xs (n ∷ ns) e h = elim (took_cases i k s xs ns e h) [ inl l ↦ inl l | inr r ↦ inr (ap suc r.0, (let b : k < length ns = r.1 in omega arith), r.2) ]

took_new : (k : ℕ) (s : EntryMap) (xs : List Edit) (ns : List Node) (e : Edit) → k < length ns → IsAmong e xs → IsAmong e (took_by (slice_get (changed_at k (taken s xs) ns) k))
took_new k s xs [] e b h = absurd (omega arith)
took_new zero s xs (n ∷ ns) e b h = IsAmong-append_right e n.took xs h
took_new (suc k) s xs (n ∷ ns) e b h = took_new k s xs ns e (omega arith) h

-- Lists.

got_cases : {X : Type 0} (xs : List X) (y : X) (i : ℕ) (x : X) → slice_get (xs ++ y ∷ []) i ≡ Some x → (slice_get xs i ≡ Some x) ⊎ ((length xs ≡ i) × (y ≡ x))
got_cases [] y zero x h = inr (refl, cc)
got_cases [] y (suc i) x h = cc
got_cases (z ∷ xs) y zero x h = inl h
got_cases (z ∷ xs) y (suc i) x h = elim (got_cases xs y i x h) [ inl l ↦ inl l | inr r ↦ inr (ap suc r.0, r.1) ]

some_value : {X : Type 0} (o : Option X) → IsSome o → (x : X) × (o ≡ Some x)
some_value None h = cc
some_value (Some x) h = (x, refl)

filter_passes : (p : Edit → Bool) (e : Edit) (xs : List Edit) → IsAmong e (filter p xs) → p e ≡ true
filter_passes p e [] h = absurd h
filter_passes p e (x ∷ xs) h =
    elim (p x) as (λ b. p x ≡ b → IsAmong e (cond b (x ∷ filter p xs) (filter p xs)) → p e ≡ true) [
      | true ↦ λ t k. elim k [ inl same ↦ ap p (sym same) ∙ t | inr rest ↦ filter_passes p e xs rest ]
      | false ↦ λ t k. filter_passes p e xs k
    ] refl h

filter_keeps : (p : Edit → Bool) (e : Edit) (xs : List Edit) → IsAmong e xs → p e ≡ true → IsAmong e (filter p xs)
filter_keeps p e [] h t = absurd h
filter_keeps p e (x ∷ xs) (inl same) t = subst (λ (b : Bool). IsAmong e (cond b (x ∷ filter p xs) (filter p xs))) (sym (ap p same ∙ t)) (inl same)
filter_keeps p e (x ∷ xs) (inr rest) t =
    elim (p x) as (λ b. IsAmong e (cond b (x ∷ filter p xs) (filter p xs))) [ true ↦ inr (filter_keeps p e xs rest t) | false ↦ filter_keeps p e xs rest t ]

nothing_taken : (n k : ℕ) (node : Node) (e : Edit) → node.took ≡ [] → IsAmong e (took_by (slice_get (replicate n node) k)) → ⊥
nothing_taken zero k node e none h = h
nothing_taken (suc n) zero node e none h = subst (λ (es : List Edit). IsAmong e es) none h
nothing_taken (suc n) (suc k) node e none h = nothing_taken n k node e none h

shorter : (later : List Event) (event : Event) (earlier : List Event) → length earlier < length (later ++ event ∷ earlier)
shorter [] event earlier = omega arith
shorter (x ∷ later) event earlier = let h : length earlier < length (later ++ event ∷ earlier) = shorter later event earlier in omega arith

-- The number of nodes never changes, and pieces stay.

asked_nodes : (w : EventWorld) (i : ℕ) (o : Option Node) → (asked_by w i o).nodes ≡ w.nodes
asked_nodes w i None = refl
asked_nodes w i (Some n) = refl

cut_nodes : (w : EventWorld) (places : Option (List PlaceParts)) (o : Option Node) (q : Option Asked) → (cut_for w places o q).nodes ≡ w.nodes
cut_nodes w places None q = refl
cut_nodes w places (Some n) None = refl
cut_nodes w places (Some n) (Some a) = refl

asked_pieces : (w : EventWorld) (i : ℕ) (o : Option Node) → (asked_by w i o).pieces ≡ w.pieces
asked_pieces w i None = refl
asked_pieces w i (Some n) = refl

given_pieces : (w : EventWorld) (k : ℕ) (o : Option Piece) → (given_to w k o).pieces ≡ w.pieces
given_pieces w k None = refl
given_pieces w k (Some p) = refl

reverse-onto : (event : Event) (events history : List Event) → reverse (event ∷ events) ++ history ≡ reverse events ++ event ∷ history
reverse-onto event events history = ap (λ es. es ++ history) (reverse_onto events event []) ∙ append_assoc (reverse events) (event ∷ []) history

module _ (n : ℕ) where
  -- where a piece comes from
  record History (history : List Event) (p : ℕ) (piece : Piece) : Type 0 where
    earlier : List Event
    j : ℕ
    a : ℕ
    places : Option (List PlaceParts)
    cut_then : WasCut n history p earlier j a places
    asker : IsAskOf (world_of n earlier) a piece.asker
    had : piece.had ≡ at_places places (took (world_of n earlier) j)

  history_stays : (event : Event) (history : List Event) (p : ℕ) (piece : Piece) → History history p piece → History (event ∷ history) p piece
  history_stays event history p piece h = record {
    earlier = h.earlier;
    j = h.j;
    a = h.a;
    places = h.places;
    cut_then = record {
      later = event ∷ h.cut_then.later;
      is = ap (λ (es : List Event). event ∷ es) h.cut_then.is;
      number = h.cut_then.number;
      by_node = h.cut_then.by_node;
      for_ask = h.cut_then.for_ask;
    };
    asker = h.asker;
    had = h.had;
  }

  history_of : (history : List Event) (p : ℕ) (piece : Piece) → slice_get (world_of n history).pieces p ≡ Some piece → History history p piece
  history_of [] p piece h = cc
  history_of (Put i e ∷ es) p piece h = history_stays (Put i e) es p piece (history_of es p piece h)
  history_of (Ask i ∷ es) p piece h = history_stays (Ask i) es p piece (history_of es p piece (ap (λ ps. slice_get ps p) (sym (asked_pieces (world_of n es) i (slice_get (world_of n es).nodes i))) ∙ h))
  history_of (Give q k ∷ es) p piece h = history_stays (Give q k) es p piece (history_of es p piece (ap (λ ps. slice_get ps p) (sym (given_pieces (world_of n es) k (slice_get (world_of n es).pieces q))) ∙ h))
  history_of (Cut j a places ∷ es) p piece h =
      elim (slice_get (world_of n es).nodes j) as (λ o. slice_get (world_of n es).nodes j ≡ o → slice_get (cut_for (world_of n es) places o (slice_get (world_of n es).asks a)).pieces p ≡ Some piece → History (Cut j a places ∷ es) p piece) [
        | None ↦ λ _ g. history_stays (Cut j a places) es p piece (history_of es p piece g)
        | Some node ↦ λ nd g. elim (slice_get (world_of n es).asks a) as (λ o. slice_get (world_of n es).asks a ≡ o → slice_get (cut_for (world_of n es) places (Some node) o).pieces p ≡ Some piece → History (Cut j a places ∷ es) p piece) [
          | None ↦ λ _ k. history_stays (Cut j a places) es p piece (history_of es p piece k)
          | Some ask ↦ λ as_is k. elim (got_cases (world_of n es).pieces _ p piece k) [
            | inl was ↦ history_stays (Cut j a places) es p piece (history_of es p piece was)
            | inr new ↦ record {
              earlier = es;
              j = j;
              a = a;
              places = places;
              cut_then = record {
                later = [];
                is = refl;
                number = new.0;
                by_node = subst (λ (o : Option Node). IsSome o) (sym nd) refl;
                for_ask = subst (λ (o : Option Asked). IsSome o) (sym as_is) refl;
              };
              asker = (ask, as_is, ap (λ (q : Piece). q.asker) new.1);
              had = ap (λ (q : Piece). q.had) (sym new.1) ∙ ap (λ (o : Option Node). at_places places (took_by o)) (sym nd);
            }
          ]
        ] refl g
      ] refl h

  took_sound : (m : ℕ) (history : List Event) → length history ≤ m → (k : ℕ) (e : Edit) → IsAmong e (took (world_of n history) k) → Took n history k e
  took_sound m [] short k e h = absurd (nothing_taken n k _ e refl h)
  took_sound zero (event ∷ es) short k e h = absurd (omega arith)
  took_sound (suc m) (Put i f ∷ es) short k e h =
      elim (took_cases i k (sum_of (f ∷ [])) (f ∷ []) (world_of n es).nodes e h) [
        | inl l ↦ stays (Put i f) (took_sound m es (omega arith) k e l)
        | inr r ↦
            let within : k < n = subst (λ (c : ℕ). k < c) (node_count n es) r.1 in
            elim r.2 [
              | inl same ↦ subst (λ (g : Edit). Took n (Put i g ∷ es) k e) (sym same) (subst (λ (j : ℕ). Took n (Put j e ∷ es) k e) (sym r.0) (put within))
              | inr none ↦ absurd none
            ]
      ]
  took_sound (suc m) (Ask i ∷ es) short k e h =
      stays (Ask i) (took_sound m es (omega arith) k e (subst (λ (ns : List Node). IsAmong e (took_by (slice_get ns k))) (asked_nodes (world_of n es) i (slice_get (world_of n es).nodes i)) h))
  took_sound (suc m) (Cut j a places ∷ es) short k e h =
      stays (Cut j a places) (took_sound m es (omega arith) k e (subst (λ (ns : List Node). IsAmong e (took_by (slice_get ns k))) (cut_nodes (world_of n es) places (slice_get (world_of n es).nodes j) (slice_get (world_of n es).asks a)) h))
  took_sound (suc m) (Give p i ∷ es) short k e h =
      elim (slice_get (world_of n es).pieces p) as (λ o. slice_get (world_of n es).pieces p ≡ o → IsAmong e (took_by (slice_get (given_to (world_of n es) i o).nodes k)) → Took n (Give p i ∷ es) k e) [
        | None ↦ λ _ g. stays (Give p i) (took_sound m es (omega arith) k e g)
        | Some piece ↦ λ there g. elim (took_cases i k piece.entries (edits_with piece i) (world_of n es).nodes e g) [
          | inl l ↦ stays (Give p i) (took_sound m es (omega arith) k e l)
          | inr r ↦
              let within : k < n = subst (λ (c : ℕ). k < c) (node_count n es) r.1 in
              subst (λ (j : ℕ). Took n (Give p j ∷ es) k e) (sym r.0)
              (elim (IsAmong-append_cases e (edits_of piece.entries) (cond (piece.asker == i) piece.had []) r.2) [
                | inl l ↦ entry piece within there l
                | inr l ↦ elim (piece.asker == i) as (λ b. (piece.asker == i) ≡ b → IsAmong e (cond b piece.had []) → Took n (Give p k ∷ es) k e) [
                  | true ↦ λ own m_had.
                      let from : History es p piece = history_of es p piece there in
                      let asker_is : piece.asker ≡ k = eqb-true piece.asker i own ∙ r.0 in
                      let taken_then : IsAmong e (at_places from.places (took (world_of n from.earlier) from.j)) = subst (λ (xs : List Edit). IsAmong e xs) from.had m_had in
                      let less : length from.earlier < length es = subst (λ (xs : List Event). length from.earlier < length xs) (sym from.cut_then.is) (shorter from.cut_then.later (Cut from.j from.a from.places) from.earlier) in
                      whole from.earlier from.j from.a from.places within from.cut_then
                      (subst (λ (c : ℕ). IsAskOf (world_of n from.earlier) from.a c) asker_is from.asker)
                      (filter_passes (λ f. is_asked f.place from.places) e (took (world_of n from.earlier) from.j) taken_then)
                      (took_sound m from.earlier (omega arith) from.j e (IsAmong_from_filter (λ f. is_asked f.place from.places) e (took (world_of n from.earlier) from.j) taken_then))
                  | false ↦ λ _ none. absurd none
                ] refl l
              ])
        ]
      ] refl h

  pieces_stay : (later base : List Event) (p : ℕ) (x : Piece) → slice_get (world_of n base).pieces p ≡ Some x → slice_get (world_of n (later ++ base)).pieces p ≡ Some x
  pieces_stay [] base p x h = h
  pieces_stay (event ∷ later) base p x h = piece_stays (world_of n (later ++ base)) event p x (pieces_stay later base p x h)

  -- the piece that a cut made
  cut_piece : (earlier : List Event) (j a : ℕ) (places : Option (List PlaceParts)) (p : ℕ) → length (world_of n earlier).pieces ≡ p → (node : Node) → slice_get (world_of n earlier).nodes j ≡ Some node → (ask : Asked) → slice_get (world_of n earlier).asks a ≡ Some ask →
      slice_get (world_of n (Cut j a places ∷ earlier)).pieces p ≡ Some (record { entries = cut node.store ask.versions places; asker = ask.node; had = at_places places node.took })
  cut_piece earlier j a places p number node nd ask as_is =
      ap (λ o. slice_get (cut_for (world_of n earlier) places o (slice_get (world_of n earlier).asks a)).pieces p) nd ∙
      ap (λ o. slice_get (cut_for (world_of n earlier) places (Some node) o).pieces p) as_is ∙
      ap (λ q. slice_get ((world_of n earlier).pieces ++ record { entries = cut node.store ask.versions places; asker = ask.node; had = at_places places node.took } ∷ []) q) (sym number) ∙
      slice_get_last (world_of n earlier).pieces _

  took_by_piece : (history : List Event) (p k : ℕ) (piece : Piece) (e : Edit) → k < n → slice_get (world_of n history).pieces p ≡ Some piece → IsAmong e (edits_with piece k) → IsAmong e (took (world_of n (Give p k ∷ history)) k)
  took_by_piece history p k piece e within there h =
      subst (λ (o : Option Piece). IsAmong e (took_by (slice_get (given_to (world_of n history) k o).nodes k))) (sym there)
      (took_new k piece.entries (edits_with piece k) (world_of n history).nodes e (subst (λ (c : ℕ). k < c) (sym (node_count n history)) within) h)

  pub took_complete : {history : List Event} {k : ℕ} {e : Edit} → Took n history k e → IsAmong e (took (world_of n history) k)
  took_complete (put {history = history} {k = k} {e = e} within) = took_new k (sum_of (e ∷ [])) (e ∷ []) (world_of n history).nodes e (subst (λ (c : ℕ). k < c) (sym (node_count n history)) within) (inl refl)
  took_complete (entry {history = history} {p = p} {k = k} {e = e} piece within there h) = took_by_piece history p k piece e within there (IsAmong-append_left e (edits_of piece.entries) _ h)
  took_complete (whole {history = history} {p = p} {k = k} {e = e} earlier j a places within was ask asked t) =
      let had : IsAmong e (took (world_of n earlier) j) = took_complete t in
      let node = some_value (slice_get (world_of n earlier).nodes j) was.by_node in
      let piece : Piece = record { entries = cut node.0.store ask.0.versions places; asker = ask.0.node; had = at_places places node.0.took } in
      let there : slice_get (world_of n history).pieces p ≡ Some piece =
      subst (λ (es : List Event). slice_get (world_of n es).pieces p ≡ Some piece) (sym was.is)
      (pieces_stay was.later (Cut j a places ∷ earlier) p piece (cut_piece earlier j a places p was.number node.0 node.1 ask.0 ask.1))
      in
      let had_node : IsAmong e node.0.took = subst (λ (o : Option Node). IsAmong e (took_by o)) node.1 had in
      took_by_piece history p k piece e within there
      (IsAmong-append_right e (edits_of piece.entries) _
      (subst (λ (b : Bool). IsAmong e (cond b piece.had [])) (sym (eq-eqb ask.0.node k ask.2)) (filter_keeps (λ f. is_asked f.place places) e node.0.took had_node asked)))
  took_complete (stays {history = history} {k = k} {e = e} event t) = took_stays (world_of n history) event k e (took_complete t)

  -- the list and the relation agree on what a node took
  pub took_is : (history : List Event) (k : ℕ) (e : Edit) → IsAmong e (took (world_of n history) k) ↔ Took n history k e
  took_is history k e = (took_sound (length history) history (omega arith) k e, took_complete)

  -- Lists of events, from the newest event back.

  after_onto : (events history : List Event) → after events (world_of n history) ≡ world_of n (reverse events ++ history)
  after_onto [] history = refl
  after_onto (event ∷ events) history =
      after_onto events (event ∷ history) ∙ ap (world_of n) (sym (reverse-onto event events history))

  after_is : (events : List Event) → after events (blank n) ≡ world_of n (reverse events)
  after_is events = after_onto events [] ∙ ap (world_of n) (append-nil (reverse events))

  pub took_by_events : (events : List Event) → TookByEvents n events
  took_by_events events k e =
      subst (λ (w : EventWorld). IsAmong e (took w k) ↔ Took n (reverse events) k e) (sym (after_is events)) (took_is (reverse events) k e)

  IfSome_at : (o : Option Node) (P : Node → Type 0) (node : Node) → o ≡ Some node → IfSome o P → P node
  IfSome_at o P node is h = let Q : Option Node → Type 0 = λ x. IfSome x P in subst Q is h

  pub holds_the_sum : (events : List Event) → HoldsTheSum n events
  holds_the_sum events apart k =
      IfSome_from _ (λ node. IsSumOf (Took n (reverse events) k) node.store) (λ node there.
      let sums : node.store ≡ sum_of node.took = IfSome_at _ (λ m. m.store ≡ sum_of m.took) node there (each_store_is_its_sum n events apart k) in
      let same : took (world_of n (reverse events)) k ≡ node.took = ap (λ w. took w k) (sym (after_is events)) ∙ ap took_by there in
      record {
        above = λ e t.
            let among : IsAmong e node.took = subst (λ (xs : List Edit). IsAmong e xs) same (took_complete t) in
            subst (λ (y : Option Entry). IsBelow (Some (entry_of e)) y) (sym (ap (λ (s : EntryMap). finmap.get s e.place) sums ∙ get-sum_of node.took e.place)) (greatest_at-above e node.took among);
        found = λ q x h.
            let among : IsAmong (edit_of (q, x)) node.took = greatest_at-found q node.took x (sym (ap (λ (s : EntryMap). finmap.get s q) sums ∙ get-sum_of node.took q) ∙ h) in
            (took_is (reverse events) k (edit_of (q, x))).0 (subst (λ (xs : List Edit). IsAmong (edit_of (q, x)) xs) (sym same) among);
      })
