-- How each event changes the stores, asks and pieces that correspond to a world.
use Rattle.std.proofs.Common.{◌++◌, ◌∷◌, ◌≡◌}
use Rattle.delta_gossip.proofs.Prelude.{[], ap, Ask, Asked, asked_by, changed_at, Cut, cut, cut_for, digest_of, Edit, edits_with, EntryMap, EventWorld, Give, given_to, happens, ItemBy, join, length, List, map, map-set, map_push, Node, None, Option, option_map, Piece, PlaceParts, Put, refl, Replicated, set, Shows, slice_get, slice_get-map, slice_get_read, Some, subst, suc, sum_of, sym, taken, VersionMap, zero, ℕ, ◌∙◌}
use Rattle.delta_gossip.proofs.Rounds.{stores_of}

-- the result of `get` and `get_mut`
pub got : {R X : Type 0} (now : R → X) (xs : List X) (i : ℕ) (r : R) → ItemBy now xs i i (Some r) → slice_get xs i ≡ Some (now r)
got now xs i r item = slice_get_read xs (length xs) i (now r) refl item.3.0 item.1

-- the original of an element of a mapped list
pub after : {Y Z : Type 0} (g : Y → Z) (zs : List Z) (ys : List Y) (i : ℕ) (z : Z) → zs ≡ map g ys → slice_get zs i ≡ Some z → (y : Y) × (slice_get ys i ≡ Some y) × (g y ≡ z)
after g [] ys i z e h = cc
after g (x ∷ zs) [] i z e h = cc
after g (x ∷ zs) (y ∷ ys) zero z e h =
    let one : g y ≡ z = cc in
    (y, refl, one)
after g (x ∷ zs) (y ∷ ys) (suc i) z e h =
    let rest : zs ≡ map g ys = cc in
    after g zs ys i z rest h

after_none : {Y Z : Type 0} (g : Y → Z) (zs : List Z) (ys : List Y) (i : ℕ) → zs ≡ map g ys → slice_get zs i ≡ None → slice_get ys i ≡ None
after_none g zs [] i e h = refl
after_none g [] (y ∷ ys) i e h = cc
after_none g (x ∷ zs) (y ∷ ys) zero e h = cc
after_none g (x ∷ zs) (y ∷ ys) (suc i) e h =
    let rest : zs ≡ map g ys = cc in
    after_none g zs ys i rest h

-- One node changes.

stores_changed : (i : ℕ) (f : Node → Node) (ns : List Node) (n : Node) → slice_get ns i ≡ Some n → map (λ m. m.store) (changed_at i f ns) ≡ set (map (λ m. m.store) ns) i (f n).store
stores_changed i f [] n h = refl
stores_changed zero f (m ∷ ns) n h =
    let one : m ≡ n = cc in
    ap (λ (k : Node). (f k).store ∷ map (λ m. m.store) ns) one
stores_changed (suc i) f (m ∷ ns) n h = ap (λ (ss : List EntryMap). m.store ∷ ss) (stores_changed i f ns n h)

pub writers_kept : (rs : List Replicated) (i : ℕ) (r new : Replicated) → slice_get rs i ≡ Some r → new.writer ≡ r.writer → map (λ q. q.writer) (set rs i new) ≡ map (λ q. q.writer) rs
writers_kept [] i r new h is = refl
writers_kept (q ∷ rs) zero r new h is =
    let one : q ≡ r = cc in
    ap (λ (n : ℕ). n ∷ map (λ p. p.writer) rs) (is ∙ sym (ap (λ (p : Replicated). p.writer) one))
writers_kept (q ∷ rs) (suc i) r new h is = ap (λ (ns : List ℕ). q.writer ∷ ns) (writers_kept rs i r new h is)

unchanged_past : (i : ℕ) (f : Node → Node) (ns : List Node) → slice_get ns i ≡ None → changed_at i f ns ≡ ns
unchanged_past i f [] h = refl
unchanged_past zero f (m ∷ ns) h = cc
unchanged_past (suc i) f (m ∷ ns) h = ap (λ (ms : List Node). m ∷ ms) (unchanged_past i f ns h)

module _ (w : EventWorld) (rs : List Replicated) (asks : List VersionMap) (pieces : List EntryMap) (h : Shows w (stores_of rs) asks pieces) where
  -- The node, ask or piece of the model that belongs to one of the program.

  pub node_at : (i : ℕ) (r : Replicated) → slice_get rs i ≡ Some r → (n : Node) × (slice_get w.nodes i ≡ Some n) × (n.store ≡ r.store)
  node_at i r is =
      after (λ (n : Node). n.store) (stores_of rs) w.nodes i r.store h.stores_are
      (slice_get-map (λ (s : Replicated). s.store) rs i ∙ ap (option_map (λ (s : Replicated). s.store)) is)

  no_node : (i : ℕ) → slice_get rs i ≡ None → slice_get w.nodes i ≡ None
  no_node i is =
      after_none (λ (n : Node). n.store) (stores_of rs) w.nodes i h.stores_are
      (slice_get-map (λ (s : Replicated). s.store) rs i ∙ ap (option_map (λ (s : Replicated). s.store)) is)

  ask_at : (a : ℕ) (d : VersionMap) → slice_get asks a ≡ Some d → (k : Asked) × (slice_get w.asks a ≡ Some k) × (k.versions ≡ d)
  ask_at a d is = after (λ (k : Asked). k.versions) asks w.asks a d h.asks_are is

  piece_at : (p : ℕ) (s : EntryMap) → slice_get pieces p ≡ Some s → (k : Piece) × (slice_get w.pieces p ≡ Some k) × (k.entries ≡ s)
  piece_at p s is = after (λ (k : Piece). k.entries) pieces w.pieces p s h.pieces_are is

  -- A node takes a store.

  taken_shown : (i : ℕ) (r new : Replicated) (s : EntryMap) (es : List Edit) → slice_get rs i ≡ Some r → new.store ≡ join r.store s →
      Shows (record w { nodes = changed_at i (taken s es) w.nodes }) (stores_of (set rs i new)) asks pieces
  taken_shown i r new s es is step =
      let n = node_at i r is in
      let one : new.store ≡ join n.0.store s = step ∙ ap (λ t. join t s) (sym n.2) in
      record {
        stores_are =
            map-set (λ (q : Replicated). q.store) rs i new ∙ (λ j. set (h.stores_are j) i (one j)) ∙
            sym (stores_changed i (taken s es) w.nodes n.0 n.1);
        asks_are = h.asks_are;
        pieces_are = h.pieces_are;
      }

  none_taken : (i : ℕ) (s : EntryMap) (es : List Edit) → slice_get rs i ≡ None → Shows (record w { nodes = changed_at i (taken s es) w.nodes }) (stores_of rs) asks pieces
  none_taken i s es is =
      subst (λ (ns : List Node). Shows (record w { nodes = ns }) (stores_of rs) asks pieces) (sym (unchanged_past i (taken s es) w.nodes (no_node i is))) h

  -- A put.

  pub put_shown : (i : ℕ) (e : Edit) (r new : Replicated) (s : EntryMap) → slice_get rs i ≡ Some r → s ≡ sum_of (e ∷ []) → new ≡ record r { store = join r.store s } → Shows (happens w (Put i e)) (stores_of (set rs i new)) asks pieces
  put_shown i e r new s is one step =
      taken_shown i r new (sum_of (e ∷ [])) (e ∷ []) is (ap (λ (q : Replicated). q.store) step ∙ ap (join r.store) one)

  pub no_put_shown : (i : ℕ) (e : Edit) → slice_get rs i ≡ None → Shows (happens w (Put i e)) (stores_of rs) asks pieces
  no_put_shown i e is = none_taken i (sum_of (e ∷ [])) (e ∷ []) is

  -- An ask.

  pub ask_shown : (i : ℕ) (r : Replicated) (d : VersionMap) → slice_get rs i ≡ Some r → d ≡ digest_of r.store → Shows (happens w (Ask i)) (stores_of rs) (asks ++ d ∷ []) pieces
  ask_shown i r d is new =
      let n = node_at i r is in
      let one : d ≡ digest_of n.0.store = new ∙ ap digest_of (sym n.2) in
      subst (λ (o : Option Node). Shows (asked_by w i o) (stores_of rs) (asks ++ d ∷ []) pieces) (sym n.1) (record {
        stores_are = h.stores_are;
        asks_are = (λ j. h.asks_are j ++ one j ∷ []) ∙ sym (map_push (λ (a : Asked). a.versions) w.asks (record { node = i; versions = digest_of n.0.store }));
        pieces_are = h.pieces_are;
      })

  pub no_ask_shown : (i : ℕ) → slice_get rs i ≡ None → Shows (happens w (Ask i)) (stores_of rs) asks pieces
  no_ask_shown i is = subst (λ (o : Option Node). Shows (asked_by w i o) (stores_of rs) asks pieces) (sym (no_node i is)) h

  -- A cut.

  pub cut_shown : (i a : ℕ) (places : Option (List PlaceParts)) (r : Replicated) (d : VersionMap) (s : EntryMap) → slice_get rs i ≡ Some r → slice_get asks a ≡ Some d → s ≡ cut r.store d places →
      Shows (happens w (Cut i a places)) (stores_of rs) asks (pieces ++ s ∷ [])
  cut_shown i a places r d s is asked new =
      let n = node_at i r is in
      let k = ask_at a d asked in
      let one : s ≡ cut n.0.store k.0.versions places = new ∙ (λ j. cut (sym n.2 j) (sym k.2 j) places) in
      subst (λ (o : Option Node). Shows (cut_for w places o (slice_get w.asks a)) (stores_of rs) asks (pieces ++ s ∷ [])) (sym n.1)
      (subst (λ (o : Option Asked). Shows (cut_for w places (Some n.0) o) (stores_of rs) asks (pieces ++ s ∷ [])) (sym k.1) (record {
        stores_are = h.stores_are;
        asks_are = h.asks_are;
        pieces_are = (λ j. h.pieces_are j ++ one j ∷ []) ∙ sym (map_push (λ (p : Piece). p.entries) w.pieces _);
      }))

  pub no_cut_shown : (i a : ℕ) (places : Option (List PlaceParts)) → slice_get rs i ≡ None → Shows (happens w (Cut i a places)) (stores_of rs) asks pieces
  no_cut_shown i a places is =
      subst (λ (o : Option Node). Shows (cut_for w places o (slice_get w.asks a)) (stores_of rs) asks pieces) (sym (no_node i is)) h

  pub unasked_cut_shown : (i a : ℕ) (places : Option (List PlaceParts)) (r : Replicated) → slice_get rs i ≡ Some r → slice_get asks a ≡ None → Shows (happens w (Cut i a places)) (stores_of rs) asks pieces
  unasked_cut_shown i a places r is none =
      let n = node_at i r is in
      subst (λ (o : Option Node). Shows (cut_for w places o (slice_get w.asks a)) (stores_of rs) asks pieces) (sym n.1)
      (subst (λ (o : Option Asked). Shows (cut_for w places (Some n.0) o) (stores_of rs) asks pieces) (sym (after_none (λ (k : Asked). k.versions) asks w.asks a h.asks_are none)) h)

  -- A piece is given.

  pub give_shown : (p i : ℕ) (r new : Replicated) (s t : EntryMap) → slice_get rs i ≡ Some r → slice_get pieces p ≡ Some s → t ≡ s → new ≡ record r { store = join r.store t } →
      Shows (happens w (Give p i)) (stores_of (set rs i new)) asks pieces
  give_shown p i r new s t is given borrowed step =
      let k = piece_at p s given in
      subst (λ (o : Option Piece). Shows (given_to w i o) (stores_of (set rs i new)) asks pieces) (sym k.1)
      (taken_shown i r new k.0.entries (edits_with k.0 i) is (ap (λ (q : Replicated). q.store) step ∙ ap (join r.store) (borrowed ∙ sym k.2)))

  pub no_give_shown : (p i : ℕ) → slice_get rs i ≡ None → Shows (happens w (Give p i)) (stores_of rs) asks pieces
  no_give_shown p i is =
      elim (slice_get w.pieces p) as (λ o. Shows (given_to w i o) (stores_of rs) asks pieces) [
        | None ↦ h
        | Some k ↦ none_taken i k.entries (edits_with k i) is
      ]

  pub nothing_given_shown : (p i : ℕ) → slice_get pieces p ≡ None → Shows (happens w (Give p i)) (stores_of rs) asks pieces
  nothing_given_shown p i none =
      subst (λ (o : Option Piece). Shows (given_to w i o) (stores_of rs) asks pieces) (sym (after_none (λ (k : Piece). k.entries) pieces w.pieces p h.pieces_are none)) h
