-- Invariants that each event keeps.
use Rattle.std.proofs.Common.{◌&&◌, ◌++◌, ◌<◌, ◌==◌, ◌∷◌, ◌≡◌, ◌⊎◌}
use borrow.Author.Tests.{eqb-true, lt-ltb}
use Rattle.world_law.specs.Prelude.{[], ap, arith, below_refl, below_trans, Bool, cond, Edit, edit_of, edits_of, Entry, entry_of, EntryMap, false, get-join, get-sum_of, get_from_edits_of, greatest_at, greatest_at-append, greatest_at-edits_of, greatest_at-found, inl, inr, is_gt, IsAmong, IsAmong-append_cases, IsAmong_from_filter, IsBelow, IsStoreBelow, join, join-left, larger, larger-absorb, larger-left, larger-mono, larger_assoc, larger_comm, length, List, nat_lt, None, Option, option_map, passed, PlaceParts, refl, replicate, same_store, slice_get, slice_get_within, Some, subst, suc, sum_of, sum_of-append, sum_of-edits_of, sym, true, Version, version_cmp, zero, ℕ, ◌∙◌}
use Rattle.world_law.specs.{CutLaws.{get-cut, get-digest_of, get_from_cut, greatest_at-at_places, not_greater}, Cuts.{at_places, cut, digest_of, is_asked, is_newer, is_wanted, VersionMap}, declared.events.Event.{Event, TheVariants.{Ask, Cut, Give, Put}}, Worlds.{after, Asked, asked_by, blank, changed_at, cut_for, edits_with, EventWorld, given_to, happens, Node, Piece, puts_of, taken}}
use Rattle.std.specs.FinMap as finmap

-- Lists.

slice_get-push_cases : {X : Type 0} (xs : List X) (x y : X) (i : ℕ) → slice_get (xs ++ x ∷ []) i ≡ Some y
    → (slice_get xs i ≡ Some y) ⊎ (x ≡ y)
slice_get-push_cases [] x y zero h = inr (cc)
slice_get-push_cases [] x y (suc i) h = cc
slice_get-push_cases (z ∷ xs) x y zero h = inl h
slice_get-push_cases (z ∷ xs) x y (suc i) h = slice_get-push_cases xs x y i h

slice_get-changed_at : (i : ℕ) (f : Node → Node) (ns : List Node) (k : ℕ) (m : Node) → slice_get (changed_at i f ns) k
    ≡ Some m → (n : Node) × (slice_get ns k ≡ Some n) × ((m ≡ n) ⊎ ((i ≡ k) × (m ≡ f n)))
slice_get-changed_at i f [] k m h = cc
slice_get-changed_at zero f (n ∷ ns) zero m h = (n, refl, inr (refl, cc))
slice_get-changed_at zero f (n ∷ ns) (suc k) m h = (m, h, inl refl)
slice_get-changed_at (suc i) f (n ∷ ns) zero m h = (m, h, inl refl)
slice_get-changed_at (suc i) f (n ∷ ns) (suc k) m h =
    let r = slice_get-changed_at i f ns k m h in
    (r.0, r.1, elim r.2 [ inl a ↦ inl a | inr b ↦ inr (ap suc b.0, b.1) ])

length-changed_at : (i : ℕ) (f : Node → Node) (ns : List Node) → length (changed_at i f ns) ≡ length ns
length-changed_at i f [] = refl
length-changed_at zero f (n ∷ ns) = refl
length-changed_at (suc i) f (n ∷ ns) = ap suc (length-changed_at i f ns)

in_range : {X : Type 0} (xs : List X) (i n : ℕ) (x : X) → length xs ≡ n → slice_get xs i ≡ Some x → nat_lt i n ≡ true
in_range xs i n x e h =
    let below : i < length xs = slice_get_within xs i x h in
    lt-ltb i n (omega arith)

slice_get-replicate : {X : Type 0} (n : ℕ) (x y : X) (i : ℕ) → slice_get (replicate n x) i ≡ Some y → x ≡ y
slice_get-replicate zero x y i h = cc
slice_get-replicate (suc n) x y zero h = cc
slice_get-replicate (suc n) x y (suc i) h = slice_get-replicate n x y i h

length-replicate : {X : Type 0} (n : ℕ) (x : X) → length (replicate n x) ≡ n
length-replicate zero x = refl
length-replicate (suc n) x = ap suc (length-replicate n x)

versions_of_some : (y : Option Entry) (v : Version) → option_map (λ x. x.version) y ≡ Some v → (x : Entry) × (y ≡ Some x) × (x.version ≡ v)
versions_of_some None v h = cc
versions_of_some (Some x) v h = (x, refl, cc)

nothing_below : (b : Bool) (y : Option Entry) → IsBelow (cond b None None) y
nothing_below true y = tt
nothing_below false y = tt

within : (b : Bool) (e : Edit) (es : List Edit) → IsAmong e (cond b es []) → IsAmong e es
within true e es a = a
within false e es a = absurd a

append-nil : (es : List Edit) → es ++ [] ≡ es
append-nil [] = refl
append-nil (e ∷ es) = ap (λ (fs : List Edit). e ∷ fs) (append-nil es)

pub puts_first : (n : ℕ) (event : Event) (events : List Event) (e : Edit) → IsAmong e (puts_of n (event ∷ []))
    → IsAmong e (puts_of n (event ∷ events))
puts_first n (Put i f) events e a =
    elim (nat_lt i n) as (λ b. IsAmong e (cond b (f ∷ []) []) → IsAmong e (cond b (f ∷ puts_of n events) (puts_of n events))) [
      | true ↦ λ h. elim h [ inl same ↦ inl same | inr none ↦ absurd none ]
      | false ↦ λ h. absurd h
    ] a
puts_first n (Ask i) events e a = absurd a
puts_first n (Cut j b places) events e a = absurd a
puts_first n (Give p k) events e a = absurd a

pub puts_rest : (n : ℕ) (event : Event) (events : List Event) (e : Edit) → IsAmong e (puts_of n events)
    → IsAmong e (puts_of n (event ∷ events))
puts_rest n (Put i f) events e a =
    elim (nat_lt i n) as (λ b. IsAmong e (cond b (f ∷ puts_of n events) (puts_of n events))) [ true ↦ inr a | false ↦ a ]
puts_rest n (Ask i) events e a = a
puts_rest n (Cut j b places) events e a = a
puts_rest n (Give p k) events e a = a

module _ (count : ℕ) (IsPut : Edit → Type 0) where
  -- a node's store is the sum of what the node took, and everything that it took was put
  pub record IsNodeSound (n : Node) : Type 0 where
    pub is_sum : n.store ≡ sum_of n.took
    pub puts : (e : Edit) → IsAmong e n.took → IsPut e

  -- each version in an ask belongs to an entry that was put, and that is at most what the asker has now
  abbrev pub IsAskBelow : Asked → Node → Type 0
  IsAskBelow a n = (q : PlaceParts) (v : Version) → finmap.get a.versions q ≡ Some v → (x : Entry) × (x.version ≡ v) × IsPut (edit_of (q, x)) × IsBelow (Some x) (finmap.get n.store q)

  -- everything that a piece counts for was put
  pub record IsPieceSound (p : Piece) : Type 0 where
    pub entries_put : (e : Edit) → IsAmong e (edits_of p.entries) → IsPut e
    pub had_put : (e : Edit) → IsAmong e p.had → IsPut e

  -- with the piece the asker has everything that the cutting node had at the places of the cut
  abbrev pub IsCovered : Piece → Node → Type 0
  IsCovered p n = (q : PlaceParts) → IsBelow (greatest_at q p.had) (larger (finmap.get p.entries q) (finmap.get n.store q))

  pub record IsSound (w : EventWorld) : Type 0 where
    pub length_is : length w.nodes ≡ count
    pub nodes : (k : ℕ) (n : Node) → slice_get w.nodes k ≡ Some n → IsNodeSound n
    pub asks : (i : ℕ) (a : Asked) (n : Node) → slice_get w.asks i ≡ Some a → slice_get w.nodes a.node ≡ Some n → IsAskBelow a n
    pub pieces : (i : ℕ) (p : Piece) → slice_get w.pieces i ≡ Some p → IsPieceSound p
    pub covers : (i : ℕ) (p : Piece) (n : Node) → slice_get w.pieces i ≡ Some p → slice_get w.nodes p.asker ≡ Some n → IsCovered p n

  ask_stays : (a : Asked) (n m : Node) → IsStoreBelow n.store m.store → IsAskBelow a n → IsAskBelow a m
  ask_stays a n m up h q v is =
      let r = h q v is in
      (r.0, r.1, r.2, below_trans (Some r.0) (finmap.get n.store q) (finmap.get m.store q) r.3 (up q))

  cover_stays : (p : Piece) (n m : Node) → IsStoreBelow n.store m.store → IsCovered p n → IsCovered p m
  cover_stays p n m up h q =
      below_trans (greatest_at q p.had) _ _ (h q) (larger-mono (finmap.get p.entries q) (finmap.get n.store q) (finmap.get p.entries q) (finmap.get m.store q) (below_refl (finmap.get p.entries q)) (up q))

  -- a node that took more
  grew : (i k : ℕ) (s : EntryMap) (es : List Edit) (ns : List Node) (m : Node)
      → slice_get (changed_at i (taken s es) ns) k ≡ Some m
      → (n : Node) × (slice_get ns k ≡ Some n) × IsStoreBelow n.store m.store
  grew i k s es ns m h =
      let r = slice_get-changed_at i (taken s es) ns k m h in (
        r.0,
        r.1,
        elim r.2 [
          | inl a ↦ λ q. subst (λ (o : Node). IsBelow (finmap.get r.0.store q) (finmap.get o.store q)) (sym a) (below_refl (finmap.get r.0.store q))
          | inr b ↦ λ q. subst (λ (o : Node). IsBelow (finmap.get r.0.store q) (finmap.get o.store q)) (sym b.1) (join-left r.0.store s q)
        ],
      )

  -- taking a store that keeps the node's store equal to the sum
  takes_keeps : (w : EventWorld) (i : ℕ) (s : EntryMap) (es : List Edit) → IsSound w → ((n : Node) → slice_get w.nodes i ≡ Some n → (join n.store s ≡ sum_of (n.took ++ es)) × ((e : Edit) → IsAmong e es → IsPut e)) → IsSound (record w { nodes = changed_at i (taken s es) w.nodes })
  takes_keeps w i s es sound good = record {
    length_is = length-changed_at i (taken s es) w.nodes ∙ sound.length_is;
    nodes = λ k m h.
        let r = slice_get-changed_at i (taken s es) w.nodes k m h in
        let was : IsNodeSound r.0 = sound.nodes k r.0 r.1 in
        elim r.2 [
          | inl a ↦ subst (λ (o : Node). IsNodeSound o) (sym a) was
          | inr b ↦
              let g = good r.0 (subst (λ (j : ℕ). slice_get w.nodes j ≡ Some r.0) (sym b.0) r.1) in
              subst (λ (o : Node). IsNodeSound o) (sym b.1) (record {
                is_sum = g.0;
                puts = λ e a. elim (IsAmong-append_cases e r.0.took es a) [ inl l ↦ was.puts e l | inr l ↦ g.1 e l ];
              })
        ];
    asks = λ j a m ha hm. let r = grew i a.node s es w.nodes m hm in ask_stays a r.0 m r.2 (sound.asks j a r.0 ha r.1);
    pieces = sound.pieces;
    covers = λ j p m hp hm. let r = grew i p.asker s es w.nodes m hm in cover_stays p r.0 m r.2 (sound.covers j p r.0 hp r.1);
  }

  -- an edit put at one node
  put_keeps : (w : EventWorld) (i : ℕ) (e : Edit) → IsSound w → (nat_lt i count ≡ true → IsPut e) → IsSound (happens w (Put i e))
  put_keeps w i e sound good =
      takes_keeps w i (sum_of (e ∷ [])) (e ∷ []) sound
      (λ n h. (
        ap (λ s. join s (sum_of (e ∷ []))) (sound.nodes i n h).is_sum ∙ sym (sum_of-append n.took (e ∷ [])),
        λ f a. elim a [ inl same ↦ subst IsPut same (good (in_range w.nodes i count n sound.length_is h)) | inr none ↦ absurd none ],
      ))

  ask_keeps : (w : EventWorld) (i : ℕ) → IsSound w → IsSound (happens w (Ask i))
  ask_keeps w i sound =
      elim (slice_get w.nodes i) as (λ o. slice_get w.nodes i ≡ o → IsSound (asked_by w i o)) [
        | None ↦ λ _. sound
        | Some n ↦ λ h. record {
          length_is = sound.length_is;
          nodes = sound.nodes;
          asks = λ j a m ha hm. elim (slice_get-push_cases w.asks (record { node = i; versions = digest_of n.store }) a j ha) [
            | inl was ↦ sound.asks j a m was hm
            | inr new ↦
                let same : n ≡ m =
                let e : Some n ≡ Some m = sym h ∙ ap (λ (b : Asked). slice_get w.nodes b.node) new ∙ hm in
                cc
                in
                subst (λ (b : Asked). IsAskBelow b m) new (λ q v is.
                let r = versions_of_some (finmap.get n.store q) v (sym (get-digest_of n.store q) ∙ is) in
                let at : finmap.get n.store q ≡ greatest_at q n.took = ap (λ (s : EntryMap). finmap.get s q) (sound.nodes i n h).is_sum ∙ get-sum_of n.took q in (
                  r.0,
                  r.2,
                  (sound.nodes i n h).puts _ (greatest_at-found q n.took r.0 (sym at ∙ r.1)),
                  subst (λ (y : Option Entry). IsBelow (Some r.0) y) (sym r.1 ∙ ap (λ (k : Node). finmap.get k.store q) same) (below_refl (Some r.0)),
                ))
          ];
          pieces = sound.pieces;
          covers = sound.covers;
        }
      ] refl

  module _ (apart : (e f : Edit) → IsPut e → IsPut f → e.place ≡ f.place → e.version ≡ f.version → e ≡ f) where
    -- the cut for an ask, together with the asker's store, is everything that the cutting node has
    covered_at : (x : Entry) (q : PlaceParts) (a : Asked) (asker : Node) (c : Bool) (o : Option Version) →
        IsPut (edit_of (q, x)) → IsAskBelow a asker → finmap.get a.versions q ≡ o →
        IsBelow (cond c (Some x) None) (larger (cond (c && is_newer x.version o) (Some x) None) (finmap.get asker.store q))
    covered_at x q a asker false o put below is = tt
    covered_at x q a asker true None put below is = larger-left (Some x) (finmap.get asker.store q)
    covered_at x q a asker true (Some v) put below is =
        elim (is_gt (version_cmp x.version v)) as (λ b. is_gt (version_cmp x.version v) ≡ b → IsBelow (Some x) (larger (cond b (Some x) None) (finmap.get asker.store q))) [
          | true ↦ λ g. larger-left (Some x) (finmap.get asker.store q)
          | false ↦ λ g.
              let r = below q v is in
              let small : IsBelow (Some x) (Some r.0) =
              not_greater x r.0 (ap (λ (u : Version). is_gt (version_cmp x.version u)) r.1 ∙ g)
              (λ same. ap entry_of (apart (edit_of (q, x)) (edit_of (q, r.0)) put r.2 refl same))
              in
              below_trans (Some x) (Some r.0) (finmap.get asker.store q) small r.3
        ] refl

    passed_at : (q : PlaceParts) (ask : VersionMap) (places : Option (List PlaceParts)) (x : Entry)
        → passed (is_wanted ask places) q (Some x)
        ≡ cond (is_asked q places && is_newer x.version (finmap.get ask q)) (Some x) None
    passed_at q ask places x = refl

    -- a node cuts a piece for an ask
    cut_covers : (n asker : Node) (a : Asked) (places : Option (List PlaceParts)) → IsNodeSound n → IsAskBelow a asker →
        IsCovered (record { entries = cut n.store a.versions places; asker = a.node; had = at_places places n.took }) asker
    cut_covers n asker a places sound below q =
        let at : finmap.get n.store q ≡ greatest_at q n.took = ap (λ (s : EntryMap). finmap.get s q) sound.is_sum ∙ get-sum_of n.took q in
        let had : greatest_at q (at_places places n.took) ≡ cond (is_asked q places) (finmap.get n.store q) None = greatest_at-at_places places q n.took ∙ ap (λ (y : Option Entry). cond (is_asked q places) y None) (sym at) in
        let there : IsBelow (cond (is_asked q places) (finmap.get n.store q) None) (larger (passed (is_wanted a.versions places) q (finmap.get n.store q)) (finmap.get asker.store q)) =
        elim (finmap.get n.store q) as (λ y. finmap.get n.store q ≡ y → IsBelow (cond (is_asked q places) y None) (larger (passed (is_wanted a.versions places) q y) (finmap.get asker.store q))) [
          | None ↦ λ e. nothing_below (is_asked q places) _
          | Some x ↦ λ e. covered_at x q a asker (is_asked q places) (finmap.get a.versions q) (sound.puts _ (greatest_at-found q n.took x (sym at ∙ e))) below refl
        ] refl
        in
        subst (λ (y : Option Entry). IsBelow y (larger (finmap.get (cut n.store a.versions places) q) (finmap.get asker.store q))) (sym had)
        (subst (λ (y : Option Entry). IsBelow (cond (is_asked q places) (finmap.get n.store q) None) (larger y (finmap.get asker.store q))) (sym (get-cut n.store a.versions places q)) there)

    cut_puts : (n : Node) (a : Asked) (places : Option (List PlaceParts)) → IsNodeSound n → IsPieceSound (record { entries = cut n.store a.versions places; asker = a.node; had = at_places places n.took })
    cut_puts n a places sound = record {
      entries_put = λ e h.
          let there : finmap.get n.store e.place ≡ Some (entry_of e) = get_from_cut n.store a.versions places e.place (entry_of e) (get_from_edits_of e (cut n.store a.versions places) h) in
          let at : finmap.get n.store e.place ≡ greatest_at e.place n.took = ap (λ (s : EntryMap). finmap.get s e.place) sound.is_sum ∙ get-sum_of n.took e.place in
          sound.puts e (greatest_at-found e.place n.took (entry_of e) (sym at ∙ there));
      had_put = λ e h. sound.puts e (IsAmong_from_filter (λ f. is_asked f.place places) e n.took h);
    }

    cut_keeps : (w : EventWorld) (j a : ℕ) (places : Option (List PlaceParts)) → IsSound w
        → IsSound (cut_for w places (slice_get w.nodes j) (slice_get w.asks a))
    cut_keeps w j a places sound =
        elim (slice_get w.nodes j) as (λ o. slice_get w.nodes j ≡ o → IsSound (cut_for w places o (slice_get w.asks a))) [
          | None ↦ λ _. sound
          | Some n ↦ λ hn. elim (slice_get w.asks a) as (λ o. slice_get w.asks a ≡ o → IsSound (cut_for w places (Some n) o)) [
            | None ↦ λ _. sound
            | Some ask ↦ λ ha. record {
              length_is = sound.length_is;
              nodes = sound.nodes;
              asks = sound.asks;
              pieces = λ i p hp. elim (slice_get-push_cases w.pieces (record { entries = cut n.store ask.versions places; asker = ask.node; had = at_places places n.took }) p i hp) [
                | inl was ↦ sound.pieces i p was
                | inr new ↦ subst (λ (b : Piece). IsPieceSound b) new (cut_puts n ask places (sound.nodes j n hn))
              ];
              covers = λ i p m hp hm. elim (slice_get-push_cases w.pieces (record { entries = cut n.store ask.versions places; asker = ask.node; had = at_places places n.took }) p i hp) [
                | inl was ↦ sound.covers i p m was hm
                | inr new ↦
                    let asker_is : slice_get w.nodes ask.node ≡ Some m = ap (λ (b : Piece). slice_get w.nodes b.asker) new ∙ hm in
                    subst (λ (b : Piece). IsCovered b m) new (cut_covers n m ask places (sound.nodes j n hn) (sound.asks a ask m ha asker_is))
              ];
            }
          ] refl
        ] refl

    -- the asker's store joined with the piece is everything that the piece counts for
    whole : (p : Piece) (n : Node) → IsCovered p n → join n.store p.entries ≡ join n.store (sum_of (edits_of p.entries ++ p.had))
    whole p n covered =
        same_store _ _
        (λ q.
        let s = finmap.get n.store q in
        let t = finmap.get p.entries q in
        let left : finmap.get (join n.store p.entries) q ≡ larger s t = get-join n.store p.entries q in
        let sums : finmap.get (sum_of (edits_of p.entries ++ p.had)) q ≡ larger t (greatest_at q p.had) =
        get-sum_of (edits_of p.entries ++ p.had) q ∙ greatest_at-append q (edits_of p.entries) p.had ∙ ap (λ y. larger y (greatest_at q p.had)) (greatest_at-edits_of q p.entries)
        in
        let right : finmap.get (join n.store (sum_of (edits_of p.entries ++ p.had))) q ≡ larger s (larger t (greatest_at q p.had)) =
        get-join n.store (sum_of (edits_of p.entries ++ p.had)) q ∙ ap (larger s) sums
        in
        let small : IsBelow (greatest_at q p.had) (larger s t) = subst (λ (y : Option Entry). IsBelow (greatest_at q p.had) y) (larger_comm t s) (covered q) in
        left ∙ sym (larger-absorb (larger s t) (greatest_at q p.had) small) ∙ larger_assoc s t (greatest_at q p.had) ∙ sym right)

    -- a given piece counts for its entries, or, at the asker, for everything that it was cut from
    given_is_sum : (p : Piece) (n : Node) (k : ℕ) (b : Bool) → IsNodeSound n → (b ≡ true → IsCovered p n) →
        join n.store p.entries ≡ sum_of (n.took ++ (edits_of p.entries ++ cond b p.had []))
    given_is_sum p n k true sound covered =
        whole p n (covered refl) ∙ ap (λ s. join s (sum_of (edits_of p.entries ++ p.had))) sound.is_sum ∙ sym (sum_of-append n.took (edits_of p.entries ++ p.had))
    given_is_sum p n k false sound covered =
        ap (λ s. join s p.entries) sound.is_sum ∙
        ap (λ s. join (sum_of n.took) s) (sym (sum_of-edits_of p.entries) ∙ ap sum_of (sym (append-nil (edits_of p.entries)))) ∙
        sym (sum_of-append n.took (edits_of p.entries ++ []))

    give_keeps : (w : EventWorld) (p k : ℕ) → IsSound w → IsSound (happens w (Give p k))
    give_keeps w p k sound =
        elim (slice_get w.pieces p) as (λ o. slice_get w.pieces p ≡ o → IsSound (given_to w k o)) [
          | None ↦ λ _. sound
          | Some piece ↦ λ hp.
              let good : IsPieceSound piece = sound.pieces p piece hp in
              takes_keeps w k piece.entries (edits_with piece k) sound
              (λ n hn. (
                given_is_sum piece n k (piece.asker == k) (sound.nodes k n hn)
                    (λ own. sound.covers p piece n hp (subst (λ (j : ℕ). slice_get w.nodes j ≡ Some n) (sym (eqb-true piece.asker k own)) hn)),
                λ e a. elim (IsAmong-append_cases e (edits_of piece.entries) _ a) [
                  | inl l ↦ good.entries_put e l
                  | inr l ↦ good.had_put e (within (piece.asker == k) e piece.had l)
                ],
              ))
        ] refl

    pub happens_keeps : (w : EventWorld) (event : Event) → IsSound w
        → ((e : Edit) → IsAmong e (puts_of count (event ∷ [])) → IsPut e) → IsSound (happens w event)
    happens_keeps w (Put i e) sound puts = put_keeps w i e sound (λ real. puts e (subst (λ (b : Bool). IsAmong e (cond b (e ∷ []) [])) (sym real) (inl refl)))
    happens_keeps w (Ask i) sound puts = ask_keeps w i sound
    happens_keeps w (Cut j a places) sound puts = cut_keeps w j a places sound
    happens_keeps w (Give p k) sound puts = give_keeps w p k sound

    pub after_keeps : (events : List Event) (w : EventWorld) → IsSound w
        → ((e : Edit) → IsAmong e (puts_of count events) → IsPut e) → IsSound (after events w)
    after_keeps [] w sound puts = sound
    after_keeps (event ∷ events) w sound puts =
        after_keeps events (happens w event)
        (happens_keeps w event sound (λ e a. puts e (puts_first count event events e a)))
        (λ e a. puts e (puts_rest count event events e a))

  pub blank_sound : IsSound (blank count)
  blank_sound = record {
    length_is = length-replicate count _;
    nodes = λ k n h. subst (λ (m : Node). IsNodeSound m) (slice_get-replicate count _ n k h) (record { is_sum = refl; puts = λ e a. absurd a });
    asks = λ i a n h. cc;
    pieces = λ i p h. cc;
    covers = λ i p n h. cc;
  }
