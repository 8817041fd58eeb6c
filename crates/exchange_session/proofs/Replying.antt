-- A reply to a message on its way.
use Rattle.std.proofs.Common.{◌==◌, ◌∷◌, ◌≡◌, ◌≢◌, ◌⊎◌}
use Rattle.std.specs.FinMap as finmap
use Rattle.exchange_session.proofs.Prelude.{[], All, All-cons, ap, arith, below_antisym, below_refl, below_trans, Bool, Decides, Decides-eqb, digest_of, Entry, EntryMap, Equal, everything, false, find, find-those, get-digest_of, get-join, Greater, inl, inr, IsAmong, IsBelow, IsStoreBelow, is_within, join, larger, larger-least, larger-right, Less, List, map, None, Option, option_map, Ordering, place_cmp, place_cmp-IsAntisymmetric, place_cmp_total, PlaceParts, print, refl, same_store, Some, subst, suc, sym, tied_itself, true, Version, version_cmp, version_cmp-IsAntisymmetric, version_cmp_total, within, zero, ℕ, ◌∙◌, versions_of}
use Rattle.exchange_session.proofs.Minding.{minded_by_ask, of_all, piece_below}
use Rattle.exchange_session.proofs.Taking.{joined_above}
use Rattle.exchange_session.specs.{Answered.{piece_for}, Joined.{joined}, Standing.{AreToldApartIn, IsMinded, OpeningsStand, QuietEnds, RepliesStand, Said}, Told.{IsOwnAsk, IsOwnPrint, IsPursued, own_print}}
use Rattle.exchange_session.specs.declared.messages.{RangeAsk.{RangeAsk}, RangePrint.{RangePrint}}

-- a store that takes pieces below another one
joined_below : (s t : EntryMap) (p : PlaceParts) (pieces : List EntryMap) → All (λ (q : EntryMap). IsStoreBelow q t) pieces → IsBelow (finmap.get s p) (finmap.get t p) → IsBelow (finmap.get (joined s pieces) p) (finmap.get t p)
joined_below s t p [] all below = below
joined_below s t p (q ∷ pieces) all below =
    joined_below (join s q) t p pieces (λ k d lt. all (suc k) d (omega arith))
    (subst (λ (y : Option Entry). IsBelow y (finmap.get t p)) (sym (get-join s q p)) (larger-least (finmap.get s p) (finmap.get q p) (finmap.get t p) below (all 0 q (omega arith) p)))

-- each piece is below the store that took them
piece_taken : (s q : EntryMap) (pieces : List EntryMap) → IsAmong q pieces → IsStoreBelow q (joined s pieces)
piece_taken s q [] among = absurd among
piece_taken s q (r ∷ pieces) (inl is) = λ p.
    below_trans (finmap.get q p) (finmap.get (join s r) p) (finmap.get (joined (join s r) pieces) p)
    (subst (λ (y : Option Entry). IsBelow (finmap.get q p) y) (sym (get-join s r p)) (subst (λ (t : EntryMap). IsBelow (finmap.get t p) (larger (finmap.get s p) (finmap.get r p))) is (larger-right (finmap.get s p) (finmap.get r p))))
    (joined_above (join s r) pieces p)
piece_taken s q (r ∷ pieces) (inr among) = piece_taken (join s r) q pieces among

-- where both hold the same, or a piece brings what the sender holds, both hold the same behind the pieces
settled : (sender receiver : EntryMap) (pieces : List EntryMap) (p : PlaceParts) → All (λ (q : EntryMap). IsStoreBelow q sender) pieces
    → (finmap.get sender p ≡ finmap.get receiver p) ⊎ ((piece : EntryMap) × (IsAmong piece pieces × ((finmap.get piece p ≡ finmap.get sender p) × IsBelow (finmap.get receiver p) (finmap.get sender p))))
    → finmap.get (joined receiver pieces) p ≡ finmap.get sender p
settled sender receiver pieces p all (inl same) =
    below_antisym (finmap.get (joined receiver pieces) p) (finmap.get sender p)
    (joined_below receiver sender p pieces all (subst (λ (y : Option Entry). IsBelow (finmap.get receiver p) y) (sym same) (below_refl (finmap.get receiver p))))
    (subst (λ (y : Option Entry). IsBelow y (finmap.get (joined receiver pieces) p)) (sym same) (joined_above receiver pieces p))
settled sender receiver pieces p all (inr (piece, (among, (is, below)))) =
    below_antisym (finmap.get (joined receiver pieces) p) (finmap.get sender p)
    (joined_below receiver sender p pieces all below)
    (subst (λ (y : Option Entry). IsBelow y (finmap.get (joined receiver pieces) p)) is (piece_taken receiver piece pieces among p))

pub quiet_ends : QuietEnds
quiet_ends seed sender receiver pieces stands = same_store _ _ (λ p. settled sender receiver pieces p stands.pieces (known p (stands.minded p)))
  where
    known : (p : PlaceParts) → IsMinded sender receiver (record { prints = []; asks = []; pieces = pieces }) p
        → (finmap.get sender p ≡ finmap.get receiver p) ⊎ ((piece : EntryMap) × (IsAmong piece pieces × ((finmap.get piece p ≡ finmap.get sender p) × IsBelow (finmap.get receiver p) (finmap.get sender p))))
    known p (inl same) = inl same
    known p (inr (inl (inl it))) = absurd it.1.0
    known p (inr (inl (inr it))) = absurd it.1.0
    known p (inr (inr piece)) = inr piece

-- what is decided by a test
decided : {P : Type 0} (b : Bool) → Decides b P → P ⊎ (P → ⊥)
decided true d = inl (d.0 refl)
decided false d = inr (λ p. let no = d.1 p in cc (no))

abbrev Versions : Type 0
Versions = List (PlaceParts × Version)

first : Versions → PlaceParts × Version → PlaceParts × Version
first [] d = d
first (x ∷ xs) d = x

rest : Versions → Versions
rest [] = []
rest (x ∷ xs) = xs

-- whether a comparison says that both are equal
is_equal : (o : Ordering) → (o ≡ Equal) ⊎ (o ≡ Equal → ⊥)
is_equal Less = inr (λ h. cc (h))
is_equal Equal = inl refl
is_equal Greater = inr (λ h. cc (h))

same_pair : (x y : PlaceParts × Version) → (x ≡ y) ⊎ (x ≡ y → ⊥)
same_pair x y = elim (is_equal (place_cmp x.0 y.0)) [
  | inl p ↦ elim (is_equal (version_cmp x.1 y.1)) [
    | inl v ↦ inl (λ i. (place_cmp-IsAntisymmetric x.0 y.0 p i, version_cmp-IsAntisymmetric x.1 y.1 v i))
    | inr n ↦ inr (λ h. n (ap (λ (z : PlaceParts × Version). version_cmp x.1 z.1) (sym h) ∙ tied_itself version_cmp_total x.1))
  ]
  | inr n ↦ inr (λ h. n (ap (λ (z : PlaceParts × Version). place_cmp x.0 z.0) (sym h) ∙ tied_itself place_cmp_total x.0))
]

same_list : (xs ys : Versions) → (xs ≡ ys) ⊎ (xs ≡ ys → ⊥)
unfolding rest first
same_list [] [] = inl refl
same_list [] (y ∷ ys) = inr (λ h. cc (h))
same_list (x ∷ xs) [] = inr (λ h. cc (h))
same_list (x ∷ xs) (y ∷ ys) = elim (same_pair x y) [
  | inl p ↦ elim (same_list xs ys) [
    | inl r ↦ inl (λ i. p i ∷ r i)
    | inr n ↦ inr (λ h. n (ap rest h))
  ]
  | inr n ↦ inr (λ h. n (ap (λ (l : Versions). first l x) h))
]

-- where a print that is told is the own one, versions are the own ones
abbrev IsSound : ℕ → EntryMap → EntryMap → RangePrint → Type 0
IsSound seed sender own it = it.print ≡ print seed (within it.range (versions_of own)) → within it.range (versions_of sender) ≡ within it.range (versions_of own)

abbrev Collided : ℕ → EntryMap → EntryMap → List RangePrint → Type 0
Collided seed sender own prints = (it : RangePrint) × (IsAmong it prints
    × ((it.print ≡ print seed (within it.range (versions_of own))) × (within it.range (versions_of sender) ≢ within it.range (versions_of own))))

checked : (seed : ℕ) (sender own : EntryMap) (prints : List RangePrint) → Collided seed sender own prints ⊎ All (IsSound seed sender own) prints
checked seed sender own [] = inr (λ k d lt. absurd (omega arith))
checked seed sender own (it ∷ prints) = elim (checked seed sender own prints) [
  | inl found ↦ inl (found.0, (inr found.1.0, found.1.1))
  | inr all ↦ elim (decided (it.print == print seed (within it.range (versions_of own))) (Decides-eqb it.print (print seed (within it.range (versions_of own))))) [
    | inr other ↦ inr (All-cons (IsSound seed sender own) it prints (λ e. absurd (other e)) all)
    | inl same ↦ elim (same_list (within it.range (versions_of sender)) (within it.range (versions_of own))) [
      | inl e ↦ inr (All-cons (IsSound seed sender own) it prints (λ _. e) all)
      | inr n ↦ inl (it, (inl refl, (same, n)))
    ]
  ]
]

-- where both have the same versions, they hold the same
by_versions : (sender own : EntryMap) (p : PlaceParts) → AreToldApartIn sender own → option_map (λ (x : Entry). x.version) (finmap.get sender p) ≡ option_map (λ (x : Entry). x.version) (finmap.get own p)
    → finmap.get own p ≡ finmap.get sender p
by_versions sender own p apart same = by (finmap.get sender p) refl (finmap.get own p) refl
  where
    by : (s : Option Entry) → finmap.get sender p ≡ s → (o : Option Entry) → finmap.get own p ≡ o → finmap.get own p ≡ finmap.get sender p
    by None s_is None o_is = o_is ∙ sym s_is
    by None s_is (Some e) o_is = let no = sym (ap (option_map (λ (x : Entry). x.version)) s_is) ∙ same ∙ ap (option_map (λ (x : Entry). x.version)) o_is in cc (no)
    by (Some d) s_is None o_is = let no = sym (ap (option_map (λ (x : Entry). x.version)) s_is) ∙ same ∙ ap (option_map (λ (x : Entry). x.version)) o_is in cc (no)
    by (Some d) s_is (Some e) o_is =
        let both = sym (ap (option_map (λ (x : Entry). x.version)) s_is) ∙ same ∙ ap (option_map (λ (x : Entry). x.version)) o_is in
        let version : d.version ≡ e.version = ap (λ (o : Option Version). elim o as (λ o. Version) [ None ↦ d.version | Some v ↦ v ]) both in
        o_is ∙ sym (ap (λ (x : Entry). Some x) (apart p d e s_is o_is version)) ∙ sym s_is

minded_by_print : (seed : ℕ) (sender own : EntryMap) (reply : Said) (it : RangePrint) (p : PlaceParts) → AreToldApartIn sender own → is_within it.range p ≡ true
    → IsSound seed sender own it → IsPursued seed (versions_of own) reply.prints reply.asks it → IsMinded own sender reply p
minded_by_print seed sender own reply it p apart here sound pursued = elim (decided (it.print == print seed (within it.range (versions_of own))) (Decides-eqb it.print (print seed (within it.range (versions_of own))))) [
  | inl same ↦
      let lists : within it.range (versions_of sender) ≡ within it.range (versions_of own) = sound same in
      let found : find place_cmp p (versions_of sender) ≡ find place_cmp p (versions_of own) =
      sym (find-those (is_within it.range) p (versions_of sender) here) ∙ ap (λ (l : Versions). find place_cmp p l) lists ∙ find-those (is_within it.range) p (versions_of own) here in
      let versions : option_map (λ (x : Entry). x.version) (finmap.get sender p) ≡ option_map (λ (x : Entry). x.version) (finmap.get own p) =
      sym (get-digest_of sender p) ∙ finmap.get-entries (digest_of sender) p ∙ found ∙ sym (finmap.get-entries (digest_of own) p) ∙ get-digest_of own p in
      inl (by_versions sender own p apart versions)
  | inr other ↦ inr (inl (pursued other p here))
]

pieces_below : (own : EntryMap) (asks : List RangeAsk) → All (λ (q : EntryMap). IsStoreBelow q own) (map (piece_for own) asks)
pieces_below own [] k d lt = absurd (omega arith)
pieces_below own (ask ∷ asks) zero d lt = piece_below own ask
pieces_below own (ask ∷ asks) (suc k) d lt = pieces_below own asks k d (omega arith)

pub replies_stand : RepliesStand
replies_stand seed sender receiver said reply stands apart is = elim (checked seed sender (joined receiver said.pieces) said.prints) [
  | inl found ↦ inl found
  | inr sound ↦ inr (record {
    prints = is.prints;
    asks = is.asks;
    pieces = subst (λ (l : List EntryMap). All (λ (q : EntryMap). IsStoreBelow q (joined receiver said.pieces)) l) (sym is.pieces) (pieces_below (joined receiver said.pieces) said.asks);
    minded = λ p. by sound p (stands.minded p);
  })
]
  where
    by : All (IsSound seed sender (joined receiver said.pieces)) said.prints → (p : PlaceParts) → IsMinded sender receiver said p → IsMinded (joined receiver said.pieces) sender reply p
    by sound p (inl same) = inl (settled sender receiver said.pieces p stands.pieces (inl same))
    by sound p (inr (inr piece)) = inl (settled sender receiver said.pieces p stands.pieces (inr piece))
    by sound p (inr (inl (inl (it, (among, here))))) =
        minded_by_print seed sender (joined receiver said.pieces) reply it p apart here (of_all (IsSound seed sender (joined receiver said.pieces)) it said.prints among sound)
        (of_all (IsPursued seed (versions_of (joined receiver said.pieces)) reply.prints reply.asks) it said.prints among is.pursued)
    by sound p (inr (inl (inr (it, (among, here))))) =
        minded_by_ask sender (joined receiver said.pieces) said.asks reply it p apart among (of_all (IsOwnAsk (versions_of sender)) it said.asks among stands.asks) here is.pieces is.asked_back

pub openings_stand : OpeningsStand
openings_stand seed sender receiver = record {
  prints = All-cons (IsOwnPrint seed (versions_of sender)) (own_print seed (versions_of sender) everything) [] refl (λ k d lt. absurd (omega arith));
  asks = λ k d lt. absurd (omega arith);
  pieces = λ k d lt. absurd (omega arith);
  minded = λ p. inr (inl (inl (own_print seed (versions_of sender) everything, (inl refl, refl))));
}
