-- What a reply makes of a place of which nothing was forgotten.
use Rattle.std.proofs.Common.{◌&&◌, ◌+◌, ◌||◌, ◌∷◌, ◌≡◌}
use Rattle.std.specs.FinMap as finmap
use Rattle.exchange_session.proofs.Prelude.{[], All, ap, arith, Bool, content_cmp, below_refl, cond, cut, digest_of, Entry, EntryMap, eq_by_cmp, Equal, false, filter, find, get-cut, get-digest_of, get_from_cut, Greater, inl, inr, IsAmong, IsAmong-append_right, IsBelow, is_asked, is_gt, is_newer, is_wanted, IsStoreBelow, is_within, Less, list_any, List, map, None, Option, option_map, Ordering, ordering_then, passed, place_cmp, PlaceParts, Range, refl, Some, subst, suc, sym, tied, told, true, turned, Version, VersionMap, version_cmp, version_cmp-IsAntisymmetric, version_cmp_total, within, ◌∙◌, versions_of}
use Rattle.exchange_session.specs.{Answered.{is_more, knows_more, piece_for, places_within}, Standing.{AreToldApartIn, IsMinded, Said}, Told.{IsAskedBack, IsOwnAsk, IsTold}}
use Rattle.exchange_session.specs.declared.messages.{RangeAsk.{RangeAsk}, RangePrint.{RangePrint}}

-- what holds of all holds of one among them
pub of_all : {X : Type 0} (P : X → Type 0) (x : X) (xs : List X) → IsAmong x xs → All P xs → P x
of_all P x [] among all = absurd among
of_all P x (y ∷ xs) (inl is) all = subst P is (all 0 x (omega arith))
of_all P x (y ∷ xs) (inr among) all = of_all P x xs among (λ k d lt. all (suc k) d (omega arith))

-- an ask for a range that has the place tells of the version that its sender holds there
pub told_version : (s : EntryMap) (it : RangeAsk) (p : PlaceParts) → IsOwnAsk (versions_of s) it → is_within it.range p ≡ true
    → finmap.get it.versions p ≡ option_map (λ (x : Entry). x.version) (finmap.get s p)
told_version s it p own here = ap (λ (m : VersionMap). finmap.get m p) own ∙ told it.range s p here ∙ get-digest_of s p

-- a version that is found is among those that are tested
any_found : (test : PlaceParts × Version → Bool) (p : PlaceParts) (v : Version) (vs : List (PlaceParts × Version)) → find place_cmp p vs ≡ Some v → test (p, v) ≡ true → list_any test vs ≡ true
any_found test p v [] h t = cc (h)
any_found test p v (e ∷ vs) h t = elim (eq_by_cmp place_cmp p e.0) as (λ b. eq_by_cmp place_cmp p e.0 ≡ b → cond b (Some e.1) (find place_cmp p vs) ≡ Some v → (test e || list_any test vs) ≡ true) [
  | true ↦ λ same is.
      let place : p ≡ e.0 = tied p e.0 same in
      let version : e.1 ≡ v = ap (λ (o : Option Version). elim o as (λ o. Version) [ None ↦ v | Some x ↦ x ]) is in
      let here : test e ≡ true = sym (ap (λ (q : PlaceParts). test (q, e.1)) place) ∙ ap (λ (w : Version). test (p, w)) version ∙ t in
      ap (λ (b : Bool). b || list_any test vs) here
  | false ↦ λ other is. elim (test e) as (λ b. (b || list_any test vs) ≡ true) [ true ↦ refl | false ↦ any_found test p v vs is t ]
] refl h

-- an ask that tells of something newer
pub more_known : (own : VersionMap) (asked : VersionMap) (p : PlaceParts) (v : Version) → finmap.get asked p ≡ Some v → is_newer v (finmap.get own p) ≡ true → knows_more own asked ≡ true
more_known own asked p v is newer = any_found (is_more own) p v (finmap.entries asked) (sym (finmap.get-entries asked p) ∙ is) newer

-- it is asked back for
pub told_back : (own : EntryMap) (prints : List RangePrint) (asks told : List RangeAsk) (it : RangeAsk) (p : PlaceParts) → IsAmong it asks → is_within it.range p ≡ true → knows_more (digest_of own) it.versions ≡ true
    → All (IsAskedBack (digest_of own) told) asks → IsTold p prints told
told_back own prints asks told it p among here more back = inr (of_all (IsAskedBack (digest_of own) told) it asks among back more p here)

-- a place that is held in a range is among those at which a piece is cut
asked_there : (r : Range) (vs : List (PlaceParts × Version)) (p : PlaceParts) (v : Version) → is_within r p ≡ true → find place_cmp p vs ≡ Some v → is_asked p (Some (places_within r vs)) ≡ true
asked_there r [] p v here h = cc (h)
asked_there r (e ∷ vs) p v here h = elim (eq_by_cmp place_cmp p e.0) as (λ b. eq_by_cmp place_cmp p e.0 ≡ b → cond b (Some e.1) (find place_cmp p vs) ≡ Some v → is_asked p (Some (map (λ (w : PlaceParts × Version). w.0) (cond (is_within r e.0) (e ∷ within r vs) (within r vs)))) ≡ true) [
  | true ↦ λ same is.
      let inside : is_within r e.0 ≡ true = sym (ap (is_within r) (tied p e.0 same)) ∙ here in
      subst (λ (b : Bool). is_asked p (Some (map (λ (w : PlaceParts × Version). w.0) (cond b (e ∷ within r vs) (within r vs)))) ≡ true) (sym inside) (ap (λ (b : Bool). b || list_any (λ (q : PlaceParts). eq_by_cmp place_cmp p q) (places_within r vs)) same)
  | false ↦ λ other is.
      let rest : is_asked p (Some (places_within r vs)) ≡ true = asked_there r vs p v here is in
      elim (is_within r e.0) as (λ b. is_asked p (Some (map (λ (w : PlaceParts × Version). w.0) (cond b (e ∷ within r vs) (within r vs)))) ≡ true) [
        | true ↦ elim (eq_by_cmp place_cmp p e.0) as (λ b. (b || list_any (λ (q : PlaceParts). eq_by_cmp place_cmp p q) (places_within r vs)) ≡ true) [ true ↦ refl | false ↦ rest ]
        | false ↦ rest
      ]
] refl h

-- the piece for an ask brings what is newer
pub brought : (own : EntryMap) (it : RangeAsk) (p : PlaceParts) (e : Entry) → finmap.get own p ≡ Some e → is_within it.range p ≡ true → is_newer e.version (finmap.get it.versions p) ≡ true
    → finmap.get (piece_for own it) p ≡ Some e
unfolding piece_for
brought own it p e is here newer =
    let places : List PlaceParts = places_within it.range (versions_of own) in
    let held : find place_cmp p (versions_of own) ≡ Some e.version = sym (finmap.get-entries (digest_of own) p) ∙ get-digest_of own p ∙ ap (option_map (λ (x : Entry). x.version)) is in
    let asked : is_asked p (Some places) ≡ true = asked_there it.range (versions_of own) p e.version here held in
    get-cut own it.versions (Some places) p ∙ ap (λ (o : Option Entry). passed (is_wanted it.versions (Some places)) p o) is
    ∙ ap (λ (b : Bool). cond (b && is_newer e.version (finmap.get it.versions p)) (Some e) None) asked ∙ ap (λ (b : Bool). cond b (Some e) None) newer

-- pieces are below what they are cut from
pub piece_below : (own : EntryMap) (it : RangeAsk) → IsStoreBelow (piece_for own it) own
unfolding piece_for
piece_below own it q = elim (finmap.get (cut own it.versions (Some (places_within it.range (versions_of own)))) q) as (λ o. finmap.get (cut own it.versions (Some (places_within it.range (versions_of own)))) q ≡ o → IsBelow o (finmap.get own q)) [
  | None ↦ λ e. tt
  | Some x ↦ λ e. subst (λ (o : Option Entry). IsBelow (Some x) o) (sym (get_from_cut own it.versions (Some (places_within it.range (versions_of own))) q x e)) (below_refl (Some x))
] refl

-- a newer entry is above
newer_above : (d e : Entry) → is_gt (version_cmp e.version d.version) ≡ true → IsBelow (Some d) (Some e)
newer_above d e newer = elim (version_cmp e.version d.version) as (λ o. version_cmp e.version d.version ≡ o → is_gt o ≡ true → is_gt (ordering_then (version_cmp d.version e.version) (content_cmp d.content e.content)) ≡ false) [
  | Less ↦ λ h n. cc (n)
  | Equal ↦ λ h n. cc (n)
  | Greater ↦ λ h n. ap (λ (o : Ordering). is_gt (ordering_then o (content_cmp d.content e.content))) (turned version_cmp version_cmp_total e.version d.version Greater h)
] refl newer

among_map : (own : EntryMap) (asks : List RangeAsk) (it : RangeAsk) → IsAmong it asks → IsAmong (piece_for own it) (map (piece_for own) asks)
among_map own [] it among = absurd among
among_map own (ask ∷ asks) it (inl is) = inl (ap (piece_for own) is)
among_map own (ask ∷ asks) it (inr among) = inr (among_map own asks it among)

-- a place of which an ask tells
pub minded_by_ask : (sender own : EntryMap) (asks : List RangeAsk) (reply : Said) (it : RangeAsk) (p : PlaceParts)
    → AreToldApartIn sender own → IsAmong it asks → IsOwnAsk (versions_of sender) it → is_within it.range p ≡ true
    → reply.pieces ≡ map (piece_for own) asks → All (IsAskedBack (digest_of own) reply.asks) asks → IsMinded own sender reply p
minded_by_ask sender own asks reply it p apart among told_own here pieces back = by (finmap.get own p) refl (finmap.get sender p) refl
  where
    told_is : finmap.get it.versions p ≡ option_map (λ (x : Entry). x.version) (finmap.get sender p)
    told_is = told_version sender it p told_own here

    held_is : finmap.get (digest_of own) p ≡ option_map (λ (x : Entry). x.version) (finmap.get own p)
    held_is = get-digest_of own p

    asks_again : (d : Entry) → finmap.get sender p ≡ Some d → is_newer d.version (option_map (λ (x : Entry). x.version) (finmap.get own p)) ≡ true → IsMinded own sender reply p
    asks_again d s newer = inr (inl (told_back own reply.prints asks reply.asks it p among here
        (more_known (digest_of own) it.versions p d.version (told_is ∙ ap (option_map (λ (x : Entry). x.version)) s) (ap (is_newer d.version) held_is ∙ newer)) back))

    brings : (e : Entry) → finmap.get own p ≡ Some e → is_newer e.version (option_map (λ (x : Entry). x.version) (finmap.get sender p)) ≡ true → IsBelow (finmap.get sender p) (Some e) → IsMinded own sender reply p
    brings e o newer below =
        let got : finmap.get (piece_for own it) p ≡ Some e = brought own it p e o here (ap (is_newer e.version) told_is ∙ newer) in
        inr (inr (piece_for own it, (subst (λ (l : List EntryMap). IsAmong (piece_for own it) l) (sym pieces) (among_map own asks it among), (got ∙ sym o, subst (λ (y : Option Entry). IsBelow (finmap.get sender p) y) (sym o) below))))

    compared : (e d : Entry) → finmap.get own p ≡ Some e → finmap.get sender p ≡ Some d → (o : Ordering) → version_cmp e.version d.version ≡ o → IsMinded own sender reply p
    compared e d own_is sender_is Less h =
        asks_again d sender_is (ap (λ (y : Option Entry). is_newer d.version (option_map (λ (x : Entry). x.version) y)) own_is ∙ ap is_gt (turned version_cmp version_cmp_total e.version d.version Less h))
    compared e d own_is sender_is Equal h =
        let same : d ≡ e = apart p d e sender_is own_is (sym (version_cmp-IsAntisymmetric e.version d.version h)) in
        inl (own_is ∙ sym (ap (λ (x : Entry). Some x) same) ∙ sym sender_is)
    compared e d own_is sender_is Greater h =
        brings e own_is (ap (λ (y : Option Entry). is_newer e.version (option_map (λ (x : Entry). x.version) y)) sender_is ∙ ap is_gt h)
        (subst (λ (y : Option Entry). IsBelow y (Some e)) (sym sender_is) (newer_above d e (ap is_gt h)))

    by : (o : Option Entry) → finmap.get own p ≡ o → (s : Option Entry) → finmap.get sender p ≡ s → IsMinded own sender reply p
    by None own_is None sender_is = inl (own_is ∙ sym sender_is)
    by None own_is (Some d) sender_is = asks_again d sender_is (ap (λ (y : Option Entry). is_newer d.version (option_map (λ (x : Entry). x.version) y)) own_is)
    by (Some e) own_is None sender_is = brings e own_is (ap (λ (y : Option Entry). is_newer e.version (option_map (λ (x : Entry). x.version) y)) sender_is) (subst (λ (y : Option Entry). IsBelow y (Some e)) (sym sender_is) tt)
    by (Some e) own_is (Some d) sender_is = compared e d own_is sender_is (version_cmp e.version d.version) refl
