-- Copies of entries, joined one by one.
use Rattle.std.proofs.Common.{◌∷◌, ◌≡◌}
use Rattle.delta_pieces.proofs.Prelude.{[], ap, Bool, Bor, cond, digest_of, drop, edit_of, Entry, EntryMap, false, filter, get-digest_of, is_newer, join, join-nothing, join_assoc, join_comm, List, map, None, Option, option_copied, option_map, PlaceParts, refl, Some, suc, sum_of, sum_of-append, sym, take, true, with_edit, with_edit-join, zero, ℕ, ◌∙◌}
use Rattle.std.specs.FinMap as finmap

abbrev pub sum_at : List (PlaceParts × Entry) → EntryMap
sum_at es = sum_of (map edit_of es)

pub joined_none : (s : EntryMap) (es : List (PlaceParts × Entry)) → es ≡ [] → s ≡ join s (sum_at es)
joined_none s es e = sym (ap (λ xs. join s (sum_at xs)) e ∙ join-nothing s)

pub joined_all : (s : EntryMap) (es : List (PlaceParts × Entry)) → s ≡ finmap.empty → join s (sum_at es) ≡ sum_at es
joined_all s es e = ap (λ t. join t (sum_at es)) e ∙ join_comm finmap.empty (sum_at es) ∙ join-nothing (sum_at es)

pub none_taken : (n : ℕ) (xs : List (PlaceParts × Entry)) → xs ≡ [] → take n xs ≡ []
none_taken zero xs e = refl
none_taken (suc n) xs e = ap (take (suc n)) e

-- one entry, and then the others
joined_first : (s : EntryMap) (e : PlaceParts × Entry) (es : List (PlaceParts × Entry)) → join (with_edit s (edit_of e)) (sum_at es) ≡ join s (sum_at (e ∷ es))
joined_first s e es =
    ap (λ t. join t (sum_at es)) (with_edit-join s (edit_of e)) ∙ join_assoc s (sum_of (edit_of e ∷ [])) (sum_at es)
    ∙ ap (join s) (sym (sum_of-append (edit_of e ∷ []) (map edit_of es)))

module _ (s : EntryMap) (e : PlaceParts × Entry) (es xs : List (PlaceParts × Entry)) (is : xs ≡ e ∷ es) where
  -- with the first of the entries that are removed
  pub taken_first : (n m : ℕ) → n ≡ suc m → (t : EntryMap) → join s (sum_at (take n xs)) ≡ t → join (with_edit s (edit_of e)) (sum_at (take m es)) ≡ t
  taken_first n m more t h = joined_first s e (take m es) ∙ (λ i. join s (sum_at (take (sym more i) (sym is i)))) ∙ h

  pub dropped_first : (n m : ℕ) → n ≡ suc m → (t : List (PlaceParts × Entry)) → drop n xs ≡ t → drop m es ≡ t
  dropped_first n m more t h = (λ i. drop (sym more i) (sym is i)) ∙ h

  -- with the first of the entries that pass a test, or without it
  module _ (p : PlaceParts × Entry → Bool) (t : EntryMap) (h : join s (sum_at (filter p xs)) ≡ t) where
    pub passed_first : p e ≡ true → join (with_edit s (edit_of e)) (sum_at (filter p es)) ≡ t
    passed_first passes =
        joined_first s e (filter p es) ∙ ap (λ b. join s (sum_at (cond b (e ∷ filter p es) (filter p es)))) (sym passes)
        ∙ ap (λ l. join s (sum_at (filter p l))) (sym is) ∙ h

    pub failed_first : p e ≡ false → join s (sum_at (filter p es)) ≡ t
    failed_first fails =
        ap (λ b. join s (sum_at (cond b (e ∷ filter p es) (filter p es)))) (sym fails)
        ∙ ap (λ l. join s (sum_at (filter p l))) (sym is) ∙ h

-- Entries paired with what another store holds at their places.

abbrev pub Compared : Type 0
Compared = (PlaceParts × Entry) × Option Entry

abbrev pub is_news_zipped : Compared → Bool
is_news_zipped b = is_newer b.0.1.version (option_map (λ (x : Entry). x.version) b.1)

-- the newer ones
abbrev pub news : List Compared → List (PlaceParts × Entry)
news bs = map (λ b. b.0) (filter is_news_zipped bs)

news_all : (held : PlaceParts → Option Entry) (es : List (PlaceParts × Entry)) → news (map (λ p. (p, held p.0)) es) ≡ filter (λ p. is_newer p.1.version (option_map (λ (x : Entry). x.version) (held p.0))) es
news_all held [] = refl
news_all held (e ∷ es) =
    elim (is_news_zipped (e, held e.0)) as (λ b. map (λ (c : Compared). c.0) (cond b ((e, held e.0) ∷ filter is_news_zipped (map (λ p. (p, held p.0)) es)) (filter is_news_zipped (map (λ p. (p, held p.0)) es)))
    ≡ cond b (e ∷ filter (λ (p : PlaceParts × Entry). is_newer p.1.version (option_map (λ (x : Entry). x.version) (held p.0))) es) (filter (λ (p : PlaceParts × Entry). is_newer p.1.version (option_map (λ (x : Entry). x.version) (held p.0))) es)) [
      | true ↦ ap (λ (l : List (PlaceParts × Entry)). e ∷ l) (news_all held es)
      | false ↦ news_all held es
    ]

-- they are the entries that are newer than the other store's digest
pub news_of_digest : (other : EntryMap) (es : List (PlaceParts × Entry)) → news (map (λ p. (p, finmap.get other p.0)) es) ≡ filter (λ p. is_newer p.1.version (finmap.get (digest_of other) p.0)) es
news_of_digest other es = news_all (finmap.get other) es ∙ (λ i. filter (λ (p : PlaceParts × Entry). is_newer p.1.version (sym (get-digest_of other p.0) i)) es)

pub held_version : (held : Option (Bor Entry)) → option_map (λ x. x.now.version) held ≡ option_map (λ (x : Entry). x.version) (option_copied held)
held_version None = refl
held_version (Some x) = refl

module _ (s : EntryMap) (b : Compared) (bs xs : List Compared) (is : xs ≡ b ∷ bs) (t : EntryMap) (h : join s (sum_at (news xs)) ≡ t) where
  pub passed_zipped : is_news_zipped b ≡ true → join (with_edit s (edit_of b.0)) (sum_at (news bs)) ≡ t
  passed_zipped passes =
      joined_first s b.0 (news bs) ∙ ap (λ c. join s (sum_at (map (λ (x : Compared). x.0) (cond c (b ∷ filter is_news_zipped bs) (filter is_news_zipped bs))))) (sym passes)
      ∙ ap (λ l. join s (sum_at (news l))) (sym is) ∙ h

  pub failed_zipped : is_news_zipped b ≡ false → join s (sum_at (news bs)) ≡ t
  failed_zipped fails =
      ap (λ c. join s (sum_at (map (λ (x : Compared). x.0) (cond c (b ∷ filter is_news_zipped bs) (filter is_news_zipped bs))))) (sym fails)
      ∙ ap (λ l. join s (sum_at (news l))) (sym is) ∙ h
