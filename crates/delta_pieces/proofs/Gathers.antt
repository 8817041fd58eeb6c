-- Collecting entries place by place.
use Rattle.std.proofs.Common.{◌&&◌, ◌++◌, ◌+◌, ◌<◌, ◌||◌, ◌∷◌, ◌≡◌}
use Rattle.delta_pieces.proofs.Prelude.{[], ap, Bool, cond, cut, Edit, edit_of, edits_of, Entry, EntryMap, eq_by_cmp, false, filter, get-cut, get-join, get-sum_of, get_or, is_asked, is_newer, is_wanted, join, join-nothing, larger, larger_idem, length, List, list_any-append, None, only_at, Option, passed, place_cmp, PlaceParts, refl, same_store, Some, sum_of, sym, take, take_more, tied, true, VersionMap, with_edit, with_edit-join, ℕ, ◌∙◌}
use Rattle.std.specs.FinMap as finmap

nothing : (b : Bool) → ◌≡◌ {A = Option Entry} (cond b None None) None
nothing true = refl
nothing false = refl

module _ (s : EntryMap) (ask : VersionMap) where
  -- No place.

  none_wanted : (q : PlaceParts) (y : Option Entry) → passed (is_wanted ask (Some [])) q y ≡ None
  none_wanted q None = refl
  none_wanted q (Some x) = refl

  pub cut_nowhere : cut s ask (Some []) ≡ finmap.empty
  cut_nowhere = same_store _ _ (λ q. get-cut s ask (Some []) q ∙ none_wanted q (finmap.get s q) ∙ sym (finmap.get-empty place_cmp q))

  -- More places.

  either : (a b n : Bool) (x : Entry) → larger (cond (a && n) (Some x) None) (cond (b && n) (Some x) None) ≡ cond ((a || b) && n) (Some x) None
  either true true true x = larger_idem (Some x)
  either true true false x = refl
  either true false true x = refl
  either true false false x = refl
  either false b n x = refl

  both_wanted : (ps qs : List PlaceParts) (q : PlaceParts) (y : Option Entry) → larger (passed (is_wanted ask (Some ps)) q y) (passed (is_wanted ask (Some qs)) q y) ≡ passed (is_wanted ask (Some (ps ++ qs))) q y
  both_wanted ps qs q None = refl
  both_wanted ps qs q (Some x) =
      either (is_asked q (Some ps)) (is_asked q (Some qs)) (is_newer x.version (finmap.get ask q)) x
      ∙ ap (λ b. cond (b && is_newer x.version (finmap.get ask q)) (Some x) None) (sym (list_any-append (λ p. eq_by_cmp place_cmp q p) ps qs))

  cut_at_both : (ps qs : List PlaceParts) → join (cut s ask (Some ps)) (cut s ask (Some qs)) ≡ cut s ask (Some (ps ++ qs))
  cut_at_both ps qs = same_store _ _ (λ q.
      get-join (cut s ask (Some ps)) (cut s ask (Some qs)) q
      ∙ (λ i. larger (get-cut s ask (Some ps) q i) (get-cut s ask (Some qs) q i))
      ∙ both_wanted ps qs q (finmap.get s q)
      ∙ sym (get-cut s ask (Some (ps ++ qs)) q))

  -- with the cut at one more place
  pub cut_at_more : (ps : List PlaceParts) (i : ℕ) (p : PlaceParts) → i < length ps → p ≡ get_or ps i p → join (cut s ask (Some (take i ps))) (cut s ask (Some (p ∷ []))) ≡ cut s ask (Some (take (i + 1) ps))
  cut_at_more ps i p h is =
      cut_at_both (take i ps) (p ∷ [])
      ∙ ap (λ (r : PlaceParts). cut s ask (Some (take i ps ++ r ∷ []))) is
      ∙ ap (λ rs. cut s ask (Some rs)) (sym (take_more ps i p h))

  -- One place.

  module _ (p : PlaceParts) where
    one_asked : (q : PlaceParts) (y : Option Entry) → passed (is_wanted ask (Some (p ∷ []))) q y ≡ cond (eq_by_cmp place_cmp q p) (passed (is_wanted ask None) q y) None
    one_asked q None = sym (nothing (eq_by_cmp place_cmp q p))
    one_asked q (Some x) =
        elim (eq_by_cmp place_cmp q p) as (λ b. cond ((b || false) && is_newer x.version (finmap.get ask q)) (Some x) None ≡ cond b (cond (is_newer x.version (finmap.get ask q)) (Some x) None) None) [
          | true ↦ refl
          | false ↦ refl
        ]

    at_one : (q : PlaceParts) → finmap.get (cut s ask (Some (p ∷ []))) q ≡ cond (eq_by_cmp place_cmp q p) (passed (is_wanted ask None) p (finmap.get s p)) None
    at_one q = get-cut s ask (Some (p ∷ [])) q ∙ one_asked q (finmap.get s q) ∙ moved (eq_by_cmp place_cmp q p) refl
      where
        moved : (b : Bool) → eq_by_cmp place_cmp q p ≡ b → cond (eq_by_cmp place_cmp q p) (passed (is_wanted ask None) q (finmap.get s q)) None ≡ cond (eq_by_cmp place_cmp q p) (passed (is_wanted ask None) p (finmap.get s p)) None
        moved true e = ap (λ (r : PlaceParts). cond (eq_by_cmp place_cmp q p) (passed (is_wanted ask None) r (finmap.get s r)) None) (tied q p e)
        moved false e = ap (λ b. cond b (passed (is_wanted ask None) q (finmap.get s q)) None) e ∙ sym (ap (λ b. cond b (passed (is_wanted ask None) p (finmap.get s p)) None) e)

    cut_one : (x : Entry) → passed (is_wanted ask None) p (finmap.get s p) ≡ Some x → cut s ask (Some (p ∷ [])) ≡ sum_of (edit_of (p, x) ∷ [])
    cut_one x is = same_store _ _ (λ q. at_one q ∙ ap (λ y. cond (eq_by_cmp place_cmp q p) y None) is ∙ sym (get-sum_of (edit_of (p, x) ∷ []) q))

    cut_none : passed (is_wanted ask None) p (finmap.get s p) ≡ None → cut s ask (Some (p ∷ [])) ≡ sum_of []
    cut_none is = same_store _ _ (λ q. at_one q ∙ ap (λ y. cond (eq_by_cmp place_cmp q p) y None) is ∙ nothing (eq_by_cmp place_cmp q p) ∙ sym (get-sum_of [] q))

    module _ (g : EntryMap) where
      -- the store holds nothing there
      pub join_absent : finmap.get s p ≡ None → g ≡ join g (cut s ask (Some (p ∷ [])))
      join_absent held = sym (ap (join g) (cut_none (ap (passed (is_wanted ask None) p) held)) ∙ join-nothing g)

      module _ (x : Entry) (held : finmap.get s p ≡ Some x) where
        -- the entry there isn't newer
        pub join_older : is_newer x.version (finmap.get ask p) ≡ false → g ≡ join g (cut s ask (Some (p ∷ [])))
        join_older older = sym (ap (join g) (cut_none (ap (passed (is_wanted ask None) p) held ∙ ap (λ b. cond b (Some x) None) older)) ∙ join-nothing g)

        -- the entry there is newer
        pub join_newer : is_newer x.version (finmap.get ask p) ≡ true → with_edit g (edit_of (p, x)) ≡ join g (cut s ask (Some (p ∷ [])))
        join_newer newer =
            with_edit-join g (edit_of (p, x))
            ∙ sym (ap (join g) (cut_one x (ap (passed (is_wanted ask None) p) held ∙ ap (λ b. cond b (Some x) None) newer)))

-- without a version to compare with, every entry is newer
and_true : (b : Bool) → (b && true) ≡ b
and_true true = refl
and_true false = refl

pub only_is_cut : (ps : List PlaceParts) (s : EntryMap) → cut s finmap.empty (Some ps) ≡ only_at ps s
only_is_cut ps s = λ i. sum_of (filter (λ (e : Edit). any e i) (edits_of s))
  where
    any : (e : Edit) → is_wanted finmap.empty (Some ps) e ≡ is_asked e.place (Some ps)
    any e = ap (λ v. is_asked e.place (Some ps) && is_newer e.version v) (finmap.get-empty place_cmp e.place) ∙ and_true (is_asked e.place (Some ps))
