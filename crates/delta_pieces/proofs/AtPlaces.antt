-- Versions at some places only.
use Rattle.std.{proofs.Common.{◌&&◌, ◌++◌, ◌+◌, ◌<◌, ◌||◌, ◌∷◌, ◌≡◌}, specs.FinMap.{find, is_sorted}}
use Rattle.delta_pieces.proofs.Prelude.{[], ap, Bool, cond, cut, digest_of, Entry, EntryMap, eq_by_cmp, false, find-put, from_T, get-cut, get-digest_of, get-only_at, get_or, is_asked, is_newer, is_sorted-put, is_wanted, IsTrue, length, List, list_any-append, None, only_at, Option, option_map, passed, place_cmp, place_cmp-IsAntisymmetric, place_cmp_total, PlaceParts, put, refl, same_map, same_store, Some, sym, take, take_more, tied, to_T, true, Version, VersionMap, ℕ, ◌∙◌}
use Rattle.std.specs.FinMap as finmap

pub put_ascends : (k : PlaceParts) (v : Version) (es : List (PlaceParts × Version)) → IsTrue (is_sorted place_cmp es) → IsTrue (is_sorted place_cmp (put place_cmp k v es))
put_ascends k v es s = from_T _ (is_sorted-put place_cmp place_cmp_total k v es (to_T _ s))

-- the version at a place, if the place is one of these
abbrev pub recorded : EntryMap → List PlaceParts → PlaceParts → Option Version
recorded s ps q = cond (is_asked q (Some ps)) (option_map (λ (x : Entry). x.version) (finmap.get s q)) None

-- the pairs have exactly the versions that are held at these places
abbrev pub Records : EntryMap → List PlaceParts → List (PlaceParts × Version) → Type 0
Records s ps es = (q : PlaceParts) → find place_cmp q es ≡ recorded s ps q

module _ (s : EntryMap) where
  -- One more place.

  module _ (ps : List PlaceParts) (p : PlaceParts) where
    here_or : (q : PlaceParts) → recorded s (ps ++ p ∷ []) q ≡ cond (eq_by_cmp place_cmp q p) (option_map (λ (x : Entry). x.version) (finmap.get s p)) (recorded s ps q)
    here_or q = ap (λ b. cond b held None) (list_any-append (λ k. eq_by_cmp place_cmp q k) ps (p ∷ [])) ∙ by (eq_by_cmp place_cmp q p) refl
      where
        held : Option Version
        held = option_map (λ (x : Entry). x.version) (finmap.get s q)

        either : (a : Bool) → cond (a || (true || false)) held None ≡ held
        either true = refl
        either false = refl

        neither : (a : Bool) → cond (a || (false || false)) held None ≡ cond a held None
        neither true = refl
        neither false = refl

        by : (b : Bool) → eq_by_cmp place_cmp q p ≡ b → cond (is_asked q (Some ps) || (eq_by_cmp place_cmp q p || false)) held None ≡ cond (eq_by_cmp place_cmp q p) (option_map (λ (x : Entry). x.version) (finmap.get s p)) (recorded s ps q)
        by true e =
            ap (λ b. cond (is_asked q (Some ps) || (b || false)) held None) e ∙ either (is_asked q (Some ps))
            ∙ ap (λ (k : PlaceParts). option_map (λ (x : Entry). x.version) (finmap.get s k)) (tied q p e)
            ∙ ap (λ b. cond b (option_map (λ (x : Entry). x.version) (finmap.get s p)) (recorded s ps q)) (sym e)
        by false e =
            ap (λ b. cond (is_asked q (Some ps) || (b || false)) held None) e ∙ neither (is_asked q (Some ps))
            ∙ ap (λ b. cond b (option_map (λ (x : Entry). x.version) (finmap.get s p)) (recorded s ps q)) (sym e)

    -- the store holds nothing there
    records_absent : (es : List (PlaceParts × Version)) → Records s ps es → finmap.get s p ≡ None → Records s (ps ++ p ∷ []) es
    records_absent es t none q = t q ∙ sym (here_or q ∙ by (eq_by_cmp place_cmp q p) refl)
      where
        by : (b : Bool) → eq_by_cmp place_cmp q p ≡ b → cond (eq_by_cmp place_cmp q p) (option_map (λ (x : Entry). x.version) (finmap.get s p)) (recorded s ps q) ≡ recorded s ps q
        by true e =
            ap (λ b. cond b (option_map (λ (x : Entry). x.version) (finmap.get s p)) (recorded s ps q)) e ∙ ap (option_map (λ (x : Entry). x.version)) none
            ∙ sym (ap (λ (k : PlaceParts). recorded s ps k) (tied q p e) ∙ ap (λ y. cond (is_asked p (Some ps)) (option_map (λ (x : Entry). x.version) y) None) none ∙ nothing (is_asked p (Some ps)))
          where
            nothing : (b : Bool) → ◌≡◌ {A = Option Version} (cond b None None) None
            nothing true = refl
            nothing false = refl
        by false e = ap (λ b. cond b (option_map (λ (x : Entry). x.version) (finmap.get s p)) (recorded s ps q)) e

    -- the version is added
    records_put : (es : List (PlaceParts × Version)) (x : Entry) → Records s ps es → finmap.get s p ≡ Some x → Records s (ps ++ p ∷ []) (put place_cmp p x.version es)
    records_put es x t held q =
        find-put place_cmp place_cmp_total q p x.version es
        ∙ (λ i. cond (eq_by_cmp place_cmp q p) (option_map (λ (y : Entry). y.version) (sym held i)) (t q i))
        ∙ sym (here_or q)

  module _ (ps : List PlaceParts) (i : ℕ) (p : PlaceParts) (h : i < length ps) (is : p ≡ get_or ps i p) where
    more : take i ps ++ p ∷ [] ≡ take (i + 1) ps
    more = ap (λ (k : PlaceParts). take i ps ++ k ∷ []) is ∙ sym (take_more ps i p h)

    pub records_past : (es : List (PlaceParts × Version)) → Records s (take i ps) es → finmap.get s p ≡ None → Records s (take (i + 1) ps) es
    records_past es t none q = records_absent (take i ps) p es t none q ∙ ap (λ rs. recorded s rs q) more

    pub records_with : (es : List (PlaceParts × Version)) (x : Entry) → Records s (take i ps) es → finmap.get s p ≡ Some x → Records s (take (i + 1) ps) (put place_cmp p x.version es)
    records_with es x t held q = records_put (take i ps) p es x t held q ∙ ap (λ rs. recorded s rs q) more

  -- All places.

  module _ (ps : List PlaceParts) where
    get-digest_at : (q : PlaceParts) → finmap.get (digest_of (only_at ps s)) q ≡ recorded s ps q
    get-digest_at q = get-digest_of (only_at ps s) q ∙ ap (option_map (λ (x : Entry). x.version)) (get-only_at ps s q) ∙ at (finmap.get s q)
      where
        at : (y : Option Entry) → option_map (λ (x : Entry). x.version) (passed (λ e. is_asked e.place (Some ps)) q y) ≡ cond (is_asked q (Some ps)) (option_map (λ (x : Entry). x.version) y) None
        at None = elim (is_asked q (Some ps)) as (λ b. ◌≡◌ {A = Option Version} None (cond b None None)) [ true ↦ refl | false ↦ refl ]
        at (Some x) = elim (is_asked q (Some ps)) as (λ b. option_map (λ (x : Entry). x.version) (cond b (Some x) None) ≡ cond b (Some x.version) None) [ true ↦ refl | false ↦ refl ]

    -- such pairs are the digest of the part of the store at these places
    pub recorded_is_digest : (d : VersionMap) (es : List (PlaceParts × Version)) → finmap.entries d ≡ es → Records s ps es → d ≡ digest_of (only_at ps s)
    recorded_is_digest d es is t =
        same_map place_cmp_total place_cmp-IsAntisymmetric d (digest_of (only_at ps s)) (λ q.
        finmap.get-entries d q ∙ ap (find place_cmp q) is ∙ t q ∙ sym (get-digest_at q))

    -- at these places, the same is cut for this digest as for the complete one
    pub same_cut : (t : EntryMap) → cut t (digest_of (only_at ps s)) (Some ps) ≡ cut t (digest_of s) (Some ps)
    same_cut t = same_store _ _ (λ q. get-cut t (digest_of (only_at ps s)) (Some ps) q ∙ at q (finmap.get t q) ∙ sym (get-cut t (digest_of s) (Some ps) q))
      where
        recorded_there : (q : PlaceParts) → is_asked q (Some ps) ≡ true → finmap.get (digest_of (only_at ps s)) q ≡ finmap.get (digest_of s) q
        recorded_there q e = get-digest_at q ∙ ap (λ b. cond b (option_map (λ (x : Entry). x.version) (finmap.get s q)) None) e ∙ sym (get-digest_of s q)

        at : (q : PlaceParts) (y : Option Entry) → passed (is_wanted (digest_of (only_at ps s)) (Some ps)) q y ≡ passed (is_wanted (digest_of s) (Some ps)) q y
        at q None = refl
        at q (Some x) = by (is_asked q (Some ps)) refl
          where
            by : (b : Bool) → is_asked q (Some ps) ≡ b → cond (is_asked q (Some ps) && is_newer x.version (finmap.get (digest_of (only_at ps s)) q)) (Some x) None ≡ cond (is_asked q (Some ps) && is_newer x.version (finmap.get (digest_of s) q)) (Some x) None
            by true e = ap (λ v. cond (is_asked q (Some ps) && is_newer x.version v) (Some x) None) (recorded_there q e)
            by false e = ap (λ b. cond (b && is_newer x.version (finmap.get (digest_of (only_at ps s)) q)) (Some x) None) e ∙ sym (ap (λ b. cond (b && is_newer x.version (finmap.get (digest_of s) q)) (Some x) None) e)
