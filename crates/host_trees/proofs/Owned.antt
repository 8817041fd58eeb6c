-- What a host holds in a folder at a level.
use Rattle.std.proofs.Common.{◌∷◌, ◌≡◌}
use Rattle.host_trees.proofs.Prelude.{[], and_from, ap, Bool, bytes_eq-Decides, cond, Entry, eq-eqb, false, filter, find, HostViewMap, inl, inr, is_in, IsAmong, List, None, Option, option_and_then, path_at, path_cmp, PathParts, refl, shown, Some, subst, sym, true, view, viewed_at, ℕ, ◌∙◌}
use Rattle.host_trees.proofs.Sorted.{among_found}
use Rattle.std.specs.FinMap as finmap

kept_among : {X : Type 0} (q : X → Bool) (x : X) (xs : List X) → q x ≡ true → IsAmong x xs → IsAmong x (filter q xs)
kept_among q x [] e a = absurd a
kept_among q x (y ∷ xs) e (inl same) = by (q y) (ap q same ∙ e)
  where
    by : (b : Bool) → b ≡ true → IsAmong x (cond b (y ∷ filter q xs) (filter q xs))
    by true h = inl same
    by false h = cc (h)
kept_among q x (y ∷ xs) e (inr a) = by (q y) (kept_among q x xs e a)
  where
    by : (b : Bool) → IsAmong x (filter q xs) → IsAmong x (cond b (y ∷ filter q xs) (filter q xs))
    by true h = inr h
    by false h = h

in_its_folder : (level : ℕ) (folder file : List ℕ) → is_in level folder (path_at level folder file) ≡ true
in_its_folder level folder file = and_from _ _ (eq-eqb level level refl) ((bytes_eq-Decides folder folder).1 refl)

-- In a folder without entries nothing is visible.
pub nothing_seen : (v : HostViewMap) (level : ℕ) (folder : List ℕ) → filter (λ (p : PathParts × Entry). is_in level folder p.0) (finmap.entries (view v)) ≡ []
    → (file : List ℕ) → viewed_at v (path_at level folder file) ≡ None
nothing_seen v level folder none file = by (finmap.get (view v) (path_at level folder file)) refl
  where
    by : (o : Option Entry) → finmap.get (view v) (path_at level folder file) ≡ o → viewed_at v (path_at level folder file) ≡ None
    by None got = ap (option_and_then shown) got
    by (Some e) got =
        let found : find path_cmp (path_at level folder file) (finmap.entries (view v)) ≡ Some e = sym (finmap.get-entries (view v) (path_at level folder file)) ∙ got in
        let among = among_found (path_at level folder file) e (finmap.entries (view v)) found in
        let kept = kept_among (λ (p : PathParts × Entry). is_in level folder p.0) (path_at level folder file, e) (finmap.entries (view v)) (in_its_folder level folder file) among in
        absurd (subst (IsAmong (path_at level folder file, e)) none kept)
