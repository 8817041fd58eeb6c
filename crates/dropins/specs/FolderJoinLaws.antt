-- Laws of the folders of several names: they are the folders of each, name by name.
use Rattle.std.proofs.Common.{◌++◌, ◌||◌, ◌↔◌, ◌∷◌, ◌≡◌, ◌⊎◌}
use Rattle.dropins.specs.Prelude.{[], among_from_contains, ap, append-nil, append_assoc, Bool, bytes_eq, bytes_eq-Decides, cond, Contains, contains_from_among, false, filter, filter_agree, filter_twice, flat_map, flat_map-append, fold, fold-append, inl, inr, IsAmong, IsAmong-append_cases, IsAmong-append_left, IsAmong-append_right, List, list_any-append, Name, not, refl, subst, sym, true, true≢false, ◌∙◌}
use Rattle.dropins.specs.FolderLists.{firsts, folders, folders_of, is_among, with_name}

-- The folders of `fs` that aren't among the others.
abbrev pub not_among : List Name → List Name → List Name
not_among others fs = filter (λ f. not (is_among f others)) fs

-- A folder is in the list of several names exactly if it is in the list of one of them.
abbrev pub FoldersOfEach : Type 0
FoldersOfEach = (ns : List Name) (f : Name) → Contains (folders ns) f ↔ ((n : Name) × (Contains ns n × Contains (folders (n ∷ [])) f))

-- The folder list of two concatenated lists of names is that of the first, then what is new in that of the second.
abbrev pub FoldersJoin : Type 0
FoldersJoin = (ns ms : List Name) → folders (ns ++ ms) ≡ folders ns ++ not_among (folders ns) (folders ms)

-- ---- concatenated lists without repetitions

among_same : (x y : Name) (ns : List Name) → bytes_eq y x ≡ true → is_among x ns ≡ true → is_among y ns ≡ true
among_same x y ns e h = ap (λ z. is_among z ns) ((bytes_eq-Decides y x).0 e) ∙ h

-- Filtering out a name that is already listed changes nothing.
known : (x : Name) (ns fs : List Name) → is_among x ns ≡ true → not_among ns (not_among (x ∷ []) fs) ≡ not_among ns fs
known x ns fs h = filter_twice (λ y. not (is_among y ns)) (λ y. not (is_among y (x ∷ []))) fs ∙ filter_agree _ _ both fs
  where
    by : (y : Name) (b : Bool) → bytes_eq y x ≡ b → cond (not (b || false)) (not (is_among y ns)) false ≡ not (is_among y ns)
    by y true e = sym (ap not (among_same x y ns e h))
    by y false e = refl

    both : (y : Name) → cond (not (is_among y (x ∷ []))) (not (is_among y ns)) false ≡ not (is_among y ns)
    both y = by y (bytes_eq y x) refl

-- A new name is filtered out from then on.
added : (x : Name) (ns fs : List Name) → not_among ns (not_among (x ∷ []) fs) ≡ not_among (ns ++ x ∷ []) fs
added x ns fs = filter_twice (λ y. not (is_among y ns)) (λ y. not (is_among y (x ∷ []))) fs ∙ filter_agree _ _ both fs
  where
    by : (a b : Bool) → cond (not b) (not a) false ≡ not (a || b)
    by true true = refl
    by true false = refl
    by false true = refl
    by false false = refl

    both : (y : Name) → cond (not (is_among y (x ∷ []))) (not (is_among y ns)) false ≡ not (is_among y (ns ++ x ∷ []))
    both y = by (is_among y ns) (is_among y (x ∷ [])) ∙ ap not (sym (list_any-append (bytes_eq y) ns (x ∷ [])))

-- Adding names to a list gives the list, and then what is new.
fold-with_name : (xs ns : List Name) → fold with_name ns xs ≡ ns ++ not_among ns (firsts xs)
fold-with_name [] ns = sym (append-nil ns)
fold-with_name (x ∷ xs) ns =
    fold-with_name xs (with_name ns x) ∙ by (is_among x ns) refl ∙ ap (λ l. ns ++ not_among ns l) (sym (fold-with_name xs (x ∷ [])))
  where
    by : (b : Bool) → is_among x ns ≡ b → cond b ns (ns ++ x ∷ []) ++ not_among (cond b ns (ns ++ x ∷ [])) (firsts xs)
        ≡ ns ++ not_among ns (x ∷ not_among (x ∷ []) (firsts xs))
    by true e =
        ap (λ l. ns ++ l) (sym (known x ns (firsts xs) e))
        ∙ sym (ap (λ b. ns ++ cond (not b) (x ∷ not_among ns (not_among (x ∷ []) (firsts xs))) (not_among ns (not_among (x ∷ []) (firsts xs)))) e)
    by false e =
        append_assoc ns (x ∷ []) (not_among (ns ++ x ∷ []) (firsts xs))
        ∙ ap (λ l. ns ++ x ∷ l) (sym (added x ns (firsts xs)))
        ∙ sym (ap (λ b. ns ++ cond (not b) (x ∷ not_among ns (not_among (x ∷ []) (firsts xs))) (not_among ns (not_among (x ∷ []) (firsts xs)))) e)

firsts-append : (xs ys : List Name) → firsts (xs ++ ys) ≡ firsts xs ++ not_among (firsts xs) (firsts ys)
firsts-append xs ys = fold-append with_name [] xs ys ∙ fold-with_name ys (firsts xs)

pub folders_join : FoldersJoin
folders_join ns ms = ap firsts (flat_map-append folders_of ns ms) ∙ firsts-append (flat_map folders_of ns) (flat_map folders_of ms)

-- ---- the folders of each

-- What a filter keeps was there, and what was there is kept if it passes.
kept_was_there : (p : Name → Bool) (x : Name) (xs : List Name) → IsAmong x (filter p xs) → IsAmong x xs
kept_was_there p x [] h = h
kept_was_there p x (y ∷ xs) h = by (p y) h (kept_was_there p x xs)
  where
    by : (b : Bool) → IsAmong x (cond b (y ∷ filter p xs) (filter p xs)) → (IsAmong x (filter p xs) → IsAmong x xs) → (y ≡ x) ⊎ IsAmong x xs
    by true (inl e) more = inl e
    by true (inr k) more = inr (more k)
    by false k more = inr (more k)

there_is_kept : (p : Name → Bool) (x : Name) (xs : List Name) → p x ≡ true → IsAmong x xs → IsAmong x (filter p xs)
there_is_kept p x [] passes h = h
there_is_kept p x (y ∷ xs) passes h = by (p y) refl h (there_is_kept p x xs passes)
  where
    by : (b : Bool) → p y ≡ b → (y ≡ x) ⊎ IsAmong x xs → (IsAmong x xs → IsAmong x (filter p xs))
        → IsAmong x (cond b (y ∷ filter p xs) (filter p xs))
    by true e (inl k) more = inl k
    by true e (inr k) more = inr (more k)
    by false e (inl k) more = absurd (true≢false (sym passes ∙ ap p (sym k) ∙ e))
    by false e (inr k) more = more k

-- The list without repetitions has the same names.
pub among_firsts : (x : Name) (xs : List Name) → IsAmong x (firsts xs) → IsAmong x xs
among_firsts x [] h = h
among_firsts x (y ∷ xs) h = by (subst (λ l. IsAmong x l) (firsts-append (y ∷ []) xs) h) (among_firsts x xs)
  where
    by : (y ≡ x) ⊎ IsAmong x (not_among (y ∷ []) (firsts xs)) → (IsAmong x (firsts xs) → IsAmong x xs) → (y ≡ x) ⊎ IsAmong x xs
    by (inl e) more = inl e
    by (inr k) more = inr (more (kept_was_there (λ f. not (is_among f (y ∷ []))) x (firsts xs) k))

pub among_all : (x : Name) (xs : List Name) → IsAmong x xs → IsAmong x (firsts xs)
among_all x [] h = h
among_all x (y ∷ xs) h = subst (λ l. IsAmong x l) (sym (firsts-append (y ∷ []) xs)) (by (bytes_eq x y) refl h (among_all x xs))
  where
    by : (b : Bool) → bytes_eq x y ≡ b → (y ≡ x) ⊎ IsAmong x xs → (IsAmong x xs → IsAmong x (firsts xs))
        → (y ≡ x) ⊎ IsAmong x (not_among (y ∷ []) (firsts xs))
    by b e (inl k) more = inl k
    by true e (inr k) more = inl (sym ((bytes_eq-Decides x y).0 e))
    by false e (inr k) more = inr (there_is_kept (λ f. not (is_among f (y ∷ []))) x (firsts xs) (ap (λ b. not (b || false)) e) (more k))

-- What several names give is given by one of them.
given_by_one : (f : Name) (ns : List Name) → IsAmong f (flat_map folders_of ns) → (n : Name) × (IsAmong n ns × IsAmong f (folders_of n))
given_by_one f [] h = absurd h
given_by_one f (n ∷ ns) h = by (IsAmong-append_cases f (folders_of n) (flat_map folders_of ns) h) (given_by_one f ns)
  where
    later : (m : Name) × (IsAmong m ns × IsAmong f (folders_of m)) → (m : Name) × (IsAmong m (n ∷ ns) × IsAmong f (folders_of m))
    later (m, k) = (m, (inr k.0, k.1))

    by : IsAmong f (folders_of n) ⊎ IsAmong f (flat_map folders_of ns)
        → (IsAmong f (flat_map folders_of ns) → (m : Name) × (IsAmong m ns × IsAmong f (folders_of m)))
        → (m : Name) × (IsAmong m (n ∷ ns) × IsAmong f (folders_of m))
    by (inl a) more = (n, (inl refl, a))
    by (inr b) more = later (more b)

one_gives : (f n : Name) (ns : List Name) → IsAmong n ns → IsAmong f (folders_of n) → IsAmong f (flat_map folders_of ns)
one_gives f n [] h a = absurd h
one_gives f n (m ∷ ns) (inl e) a = IsAmong-append_left f (folders_of m) (flat_map folders_of ns) (subst (λ k. IsAmong f (folders_of k)) (sym e) a)
one_gives f n (m ∷ ns) (inr h) a = IsAmong-append_right f (folders_of m) (flat_map folders_of ns) (one_gives f n ns h a)

pub folders_of_each : FoldersOfEach
folders_of_each ns f = (
  λ h. of_one (given_by_one f ns (among_firsts f (flat_map folders_of ns) (among_from_contains f (folders ns) h))),
  λ (n, k). contains_from_among f (folders ns) (among_all f (flat_map folders_of ns) (one_gives f n ns (among_from_contains n ns k.0) (alone n (among_firsts f (flat_map folders_of (n ∷ [])) (among_from_contains f (folders (n ∷ [])) k.1))))),
)
  where
    alone : (n : Name) → IsAmong f (flat_map folders_of (n ∷ [])) → IsAmong f (folders_of n)
    alone n h = subst (λ l. IsAmong f l) (append-nil (folders_of n)) h

    of_one : (n : Name) × (IsAmong n ns × IsAmong f (folders_of n)) → (n : Name) × (Contains ns n × Contains (folders (n ∷ [])) f)
    of_one (n, k) = (n, (contains_from_among n ns k.0, contains_from_among f (folders (n ∷ [])) (among_all f (flat_map folders_of (n ∷ [])) (subst (λ l. IsAmong f l) (sym (append-nil (folders_of n))) k.1))))
