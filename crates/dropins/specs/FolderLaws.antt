-- Laws of folder lists: each folder is a name and is listed once.
use Rattle.std.proofs.Common.{◌++◌, ◌-◌, ◌<◌, ◌∷◌, ◌≡◌, ◌≢◌}
use Rattle.dropins.specs.Prelude.{[], All, All-append, All-cons, All-head, All-nil, All-push, All-tail, all_pairs_push, AllPairs, ap, arith, Bool, bytes_eq, bytes_eq-Decides, cond, Contains, false, first_there, flat_map, fold, get_or, Instance, is_empty, IsName, later_there, length, List, list_any, Name, None, Option, or_parts, Plain, prefix, prefixes_may_be_cut, refl, Shape, shape, slice_index, Some, suc, sym, take, Template, template_at, template_of, templates_keep_parts, true, true≢false, zero, ℕ, ◌∙◌}
use Rattle.dropins.specs.{CutLaws.{cuts_are_dashed_prefixes, IsDashedPrefix}, FolderLists.{cuts, folders, folders_of, is_among, is_dash, listed, prefixes, with_name, with_prefix, with_template}}

-- A name that is no instance and has no dash in its prefix has one folder.
abbrev pub OneFolder : Type 0
OneFolder = (n : Name) → shape n ≢ Instance → list_any is_dash (prefix n) ≡ false → folders (n ∷ []) ≡ n ∷ []

-- The folders of names are names.
abbrev pub FoldersAreNames : Type 0
FoldersAreNames = (ns : List Name) → All IsName ns → All IsName (folders ns)

-- No two folders of a folder list are the same.
abbrev pub FoldersStandOnce : Type 0
FoldersStandOnce = (ns : List Name) → AllPairs (λ x y. x ≢ y) (folders ns)

no_dash : (p : List ℕ) (n : ℕ) → list_any is_dash p ≡ false → is_dash (slice_index p n) ≡ false
no_dash [] n h = refl
no_dash (b ∷ bs) zero h = (or_parts (is_dash b) (list_any is_dash bs) h).0
no_dash (b ∷ bs) (suc n) h = no_dash bs n (or_parts (is_dash b) (list_any is_dash bs) h).1

no_prefixes : (n : ℕ) (p : List ℕ) → list_any is_dash p ≡ false → prefixes n p ≡ []
no_prefixes zero p h = refl
no_prefixes (suc n) p h = ap (λ b. cond b (take (suc n) p ∷ prefixes n p) (prefixes n p)) (no_dash p n h) ∙ no_prefixes n p h

no_template : (s : Shape) (n : Name) → s ≢ Instance → template_at s n ≡ None
no_template Plain n h = refl
no_template Template n h = refl
no_template Instance n h = absurd (h refl)

pub one_folder : OneFolder
one_folder n s d =
    let a : folders_of n ≡ n ∷ [] =
    ap (λ t. n ∷ listed t ++ flat_map (λ p. with_template (with_prefix n p)) (cuts (prefix n))) (no_template (shape n) n s) ∙ ap (λ ps. n ∷ flat_map (λ p. with_template (with_prefix n p)) ps) (no_prefixes (length (prefix n) - 1) (prefix n) d) in
    ap (λ xs. fold with_name [] (xs ++ [])) a

-- ---- names

template_is_name : (n : Name) → IsName n → All IsName (with_template n)
template_is_name n h = All-cons IsName n (listed (template_of n)) h (by (template_of n) refl)
  where
    by : (o : Option Name) → template_of n ≡ o → All IsName (listed o)
    by None e = All-nil IsName
    by (Some t) e = All-cons IsName t [] (templates_keep_parts n t h e).2.name (All-nil IsName)

pub ends_somewhere : (start : List ℕ) (b : ℕ) → is_empty (start ++ b ∷ []) ≡ false
ends_somewhere [] b = refl
ends_somewhere (x ∷ start) b = refl

-- A name with a cut prefix is a name.
cut_is_name : (n : Name) (c : List ℕ) → IsName n → IsDashedPrefix (prefix n) c → IsName (with_prefix n c)
cut_is_name n c h f = (prefixes_may_be_cut n c (f.next ∷ f.rest) h f.proper (ap is_empty f.ends_in_dash ∙ ends_somewhere f.start 45)).2.name

cuts_are_names : (n : Name) → IsName n → (cs : List (List ℕ))
    → ((c : List ℕ) → Contains cs c → IsDashedPrefix (prefix n) c)
    → All IsName (flat_map (λ p. with_template (with_prefix n p)) cs)
cuts_are_names n h [] each = All-nil IsName
cuts_are_names n h (c ∷ cs) each =
    All-append IsName (with_template (with_prefix n c)) (flat_map (λ p. with_template (with_prefix n p)) cs)
    (template_is_name (with_prefix n c) (cut_is_name n c h (each c (first_there c cs)))) (cuts_are_names n h cs (λ d k. each d (later_there c d cs k)))

own_are_names : (n : Name) → IsName n → All IsName (folders_of n)
own_are_names n h =
    All-append IsName (with_template n) (flat_map (λ p. with_template (with_prefix n p)) (cuts (prefix n)))
    (template_is_name n h) (cuts_are_names n h (cuts (prefix n)) (λ c k. (cuts_are_dashed_prefixes (prefix n) c).0 k))

all_are_names : (ns : List Name) → All IsName ns → All IsName (flat_map folders_of ns)
all_are_names [] a = All-nil IsName
all_are_names (n ∷ ns) a = All-append IsName (folders_of n) (flat_map folders_of ns) (own_are_names n (All-head IsName n ns a)) (all_are_names ns (All-tail IsName n ns a))

put_is_name : (b : Bool) (ns : List Name) (x : Name) → All IsName ns → IsName x → All IsName (cond b ns (ns ++ x ∷ []))
put_is_name true ns x a h = a
put_is_name false ns x a h = All-push IsName ns x a h

firsts_are_names : (xs ns : List Name) → All IsName ns → All IsName xs → All IsName (fold with_name ns xs)
firsts_are_names [] ns a b = a
firsts_are_names (x ∷ xs) ns a b = firsts_are_names xs (with_name ns x) (put_is_name (is_among x ns) ns x a (All-head IsName x xs b)) (All-tail IsName x xs b)

pub folders_are_names : FoldersAreNames
folders_are_names ns a = firsts_are_names (flat_map folders_of ns) [] (All-nil IsName) (all_are_names ns a)

-- ---- each once

none_equal : (x : Name) (ns : List Name) → is_among x ns ≡ false → (k : ℕ) (d : Name) → k < length ns → get_or ns k d ≢ x
none_equal x [] h k d l = absurd (omega arith)
none_equal x (n ∷ ns) h zero d l = λ e. true≢false (sym ((bytes_eq-Decides x n).1 (sym e)) ∙ (or_parts (bytes_eq x n) (list_any (bytes_eq x) ns) h).0)
none_equal x (n ∷ ns) h (suc k) d l = none_equal x ns (or_parts (bytes_eq x n) (list_any (bytes_eq x) ns) h).1 k d (omega arith)

put_once : (b : Bool) (ns : List Name) (x : Name) → is_among x ns ≡ b → AllPairs (λ y z. y ≢ z) ns
    → AllPairs (λ y z. y ≢ z) (cond b ns (ns ++ x ∷ []))
put_once true ns x e a = a
put_once false ns x e a = all_pairs_push (λ y z. y ≢ z) ns x a (none_equal x ns e)

firsts_stand_once : (xs ns : List Name) → AllPairs (λ y z. y ≢ z) ns → AllPairs (λ y z. y ≢ z) (fold with_name ns xs)
firsts_stand_once [] ns a = a
firsts_stand_once (x ∷ xs) ns a = firsts_stand_once xs (with_name ns x) (put_once (is_among x ns) ns x refl a)

pub folders_stand_once : FoldersStandOnce
folders_stand_once ns = firsts_stand_once (flat_map folders_of ns) [] (λ i j d l w. absurd (omega arith))
