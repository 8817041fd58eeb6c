-- Laws of types: a unit's names and folders have the same types, and no folder of a name is named like that of a type.
use Rattle.std.proofs.Common.{◌++◌, ◌||◌, ◌∷◌, ◌≡◌, ◌⊎◌}
use Rattle.unit_name.specs.Names.{name_of}
use Rattle.dropins.specs.Prelude.{[], All, All-append, All-cons, All-contains, All-head, All-nil, All-tail, among_from_contains, ap, append_cancel_right, Automount, Bool, bytes_eq, bytes_eq-Decides, codes, cond, Contains, contains_from_among, Device, false, first_there, flat_map, fold, fold-append, inl, inr, is_empty, IsAmong, IsName, Kind, kind, later_there, List, made_of_name, map, map-append, Mount, Name, None, Option, or_right, Path, prefix, prefixes_may_be_cut, refl, Scope, Service, Slice, Socket, Some, subst, suffix, suffix_is_word, Swap, sym, Target, template_of, templates_keep_parts, Timer, true, word, ℕ, ◌∙◌}
use Rattle.dropins.specs.{CutLaws.{cuts_are_dashed_prefixes, IsDashedPrefix}, FolderJoinLaws.{among_all, among_firsts}, FolderLaws.{ends_somewhere, folders_are_names}, FolderLists.{cuts, firsts, folders, folders_of, is_among, listed, types_of, with_name, with_prefix, with_template}, Taken.{name_dirs}}

-- The types of names are words of kinds.
abbrev pub TypesAreKinds : Type 0
TypesAreKinds = (ns : List Name) (t : List ℕ) → All IsName ns → Contains (types_of ns) t → (k : Kind) × (t ≡ word k)

-- Names of one kind have the word of this kind as their only type.
abbrev pub OneType : Type 0
OneType = (n : Name) (ns : List Name) (k : Kind) → All (λ m. kind m ≡ Some k) (n ∷ ns) → types_of (n ∷ ns) ≡ word k ∷ []

-- The folders of names have the types of the names, in the same order.
abbrev pub FoldersKeepTypes : Type 0
FoldersKeepTypes = (ns : List Name) → All IsName ns → types_of (folders ns) ≡ types_of ns

-- The word of a kind is no name, so no folder of a name is named like that of a type.
abbrev pub WordsAreNoNames : Type 0
WordsAreNoNames = (k : Kind) → IsName (word k) → ⊥

abbrev pub NoNameHasATypesFolder : Type 0
NoNameHasATypesFolder = (ns : List Name) (k : Kind) → All IsName ns → Contains (name_dirs (folders ns)) (word k ++ codes ".d") → ⊥

-- ---- what holds of each item holds of its image

made_among : (g : Name → List ℕ) (x : Name) (ns : List Name) → IsAmong x ns → IsAmong (g x) (map g ns)
made_among g x [] h = absurd h
made_among g x (n ∷ ns) (inl e) = inl (ap g e)
made_among g x (n ∷ ns) (inr h) = inr (made_among g x ns h)

pub among_made : (g : Name → List ℕ) (y : List ℕ) (ns : List Name) → IsAmong y (map g ns) → (n : Name) × (IsAmong n ns × (g n ≡ y))
among_made g y [] h = absurd h
among_made g y (n ∷ ns) (inl e) = (n, (inl refl, e))
among_made g y (n ∷ ns) (inr h) = let m = among_made g y ns h in (m.0, (inr m.1.0, m.1.1))

is_named : (ns : List Name) (n : Name) → All IsName ns → IsAmong n ns → IsName n
is_named ns n a h = All-contains IsName ns n a (contains_from_among n ns h)

-- ---- the test and the relation

tested_among : (x : Name) (ns : List Name) → is_among x ns ≡ true → IsAmong x ns
tested_among x [] h = cc (h)
tested_among x (n ∷ ns) h = by (bytes_eq x n) refl h (tested_among x ns)
  where
    by : (b : Bool) → bytes_eq x n ≡ b → (b || is_among x ns) ≡ true → (is_among x ns ≡ true → IsAmong x ns) → (n ≡ x) ⊎ IsAmong x ns
    by true e k more = inl (sym ((bytes_eq-Decides x n).0 e))
    by false e k more = inr (more k)

among_tested : (x : Name) (ns : List Name) → IsAmong x ns → is_among x ns ≡ true
among_tested x [] h = absurd h
among_tested x (n ∷ ns) (inl e) = ap (λ b. b || is_among x ns) ((bytes_eq-Decides x n).1 (sym e))
among_tested x (n ∷ ns) (inr h) = or_right (bytes_eq x n) (is_among x ns) (among_tested x ns h)

with_known : (x : Name) (ns : List Name) → IsAmong x ns → with_name ns x ≡ ns
with_known x ns h = ap (λ b. cond b ns (ns ++ x ∷ [])) (among_tested x ns h)

-- ---- types of kinds

word_there : (ns : List Name) (t : List ℕ) → All IsName ns → IsAmong t (map suffix ns) → (k : Kind) × (t ≡ word k)
word_there ns t a h =
    let n = among_made suffix t ns h in
    let m = made_of_name n.0 (is_named ns n.0 a n.1.0) in
    (m.0, sym n.1.1 ∙ suffix_is_word n.0 m.0 m.1)

pub types_are_kinds : TypesAreKinds
types_are_kinds ns t a c = word_there ns t a (among_firsts t (map suffix ns) (among_from_contains t (types_of ns) c))

-- A name with a suffix that is listed adds nothing.
nothing_added : (t : List ℕ) (ms ts : List Name) → IsAmong t ts → All (λ m. suffix m ≡ t) ms → fold with_name ts (map suffix ms) ≡ ts
nothing_added t [] ts h a = refl
nothing_added t (m ∷ ms) ts h a =
    ap (λ x. fold with_name (with_name ts x) (map suffix ms)) (All-head (λ n. suffix n ≡ t) m ms a)
    ∙ ap (λ l. fold with_name l (map suffix ms)) (with_known t ts h)
    ∙ nothing_added t ms ts h (All-tail (λ n. suffix n ≡ t) m ms a)

suffixes : (ns : List Name) (k : Kind) → All (λ m. kind m ≡ Some k) ns → All (λ m. suffix m ≡ word k) ns
suffixes [] k a = All-nil (λ m. suffix m ≡ word k)
suffixes (n ∷ ns) k a = All-cons (λ m. suffix m ≡ word k) n ns (suffix_is_word n k (All-head (λ m. kind m ≡ Some k) n ns a)) (suffixes ns k (All-tail (λ m. kind m ≡ Some k) n ns a))

pub one_type : OneType
one_type n ns k a =
    let first = All-head (λ m. kind m ≡ Some k) n ns a in
    ap (λ t. fold with_name (t ∷ []) (map suffix ns)) (suffix_is_word n k first)
    ∙ nothing_added (word k) ns (word k ∷ []) (inl refl) (suffixes ns k (All-tail (λ m. kind m ≡ Some k) n ns a))

-- ---- folders keep types

module _ (n : Name) (h : IsName n) where
  template_keeps : All (λ m. suffix m ≡ suffix n) (listed (template_of n))
  template_keeps = by (template_of n) refl
    where
      by : (o : Option Name) → template_of n ≡ o → All (λ m. suffix m ≡ suffix n) (listed o)
      by None e = All-nil (λ m. suffix m ≡ suffix n)
      by (Some t) e =
          let k = templates_keep_parts n t h e in
          All-cons (λ m. suffix m ≡ suffix n) t [] (k.2.suffix_is ∙ sym (suffix_is_word n k.0 k.1)) (All-nil (λ m. suffix m ≡ suffix n))

  with_template_keeps : All (λ m. suffix m ≡ suffix n) (with_template n)
  with_template_keeps = All-cons (λ m. suffix m ≡ suffix n) n (listed (template_of n)) refl template_keeps

module _ (n : Name) (h : IsName n) where
  cut_keeps : (c : List ℕ) → IsDashedPrefix (prefix n) c → All (λ m. suffix m ≡ suffix n) (with_template (with_prefix n c))
  cut_keeps c f =
      let k = prefixes_may_be_cut n c (f.next ∷ f.rest) h f.proper (ap is_empty f.ends_in_dash ∙ ends_somewhere f.start 45) in
      let same : suffix (with_prefix n c) ≡ suffix n = k.2.suffix_is ∙ sym (suffix_is_word n k.0 k.1) in
      moved (with_template (with_prefix n c)) same (with_template_keeps (with_prefix n c) k.2.name)
    where
      moved : {t u : List ℕ} (ms : List Name) → t ≡ u → All (λ m. suffix m ≡ t) ms → All (λ m. suffix m ≡ u) ms
      moved {t = t} {u = u} [] e a = All-nil (λ m. suffix m ≡ u)
      moved {t = t} {u = u} (m ∷ ms) e a = All-cons (λ x. suffix x ≡ u) m ms (All-head (λ x. suffix x ≡ t) m ms a ∙ e) (moved ms e (All-tail (λ x. suffix x ≡ t) m ms a))

  cuts_keep : (cs : List (List ℕ)) → ((c : List ℕ) → Contains cs c → IsDashedPrefix (prefix n) c)
      → All (λ m. suffix m ≡ suffix n) (flat_map (λ p. with_template (with_prefix n p)) cs)
  cuts_keep [] each = All-nil (λ m. suffix m ≡ suffix n)
  cuts_keep (c ∷ cs) each =
      All-append (λ m. suffix m ≡ suffix n) (with_template (with_prefix n c)) (flat_map (λ p. with_template (with_prefix n p)) cs)
      (cut_keeps c (each c (first_there c cs))) (cuts_keep cs (λ d k. each d (later_there c d cs k)))

  own_keep : All (λ m. suffix m ≡ suffix n) (listed (template_of n) ++ flat_map (λ p. with_template (with_prefix n p)) (cuts (prefix n)))
  own_keep =
      All-append (λ m. suffix m ≡ suffix n) (listed (template_of n)) (flat_map (λ p. with_template (with_prefix n p)) (cuts (prefix n)))
      (template_keeps n h) (cuts_keep (cuts (prefix n)) (λ c k. (cuts_are_dashed_prefixes (prefix n) c).0 k))

-- The name is listed after the others.
now_there : (ts : List Name) (t : Name) → IsAmong t (with_name ts t)
now_there ts t = by (is_among t ts) refl
  where
    last : (us : List Name) → IsAmong t (us ++ t ∷ [])
    last [] = inl refl
    last (u ∷ us) = inr (last us)

    by : (b : Bool) → is_among t ts ≡ b → IsAmong t (cond b ts (ts ++ t ∷ []))
    by true e = tested_among t ts e
    by false e = last ts

-- The folders of a name add only its suffix.
own_add : (n : Name) → IsName n → (ts : List Name) → fold with_name ts (map suffix (folders_of n)) ≡ with_name ts (suffix n)
own_add n h ts =
    nothing_added (suffix n) (listed (template_of n) ++ flat_map (λ p. with_template (with_prefix n p)) (cuts (prefix n))) (with_name ts (suffix n)) (now_there ts (suffix n)) (own_keep n h)

all_add : (ns ts : List Name) → All IsName ns → fold with_name ts (map suffix (flat_map folders_of ns)) ≡ fold with_name ts (map suffix ns)
all_add [] ts a = refl
all_add (n ∷ ns) ts a =
    ap (fold with_name ts) (map-append suffix (folders_of n) (flat_map folders_of ns))
    ∙ fold-append with_name ts (map suffix (folders_of n)) (map suffix (flat_map folders_of ns))
    ∙ ap (λ us. fold with_name us (map suffix (flat_map folders_of ns))) (own_add n (All-head IsName n ns a) ts)
    ∙ all_add ns (with_name ts (suffix n)) (All-tail IsName n ns a)

-- A list without repetitions has the types of the whole list.
module _ (ns : List Name) (x : Name) where
  one_more : (b : Bool) → is_among x ns ≡ b → types_of (cond b ns (ns ++ x ∷ [])) ≡ with_name (types_of ns) (suffix x)
  one_more true e = sym (with_known (suffix x) (types_of ns) (among_all (suffix x) (map suffix ns) (made_among suffix x ns (tested_among x ns e))))
  one_more false e = ap firsts (map-append suffix ns (x ∷ [])) ∙ fold-append with_name [] (map suffix ns) (suffix x ∷ [])

firsts_keep : (xs ns : List Name) → types_of (fold with_name ns xs) ≡ fold with_name (types_of ns) (map suffix xs)
firsts_keep [] ns = refl
firsts_keep (x ∷ xs) ns = firsts_keep xs (with_name ns x) ∙ ap (λ ts. fold with_name ts (map suffix xs)) (one_more ns x (is_among x ns) refl)

pub folders_keep_types : FoldersKeepTypes
folders_keep_types ns a = firsts_keep (flat_map folders_of ns) [] ∙ all_add ns [] a

-- ---- no name is a type's word

pub words_are_no_names : WordsAreNoNames
unfolding name_of
words_are_no_names Service h = cc (h)
words_are_no_names Socket h = cc (h)
words_are_no_names Device h = cc (h)
words_are_no_names Mount h = cc (h)
words_are_no_names Automount h = cc (h)
words_are_no_names Swap h = cc (h)
words_are_no_names Target h = cc (h)
words_are_no_names Path h = cc (h)
words_are_no_names Timer h = cc (h)
words_are_no_names Slice h = cc (h)
words_are_no_names Scope h = cc (h)

pub no_name_has_a_types_folder : NoNameHasATypesFolder
no_name_has_a_types_folder ns k a c =
    let n = among_made (λ m. m ++ codes ".d") (word k ++ codes ".d") (folders ns) (among_from_contains (word k ++ codes ".d") (name_dirs (folders ns)) c) in
    let same : n.0 ≡ word k = append_cancel_right n.0 (word k) (codes ".d") n.1.1 in
    words_are_no_names k (is_name_moved n.0 (word k) same (is_named (folders ns) n.0 (folders_are_names ns a) n.1.0))
  where
    is_name_moved : (m w : Name) → m ≡ w → IsName m → IsName w
    is_name_moved m w e h = subst IsName e h
