-- Laws of the order of one name's folders: a name comes before its template, and both before those of each cut of the prefix.
use Rattle.std.proofs.Common.{◌++◌, ◌-◌, ◌<◌, ◌∷◌, ◌≡◌, ◌≢◌, ◌≤◌}
use Rattle.dropins.specs.Prelude.{[], All, All-append, All-cons, All-nil, All-weaker, ap, append-nil, append_assoc, arith, Bool, bytes_eq, bytes_eq-Decides, cases_Bool, cond, Contains, false, first_there, flat_map, flat_map_single, fold, fold-append, get_or, Instance, instance, is_empty, IsName, later_there, length, length-take-le, List, list_any_none, map, Name, name_with, None, Option, parts_of_names_fit, Plain, prefix, prefixes_may_be_cut, refl, same_Some, Shape, shape, Some, subst, suc, suffix, sym, take, Template, template_at, template_name, template_of, templates_keep_parts, true, word, zero, ℕ, ⊎_elim, ◌∙◌}
use Rattle.dropins.specs.{CutLaws.{cuts_are_dashed_prefixes, dashed_prefix_at, IsDashedPrefix}, FolderLaws.{ends_somewhere}, FolderLists.{cuts, folders, folders_of, is_among, is_dash, listed, prefixes, with_name, with_prefix, with_template}}

-- an instance's folders: its own, then its template's; then, for each cut of its prefix in turn, the same two with that prefix
abbrev pub FoldersOfInstances : Type 0
FoldersOfInstances = (n t : Name) → IsName n → template_of n ≡ Some t
    → folders (n ∷ []) ≡ n ∷ t ∷ flat_map (λ c. with_prefix n c ∷ with_prefix t c ∷ []) (cuts (prefix n))

-- a name that is no instance has its own, then for each cut of its prefix in turn that with this prefix
abbrev pub FoldersOfOtherNames : Type 0
FoldersOfOtherNames = (n : Name) → IsName n → template_of n ≡ None → folders (n ∷ []) ≡ n ∷ map (with_prefix n) (cuts (prefix n))

-- ---- names of one list differ

put_new : (ns : List Name) (x : Name) → is_among x ns ≡ false → with_name ns x ≡ ns ++ x ∷ []
put_new ns x new = ap (λ b. cond b ns (ns ++ x ∷ [])) new

not_there : (x : Name) (ns : List Name) → All (λ y. x ≢ y) ns → is_among x ns ≡ false
not_there x ns apart = list_any_none (bytes_eq x) ns (All-weaker (λ y. x ≢ y) (λ y. bytes_eq x y ≡ false) unlike ns apart)
  where
    unlike : (y : Name) → x ≢ y → bytes_eq x y ≡ false
    unlike y other = ⊎_elim (λ same. absurd (other ((bytes_eq-Decides x y).0 same))) (λ not. not) (cases_Bool (bytes_eq x y))

-- these names have longer prefixes than so many bytes
abbrev AreLonger : ℕ → List Name → Type 0
AreLonger k ns = All (λ y. k < length (prefix y)) ns

-- a name with a prefix that isn't so long isn't among them
not_longer : (x : Name) (k : ℕ) (ns : List Name) → length (prefix x) ≤ k → AreLonger k ns → is_among x ns ≡ false
not_longer x k ns short longer =
    not_there x ns (All-weaker (λ y. k < length (prefix y)) (λ y. x ≢ y) (λ y l same. let e = ap (λ z. length (prefix z)) same in omega (arith, e, l, short)) ns longer)

-- only instances have templates
is_instance : (s : Shape) (n t : Name) → template_at s n ≡ Some t → s ≡ Instance
is_instance Plain n t e = cc (e)
is_instance Template n t e = cc (e)
is_instance Instance n t e = refl

-- a template has the prefix of the name, and isn't the name
template_parts : (n t : Name) → IsName n → template_of n ≡ Some t → (prefix t ≡ prefix n) × (t ≢ n)
template_parts n t h e =
    let parts = (templates_keep_parts n t h e).2 in
    let own : shape n ≡ Instance = is_instance (shape n) n t e in
    (parts.prefix_is, λ same. let wrong : Template ≡ Instance = sym parts.shape_is ∙ ap shape same ∙ own in cc (wrong))

-- a name and its template have the name's prefix
both_longer : (n : Name) (k : ℕ) → IsName n → k < length (prefix n) → AreLonger k (with_template n)
both_longer n k h l = All-cons (λ y. k < length (prefix y)) n (listed (template_of n)) l (by (template_of n) refl)
  where
    by : (o : Option Name) → template_of n ≡ o → AreLonger k (listed o)
    by None e = All-nil (λ y. k < length (prefix y))
    by (Some t) e =
        let same = ap length (template_parts n t h e).0 in
        All-cons (λ y. k < length (prefix y)) t [] (omega (arith, same, l)) (All-nil (λ y. k < length (prefix y)))

-- behind names with longer prefixes both are new
both_new : (ns : List Name) (n : Name) → IsName n → AreLonger (length (prefix n)) ns
    → fold with_name ns (with_template n) ≡ ns ++ with_template n
both_new ns n h longer = by (template_of n) refl
  where
    first : with_name ns n ≡ ns ++ n ∷ []
    first = put_new ns n (not_longer n (length (prefix n)) ns (omega arith) longer)

    by : (o : Option Name) → template_of n ≡ o → fold with_name ns (n ∷ listed o) ≡ ns ++ n ∷ listed o
    by None e = first
    by (Some t) e =
        let parts = template_parts n t h e in
        let short : length (prefix t) ≤ length (prefix n) = let same = ap length parts.0 in omega (arith, same) in
        let apart : is_among t (ns ++ n ∷ []) ≡ false = not_there t (ns ++ n ∷ []) (All-append (λ y. t ≢ y) ns (n ∷ [])
        (All-weaker (λ y. length (prefix n) < length (prefix y)) (λ y. t ≢ y) (λ y l same. let eq = ap (λ z. length (prefix z)) same in omega (arith, eq, l, short)) ns longer)
        (All-cons (λ y. t ≢ y) n [] parts.1 (All-nil (λ y. t ≢ y)))) in
        ap (λ xs. with_name xs t) first ∙ put_new (ns ++ n ∷ []) t apart ∙ append_assoc ns (n ∷ []) (t ∷ [])

-- ---- one name's folders stand as they are listed

module _ (n : Name) (h : IsName n) where
  abbrev pair : List ℕ → List Name
  pair c = with_template (with_prefix n c)

  cut_parts : (c : List ℕ) → IsDashedPrefix (prefix n) c → IsName (with_prefix n c) × (prefix (with_prefix n c) ≡ c)
  cut_parts c f =
      let parts = (prefixes_may_be_cut n c (f.next ∷ f.rest) h f.proper (ap is_empty f.ends_in_dash ∙ ends_somewhere f.start 45)).2 in
      (parts.name, parts.prefix_is)

  all_new : (k : ℕ) (ns : List Name) → k < length (prefix n) → AreLonger k ns
      → fold with_name ns (flat_map pair (prefixes k (prefix n))) ≡ ns ++ flat_map pair (prefixes k (prefix n))
  all_new zero ns l longer = sym (append-nil ns)
  all_new (suc k) ns l longer = by (is_dash (get_or (prefix n) k 0)) refl (λ ms. all_new k ms (omega (arith, l)))
    where
      rest : List Name
      rest = flat_map pair (prefixes k (prefix n))

      less : AreLonger k ns
      less = All-weaker (λ y. suc k < length (prefix y)) (λ y. k < length (prefix y)) (λ y m. omega (arith, m)) ns longer

      by : (b : Bool) → is_dash (get_or (prefix n) k 0) ≡ b
          → ((ms : List Name) → AreLonger k ms → fold with_name ms rest ≡ ms ++ rest)
          → fold with_name ns (flat_map pair (cond b (take (suc k) (prefix n) ∷ prefixes k (prefix n)) (prefixes k (prefix n))))
          ≡ ns ++ flat_map pair (cond b (take (suc k) (prefix n) ∷ prefixes k (prefix n)) (prefixes k (prefix n)))
      by true dash more_new =
          let c = take (suc k) (prefix n) in
          let parts = cut_parts c (dashed_prefix_at (prefix n) k l dash) in
          let size : length (prefix (with_prefix n c)) ≡ suc k = ap length parts.1 ∙ length-take-le (suc k) (prefix n) (omega (arith, l)) in
          let here = both_new ns (with_prefix n c) parts.0 (subst (λ j. AreLonger j ns) (sym size) longer) in
          let more = All-append (λ y. k < length (prefix y)) ns (pair c) less (both_longer (with_prefix n c) k parts.0 (omega (arith, size))) in
          fold-append with_name ns (pair c) rest
          ∙ ap (λ (xs : List Name). fold with_name xs rest) here
          ∙ more_new (ns ++ pair c) more
          ∙ append_assoc ns (pair c) rest
      by false dash more_new = more_new ns less

  -- the prefix of a name isn't empty
  some_bytes : (p : List ℕ) → is_empty p ≡ false → length p - 1 < length p
  some_bytes [] e = cc (e)
  some_bytes (b ∷ bs) e = omega arith

  as_listed : folders (n ∷ []) ≡ folders_of n
  as_listed =
      let last = some_bytes (prefix n) (parts_of_names_fit n h).prefix_there in
      ap (λ (xs : List Name). fold with_name [] xs) (append-nil (folders_of n))
      ∙ fold-append with_name [] (with_template n) (flat_map pair (cuts (prefix n)))
      ∙ ap (λ (xs : List Name). fold with_name xs (flat_map pair (cuts (prefix n)))) (both_new [] n h (All-nil (λ y. length (prefix n) < length (prefix y))))
      ∙ all_new (length (prefix n) - 1) (with_template n) last (both_longer n (length (prefix n) - 1) h last)

  -- ---- what stands for a cut

  each_pair : (f : List ℕ → List Name) → ((c : List ℕ) → IsDashedPrefix (prefix n) c → pair c ≡ f c)
      → flat_map pair (cuts (prefix n)) ≡ flat_map f (cuts (prefix n))
  each_pair f same = by (cuts (prefix n)) (λ c there. (cuts_are_dashed_prefixes (prefix n) c).0 there)
    where
      by : (cs : List (List ℕ)) → ((c : List ℕ) → Contains cs c → IsDashedPrefix (prefix n) c) → flat_map pair cs ≡ flat_map f cs
      by [] each = refl
      by (c ∷ cs) each = (λ i. same c (each c (first_there c cs)) i ++ by cs (λ d k. each d (later_there c d cs k)) i)

  -- an instance's cut has the template's cut as its template
  pair_of_instance : (t : Name) → template_of n ≡ Some t → (c : List ℕ) → IsDashedPrefix (prefix n) c
      → pair c ≡ with_prefix n c ∷ with_prefix t c ∷ []
  pair_of_instance t e c f =
      let cut = prefixes_may_be_cut n c (f.next ∷ f.rest) h f.proper (ap is_empty f.ends_in_dash ∙ ends_somewhere f.start 45) in
      let own = templates_keep_parts n t h e in
      let m = with_prefix n c in
      let shaped : shape m ≡ Instance = cut.2.shape_is ∙ is_instance (shape n) n t e in
      let one_kind : cut.0 ≡ own.0 = same_Some _ _ (sym cut.1 ∙ own.1) in
      let ends : suffix m ≡ suffix t = cut.2.suffix_is ∙ ap word one_kind ∙ sym own.2.suffix_is in
      let template : template_of m ≡ Some (with_prefix t c) =
      ap (λ s. template_at s m) shaped ∙ (λ i. Some (template_name (cut.2.prefix_is i) (ends i)))
      ∙ ap (λ s. Some (name_with s c (instance t) (suffix t))) (sym own.2.shape_is) in
      ap (λ o. m ∷ listed o) template

  -- a cut of another name has no template
  pair_of_other : template_of n ≡ None → (c : List ℕ) → IsDashedPrefix (prefix n) c → pair c ≡ with_prefix n c ∷ []
  pair_of_other e c f =
      let cut = prefixes_may_be_cut n c (f.next ∷ f.rest) h f.proper (ap is_empty f.ends_in_dash ∙ ends_somewhere f.start 45) in
      let m = with_prefix n c in
      ap (λ o. m ∷ listed o) (ap (λ s. template_at s m) cut.2.shape_is ∙ again (shape n) e)
    where
      again : (s : Shape) → template_at s n ≡ None → template_at s (with_prefix n c) ≡ None
      again Plain none = refl
      again Template none = refl
      again Instance none = cc (none)

pub folders_of_instances : FoldersOfInstances
folders_of_instances n t h e =
    as_listed n h
    ∙ ap (λ o. (n ∷ listed o) ++ flat_map (λ c. with_template (with_prefix n c)) (cuts (prefix n))) e
    ∙ ap (λ (xs : List Name). n ∷ t ∷ xs) (each_pair n h (λ c. with_prefix n c ∷ with_prefix t c ∷ []) (pair_of_instance n h t e))

pub folders_of_other_names : FoldersOfOtherNames
folders_of_other_names n h e =
    as_listed n h
    ∙ ap (λ o. (n ∷ listed o) ++ flat_map (λ c. with_template (with_prefix n c)) (cuts (prefix n))) e
    ∙ ap (λ (xs : List Name). n ∷ xs) (each_pair n h (λ c. with_prefix n c ∷ []) (pair_of_other n h e) ∙ flat_map_single (with_prefix n) (cuts (prefix n)))
