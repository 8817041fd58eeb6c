-- A type's drop-in folder is only in the footprints of units that have a name of the type.
use Rattle.std.proofs.Common.{◌++◌, ◌∷◌, ◌≡◌, ◌⊎◌}
use Rattle.unit_name.specs.declared.kinds.Kind.TheVariants.{Target}
use Rattle.parallel_load.proofs.Prelude.{[], All, all_among, among_firsts, among_map, ap, append_assoc, append_cancel_right, arith, Automount, codes, Device, dirs_with, ending, EndsWith, folders, folders_are_names, folders_keep_types, footprint, inl, inr, Instance, instance, is_dot, IsAmong, IsAmong-append_cases, IsName, IsOfType, Kind, List, list_any, made_of_name, map, Mount, Name, name_dirs, name_with, names_are_their_parts, or_left, or_right, Path, Plain, prefix, refl, Requires, Scope, Service, Shape, shape, Slice, Socket, Some, subst, suffix, suffix_is_word, Swap, sym, Template, template_at, template_name, template_of, Timer, true, true≢false, type_dirs, types_of, unit_folders, Wants, with_template, word, ℕ, ◌∙◌}
use Rattle.parallel_load.proofs.Begins.{listed_is}

-- ---- last bytes

abbrev last : List ℕ → ℕ
last [] = 0
last (x ∷ []) = x
last (x ∷ y ∷ ys) = last (y ∷ ys)

last_after : (xs : List ℕ) (y : ℕ) (ys : List ℕ) → last (xs ++ y ∷ ys) ≡ last (y ∷ ys)
last_after [] y ys = refl
last_after (x ∷ []) y ys = refl
last_after (x ∷ z ∷ xs) y ys = last_after (z ∷ xs) y ys

ends_so : (start w : List ℕ) (x : ℕ) (xs : List ℕ) → start ++ x ∷ xs ≡ w ++ codes ".d" → last (x ∷ xs) ≡ 100
ends_so start w x xs e = sym (last_after start x xs) ∙ ap last e ∙ last_after w 46 (100 ∷ [])

-- what ends in a type's word isn't a type's folder
no_word_ends_so : (k : Kind) (start w : List ℕ) → start ++ word k ≡ w ++ codes ".d" → ⊥
no_word_ends_so Service start w e = let l : 101 ≡ 100 = ends_so start w 115 (codes "ervice") e in omega (arith, l)
no_word_ends_so Socket start w e = let l : 116 ≡ 100 = ends_so start w 115 (codes "ocket") e in omega (arith, l)
no_word_ends_so Device start w e = let l : 101 ≡ 100 = ends_so start w 100 (codes "evice") e in omega (arith, l)
no_word_ends_so Mount start w e = let l : 116 ≡ 100 = ends_so start w 109 (codes "ount") e in omega (arith, l)
no_word_ends_so Automount start w e = let l : 116 ≡ 100 = ends_so start w 97 (codes "utomount") e in omega (arith, l)
no_word_ends_so Swap start w e = let l : 112 ≡ 100 = ends_so start w 115 (codes "wap") e in omega (arith, l)
no_word_ends_so Target start w e = let l : 116 ≡ 100 = ends_so start w 116 (codes "arget") e in omega (arith, l)
no_word_ends_so Path start w e = let l : 104 ≡ 100 = ends_so start w 112 (codes "ath") e in omega (arith, l)
no_word_ends_so Timer start w e = let l : 114 ≡ 100 = ends_so start w 116 (codes "imer") e in omega (arith, l)
no_word_ends_so Slice start w e = let l : 101 ≡ 100 = ends_so start w 115 (codes "lice") e in omega (arith, l)
no_word_ends_so Scope start w e = let l : 101 ≡ 100 = ends_so start w 115 (codes "cope") e in omega (arith, l)

-- ---- names

-- a name ends in a dot and its type
record EndsInType (n k : List ℕ) : Type 0 where
  start : List ℕ
  is : n ≡ start ++ 46 ∷ k

form_ends : (s : Shape) (p i k : List ℕ) → EndsInType (name_with s p i k) k
form_ends Plain p i k = record { start = p; is = refl }
form_ends Template p i k = record { start = p ++ 64 ∷ []; is = sym (append_assoc p (64 ∷ []) (46 ∷ k)) }
form_ends Instance p i k = record { start = p ++ 64 ∷ i; is = refl }

name_ends : (n : Name) → IsName n → EndsInType n (suffix n)
name_ends n h = let e = form_ends (shape n) (prefix n) (instance n) (suffix n) in record { start = e.start; is = sym (names_are_their_parts n h) ∙ e.is }

has_dot : (start k : List ℕ) → list_any is_dot (start ++ 46 ∷ k) ≡ true
has_dot [] k = or_left (is_dot 46) (list_any is_dot k) refl
has_dot (c ∷ start) k = or_right (is_dot c) (list_any is_dot (start ++ 46 ∷ k)) (has_dot start k)

-- what ends in a name's type isn't a type's folder
no_name_ends_so : (n : Name) → IsName n → (start w : List ℕ) → start ++ 46 ∷ suffix n ≡ w ++ codes ".d" → ⊥
no_name_ends_so n h start w e =
    let m = made_of_name n h in
    no_word_ends_so m.0 (start ++ 46 ∷ []) w (append_assoc start (46 ∷ []) (word m.0) ∙ ap (λ (k : List ℕ). start ++ 46 ∷ k) (sym (suffix_is_word n m.0 m.1)) ∙ e)

-- ---- the footprint

module _ (part w : List ℕ) (is : IsOfType part w) (names : List Name) (well_formed : All IsName names) where
  no_own : (name : Name) → IsName name → IsAmong part (with_template name) → ⊥
  no_own name own (inl e) = let n = name_ends name own in no_name_ends_so name own n.start w (sym n.is ∙ e ∙ is.is)
  no_own name own (inr a) = by (shape name) (listed_is part (template_of name) a)
    where
      by : (s : Shape) → template_at s name ≡ Some part → ⊥
      by Plain t = cc (t)
      by Template t = cc (t)
      by Instance t =
          let g : template_name (prefix name) (suffix name) ≡ part = cc (t) in
          let n = form_ends Template (prefix name) (instance name) (suffix name) in
          no_name_ends_so name own n.start w (sym n.is ∙ g ∙ is.is)

  no_drop_ins : IsAmong part (name_dirs (folders names)) → ⊥
  no_drop_ins a =
      let r = among_map (λ (n : Name). n ++ codes ".d") (folders names) part a in
      let same : r.source ≡ w = append_cancel_right r.source w (codes ".d") (r.makes ∙ is.is) in
      let n = name_ends r.source (all_among IsName (folders names) r.source (folders_are_names names well_formed) r.there) in
      true≢false (sym (has_dot n.start (suffix r.source)) ∙ ap (list_any is_dot) (sym n.is ∙ same) ∙ is.dotless)

  no_links : (x : ℕ) (end : List ℕ) → ¬ (last (x ∷ end) ≡ 100) → IsAmong part (dirs_with (x ∷ end) (folders names)) → ⊥
  no_links x end other a =
      let r = among_map (λ (n : Name). n ++ x ∷ end) (folders names) part a in
      other (sym (last_after r.source x end) ∙ ap last (r.makes ∙ is.is) ∙ last_after w 46 (100 ∷ []))

  of_type : IsAmong part (type_dirs (folders names)) → (m : Name) × (IsAmong m names × (suffix m ≡ w))
  of_type a =
      let r = among_map (λ (n : Name). n ++ codes ".d") (types_of (folders names)) part a in
      let same : r.source ≡ w = append_cancel_right r.source w (codes ".d") (r.makes ∙ is.is) in
      let there = subst (λ (ts : List (List ℕ)). IsAmong r.source ts) (folders_keep_types names well_formed) r.there in
      let q = among_map suffix names r.source (among_firsts r.source (map suffix names) there) in
      (q.source, (q.there, q.makes ∙ same))

  pub names_of_type_by : (name : Name) → IsName name → IsAmong part (footprint name names) → (m : Name) × (IsAmong m names × (suffix m ≡ w))
  names_of_type_by name own a = by (IsAmong-append_cases part (with_template name) (unit_folders names) a)
    where
      last_ones : IsAmong part (dirs_with (ending Wants) (folders names)) ⊎ IsAmong part (dirs_with (ending Requires) (folders names)) → (m : Name) × (IsAmong m names × (suffix m ≡ w))
      last_ones (inl k) = absurd (no_links 46 (codes "wants") (λ e. let l : 115 ≡ 100 = e in omega (arith, l)) k)
      last_ones (inr k) = absurd (no_links 46 (codes "requires") (λ e. let l : 115 ≡ 100 = e in omega (arith, l)) k)

      more : IsAmong part (type_dirs (folders names)) ⊎ IsAmong part (dirs_with (ending Wants) (folders names) ++ dirs_with (ending Requires) (folders names))
          → (m : Name) × (IsAmong m names × (suffix m ≡ w))
      more (inl k) = of_type k
      more (inr k) = last_ones (IsAmong-append_cases part (dirs_with (ending Wants) (folders names)) (dirs_with (ending Requires) (folders names)) k)

      folder : IsAmong part (name_dirs (folders names))
          ⊎ IsAmong part (type_dirs (folders names) ++ (dirs_with (ending Wants) (folders names) ++ dirs_with (ending Requires) (folders names))) → (m : Name) × (IsAmong m names × (suffix m ≡ w))
      folder (inl k) = absurd (no_drop_ins k)
      folder (inr k) = more (IsAmong-append_cases part (type_dirs (folders names)) (dirs_with (ending Wants) (folders names) ++ dirs_with (ending Requires) (folders names)) k)

      by : IsAmong part (with_template name) ⊎ IsAmong part (unit_folders names) → (m : Name) × (IsAmong m names × (suffix m ≡ w))
      by (inl k) = absurd (no_own name own k)
      by (inr k) = folder (IsAmong-append_cases part (name_dirs (folders names)) _ k)

-- so one of the unit's names ends in the type's word
pub names_of_type : (part w : List ℕ) (name : Name) (names : List Name) → IsOfType part w → IsName name → All IsName names → IsAmong part (footprint name names)
    → (m : Name) × (IsAmong m names × EndsWith w m)
names_of_type part w name names is own well_formed a =
    let m = names_of_type_by part w is names well_formed name own a in
    let n = name_ends m.0 (all_among IsName names m.0 well_formed m.1.0) in
    (m.0, (m.1.0, record { start = n.start ++ 46 ∷ []; is = n.is ∙ ap (λ (k : List ℕ). n.start ++ 46 ∷ k) m.1.1 ∙ sym (append_assoc n.start (46 ∷ []) w) }))
