-- The names of a unit, level by level: level `d` has the names from which `d` aliases lead to the unit.
use Rattle.std.proofs.Common.{◌++◌, ◌<◌, ◌↔◌, ◌∷◌, ◌≡◌, ◌≢◌, ◌≤◌, ◌⊎◌}
use Rattle.fragment_choice.proofs.Prelude.{[], Adds, Alias, alias_same, aliases_are_alike, ap, AreAliasesWithin, AreNames, AreOwners, arith, Bad, Bool, Chain, Choice, choice, ends_at, false, following_finds_the_end, Fragment, Gathers, get_or, goes_on, here, HostViewMap, inl, inr, insert_key, instance, instances_have_the_template, is_alias, is_same, IsAmong, IsAmong-append_cases, IsAmong-append_left, IsAmong-append_right, IsAny, IsEnd, IsLeadingInstance, IsLeadingInstanceOfAny, IsName, IsOtherName, IsStrictlySortedBy, IsTrue, Leads, LeadsToAny, length, List, Masked, Name, name_cmp, name_cmp-IsAntisymmetric, name_eq-Decides, None, none-some, NotFound, own_choice, put_kept, put_sound, put_there, refl, Resolution, resolution, resolution_resolves, Resolves, same_Some, Some, step, subst, suc, sym, take, take_all, template_of, templates_keep_parts, true, with_instance, zero, ℕ, ◌∙◌}
use Rattle.fragment_choice.proofs.{Gathering.{gathers_all, gathers_none, gathers_of, gathers_put, gathers_then, linked_instance}, Leads.{leads_by, LeadsTemplate, own_leads}}

-- One more item of a list.
pub any_next : {A : Type 0} (R : A → Name → Type 0) (xs : List A) (i : ℕ) (d : A) (n : Name) → i < length xs → IsAny R (take (suc i) xs) n → IsAny R (take i xs) n ⊎ R (get_or xs i d) n
any_next R [] i d n lt h = absurd (omega arith)
any_next R (x ∷ xs) zero d n lt (inl a) = inr a
any_next R (x ∷ xs) zero d n lt (inr a) = absurd a
any_next {A = A} R (x ∷ xs) (suc i) d n lt (inl a) = inl (inl a)
any_next {A = A} R (x ∷ xs) (suc i) d n lt (inr a) = by (any_next R xs i d n (omega arith) a)
  where
    by : IsAny R (take i xs) n ⊎ R (get_or xs i d) n → IsAny R (take (suc i) (x ∷ xs)) n ⊎ R (get_or xs i d) n
    by (inl b) = inl (inr b)
    by (inr b) = inr b

-- An item that is among them.
pub any_there : (R : Name → Name → Type 0) (ms : List Name) (m n : Name) → IsAmong m ms → R m n → IsAny R ms n
any_there R [] m n h r = absurd h
any_there R (x ∷ ms) m n (inl e) r = inl (subst (λ y. R y n) (sym e) r)
any_there R (x ∷ ms) m n (inr h) r = inr (any_there R ms m n h r)

-- An item that relates to the name.
pub any_from : (R : Name → Name → Type 0) (ms : List Name) (n : Name) → IsAny R ms n → (m : Name) × IsAmong m ms × R m n
any_from R [] n h = absurd h
any_from R (x ∷ ms) n (inl r) = (x, inl refl, r)
any_from R (x ∷ ms) n (inr h) = let w = any_from R ms n h in (w.0, inr w.1, w.2)

-- The first `i` items and the next one are the first `i + 1` items.
next_any : {A : Type 0} (R : A → Name → Type 0) (xs : List A) (i : ℕ) (d : A) (n : Name) → i < length xs → IsAny R (take i xs) n ⊎ R (get_or xs i d) n → IsAny R (take (suc i) xs) n
next_any R [] i d n lt h = absurd (omega arith)
next_any R (x ∷ xs) zero d n lt (inl a) = absurd a
next_any R (x ∷ xs) zero d n lt (inr a) = inl a
next_any {A = A} R (x ∷ xs) (suc i) d n lt (inl (inl a)) = inl a
next_any {A = A} R (x ∷ xs) (suc i) d n lt (inl (inr a)) = inr (next_any R xs i d n (omega arith) (inl a))
next_any {A = A} R (x ∷ xs) (suc i) d n lt (inr a) = inr (next_any R xs i d n (omega arith) (inr a))

-- A loop over names: one more was visited, and all were visited.
pub gathers_more : (R : Name → Name → Type 0) (ms : List Name) (i next : ℕ) (d x : Name) (old mid new : List Name) → i < length ms → next ≡ suc i → x ≡ get_or ms i d
    → Gathers (IsAny R (take i ms)) old mid → Gathers (R x) mid new → Gathers (IsAny R (take next ms)) old new
gathers_more R ms i next d x old mid new lt e f g h =
    gathers_then (IsAny R (take i ms)) (R x) (IsAny R (take next ms)) old mid new g h (λ n _ l. there n (any_next R ms i d n lt (subst (λ y. IsAny R (take y ms) n) e l)))
    (λ n _ l. subst (λ y. IsAny R (take y ms) n) (sym e) (next_any R ms i d n lt (back n l)))
  where
    there : (n : Name) → IsAny R (take i ms) n ⊎ R (get_or ms i d) n → IsAny R (take i ms) n ⊎ R x n
    there n (inl a) = inl a
    there n (inr a) = inr (subst (λ y. R y n) (sym f) a)

    back : (n : Name) → IsAny R (take i ms) n ⊎ R x n → IsAny R (take i ms) n ⊎ R (get_or ms i d) n
    back n (inl a) = inl a
    back n (inr a) = inr (subst (λ y. R y n) f a)

pub gathers_each : (R : Name → Name → Type 0) (ms : List Name) (i : ℕ) (old new : List Name) → length ms ≤ i → Gathers (IsAny R (take i ms)) old new → Gathers (IsAny R ms) old new
gathers_each R ms i old new le g = subst (λ (xs : List Name). Gathers (IsAny R xs) old new) (take_all i ms le) g

module _ (s : HostViewMap) (m : Name) where
  -- The aliases of a name without a template are the names whose own links point to it.
  pub after_name : (owners old new : List Name) → AreOwners s m owners → template_of m ≡ None → Adds owners old new → Gathers (λ n. Leads s n m) old new
  after_name owners old new own e g =
      gathers_of (λ n. IsAmong n owners) (λ n. Leads s n m) old new (gathers_all owners old new own.well_formed g) (λ n well_formed l. by n well_formed (leads_by s n m well_formed l)) (λ n _ a. own_leads s n m (own.sound n a))
    where
      by : (n : Name) → IsName n → (own_choice s n n ≡ Some (Alias m)) ⊎ ((o : Name) × (template_of n ≡ Some o) × LeadsTemplate s o m) → IsAmong n owners
      by n well_formed (inl said) = own.there n well_formed said
      by n well_formed (inr (o, of, l)) = absurd (none-some _ (sym e ∙ l.template))

  -- An alias of an instance is one of these names, or an instance of a template whose own links point to the instance's
  -- template.
  pub after_instance : (o : Name) (owners templates old mid new : List Name) → AreOwners s m owners → AreOwners s o templates → template_of m ≡ Some o
      → Adds owners old mid → Gathers (IsLeadingInstanceOfAny s m templates) mid new → Gathers (λ n. Leads s n m) old new
  after_instance o owners templates old mid new own of_template e g h =
      gathers_then (λ n. IsAmong n owners) (IsLeadingInstanceOfAny s m templates) (λ n. Leads s n m) old mid new (gathers_all owners old mid own.well_formed g) h
      (λ n well_formed l. there n well_formed l (leads_by s n m well_formed l)) (λ n _ l. back n l)
    where
      there : (n : Name) → IsName n → Leads s n m → (own_choice s n n ≡ Some (Alias m)) ⊎ ((p : Name) × (template_of n ≡ Some p) × LeadsTemplate s p m) → IsAmong n owners ⊎ IsLeadingInstanceOfAny s m templates n
      there n good leads (inl said) = inl (own.there n good said)
      there n good leads (inr (p, of, l)) =
          let well_formed : IsName p = (templates_keep_parts n p good of).2.name in
          let same : l.target ≡ o = same_Some _ _ (sym l.template ∙ e) in
          let among : IsAmong p templates = of_template.there p well_formed (l.own ∙ ap (λ x. Some (Alias x)) same) in
          inr (any_there (IsLeadingInstance s m) templates p n among (record { made = linked_instance s p n m well_formed good of leads; leads = leads }))

      back : (n : Name) → IsAmong n owners ⊎ IsLeadingInstanceOfAny s m templates n → Leads s n m
      back n (inl a) = own_leads s n m (own.sound n a)
      back n (inr a) = let w = any_from (IsLeadingInstance s m) templates n a in w.2.leads

  -- A template with the instance of `m`, if it is an alias of `m`.
  pub gathers_instance : (t k : Name) (old new : List Name) → IsName t → Some k ≡ with_instance t (instance m) → Leads s k m → new ≡ insert_key name_cmp old k → Gathers (IsLeadingInstance s m t) old new
  gathers_instance t k old new well_formed e l put =
      gathers_put (IsLeadingInstance s m t) k old new ((instances_have_the_template t (instance m) k well_formed).0 (sym e)).0 (record { made = sym e; leads = l }) (λ n p. same_Some _ _ (e ∙ p.made)) put

  pub leads_elsewhere : (t k : Name) (old : List Name) → Some k ≡ with_instance t (instance m) → (Leads s k m → ⊥) → Gathers (IsLeadingInstance s m t) old old
  leads_elsewhere t k old e other = gathers_none (IsLeadingInstance s m t) old (λ n p. other (subst (λ x. Leads s x m) (sym (same_Some _ _ (e ∙ p.made))) p.leads))

  -- An alias of `a` is an alias of `m` exactly if `a` and `m` are the same.
  pub leads_if : (n a : Name) (b : Bool) → b ≡ is_same a m → Alias a ≡ choice s n → IsTrue b ↔ Leads s n m
  leads_if n a b e is = (λ h. sym is ∙ ap (λ x. Alias x) ((name_eq-Decides a m).0 (sym e ∙ h)), λ l. e ∙ (name_eq-Decides a m).1 (alias_same a m (is ∙ l)))

no_step : (s : HostViewMap) (n u : Name) → Chain s 0 n u → n ≡ u
no_step s n u (here _) = refl

-- A choice that is no alias is an end.
pub no_alias_ends : (c : Choice) → is_alias c ≡ false → IsEnd c
no_alias_ends NotFound h = tt
no_alias_ends Masked h = tt
no_alias_ends (Fragment p) h = tt
no_alias_ends (Alias m) h = cc (h)
no_alias_ends (Bad x) h = tt

alias_ends_not : (c : Choice) → is_alias c ≡ true → IsEnd c → ⊥
alias_ends_not NotFound h e = cc (h)
alias_ends_not Masked h e = cc (h)
alias_ends_not (Fragment p) h e = cc (h)
alias_ends_not (Alias m) h e = absurd e
alias_ends_not (Bad x) h e = cc (h)

module _ (s : HostViewMap) (u : Name) where
  -- A unit that is no alias is the end of the chains of its other names.
  record EndsHere (n : Name) : Type 0 where
    long : ℕ
    some : 0 < long
    short : long ≤ 8
    chain : Chain s long n u
    ends : IsEnd (choice s u)

  ends_here : (n : Name) → IsOtherName s u n → EndsHere n
  ends_here n k = by (resolution s n) (resolution_resolves s n) k.main_is
    where
      first : (d : ℕ) → d ≤ 8 → Chain s d n u → IsEnd (choice s u) → EndsHere n
      first zero le c e = absurd (k.other (no_step s n u c))
      first (suc d) le c e = record { long = suc d; some = omega arith; short = le; chain = c; ends = e }

      by : (r : Resolution) → Resolves s n r → r.main ≡ u → EndsHere n
      by r (ends_at d v le c e) q = first d le (subst (Chain s d n) q c) (subst (λ x. IsEnd (choice s x)) q e)
      by r (goes_on v c) q = absurd (k.other q)

  -- An alias is no end.
  leads_no_end : (n m v : Name) → Leads s n m → n ≡ v → IsEnd (choice s v) → ⊥
  leads_no_end n m v l q e = subst IsEnd (sym (ap (choice s) q) ∙ l) e

  first_leads : (n : Name) (d : ℕ) → 0 < d → Chain s d n u → IsEnd (choice s u) → n ≢ u
  first_leads n d some (here _) e q = absurd (omega arith)
  first_leads n d some (step _ m _ k l rest) e q = leads_no_end n m u l q e

  -- A name with a chain to a unit that is no alias is another of the unit's names.
  other_by : (n : Name) (d : ℕ) → 0 < d → d ≤ 8 → IsName n → Chain s d n u → IsEnd (choice s u) → IsOtherName s u n
  other_by n d some le well_formed c e = record {
    other = first_leads n d some c e;
    name = well_formed;
    main_is = ap (λ r. r.main) ((following_finds_the_end s n (record { main = u; choice = choice s u })).0 (ends_at d u le c e));
  }

  -- Exactly the names, perhaps the unit itself too, from which `d` aliases lead to the unit.
  pub record IsLevel (d : ℕ) (level : List Name) : Type 0 where
    pub sound : (n : Name) → IsAmong n level → Chain s d n u
    pub there : (n : Name) → IsName n → Chain s d n u → IsAmong n level

  -- Level 0 has only the unit.
  pub first_level : (level : List Name) → level ≡ u ∷ [] → IsLevel 0 level
  first_level level e = record { sound = λ n h. by n (subst (IsAmong n) e h); there = λ n well_formed c. subst (IsAmong n) (sym e) (inl (sym (no_step s n u c))) }
    where
      by : (n : Name) → IsAmong n (u ∷ []) → Chain s 0 n u
      by n (inl q) = subst (λ x. Chain s 0 x u) q (here u)
      by n (inr a) = absurd a

  pub none_after : (others : List Name) → others ≡ [] → AreAliasesWithin s u 0 others
  none_after others e = record {
    well_formed = λ n h. absurd (subst (IsAmong n) e h);
    sound = λ n h. absurd (subst (IsAmong n) e h);
    found = λ n k some le well_formed c. absurd (omega arith);
  }

  -- The next level.
  pub next_level : (d e : ℕ) (level next : List Name) → e ≡ suc d → IsLevel d level → Gathers (LeadsToAny s level) [] next → IsLevel e next
  next_level d e level next q h g = record { sound = λ n a. back n (g.sound n a); there = λ n well_formed c. by n well_formed (subst (λ x. Chain s x n u) q c) }
    where
      by : (n : Name) → IsName n → Chain s (suc d) n u → IsAmong n next
      by n well_formed (step _ m _ _ l rest) = g.found n well_formed (any_there (λ x k. Leads s k x) level m n (h.there m (aliases_are_alike s n m well_formed l).name rest) l)

      back : (n : Name) → IsAmong n [] ⊎ (IsName n × LeadsToAny s level n) → Chain s e n u
      back n (inl a) = absurd a
      back n (inr a) =
          let w = any_from (λ x k. Leads s k x) level n a.1 in
          subst (λ x. Chain s x n u) (sym q) (step n w.0 u d w.2 (h.sound w.0 w.1))

  pub more_after : (d e : ℕ) (level next old new : List Name) → e ≡ suc d → Gathers (LeadsToAny s level) [] next → IsLevel e next → Adds next old new → AreAliasesWithin s u d old → AreAliasesWithin s u e new
  more_after d e level next old new q g h add f = record {
    well_formed = λ n a. valid_by n (add.sound n a);
    sound = λ n a. sound_by n (add.sound n a);
    found = λ n k some le well_formed c. found_by n k some le well_formed c;
  }
    where
      gathered : (n : Name) → IsAmong n [] ⊎ (IsName n × LeadsToAny s level n) → IsName n
      gathered n (inl a) = absurd a
      gathered n (inr a) = a.0

      valid_by : (n : Name) → IsAmong n old ⊎ IsAmong n next → IsName n
      valid_by n (inl a) = f.well_formed n a
      valid_by n (inr a) = gathered n (g.sound n a)

      sound_by : (n : Name) → IsAmong n old ⊎ IsAmong n next → (k : ℕ) × (0 < k) × (k ≤ e) × Chain s k n u
      sound_by n (inl a) = let w = f.sound n a in (w.0, w.1, (let le = w.2 in omega arith), w.3)
      sound_by n (inr a) = (e, omega arith, omega arith, h.sound n a)

      found_by : (n : Name) (k : ℕ) → 0 < k → k ≤ e → IsName n → Chain s k n u → IsAmong n new
      found_by n k some le well_formed c = first_of_two (at_most k d e le q)
        where
          at_most : (k d e : ℕ) → k ≤ e → e ≡ suc d → (k ≤ d) ⊎ (k ≡ e)
          at_most k d e le q = grind arith

          first_of_two : (k ≤ d) ⊎ (k ≡ e) → IsAmong n new
          first_of_two (inl below) = add.kept n (f.found n k some below well_formed c)
          first_of_two (inr same) = add.there n (h.there n well_formed (subst (λ x. Chain s x n u) same c))

  pub all_after : (d : ℕ) (others : List Name) → 8 ≤ d → d ≤ 8 → AreAliasesWithin s u d others → AreAliasesWithin s u 8 others
  all_after d others le ge f = subst (λ (x : ℕ). AreAliasesWithin s u x others) (omega arith) f

  -- If the unit is no alias, all names from which at most eight aliases lead to it are its other names.
  pub all_names : (names others : List Name) → AreAliasesWithin s u 8 others → is_alias (choice s u) ≡ false → names ≡ u ∷ others → IsStrictlySortedBy name_cmp others → AreNames s u names
  all_names names others f none e ascending = record {
    others = others;
    first = e;
    ascending = ascending;
    exact = λ n. (λ a. let w = f.sound n a in other_by n w.0 w.1 w.2 (f.well_formed n a) w.3 (no_alias_ends (choice s u) none), λ k. by n k (ends_here n k));
  }
    where
      by : (n : Name) → IsOtherName s u n → EndsHere n → IsAmong n others
      by n k w = f.found n w.long w.some w.short k.name w.chain

  lone : (names : List Name) → ((n : Name) → IsOtherName s u n → ⊥) → names ≡ u ∷ [] → AreNames s u names
  unfolding IsStrictlySortedBy
  lone names none e = record { others = []; first = e; ascending = tt; exact = λ n. (λ a. absurd a, λ k. none n k) }

  -- A unit without aliases has no other name.
  pub unled : (names others : List Name) → AreAliasesWithin s u 8 others → length others ≡ 0 → names ≡ u ∷ [] → AreNames s u names
  unled names others f none e = lone names (λ n k. by n k (ends_here n k)) e
    where
      nothing : (xs : List Name) (n : Name) → length xs ≡ 0 → IsAmong n xs → ⊥
      nothing [] n q a = a
      nothing (x ∷ xs) n q a = absurd (omega arith)

      by : (n : Name) → IsOtherName s u n → EndsHere n → ⊥
      by n k w = nothing others n none (f.found n w.long w.some w.short k.name w.chain)

  -- A unit that is itself an alias has no other name either.
  pub endless : (names : List Name) → is_alias (choice s u) ≡ true → names ≡ u ∷ [] → AreNames s u names
  endless names is e = lone names (λ n k. let w = ends_here n k in alias_ends_not (choice s u) is w.ends) e

-- A loop that adds each name.
pub adds_none : (added old : List Name) → added ≡ [] → Adds added old old
adds_none added old e = record { kept = λ n h. h; there = λ n h. absurd (subst (IsAmong n) e h); sound = λ n h. inl h }

pub adds_one : (xs added old mid new : List Name) (k : Name) → added ≡ xs ++ k ∷ [] → Adds xs old mid → new ≡ insert_key name_cmp mid k → Adds added old new
adds_one xs added old mid new k q g e = record {
  kept = λ n h. to n (put_kept name_cmp k mid n (g.kept n h));
  there = λ n h. to n (there_by n (IsAmong-append_cases n xs (k ∷ []) (subst (IsAmong n) q h)));
  sound = λ n h. sound_by n (put_sound name_cmp k mid n (subst (IsAmong n) e h));
}
  where
    to : (n : Name) → IsAmong n (insert_key name_cmp mid k) → IsAmong n new
    to n h = subst (IsAmong n) (sym e) h

    there_by : (n : Name) → IsAmong n xs ⊎ IsAmong n (k ∷ []) → IsAmong n (insert_key name_cmp mid k)
    there_by n (inl a) = put_kept name_cmp k mid n (g.there n a)
    there_by n (inr (inl a)) = subst (λ x. IsAmong x (insert_key name_cmp mid k)) a (put_there name_cmp name_cmp-IsAntisymmetric k mid)
    there_by n (inr (inr a)) = absurd a

    from : (n : Name) → IsAmong n old ⊎ IsAmong n xs → IsAmong n old ⊎ IsAmong n added
    from n (inl a) = inl a
    from n (inr a) = inr (subst (IsAmong n) (sym q) (IsAmong-append_left n xs (k ∷ []) a))

    sound_by : (n : Name) → IsAmong n mid ⊎ (k ≡ n) → IsAmong n old ⊎ IsAmong n added
    sound_by n (inl a) = from n (g.sound n a)
    sound_by n (inr a) = inr (subst (IsAmong n) (sym q) (IsAmong-append_right n xs (k ∷ []) (inl a)))
