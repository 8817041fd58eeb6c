-- How the other names of a unit are gathered.
use Rattle.std.proofs.Common.{◌≡◌, ◌⊎◌}
use Rattle.fragment_choice.proofs.Prelude.{Adds, alias_keeps, ap, Bool, cond, Err, false, Gathers, has_template, HostViewMap, IfOk, inl, inr, insert_key, instance, instances_have_the_template, is_name, IsAmong, IsName, Leads, List, Name, name_cmp, name_cmp-IsAntisymmetric, None, none-some, Ok, OnOk, put_kept, put_sound, put_there, refl, Result, same_Some, shape, Some, subst, sym, template_of, true, unit_of, with_instance, ◌∙◌}

-- No name passes.
pub gathers_none : (P : Name → Type 0) (old : List Name) → ((n : Name) → P n → ⊥) → Gathers P old old
gathers_none P old none = record { kept = λ n h. h; sound = λ n h. inl h; found = λ n well_formed p. absurd (none n p) }

-- One name that passes was added, and no other name passes.
pub gathers_put : (P : Name → Type 0) (k : Name) (old new : List Name) → IsName k → P k → ((n : Name) → P n → k ≡ n) → new ≡ insert_key name_cmp old k → Gathers P old new
gathers_put P k old new well_formed passes one e = record {
  kept = λ n h. subst (IsAmong n) (sym e) (put_kept name_cmp k old n h);
  sound = λ n h. by n (put_sound name_cmp k old n (subst (IsAmong n) e h));
  found = λ n _ p. subst (λ m. IsAmong m new) (one n p) (subst (IsAmong k) (sym e) (put_there name_cmp name_cmp-IsAntisymmetric k old));
}
  where
    by : (n : Name) → IsAmong n old ⊎ (k ≡ n) → IsAmong n old ⊎ (IsName n × P n)
    by n (inl a) = inl a
    by n (inr a) = inr (subst IsName a well_formed, subst P a passes)

-- All names of a list of unit names were added.
pub gathers_all : (xs old new : List Name) → ((n : Name) → IsAmong n xs → IsName n) → Adds xs old new → Gathers (λ n. IsAmong n xs) old new
gathers_all xs old new well_formed g = record { kept = g.kept; sound = λ n h. by n (g.sound n h); found = λ n _ p. g.there n p }
  where
    by : (n : Name) → IsAmong n old ⊎ IsAmong n xs → IsAmong n old ⊎ (IsName n × IsAmong n xs)
    by n (inl a) = inl a
    by n (inr a) = inr (well_formed n a, a)

-- Two gatherings, one after the other.
pub gathers_then : (P Q R : Name → Type 0) (old mid new : List Name) → Gathers P old mid → Gathers Q mid new → ((n : Name) → IsName n → R n → P n ⊎ Q n) → ((n : Name) → IsName n → P n ⊎ Q n → R n) → Gathers R old new
gathers_then P Q R old mid new g h split join = record {
  kept = λ n a. h.kept n (g.kept n a);
  sound = λ n a. by_sound n (h.sound n a);
  found = λ n well_formed r. by_found n well_formed (split n well_formed r);
}
  where
    first : (n : Name) → IsAmong n old ⊎ (IsName n × P n) → IsAmong n old ⊎ (IsName n × R n)
    first n (inl a) = inl a
    first n (inr p) = inr (p.0, join n p.0 (inl p.1))

    by_sound : (n : Name) → IsAmong n mid ⊎ (IsName n × Q n) → IsAmong n old ⊎ (IsName n × R n)
    by_sound n (inl a) = first n (g.sound n a)
    by_sound n (inr q) = inr (q.0, join n q.0 (inr q.1))

    by_found : (n : Name) → IsName n → P n ⊎ Q n → IsAmong n new
    by_found n well_formed (inl p) = h.kept n (g.found n well_formed p)
    by_found n well_formed (inr q) = h.found n well_formed q

-- The same for an equivalent test.
pub gathers_of : (P Q : Name → Type 0) (old new : List Name) → Gathers P old new → ((n : Name) → IsName n → Q n → P n) → ((n : Name) → IsName n → P n → Q n) → Gathers Q old new
gathers_of P Q old new g there back = record { kept = g.kept; sound = λ n a. by n (g.sound n a); found = λ n well_formed q. g.found n well_formed (there n well_formed q) }
  where
    by : (n : Name) → IsAmong n old ⊎ (IsName n × P n) → IsAmong n old ⊎ (IsName n × Q n)
    by n (inl a) = inl a
    by n (inr p) = inr (p.0, back n p.0 p.1)

-- If a link of a name's template makes the name an alias, the name is the template with the instance of the other name.
pub linked_instance : (s : HostViewMap) (o n m : Name) → IsName o → IsName n → template_of n ≡ Some o → Leads s n m → with_instance o (instance m) ≡ Some n
linked_instance s o n m well_formed good t l =
    let keeps = alias_keeps s (instance n) n m l (record { name = good; shape_is = has_template (shape n) n o t; part = refl }) in
    (instances_have_the_template o (instance m) n well_formed).1 (good, t, sym keeps.part)

-- If reading the bytes gives a name, they are that name; if it gives none, they are no name.
pub read : (b n : Name) → Some n ≡ unit_of b → IsName b × (n ≡ b)
read b n h = by (is_name b) refl h
  where
    by : (t : Bool) → is_name b ≡ t → Some n ≡ cond t (Some b) None → IsName b × (n ≡ b)
    by true e k = (e, same_Some _ _ k)
    by false e k = cc (k)

pub unread : (b : Name) → None ≡ unit_of b → IsName b → ⊥
unread b h l = absurd (none-some _ (h ∙ ap (λ t. cond t (Some b) None) l))

pub both_ok : {T E Q : Type 0} {P R : T → Type 0} (r : Result T E) → IfOk r P → OnOk r Q → ((x : T) → P x → Q → R x) → IfOk r R
both_ok (Ok x) p q f = f x p q
both_ok (Err e) p q f = tt
