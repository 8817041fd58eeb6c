-- Laws of what is taken in the folders of names, or else in those of types.
use Rattle.std.proofs.Common.{◌<◌, ◌↔◌, ◌≡◌, ◌≤◌, ◌⊎◌}
use Rattle.dropins.specs.Prelude.{[], ap, arith, HostViewMap, inl, inr, IsLevel, level_of, List, option_and_then, PathParts, refl, slice_get, Some, sym, viewed_at, ℕ, ◌∙◌}
use Rattle.dropins.specs.{declared.precedence.Search.{Search}, Taken.{as_found, Candidate, dirs_by, IsTaken, IsTakenOver, Owner, Owner.{OfName, OfType}, Precedes, Stands}, WalkLaws.{taken_once}}

-- There is no candidate for this file name.
abbrev pub NoneStands : HostViewMap → Search → List (List ℕ) → List ℕ → Type 0
NoneStands s x ds f = (d : Candidate) (q : PathParts) (i : ℕ) → Stands s x ds d q i → q.name ≡ f → ⊥

-- What is taken is either what is taken in the folders of names, or what is taken in those of types if no folder of a
-- name has a candidate for its file name.
abbrev pub NamesOrElseTypes : Type 0
NamesOrElseTypes = (s : HostViewMap) (x : Search) (ds ts : List (List ℕ)) (c : Candidate) (p : PathParts) → IsTakenOver s x ds ts c p ↔ (IsTaken s x ds c p ⊎ (IsTaken s x ts c p × NoneStands s x ds p.name))

-- At most one candidate is taken for a file name.
abbrev pub OverOnce : Type 0
OverOnce = (s : HostViewMap) (x : Search) (ds ts : List (List ℕ)) (c d : Candidate) (p q : PathParts) → IsTakenOver s x ds ts c p → IsTakenOver s x ds ts d q → p.name ≡ q.name → (p ≡ q) × (c ≡ d)

-- What is taken depends only on what is visible in the folders.
abbrev pub FoldersDecideOver : Type 0
FoldersDecideOver = (s t : HostViewMap) (x : Search) (ds ts : List (List ℕ)) → ((o : Owner) (p : PathParts) (i : ℕ) → IsLevel (level_of p) → slice_get (dirs_by o ds ts) i ≡ Some p.folder → viewed_at s p ≡ viewed_at t p)
    → (c : Candidate) (p : PathParts) → IsTakenOver s x ds ts c p → IsTakenOver t x ds ts c p

module _ (s : HostViewMap) (x : Search) (ds ts : List (List ℕ)) (c : Candidate) (p : PathParts) where
  pub over_of_names : IsTaken s x ds c p → IsTakenOver s x ds ts c p
  over_of_names a = record { owner = OfName; place = a.place; stands = a.stands; least = λ d q o i st n. least d q o i st n }
    where
      least : (d : Candidate) (q : PathParts) (o : Owner) (i : ℕ) → Stands s x (dirs_by o ds ts) d q i → q.name ≡ p.name
          → Precedes OfName (level_of p) a.place o (level_of q) i
      least d q OfName i st n = inr (refl, a.least d q i st n)
      least d q OfType i st n = inl (omega arith)

  pub over_of_types : IsTaken s x ts c p → NoneStands s x ds p.name → IsTakenOver s x ds ts c p
  over_of_types a none = record { owner = OfType; place = a.place; stands = a.stands; least = λ d q o i st n. least d q o i st n }
    where
      least : (d : Candidate) (q : PathParts) (o : Owner) (i : ℕ) → Stands s x (dirs_by o ds ts) d q i → q.name ≡ p.name
          → Precedes OfType (level_of p) a.place o (level_of q) i
      least d q OfName i st n = absurd (none d q i st n)
      least d q OfType i st n = inr (refl, a.least d q i st n)

  -- In the same turn the level and then the index decide.
  same_turn : {n l m i j : ℕ} → (n < n) ⊎ ((n ≡ n) × ((l < m) ⊎ ((l ≡ m) × (i ≤ j)))) → (l < m) ⊎ ((l ≡ m) × (i ≤ j))
  same_turn (inl l) = absurd (omega (arith, l))
  same_turn (inr e) = e.1

  -- A type doesn't come before a name.
  not_before : (l m i j : ℕ) → Precedes OfType l i OfName m j → ⊥
  not_before l m i j (inl h) = omega (arith, h)
  not_before l m i j (inr e) = omega (arith, e.0)

  pub over_is_either : IsTakenOver s x ds ts c p → IsTaken s x ds c p ⊎ (IsTaken s x ts c p × NoneStands s x ds p.name)
  over_is_either t = by t.owner t.place t.stands t.least
    where
      by : (a : Owner) (place : ℕ) → Stands s x (dirs_by a ds ts) c p place
          → ((d : Candidate) (q : PathParts) (o : Owner) (i : ℕ) → Stands s x (dirs_by o ds ts) d q i → q.name ≡ p.name
          → Precedes a (level_of p) place o (level_of q) i)
          → IsTaken s x ds c p ⊎ (IsTaken s x ts c p × NoneStands s x ds p.name)
      by OfName place st least = inl (record { place = place; stands = st; least = λ d q i sq n. same_turn (least d q OfName i sq n) })
      by OfType place st least =
          inr (record { place = place; stands = st; least = λ d q i sq n. same_turn (least d q OfType i sq n) }, λ d q i sq n. not_before (level_of p) (level_of q) place i (least d q OfName i sq n))

pub names_or_else_types : NamesOrElseTypes
names_or_else_types s x ds ts c p = (over_is_either s x ds ts c p, by)
  where
    by : IsTaken s x ds c p ⊎ (IsTaken s x ts c p × NoneStands s x ds p.name) → IsTakenOver s x ds ts c p
    by (inl a) = over_of_names s x ds ts c p a
    by (inr b) = over_of_types s x ds ts c p b.0 b.1

-- Without folders of types, the folders of names decide.
pub over_none : (s : HostViewMap) (x : Search) (ds : List (List ℕ)) (c : Candidate) (p : PathParts)
    → IsTakenOver s x ds [] c p → IsTaken s x ds c p
over_none s x ds c p t = by (over_is_either s x ds [] c p t)
  where
    nowhere : (i : ℕ) → Stands s x [] c p i → ⊥
    nowhere i st = cc (st.folder_is)

    by : IsTaken s x ds c p ⊎ (IsTaken s x [] c p × NoneStands s x ds p.name) → IsTaken s x ds c p
    by (inl a) = a
    by (inr b) = absurd (nowhere b.0.place b.0.stands)

-- ---- one is taken, and the candidates decide which

pub over_once : OverOnce
over_once s x ds ts c d p q a b n = by (over_is_either s x ds ts c p a) (over_is_either s x ds ts d q b)
  where
    by : IsTaken s x ds c p ⊎ (IsTaken s x ts c p × NoneStands s x ds p.name)
        → IsTaken s x ds d q ⊎ (IsTaken s x ts d q × NoneStands s x ds q.name) → (p ≡ q) × (c ≡ d)
    by (inl k) (inl l) = taken_once s x ds c d p q k l n
    by (inl k) (inr l) = absurd (l.1 c p k.place k.stands n)
    by (inr k) (inl l) = absurd (k.1 d q l.place l.stands (sym n))
    by (inr k) (inr l) = taken_once s x ts c d p q k.0 l.0 n

-- A candidate in one view is a candidate in another view that shows the same there.
stands_again : (s t : HostViewMap) (x : Search) (ds : List (List ℕ))
    → ((p : PathParts) (i : ℕ) → IsLevel (level_of p) → slice_get ds i ≡ Some p.folder → viewed_at s p ≡ viewed_at t p)
    → (c : Candidate) (p : PathParts) (i : ℕ) → Stands s x ds c p i → Stands t x ds c p i
stands_again s t x ds same c p i st = record {
  level_within = st.level_within;
  folder_is = st.folder_is;
  says = ap (option_and_then (as_found x p)) (sym (same p i st.level_within st.folder_is)) ∙ st.says;
}

pub folders_decide_over : FoldersDecideOver
folders_decide_over s t x ds ts same c p a = record {
  owner = a.owner;
  place = a.place;
  stands = stands_again s t x (dirs_by a.owner ds ts) (same a.owner) c p a.place a.stands;
  least = λ d q o i st n. a.least d q o i (stands_again t s x (dirs_by o ds ts) (λ r j l f. sym (same o r j l f)) d q i st) n;
}
