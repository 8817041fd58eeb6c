-- Laws of levels: lesser ones come first, and which places have the lesser ones.
use Rattle.std.proofs.Common.{◌+◌, ◌<◌, ◌↔◌, ◌≡◌, ◌≤◌, ◌⊎◌}
use Rattle.load_places.specs.Prelude.{all_undefined, ap, arith, Bool, bytes_eq, bytes_eq-Decides, cond, drop, false, first_is, first_said, get_or, inl, inr, IsSome, List, None, none_says, Option, option_or, place_decides, refl, said_from, same_Some, Some, subst, suc, sym, true, zero, ℕ, ◌∙◌}
use Rattle.load_places.specs.{declared.{places.Scope.{Scope, TheVariants.{Fleet, Host}}, viewers.Viewer.{Viewer}}, Levels.{first_level, IsLevel, level_for, level_in, levels}, Places.{PlaceParts}}

-- the least level that says something decides
abbrev pub LeastLevelDecides : Type 0 → Type 0
LeastLevelDecides B = (f : ℕ → Option B) (l : ℕ) (c : B) → IsLevel l → f l ≡ Some c → ((k : ℕ) → k < l → f k ≡ None) → first_level f ≡ Some c

-- nothing is said just where no level says anything
abbrev pub UndefinedEverywhere : Type 0 → Type 0
UndefinedEverywhere B = (f : ℕ → Option B) → (first_level f ≡ None) ↔ ((l : ℕ) → IsLevel l → f l ≡ None)

-- ---- which places come first

-- what is in a scope is looked at: the fleet's always, and a host's where that very host looks
abbrev pub IsLookedAt : Option (List ℕ) → Scope → Type 0
IsLookedAt host scope = (scope ≡ Fleet) ⊎ ((name : List ℕ) × (host ≡ Some name) × (scope ≡ Host name))

-- those places have a level, and no others: none of another host's has one, nor any host's where no host looks
abbrev pub PlacesLookedAtHaveLevels : Type 0
PlacesLookedAtHaveLevels = (viewer : Viewer) (place : PlaceParts) → IsSome (level_for viewer place) ↔ IsLookedAt viewer.host place.scope

-- in the directories of the load path it is one of the levels
abbrev pub LevelsOfDirectories : Type 0
LevelsOfDirectories = (viewer : Viewer) (place : PlaceParts) (level : ℕ) → place.path.rank < 4 → level_for viewer place ≡ Some level
    → IsLevel level

-- a place in a directory of a lesser rank goes before each of a greater rank, so the fleet's too before a host's own
abbrev pub LesserRanksGoFirst : Type 0
LesserRanksGoFirst = (viewer : Viewer) (p q : PlaceParts) (a b : ℕ) → p.path.rank < q.path.rank
    → level_for viewer p ≡ Some a → level_for viewer q ≡ Some b → a < b

-- a host's own place goes before the fleet's in the directory of the same rank
abbrev pub OwnPlacesGoFirst : Type 0
OwnPlacesGoFirst =
    (viewer : Viewer) (own fleets : PlaceParts) (name : List ℕ) (a b : ℕ) → own.scope ≡ Host name → fleets.scope ≡ Fleet
    → own.path.rank ≡ fleets.path.rank → level_for viewer own ≡ Some a → level_for viewer fleets ≡ Some b → a < b

-- each level stands at its own place in the list
pub level_is : (level other : ℕ) → IsLevel level → get_or levels level other ≡ level
level_is zero other h = refl
level_is (suc zero) other h = refl
level_is (suc (suc zero)) other h = refl
level_is (suc (suc (suc zero))) other h = refl
level_is (suc (suc (suc (suc zero)))) other h = refl
level_is (suc (suc (suc (suc (suc zero))))) other h = refl
level_is (suc (suc (suc (suc (suc (suc zero)))))) other h = refl
level_is (suc (suc (suc (suc (suc (suc (suc zero))))))) other h = refl
level_is (suc (suc (suc (suc (suc (suc (suc (suc l)))))))) other h = absurd (omega arith)

-- from a level on: this one, then the greater ones
pub next_level : {B : Type 0} (f : ℕ → Option B) (l : ℕ) → IsLevel l
    → first_said f (drop l levels) ≡ option_or (f l) (first_said f (drop (suc l) levels))
next_level f l h = said_from f levels l 0 h ∙ ap (λ k. option_or (f k) (first_said f (drop (suc l) levels))) (level_is l 0 h)

-- none answers just where each level has no answer
pub none_said : {B : Type 0} (f : ℕ → Option B) → first_level f ≡ None → (l : ℕ) → IsLevel l → f l ≡ None
none_said f h l within = ap f (sym (level_is l 0 within)) ∙ none_says f levels 0 h l within

pub all_none : {B : Type 0} (f : ℕ → Option B) → ((l : ℕ) → IsLevel l → f l ≡ None) → first_level f ≡ None
all_none f none = all_undefined f levels 0 (λ l within. ap f (level_is l 0 within) ∙ none l within)

pub undefined_everywhere : (B : Type 0) → UndefinedEverywhere B
undefined_everywhere B f = (none_said f, all_none f)

-- an answer comes from one of the levels
pub said_by : {B : Type 0} (f : ℕ → Option B) (c : B) → first_level f ≡ Some c → (l : ℕ) × IsLevel l × (f l ≡ Some c)
said_by f c h = let first = first_is f levels 0 c h in (first.place, first.within, ap f (sym (level_is first.place 0 first.within)) ∙ first.says)

pub first_at : {B : Type 0} (f : ℕ → Option B) (r : ℕ) (c : B) → IsLevel r → f r ≡ Some c
    → ((k : ℕ) → k < r → f k ≡ None) → first_level f ≡ Some c
first_at f r c h e none = place_decides f levels 0 r c h (ap f (level_is r 0 h) ∙ e) (λ k l. ap f (level_is k 0 (omega (arith, l, h))) ∙ none k l)

pub least_level_decides : (B : Type 0) → LeastLevelDecides B
least_level_decides B = first_at

-- ---- level by level

-- a level that says something says what is found from it on
pub said_there : {B : Type 0} (f : ℕ → Option B) (l : ℕ) (x : B) (w : Option B) → IsLevel l → f l ≡ Some x
    → first_said f (drop l levels) ≡ w → Some x ≡ w
said_there f l x w h e i = sym (next_level f l h ∙ ap (λ o. option_or o (first_said f (drop (suc l) levels))) e) ∙ i

-- where a level says nothing, what is found is found from the next one on
pub passed_over : {B : Type 0} (f : ℕ → Option B) (l m : ℕ) (w : Option B) → IsLevel l → m ≡ suc l → f l ≡ None
    → first_said f (drop l levels) ≡ w → first_said f (drop m levels) ≡ w
passed_over f l m w h t e i = ap (λ k. first_said f (drop k levels)) t ∙ sym (next_level f l h ∙ ap (λ o. option_or o (first_said f (drop (suc l) levels))) e) ∙ i

-- ---- places

-- a host's places have a level where their host looks
own_level : (looks name : List ℕ) (rank a : ℕ) → level_in (Some looks) (Host name) rank ≡ Some a → (name ≡ looks) × (rank + rank ≡ a)
own_level looks name rank a = by (bytes_eq name looks) refl
  where
    by : (b : Bool) → bytes_eq name looks ≡ b → cond b (Some (rank + rank)) None ≡ Some a → (name ≡ looks) × (rank + rank ≡ a)
    by true t e = ((bytes_eq-Decides name looks).0 t, same_Some _ _ e)
    by false t e = cc (e)

-- a level is twice the rank, or one more
near_rank : (host : Option (List ℕ)) (scope : Scope) (rank a : ℕ) → level_in host scope rank ≡ Some a
    → (rank + rank ≤ a) × (a ≤ rank + rank + 1)
near_rank host Fleet rank a e = let is = same_Some _ _ e in (omega (arith, is), omega (arith, is))
near_rank None (Host name) rank a e = cc (e)
near_rank (Some looks) (Host name) rank a e = let is = (own_level looks name rank a e).1 in (omega (arith, is), omega (arith, is))

pub places_looked_at_have_levels : PlacesLookedAtHaveLevels
places_looked_at_have_levels viewer place = by viewer.host place.scope
  where
    named : (looks name : List ℕ) → IsSome (level_in (Some looks) (Host name) place.path.rank) → name ≡ looks
    named looks name = at (bytes_eq name looks) refl
      where
        at : (b : Bool) → bytes_eq name looks ≡ b → IsSome (cond b (Some (place.path.rank + place.path.rank)) None) → name ≡ looks
        at true t is = (bytes_eq-Decides name looks).0 t
        at false t is = cc (is)

    by : (host : Option (List ℕ)) (scope : Scope) → IsSome (level_in host scope place.path.rank) ↔ IsLookedAt host scope
    by host Fleet = (λ _. inl refl, λ _. refl)
    by None (Host name) = (λ is. cc (is), λ at. absurd (nobodys name at))
      where
        nobodys : (name : List ℕ) → IsLookedAt None (Host name) → ⊥
        nobodys name (inl e) = cc (e)
        nobodys name (inr (own, e, is)) = cc (e)
    by (Some looks) (Host name) = (λ is. inr (looks, refl, ap Host (named looks name is)), λ at. own looks name at)
      where
        own : (looks name : List ℕ) → IsLookedAt (Some looks) (Host name) → IsSome (level_in (Some looks) (Host name) place.path.rank)
        own looks name (inl e) = cc (e)
        own looks name (inr (same, looked, is)) =
            let e : name ≡ looks = cc (looked, is) in
            subst (λ b. IsSome (cond b (Some (place.path.rank + place.path.rank)) None)) (sym ((bytes_eq-Decides name looks).1 e)) refl

pub levels_of_directories : LevelsOfDirectories
levels_of_directories viewer place level within is = let near = near_rank viewer.host place.scope place.path.rank level is in omega (arith, near.1)

pub lesser_ranks_go_first : LesserRanksGoFirst
lesser_ranks_go_first viewer p q a b lesser first second =
    let near = near_rank viewer.host p.scope p.path.rank a first in
    let far = near_rank viewer.host q.scope q.path.rank b second in
    omega (arith, near.1, far.0)

pub own_places_go_first : OwnPlacesGoFirst
own_places_go_first viewer own fleets name a b its fleet same first second =
    by viewer.host (sym (ap (λ (s : Scope). level_in viewer.host s own.path.rank) its) ∙ first)
  where
    after : b ≡ fleets.path.rank + fleets.path.rank + 1
    after = sym (same_Some _ _ (sym (ap (λ (s : Scope). level_in viewer.host s fleets.path.rank) fleet) ∙ second))

    by : (host : Option (List ℕ)) → level_in host (Host name) own.path.rank ≡ Some a → a < b
    by None e = cc (e)
    by (Some looks) e = let is = (own_level looks name own.path.rank a e).1 in omega (arith, is, after, same)
