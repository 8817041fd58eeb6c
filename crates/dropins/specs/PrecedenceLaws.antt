-- Laws of what is taken for a file name.
use Rattle.std.proofs.Common.{◌<◌, ◌≡◌, ◌≤◌, ◌⊎◌}
use Rattle.dropins.specs.Prelude.{ap, arith, HostViewMap, inl, inr, IsLevel, level_of, List, None, Option, option_and_then, PathParts, refl, slice_get, Some, sym, viewed_at, ℕ, ◌∙◌}
use Rattle.dropins.specs.{declared.precedence.Search.{Search}, Taken.{as_found, Candidate, IsTaken, Stands, TakenFor}, Walks.{taken}}
use Rattle.dropins.specs.WalkLaws as walk

-- The level decides before the position of the folder: what is taken has at most the level of any candidate for its
-- file name, in whichever folder.
abbrev pub LevelsGoFirst : Type 0
LevelsGoFirst = (s : HostViewMap) (x : Search) (ds : List (List ℕ)) (c d : Candidate) (p q : PathParts) (i : ℕ) → IsTaken s x ds c p → Stands s x ds d q i → q.name ≡ p.name → level_of p ≤ level_of q

-- If a file name has a candidate, one is taken for it.
abbrev pub SomethingIsTaken : Type 0
SomethingIsTaken = (s : HostViewMap) (x : Search) (ds : List (List ℕ)) (d : Candidate) (q : PathParts) (i : ℕ) → Stands s x ds d q i → (c : Candidate) × TakenFor s x ds q.name c

-- At most one candidate is taken for a file name.
abbrev pub TakenOnce : Type 0
TakenOnce = (s : HostViewMap) (x : Search) (ds : List (List ℕ)) (c d : Candidate) (p q : PathParts) → IsTaken s x ds c p → IsTaken s x ds d q → p.name ≡ q.name → (p ≡ q) × (c ≡ d)

-- What is taken depends only on what is visible in the folders.
abbrev pub FoldersDecide : Type 0
FoldersDecide = (s t : HostViewMap) (x : Search) (ds : List (List ℕ)) → ((p : PathParts) (i : ℕ) → IsLevel (level_of p) → slice_get ds i ≡ Some p.folder → viewed_at s p ≡ viewed_at t p)
    → (c : Candidate) (p : PathParts) → IsTaken s x ds c p → IsTaken t x ds c p

pub levels_go_first : LevelsGoFirst
levels_go_first s x ds c d p q i a st n = by (a.least d q i st n)
  where
    by : (p.rank < q.rank) ⊎ ((p.rank ≡ q.rank) × (a.place ≤ i)) → p.rank ≤ q.rank
    by (inl l) = omega (arith, l)
    by (inr e) = omega (arith, e.0)

pub something_is_taken : SomethingIsTaken
something_is_taken s x ds d q i st = by (taken s x ds q.name) refl
  where
    by : (o : Option Candidate) → taken s x ds q.name ≡ o → (c : Candidate) × TakenFor s x ds q.name c
    by None h = absurd (walk.none_stands s x ds q.name h d q i st refl)
    by (Some c) h = (c, walk.found_is_taken s x ds q.name c h)

pub taken_once : TakenOnce
taken_once s x ds c d p q a b n = walk.taken_once s x ds c d p q a b n

pub folders_decide : FoldersDecide
folders_decide s t x ds same c p a = record {
  place = a.place;
  stands = record {
    level_within = a.stands.level_within;
    folder_is = a.stands.folder_is;
    says = ap (option_and_then (as_found x p)) (sym (same p a.place a.stands.level_within a.stands.folder_is)) ∙ a.stands.says;
  };
  least = λ d q i st n. a.least d q i (record {
    level_within = st.level_within;
    folder_is = st.folder_is;
    says = ap (option_and_then (as_found x q)) (same q i st.level_within st.folder_is) ∙ st.says;
  }) n;
}
