-- Laws of the walk: what it finds first for a file name is what is taken for it, and nothing else is.
use Rattle.std.proofs.Common.{◌<◌, ◌↔◌, ◌∷◌, ◌≡◌, ◌≤◌, ◌⊎◌}
use Rattle.dropins.specs.Prelude.{[], ap, arith, Bool, cases_lt, cond, Content, false, File, first_is, get_or, get_or_from_slice_get, Gone, HostViewMap, inl, inr, IsFirst, length, level_is, levels, Link, List, None, none-some, none_says, Option, option_and_then, PathParts, refl, same_Some, slice_get, slice_get-get_or, slice_get_within, Some, subst, sym, true, viewed_at, ℕ, ◌∙◌}
use Rattle.dropins.specs.{declared.precedence.Search.{Search, TheVariants.{DropIns, Links}}, Taken.{as_found, Candidate, Candidate.{At, Mask}, candidate_at, content_as_drop_in, is_conf, is_null, IsTaken, Stands, TakenFor}, Walks.{path, taken, taken_in}}

-- ---- a candidate that gives a path is at that path

unfoldable pub path_or : PathParts → Option Candidate → PathParts
path_or q None = q
path_or q (Some Mask) = q
path_or q (Some (At p)) = p

content_path : (x : Search) (q : PathParts) (c : Content) → path_or q (as_found x q c) ≡ q
unfolding path_or
content_path DropIns q c = conf (is_conf q.name) (here c)
  where
    here : (d : Content) → path_or q (content_as_drop_in q d) ≡ q
    here Gone = refl
    here (File []) = refl
    here (File (b ∷ bs)) = refl
    here (Link target) = step (is_null target)
      where
        step : (t : Bool) → path_or q (cond t (Some Mask) None) ≡ q
        step true = refl
        step false = refl

    conf : (t : Bool) → path_or q (content_as_drop_in q c) ≡ q → path_or q (cond t (content_as_drop_in q c) None) ≡ q
    conf true h = h
    conf false h = refl
content_path Links q Gone = refl
content_path Links q (File bytes) = refl
content_path Links q (Link target) = step (is_null target)
  where
    step : (t : Bool) → path_or q (cond t (Some Mask) (Some (At q))) ≡ q
    step true = refl
    step false = refl

pub found_path : (x : Search) (q : PathParts) (o : Option Content) → path_or q (option_and_then (as_found x q) o) ≡ q
unfolding path_or
found_path x q None = refl
found_path x q (Some c) = content_path x q c

pub stands_there : (s : HostViewMap) (x : Search) (p q : PathParts) → candidate_at s x q ≡ Some (At p) → q ≡ p
unfolding path_or
stands_there s x p q h = sym (found_path x q (viewed_at s q)) ∙ ap (path_or q) h

-- ---- the walk

parts : (p : PathParts) (r : ℕ) (d f : List ℕ) → p.rank ≡ r → p.folder ≡ d → p.name ≡ f → p ≡ path r d f
parts p r d f a b c = ap (λ y. path y p.folder p.name) a ∙ ap (λ y. path r y p.name) b ∙ ap (path r d) c

module _ (s : HostViewMap) (x : Search) (ds : List (List ℕ)) where
  -- If nothing is found, there is no candidate.
  pub none_stands : (f : List ℕ) → taken s x ds f ≡ None → (c : Candidate) (p : PathParts) (i : ℕ) → Stands s x ds c p i → p.name ≡ f → ⊥
  none_stands f h c p i st e =
      let folder = get_or_from_slice_get ds i p.folder [] st.folder_is in
      let none = none_says (λ d. candidate_at s x (path p.rank d f)) ds [] (ap (taken_in s x ds f) (sym (level_is p.rank 0 st.level_within)) ∙ none_says (taken_in s x ds f) levels 0 h p.rank st.level_within) i (slice_get_within ds i p.folder st.folder_is) in
      none-some _ (sym none ∙ ap (candidate_at s x) (sym (parts p p.rank (get_or ds i []) f refl (sym folder) e)) ∙ st.says)

-- What is found first is taken.
module _ (s : HostViewMap) (x : Search) (ds : List (List ℕ)) (f : List ℕ) (c : Candidate) (h : taken s x ds f ≡ Some c) where
  first_level_said : IsFirst (taken_in s x ds f) levels 0 c
  first_level_said = first_is (taken_in s x ds f) levels 0 c h

  first_folder : IsFirst (λ d. candidate_at s x (path first_level_said.place d f)) ds [] c
  first_folder = first_is (λ d. candidate_at s x (path first_level_said.place d f)) ds [] c (ap (taken_in s x ds f) (sym (level_is first_level_said.place 0 first_level_said.within)) ∙ first_level_said.says)

  lesser_level : (r i : ℕ) → r < first_level_said.place → i < length ds → candidate_at s x (path r (get_or ds i []) f) ≡ None
  lesser_level r i l w = none_says (λ d. candidate_at s x (path r d f)) ds [] (ap (taken_in s x ds f) (sym (level_is r 0 (omega (arith, first_level_said.within, l)))) ∙ first_level_said.before r l) i w

  module _ (d : Candidate) (q : PathParts) (i : ℕ) (st : Stands s x ds d q i) (n : q.name ≡ f) where
    clash : {C : Type 0} (r : ℕ) → q.rank ≡ r → candidate_at s x (path r (get_or ds i []) f) ≡ None → C
    clash r a none = absurd (none-some _ (sym none ∙ ap (candidate_at s x) (sym (parts q r (get_or ds i []) f a (sym (get_or_from_slice_get ds i q.folder [] st.folder_is)) n)) ∙ st.says))

    same_level : q.rank ≡ first_level_said.place → (i < first_folder.place) ⊎ (first_folder.place ≤ i)
        → (first_level_said.place < q.rank) ⊎ ((first_level_said.place ≡ q.rank) × (first_folder.place ≤ i))
    same_level a (inl l) = clash first_level_said.place a (first_folder.before i l)
    same_level a (inr l) = inr (sym a, l)

    levelled : (q.rank < first_level_said.place) ⊎ (first_level_said.place ≤ q.rank)
        → (first_level_said.place < q.rank) ⊎ (q.rank ≤ first_level_said.place)
        → (first_level_said.place < q.rank) ⊎ ((first_level_said.place ≡ q.rank) × (first_folder.place ≤ i))
    levelled (inl l) g = clash q.rank refl (lesser_level q.rank i l (slice_get_within ds i q.folder st.folder_is))
    levelled (inr l) (inl g) = inl g
    levelled (inr l) (inr g) = same_level (omega (arith, l, g)) (cases_lt i first_folder.place)

  pub found_is_taken : TakenFor s x ds f c
  found_is_taken = record {
    path = path first_level_said.place (get_or ds first_folder.place []) f;
    name_is = refl;
    taken = record {
      place = first_folder.place;
      stands = record { level_within = first_level_said.within; folder_is = slice_get-get_or ds first_folder.place [] first_folder.within; says = first_folder.says };
      least = λ d q i st n. levelled d q i st n (cases_lt q.rank first_level_said.place) (cases_lt first_level_said.place q.rank);
    };
  }

module _ (s : HostViewMap) (x : Search) (ds : List (List ℕ)) where
  -- At most one candidate is taken for a file name.
  pub taken_once : (c d : Candidate) (p q : PathParts) → IsTaken s x ds c p → IsTaken s x ds d q → p.name ≡ q.name → (p ≡ q) × (c ≡ d)
  taken_once c d p q a b n = by (a.least d q b.place b.stands (sym n)) (b.least c p a.place a.stands n)
    where
      same : p.rank ≡ q.rank → a.place ≡ b.place → (p ≡ q) × (c ≡ d)
      same r i =
          let folder = same_Some _ _ (sym a.stands.folder_is ∙ ap (slice_get ds) i ∙ b.stands.folder_is) in
          let e = parts p q.rank q.folder q.name r folder n in
          (e, same_Some _ _ (sym a.stands.says ∙ ap (candidate_at s x) e ∙ b.stands.says))

      by : (p.rank < q.rank) ⊎ ((p.rank ≡ q.rank) × (a.place ≤ b.place))
          → (q.rank < p.rank) ⊎ ((q.rank ≡ p.rank) × (b.place ≤ a.place)) → (p ≡ q) × (c ≡ d)
      by (inl l) (inl g) = absurd (omega (arith, l, g))
      by (inl l) (inr g) = absurd (omega (arith, l, g.0))
      by (inr l) (inl g) = absurd (omega (arith, l.0, g))
      by (inr l) (inr g) = same l.0 (omega (arith, l.1, g.1))

  -- What is taken is found first.
  pub taken_is_found : (c : Candidate) (p : PathParts) → IsTaken s x ds c p → taken s x ds p.name ≡ Some c
  taken_is_found c p a = by (taken s x ds p.name) refl
    where
      by : (o : Option Candidate) → taken s x ds p.name ≡ o → o ≡ Some c
      by None h = absurd (none_stands s x ds p.name h c p a.place a.stands refl)
      by (Some d) h = let b = found_is_taken s x ds p.name d h in ap Some (taken_once d c b.path p b.taken a b.name_is).1

  -- A path is found for its file name exactly if it is taken.
  pub found_iff_taken : (p : PathParts) → (taken s x ds p.name ≡ Some (At p)) ↔ IsTaken s x ds (At p) p
  found_iff_taken p = (λ h. by (found_is_taken s x ds p.name (At p) h), taken_is_found (At p) p)
    where
      by : TakenFor s x ds p.name (At p) → IsTaken s x ds (At p) p
      by b = subst (IsTaken s x ds (At p)) (stands_there s x p b.path b.taken.stands.says) b.taken

  -- A path that is found for a file name has this file name.
  pub found_name : (f : List ℕ) (p : PathParts) → taken s x ds f ≡ Some (At p) → p.name ≡ f
  found_name f p h = let b = found_is_taken s x ds f (At p) h in ap (λ (q : PathParts). q.name) (sym (stands_there s x p b.path b.taken.stands.says)) ∙ b.name_is
