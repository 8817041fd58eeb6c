-- Laws of trees: a host has one tree, and what stands in it.
use Rattle.std.proofs.Common.{◌↔◌, ◌≡◌, ◌⊎◌}
use Rattle.host_trees.specs.{Parts.{counts}, Prelude.{ap, Bool, cond, Content, EntryMap, false, Host, inl, inr, IsAmong, List, None, one_ascending, Option, option_or, path_cmp, path_cmp_total, PathParts, refl, ShowsNothing, Some, sym, true, visible_at, within, ℕ, ◌∙◌}, Trees.{counted, fleets_at, IsTree, own_at, standing, stands_at}}

-- A host has one tree.
abbrev pub OneTree : Type 0
OneTree = (s : EntryMap) (host : Option (List ℕ)) (tree other : List (PathParts × Content)) → IsTree s host tree → IsTree s host other → tree ≡ other

-- What is visible at the host's own places and at the fleet's decides the tree; other hosts' places don't matter.
abbrev pub VisibleContentsDecide : Type 0
VisibleContentsDecide = (s t : EntryMap) (host : Option (List ℕ)) → ((p : PathParts) → own_at s host p ≡ own_at t host p)
    → ((p : PathParts) → fleets_at s p ≡ fleets_at t p) → (tree : List (PathParts × Content)) → IsTree s host tree → IsTree t host tree

-- Without a host the tree is what is visible of the fleet.
abbrev pub WithoutAHostTheFleets : Type 0
WithoutAHostTheFleets = (s : EntryMap) (tree : List (PathParts × Content)) → IsTree s None tree
    → (p : PathParts) (c : Content) → IsAmong (p, c) tree ↔ (fleets_at s p ≡ Some c)

-- A host at whose places nothing is visible has the tree that there is without a host.
abbrev pub HostsWithoutPlacesHaveTheFleetsTree : Type 0
HostsWithoutPlacesHaveTheFleetsTree = (s : EntryMap) (host : List ℕ) → ShowsNothing s (Host host)
    → (tree : List (PathParts × Content)) → IsTree s (Some host) tree ↔ IsTree s None tree

-- A path is in the tree just where something is visible at the host's own place or at the fleet's, and it is one of the two.
abbrev pub AllPathsStand : Type 0
AllPathsStand = (s : EntryMap) (host : Option (List ℕ)) (p : PathParts) → (stands_at s host p ≡ None) ↔ ((own_at s host p ≡ None) × (fleets_at s p ≡ None))

abbrev pub OneOfBothStands : Type 0
OneOfBothStands = (s : EntryMap) (host : Option (List ℕ)) (p : PathParts) (c : Content) → stands_at s host p ≡ Some c
    → (own_at s host p ≡ Some c) ⊎ (fleets_at s p ≡ Some c)

-- A host's own content that counts stands, whatever the fleet has there.
abbrev pub OwnContentsStand : Type 0
OwnContentsStand = (s : EntryMap) (host : List ℕ) (p : PathParts) (c : Content) → visible_at s (within (Host host) p) ≡ Some c
    → counts p c ≡ true → stands_at s (Some host) p ≡ Some c

-- An own content that is passed over hides no content of the fleet that counts.
abbrev pub WhatIsPassedOverHidesNothing : Type 0
WhatIsPassedOverHidesNothing = (s : EntryMap) (host : List ℕ) (p : PathParts) (own c : Content)
    → visible_at s (within (Host host) p) ≡ Some own → counts p own ≡ false → fleets_at s p ≡ Some c → counts p c ≡ true
    → stands_at s (Some host) p ≡ Some c

-- If both are passed over, the host's own stands.
abbrev pub OwnContentsGoFirst : Type 0
OwnContentsGoFirst = (s : EntryMap) (host : List ℕ) (p : PathParts) (own c : Content)
    → visible_at s (within (Host host) p) ≡ Some own → fleets_at s p ≡ Some c → counts p c ≡ false
    → stands_at s (Some host) p ≡ Some own

pub one_tree : OneTree
one_tree s host tree other a b =
    one_ascending (λ e. e.0) path_cmp path_cmp_total tree other a.ascending b.ascending
    (λ e. (λ h. (b.exact e.0 e.1).1 ((a.exact e.0 e.1).0 h), λ h. (a.exact e.0 e.1).1 ((b.exact e.0 e.1).0 h)))

-- What stands decides the tree.
same_tree : (s t : EntryMap) (host other : Option (List ℕ)) → ((p : PathParts) → stands_at s host p ≡ stands_at t other p)
    → (tree : List (PathParts × Content)) → IsTree s host tree → IsTree t other tree
same_tree s t host other same tree is = record {
  ascending = is.ascending;
  exact = λ p c. (λ a. sym (same p) ∙ (is.exact p c).0 a, λ e. (is.exact p c).1 (same p ∙ e));
}

pub visible_contents_decide : VisibleContentsDecide
visible_contents_decide s t host own fleets = same_tree s t host host (λ p. (λ i. standing p (own p i) (fleets p i)))

-- ---- without a host, or without places of its own

pub fleets_stand : (p : PathParts) (fleets : Option Content) → standing p None fleets ≡ fleets
fleets_stand p None = refl
fleets_stand p (Some c) = by (counts p c)
  where
    by : (b : Bool) → option_or (cond b (Some c) None) (Some c) ≡ Some c
    by true = refl
    by false = refl

pub without_a_host_the_fleets : WithoutAHostTheFleets
without_a_host_the_fleets s tree is p c =
    let same = fleets_stand p (fleets_at s p) in
    (λ a. sym same ∙ (is.exact p c).0 a, λ e. (is.exact p c).1 (same ∙ e))

pub hosts_without_places_have_the_fleets_tree : HostsWithoutPlacesHaveTheFleetsTree
hosts_without_places_have_the_fleets_tree s host none tree =
    let same : (p : PathParts) → stands_at s (Some host) p ≡ stands_at s None p = λ p. ap (λ o. standing p o (fleets_at s p)) (none p) in
    (same_tree s s (Some host) None same tree, same_tree s s None (Some host) (λ p. sym (same p)) tree)

-- ---- what stands

-- What stands where both show something, by whether each counts.
abbrev of_both : Bool → Bool → Content → Content → Option Content
of_both a b own c = option_or (option_or (cond a (Some own) None) (cond b (Some c) None)) (Some own)

alone : (b : Bool) (own : Content) → option_or (option_or (cond b (Some own) None) None) (Some own) ≡ Some own
alone true own = refl
alone false own = refl

pub own_stands : (p : PathParts) (own : Content) → standing p (Some own) None ≡ Some own
own_stands p own = alone (counts p own) own

pub all_paths_stand : AllPathsStand
all_paths_stand s host p = (there (own_at s host p) (fleets_at s p), λ none. (λ i. standing p (none.0 i) (none.1 i)))
  where
    never : (a b : Bool) (own c : Content) → of_both a b own c ≡ None → ⊥
    never true b own c e = cc (e)
    never false true own c e = cc (e)
    never false false own c e = cc (e)

    there : (own fleets : Option Content) → standing p own fleets ≡ None → (own ≡ None) × (fleets ≡ None)
    there None fleets e = (refl, sym (fleets_stand p fleets) ∙ e)
    there (Some own) None e = let wrong = sym (own_stands p own) ∙ e in cc (wrong)
    there (Some own) (Some c) e = absurd (never (counts p own) (counts p c) own c e)

pub one_of_both_stands : OneOfBothStands
one_of_both_stands s host p c e = by (own_at s host p) (fleets_at s p) e
  where
    either : (a b : Bool) (own x : Content) → of_both a b own x ≡ Some c → (Some own ≡ Some c) ⊎ (Some x ≡ Some c)
    either true b own x e = inl e
    either false true own x e = inr e
    either false false own x e = inl e

    by : (own fleets : Option Content) → standing p own fleets ≡ Some c → (own ≡ Some c) ⊎ (fleets ≡ Some c)
    by None fleets e = inr (sym (fleets_stand p fleets) ∙ e)
    by (Some own) None e = inl (sym (own_stands p own) ∙ e)
    by (Some own) (Some x) e = either (counts p own) (counts p x) own x e

pub own_contents_stand : OwnContentsStand
own_contents_stand s host p c is it_counts =
    ap (λ o. standing p o (fleets_at s p)) is
    ∙ ap (λ b. option_or (option_or (cond b (Some c) None) (counted p (fleets_at s p))) (option_or (Some c) (fleets_at s p))) it_counts

pub what_is_passed_over_hides_nothing : WhatIsPassedOverHidesNothing
what_is_passed_over_hides_nothing s host p own c is passed fleet it_counts =
    (λ i. standing p (is i) (fleet i)) ∙ (λ i. of_both (passed i) (it_counts i) own c)

pub own_contents_go_first : OwnContentsGoFirst
own_contents_go_first s host p own c is fleet passed =
    (λ i. standing p (is i) (fleet i)) ∙ ap (λ b. of_both (counts p own) b own c) passed ∙ alone (counts p own) own
