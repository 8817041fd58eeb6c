-- Tables, made kind by kind.
use Rattle.std.proofs.Common.{◌<◌, ◌≡◌}
use denote.Enum.Declared.{tag_of}
use Rattle.inverse_deps.proofs.Prelude.{[], adjacency_at, After, ap, AreMade, arith, Before, BindsTo, BoundBy, ConflictedBy, Conflicts, ConsistsOf, DepKind, get_or, InSlice, kinds, length, List, OnFailure, OnFailureOf, PartOf, place, PropagatesReloadTo, refl, ReloadPropagatedFrom, RequiredBy, Requires, Requisite, RequisiteOf, same_at, SliceOf, stands_at, subst, TriggeredBy, Triggers, UpheldBy, Upholds, WantedBy, Wants, ℕ, ◌∙◌}
use Rattle.setting_rules.specs.contracts.kinds.DepKind as kinds_of

-- a kind as a number is its position
tag_is : (dep : DepKind) → tag_of kinds_of.the_type dep ≡ place dep
tag_is Before = refl
tag_is After = refl
tag_is Wants = refl
tag_is WantedBy = refl
tag_is Requires = refl
tag_is RequiredBy = refl
tag_is Requisite = refl
tag_is RequisiteOf = refl
tag_is BindsTo = refl
tag_is BoundBy = refl
tag_is PartOf = refl
tag_is ConsistsOf = refl
tag_is Conflicts = refl
tag_is ConflictedBy = refl
tag_is OnFailure = refl
tag_is OnFailureOf = refl
tag_is PropagatesReloadTo = refl
tag_is ReloadPropagatedFrom = refl
tag_is Upholds = refl
tag_is UpheldBy = refl
tag_is Triggers = refl
tag_is TriggeredBy = refl
tag_is InSlice = refl
tag_is SliceOf = refl

-- what was made for each kind in order is there by kind
pub by_kinds : (P : DepKind → List (List ℕ) → Type 0) (tables : List (List (List ℕ))) → ((k : ℕ) (d : List (List ℕ)) → k < length kinds → P (get_or kinds k Before) (get_or tables k d))
    → (dep : DepKind) → P dep (adjacency_at tables dep)
by_kinds P tables each dep =
    let at = stands_at dep in
    let Q : DepKind → Type 0 = λ d. P d (adjacency_at tables dep) in
    subst Q at.there (each (place dep) [] at.below)

-- what was made for each of some kinds in order is there for all of them by kind, if they are all kinds
pub made_by_kinds : (P : DepKind → List (List ℕ) → Type 0) (items : List DepKind) (tables : List (List (List ℕ))) (i : ℕ) → items ≡ kinds → i ≡ length items
    → AreMade (λ k adjacency. P (get_or items k Before) adjacency) i tables → (length tables ≡ length kinds) × ((dep : DepKind) → P dep (adjacency_at tables dep))
made_by_kinds P items tables i are end made =
    let same : length items ≡ length kinds = ap length are in
    let Q : List DepKind → Type 0 = λ ks. (k : ℕ) (d : List (List ℕ)) → k < length kinds → P (get_or ks k Before) (get_or tables k d) in
    (made.count ∙ end ∙ same, by_kinds P tables (subst Q are (λ k d l. made.each k d (omega (arith, l, same, end)))))

-- the adjacency lists of a kind, as they are stored
module _ (kept : List (List (List ℕ))) (all : length kept ≡ length kinds) (dep : DepKind) where
  pub kind_within : tag_of kinds_of.the_type dep < length kept
  kind_within = let below = (stands_at dep).below in let tag = tag_is dep in omega (arith, below, tag, all)

  pub kind_adjacency : (adjacency : List (List ℕ)) → adjacency ≡ get_or kept (tag_of kinds_of.the_type dep) adjacency → adjacency ≡ adjacency_at kept dep
  kind_adjacency adjacency e = e ∙ same_at kept (tag_of kinds_of.the_type dep) adjacency [] kind_within ∙ ap (λ i. get_or kept i []) (tag_is dep)
