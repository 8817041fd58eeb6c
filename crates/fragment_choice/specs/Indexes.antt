-- The links of a store by the names that they point to: what an index is made from, and definitions for private clauses.
-- Source: this project's own.
use Rattle.std.proofs.Common.{if◌then◌else◌, ◌<◌, ◌∷◌, ◌≡◌, ◌≤◌, ◌⊎◌}
use Rattle.fragment_choice.specs.Prelude.{[], All, Bool, BTreeMap, Entry, false, filter_map, get, HostViewMap, instance, is_name, IsAmong, IsLevel, IsName, IsTrue, keys_of, List, Name, name_cmp, None, Option, option_and_then, option_map, PathParts, shown, Some, template_of, true, unwrap_or, Vec, viewed_at, with_instance, ℕ}
use Rattle.fragment_choice.specs.{Choices.{own_choice, own_path}, declared.choices.Choice.{Choice, TheVariants.{Alias, Bad, Fragment, Masked, NotFound}}, LinkedNames.{is_link}, LinkTargets.{HasOwnLinkTargets, NamedWords, own_alias, Target}, Resolutions.{Chain, Leads}}

-- The names of an optional list; none if it is absent.
abbrev pub names_in : Option (Vec Name) → List Name
names_in None = []
names_in (Some names) = names.items

-- The names that a map has for `t`.
abbrev pub owners_at : BTreeMap Name (Vec Name) → Name → List Name
owners_at m t = names_in (get name_cmp m t)

-- Exactly the names whose own links make them aliases of `t`.
pub record AreOwners (s : HostViewMap) (t : Name) (owners : List Name) : Type 0 where
  pub there : (o : Name) → IsName o → own_choice s o o ≡ Some (Alias t) → IsAmong o owners
  pub sound : (o : Name) → IsAmong o owners → own_choice s o o ≡ Some (Alias t)
  pub well_formed : (o : Name) → IsAmong o owners → IsName o

-- What the first map has for a name, the name's own links make it an alias of. The second has for each name exactly
-- those whose own links make them aliases of it.
pub record IsIndexOf (s : HostViewMap) (aliases : BTreeMap Name Name) (owners : BTreeMap Name (Vec Name)) : Type 0 where
  pub known : (o t : Name) → get name_cmp aliases o ≡ Some t → own_choice s o o ≡ Some (Alias t)
  pub each : (t : Name) → AreOwners s t (owners_at owners t)

-- A visible link of the name's own is at this level.
abbrev pub IsOwnAt : HostViewMap → ℕ → Name → Type 0
IsOwnAt s level n = IsTrue (is_link (viewed_at s (own_path n level)))

-- The same at some level.
abbrev pub IsOwnLink : HostViewMap → Name → Type 0
IsOwnLink s n = (level : ℕ) × IsLevel level × IsOwnAt s level n

-- All names with a visible link of their own are among these, and each has its link targets.
pub record HaveLinks (s : HostViewMap) (all : NamedWords) : Type 0 where
  pub linked : (n : Name) → IsOwnLink s n → IsAmong n (keys_of all)
  pub words : All (HasOwnLinkTargets s) all

-- A unit name and what its link targets make it an alias of, if it is one and they do.
abbrev pub alias_in : Name × List Target → Option (Name × Name)
alias_in p = if is_name p.0 then option_map (λ t. (p.0, t)) (own_alias p.0 p.1) else None

abbrev pub aliases_in : NamedWords → List (Name × Name)
aliases_in all = filter_map alias_in all

-- The first map has no other aliases than these; the second has exactly these, by what they are aliases of.
pub record AreMapsOf (pairs : List (Name × Name)) (aliases : BTreeMap Name Name) (owners : BTreeMap Name (Vec Name)) : Type 0 where
  pub known : (o t : Name) → get name_cmp aliases o ≡ Some t → IsAmong {X = Name × Name} (o, t) pairs
  pub there : (o t : Name) → IsAmong {X = Name × Name} (o, t) pairs → IsAmong o (owners_at owners t)
  pub sound : (o t : Name) → IsAmong o (owners_at owners t) → IsAmong {X = Name × Name} (o, t) pairs

-- What the own paths of the template of `n` say of `n`.
abbrev pub template_choice : HostViewMap → Name → Choice
template_choice s n = unwrap_or (option_and_then (own_choice s n) (template_of n)) NotFound

-- The name is related to one of these.
abbrev pub IsAny : {A : Type 0} → (A → Name → Type 0) → List A → Name → Type 0
IsAny R [] n = ⊥
IsAny R (x ∷ xs) n = R x n ⊎ IsAny R xs n

-- `n` is an alias of one of these.
abbrev pub LeadsToAny : HostViewMap → List Name → Name → Type 0
LeadsToAny s ms n = IsAny (λ m k. Leads s k m) ms n

-- `n` is the template `t` with the instance of `m`, and an alias of `m`.
pub record IsLeadingInstance (s : HostViewMap) (m t n : Name) : Type 0 where
  pub made : with_instance t (instance m) ≡ Some n
  pub leads : Leads s n m

-- The same for one of these templates.
abbrev pub IsLeadingInstanceOfAny : HostViewMap → Name → List Name → Name → Type 0
IsLeadingInstanceOfAny s m ts n = IsAny (IsLeadingInstance s m) ts n

abbrev pub is_alias : Choice → Bool
is_alias NotFound = false
is_alias Masked = false
is_alias (Fragment p) = false
is_alias (Alias m) = true
is_alias (Bad cause) = false

-- The entry is a link at a path that ends in the name.
pub record IsOwnEntry (p : PathParts × Entry) (n : Name) : Type 0 where
  pub at : p.0.name ≡ n
  pub link : IsTrue (is_link (shown p.1))

-- Names were added, and all names that pass are there.
pub record Collects (Passes : Name → Type 0) (old new : List Name) : Type 0 where
  pub kept : (n : Name) → IsAmong n old → IsAmong n new
  pub found : (n : Name) → Passes n → IsAmong n new

-- Exactly the unit names that pass were added.
pub record Gathers (Passes : Name → Type 0) (old new : List Name) : Type 0 where
  pub kept : (n : Name) → IsAmong n old → IsAmong n new
  pub sound : (n : Name) → IsAmong n new → IsAmong n old ⊎ (IsName n × Passes n)
  pub found : (n : Name) → IsName n → Passes n → IsAmong n new

-- Exactly the unit names from which 1 to `d` aliases lead to `u`.
pub record AreAliasesWithin (s : HostViewMap) (u : Name) (d : ℕ) (names : List Name) : Type 0 where
  pub well_formed : (n : Name) → IsAmong n names → IsName n
  pub sound : (n : Name) → IsAmong n names → (k : ℕ) × (0 < k) × (k ≤ d) × Chain s k n u
  pub found : (n : Name) (k : ℕ) → 0 < k → k ≤ d → IsName n → Chain s k n u → IsAmong n names

-- Exactly these names were added.
pub record Adds (added old new : List Name) : Type 0 where
  pub kept : (n : Name) → IsAmong n old → IsAmong n new
  pub there : (n : Name) → IsAmong n added → IsAmong n new
  pub sound : (n : Name) → IsAmong n new → IsAmong n old ⊎ IsAmong n added

-- All names stay, `o` is there under `t`, and nothing else was added.
pub record Puts (o t : Name) (old new : BTreeMap Name (Vec Name)) : Type 0 where
  pub kept : (n k : Name) → IsAmong n (owners_at old k) → IsAmong n (owners_at new k)
  pub there : IsAmong o (owners_at new t)
  pub sound : (n k : Name) → IsAmong n (owners_at new k) → IsAmong n (owners_at old k) ⊎ ((o ≡ n) × (t ≡ k))
