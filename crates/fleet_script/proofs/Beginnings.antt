-- Shells at the begin of a script, and the worlds that they represent.
use Rattle.std.proofs.Common.{◌==◌, ◌||◌, ◌∷◌, ◌≡◌}
use Rattle.std.specs.List.{list_any}
use Rattle.std.specs.BTreeMap.{get, is_at, IsEmpty}
use Rattle.std.specs.Map.{lookup}
use Rattle.std.proofs.Common.{BTreeMap}
use Rattle.fleet_script.proofs.Prelude.{[], ap, begun, blank, Bool, bytes_eq, cond, EntryMap, FirstIsHeld, held, held_begun, held_past, Holds, IsBlank, IsHeldNext, IsNamed, Keeps, length, List, nat_cmp, node_named-push, None, Option, refl, Replicated, Edit, edits_of, false, slice_cmp, slice_get, Some, subst, sum_of, sym, true, true, used_begun, valid_begun, valid_blank, writer_at, zero, suc, ℕ, ◌∙◌}

nowhere : {X : Type 0} (k : ℕ) (x : X) → slice_get [] k ≡ Some x → ⊥
nowhere k x e = cc (e)

-- an empty shell
pub holds_blank : (keeps : Keeps) → IsBlank keeps → Holds keeps blank
holds_blank keeps none = record {
  count = ap (λ (ns : List Replicated). length ns) none.nodes;
  writers = λ k node e. absurd (nowhere k node (subst (λ (ns : List Replicated). slice_get ns k ≡ Some node) none.nodes e));
  stores = λ k node e. absurd (nowhere k node (subst (λ (ns : List Replicated). slice_get ns k ≡ Some node) none.nodes e));
  numbers = none.numbers;
  taken = none.writers;
  pieces = λ name. subst (λ (o : Option EntryMap). IsNamed blank o None) (sym (none.pieces name)) tt;
  profile = none.profile;
  valid = valid_blank;
}

-- the only one
only : {X : Type 0} (x y : X) (k : ℕ) → slice_get (x ∷ []) k ≡ Some y → (P : ℕ → X → Type 0) → P 0 x → P k y
only x y zero is P p = let same : x ≡ y = cc in subst (λ z. P 0 z) same p
only x y (suc k) is P p = absurd (nowhere k y is)

-- a shell with one node
pub holds_begun : (keeps : Keeps) (name : List ℕ) (node : Replicated) → keeps.nodes ≡ node ∷ []
    → ((other : List ℕ) → keeps.number_of other ≡ cond (bytes_eq name other) (Some 0) None)
    → ((number : ℕ) → keeps.is_taken number ≡ cond (node.writer == number) true (list_any (λ e. e.version.writer == number) (edits_of node.store)))
    → ((other : List ℕ) → keeps.piece_of other ≡ None) → keeps.profile ≡ blank.profile → Holds keeps (begun name node.writer node.store)
holds_begun keeps name node nodes numbers writers pieces profile = record {
  count = ap (λ (ns : List Replicated). length ns) nodes;
  writers = λ k other is. only node other k (subst (λ (ns : List Replicated). slice_get ns k ≡ Some other) nodes is) (λ j r. writer_at (begun name node.writer node.store).nodes j ≡ r.writer) refl;
  stores = λ k other is. only node other k (subst (λ (ns : List Replicated). slice_get ns k ≡ Some other) nodes is) (λ j r. r.store ≡ held (begun name node.writer node.store) j) (sym (held_begun name node.writer node.store));
  numbers = λ other. numbers other ∙ sym (node_named-push [] (record { name = name; writer = node.writer }) other refl);
  taken = λ number. writers number ∙ sym (used_begun name node.writer node.store number);
  pieces = λ other. subst (λ (o : Option EntryMap). IsNamed (begun name node.writer node.store) o None) (sym (pieces other)) tt;
  profile = profile;
  valid = valid_begun name node.writer node.store;
}

-- What is held of the first node.

pub first_held : (keeps : Keeps) (node : Replicated) (s : EntryMap) (before after : EntryMap → Type 0) → slice_get keeps.nodes 0 ≡ Some node → s ≡ node.store → IsHeldNext s before after → FirstIsHeld keeps before after
first_held keeps node s before after at same next world h = subst (λ (t : EntryMap). IsHeldNext t before after) (same ∙ h.stores 0 node at) next

pub none_held : (keeps : Keeps) (s : EntryMap) (before after : EntryMap → Type 0) → keeps.nodes ≡ [] → s ≡ sum_of [] → IsHeldNext s before after → FirstIsHeld keeps before after
none_held keeps s before after none empty next world h =
    subst (λ (t : EntryMap). IsHeldNext t before after) (empty ∙ sym (held_past world) ∙ ap (held world) (sym h.count ∙ ap (λ (ns : List Replicated). length ns) none)) next

pub none_there : (nodes : List Replicated) → None ≡ slice_get nodes 0 → nodes ≡ []
none_there [] e = refl
none_there (n ∷ ns) e = absurd (nothing e)
  where
    nothing : None ≡ Some n → ⊥
    nothing e = cc (e)

-- Writer numbers, entry by entry.

-- a number is one of some edits
abbrev pub is_written : ℕ → List Edit → Bool
is_written n es = list_any (λ e. e.version.writer == n) es

pub with_first : (b a x : Bool) → (cond a true b || x) ≡ (b || (a || x))
with_first true true x = refl
with_first true false x = refl
with_first false a x = by a
  where
    by : (a : Bool) → (cond a true false || x) ≡ (false || (a || x))
    by true = refl
    by false = refl

pub with_none : (b : Bool) → (b || false) ≡ b
with_none true = refl
with_none false = refl

pub own_first : (a x : Bool) → (cond a true false || x) ≡ cond a true x
own_first true x = refl
own_first false x = refl

-- a map without entries has no key
pub no_key : {V : Type 0} (m : BTreeMap (List ℕ) V) (key : List ℕ) → IsEmpty m → get (slice_cmp nat_cmp) m key ≡ None
no_key {V} m key empty = ap (λ (es : List (List ℕ × V)). lookup (is_at (slice_cmp nat_cmp key)) es) empty
