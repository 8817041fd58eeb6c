-- Asks that are told in part, answered.
use Rattle.std.proofs.Common.{◌++◌, ◌||◌, ◌∷◌, ◌≡◌}
use Rattle.exchange_session.proofs.Prelude.{[], ap, at_places, cut_for, AreWithin, Bool, cond, cut, EntryMap, eq_by_cmp, false, is_within, list_any, List, map, Node, Option, place_cmp, PlaceParts, Range, refl, same_cut, Some, slice_get, sym, tied, true, Version, VersionMap, within, ◌∙◌, versions_of}
use Rattle.world_law.specs.Worlds as world
use Rattle.exchange_session.specs.{Answered.{piece_for, places_within}, Events.{CutsForParts}}

-- the places of those in a range are in it
inside : (r : Range) (vs : List (PlaceParts × Version)) → AreWithin r (places_within r vs)
inside r [] p asked = cc (asked)
inside r (v ∷ vs) p asked = elim (is_within r v.0) as (λ b. is_within r v.0 ≡ b → list_any (λ (q : PlaceParts). eq_by_cmp place_cmp p q) (map (λ (w : PlaceParts × Version). w.0) (cond b (v ∷ within r vs) (within r vs))) ≡ true → is_within r p ≡ true) [
  | true ↦ λ e h. elim (eq_by_cmp place_cmp p v.0) as (λ b. eq_by_cmp place_cmp p v.0 ≡ b → is_within r p ≡ true) [
    | true ↦ λ same. ap (is_within r) (tied p v.0 same) ∙ e
    | false ↦ λ other. inside r vs p (sym (ap (λ (b : Bool). b || list_any (λ (q : PlaceParts). eq_by_cmp place_cmp p q) (places_within r vs)) other) ∙ h)
  ] refl
  | false ↦ λ e h. inside r vs p h
] refl asked

pub cuts : CutsForParts
unfolding piece_for
cuts w k a node s asked it here (there, (whole, part)) =
    let places = places_within it.range (versions_of node.store) in
    let same : cut node.store asked.versions (Some places) ≡ piece_for node.store it =
    ap (λ (m : VersionMap). cut node.store m (Some places)) whole
    ∙ sym (same_cut it.range s node.store places (inside it.range (versions_of node.store)))
    ∙ ap (λ (m : VersionMap). cut node.store m (Some places)) (sym part) in
    ap (λ (n : Option Node). (cut_for w (Some places) n (slice_get w.asks a)).pieces) here ∙ ap (λ (b : Option world.Asked). (cut_for w (Some places) (Some node) b).pieces) there ∙ ap (λ (e : EntryMap). w.pieces ++ record { entries = e; asker = asked.node; had = at_places (Some places) node.took } ∷ []) same
