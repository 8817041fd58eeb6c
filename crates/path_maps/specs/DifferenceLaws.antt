-- What two stores show, given exactly the places at which what they show differs.
use Rattle.std.proofs.Common.{◌↔◌, ◌≡◌, ◌≢◌, ◌⊎◌}
use Rattle.path_maps.specs.Prelude.{ap, Bool, Content, content_cmp, content_cmp-IsAntisymmetric, content_cmp_total, EntryMap, eq_by_cmp, false, inl, inr, is_eq, is_equal, IsAmong, List, None, Option, option_eq, PlaceParts, refl, Some, sym, tied_itself, true, visible_at, ◌∙◌}

-- Equality of optional contents.
abbrev pub same_contents : Option Content → Option Content → Bool
same_contents = option_eq (eq_by_cmp content_cmp)

pub same_contents-true : (x y : Option Content) → same_contents x y ≡ true → x ≡ y
same_contents-true None None h = refl
same_contents-true None (Some y) h = cc (h)
same_contents-true (Some x) None h = cc (h)
same_contents-true (Some x) (Some y) h = ap Some (content_cmp-IsAntisymmetric x y (is_equal (content_cmp x y) h))

pub same_contents-itself : (x : Option Content) → same_contents x x ≡ true
same_contents-itself None = refl
same_contents-itself (Some x) = ap is_eq (tied_itself content_cmp_total x)

pub same_contents-false : (x y : Option Content) → same_contents x y ≡ false → x ≢ y
same_contents-false x y h e = let wrong = sym h ∙ ap (same_contents x) (sym e) ∙ same_contents-itself x in cc (wrong)

-- If these are exactly the places at which what is visible differs, both stores show the same at every other place.
abbrev pub ChangedOrSame : Type 0
ChangedOrSame = (new old : EntryMap) (places : List PlaceParts)
    → ((p : PlaceParts) → IsAmong p places ↔ (visible_at new p ≢ visible_at old p))
    → (p : PlaceParts) → IsAmong p places ⊎ (visible_at new p ≡ visible_at old p)

pub changed_or_same : ChangedOrSame
changed_or_same new old places just p = by (same_contents (visible_at new p) (visible_at old p)) refl
  where
    by : (b : Bool) → same_contents (visible_at new p) (visible_at old p) ≡ b → IsAmong p places ⊎ (visible_at new p ≡ visible_at old p)
    by true h = inr (same_contents-true _ _ h)
    by false h = inl ((just p).1 (same_contents-false _ _ h))
