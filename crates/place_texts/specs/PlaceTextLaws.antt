-- The text of a place has one answer.
use Rattle.std.proofs.Common.{◌≡◌}
use Rattle.place_texts.specs.Prelude.{ap, Content, EntryMap, Err, false, is_spent, List, MatchOption, MatchResult, None, NotVisible, Ok, Option, Outcome, place_of, PlaceFault, PlaceParts, Result, Some, sym, visible_at, ℕ, ◌∙◌}
use Rattle.place_texts.specs.PlaceTexts.{RefusesPlace, RendersText, RendersVisible, shown_text}
use Rattle.load_places.specs.declared.places.PlaceFault.TheVariants as place

-- what is visible at a place has one answer, or one refusal
abbrev pub TextsAreRenderedOnce : Type 0
TextsAreRenderedOnce = (text : List ℕ) (s : EntryMap) (a b : Outcome) → RendersText text s a → RendersText text s b → a ≡ b

place_refused_once : (a b : Outcome) (fault : PlaceFault) → RefusesPlace fault a → RefusesPlace fault b → a ≡ b
place_refused_once a b place.HostName p q = p ∙ sym q
place_refused_once a b place.Directory p q = p ∙ sym q
place_refused_once a b place.Depth p q = p ∙ sym q
place_refused_once a b place.Component p q = p ∙ sym q
place_refused_once a b place.Memory p q = absurd p

place_unspent : (outcome : Outcome) (fault : PlaceFault) → RefusesPlace fault outcome → is_spent outcome ≡ false
place_unspent outcome place.HostName p = ap is_spent p
place_unspent outcome place.Directory p = ap is_spent p
place_unspent outcome place.Depth p = ap is_spent p
place_unspent outcome place.Component p = ap is_spent p
place_unspent outcome place.Memory p = absurd p

module _ (at : PlaceParts) where
  -- what is said of a content that may be visible there
  abbrev Says : Outcome → Option Content → Type 0
  Says outcome shown = MatchOption shown (outcome ≡ Err NotVisible) (λ content. outcome ≡ Ok (shown_text at content))

  said_once : (a b : Outcome) (shown : Option Content) → Says a shown → Says b shown → a ≡ b
  said_once a b None p q = p ∙ sym q
  said_once a b (Some content) p q = p ∙ sym q

  said_unspent : (outcome : Outcome) (shown : Option Content) → Says outcome shown → is_spent outcome ≡ false
  said_unspent outcome None p = ap is_spent p
  said_unspent outcome (Some content) p = ap is_spent p

module _ (s : EntryMap) where
  read_once : (a b : Outcome) (r : Result PlaceParts PlaceFault)
      → MatchResult r (λ at. RendersVisible s at a) (λ fault. RefusesPlace fault a)
      → MatchResult r (λ at. RendersVisible s at b) (λ fault. RefusesPlace fault b) → a ≡ b
  read_once a b (Ok at) p q = said_once at a b (visible_at s at) p q
  read_once a b (Err fault) p q = place_refused_once a b fault p q

  read_unspent : (outcome : Outcome) (r : Result PlaceParts PlaceFault)
      → MatchResult r (λ at. RendersVisible s at outcome) (λ fault. RefusesPlace fault outcome) → is_spent outcome ≡ false
  read_unspent outcome (Ok at) p = said_unspent at outcome (visible_at s at) p
  read_unspent outcome (Err fault) p = place_unspent outcome fault p

pub texts_are_rendered_once : TextsAreRenderedOnce
texts_are_rendered_once text s a b p q = read_once s a b (place_of text) p q

-- and it is never that counters are spent
pub texts_spend_nothing : (text : List ℕ) (s : EntryMap) (outcome : Outcome) → RendersText text s outcome → is_spent outcome ≡ false
texts_spend_nothing text s outcome p = read_unspent s outcome (place_of text) p
