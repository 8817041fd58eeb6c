-- Frames stay small.
use Rattle.std.proofs.Common.{◌≡◌, ◌≤◌, ◌+◌, ◌⊎◌, ◌++◌, ◌∷◌, Bool, true, false, cond, All, [], List, Option, None, Some, inl, inr, refl, sym, ap, subst, ◌∙◌, unwrap_or, arith}
use Rattle.std.specs.FinMap as finmap
use Rattle.std.specs.FinMap.Entries.{by_order, put}
use Rattle.std.specs.Ordering.{eq_by_cmp}
use Rattle.std.proofs.lemmas.List.{nil_from_length}
use Rattle.std.specs.declared.cmp.Ordering.{Ordering}
use Rattle.std.specs.declared.cmp.Ordering.TheVariants.{Equal, Greater, Less}
use Rattle.list_laws.specs.Orderings.{is_equal}
use Rattle.join_law.specs.EntryLaws.{larger_cases}
use Rattle.load_places.specs.Places.{place_cmp, PlaceParts}
use Rattle.load_places.specs.PlaceLaws.{place_cmp-IsAntisymmetric, place_cmp_total}
use Rattle.edit_sums.specs.Contents.{content_cmp}
use Rattle.edit_sums.specs.Entries.{Entry, larger}
use Rattle.edit_sums.specs.Sums.{EntryMap, entry_of, with_edit}
use Rattle.edit_sums.specs.SumLaws.{same_store}
use Rattle.edit_sums.specs.declared.entries.Edit.{Edit}
use Rattle.exchange_session.specs.declared.messages.{RangeAsk.{RangeAsk}, RangePrint.{RangePrint}}
use Rattle.exchange_bytes.specs.Cutting.{ask_weight, content_weight, entry_weight, frame_weight, HasRoom, IsSmall, open_weight, piece_weight, print_weight, total}
use Rattle.exchange_bytes.specs.declared.{cutting.Packing.{Packing}, frames.Frame.{Frame}}
use Rattle.exchange_bytes.proofs.Packing.{IsFrameOf, total_push}

-- ---- an entry at a place

put_weight : (es : List (PlaceParts × Entry)) (p : PlaceParts) (x : Entry) → total entry_weight (put place_cmp p x es) ≤ total entry_weight es + content_weight x.content
put_weight [] p x = omega arith
put_weight (e ∷ es) p x = by (place_cmp p e.0) (put_weight es p x)
  where
    by : (o : Ordering) → total entry_weight (put place_cmp p x es) ≤ total entry_weight es + content_weight x.content
        → total entry_weight (by_order o ((p, x) ∷ e ∷ es) ((e.0, x) ∷ es) (e ∷ put place_cmp p x es)) ≤ total entry_weight (e ∷ es) + content_weight x.content
    by Less rest = omega arith
    by Equal rest = omega arith
    by Greater rest = omega (arith, rest)

inserted_weight : (s : EntryMap) (p : PlaceParts) (x : Entry) → piece_weight (finmap.insert s p x) ≤ piece_weight s + content_weight x.content
inserted_weight s p x = subst (λ (es : List (PlaceParts × Entry)). total entry_weight es ≤ piece_weight s + content_weight x.content) (sym (finmap.entries-insert place_cmp_total s p x)) (put_weight (finmap.entries s) p x)

-- what is held is inserted again
inserted_again : (s : EntryMap) (p : PlaceParts) (y : Entry) → finmap.get s p ≡ Some y → finmap.insert s p y ≡ s
inserted_again s p y held = same_store (finmap.insert s p y) s (λ q. finmap.get-insert place_cmp_total s p y q ∙ by q (eq_by_cmp place_cmp q p) refl)
  where
    by : (q : PlaceParts) (b : Bool) → eq_by_cmp place_cmp q p ≡ b → cond b (Some y) (finmap.get s q) ≡ finmap.get s q
    by q true e = sym held ∙ ap (λ (r : PlaceParts). finmap.get s r) (sym (place_cmp-IsAntisymmetric q p (is_equal _ e)))
    by q false e = refl

pub edit_weight : (s : EntryMap) (e : Edit) → piece_weight (with_edit s e) ≤ piece_weight s + content_weight e.content
edit_weight s e = by (larger (Some x) (finmap.get s e.place)) (larger_cases content_cmp (Some x) (finmap.get s e.place))
  where
    x : Entry
    x = entry_of e

    held : (g : Option Entry) → finmap.get s e.place ≡ g → piece_weight (finmap.insert s e.place (unwrap_or g x)) ≤ piece_weight s + content_weight e.content
    held None h = inserted_weight s e.place x
    held (Some y) h = let same : piece_weight (finmap.insert s e.place y) ≡ piece_weight s = ap piece_weight (inserted_again s e.place y h) in omega (arith, same)

    by : (l : Option Entry) → (l ≡ Some x) ⊎ (l ≡ finmap.get s e.place) → piece_weight (finmap.insert s e.place (unwrap_or l x)) ≤ piece_weight s + content_weight e.content
    by l (inl own) = subst (λ (k : Option Entry). piece_weight (finmap.insert s e.place (unwrap_or k x)) ≤ piece_weight s + content_weight e.content) (sym own) (inserted_weight s e.place x)
    by l (inr old) = subst (λ (k : Option Entry). piece_weight (finmap.insert s e.place (unwrap_or k x)) ≤ piece_weight s + content_weight e.content) (sym old) (held (finmap.get s e.place) refl)

-- ---- the open frame

pub small_frame : (p : Packing) (f : Frame) → IsFrameOf p f → HasRoom p 0 → IsSmall f
small_frame p f is room =
    let same : frame_weight f ≡ open_weight p = (λ i. total print_weight (is.prints i) + (total ask_weight (is.asks i) + piece_weight (is.piece i))) in
    let held = room.held in
    let within = room.within in
    omega (arith, same, held, within)

pub print_fits : (p now : Packing) (it : RangePrint) → HasRoom p (print_weight it) → now.frames.items ≡ p.frames.items → now.prints.items ≡ p.prints.items ++ it ∷ [] → now.asks.items ≡ p.asks.items → now.store ≡ p.store → now.weight ≡ p.weight → HasRoom now 0
print_fits p now it room frames prints asks store weight =
    let same : open_weight now ≡ total print_weight (p.prints.items ++ it ∷ []) + (total ask_weight p.asks.items + piece_weight p.store) = (λ i. total print_weight (prints i) + (total ask_weight (asks i) + piece_weight (store i))) in
    let more = total_push print_weight p.prints.items it in
    let held = room.held in
    let within = room.within in
    record { frames = subst (λ (fs : List Frame). All IsSmall fs) (sym frames) room.frames; held = omega (arith, same, more, held, weight); within = omega (arith, within, weight) }

pub ask_fits : (p now : Packing) (it : RangeAsk) → HasRoom p (ask_weight it) → now.frames.items ≡ p.frames.items → now.prints.items ≡ p.prints.items → now.asks.items ≡ p.asks.items ++ it ∷ [] → now.store ≡ p.store → now.weight ≡ p.weight → HasRoom now 0
ask_fits p now it room frames prints asks store weight =
    let same : open_weight now ≡ total print_weight p.prints.items + (total ask_weight (p.asks.items ++ it ∷ []) + piece_weight p.store) = (λ i. total print_weight (prints i) + (total ask_weight (asks i) + piece_weight (store i))) in
    let more = total_push ask_weight p.asks.items it in
    let held = room.held in
    let within = room.within in
    record { frames = subst (λ (fs : List Frame). All IsSmall fs) (sym frames) room.frames; held = omega (arith, same, more, held, weight); within = omega (arith, within, weight) }

pub edit_fits : (p now : Packing) (e : Edit) → HasRoom p (content_weight e.content) → now.frames.items ≡ p.frames.items → now.prints.items ≡ p.prints.items → now.asks.items ≡ p.asks.items → now.store ≡ with_edit p.store e → now.weight ≡ p.weight → HasRoom now 0
edit_fits p now e room frames prints asks store weight =
    let same : open_weight now ≡ total print_weight p.prints.items + (total ask_weight p.asks.items + piece_weight (with_edit p.store e)) = (λ i. total print_weight (prints i) + (total ask_weight (asks i) + piece_weight (store i))) in
    let more = edit_weight p.store e in
    let held = room.held in
    let within = room.within in
    record { frames = subst (λ (fs : List Frame). All IsSmall fs) (sym frames) room.frames; held = omega (arith, same, more, held, weight); within = omega (arith, within, weight) }

empty_entries : finmap.entries (finmap.empty {X = Entry} {R = place_cmp}) ≡ []
empty_entries = nil_from_length _ (sym (finmap.len-entries finmap.empty) ∙ finmap.len-empty place_cmp Entry)

-- nothing is open yet
pub room_begins : (now : Packing) → All IsSmall now.frames.items → now.prints.items ≡ [] → now.asks.items ≡ [] → now.store ≡ finmap.empty → now.weight ≡ 0 → HasRoom now 0
room_begins now frames prints asks store weight =
    let nothing : piece_weight now.store ≡ 0 = ap piece_weight store ∙ ap (total entry_weight) empty_entries in
    let same : open_weight now ≡ 0 = (λ i. total print_weight (prints i) + (total ask_weight (asks i) + nothing i)) in
    record { frames = frames; held = omega (arith, same, weight); within = omega (arith, weight) }
