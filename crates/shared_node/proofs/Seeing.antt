-- Each step preserves the invariant of the published copies.
use Rattle.std.proofs.Common.{◌≡◌, ◌≢◌}
use Rattle.atomic_table.proofs.Lists.{at_set, at_snoc}
use Rattle.left_right.specs.Register.{Admits, Forks, Merges, Turns, TurnsAt}
use Rattle.logbook.specs.Pages.{Book}
use lib.ListN.{get_elem?}
use mathlib.Core.{List.{IsPrefix}, Option.{some}}
use Rattle.shared_node.proofs.Prelude.{Fits, HistoryEvent, Knows, List, nothing, prefix_self, prefix_trans, PublishedCopy, reader_view_of, ReaderView, refl, set, Shows, subst, sym, ℕ, ⊎_elim, ◌∙◌}

abbrev holds : PublishedCopy → List ReaderView → Type 0
holds p = Knows p.seen.book p.seen.log

abbrev shows : ReaderView → PublishedCopy → PublishedCopy → ReaderView → Type 0
shows v x y w = Shows v y.seen.book y.seen.log w

fits_nothing : (b : Book) (h : List HistoryEvent) → Fits b h nothing
fits_nothing b h e = absurd (cc e)

fits_same : (b : Book) (h : List HistoryEvent) → Fits b h (reader_view_of b h)
fits_same b h e = (refl, prefix_self h)

-- a longer history fits what was seen of the shorter
fits_more : (b c : Book) (h k : List HistoryEvent) (v : ReaderView) → c ≡ b → IsPrefix h k → Fits b h v → Fits c k v
fits_more b c h k v same more f e = let p = f e in (p.0 ∙ sym same, prefix_trans v.seen h k p.1 more)

set_fits : (b : Book) (h : List HistoryEvent) (views : List ReaderView) (seat : ℕ) (w : ReaderView) → Knows b h views → Fits b h w → Knows b h (set views seat w)
set_fits b h views seat w all f j u at =
    ⊎_elim (λ (t : (j ≡ seat) × (w ≡ u)). subst (Fits b h) t.1 f) (λ (t : (j ≢ seat) × (get_elem? views j ≡ some u)). all j u t.1) (at_set views seat j w u at)

pub admits : Admits holds nothing
admits x views all j u at = ⊎_elim (all j u) (λ (e : nothing ≡ u). subst (Fits x.seen.book x.seen.log) e (fits_nothing x.seen.book x.seen.log)) (at_snoc views nothing u j at)

pub shows_on : (seat : ℕ) (v : ReaderView) (x y : PublishedCopy) → y.seen.book ≡ x.seen.book → IsPrefix x.seen.log y.seen.log → TurnsAt holds seat v x y shows
shows_on seat v x y same more views all at =
    let b = y.seen.book in let h = y.seen.log in
    let kept : Knows b h views = λ j u e. fits_more x.seen.book b x.seen.log h u same more (all j u e) in (
      reader_view_of b h,
      set_fits b h views seat (reader_view_of b h) kept (fits_same b h),
      (kept seat v at, refl),
    )

pub enters : (seat : ℕ) (v : ReaderView) → Turns holds seat v (λ x. x) shows
enters seat v x = shows_on seat v x x refl (prefix_self x.seen.log)

pub forks : (seat : ℕ) (v : ReaderView) → Forks holds seat v v v
forks seat v x views all at j u e =
    let b = x.seen.book in let h = x.seen.log in
    ⊎_elim (set_fits b h views seat v all (all seat v at) j u) (λ (same : v ≡ u). subst (Fits b h) same (all seat v at)) (at_snoc (set views seat v) v u j e)

pub merges : (seat : ℕ) (v : ReaderView) (other : ℕ) (w : ReaderView) → Merges holds seat v other w w nothing
merges seat v other w x views all at apart there =
    let b = x.seen.book in let h = x.seen.log in
    let f : Fits b h w = ⊎_elim (λ (t : (other ≡ seat) × (w ≡ w)). absurd (apart t.0)) (λ (t : (other ≢ seat) × (get_elem? views other ≡ some w)). all other w t.1) (at_set views seat other w w there) in
    set_fits b h (set views seat w) other nothing (set_fits b h views seat w all f) (fits_nothing b h)
