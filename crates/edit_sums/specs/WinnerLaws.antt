-- Which of two edits at one place is held: the order of versions and contents, spelled out.
-- Source (the last writer wins): Shapiro, Preguica, Baquero, Zawirski 2011; breaking ties by content is this project's
-- own.
use Rattle.std.proofs.Common.{◌<◌, ◌∷◌, ◌≡◌}
use Rattle.edit_sums.specs.Prelude.{[], ap, arith, cond, eq_by_cmp, Equal, Greater, is_eq, is_gt, Less, nat_cmp, nat_cmp_total, None, Ordering, ordering_then, place_cmp, place_cmp_total, PlaceParts, ranked, refl, slice_cmp, Some, sym, tied_itself, true, version_cmp, version_cmp_total, ℕ, ◌∙◌}
use Rattle.edit_sums.specs.{Contents.{bytes_of, content_cmp, sort_of}, declared.{contents.Content.{Content, TheVariants.{File, Gone, Link}}, entries.Edit.{Edit}}, Entries.{entry_cmp, larger}, GreatestLaws.{get-sum_of}, Sums.{entry_of, greatest_at, sum_of}}
use Rattle.std.specs.FinMap as finmap

-- of two edits at one place the first is held
abbrev pub Wins : Edit → Edit → Type 0
Wins e f = e.place ≡ f.place → finmap.get (sum_of (e ∷ f ∷ [])) e.place ≡ Some (entry_of e)

-- a removal is less than a link or a file, and a link is less than a file
abbrev pub IsLesserSort : Content → Content → Type 0
IsLesserSort Gone Gone = ⊥
IsLesserSort Gone (Link target) = Unit {0}
IsLesserSort Gone (File bytes) = Unit {0}
IsLesserSort (Link target) Gone = ⊥
IsLesserSort (Link target) (Link other) = ⊥
IsLesserSort (Link target) (File bytes) = Unit {0}
IsLesserSort (File bytes) other = ⊥

-- The greater counter wins.
abbrev pub CountersDecide : Type 0
CountersDecide = (e f : Edit) → f.version.counter < e.version.counter → Wins e f

-- For equal counters the greater writer wins.
abbrev pub WritersDecide : Type 0
WritersDecide = (e f : Edit) → f.version.counter ≡ e.version.counter → f.version.writer < e.version.writer → Wins e f

-- For equal versions files win over links, and links over removals.
abbrev pub SortsDecide : Type 0
SortsDecide = (e f : Edit) → f.version ≡ e.version → IsLesserSort f.content e.content → Wins e f

-- a greater number compares as greater
greater : (x y : ℕ) → y < x → nat_cmp x y ≡ Greater
greater x y h = by (nat_cmp x y) refl
  where
    by : (r : Ordering) → nat_cmp x y ≡ r → nat_cmp x y ≡ Greater
    by Less e = absurd (omega (arith, ranked x y Less (sym e)))
    by Equal e = absurd (omega (arith, ranked x y Equal (sym e)))
    by Greater e = e

same : (q : PlaceParts) → eq_by_cmp place_cmp q q ≡ true
same q = ap is_eq (tied_itself place_cmp_total q)

-- the greater entry is held
held : (e f : Edit) → entry_cmp (entry_of e) (entry_of f) ≡ Greater → Wins e f
held e f more at =
    get-sum_of (e ∷ f ∷ []) e.place
    ∙ ap (λ b. cond b (larger (Some (entry_of e)) (greatest_at e.place (f ∷ []))) (greatest_at e.place (f ∷ []))) (same e.place)
    ∙ ap (λ b. larger (Some (entry_of e)) (cond b (Some (entry_of f)) None)) (ap (λ q. eq_by_cmp place_cmp q f.place) at ∙ same f.place)
    ∙ ap (λ r. cond (is_gt r) (Some (entry_of e)) (Some (entry_of f))) more

pub counters_decide : CountersDecide
counters_decide e f h =
    held e f (ap (λ r. ordering_then (ordering_then r (nat_cmp e.version.writer f.version.writer)) (content_cmp e.content f.content)) (greater e.version.counter f.version.counter h))

pub writers_decide : WritersDecide
writers_decide e f tie h =
    held e f
    (ap (λ r. ordering_then (ordering_then r (nat_cmp e.version.writer f.version.writer)) (content_cmp e.content f.content)) (ap (nat_cmp e.version.counter) tie ∙ tied_itself nat_cmp_total e.version.counter)
    ∙ ap (λ r. ordering_then r (content_cmp e.content f.content)) (greater e.version.writer f.version.writer h))

pub sorts_decide : SortsDecide
sorts_decide e f tie lesser =
    held e f
    (ap (λ r. ordering_then r (content_cmp e.content f.content)) (ap (version_cmp e.version) tie ∙ tied_itself version_cmp_total e.version)
    ∙ ap (λ r. ordering_then r (slice_cmp nat_cmp (bytes_of e.content) (bytes_of f.content))) (greater (sort_of e.content) (sort_of f.content) (by e.content f.content lesser)))
  where
    by : (x y : Content) → IsLesserSort y x → sort_of y < sort_of x
    by Gone Gone h = absurd h
    by Gone (Link target) h = absurd h
    by Gone (File bytes) h = absurd h
    by (Link target) Gone h = omega arith
    by (Link target) (Link other) h = absurd h
    by (Link target) (File bytes) h = absurd h
    by (File bytes) Gone h = omega arith
    by (File bytes) (Link target) h = omega arith
    by (File bytes) (File other) h = absurd h
