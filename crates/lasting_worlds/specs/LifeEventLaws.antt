-- What the events of lives come to.
use Rattle.std.proofs.Common.{◌+◌, ◌++◌, ◌<◌, ◌∷◌, ◌≡◌, ◌≢◌, ◌≤◌, ◌⊎◌}
use Rattle.lasting_worlds.specs.Prelude.{[], after_one, all_of, ap, append-nil, append_assoc, arith, asked, blank, Bool, changed_at, Commit, cond, Edit, Event, EventWorld, false, happens, Happening, inl, inr, IsAmong, IsAmong-append_cases, IsAmong-append_left, IsAmong-append_right, IsAskedFor, List, Lived, nat_lt, Node, Option, own_edit, Put, puts_of, refl, Restart, slice_get, Some, subst, suc, sum_of, sum_of-append, sym, Take, taken, true, zero, ℕ, ◌∙◌, ⊎_elim}
use Rattle.lasting_worlds.specs.LifeEvents.{AreThere, events_of, held_by, holding, Life, life_events, nodes_of, puts_at, restarts, start_of, WasAskedFor}
use Rattle.edit_log.specs.Lives.{after as lived_after}
use Rattle.world_law.specs.{Worlds.{after}}
use Rattle.world_law.specs.declared.events.Event.TheVariants as event

-- ---- nodes of a list

changed_itself : (i : ℕ) (f : Node → Node) (ns : List Node) (n : Node) → slice_get ns i ≡ Some n
    → slice_get (changed_at i f ns) i ≡ Some (f n)
changed_itself i f [] n h = cc
changed_itself zero f (m ∷ ns) n h = let same : m ≡ n = cc in ap (λ (k : Node). Some (f k)) same
changed_itself (suc i) f (m ∷ ns) n h = changed_itself i f ns n h

others_stay : (i : ℕ) (f : Node → Node) (ns : List Node) (j : ℕ) → i ≢ j → slice_get (changed_at i f ns) j ≡ slice_get ns j
others_stay i f [] j ne = refl
others_stay zero f (m ∷ ns) zero ne = absurd (ne refl)
others_stay zero f (m ∷ ns) (suc j) ne = refl
others_stay (suc i) f (m ∷ ns) zero ne = refl
others_stay (suc i) f (m ∷ ns) (suc j) ne = others_stay i f ns j (λ same. ne (ap suc same))

after-append : (es fs : List Event) (w : EventWorld) → after (es ++ fs) w ≡ after fs (after es w)
after-append [] fs w = refl
after-append (e ∷ es) fs w = after-append es fs (happens w e)

-- ---- puts at one node

abbrev Holds : EventWorld → ℕ → List Edit → Type 0
Holds w i edits = slice_get w.nodes i ≡ Some (holding edits)

put_more : (w : EventWorld) (i : ℕ) (held : List Edit) (es : List Edit) → Holds w i held → Holds (after (puts_at i es) w) i (held ++ es)
put_more w i held [] h = h ∙ ap (λ (l : List Edit). Some (holding l)) (sym (append-nil held))
put_more w i held (e ∷ es) h =
    let one : Holds (happens w (event.Put i e)) i (held ++ e ∷ []) =
    changed_itself i (taken (sum_of (e ∷ [])) (e ∷ [])) w.nodes (holding held) h
    ∙ (λ j. Some (record { store = sym (sum_of-append held (e ∷ [])) j; took = held ++ e ∷ [] }))
    in put_more (happens w (event.Put i e)) i (held ++ e ∷ []) es one ∙ ap (λ (l : List Edit). Some (holding l)) (append_assoc held (e ∷ []) es)

puts_leave : (w : EventWorld) (i j : ℕ) (es : List Edit) → i ≢ j → slice_get (after (puts_at i es) w).nodes j ≡ slice_get w.nodes j
puts_leave w i j [] ne = refl
puts_leave w i j (e ∷ es) ne = puts_leave (happens w (event.Put i e)) i j es ne ∙ others_stay i (taken (sum_of (e ∷ [])) (e ∷ [])) w.nodes j ne

-- ---- one life

-- these nodes hold nothing
abbrev AreBlank : EventWorld → ℕ → ℕ → Type 0
AreBlank w from to = (j : ℕ) → from ≤ j → j < to → Holds w j []

-- what comes after some puts at a node
after_puts : (w : EventWorld) (i j : ℕ) (es : List Edit) (fs : List Event) (x : Option Node)
    → slice_get (after fs (after (puts_at i es) w)).nodes j ≡ x
    → slice_get (after (puts_at i es ++ fs) w).nodes j ≡ x
after_puts w i j es fs x h = ap (λ (v : EventWorld). slice_get v.nodes j) (after-append (puts_at i es) fs w) ∙ h

still_blank : (w : EventWorld) (i from to : ℕ) (es : List Edit) → i < from → AreBlank w from to → AreBlank (after (puts_at i es) w) from to
still_blank w i from to es below blanks j low high = puts_leave w i j es (λ same. absurd (omega (arith, same, below, low))) ∙ blanks j low high

pub life_there : (w : EventWorld) (i writer : ℕ) (s : Lived) (hs : List Happening) → Holds w i (all_of s)
    → AreBlank w (suc i) (suc (i + restarts hs))
    → Holds (after (life_events i writer s hs) w) (i + restarts hs) (all_of (lived_after writer s hs))
life_there w i writer s [] h blanks = let same : i ≡ i + 0 = omega arith in subst (λ k. Holds w k (all_of s)) same h
life_there w i writer s (Put place content ∷ hs) h blanks =
    let own = own_edit writer (all_of s) place content in
    let v = after (puts_at i (own ∷ [])) w in
    let held : Holds v i (all_of (after_one writer s (Put place content))) =
    put_more w i (all_of s) (own ∷ []) h ∙ ap (λ (l : List Edit). Some (holding l)) (append_assoc s.logged s.unsaved (own ∷ []))
    in after_puts w i (i + restarts hs) (own ∷ []) (life_events i writer (after_one writer s (Put place content)) hs) _
    (life_there v i writer (after_one writer s (Put place content)) hs held (still_blank w i (suc i) (suc (i + restarts hs)) (own ∷ []) (omega arith) blanks))
life_there w i writer s (Take edits ∷ hs) h blanks =
    let v = after (puts_at i edits.items) w in
    let held : Holds v i (all_of (after_one writer s (Take edits))) =
    put_more w i (all_of s) edits.items h ∙ ap (λ (l : List Edit). Some (holding l)) (append_assoc s.logged s.unsaved edits.items)
    in after_puts w i (i + restarts hs) edits.items (life_events i writer (after_one writer s (Take edits)) hs) _
    (life_there v i writer (after_one writer s (Take edits)) hs held (still_blank w i (suc i) (suc (i + restarts hs)) edits.items (omega arith) blanks))
life_there w i writer s (Commit ∷ hs) h blanks =
    life_there w i writer (after_one writer s Commit) hs (h ∙ ap (λ (l : List Edit). Some (holding l)) (sym (append-nil (all_of s)))) blanks
life_there w i writer s (Restart whole ∷ hs) h blanks =
    let t = after_one writer s (Restart whole) in
    let v = after (puts_at (suc i) t.logged) w in
    let new : Holds w (suc i) [] = blanks (suc i) (omega arith) (omega arith) in
    let held : Holds v (suc i) (all_of t) = put_more w (suc i) [] t.logged new ∙ ap (λ (l : List Edit). Some (holding l)) (sym (append-nil t.logged)) in
    let rest : AreBlank w (suc (suc i)) (suc (suc i + restarts hs)) = λ j low high. blanks j (omega (arith, low)) (omega (arith, high)) in
    let at : suc i + restarts hs ≡ i + suc (restarts hs) = omega arith in
    after_puts w (suc i) (i + suc (restarts hs)) t.logged (life_events (suc i) writer t hs) _
    (ap (λ (k : ℕ). slice_get (after (life_events (suc i) writer t hs) v).nodes k) (sym at)
    ∙ life_there v (suc i) writer t hs held (still_blank w (suc i) (suc (suc i)) (suc (suc i + restarts hs)) t.logged (omega arith) rest))

-- the nodes that aren't of this life stay as they are
abbrev IsOutside : ℕ → ℕ → ℕ → Type 0
IsOutside i to j = (j < i) ⊎ (to < j)

not_there : (i to j k : ℕ) → IsOutside i to j → i ≤ k → k ≤ to → k ≢ j
not_there i to j k (inl h) low high same = absurd (omega (arith, h, low, same))
not_there i to j k (inr h) low high same = absurd (omega (arith, h, high, same))

pub life_leaves : (w : EventWorld) (i writer : ℕ) (s : Lived) (hs : List Happening) (j : ℕ) → IsOutside i (i + restarts hs) j
    → slice_get (after (life_events i writer s hs) w).nodes j ≡ slice_get w.nodes j
life_leaves w i writer s [] j out = refl
life_leaves w i writer s (Put place content ∷ hs) j out =
    let own = own_edit writer (all_of s) place content in
    after_puts w i j (own ∷ []) (life_events i writer (after_one writer s (Put place content)) hs) _
    (life_leaves (after (puts_at i (own ∷ [])) w) i writer (after_one writer s (Put place content)) hs j out
    ∙ puts_leave w i j (own ∷ []) (not_there i (i + restarts hs) j i out (omega arith) (omega arith)))
life_leaves w i writer s (Take edits ∷ hs) j out =
    after_puts w i j edits.items (life_events i writer (after_one writer s (Take edits)) hs) _
    (life_leaves (after (puts_at i edits.items) w) i writer (after_one writer s (Take edits)) hs j out
    ∙ puts_leave w i j edits.items (not_there i (i + restarts hs) j i out (omega arith) (omega arith)))
life_leaves w i writer s (Commit ∷ hs) j out = life_leaves w i writer (after_one writer s Commit) hs j out
life_leaves w i writer s (Restart whole ∷ hs) j out =
    let t = after_one writer s (Restart whole) in
    let out' : IsOutside (suc i) (suc i + restarts hs) j = ⊎_elim (λ (h : j < i). inl (omega (arith, h))) (λ (h : i + suc (restarts hs) < j). inr (omega (arith, h))) out in
    after_puts w (suc i) j t.logged (life_events (suc i) writer t hs) _
    (life_leaves (after (puts_at (suc i) t.logged) w) (suc i) writer t hs j out'
    ∙ puts_leave w (suc i) j t.logged (not_there i (i + suc (restarts hs)) j (suc i) out (omega arith) (omega arith)))

-- ---- all lives

-- the world after the events of one life
abbrev after_life : EventWorld → ℕ → Life → EventWorld
after_life w i life = after (life_events i life.writer (start_of life) life.happenings) (after (puts_at i life.logged) w)

split : (w : EventWorld) (i : ℕ) (life : Life) (fs : List Event)
    → after (puts_at i life.logged ++ (life_events i life.writer (start_of life) life.happenings ++ fs)) w ≡ after fs (after_life w i life)
split w i life fs =
    after-append (puts_at i life.logged) (life_events i life.writer (start_of life) life.happenings ++ fs) w
    ∙ after-append (life_events i life.writer (start_of life) life.happenings) fs (after (puts_at i life.logged) w)

life_outside : (w : EventWorld) (i : ℕ) (life : Life) (j : ℕ) → IsOutside i (i + restarts life.happenings) j
    → slice_get (after_life w i life).nodes j ≡ slice_get w.nodes j
life_outside w i life j out =
    life_leaves (after (puts_at i life.logged) w) i life.writer (start_of life) life.happenings j out
    ∙ puts_leave w i j life.logged (not_there i (i + restarts life.happenings) j i out (omega arith) (omega arith))

before_stay : (w : EventWorld) (i : ℕ) (lives : List Life) (j : ℕ) → j < i
    → slice_get (after (events_of i lives) w).nodes j ≡ slice_get w.nodes j
before_stay w i [] j h = refl
before_stay w i (life ∷ lives) j h =
    let next = i + suc (restarts life.happenings) in
    ap (λ (v : EventWorld). slice_get v.nodes j) (split w i life (events_of next lives))
    ∙ before_stay (after_life w i life) next lives j (omega (arith, h)) ∙ life_outside w i life j (inl h)

pub all_there : (w : EventWorld) (i : ℕ) (lives : List Life) → AreBlank w i (i + nodes_of lives)
    → AreThere i lives (after (events_of i lives) w)
all_there w i [] blanks = tt
all_there w i (life ∷ lives) blanks =
    let next = i + suc (restarts life.happenings) in
    let v = after_life w i life in
    let new : Holds w i [] = blanks i (omega arith) (omega arith) in
    let begun : Holds (after (puts_at i life.logged) w) i (all_of (start_of life)) =
    put_more w i [] life.logged new ∙ ap (λ (l : List Edit). Some (holding l)) (sym (append-nil life.logged))
    in
    let own : AreBlank w (suc i) (suc (i + restarts life.happenings)) = λ j low high. blanks j (omega (arith, low)) (omega (arith, high)) in
    let there : Holds v (i + restarts life.happenings) (held_by life) =
    life_there (after (puts_at i life.logged) w) i life.writer (start_of life) life.happenings begun
    (still_blank w i (suc i) (suc (i + restarts life.happenings)) life.logged (omega arith) own)
    in
    let left : AreBlank v next (next + nodes_of lives) = λ j low high.
    life_outside w i life j (inr (omega (arith, low))) ∙ blanks j (omega (arith, low)) (omega (arith, high))
    in
    subst (AreThere i (life ∷ lives)) (sym (split w i life (events_of next lives)))
    (before_stay v next lives (i + restarts life.happenings) (omega arith) ∙ there, all_there v next lives left)

-- ---- what is put

puts_of-append : (n : ℕ) (es fs : List Event) → puts_of n (es ++ fs) ≡ puts_of n es ++ puts_of n fs
puts_of-append n [] fs = refl
puts_of-append n (event.Put i e ∷ es) fs = by (nat_lt i n) (puts_of-append n es fs)
  where
    by : (b : Bool) → puts_of n (es ++ fs) ≡ puts_of n es ++ puts_of n fs
        → cond b (e ∷ puts_of n (es ++ fs)) (puts_of n (es ++ fs)) ≡ cond b (e ∷ puts_of n es) (puts_of n es) ++ puts_of n fs
    by true h = ap (λ (l : List Edit). e ∷ l) h
    by false h = h
puts_of-append n (event.Ask i ∷ es) fs = puts_of-append n es fs
puts_of-append n (event.Cut j a places ∷ es) fs = puts_of-append n es fs
puts_of-append n (event.Give p k ∷ es) fs = puts_of-append n es fs

puts_are : (n i : ℕ) (es : List Edit) (e : Edit) → IsAmong e (puts_of n (puts_at i es)) → IsAmong e es
puts_are n i [] e h = h
puts_are n i (x ∷ es) e h = by (nat_lt i n) (puts_are n i es e) h
  where
    by : (b : Bool) → (IsAmong e (puts_of n (puts_at i es)) → IsAmong e es)
        → IsAmong e (cond b (x ∷ puts_of n (puts_at i es)) (puts_of n (puts_at i es)))
        → IsAmong e (x ∷ es)
    by true rest (inl same) = inl same
    by true rest (inr m) = inr (rest m)
    by false rest m = inr (rest m)

puts_then : (n i : ℕ) (es : List Edit) (fs : List Event) (e : Edit) → IsAmong e (puts_of n (puts_at i es ++ fs))
    → IsAmong e es ⊎ IsAmong e (puts_of n fs)
puts_then n i es fs e h =
    ⊎_elim (λ m. inl (puts_are n i es e m)) (λ m. inr m)
    (IsAmong-append_cases e (puts_of n (puts_at i es)) (puts_of n fs) (subst (IsAmong e) (puts_of-append n (puts_at i es) fs) h))

-- one happening, and then others
one_then : (writer : ℕ) (s : Lived) (h : Happening) (hs : List Happening) (e : Edit)
    → IsAmong e (all_of (after_one writer s h)) ⊎ IsAskedFor writer e hs
    → IsAmong e (all_of s) ⊎ IsAskedFor writer e (h ∷ hs)
one_then writer s h hs e (inl m) = ⊎_elim (λ old. inl old) (λ new. ⊎_elim (λ asks. inr (inl asks)) (λ none. absurd none) new) (asked writer s (h ∷ []) e m)
one_then writer s h hs e (inr later) = inr (inr later)

life_puts : (n i writer : ℕ) (s : Lived) (hs : List Happening) (e : Edit)
    → IsAmong e (puts_of n (life_events i writer s hs)) → IsAmong e (all_of s) ⊎ IsAskedFor writer e hs
life_puts n i writer s [] e m = absurd m
life_puts n i writer s (Put place content ∷ hs) e m =
    one_then writer s (Put place content) hs e
    (⊎_elim (λ own. inl (subst (IsAmong e) (append_assoc s.logged s.unsaved (own_edit writer (all_of s) place content ∷ []))
    (IsAmong-append_right e (all_of s) (own_edit writer (all_of s) place content ∷ []) own)))
    (λ later. life_puts n i writer (after_one writer s (Put place content)) hs e later)
    (puts_then n i (own_edit writer (all_of s) place content ∷ []) (life_events i writer (after_one writer s (Put place content)) hs) e m))
life_puts n i writer s (Take edits ∷ hs) e m =
    one_then writer s (Take edits) hs e
    (⊎_elim (λ taken. inl (subst (IsAmong e) (append_assoc s.logged s.unsaved edits.items) (IsAmong-append_right e (all_of s) edits.items taken)))
    (λ later. life_puts n i writer (after_one writer s (Take edits)) hs e later)
    (puts_then n i edits.items (life_events i writer (after_one writer s (Take edits)) hs) e m))
life_puts n i writer s (Commit ∷ hs) e m = one_then writer s Commit hs e (life_puts n i writer (after_one writer s Commit) hs e m)
life_puts n i writer s (Restart whole ∷ hs) e m =
    one_then writer s (Restart whole) hs e
    (⊎_elim (λ again. inl (IsAmong-append_left e (after_one writer s (Restart whole)).logged [] again))
    (λ later. life_puts n (suc i) writer (after_one writer s (Restart whole)) hs e later)
    (puts_then n (suc i) (after_one writer s (Restart whole)).logged (life_events (suc i) writer (after_one writer s (Restart whole)) hs) e m))

pub all_asked_for : (n i : ℕ) (lives : List Life) (e : Edit) → IsAmong e (puts_of n (events_of i lives)) → WasAskedFor e lives
all_asked_for n i [] e m = absurd m
all_asked_for n i (life ∷ lives) e m =
    let next = i + suc (restarts life.happenings) in
    let own = life_events i life.writer (start_of life) life.happenings in
    ⊎_elim (λ logged. inl (inl logged))
    (λ (rest : IsAmong e (puts_of n (own ++ events_of next lives))).
    ⊎_elim
    (λ (here : IsAmong e (puts_of n own)).
    inl (⊎_elim (λ old. inl (subst (IsAmong e) (append-nil life.logged) old)) (λ new. inr new) (life_puts n i life.writer (start_of life) life.happenings e here)))
    (λ (later : IsAmong e (puts_of n (events_of next lives))). inr (all_asked_for n next lives e later))
    (IsAmong-append_cases e (puts_of n own) (puts_of n (events_of next lives)) (subst (IsAmong e) (puts_of-append n own (events_of next lives)) rest)))
    (puts_then n i life.logged (own ++ events_of next lives) e m)

-- ---- from nothing

blank_there : (n j : ℕ) → j < n → slice_get (blank n).nodes j ≡ Some (holding [])
blank_there zero j h = absurd (omega (arith, h))
blank_there (suc n) zero h = refl
blank_there (suc n) (suc j) h = blank_there n j (omega (arith, h))

pub lives_there : (lives : List Life) → AreThere 0 lives (after (events_of 0 lives) (blank (nodes_of lives)))
lives_there lives = all_there (blank (nodes_of lives)) 0 lives (λ j low high. blank_there (nodes_of lives) j (omega (arith, high)))
