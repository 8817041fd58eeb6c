-- What holds over all lives of a node.
use Rattle.std.proofs.Common.{if◌then◌else◌, ◌+◌, ◌++◌, ◌<◌, ◌∷◌, ◌≡◌, ◌≤◌, ◌⊎◌}
use Rattle.edit_log.specs.Prelude.{[], ap, append-nil, append_assoc, arith, Bool, Content, counter_among, Edit, false, high_among, inl, inr, IsAmong, IsAmong-append_cases, IsAmong-append_left, List, PlaceParts, refl, subst, sym, true, ℕ, ◌∙◌, ⊎_elim}
use Rattle.edit_log.specs.declared.happenings.Happening.{Happening, TheVariants.{Commit, Put, Restart, Take}}
use Rattle.edit_log.specs.Lives.{after, after_one, all_of, AlwaysTakesOwnBack, AsksFor, HasPrefix, held_after, IsAskedFor, IsHonestOf, Lived, own_edit, survivors, TakesOwnBack}

-- ---- what was answered stays

same_prefix : (a : List Edit) → HasPrefix a a
same_prefix a = record { more = []; is = sym (append-nil a) }

front : (a b : List Edit) → HasPrefix a (a ++ b)
front a b = record { more = b; is = refl }

further : (a b c : List Edit) → HasPrefix a b → HasPrefix b c → HasPrefix a c
further a b c p q = record { more = p.more ++ q.more; is = q.is ∙ ap (λ (l : List Edit). l ++ q.more) p.is ∙ append_assoc a p.more q.more }

one_more : (w : ℕ) (s : Lived) (h : Happening) → HasPrefix s.logged (after_one w s h).logged
one_more w s (Put place content) = same_prefix s.logged
one_more w s (Take edits) = same_prefix s.logged
one_more w s Commit = front s.logged s.unsaved
one_more w s (Restart whole) = elim whole as (λ b. HasPrefix s.logged (if b then all_of s else s.logged)) [ true ↦ front s.logged s.unsaved | false ↦ same_prefix s.logged ]

-- the log only grows at its end
pub logged_stays : (w : ℕ) (s : Lived) (hs : List Happening) → HasPrefix s.logged (after w s hs).logged
logged_stays w s [] = same_prefix s.logged
logged_stays w s (h ∷ hs) = further s.logged (after_one w s h).logged (after w s (h ∷ hs)).logged (one_more w s h) (logged_stays w (after_one w s h) hs)

pub after-append : (w : ℕ) (s : Lived) (hs is : List Happening) → after w s (hs ++ is) ≡ after w (after w s hs) is
after-append w s [] is = refl
after-append w s (h ∷ hs) is = after-append w (after_one w s h) hs is

-- after an answered commit all that the node held stays in the log, whatever happens
pub answered_stays : (w : ℕ) (s : Lived) (before later : List Happening)
    → HasPrefix (all_of (after w s before)) (after w s (before ++ Commit ∷ later)).logged
answered_stays w s before later =
    subst (λ (t : Lived). HasPrefix (all_of (after w s before)) t.logged) (sym (after-append w s before (Commit ∷ later)))
    (logged_stays w (after_one w (after w s before) Commit) later)

-- ---- only what was asked for

one_asked : (w : ℕ) (s : Lived) (h : Happening) (e : Edit) → IsAmong e (all_of (after_one w s h)) → IsAmong e (all_of s) ⊎ AsksFor w e h
one_asked w s (Put place content) e m = ⊎_elim (λ old. inl old)
    (λ own. ⊎_elim (λ is. inr (sym (ap (λ (y : Edit). y.version.writer) is), sym (ap (λ (y : Edit). y.place) is), sym (ap (λ (y : Edit). y.content) is))) (λ none. absurd none) own)
    (IsAmong-append_cases e (all_of s) _ (subst (IsAmong e) (sym (append_assoc s.logged s.unsaved _)) m))
one_asked w s (Take edits) e m = ⊎_elim (λ old. inl old) (λ new. inr new) (IsAmong-append_cases e (all_of s) edits.items (subst (IsAmong e) (sym (append_assoc s.logged s.unsaved edits.items)) m))
one_asked w s Commit e m = inl (subst (IsAmong e) (append-nil (all_of s)) m)
one_asked w s (Restart whole) e m =
    elim whole as (λ b. IsAmong e ((if b then all_of s else s.logged) ++ []) → IsAmong e (all_of s) ⊎ AsksFor w e (Restart whole)) [
      | true ↦ λ n. inl (subst (IsAmong e) (append-nil (all_of s)) n)
      | false ↦ λ n. inl (IsAmong-append_left e s.logged s.unsaved (subst (IsAmong e) (append-nil s.logged) n))
    ] m

pub asked : (w : ℕ) (s : Lived) (hs : List Happening) (e : Edit) → IsAmong e (all_of (after w s hs))
    → IsAmong e (all_of s) ⊎ IsAskedFor w e hs
asked w s [] e m = inl m
asked w s (h ∷ hs) e m = ⊎_elim
    (λ here. ⊎_elim (λ old. inl old) (λ asks. inr (inl asks)) (one_asked w s h e here))
    (λ later. inr (inr later))
    (asked w (after_one w s h) hs e m)

-- ---- versions are made once

high_front : (xs ys : List Edit) → high_among xs ≤ high_among (xs ++ ys)
high_front [] ys = omega arith
high_front (x ∷ xs) ys = omega (arith, high_front xs ys)

high_prefix : (a b : List Edit) → HasPrefix a b → high_among a ≤ high_among b
high_prefix a b p = omega (arith, ap high_among p.is, high_front a p.more)

-- whatever happens after, the next own edit is above each edit that stood in the log
pub fresh : (w : ℕ) (s : Lived) (hs : List Happening) (place : PlaceParts) (content : Content) (e : Edit) → IsAmong e s.logged
    → e.version.counter < (own_edit w (all_of (after w s hs)) place content).version.counter
fresh w s hs place content e m =
    let low = counter_among e s.logged m in
    let grows = high_prefix s.logged (after w s hs).logged (logged_stays w s hs) in
    let rest = high_front (after w s hs).logged (after w s hs).unsaved in
    omega (arith, low, grows, rest)

-- these edits may come after a: of the writer's own each is one of a, or above it; and of those above no two have one version
record MayFollow (w : ℕ) (a es : List Edit) : Type 0 where
  known : (e : Edit) → IsAmong e es → e.version.writer ≡ w → IsAmong e a ⊎ (high_among a < e.version.counter)
  one : (e f : Edit) → IsAmong e es → IsAmong f es → e.version.writer ≡ w → f.version.writer ≡ w
      → high_among a < e.version.counter → e.version.counter ≡ f.version.counter → e ≡ f

honest_more : (w : ℕ) (a es : List Edit) → IsHonestOf w a → MayFollow w a es → IsHonestOf w (a ++ es)
honest_more w a es old new e f m n ew fw same = ⊎_elim
    (λ (ea : IsAmong e a). ⊎_elim
    (λ (fa : IsAmong f a). old e f ea fa ew fw same)
    (λ (fs : IsAmong f es). ⊎_elim (λ (fa : IsAmong f a). old e f ea fa ew fw same) (λ (above : high_among a < f.version.counter). absurd (omega (arith, above, same, counter_among e a ea))) (new.known f fs fw))
    (IsAmong-append_cases f a es n))
    (λ (es' : IsAmong e es). ⊎_elim
    (λ (fa : IsAmong f a). ⊎_elim (λ (ea : IsAmong e a). old e f ea fa ew fw same) (λ (above : high_among a < e.version.counter). absurd (omega (arith, above, same, counter_among f a fa))) (new.known e es' ew))
    (λ (fs : IsAmong f es). ⊎_elim
    (λ (ea : IsAmong e a). ⊎_elim (λ (fa : IsAmong f a). old e f ea fa ew fw same) (λ (above : high_among a < f.version.counter). absurd (omega (arith, above, same, counter_among e a ea))) (new.known f fs fw))
    (λ (above : high_among a < e.version.counter). new.one e f es' fs ew fw above same)
    (new.known e es' ew))
    (IsAmong-append_cases f a es n))
    (IsAmong-append_cases e a es m)

own_follows : (w : ℕ) (a : List Edit) (place : PlaceParts) (content : Content) → MayFollow w a (own_edit w a place content ∷ [])
own_follows w a place content = record {
  known = λ e m ew. inr (above e m);
  one = λ e f m n ew fw up same. both e f m n;
}
  where
    above : (e : Edit) → IsAmong e (own_edit w a place content ∷ []) → high_among a < e.version.counter
    above e (inl is) = let same : high_among a + 1 ≡ e.version.counter = ap (λ (y : Edit). y.version.counter) is in omega (arith, same)
    above e (inr none) = absurd none

    both : (e f : Edit) → IsAmong e (own_edit w a place content ∷ []) → IsAmong f (own_edit w a place content ∷ []) → e ≡ f
    both e f (inl is) (inl is') = sym is ∙ is'
    both e f (inl is) (inr none) = absurd none
    both e f (inr none) n = absurd none

taken_follow : (w : ℕ) (a es : List Edit) → ((e : Edit) → IsAmong e es → e.version.writer ≡ w → IsAmong e a) → MayFollow w a es
taken_follow w a es own = record {
  known = λ e m ew. inl (own e m ew);
  one = λ e f m n ew fw above same. absurd (omega (arith, above, counter_among e a (own e m ew)));
}

honest_part : (w : ℕ) (a b : List Edit) → IsHonestOf w (a ++ b) → IsHonestOf w a
honest_part w a b h e f m n = h e f (IsAmong-append_left e a b m) (IsAmong-append_left f a b n)

one_honest : (w : ℕ) (s : Lived) (h : Happening) → IsHonestOf w (all_of s) → TakesOwnBack w s h → IsHonestOf w (all_of (after_one w s h))
one_honest w s (Put place content) honest own = subst (IsHonestOf w) (append_assoc s.logged s.unsaved _) (honest_more w (all_of s) _ honest (own_follows w (all_of s) place content))
one_honest w s (Take edits) honest own = subst (IsHonestOf w) (append_assoc s.logged s.unsaved edits.items)
    (honest_more w (all_of s) edits.items honest (taken_follow w (all_of s) edits.items (λ e m ew. IsAmong-append_left e s.logged s.unsaved (own e m ew))))
one_honest w s Commit honest own = subst (IsHonestOf w) (sym (append-nil (all_of s))) honest
one_honest w s (Restart whole) honest own =
    elim whole as (λ b. IsHonestOf w ((if b then all_of s else s.logged) ++ [])) [
      | true ↦ subst (IsHonestOf w) (sym (append-nil (all_of s))) honest
      | false ↦ subst (IsHonestOf w) (sym (append-nil s.logged)) (honest_part w s.logged s.unsaved honest)
    ]

-- no version of its own is ever made for two edits that are held at one time
pub stays_honest : (w : ℕ) (s : Lived) (hs : List Happening) → IsHonestOf w (all_of s) → AlwaysTakesOwnBack w s hs
    → IsHonestOf w (all_of (after w s hs))
stays_honest w s [] honest own = honest
stays_honest w s (h ∷ hs) honest own = stays_honest w (after_one w s h) hs (one_honest w s h honest own.0) own.1

-- ---- one life in place of many

held_after-append : (w : ℕ) (held : List Edit) (hs is : List Happening)
    → held_after w held (hs ++ is) ≡ held_after w (held_after w held hs) is
held_after-append w held [] is = refl
held_after-append w held (Put place content ∷ hs) is = held_after-append w (held ++ own_edit w held place content ∷ []) hs is
held_after-append w held (Take edits ∷ hs) is = held_after-append w (held ++ edits.items) hs is
held_after-append w held (Commit ∷ hs) is = held_after-append w held hs is
held_after-append w held (Restart whole ∷ hs) is = held_after-append w held hs is

-- what a node holds after any happenings, where these are the puts and takes that aren't logged yet
abbrev Survives : ℕ → List Happening → Type 0
Survives w hs = (s : Lived) (pending : List Happening) → all_of s ≡ held_after w s.logged pending
    → all_of (after w s hs) ≡ held_after w s.logged (survivors pending hs)

put_more : (w : ℕ) (s : Lived) (pending : List Happening) (place : PlaceParts) (content : Content)
    → all_of s ≡ held_after w s.logged pending
    → all_of (after_one w s (Put place content)) ≡ held_after w s.logged (pending ++ Put place content ∷ [])
put_more w s pending place content same =
    sym (append_assoc s.logged s.unsaved _) ∙ ap (λ (l : List Edit). l ++ own_edit w l place content ∷ []) same
    ∙ sym (held_after-append w s.logged pending (Put place content ∷ []))

take_more : (w : ℕ) (s : Lived) (pending : List Happening) (h : Happening) (es : List Edit) → all_of s ≡ held_after w s.logged pending
    → ((held : List Edit) → held_after w held (h ∷ []) ≡ held ++ es)
    → (s.logged ++ (s.unsaved ++ es)) ≡ held_after w s.logged (pending ++ h ∷ [])
take_more w s pending h es same takes =
    sym (append_assoc s.logged s.unsaved es) ∙ ap (λ (l : List Edit). l ++ es) same ∙ sym (takes (held_after w s.logged pending)) ∙ sym (held_after-append w s.logged pending (h ∷ []))

-- all that was held is logged
all_logged : (w : ℕ) (s : Lived) (pending hs : List Happening) → Survives w hs → all_of s ≡ held_after w s.logged pending
    → all_of (after w (record { logged = all_of s; unsaved = [] }) hs) ≡ held_after w s.logged (pending ++ survivors [] hs)
all_logged w s pending hs rest same =
    rest (record { logged = all_of s; unsaved = [] }) [] (append-nil (all_of s)) ∙ ap (λ (l : List Edit). held_after w l (survivors [] hs)) same
    ∙ sym (held_after-append w s.logged pending (survivors [] hs))

ended : (w : ℕ) (s : Lived) (pending hs : List Happening) (whole : Bool) → Survives w hs → all_of s ≡ held_after w s.logged pending
    → all_of (after w (record { logged = if whole then all_of s else s.logged; unsaved = [] }) hs) ≡ held_after w s.logged ((if whole then pending else []) ++ survivors [] hs)
ended w s pending hs true rest same = all_logged w s pending hs rest same
ended w s pending hs false rest same = rest (record { logged = s.logged; unsaved = [] }) [] (append-nil s.logged)

pub survive : (w : ℕ) (hs : List Happening) → Survives w hs
survive w [] s pending same = same
survive w (Put place content ∷ hs) s pending same = survive w hs (after_one w s (Put place content)) (pending ++ Put place content ∷ []) (put_more w s pending place content same)
survive w (Take edits ∷ hs) s pending same = survive w hs (after_one w s (Take edits)) (pending ++ Take edits ∷ []) (take_more w s pending (Take edits) edits.items same (λ held. refl))
survive w (Commit ∷ hs) s pending same = all_logged w s pending hs (survive w hs) same
survive w (Restart whole ∷ hs) s pending same = ended w s pending hs whole (survive w hs) same

-- from a log with nothing unsaved
pub one_life : (w : ℕ) (logged : List Edit) (hs : List Happening) → all_of (after w (record { logged = logged; unsaved = [] }) hs) ≡ held_after w logged (survivors [] hs)
one_life w logged hs = survive w hs (record { logged = logged; unsaved = [] }) [] (append-nil logged)
