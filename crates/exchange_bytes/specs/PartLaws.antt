-- Each part of a frame that is read is the part that was written, and what was written is read again.
use Rattle.std.proofs.Common.{◌≡◌, ◌<◌, ◌^◌, ℕ, Bool, true, false, cond, ltb, eqb, List, [], ◌∷◌, ◌++◌, length, Option, None, Some, Result, Ok, Err, refl, sym, ap, subst, ◌∙◌, ⊎_elim, append_assoc, arith}
use Rattle.std.specs.Cmp.{tied_itself}
use Rattle.std.specs.FinMap as finmap
use Rattle.std.specs.Ordering.{is_eq}
use Rattle.std.proofs.lemmas.Bool.{eqb-true, lt-ltb, ltb-true}
use Rattle.list_laws.specs.{Orderings.{is_equal}, Truths.{to_T}}
use Rattle.byte_fields.specs.declared.faults.SpellingFault.{SpellingFault}
use Rattle.byte_fields.specs.declared.faults.SpellingFault.TheVariants as fault
use Rattle.byte_fields.specs.Composing.{IsField, passed, two}
use Rattle.byte_fields.specs.FieldLaws.{bind_ok, byte_taken, chosen, cut_back, cut_taken, ok_is, Takes-then}
use Rattle.byte_fields.specs.Laws.{IsBytes, Takes}
use Rattle.byte_fields.specs.Reading.{◌>>=◌, byte_at, cut_at, number_at}
use Rattle.byte_fields.specs.Spelling.{number}
use Rattle.load_path.specs.Paths.{IsPath, path_cmp}
use Rattle.load_places.specs.Places.{place_cmp, PlaceParts, scope_cmp}
use Rattle.load_places.specs.PlaceLaws.{place_cmp-IsAntisymmetric, place_cmp_total, scope_cmp_total}
use Rattle.load_places.specs.Texts.{IsScope}
use Rattle.edit_sums.specs.Entries.{Entry}
use Rattle.edit_sums.specs.Sums.{EntryMap}
use Rattle.world_law.specs.Cuts.{VersionMap}
use Rattle.range_prints.specs.declared.ranges.Range.{Range}
use Rattle.exchange_session.specs.declared.messages.{RangeAsk.{RangeAsk}, RangePrint.{RangePrint}}
use Rattle.store_bytes.specs.Bytes.{HasSpelling, HasVersionSpelling}
use Rattle.store_bytes.specs.BytesLaws.{entry_group}
use Rattle.store_bytes.specs.ListReading.{group_at, key_above_at, list_at, Reader}
use Rattle.store_bytes.specs.ListSpelling.{AreGroup, ArePairs, pairs}
use Rattle.store_bytes.specs.PartingLaws.{flattened-parted, parted-flattened}
use Rattle.store_bytes.specs.PartLaws.{number_field, place_field, scope_field, version_field}
use Rattle.store_bytes.specs.Parts.{parted}
use Rattle.store_bytes.specs.Reading.{entry_at, path_at, place_at, scope_at, version_at}
use Rattle.store_bytes.specs.Spelling.{entry, IsEntry, IsPlace, IsVersion, path, place, scope, version}
use Rattle.store_bytes.specs.StoreLaws.{flattened_sorted}
use Rattle.store_bytes.specs.Stores.{AreScoped, flattened, Scoped}
use Rattle.store_bytes.specs.WholeLaws.{list_field}
use Rattle.exchange_bytes.specs.ChainLaws.{chained_field}
use Rattle.exchange_bytes.specs.Peers.{is_next, peer_cmp}
use Rattle.exchange_bytes.specs.Reading.{ask_at, asks_at, bound_at, bound_from, fields_at, flag_at, flag_from, hello_at, hello_from, last_from, mark_at, other_from, own_at, peer_at, peers_at, piece_at, piece_flag_at, print_at, prints_asks_at, prints_at, range_at, seed_peers_at, some_own, told_at, versions_at, writer_at, writer_mark_at}
use Rattle.exchange_bytes.specs.Spelling.{ArePeers, ArePrints, AreAsks, ask, ask_tells, asks, bound, fields, flag, HasFrameSpelling, hello, IsAsk, IsBound, IsHello, IsHelloOrNone, is_last, IsPeer, IsPeerAfter, IsPrint, IsRange, own, peer, peers, piece, print, print_tells, prints, range}
use Rattle.exchange_bytes.specs.declared.{frames.Hello.{Hello}, peers.Peer.{Peer}}

-- ---- a field whose value is seen as another

record IsSeenAs {A B : Type 0} (s : A → List ℕ) (P : A → Type 0) (text : B → List ℕ) (R : B → Type 0) (make : A → B) : Type 0 where
  pub back : B → A
  pub whole : (b : B) → make (back b) ≡ b
  pub spelled : (a : A) → P a → text (make a) ≡ s a
  pub fits : (a : A) → P a → R (make a)
  pub plain : (b : B) → R b → P (back b)

module _ {A B : Type 0} (f : Reader A) (s : A → List ℕ) (P : A → Type 0) (text : B → List ℕ) (R : B → Type 0)
    (make : A → B) (F : IsField f s P) (M : IsSeenAs s P text R make) where
  abbrev seen_at : Reader B
  seen_at bytes = f bytes >>= λ a. Ok (make a.0, a.1)

  seen_takes : (bytes : List ℕ) (x : B × List ℕ) → IsBytes bytes → seen_at bytes ≡ Ok x → Takes bytes (text x.0) x.1 × R x.0
  seen_takes bytes x fits e =
      let a = bind_ok (f bytes) (λ a. Ok (make a.0, a.1)) x e in
      let t = F.takes bytes a.0 fits a.1 in
      let made : B × List ℕ = (make a.0.0, a.0.1) in
      subst (λ (y : B × List ℕ). Takes bytes (text y.0) y.1 × R y.0) (ok_is made x a.2) (subst (λ (l : List ℕ). Takes bytes l a.0.1) (sym (M.spelled a.0.0 t.1)) t.0, M.fits a.0.0 t.1)

  seen_again : (b : B) (rest : List ℕ) → R b → seen_at (text b ++ rest) ≡ Ok (b, rest)
  seen_again b rest fits =
      let a = M.back b in
      let same : text b ++ rest ≡ s a ++ rest = ap (λ (l : List ℕ). l ++ rest) (ap text (sym (M.whole b)) ∙ M.spelled a (M.plain b fits)) in
      ap seen_at same ∙ ap (λ (r : Result (A × List ℕ) SpellingFault). r >>= λ a. Ok (make a.0, a.1)) (F.again a rest (M.plain b fits)) ∙ ap (λ (d : B). Ok (d, rest)) (M.whole b)

  seen : IsField seen_at text R
  seen = record { takes = seen_takes; again = seen_again }

-- ---- bounds

told_again : (q : PlaceParts) → bound (Some q) (Some q) ≡ 1 ∷ []
told_again q = ap (λ (b : Bool). cond b (1 ∷ []) (2 ∷ place q)) (ap is_eq (tied_itself place_cmp_total q))

not_told : (last : Option PlaceParts) (p : PlaceParts) → is_last last p ≡ false → bound last (Some p) ≡ 2 ∷ place p
not_told last p other = ap (λ (b : Bool). cond b (1 ∷ []) (2 ∷ place p)) other

abbrev IsTaken : Option PlaceParts → List ℕ → Option PlaceParts × List ℕ → Type 0
IsTaken last bytes x = Takes bytes (bound last x.0) x.1 × IsBound x.0

last_takes : (last : Option PlaceParts) (bytes rest : List ℕ) (x : Option PlaceParts × List ℕ) → IsBound last
    → Takes bytes (1 ∷ []) rest → last_from last rest ≡ Ok x → IsTaken last bytes x
last_takes None bytes rest x is t e = absurd cc
last_takes (Some q) bytes rest x is t e = subst (IsTaken (Some q) bytes) (ok_is (Some q, rest) x e) (subst (λ (l : List ℕ). Takes bytes l rest) (sym (told_again q)) t, is)

other_takes : (last : Option PlaceParts) (bytes rest : List ℕ) (x : Option PlaceParts × List ℕ)
    → Takes bytes (2 ∷ []) rest → (place_at rest >>= other_from last) ≡ Ok x → IsTaken last bytes x
other_takes last bytes rest x t e =
    let p = bind_ok (place_at rest) (other_from last) x e in
    let u = place_field.takes rest p.0 t.rest_fits p.1 in
    ⊎_elim
    (λ same. let wrong = same.1 in absurd cc)
    (λ other.
    subst (IsTaken last bytes) (ok_is (Some p.0.0, p.0.1) x other.1)
    (subst (λ (l : List ℕ). Takes bytes l p.0.1) (sym (not_told last p.0.0 other.0)) (Takes-then bytes (2 ∷ []) rest (place p.0.0) p.0.1 t u.0), u.1))
    (chosen (is_last last p.0.0) (Err fault.Order) (Ok (Some p.0.0, p.0.1)) (Ok x) p.2)

bound_takes : (last : Option PlaceParts) → IsBound last → (bytes : List ℕ) (x : Option PlaceParts × List ℕ)
    → IsBytes bytes → bound_at last bytes ≡ Ok x → IsTaken last bytes x
unfolding bound_at
bound_takes last is bytes x fits e =
    let b = bind_ok (byte_at bytes) (bound_from last) x e in
    let t = byte_taken bytes b.0.0 b.0.1 fits b.1 in
    let two_from : Result (Option PlaceParts × List ℕ) SpellingFault = cond (eqb b.0.0 2) (place_at b.0.1 >>= other_from last) (Err fault.Number) in
    let one_from : Result (Option PlaceParts × List ℕ) SpellingFault = cond (eqb b.0.0 1) (last_from last b.0.1) two_from in
    ⊎_elim
    (λ none. subst (IsTaken last bytes) (ok_is (None, b.0.1) x none.1) (subst (λ s. Takes bytes (s ∷ []) b.0.1) (eqb-true _ _ none.0) t.0, tt))
    (λ some. ⊎_elim
    (λ one. last_takes last bytes b.0.1 x is (subst (λ s. Takes bytes (s ∷ []) b.0.1) (eqb-true _ _ one.0) t.0) one.1)
    (λ more. ⊎_elim
    (λ other. other_takes last bytes b.0.1 x (subst (λ s. Takes bytes (s ∷ []) b.0.1) (eqb-true _ _ other.0) t.0) other.1)
    (λ bad. let wrong = bad.1 in absurd cc)
    (chosen (eqb b.0.0 2) (place_at b.0.1 >>= other_from last) (Err fault.Number) (Ok x) more.1))
    (chosen (eqb b.0.0 1) (last_from last b.0.1) two_from (Ok x) some.1))
    (chosen (eqb b.0.0 0) (Ok (None, b.0.1)) one_from (Ok x) b.2)

last_again : (last : Option PlaceParts) (p : PlaceParts) (rest : List ℕ) → is_last last p ≡ true → last_from last rest ≡ Ok (Some p, rest)
last_again None p rest same = absurd cc
last_again (Some q) p rest same = ap (λ (z : PlaceParts). Ok (Some z, rest)) (place_cmp-IsAntisymmetric q p (is_equal _ same))

bound_again : (last : Option PlaceParts) (b : Option PlaceParts) (rest : List ℕ) → IsBound b
    → bound_at last (bound last b ++ rest) ≡ Ok (b, rest)
unfolding bound_at
bound_again last None rest fits = refl
bound_again last (Some p) rest fits = by (is_last last p) refl
  where
    by : (same : Bool) → is_last last p ≡ same → bound_at last (cond same (1 ∷ []) (2 ∷ place p) ++ rest) ≡ Ok (Some p, rest)
    by true e = last_again last p rest e
    by false e =
        ap (λ (r : Result (PlaceParts × List ℕ) SpellingFault). r >>= other_from last) (place_field.again p rest fits)
        ∙ ap (λ (b : Bool). cond b (Err fault.Order) (Ok (Some p, rest))) e

bound_field : (last : Option PlaceParts) → IsBound last → IsField (bound_at last) (bound last) IsBound
bound_field last is = record { takes = bound_takes last is; again = bound_again last }

-- ---- ranges

abbrev until_from : Option PlaceParts → Option PlaceParts × List ℕ → Result (Range × List ℕ) SpellingFault
until_from from until = Ok (record { from = from; until = until.0 }, until.1)

abbrev range_from : Option PlaceParts × List ℕ → Result (Range × List ℕ) SpellingFault
range_from from = bound_at from.0 from.1 >>= until_from from.0

range_takes : (last : Option PlaceParts) → IsBound last → (bytes : List ℕ) (x : Range × List ℕ) → IsBytes bytes
    → range_at last bytes ≡ Ok x → Takes bytes (range last x.0) x.1 × IsRange x.0
unfolding range_at
range_takes last is bytes x fits e =
    let a = bind_ok (bound_at last bytes) range_from x e in
    let first = (bound_field last is).takes bytes a.0 fits a.1 in
    let b = bind_ok (bound_at a.0.0 a.0.1) (until_from a.0.0) x a.2 in
    let second = (bound_field a.0.0 first.1).takes a.0.1 b.0 first.0.rest_fits b.1 in
    let made : Range × List ℕ = (record { from = a.0.0; until = b.0.0 }, b.0.1) in
    subst (λ (y : Range × List ℕ). Takes bytes (range last y.0) y.1 × IsRange y.0) (ok_is made x b.2)
    (Takes-then bytes (bound last a.0.0) a.0.1 (bound a.0.0 b.0.0) b.0.1 first.0 second.0, record { from = first.1; until = second.1 })

range_again : (last : Option PlaceParts) (r : Range) (rest : List ℕ) → IsRange r → range_at last (range last r ++ rest) ≡ Ok (r, rest)
unfolding range_at
range_again last r rest fits =
    ap (λ (l : List ℕ). bound_at last l >>= range_from) (append_assoc (bound last r.from) (bound r.from r.until) rest)
    ∙ ap (λ (b : Result (Option PlaceParts × List ℕ) SpellingFault). b >>= range_from) (bound_again last r.from (bound r.from r.until ++ rest) fits.from)
    ∙ ap (λ (b : Result (Option PlaceParts × List ℕ) SpellingFault). b >>= until_from r.from) (bound_again r.from r.until rest fits.until)

range_field : (last : Option PlaceParts) → IsBound last → IsField (range_at last) (range last) IsRange
range_field last is = record { takes = range_takes last is; again = range_again last }

-- ---- prints and asks

print_field : (last : Option PlaceParts) → IsBound last → IsField (print_at last) (print last) (IsPrint last)
unfolding print_at
print_field last is = two (range_at last) (range last) IsRange number_at number (λ n. n < 2 ^ 64) (print last) (IsPrint last) (λ r n. record { range = r; print = n }) (range_field last is) number_field
    (record {
      first = λ it. it.range;
      second = λ it. it.print;
      whole = λ it. refl;
      spelled = λ a b. refl;
      fits = λ a b p q. record { range = p; print = q };
      first_fits = λ it r. r.range;
      second_fits = λ it r. r.print;
    })

prints_field : IsField prints_at prints ArePrints
prints_field = chained_field print_at print print_tells IsPrint IsBound print_field (λ last it fits. fits.range.until) None tt

pub version_list_field : IsField (list_at place_cmp place_at version_at) (pairs place version) (ArePairs place_cmp IsPlace IsVersion)
version_list_field = list_field place_cmp place_cmp_total place_at place IsPlace version_at version IsVersion place_field version_field

versions_field : IsField versions_at (λ d. pairs place version (finmap.entries d)) HasVersionSpelling
unfolding versions_at
versions_field = seen (list_at place_cmp place_at version_at) (pairs place version) (ArePairs place_cmp IsPlace IsVersion) (λ (d : VersionMap). pairs place version (finmap.entries d)) HasVersionSpelling (λ vs. finmap.from_sorted vs)
    version_list_field
    (record {
      back = λ d. finmap.entries d;
      whole = λ d. finmap.same_entries_map (finmap.from_sorted (finmap.entries d)) d (finmap.entries-from_sorted place_cmp (finmap.entries d) (finmap.entries_sorted d));
      spelled = λ vs are. ap (pairs place version) (finmap.entries-from_sorted place_cmp vs (to_T _ are.ascending));
      fits = λ vs are. subst (ArePairs place_cmp IsPlace IsVersion) (sym (finmap.entries-from_sorted place_cmp vs (to_T _ are.ascending))) are;
      plain = λ d are. are;
    })

ask_field : (last : Option PlaceParts) → IsBound last → IsField (ask_at last) (ask last) (IsAsk last)
unfolding ask_at
ask_field last is = two (range_at last) (range last) IsRange versions_at (λ d. pairs place version (finmap.entries d)) HasVersionSpelling (ask last) (IsAsk last) (λ r d. record { range = r; versions = d }) (range_field last is) versions_field
    (record {
      first = λ it. it.range;
      second = λ it. it.versions;
      whole = λ it. refl;
      spelled = λ a b. refl;
      fits = λ a b p q. record { range = p; versions = q };
      first_fits = λ it r. r.range;
      second_fits = λ it r. r.versions;
    })

asks_field : IsField asks_at asks AreAsks
asks_field = chained_field ask_at ask ask_tells IsAsk IsBound ask_field (λ last it fits. fits.range.until) None tt

-- ---- what a side says of itself

abbrev IsMark : List ℕ → Type 0
IsMark mark = length mark ≡ 16

mark_field : IsField mark_at (λ mark. mark) IsMark
unfolding mark_at
mark_field = record {
  takes = λ bytes x fits e. cut_taken 16 bytes x.0 x.1 fits e;
  again = λ mark rest is. ap (λ (n : ℕ). cut_at n (mark ++ rest)) (sym is) ∙ cut_back mark rest;
}

abbrev IsWriter : ℕ → Type 0
IsWriter w = w < 2 ^ 32

writer_field : IsField writer_at number IsWriter
unfolding writer_at
writer_field = passed number_at number (λ n. n < 2 ^ 64) IsWriter (λ w. ltb w (2 ^ 32)) fault.Number number_field
    (record { fits = λ w fits is. ltb-true _ _ is; plain = λ w is. omega (arith, is); passes = λ w is. lt-ltb _ _ is })

peer_field : IsField peer_at peer IsPeer
unfolding peer_at
peer_field = two mark_at (λ mark. mark) IsMark writer_at number IsWriter peer IsPeer (λ m w. record { mark = m; writer = w }) mark_field writer_field
    (record {
      first = λ p. p.mark;
      second = λ p. p.writer;
      whole = λ p. refl;
      spelled = λ a b. refl;
      fits = λ a b p q. record { mark = p; writer = q };
      first_fits = λ p r. r.mark;
      second_fits = λ p r. r.writer;
    })

peer_after_field : (last : Option Peer) → Unit {0} → IsField (key_above_at peer_cmp peer_at last) peer (IsPeerAfter last)
unfolding key_above_at
peer_after_field last told = passed peer_at peer IsPeer (IsPeerAfter last) (is_next last) fault.Order peer_field
    (record { fits = λ p is next. record { peer = is; next = next }; plain = λ p is. is.peer; passes = λ p is. is.next })

pub peers_field : IsField peers_at peers ArePeers
peers_field = chained_field (key_above_at peer_cmp peer_at) (λ last p. peer p) (λ p. Some p) IsPeerAfter (λ last. Unit {0}) peer_after_field (λ last p fits. tt) None tt

abbrev seed_peers : ℕ × List Peer → List ℕ
seed_peers it = number it.0 ++ peers it.1

abbrev AreSeedPeers : ℕ × List Peer → Type 0
AreSeedPeers it = (it.0 < 2 ^ 64) × ArePeers it.1

seed_peers_field : IsField seed_peers_at seed_peers AreSeedPeers
unfolding seed_peers_at
seed_peers_field = two number_at number (λ n. n < 2 ^ 64) peers_at peers ArePeers seed_peers AreSeedPeers (λ a b. (a, b)) number_field peers_field
    (record { first = λ c. c.0; second = λ c. c.1; whole = λ c. refl; spelled = λ a b. refl; fits = λ a b p q. (p, q); first_fits = λ c r. r.0; second_fits = λ c r. r.1 })

abbrev writer_mark : ℕ × List ℕ → List ℕ
writer_mark it = number it.0 ++ it.1

abbrev AreWriterMark : ℕ × List ℕ → Type 0
AreWriterMark it = IsWriter it.0 × IsMark it.1

writer_mark_field : IsField writer_mark_at writer_mark AreWriterMark
unfolding writer_mark_at
writer_mark_field = two writer_at number IsWriter mark_at (λ mark. mark) IsMark writer_mark AreWriterMark (λ a b. (a, b)) writer_field mark_field
    (record { first = λ c. c.0; second = λ c. c.1; whole = λ c. refl; spelled = λ a b. refl; fits = λ a b p q. (p, q); first_fits = λ c r. r.0; second_fits = λ c r. r.1 })

own_field : IsField own_at own IsHello
unfolding own_at
own_field = two writer_mark_at writer_mark AreWriterMark seed_peers_at seed_peers AreSeedPeers own IsHello (λ a b. record { writer = a.0; mark = a.1; seed = b.0; peers = b.1 }) writer_mark_field seed_peers_field
    (record {
      first = λ h. (h.writer, h.mark);
      second = λ h. (h.seed, h.peers);
      whole = λ h. refl;
      spelled = λ a b. refl;
      fits = λ a b p q. record { writer = p.0; mark = p.1; seed = q.0; peers = q.1 };
      first_fits = λ h r. (r.writer, r.mark);
      second_fits = λ h r. (r.seed, r.peers);
    })

abbrev IsHelloTaken : List ℕ → Option Hello × List ℕ → Type 0
IsHelloTaken bytes x = Takes bytes (hello x.0) x.1 × IsHelloOrNone x.0

hello_takes : (bytes : List ℕ) (x : Option Hello × List ℕ) → IsBytes bytes → hello_at bytes ≡ Ok x → IsHelloTaken bytes x
unfolding hello_at
hello_takes bytes x fits e =
    let b = bind_ok (byte_at bytes) hello_from x e in
    let t = byte_taken bytes b.0.0 b.0.1 fits b.1 in
    let one_from : Result (Option Hello × List ℕ) SpellingFault = cond (eqb b.0.0 1) (own_at b.0.1 >>= some_own) (Err fault.Number) in
    ⊎_elim
    (λ none. subst (IsHelloTaken bytes) (ok_is (None, b.0.1) x none.1) (subst (λ s. Takes bytes (s ∷ []) b.0.1) (eqb-true _ _ none.0) t.0, tt))
    (λ some. ⊎_elim
    (λ one.
    let h = bind_ok (own_at b.0.1) some_own x one.1 in
    let u = own_field.takes b.0.1 h.0 t.0.rest_fits h.1 in
    subst (IsHelloTaken bytes) (ok_is (Some h.0.0, h.0.1) x h.2)
    (Takes-then bytes (1 ∷ []) b.0.1 (own h.0.0) h.0.1 (subst (λ s. Takes bytes (s ∷ []) b.0.1) (eqb-true _ _ one.0) t.0) u.0, u.1))
    (λ bad. let wrong = bad.1 in absurd cc)
    (chosen (eqb b.0.0 1) (own_at b.0.1 >>= some_own) (Err fault.Number) (Ok x) some.1))
    (chosen (eqb b.0.0 0) (Ok (None, b.0.1)) one_from (Ok x) b.2)

hello_again : (h : Option Hello) (rest : List ℕ) → IsHelloOrNone h → hello_at (hello h ++ rest) ≡ Ok (h, rest)
unfolding hello_at
hello_again None rest is = refl
hello_again (Some h) rest is = ap (λ (r : Result (Hello × List ℕ) SpellingFault). r >>= some_own) (own_field.again h rest is)

hello_field : IsField hello_at hello IsHelloOrNone
hello_field = record { takes = hello_takes; again = hello_again }

-- ---- a piece, and whether more frames come

pub scopes_field : IsField (list_at scope_cmp scope_at (group_at path_cmp path_at entry_at)) (pairs scope (pairs path entry)) AreScoped
scopes_field = list_field scope_cmp scope_cmp_total scope_at scope IsScope (group_at path_cmp path_at entry_at) (pairs path entry) (AreGroup path_cmp IsPath IsEntry) scope_field entry_group

piece_field : IsField piece_at piece HasSpelling
unfolding piece_at
piece_field = seen (list_at scope_cmp scope_at (group_at path_cmp path_at entry_at)) (pairs scope (pairs path entry)) AreScoped piece HasSpelling (λ gs. finmap.from_sorted (flattened gs)) scopes_field
    (record {
      back = λ s. parted (finmap.entries s);
      whole = λ s. again s;
      spelled = λ gs are. ap (pairs scope (pairs path entry)) (same gs are);
      fits = λ gs are. subst AreScoped (sym (same gs are)) are;
      plain = λ s are. are;
    })
  where
    again : (s : EntryMap) → finmap.from_sorted {R = place_cmp} (flattened (parted (finmap.entries s))) ≡ s
    again s =
        ap (λ (es : List (PlaceParts × Entry)). finmap.from_sorted {R = place_cmp} es) (flattened-parted (finmap.entries s))
        ∙ finmap.same_entries_map (finmap.from_sorted (finmap.entries s)) s (finmap.entries-from_sorted place_cmp (finmap.entries s) (finmap.entries_sorted s))

    same : (gs : List Scoped) → AreScoped gs → parted (finmap.entries (finmap.from_sorted {R = place_cmp} (flattened gs))) ≡ gs
    same gs are = ap parted (finmap.entries-from_sorted place_cmp (flattened gs) (to_T _ (flattened_sorted gs are))) ∙ parted-flattened gs are.ascending are.each

abbrev IsFlagTaken : List ℕ → Bool × List ℕ → Type 0
IsFlagTaken bytes x = Takes bytes (flag x.0) x.1 × Unit {0}

flag_takes : (bytes : List ℕ) (x : Bool × List ℕ) → IsBytes bytes → flag_at bytes ≡ Ok x → IsFlagTaken bytes x
unfolding flag_at
flag_takes bytes x fits e =
    let b = bind_ok (byte_at bytes) flag_from x e in
    let t = byte_taken bytes b.0.0 b.0.1 fits b.1 in
    ⊎_elim
    (λ unset. subst (IsFlagTaken bytes) (ok_is (false, b.0.1) x unset.1) (subst (λ s. Takes bytes (s ∷ []) b.0.1) (eqb-true _ _ unset.0) t.0, tt))
    (λ some. ⊎_elim
    (λ one. subst (IsFlagTaken bytes) (ok_is (true, b.0.1) x one.1) (subst (λ s. Takes bytes (s ∷ []) b.0.1) (eqb-true _ _ one.0) t.0, tt))
    (λ bad. let wrong = bad.1 in absurd cc)
    (chosen (eqb b.0.0 1) (Ok (true, b.0.1)) (Err fault.Number) (Ok x) some.1))
    (chosen (eqb b.0.0 0) (Ok (false, b.0.1)) (cond (eqb b.0.0 1) (Ok (true, b.0.1)) (Err fault.Number)) (Ok x) b.2)

flag_again : (b : Bool) (rest : List ℕ) → Unit {0} → flag_at (flag b ++ rest) ≡ Ok (b, rest)
unfolding flag_at
flag_again true rest is = refl
flag_again false rest is = refl

flag_field : IsField flag_at flag (λ b. Unit {0})
flag_field = record { takes = flag_takes; again = flag_again }

-- ---- frames

abbrev prints_asks : List RangePrint × List RangeAsk → List ℕ
prints_asks it = prints it.0 ++ asks it.1

abbrev ArePrintsAsks : List RangePrint × List RangeAsk → Type 0
ArePrintsAsks it = ArePrints it.0 × AreAsks it.1

prints_asks_field : IsField prints_asks_at prints_asks ArePrintsAsks
unfolding prints_asks_at
prints_asks_field = two prints_at prints ArePrints asks_at asks AreAsks prints_asks ArePrintsAsks (λ a b. (a, b)) prints_field asks_field
    (record { first = λ c. c.0; second = λ c. c.1; whole = λ c. refl; spelled = λ a b. refl; fits = λ a b p q. (p, q); first_fits = λ c r. r.0; second_fits = λ c r. r.1 })

abbrev piece_flag : EntryMap × Bool → List ℕ
piece_flag it = piece it.0 ++ flag it.1

abbrev ArePieceFlag : EntryMap × Bool → Type 0
ArePieceFlag it = HasSpelling it.0 × Unit {0}

piece_flag_field : IsField piece_flag_at piece_flag ArePieceFlag
unfolding piece_flag_at
piece_flag_field = two piece_at piece HasSpelling flag_at flag (λ b. Unit {0}) piece_flag ArePieceFlag (λ a b. (a, b)) piece_field flag_field
    (record { first = λ c. c.0; second = λ c. c.1; whole = λ c. refl; spelled = λ a b. refl; fits = λ a b p q. (p, q); first_fits = λ c r. r.0; second_fits = λ c r. r.1 })

abbrev Told : Type 0
Told = (List RangePrint × List RangeAsk) × (EntryMap × Bool)

abbrev told : Told → List ℕ
told it = prints_asks it.0 ++ piece_flag it.1

abbrev AreTold : Told → Type 0
AreTold it = ArePrintsAsks it.0 × ArePieceFlag it.1

told_field : IsField told_at told AreTold
unfolding told_at
told_field = two prints_asks_at prints_asks ArePrintsAsks piece_flag_at piece_flag ArePieceFlag told AreTold (λ a b. (a, b)) prints_asks_field piece_flag_field
    (record { first = λ c. c.0; second = λ c. c.1; whole = λ c. refl; spelled = λ a b. refl; fits = λ a b p q. (p, q); first_fits = λ c r. r.0; second_fits = λ c r. r.1 })

pub fields_field : IsField fields_at fields HasFrameSpelling
unfolding fields_at
fields_field = two hello_at hello IsHelloOrNone told_at told AreTold fields HasFrameSpelling (λ h t. record { hello = h; prints = t.0.0; asks = t.0.1; piece = t.1.0; more = t.1.1 }) hello_field told_field
    (record {
      first = λ f. f.hello;
      second = λ f. ((f.prints, f.asks), (f.piece, f.more));
      whole = λ f. refl;
      spelled = λ a b. refl;
      fits = λ a b p q. record { hello = p; prints = q.0.0; asks = q.0.1; piece = q.1.0 };
      first_fits = λ f r. r.hello;
      second_fits = λ f r. ((r.prints, r.asks), (r.piece, tt));
    })
