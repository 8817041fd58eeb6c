-- What is read is spelled so, and what is spelled so is read.
use Rattle.std.proofs.Common.{◌≡◌, ◌<◌, ◌^◌, ◌++◌, ◌∷◌, ℕ, [], List, length, IsTrue, true, Option, None, Some, Result, Ok, Err, refl, sym, ap, subst, ◌∙◌}
use Rattle.std.specs.FinMap as finmap
use Rattle.std.specs.FinMap.{is_sorted}
use Rattle.std.specs.List.{AllByRecursion, flat_map}
use Rattle.std.specs.Prelude.{IfOk}
use Rattle.std.proofs.lemmas.List.Concat.{flat_map-cons}
use Rattle.list_laws.specs.{Orderings.{is_equal}, Truths.{to_T}}
use Rattle.byte_fields.specs.declared.faults.SpellingFault.{SpellingFault}
use Rattle.byte_fields.specs.declared.faults.DecodeFault.{DecodeFault}
use Rattle.byte_fields.specs.declared.faults.DecodeFault.TheVariants as decode
use Rattle.byte_fields.specs.Laws.{IsBytes}
use Rattle.byte_fields.specs.Reading.{◌>>=◌, Fails, Gives}
use Rattle.byte_fields.specs.Spelling.{number}
use Rattle.join_law.specs.declared.versions.Version.{Version}
use Rattle.load_places.specs.Places.{place_cmp, PlaceParts}
use Rattle.load_places.specs.PlaceLaws.{place_cmp-IsAntisymmetric}
use Rattle.world_law.specs.Cuts.{VersionMap}
use Rattle.store_bytes.specs.ListReading.{list_at}
use Rattle.store_bytes.specs.Reading.{place_at, version_at}
use Rattle.exchange_bytes.specs.Chains.{chain, IsChain}
use Rattle.exchange_bytes.specs.FrameLaws.{frame_again, frame_taken}
use Rattle.exchange_bytes.specs.Frames.{FrameParts}
use Rattle.exchange_bytes.specs.PartLaws.{peers_field, version_list_field}
use Rattle.exchange_bytes.specs.Peers.{AreAscending}
use Rattle.exchange_bytes.specs.Reading.{frame_in, peers_at, versions_at}
use Rattle.exchange_bytes.specs.Spelling.{ArePeers, frame_spelling, HasFrameSpelling, IsBound, is_last, IsPeer, IsPeerAfter, peer, peers}
use Rattle.exchange_bytes.specs.declared.peers.Peer.{Peer}

-- ---- versions

pub versions_sorted : (bytes : List ℕ) (vs : List (PlaceParts × Version)) (rest : List ℕ) → IsBytes bytes → list_at place_cmp place_at version_at bytes ≡ Ok (vs, rest) → IsTrue (is_sorted place_cmp vs)
versions_sorted bytes vs rest fits e = (version_list_field.takes bytes (vs, rest) fits e).1.ascending

pub versions_read : (bytes : List ℕ) (vs : List (PlaceParts × Version)) (rest : List ℕ) (d : VersionMap) → IsBytes bytes → list_at place_cmp place_at version_at bytes ≡ Ok (vs, rest) → finmap.entries d ≡ vs → versions_at bytes ≡ Ok (d, rest)
unfolding versions_at
versions_read bytes vs rest d fits e held =
    let sorted = finmap.entries-from_sorted place_cmp vs (to_T _ (versions_sorted bytes vs rest fits e)) in
    ap (λ (r : Result (List (PlaceParts × Version) × List ℕ) SpellingFault). r >>= λ versions. Ok (finmap.from_sorted {R = place_cmp} versions.0, versions.1)) e
    ∙ ap (λ (m : VersionMap). Ok (m, rest)) (finmap.same_entries_map (finmap.from_sorted {R = place_cmp} vs) d (sorted ∙ sym held))

pub versions_fail : (bytes : List ℕ) (e : DecodeFault) → Fails e (list_at place_cmp place_at version_at bytes) → Fails e (versions_at bytes)
unfolding versions_at
versions_fail bytes decode.Memory h = tt
versions_fail bytes (decode.Fault d) h = ap (λ (r : Result (List (PlaceParts × Version) × List ℕ) SpellingFault). r >>= λ versions. Ok (finmap.from_sorted {R = place_cmp} versions.0, versions.1)) h

-- ---- peers

ascends : (last : Option Peer) (ps : List Peer) → IsChain IsPeerAfter (λ p. Some p) last ps → AreAscending last ps
ascends last [] each = tt
ascends last (p ∷ ps) each = (each.0.next, ascends (Some p) ps each.1)

pub peers_ascend : (bytes : List ℕ) (ps : List Peer) (rest : List ℕ) → IsBytes bytes → peers_at bytes ≡ Ok (ps, rest) → AreAscending None ps
peers_ascend bytes ps rest fits e = ascends None ps (peers_field.takes bytes (ps, rest) fits e).1.each

same_text : (last : Option Peer) (ps : List Peer) → chain (λ last p. peer p) (λ p. Some p) last ps ≡ flat_map peer ps
same_text last [] = refl
same_text last (p ∷ ps) = ap (λ (l : List ℕ). peer p ++ l) (same_text (Some p) ps) ∙ sym (flat_map-cons peer p ps)

pub peers_text : (ps qs : List Peer) → qs ≡ ps → number (length qs) ++ flat_map peer qs ≡ peers ps
peers_text ps qs same = ap (λ (l : List Peer). number (length l) ++ flat_map peer l) same ∙ ap (λ (l : List ℕ). number (length ps) ++ l) (sym (same_text None ps))

fit_after : (last : Option Peer) (ps : List Peer) → AllByRecursion IsPeer ps → AreAscending last ps → IsChain IsPeerAfter (λ p. Some p) last ps
fit_after last [] fit up = tt
fit_after last (p ∷ ps) fit up = (record { peer = fit.0; next = up.0 }, fit_after (Some p) ps fit.1 up.1)

pub peers_fit : (ps qs : List Peer) → qs ≡ ps → length qs < 2 ^ 64 → AllByRecursion IsPeer qs → AreAscending None qs → ArePeers ps
peers_fit ps qs same few fit up = subst (λ (l : List Peer). ArePeers l) same (record { count = few; each = fit_after None qs fit up })

-- ---- bounds

pub last_fits : (last : Option PlaceParts) (p : PlaceParts) → is_last last p ≡ true → IsBound last → IsBound (Some p)
last_fits None p same fits = absurd cc
last_fits (Some q) p same fits = subst (λ (z : PlaceParts). IsBound (Some z)) (place_cmp-IsAntisymmetric q p (is_equal _ same)) fits

-- ---- frames

pub frame_found : {X : Type 0} (view : X → FrameParts) (bytes : List ℕ) (r : Result X DecodeFault) → IsBytes bytes → Gives view r (frame_in bytes) → IfOk r (λ x. HasFrameSpelling (view x) × (bytes ≡ frame_spelling (view x)))
frame_found view bytes (Ok x) fits e = frame_taken bytes (view x) fits e
frame_found view bytes (Err d) fits e = tt

pub frame_only : {X : Type 0} (view : X → FrameParts) (bytes : List ℕ) (r : Result X DecodeFault) → Gives view r (frame_in bytes) → (f : FrameParts) → HasFrameSpelling f → bytes ≡ frame_spelling f → Gives view r (Ok f)
frame_only view bytes (Err decode.Memory) e f is same = tt
frame_only view bytes (Err (decode.Fault d)) e f is same =
    let wrong : Err d ≡ Ok f = sym e ∙ ap frame_in same ∙ frame_again f is in
    absurd cc
frame_only view bytes (Ok x) e f is same = sym (ap frame_in same ∙ frame_again f is) ∙ e
