use Rattle.std.proofs.Common.{◌+◌, ◌≡◌}
use Rattle.delta_pieces.proofs.Prelude.{ap, cut, digest_of, is_sorted, IsTrue, List, only_at, place_cmp, PlaceParts, Some, subst, sym, take, take_all, Version, ◌∙◌}
use Rattle.delta_pieces.proofs.{asks.digest_at.Goals.{in-Some+in_ok-put_version, in_default}, AtPlaces.{put_ascends, recorded_is_digest, Records, records_past, records_with, same_cut}}
use Rattle.delta_pieces.proofs.asks.digest_at.Goals as goal

pub loop-place-preserved : goal.loop-place-preserved
loop-place-preserved c =
    let store = c.args.replica.now.store in
    let places = c.args.places.now in
    let i = c.loop-place.place-index in
    let before = c.loop-place.versions.items in
    let place = c.place-item.result in
    elim c.match-get.branch [
      | in-Some+in_ok-put_version w ↦
          let held = rw c.store.ensures.store at (sym w.in-Some.ensures.held) in
          let now = ap (λ v. v.items) w.versions-is ∙ w.in_ok-put_version.ensures.put in
          record {
            sorted = subst (λ (es : List (PlaceParts × Version)). IsTrue (is_sorted place_cmp es)) (sym now) (put_ascends place w.in-Some.entry.now.version before c.loop-place.invariant.sorted);
            records = subst (Records store (take (i + 1) places)) (sym now) (records_with store places i place c.loop-place-test.true c.place-item.is before w.in-Some.entry.now c.loop-place.invariant.records held);
          }
      | in_default w ↦
          let none = rw c.store.ensures.store at (sym w.in_default.ensures.held) in
          let now = ap (λ v. v.items) w.versions-is in
          record {
            sorted = subst (λ (es : List (PlaceParts × Version)). IsTrue (is_sorted place_cmp es)) (sym now) c.loop-place.invariant.sorted;
            records = subst (Records store (take (i + 1) places)) (sym now) (records_past store places i place c.loop-place-test.true c.place-item.is before c.loop-place.invariant.records none);
          }
    ]

is_digest : (c : goal.After-from_versions) → c.from_versions.result ≡ digest_of (only_at c.args.places.now c.args.replica.now.store)
is_digest c =
    let store = c.args.replica.now.store in
    let records = subst (λ ps. Records store ps c.loop-place.versions.items) (take_all c.loop-place.place-index c.args.places.now c.loop-place-test.false) c.loop-place.invariant.records in
    recorded_is_digest store c.args.places.now c.from_versions.result c.loop-place.versions.items c.from_versions.ensures.versions records

pub returns-clause-digest : goal.returns-clause-digest
returns-clause-digest c = is_digest c

pub returns-clause-same_cut : goal.returns-clause-same_cut
returns-clause-same_cut c = λ s. ap (λ ask. cut s ask (Some c.args.places.now)) (is_digest c) ∙ same_cut c.args.replica.now.store c.args.places.now s
