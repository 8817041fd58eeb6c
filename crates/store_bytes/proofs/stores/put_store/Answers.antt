use Rattle.std.proofs.Common.{◌<◌, ◌^◌, ◌∙◌, ◌≡◌, arith, length, List, subst}
use Rattle.std.specs.FinMap as finmap
use Rattle.list_laws.specs.Truths.{from_T}
use Rattle.load_places.specs.Places.{PlaceParts}
use Rattle.edit_sums.specs.Entries.{Entry}
use Rattle.store_bytes.specs.Parts.{parted}
use Rattle.store_bytes.specs.PartingLaws.{AreFit, parts_scoped}
use Rattle.store_bytes.proofs.stores.put_store.Goals as goal

pub returns-clause-spelled : goal.returns-clause-spelled
returns-clause-spelled c =
    let same : c.deref.result.now ≡ finmap.entries c.args.store.now = c.deref.ensures.value ∙ c.in_ok-list.ensures.entries in
    let fit : AreFit (parted (finmap.entries c.args.store.now)) = subst (λ (l : List (PlaceParts × Entry)). AreFit (parted l)) same c.in_ok-put_scopes.ensures.fits in
    let few : length c.deref.result.now < 2 ^ 64 = omega arith in
    parts_scoped (finmap.entries c.args.store.now) (from_T _ (finmap.entries_sorted c.args.store.now)) fit (subst (λ (l : List (PlaceParts × Entry)). length l < 2 ^ 64) same few)
