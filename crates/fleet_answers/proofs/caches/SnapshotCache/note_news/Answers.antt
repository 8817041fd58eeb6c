use Rattle.fleet_answers.proofs.{Prelude.{List, PlaceParts, ShowTheSameBut, subst, sym}, Touched.{but_news}}
use Rattle.fleet_answers.proofs.caches.SnapshotCache.note_news.Goals as goal

pub returns-in-Ok : goal.returns-in-Ok
returns-in-Ok c = record {
  noted = λ t kept within all.
      let s = c.args.store.now in
      c.note.ensures.noted s t
      (subst (λ (ps : List PlaceParts). ShowTheSameBut ps s t) (sym c.deref.ensures.value)
      (but_news s t c.args.other.now kept within c.in-Ok.places.items c.in-Ok.ensures.exact)) all;
}
