use Rattle.fleet_answers.proofs.{Prelude.{AreKnown, IsKnown, IsOfGraph, LoadMap, names_asked, Question, subst, sym}, Returned.{known_one, of_graph}}
use Rattle.fleet_answers.proofs.snapshots.Snapshot.answer.Goals as goal

pub linked_unit-requires-clause-known : goal.linked_unit-requires-clause-known
linked_unit-requires-clause-known c =
    let P : Question → Type 0 = λ q. AreKnown c.args.self.now (names_asked q) in
    let Q : LoadMap → Type 0 = λ l. IsKnown l c.in-Unit.name in
    subst Q (sym c.self.view_is) (known_one c.args.self.now c.in-Unit.name (subst P c.in-Unit.is c.requires.known))

pub pulled-requires-clause-known : goal.pulled-requires-clause-known
pulled-requires-clause-known c =
    let P : Question → Type 0 = λ q. AreKnown c.args.self.now (names_asked q) in
    let Q : LoadMap → Type 0 = λ l. IsKnown l c.in-Pulled.name in
    subst Q (sym c.self.view_is) (known_one c.args.self.now c.in-Pulled.name (subst P c.in-Pulled.is c.requires.known))

pub planned-requires-clause-names : goal.planned-requires-clause-names
planned-requires-clause-names c =
    let P : Question → Type 0 = λ q. AreKnown c.args.self.now (names_asked q) in
    let Q : LoadMap → Type 0 = λ l. IsOfGraph l c.in-Plan.request in
    subst Q (sym c.self.view_is) (of_graph c.args.self.now c.in-Plan.request (subst P c.in-Plan.is c.requires.known))
